use Rattle.std.proofs.Common.{sym}
use Rattle.mg_defs.proofs.TermLaws.{other_word}
use Rattle.mg_parse.proofs.bytes.is_term.Goals as goal

pub returns-then-word-term : goal.returns-then-word-term
returns-then-word-term c = sym (other_word _ _ c.if-word-term.true)
