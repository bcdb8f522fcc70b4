use Rattle.std.proofs.Common.{◌≡◌, true, get_or, rules}
use Rattle.mg_defs.specs.Parse.{is_word_byte}
use Rattle.mg_defs.proofs.TokenLaws.{tokens_run_of}
use Rattle.mg_query.proofs.lexer.lex.Goals as goal

pub returns-clause-tokens : goal.returns-clause-tokens
returns-clause-tokens c p =
    let is : is_word_byte (get_or c.args.text.now 0 0) ≡ true = search rules in
    rw (c.split_at.ensures.front) (tokens_run_of p c.args.text.now c.word_len-len.result c.requires is c.word_len-len.ensures.is)
