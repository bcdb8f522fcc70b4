use Rattle.std.proofs.Common.{◌≡◌, length}
use Rattle.mg_defs.specs.Refusals.{reads}
use Rattle.mg_query.specs.TokensLeft.{tokens_left}
use Rattle.mg_query.specs.Words.{terms_of}
use Rattle.mg_query.proofs.WordSteps.{words_from}
use Rattle.mg_query.proofs.words.read_words.Given as goal

abbrev pub invariant-tokens : goal.invariant-tokens
invariant-tokens l = terms_of l.repeats l.line ≡ words_from l.repeats (reads l.terms) (tokens_left l.lexer)

abbrev pub decreases-tokens : goal.decreases-tokens
decreases-tokens l = length (tokens_left l.lexer)
