use Rattle.std.proofs.Common.{◌≡◌, length}
use Rattle.mg_query.specs.TokensLeft.{tokens_left}
use Rattle.mg_query.proofs.lexer.Lexer.next.Given as goal

abbrev pub invariant-bytes : goal.invariant-bytes
invariant-bytes l = tokens_left l.fn.self ≡ tokens_left l.self

abbrev pub decreases-bytes : goal.decreases-bytes
decreases-bytes l = length l.self.rest.now
