-- The tokens that a parser has not taken yet: the one in hand and those that its lexer gives.
use Rattle.std.specs.Prelude.{Option, Some, None, List, [], ◌∷◌}
use Rattle.mg_defs.specs.Tokens.{PlacedToken as Meant}
use Rattle.mg_query.specs.declared.lexer.Placed.{Placed}
use Rattle.mg_query.specs.declared.lexer.Lexer.{Lexer}
use Rattle.mg_query.specs.declared.parser.Parser.{Parser}
use Rattle.mg_query.specs.TokensLeft.{placed_of, tokens_left}

abbrev pub ahead_of : Option Placed → Lexer → List Meant
ahead_of None lexer = []
ahead_of (Some t) lexer = placed_of t ∷ tokens_left lexer

abbrev pub ahead : Parser → List Meant
ahead p = ahead_of p.hand p.lexer
