-- The tokens that a lexer has not given yet.
use Rattle.std.specs.Prelude.{List}
use Rattle.mg_defs.specs.Tokens.{PlacedToken as Meant, tokens_from}
use Rattle.mg_query.specs.declared.lexer.Placed.{Placed}
use Rattle.mg_query.specs.declared.lexer.Lexer.{Lexer}
use Rattle.mg_query.specs.TokenOf.{token_of}

abbrev pub placed_of : Placed → Meant
placed_of p = record { token = token_of p.token; at = p.at }

abbrev pub tokens_left : Lexer → List Meant
tokens_left l = tokens_from l.at l.rest.now
