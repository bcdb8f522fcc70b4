-- What the code's tokens are.
use Rattle.mg_defs.specs.Tokens.{Token as Meant, word, bar, amp, bang, opening, closing}
use Rattle.mg_query.specs.declared.lexer.Sign.{Sign}
use Rattle.mg_query.specs.declared.lexer.Sign.TheVariants.{Bar, Amp, Bang, Opening, Closing}
use Rattle.mg_query.specs.declared.lexer.Token.{Token}
use Rattle.mg_query.specs.declared.lexer.Token.TheVariants.{Word, Sign as Mark}

abbrev pub sign_token : Sign → Meant
sign_token Bar = bar
sign_token Amp = amp
sign_token Bang = bang
sign_token Opening = opening
sign_token Closing = closing

abbrev pub token_of : Token → Meant
token_of (Word w) = word w.now
token_of (Mark sign) = sign_token sign
