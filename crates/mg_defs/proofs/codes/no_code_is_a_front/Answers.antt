use Rattle.mg_defs.proofs.CodeLaws.{unary_free, gamma_free, short_free, golomb_free}
use Rattle.mg_defs.proofs.codes.no_code_is_a_front.Goals as goal

pub returns : goal.returns
returns c = record { unary = unary_free; gamma = gamma_free; short = short_free; golomb = golomb_free }
