use Rattle.std.proofs.Common.{arith, ◌∙◌, ap}
use Rattle.std.proofs.lemmas.List.{take_all}
use Rattle.mg_defs.specs.Numbers.{four}
use Rattle.mg_defs.proofs.NumberLaws.{four_read}
use Rattle.mg_front.proofs.reader.number_of.Goals as goal

pub returns : goal.returns
returns c = ap four c.four_at.ensures ∙ four_read c.args.bytes.now 0 c.fits-bytes (omega (arith, c.told-bytes)) ∙ take_all 4 c.args.bytes.now (omega (arith, c.told-bytes))
