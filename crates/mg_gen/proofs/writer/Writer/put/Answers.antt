use Rattle.std.proofs.Common.{arith, rules, refl}
use Rattle.std.proofs.lemmas.Grind.{common_steps}
use Rattle.mg_defs.specs.Generator.{made_bytes}
use Rattle.mg_gen.proofs.writer.Writer.put.Goals as goal

pub returns-clause-made : goal.returns-clause-made
unfolding made_bytes
returns-clause-made c = record { bytes = first_of (search rules, grind (arith, common_steps)); state = refl }
