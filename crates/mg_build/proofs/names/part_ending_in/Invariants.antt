use Rattle.std.proofs.Common.{◌≢◌, ◌<◌}
use Rattle.mg_dev.specs.Names.{ending, number}
use Rattle.mg_dev.specs.declared.part.Part.{Part as AnyPart}
use Rattle.mg_dev.specs.declared.part.Part.TheVariants.{Plain}
use Rattle.mg_build.proofs.names.part_ending_in.Given as goal

abbrev pub invariant-loop-part : goal.invariant-loop-part
invariant-loop-part l = (p : AnyPart) → p ≢ Plain → number p < l.part-index → l.end ≢ ending p
