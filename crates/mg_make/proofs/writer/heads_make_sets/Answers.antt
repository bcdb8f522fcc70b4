use Rattle.std.proofs.Common.{arith, length}
use Rattle.mg_dev.specs.Names.{full_name}
use Rattle.mg_dev.specs.declared.part.Part.TheVariants.{Head}
use Rattle.mg_defs.specs.Heads.{head_bytes}
use Rattle.mg_defs.specs.Stands.{head_of}
use Rattle.mg_make.proofs.HeadSteps.{grown_whole, left_here, stands_here}
use Rattle.mg_make.proofs.writer.heads_make_sets.Goals as goal

pub returns-clause-whole : goal.returns-clause-whole
returns-clause-whole c = λ base collection cap code before now is grew.
    let bytes = head_bytes (head_of 2 cap code collection) in
    stands_here base collection cap code before now (length bytes) is.told is.ready is.gone is.low is.high (grown_whole before now (full_name base Head) bytes grew) (omega arith)

pub returns-clause-left : goal.returns-clause-left
returns-clause-left c = λ base collection cap code before now is grew. left_here base collection cap code before now is.told is.ready is.gone is.low is.high grew
