use Rattle.std.proofs.Common.{arith, ◌+◌}
use Rattle.mg_dev.specs.Files.{bytes_at}
use Rattle.mg_dev.specs.Names.{full_name}
use Rattle.mg_wild.proofs.LoadLaws.{counted-bytes, few-bytes, too-many}
use Rattle.mg_wild.proofs.terms_to_load.most_bytes.Goals as goal

pub returns-then-count-le-FEW_TERMS-clause-answer : goal.returns-then-count-le-FEW_TERMS-clause-answer
returns-then-count-le-FEW_TERMS-clause-answer g c = λ told. few-bytes _ c.args.count _ (omega arith)

pub returns-then-rotations-gt-MOST_ROTATIONS-clause-answer :
    goal.returns-then-rotations-gt-MOST_ROTATIONS-clause-answer
returns-then-rotations-gt-MOST_ROTATIONS-clause-answer g c = λ told.
    too-many (bytes_at (g.S.Store.files c.args.store.now) (full_name c.args.file.base.now c.args.file.part)) c.args.count c.in-Ok.size (c.in-Ok.size + c.from.result)
    (c.in-Ok.ensures.answer told) (omega (arith, c.from.ensures)) (omega arith)

pub returns-clause-answer : goal.returns-clause-answer
returns-clause-answer g c = λ told. counted-bytes _ c.args.count c.in-Ok.size (c.in-Ok.ensures.answer told)
