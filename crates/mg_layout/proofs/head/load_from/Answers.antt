use Rattle.std.proofs.Common.{arith, refl, inr}
use Rattle.mg_dev.specs.Files.{bytes_at}
use Rattle.mg_dev.specs.Names.{full_name}
use Rattle.mg_dev.specs.declared.part.Part.TheVariants as part
use Rattle.mg_layout.proofs.LoadFacts.{size_of_part, some_bytes, tells_short, read_agrees, one_read}
use Rattle.mg_layout.proofs.head.load_from.Goals as goal

pub returns-then-size-lt64-clause-answer : goal.returns-then-size-lt64-clause-answer
returns-then-size-lt64-clause-answer g c = λ told.
    let bytes = bytes_at (g.S.Store.files c.args.store.now) (full_name c.args.base.now part.Head) in
    let size = size_of_part (g.S.Store.files c.args.store.now) (full_name c.args.base.now part.Head) c.in-Ok.size c.unwrap_or-size.result (c.in-Ok.ensures.answer told) c.unwrap_or-size.ensures in (
      some_bytes bytes c.unwrap_or-size.result size (omega (arith, c.if-size-eq0.false)),
      record { part_is = refl; damage_is = tells_short c.args.low c.args.high c.unwrap_or-size.result bytes size c.if-size-lt64.true },
    )

pub returns-in-Ok-parse-clause-answer : goal.returns-in-Ok-parse-clause-answer
returns-in-Ok-parse-clause-answer g c = λ told.
    let name = full_name c.args.base.now part.Head in
    let size = size_of_part (g.S.Store.files c.args.store.now) (full_name c.args.base.now part.Head) c.in-Ok.size c.unwrap_or-size.result (c.in-Ok.ensures.answer told) c.unwrap_or-size.ensures in
    c.in-Ok-parse.ensures.told (bytes_at (g.S.Store.files c.args.store.now) (full_name c.args.base.now part.Head)) size
    (read_agrees _ (g.S.Store.files c.args.store.now) (full_name c.args.base.now part.Head) c.read_at.new.buf c.in-Ok-read_at.field-0 c.unwrap_or-size.result
    c.in-Ok.ensures.files c.in-Ok-read_at.ensures.bytes told c.in-Ok-read_at.ensures.bound.0 c.read_at.auto.buf size)

pub returns-in-Err-parse-clause-answer : goal.returns-in-Err-parse-clause-answer
returns-in-Err-parse-clause-answer g c = λ told.
    let bytes = bytes_at (g.S.Store.files c.args.store.now) (full_name c.args.base.now part.Head) in
    let size = size_of_part (g.S.Store.files c.args.store.now) (full_name c.args.base.now part.Head) c.in-Ok.size c.unwrap_or-size.result (c.in-Ok.ensures.answer told) c.unwrap_or-size.ensures in (
      some_bytes bytes c.unwrap_or-size.result size (omega (arith, c.if-size-eq0.false)),
      c.in-Err-parse.ensures.told (bytes_at (g.S.Store.files c.args.store.now) (full_name c.args.base.now part.Head)) size
          (read_agrees _ (g.S.Store.files c.args.store.now) (full_name c.args.base.now part.Head) c.read_at.new.buf c.in-Ok-read_at.field-0
          c.unwrap_or-size.result c.in-Ok.ensures.files c.in-Ok-read_at.ensures.bytes told c.in-Ok-read_at.ensures.bound.0 c.read_at.auto.buf size),
    )

pub returns-in-Ok-parse-clause-reads : goal.returns-in-Ok-parse-clause-reads
returns-in-Ok-parse-clause-reads g c = inr (one_read _ _ _ part.Head c.in-Ok.ensures.reads c.in-Ok-read_at.ensures.reads)
