use Rattle.std.proofs.Common.{arith, inl, inr}
use Rattle.mg_dev.specs.Moments.{store_at}
use Rattle.mg_build.proofs.WrittenLaws.{not_written, was_ended}
use Rattle.mg_build.proofs.passes.write_started.Goals as goal

-- ---- not all bytes were put

pub returns-in-Err : goal.returns-in-Err
returns-in-Err g c = record {
  writes = not_written (λ bytes is. inr (inl (c.empty_heads_stand_for_none.ensures c.args.writer.base _ (c.in-Err.ensures.goes.head is.0.told))))
      c.in-Err.ensures.goes.others c.in-Err.ensures.goes.plain c.in-Err.ensures.goes.later c.in-Err.ensures.refused c.in-Err.ensures.tells;
}

-- ---- all were put

pub finish-requires : goal.finish-requires
finish-requires g c =
    let put = c.in-Ok.ensures.put in
    record { put = (put.0, put.2, omega (arith, put.1.size, c.in-Ok.ensures.small)) }

pub returns-in-Ok : goal.returns-in-Ok
returns-in-Ok g c =
    let before = store_at g.S.Store.files g.S.Store.reads g.S.Store.faults c.args.store.now in
    let middle = store_at g.S.Store.files g.S.Store.reads g.S.Store.faults c.put_bytes.new.store in
    let now = store_at g.S.Store.files g.S.Store.reads g.S.Store.faults c.finish.new.store in
    let put = c.in-Ok.ensures.put in
    record {
      writes = was_ended c.args.writer c.put_bytes.new.writer c.args.source.now before middle now c.finish.result put.0 c.in-Ok.ensures.goes put.1 put.2
          c.finish.ensures.stands c.finish.ensures.summary c.finish.ensures.merge_a c.finish.ensures.merge_b c.finish.ensures.left
          c.finish.ensures.others c.finish.ensures.plain c.finish.ensures.later c.finish.ensures.refused c.finish.ensures.tells;
    }
