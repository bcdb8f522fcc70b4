use Rattle.std.proofs.Common.{arith, ◌≡◌, ◌∙◌, ◌/◌, ap, sym, subst, IsSome}
use Rattle.mg_dev.specs.Files.{bytes_at}
use Rattle.mg_bits.specs.Writer.{AreBytes}
use Rattle.mg_check_index.specs.InStore.{own_name}
use Rattle.mg_check_index.proofs.RunWritten.{run_count, run_is, run_short, written_bits}
use Rattle.mg_check_index.proofs.run_written.write_into.Goals as goal

pub spill-requires-clause-writer : goal.spill-requires-clause-writer
spill-requires-clause-writer g c = record {
  holds = c.in-Ok.ensures.holds;
  place = omega (arith, c.in-Ok.ensures.place);
  whole = omega (arith, c.in-Ok.ensures.place);
}

pub returns-in-Ok-finish-clause-written : goal.returns-in-Ok-finish-clause-written
returns-in-Ok-finish-clause-written g c = λ told.
    let told_too : IsSome (g.S.Store.files c.start.new.store) = c.start.ensures.wrote.told ∙ told in
    let told_then : IsSome (g.S.Store.files c.spill.new.store) = c.spill.ensures.wrote.told ∙ told_too in
    let told_last : IsSome (g.S.Store.files c.finish.new.store) = c.finish.ensures.wrote.told ∙ told_then in
    let name : c.spill.new.w.name ≡ own_name = c.spill.ensures.name ∙ c.in-Ok.ensures.name in
    let made = written_bits c.in-Ok.writer c.spill.new.w (g.S.Store.files c.start.new.store) (g.S.Store.files c.spill.new.store) _ _ told_too
    (c.in-Ok.ensures.empty told) c.in-Ok-spill.ensures.bits c.in-Ok-spill.ensures.whole (c.in-Ok-finish.ensures.file told_then) in
    let small : AreBytes (bytes_at (g.S.Store.files c.finish.new.store) c.spill.new.w.name) =
    subst (λ n. AreBytes (bytes_at (g.S.Store.files c.finish.new.store) n)) c.finish.ensures.name (c.in-Ok-finish.ensures.holds.bytes told_last) in
    ap (bytes_at (g.S.Store.files c.finish.new.store)) (sym name) ∙ run_is c.args.pool.now _ small made

pub returns-in-Ok-finish-clause-size : goal.returns-in-Ok-finish-clause-size
returns-in-Ok-finish-clause-size g c =
    let bits = c.in-Ok-spill.ensures.bits.place in
    record {
      pool = record { empty = c.in-Ok-spill.ensures.empty; slots = c.in-Ok-spill.ensures.slots; limit = c.spill.ensures.limit };
      count = ap (λ n. n / 8) c.place-count.ensures ∙ run_count c.args.pool.now c.in-Ok.writer.place c.spill.new.w.place c.in-Ok.ensures.place bits c.in-Ok-spill.ensures.whole;
      few = run_short c.args.pool.now c.in-Ok.writer.place c.spill.new.w.place c.in-Ok.ensures.place bits c.in-Ok-spill.ensures.whole c.in-Ok-spill.ensures.place;
    }
