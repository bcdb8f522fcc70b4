use Rattle.std.proofs.Common.{arith, ◌≡◌, length, take, ap, subst, sym, ◌∙◌}
use Rattle.mg_dev.specs.Causes.{Rose}
use Rattle.mg_dev.specs.Faults.{ReadStops}
use Rattle.mg_dev.specs.Files.{bytes_at}
use Rattle.mg_dev.specs.Names.{full_name}
use Rattle.mg_migrate.proofs.CopyLaws.{append_alone, appended_here, first_of_read, written_whole}
use Rattle.mg_migrate.proofs.WideLaws.{head_stops}
use Rattle.mg_migrate.proofs.copying.copy_block.Goals as goal

pub returns-in-Ok-append-clause-bytes : goal.returns-in-Ok-append-clause-bytes
returns-in-Ok-append-clause-bytes g c = λ told.
    let size : c.args.block.now.bytes.len ≡ length c.read_at.new.buf = omega arith in
    let held : c.deref.result.now ≡ c.read_at.new.buf = written_whole _ _ _ _ c.deref.ensures.value size in
    appended_here (g.S.Store.files c.args.store.now) (g.S.Store.files c.read_at.new.self) (g.S.Store.files c.append.new.self) (full_name c.args.to.now.base.now c.args.to.now.part) _ _
    c.in-Ok.ensures.files told c.in-Ok-append.ensures.content
    (ap (take c.min-count.result) held
    ∙ first_of_read c.read_at.new.buf (bytes_at (g.S.Store.files c.args.store.now) (full_name c.args.from.now.base.now c.args.from.now.part)) c.in-Ok.read
    c.min-count.result c.args.at (c.in-Ok.ensures.bytes told) (omega (arith, c.min-count.ensures)) (omega (arith, c.in-Ok.ensures.bound)))

pub returns-in-Ok-append-clause-writes : goal.returns-in-Ok-append-clause-writes
returns-in-Ok-append-clause-writes g c = record {
  alone = append_alone _ _ _ _ _ c.append.result c.in-Ok.ensures.files c.append.ensures.content;
  refused = tt;
  later = omega (arith, c.in-Ok.ensures.cause.later, c.in-Ok-append.ensures.cause.later);
}

pub returns-in-Err-append-clause-writes : goal.returns-in-Err-append-clause-writes
returns-in-Err-append-clause-writes g c = record {
  alone = append_alone _ _ _ _ _ c.append.result c.in-Ok.ensures.files c.append.ensures.content;
  refused = subst (λ f. ReadStops (Rose (g.S.Store.faults c.args.store.now) (g.S.Store.faults c.append.new.self)) (Unit {0}) f) (sym c.of_store.ensures)
      (head_stops _ (g.S.Store.faults c.read_at.new.self) _ c.in-Err-append.refusal (Unit {0}) c.in-Ok.ensures.cause.later c.in-Err-append.ensures.cause);
  later = omega (arith, c.in-Ok.ensures.cause.later, c.in-Err-append.ensures.cause.later);
}
