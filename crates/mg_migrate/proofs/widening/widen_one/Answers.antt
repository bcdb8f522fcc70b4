use Rattle.std.proofs.Common.{rules, ◌≡◌, ◌*◌, ◌∙◌, ◌++◌, IsSome, ap, sym, subst}
use Rattle.mg_dev.specs.Files.{bytes_at}
use Rattle.mg_bits.specs.Writer.{put_to}
use Rattle.mg_defs.specs.Numbers.{eight}
use Rattle.mg_migrate.proofs.WidenLaws.{filled_number, unfilled_number}
use Rattle.mg_migrate.proofs.widening.widen_one.Goals as goal

pub returns-in-Ok-false-clause-writes : goal.returns-in-Ok-false-clause-writes
returns-in-Ok-false-clause-writes g c = record {
  alone = search rules;
  refused = λ is.
      unfilled_number c.in-Ok-false.field-0 c.fill.new.buf (bytes_at (g.S.Store.files c.args.store.now) c.args.places.now.name) (4 * c.from-place.result)
      c.args.index is.1 c.in-Ok-false.field-0-test (c.in-Ok-false.ensures.told is.0) c.fill.auto.buf
      (ap (λ n. 4 * n) c.from-place.ensures) is.2;
  later = search rules;
}

pub returns-in-Ok-clause-written : goal.returns-in-Ok-clause-written
returns-in-Ok-clause-written g c = λ told number has.
    let same : c.from-number.result ≡ number
    = filled_number c.in-Ok-true.field-0 c.fill.new.buf (bytes_at (g.S.Store.files c.args.store.now) c.args.places.now.name) (4 * c.from-place.result)
    c.args.index number c.four_at.result c.from-number.result c.in-Ok-true.field-0-test (c.in-Ok-true.ensures.told told) c.fill.auto.buf
    (ap (λ n. 4 * n) c.from-place.ensures) has c.four_at.ensures c.from-number.ensures in
    c.in-Ok.ensures.bytes.bytes (subst (λ f. IsSome f) (sym c.in-Ok-true.ensures.looked.files) told)
    ∙ ap (λ f. put_to c.args.wide.now f ++ c.eight_bytes.result) c.in-Ok-true.ensures.looked.files
    ∙ ap (λ x. put_to c.args.wide.now (g.S.Store.files c.args.store.now) ++ x) (c.eight_bytes.ensures ∙ ap eight same)
