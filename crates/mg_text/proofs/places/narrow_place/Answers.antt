use Rattle.std.proofs.Common.{ap, ◌*◌, ◌∙◌, Some}
use Rattle.mg_dev.specs.Files.{bytes_at}
use Rattle.mg_text.proofs.PlaceLaws.{filled_four, four_stands, read_four, unfilled_four}
use Rattle.mg_text.proofs.places.narrow_place.Goals as goal

pub returns-in-Ok-true-clause-read : goal.returns-in-Ok-true-clause-read
returns-in-Ok-true-clause-read g c =
    let e = c.in-Ok-true.ensures in
    read_four e.fits e.file e.looked (record { later = e.cause.later; failed = tt }) (λ told p small stands.
    ap Some (filled_four c.in-Ok-true.field-0 c.fill.new.buf (bytes_at (g.S.Store.files c.args.store.now) c.args.places.now.name) (4 * c.from.result)
    (4 * c.args.index) c.four_at.result c.from-in-Ok-true.result p c.in-Ok-true.field-0-test (e.told told) c.fill.auto.buf
    (ap (λ n. 4 * n) c.from.ensures) small stands c.four_at.ensures c.from-in-Ok-true.ensures)) c.from.result e.part

pub returns-in-Ok-false-clause-read : goal.returns-in-Ok-false-clause-read
returns-in-Ok-false-clause-read g c =
    let e = c.in-Ok-false.ensures in
    read_four e.fits e.file e.looked (record { later = e.cause.later; failed = tt }) (λ told p small stands.
    absurd (unfilled_four c.in-Ok-false.field-0 c.fill.new.buf (bytes_at (g.S.Store.files c.args.store.now) c.args.places.now.name) (4 * c.from.result)
    (4 * c.args.index) p c.in-Ok-false.field-0-test (e.told told) c.fill.auto.buf (ap (λ n. 4 * n) c.from.ensures) stands)) c.from.result e.part

pub returns-in-Err-clause-read : goal.returns-in-Err-clause-read
returns-in-Err-clause-read g c =
    let e = c.in-Err.ensures in
    read_four e.fits e.file e.looked (record { later = e.cause.later; failed = e.cause.failed }) (λ told p small stands. tt) c.from.result e.part

pub returns-in-Ok-true-clause-stood : goal.returns-in-Ok-true-clause-stood
returns-in-Ok-true-clause-stood g c = λ told.
    four_stands c.in-Ok-true.field-0 c.fill.new.buf (bytes_at (g.S.Store.files c.args.store.now) c.args.places.now.name) (4 * c.from.result)
    c.args.index c.in-Ok-true.field-0-test (c.in-Ok-true.ensures.told told) c.fill.auto.buf (ap (λ n. 4 * n) c.from.ensures) (c.from-in-Ok-true.ensures ∙ c.four_at.ensures)
