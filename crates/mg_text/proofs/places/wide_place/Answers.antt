use Rattle.std.proofs.Common.{ap, ◌*◌, Some}
use Rattle.mg_dev.specs.Files.{bytes_at}
use Rattle.mg_text.proofs.PlaceLaws.{filled_eight, eight_stands, read_eight, unfilled_eight}
use Rattle.mg_text.proofs.places.wide_place.Goals as goal

pub returns-in-Ok-true-clause-read : goal.returns-in-Ok-true-clause-read
returns-in-Ok-true-clause-read g c =
    let e = c.in-Ok-true.ensures in
    read_eight e.fits e.file e.looked (record { later = e.cause.later; failed = tt }) (λ told p small stands.
    ap Some (filled_eight c.in-Ok-true.field-0 c.fill.new.buf (bytes_at (g.S.Store.files c.args.store.now) c.args.places.now.name) (8 * c.from.result)
    (8 * c.args.index) c.eight_at.result p c.in-Ok-true.field-0-test (e.told told) c.fill.auto.buf
    (ap (λ n. 8 * n) c.from.ensures) small stands c.eight_at.ensures)) c.from.result e.part

pub returns-in-Ok-false-clause-read : goal.returns-in-Ok-false-clause-read
returns-in-Ok-false-clause-read g c =
    let e = c.in-Ok-false.ensures in
    read_eight e.fits e.file e.looked (record { later = e.cause.later; failed = tt }) (λ told p small stands.
    absurd (unfilled_eight c.in-Ok-false.field-0 c.fill.new.buf (bytes_at (g.S.Store.files c.args.store.now) c.args.places.now.name) (8 * c.from.result)
    (8 * c.args.index) p c.in-Ok-false.field-0-test (e.told told) c.fill.auto.buf (ap (λ n. 8 * n) c.from.ensures) stands)) c.from.result e.part

pub returns-in-Err-clause-read : goal.returns-in-Err-clause-read
returns-in-Err-clause-read g c =
    let e = c.in-Err.ensures in
    read_eight e.fits e.file e.looked (record { later = e.cause.later; failed = e.cause.failed }) (λ told p small stands. tt) c.from.result e.part

pub returns-in-Ok-true-clause-stood : goal.returns-in-Ok-true-clause-stood
returns-in-Ok-true-clause-stood g c = λ told.
    eight_stands c.in-Ok-true.field-0 c.fill.new.buf (bytes_at (g.S.Store.files c.args.store.now) c.args.places.now.name) (8 * c.from.result)
    c.args.index c.in-Ok-true.field-0-test (c.in-Ok-true.ensures.told told) c.fill.auto.buf (ap (λ n. 8 * n) c.from.ensures) c.eight_at.ensures
