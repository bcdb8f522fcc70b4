use Rattle.std.proofs.Common.{◌-◌, ℕ, refl}
use Rattle.mg_defs.specs.CodedText.{place_after}
use Rattle.mg_text.proofs.CountLaws.{count_done, count_failed, count_refused, counts_told, number_failed}
use Rattle.mg_text.proofs.ReaderLaws.{place_wanted}
use Rattle.mg_text.proofs.text_reader.TextReader.tally.Goals as goal

pub returns-then-failed : goal.returns-then-failed
returns-then-failed g c =
    let fits = rw (← c.self.view_is) at c.requires.fits in
    let read = c.in-Err.ensures.read in
    rw (← c.self.view_is)
    (count_failed _ fits c.self.invariant.1 read (number_failed ℕ c.is_failure-failed.result c.in-Err.refusal _ _ c.if-failed.true c.is_failure-failed.ensures.failed read.cause))

pub returns-in-Err : goal.returns-in-Err
returns-in-Err g c =
    let fits = rw (← c.self.view_is) at c.requires.fits in
    rw (← c.self.view_is) (count_refused fits c.self.invariant.1 c.in-Err.ensures.read)

pub returns : goal.returns
returns g c =
    let within = rw (← c.self.view_is) at c.requires.within in
    let read = c.in-Ok.ensures.read in
    rw (← c.self.view_is)
    (count_done c.count_doc.result c.self.invariant.0 c.self.invariant.1 read c.seek.ensures.feed c.count_doc.ensures (λ collection stands.
    let wanted = place_wanted _ _ collection c.args.number stands c.requires.some within in
    counts_told c.count_doc.result _ _ collection c.args.number c.in-Ok.byte c.seek.new.self.place c.seek.new.self.feed _ _ stands c.requires.some within read.looked.files
    (read.told stands.told (place_after c.self.inside.model collection (c.args.number - 1)) wanted.0 wanted.1 wanted.2)
    c.seek.ensures.place c.seek.ensures.feed refl refl c.count_doc.ensures))
