use Rattle.std.proofs.Common.{arith, length, sym, subst, ap, ◌-◌}
use Rattle.mg_dev.specs.declared.part.Part.TheVariants as part
use Rattle.mg_dev.specs.Names.{same_part}
use Rattle.mg_defs.specs.CodedText.{place_after}
use Rattle.mg_text.specs.Decoding.{Gathering, Shown}
use Rattle.mg_text.specs.Reading.{TextReading}
use Rattle.mg_text.proofs.DocumentLaws.{document_read, document_refused, gathered_told}
use Rattle.mg_text.proofs.ReaderLaws.{gather_refused, gather_told, place_wanted}
use Rattle.mg_text.proofs.ToldLaws.{kept_told, pairs_told}
use Rattle.mg_text.proofs.text_reader.TextReader.gather.Goals as goal

pub returns-in-Err : goal.returns-in-Err
returns-in-Err g c =
    let fits = rw (← c.self.view_is) at c.requires.fits in
    let within = rw (← c.self.view_is) at c.requires.within in
    let read = c.in-Err.ensures.read in
    rw (← c.self.view_is)
    (document_refused c.in-Err.refusal fits c.self.invariant.1 (omega arith) read
    (gathered_told _ (g.O.Sink.written c.args.out.now) (g.O.Sink.written c.args.out.now) c.args.buffer.now c.args.buffer.now (λ collection before bytes most stands shown fits.
    let wanted = place_wanted _ _ collection c.args.number stands c.requires.some within in
    gather_refused _ c.in-Err.refusal _ before _ _ bytes _ _ _ _ (read.looked.others part.Text (ap (same_part part.Text) c.self.invariant.1)) shown
    (read.told stands.told (place_after c.self.inside.model collection (c.args.number - 1)) wanted.0 wanted.1 wanted.2))))

pub returns : goal.returns
returns g c =
    let within = rw (← c.self.view_is) at c.requires.within in
    let read = c.in-Ok.ensures.read in
    let own : TextReading = record {
      text = c.self.inside.text.feed;
      places = c.self.inside.places;
      code = c.self.inside.model;
      version = c.self.inside.version;
      documents = c.self.inside.documents;
      size = c.self.inside.size;
    } in
    rw (← c.self.view_is)
    (document_read c.gather_doc.result c.in-Ok.from c.self.invariant.0 c.self.invariant.1 read c.seek.ensures.feed c.gather_doc.ensures
    (omega (arith, ap (λ (b : Gathering). length b.held) c.begin.ensures, ap (λ (b : Gathering). b.left) c.begin.ensures)) (omega arith)
    (gathered_told c.gather_doc.result (g.O.Sink.written c.args.out.now) (g.O.Sink.written c.gather_doc.new.out) c.args.buffer.now c.gather_doc.new.buffer
    (λ collection before bytes most stands shown fits.
    let wanted = place_wanted _ _ collection c.args.number stands c.requires.some within in
    gather_told c.gather_doc.result _ _ _ collection c.args.number c.in-Ok.from c.seek.new.self.place _ c.seek.new.self.feed _ _ _ _ before _ _ _ _ bytes stands
    c.requires.some within read.looked.files
    (read.told stands.told (place_after c.self.inside.model collection (c.args.number - 1)) wanted.0 wanted.1 wanted.2)
    c.seek.ensures.place c.seek.ensures.feed c.self.invariant.0 (read.looked.others part.Text (ap (same_part part.Text) c.self.invariant.1))
    (subst (λ (b : Gathering). Shown before (g.O.Sink.written c.args.out.now) b bytes most) (sym c.begin.ensures) shown) fits c.gather_doc.ensures.told))
    (λ told. rw c.begin.ensures at (kept_told c.gather_doc.result own _ _ _ _
    (pairs_told own _ told read.looked.files c.seek.ensures.place c.seek.ensures.feed (c.in-Ok.ensures.stood told) c.in-Ok.ensures.within)
    c.gather_doc.ensures.stood)))
