use Rattle.std.proofs.Common.{arith, ◌≡◌, ◌≤◌, length, sym, subst, ◌∙◌, ap, ◌-◌}
use Rattle.mg_dev.specs.declared.part.Part.TheVariants as part
use Rattle.mg_dev.specs.Names.{same_part}
use Rattle.mg_defs.specs.CodedText.{place_after}
use Rattle.mg_text.specs.Decoding.{Gathering}
use Rattle.mg_text.specs.Reading.{TextReading}
use Rattle.mg_text.proofs.DocumentLaws.{document_read, document_refused, short_told}
use Rattle.mg_text.proofs.ReaderLaws.{doc_told, place_refused, place_wanted}
use Rattle.mg_text.proofs.ToldLaws.{pairs_told, sent_told}
use Rattle.mg_text.proofs.text_reader.TextReader.doc_within.Goals as goal

pub returns-in-Err : goal.returns-in-Err
returns-in-Err g c =
    let fits = rw (← c.self.view_is) at c.requires.fits in
    let within = rw (← c.self.view_is) at c.requires.within in
    let read = c.in-Err.ensures.read in
    rw (← c.self.view_is)
    (document_refused c.in-Err.refusal fits c.self.invariant.1 (omega arith) read
    (short_told _ (g.O.Sink.written c.args.out.now) (g.O.Sink.written c.args.out.now) c.args.most (λ collection has.
    let wanted = place_wanted _ _ collection c.args.number has.stands c.requires.some within in
    place_refused _ c.in-Err.refusal _ _ _ _ _ _ (read.looked.others part.Text (ap (same_part part.Text) c.self.invariant.1))
    (read.told has.stands.told (place_after c.self.inside.model collection (c.args.number - 1)) wanted.0 wanted.1 wanted.2))))

pub returns : goal.returns
returns g c =
    let within = rw (← c.self.view_is) at c.requires.within in
    let buffer = c.begin.ensures ∙ c.start.ensures in
    let left : c.begin.new.self.left ≡ c.args.most = ap (λ (b : Gathering). b.left) buffer in
    let read = c.in-Ok.ensures.read in
    let own : TextReading = record {
      text = c.self.inside.text.feed;
      places = c.self.inside.places;
      code = c.self.inside.model;
      version = c.self.inside.version;
      documents = c.self.inside.documents;
      size = c.self.inside.size;
    } in
    rw (← c.self.view_is)
    (document_read c.show_doc.result c.in-Ok.from c.self.invariant.0 c.self.invariant.1 read c.seek.ensures.feed c.show_doc.ensures
    (omega (arith, ap (λ (b : Gathering). length b.held) buffer, left)) (omega arith)
    (short_told c.show_doc.result (g.O.Sink.written c.args.out.now) (g.O.Sink.written c.show_doc.new.out) c.args.most (λ collection has.
    let wanted = place_wanted _ _ collection c.args.number has.stands c.requires.some within in
    doc_told c.show_doc.result _ _ _ collection c.args.number c.in-Ok.from c.seek.new.self.place c.seek.new.self.feed _ _ _ _ c.args.most _ _ has.stands
    c.requires.some within read.looked.files
    (read.told has.stands.told (place_after c.self.inside.model collection (c.args.number - 1)) wanted.0 wanted.1 wanted.2)
    c.seek.ensures.place c.seek.ensures.feed c.self.invariant.0 (read.looked.others part.Text (ap (same_part part.Text) c.self.invariant.1)) has.short
    (λ doc all few fits small shows. c.show_doc.ensures.told doc all few (subst (λ n. length doc ≤ n) (sym left) fits) small shows)))
    (λ told. sent_told c.show_doc.result own _ _ _ _ (pairs_told own _ told read.looked.files c.seek.ensures.place c.seek.ensures.feed (c.in-Ok.ensures.stood told) c.in-Ok.ensures.within)
    c.show_doc.ensures.stood))
