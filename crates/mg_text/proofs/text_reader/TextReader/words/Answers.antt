use Rattle.std.proofs.Common.{arith, ◌-◌, ap, refl}
use Rattle.mg_dev.specs.declared.part.Part.TheVariants as part
use Rattle.mg_dev.specs.Names.{same_part}
use Rattle.mg_defs.specs.CodedText.{place_after}
use Rattle.mg_text.specs.Listing.{Listing}
use Rattle.mg_text.specs.Reading.{TextReading}
use Rattle.mg_text.proofs.ReaderLaws.{place_wanted}
use Rattle.mg_text.proofs.ListedLaws.{words_stood}
use Rattle.mg_text.proofs.ToldLaws.{pairs_told}
use Rattle.mg_text.proofs.WordsLaws.{takes_good, words_read, words_refused, words_told}
use Rattle.mg_text.proofs.text_reader.TextReader.words.Goals as goal

pub returns-in-Err : goal.returns-in-Err
returns-in-Err g c =
    let fits = rw (← c.self.view_is) at c.requires.fits in
    let within = rw (← c.self.view_is) at c.requires.within in
    let read = c.in-Err.ensures.read in
    rw (← c.self.view_is)
    (words_refused c.in-Err.why fits c.self.invariant.1 read (read.looked.others part.Text (ap (same_part part.Text) c.self.invariant.1)) (λ collection has.
    let wanted = place_wanted _ _ collection c.args.number has.stands c.requires.some within in
    takes_good c.in-Err.why _ (read.told has.stands.told (place_after c.self.inside.model collection (c.args.number - 1)) wanted.0 wanted.1 wanted.2)))

pub returns : goal.returns
returns g c =
    let within = rw (← c.self.view_is) at c.requires.within in
    let empty = ap (λ (l : Listing). l.symbols) c.begin.ensures in
    let left = ap (λ (l : Listing). l.left) c.begin.ensures in
    let read = c.in-Ok.ensures.read in
    let own : TextReading = record {
      text = c.self.inside.text.feed;
      places = c.self.inside.places;
      code = c.self.inside.model;
      version = c.self.inside.version;
      documents = c.self.inside.documents;
      size = c.self.inside.size;
    } in
    rw (← c.self.view_is)
    (words_read c.list_doc.result c.in-Ok.byte c.self.invariant.0 c.self.invariant.1 read c.seek.ensures.feed c.list_doc.ensures empty (λ collection has.
    let wanted = place_wanted _ _ collection c.args.number has.stands c.requires.some within in
    words_told c.list_doc.result _ _ collection c.args.number c.in-Ok.byte c.seek.new.self.place c.seek.new.self.feed _ _ _ has.stands c.requires.some within read.looked.files
    (read.told has.stands.told (place_after c.self.inside.model collection (c.args.number - 1)) wanted.0 wanted.1 wanted.2)
    c.seek.ensures.place c.seek.ensures.feed c.self.invariant.0 refl refl (read.looked.others part.Text (ap (same_part part.Text) c.self.invariant.1)) empty
    (omega (arith, has.short, left)) c.list_doc.ensures.told)
    (λ told. words_stood c.list_doc.result own _ _ _ _ (pairs_told own _ told read.looked.files c.seek.ensures.place c.seek.ensures.feed (c.in-Ok.ensures.stood told) c.in-Ok.ensures.within) empty left
    c.list_doc.ensures.stood))
