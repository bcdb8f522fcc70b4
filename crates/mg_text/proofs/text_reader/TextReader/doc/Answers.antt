use Rattle.mg_text.proofs.HeldLaws.{any_short}
use Rattle.mg_text.proofs.text_reader.TextReader.doc.Goals as goal

pub returns : goal.returns
returns g c =
    let e = c.doc_within.ensures in
    record {
      fits = e.fits;
      same = e.same;
      looked = e.looked;
      stood = e.stood;
      content = λ collection stands. e.content collection (any_short _ _ c.args.number collection stands);
      never_bad = λ collection stands. e.never_bad collection (any_short _ _ c.args.number collection stands);
      pages = λ collection stands. e.pages collection (any_short _ _ c.args.number collection stands);
      places = e.places;
      added = e.added;
      cause = e.cause;
    }
