use Rattle.std.proofs.Common.{arith, ◌+◌, ◌∙◌, refl, ap}
use Rattle.mg_defs.specs.Heads as defs
use Rattle.mg_merge.proofs.TextLaws.{size_of_sets}
use Rattle.mg_merge.proofs.texts.TextsDocuments.load.Goals as goal

pub returns-clause-fits : goal.returns-clause-fits
returns-clause-fits g c = record {
  first = c.in-Ok.ensures.readers.first_fits;
  second = c.in-Ok.ensures.readers.second_fits;
  ahead = c.in-Ok.ensures.readers.first_reader.documents_are;
  all = ap (λ n. c.args.heads.now.0.documents + n) c.in-Ok.ensures.readers.second_reader.documents_are;
  few = omega (arith, c.requires.few, c.joined_size-size.ensures);
}

pub returns-clause-of : goal.returns-clause-of
returns-clause-of g c = record {
  first_text = c.in-Ok.ensures.readers.first_reader.text_is;
  first_places = c.in-Ok.ensures.readers.first_reader.places_is;
  second_text = c.in-Ok.ensures.readers.second_reader.text_is;
  second_places = c.in-Ok.ensures.readers.second_reader.places_is;
}

pub returns-clause-stands : goal.returns-clause-stands
returns-clause-stands g c = λ a b sets.
    let both = c.in-Ok.ensures.stand a b sets in
    record {
      a = a;
      b = b;
      first = both.first;
      second = both.second;
      open_end = ap (λ (h : defs.Head). h.open_end) sets.second_stands.head_is;
      joins = refl;
      size = c.joined_size-size.ensures ∙ size_of_sets (g.S.Store.files c.args.store.now) c.args.first.now c.args.second.now a b c.args.heads.now.0 c.args.heads.now.1 sets;
    }

pub returns-in-Err-clause-looks : goal.returns-in-Err-clause-looks
returns-in-Err-clause-looks g c = c.in-Err.ensures.looks

pub returns-clause-looks : goal.returns-clause-looks
returns-clause-looks g c = c.in-Ok.ensures.looks
