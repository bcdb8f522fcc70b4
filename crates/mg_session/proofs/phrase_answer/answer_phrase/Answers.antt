use Rattle.std.proofs.Common.{◌∙◌, ap, Some, subst, sym}
use Rattle.mg_phrase.specs.Marks.{Marking}
use Rattle.mg_query.specs.AllOf.{IsAllOf}
use Rattle.mg_query.specs.declared.query.Query.{Query}
use Rattle.mg_session.specs.Decided.{PhraseRow}
use Rattle.mg_session.specs.DocStands.{ArePlacesIn}
use Rattle.mg_session.proofs.CallLaws.{text_lacked}
use Rattle.mg_session.proofs.DecidedLaws.{query_printed}
use Rattle.mg_session.proofs.PhraseReplyLaws.{none_answered}
use Rattle.mg_session.proofs.phrase_answer.answer_phrase.Goals as goal

pub returns-in-Err : goal.returns-in-Err
returns-in-Err g c = record {
  answer = λ code collection stands told. none_answered _ collection c.args.phrase.now _ _;
  printed = tt;
  stepped = text_lacked c.requires.showable.fits;
}

pub search_matches-requires-clause-joined : goal.search_matches-requires-clause-joined
search_matches-requires-clause-joined g c = rw c.new-marks.ensures (subst (λ (q : Query). IsAllOf c.args.phrase.now (Some q)) (sym c.in-Ok.ensures.asks) c.requires.joined)

pub returns : goal.returns
returns g c = record {
  answer = λ code collection stands told.
      rw c.new-marks.ensures at (c.search_matches.ensures.answer c.args.lists.now.base.now code collection
      (record { weights = stands.weights; texts_are = stands.texts_are; all_is = c.in-Ok.ensures.all ∙ stands.all_is })
      (c.in-Ok.ensures.over collection told stands.all_is));
  printed =
      query_printed (g.S.Store.files c.args.store.now) (PhraseRow (ArePlacesIn (g.T.Searched.texts c.args.texts.now) (g.S.Store.files c.args.store.now) c.args.phrase.now)) _ _ c.in-Ok.matches
      c.search_matches.result c.in-Ok.ensures.asks c.in-Ok.ensures.all c.in-Ok.ensures.lists c.in-Ok.ensures.needs (rw c.new-marks.ensures at c.search_matches.ensures.printed);
  stepped = c.search_matches.ensures.stepped;
}

pub search_matches-requires-clause-unmarked : goal.search_matches-requires-clause-unmarked
search_matches-requires-clause-unmarked g c = ap (λ (m : Marking). m.marks) c.new-marks.ensures

pub search_matches-requires-clause-showable : goal.search_matches-requires-clause-showable
search_matches-requires-clause-showable g c = record { fits = c.requires.showable.fits; all = c.requires.showable.all ∙ sym c.in-Ok.ensures.all }

pub search_matches-requires-clause-unasked : goal.search_matches-requires-clause-unasked
search_matches-requires-clause-unasked g c = record {
  on = (c.args.lists.now.base.now, c.in-Ok.ensures.fits _);
  stands = c.in-Ok.ensures.stands _;
  within = c.in-Ok.ensures.within;
  first = c.in-Ok.ensures.before;
}
