use Rattle.std.proofs.Common.{List, [], get_or, refl, sym, subst}
use Rattle.std.specs.Prelude.{slice_index_or, slice_set, None, Some}
use Rattle.mg_defs.specs.QueryTerms.{query_terms}
use Rattle.mg_defs.specs.PageBounds.{asked_of}
use Rattle.mg_defs.specs.Sat.{term}
use Rattle.mg_post.specs.Answers.{AnswersList}
use Rattle.mg_post.specs.TermLists.{PagesWithin}
use Rattle.mg_bool.specs.Places.{Place, pages_read}
use Rattle.mg_bool.specs.Matches.{query_bound}
use Rattle.mg_bool.proofs.AskLaws.{answers_more}
use Rattle.mg_bool.proofs.ShownLaws.{candidate_asked}
use Rattle.mg_bool.proofs.NextLaws.{lead_of, lead_pages}
use Rattle.mg_bool.proofs.WordLaws.{WordFound, word_answer}
use Rattle.mg_bool.proofs.word.next_of_word.Goals as goal

pub returns-clause-range : goal.returns-clause-range
returns-clause-range g c = c.ask_at.ensures.range c.requires.on.0 c.args.all (c.requires.on.1.each c.args.place)

pub returns-clause-answer : goal.returns-clause-answer
returns-clause-answer g c = λ t base collection goes.
    let l = lead_of base collection (term t) _ _ (Some c.args.place) c.args.place c.args.all c.args.decided refl goes in
    let v = slice_index_or c.ask_at.new.places.items c.args.place None in
    let one = answers_more c.ask_at.result _ (WordFound base collection t c.args.place c.args.all c.args.decided
    (slice_set c.args.places.now.items c.args.place (slice_index_or c.ask_at.new.places.items c.args.place None)))
    (λ found a. word_answer base collection t _ _ c.args.place c.args.all c.args.decided _ found c.requires.more goes l a)
    (c.ask_at.ensures.answer base collection (asked_of collection (term t)) (get_or (query_terms (term t)) c.args.place []) l.asks) in
    subst (λ (ps : List Place). AnswersList c.ask_at.result (WordFound base collection t c.args.place c.args.all c.args.decided ps)) (sym c.ask_at.ensures.places) one

pub returns-clause-pages : goal.returns-clause-pages
returns-clause-pages g c = λ t base collection goes.
    let l = lead_of base collection (term t) _ _ (Some c.args.place) c.args.place c.args.all c.args.decided refl goes in
    subst (λ (ps : List Place). PagesWithin (query_bound collection (term t)) (pages_read c.args.places.now.items) (pages_read ps)
    (g.S.Store.reads c.args.store.now) (g.S.Store.reads c.ask_at.new.store)) (sym c.ask_at.ensures.places)
    (lead_pages base collection (term t) _ c.args.places.now.items (Some c.args.place) c.args.place c.args.all c.args.decided
    (slice_index_or c.ask_at.new.places.items c.args.place None) _ _ c.cursors_are_within.ensures goes l
    (c.ask_at.ensures.pages base collection (asked_of collection (term t)) (get_or (query_terms (term t)) c.args.place []) l.asks))

pub returns-clause-shows : goal.returns-clause-shows
returns-clause-shows g c =
    candidate_asked c.args.decided (slice_index_or c.ask_at.new.places.items c.args.place None) c.ask_at.result (Some c.args.place) c.args.place refl
    c.requires.place c.ask_at.ensures.call.files c.ask_at.ensures.places c.ask_at.ensures.shows

pub returns-clause-call : goal.returns-clause-call
returns-clause-call g c = c.ask_at.ensures.call
