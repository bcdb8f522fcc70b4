use Rattle.std.proofs.Common.{arith, ◌+◌, List, [], get_or, refl, sym, subst}
use Rattle.std.specs.Prelude.{slice_index_or, slice_set, None}
use Rattle.mg_defs.specs.QueryTerms.{query_terms}
use Rattle.mg_defs.specs.PageBounds.{asked_of}
use Rattle.mg_post.specs.Answers.{AnswersList}
use Rattle.mg_post.specs.TermLists.{PagesWithin}
use Rattle.mg_bool.specs.Places.{Place, PlacesFor, pages_read}
use Rattle.mg_bool.specs.Matches.{IsNext, Leads, query_bound}
use Rattle.mg_bool.proofs.AskLaws.{answers_more}
use Rattle.mg_bool.proofs.CallLaws.{called, stepped_none}
use Rattle.mg_bool.proofs.ShownLaws.{candidate_asked}
use Rattle.mg_bool.proofs.NextLaws.{any_next, lead_answer, lead_of, lead_pages, still_pages}
use Rattle.mg_bool.proofs.next.candidate.Goals as goal

pub returns-in_default-clause-call : goal.returns-in_default-clause-call
returns-in_default-clause-call g c = called _ c.requires.fits (stepped_none c.args.places.now.items _ _ _)

pub returns-clause-call : goal.returns-clause-call
returns-clause-call g c = c.ask_at.ensures.call

pub returns-in_default-clause-answer : goal.returns-in_default-clause-answer
returns-in_default-clause-answer g c = λ q base collection goes.
    (any_next collection q c.args.decided (omega (arith, goes.over.all_is, c.requires.more)) (subst (Leads collection q) c.in_default.is goes.over.leads), goes.over.each)

pub returns-in_default-clause-pages : goal.returns-in_default-clause-pages
returns-in_default-clause-pages g c = λ q base collection goes. still_pages base collection q (c.args.decided + 1) c.args.places.now.items _ c.cursors_are_within.ensures goes.over.each

pub returns-clause-range : goal.returns-clause-range
returns-clause-range g c = c.ask_at.ensures.range c.requires.on.0 c.args.all (c.requires.on.1.each c.in-Some.place)

pub returns-clause-answer : goal.returns-clause-answer
returns-clause-answer g c = λ q base collection goes.
    let l = lead_of base collection q _ _ c.args.lead c.in-Some.place c.args.all c.args.decided c.in-Some.is goes in
    let v = slice_index_or c.ask_at.new.places.items c.in-Some.place None in
    let one = answers_more c.ask_at.result _ (λ found. IsNext collection q c.args.decided found
    × PlacesFor base collection (asked_of collection q) (query_terms q) (c.args.decided + 1)
    (slice_set c.args.places.now.items c.in-Some.place (slice_index_or c.ask_at.new.places.items c.in-Some.place None)))
    (λ found a. lead_answer base collection q _ _ c.args.lead c.in-Some.place c.args.all c.args.decided _ found goes l a)
    (c.ask_at.ensures.answer base collection (asked_of collection q) (get_or (query_terms q) c.in-Some.place []) l.asks) in
    subst (λ (ps : List Place). AnswersList c.ask_at.result (λ found. IsNext collection q c.args.decided found
    × PlacesFor base collection (asked_of collection q) (query_terms q) (c.args.decided + 1) ps)) (sym c.ask_at.ensures.places) one

pub returns-clause-pages : goal.returns-clause-pages
returns-clause-pages g c = λ q base collection goes.
    let l = lead_of base collection q _ _ c.args.lead c.in-Some.place c.args.all c.args.decided c.in-Some.is goes in
    subst (λ (ps : List Place). PagesWithin (query_bound collection q) (pages_read c.args.places.now.items) (pages_read ps) (g.S.Store.reads c.args.store.now)
    (g.S.Store.reads c.ask_at.new.store)) (sym c.ask_at.ensures.places)
    (lead_pages base collection q _ c.args.places.now.items c.args.lead c.in-Some.place c.args.all c.args.decided
    (slice_index_or c.ask_at.new.places.items c.in-Some.place None) _ _ c.cursors_are_within.ensures goes l
    (c.ask_at.ensures.pages base collection (asked_of collection q) (get_or (query_terms q) c.in-Some.place []) l.asks))

pub returns-in_default-clause-shows : goal.returns-in_default-clause-shows
returns-in_default-clause-shows g c = λ stands. (rw c.in_default.is refl, stands)

pub returns-clause-shows : goal.returns-clause-shows
returns-clause-shows g c =
    candidate_asked c.args.decided (slice_index_or c.ask_at.new.places.items c.in-Some.place None) c.ask_at.result _ c.in-Some.place c.in-Some.is
    (rw c.in-Some.is at c.requires.lead) c.ask_at.ensures.call.files c.ask_at.ensures.places c.ask_at.ensures.shows
