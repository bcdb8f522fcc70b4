use Rattle.mg_merge.proofs.LookLaws.{looks_nothing}
use Rattle.mg_merge.proofs.TallyLaws.{counts_of_texts}
use Rattle.mg_merge.proofs.TextLaws.{texts_none}
use Rattle.mg_merge.proofs.counting.tallied.Goals as goal

pub returns-then-not-pieces-clause-tallies : goal.returns-then-not-pieces-clause-tallies
returns-then-not-pieces-clause-tallies g c = record { fits = c.requires.fits; same = texts_none _; looks = looks_nothing; cause = tt }

pub returns-in-Err-clause-tallies : goal.returns-in-Err-clause-tallies
returns-in-Err-clause-tallies g c = record { fits = c.in-Err.ensures.fits; same = c.in-Err.ensures.same; looks = c.in-Err.ensures.looks; cause = c.in-Err.ensures.failed }

pub returns-then-not-done-clause-tallies : goal.returns-then-not-done-clause-tallies
returns-then-not-done-clause-tallies g c = record { fits = c.in-Ok.ensures.fits; same = c.in-Ok.ensures.same; looks = c.in-Ok.ensures.looks; cause = tt }

pub returns-then-not-whole-clause-tallies : goal.returns-then-not-whole-clause-tallies
returns-then-not-whole-clause-tallies g c = record { fits = c.in-Ok.ensures.fits; same = c.in-Ok.ensures.same; looks = c.in-Ok.ensures.looks; cause = tt }

pub returns-in-Ok-plan_of_counts-clause-tallies : goal.returns-in-Ok-plan_of_counts-clause-tallies
returns-in-Ok-plan_of_counts-clause-tallies g c = record { fits = c.in-Ok.ensures.fits; same = c.in-Ok.ensures.same; looks = c.in-Ok.ensures.looks; cause = tt }

pub returns-in-Err-plan_of_counts-clause-tallies : goal.returns-in-Err-plan_of_counts-clause-tallies
returns-in-Err-plan_of_counts-clause-tallies g c = record { fits = c.in-Ok.ensures.fits; same = c.in-Ok.ensures.same; looks = c.in-Ok.ensures.looks; cause = tt }

pub returns-in-Ok-plan_of_counts-clause-of : goal.returns-in-Ok-plan_of_counts-clause-of
returns-in-Ok-plan_of_counts-clause-of g c = λ collection stand.
    let parts = c.into_parts-pieces.ensures in
    let none = c.new-counts.ensures in
    c.in-Ok-plan_of_counts.ensures.of collection
    (counts_of_texts (g.D.Documents.texts c.args.texts.now) (g.S.Store.files c.args.store.now) collection c.in-Ok.done c.new-counts.result c.count.new.counts _ _ _ _ c.requires.fits stand
    c.if-not-done.false (c.in-Ok.ensures.counted collection stand) none.words none.others none.pairs parts.words_came parts.others_came parts.words parts.others parts.pairs
    c.has_open_end-open_end.ensures)
