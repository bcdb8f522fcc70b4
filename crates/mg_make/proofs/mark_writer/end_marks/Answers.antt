use Rattle.std.proofs.Common.{arith, ◌∙◌, ap, length, subst, sym}
use Rattle.mg_defs.specs.Marks.{marks}
use Rattle.mg_make.specs.Indexes.{HasTaken, Indexing}
use Rattle.mg_make.specs.Second.{occurring_by}
use Rattle.mg_make.proofs.Finishing.{ends_all, finish_by_part, finish_stops, tells_part, whole_is_closed}
use Rattle.mg_make.proofs.Frames.{index_kept, runs_alone, runs_wrote, text_wrote, wrote_both}
use Rattle.mg_make.proofs.mark_writer.end_marks.Goals as goal

-- ---- the text stops

pub returns-in-Err-clause-step : goal.returns-in-Err-clause-step
returns-in-Err-clause-step g c =
    let e = c.in-Err.ensures in
    record { wrote = text_wrote _ _ _ _ c.requires.whole.written.text_base e.told e.others; reads = λ p run first second. e.reads p; later = e.faults }

pub returns-in-Err-clause-refused : goal.returns-in-Err-clause-refused
returns-in-Err-clause-refused g c = λ collection is. finish_stops _ _ _ c.in-Err.refusal (c.in-Err.ensures.refused collection is)

pub returns-in-Err-clause-tells : goal.returns-in-Err-clause-tells
returns-in-Err-clause-tells g c = c.in-Err.ensures.tells

-- ---- the runs

pub merge-requires : goal.merge-requires
merge-requires g c =
    let is = c.requires.whole.written in
    let e = c.in-Ok.ensures in
    let same = c.into_index.ensures ∙ e.index in
    let taken = index_kept c.runs_stay.ensures.fed _ _ _ _ _ _ (is.text_base ∙ sym is.runs_base) e.told e.others is.index in
    let plan = (g.W.MarkWriter.pass c.args.writer).plan in
    let fed = occurring_by plan (marks c.requires.whole.collection) in
    let terms = length plan.terms.terms in
    record { taken = (terms, fed, subst (λ (i : Indexing). HasTaken i (g.S.Store.files c.end_text.new.store) terms fed) (sym same) taken) }

pub returns-in-Ok-merge-clause-ends : goal.returns-in-Ok-merge-clause-ends
returns-in-Ok-merge-clause-ends g c =
    let e = c.in-Ok.ensures in
    let m = c.in-Ok-merge.ensures in
    let same = c.into_index.ensures ∙ e.index in
    let closed = whole_is_closed _ _ c.requires.whole in
    λ met is. ends_all _ met _ (g.S.Store.files c.end_text.new.store) _ c.in-Ok.size _ c.in-Ok-merge.inverted same m.bytes m.counts m.occurrences closed e.all c.runs_stay.ensures.fed
    (record {
      told = e.told;
      others = e.others;
      stands = e.stands;
      answer = e.answer;
      wrote = runs_alone _ _ _ m.worked.told m.worked.others;
      merged = m.merged;
    }) is

pub returns-in-Ok-merge-clause-step : goal.returns-in-Ok-merge-clause-step
returns-in-Ok-merge-clause-step g c =
    let is = c.requires.whole.written in
    let e = c.end_text.ensures in
    let w = c.merge.ensures.worked in
    let own = ap (λ (i : Indexing). i.runs.base) (c.into_index.ensures ∙ e.index) ∙ is.runs_base in
    record {
      wrote = wrote_both _ _ _ _ (text_wrote _ _ _ _ is.text_base e.told e.others) (runs_wrote _ _ _ _ own (runs_alone _ _ _ w.told w.others));
      reads = λ p run first second. w.reads p run first second ∙ e.reads p;
      later = omega (arith, e.faults, w.faults);
    }

pub returns-in-Err-merge-clause-step : goal.returns-in-Err-merge-clause-step
returns-in-Err-merge-clause-step g c =
    let is = c.requires.whole.written in
    let e = c.end_text.ensures in
    let w = c.merge.ensures.worked in
    let own = ap (λ (i : Indexing). i.runs.base) (c.into_index.ensures ∙ e.index) ∙ is.runs_base in
    record {
      wrote = wrote_both _ _ _ _ (text_wrote _ _ _ _ is.text_base e.told e.others) (runs_wrote _ _ _ _ own (runs_alone _ _ _ w.told w.others));
      reads = λ p run first second. w.reads p run first second ∙ e.reads p;
      later = omega (arith, e.faults, w.faults);
    }

pub returns-in-Err-merge-clause-refused : goal.returns-in-Err-merge-clause-refused
returns-in-Err-merge-clause-refused g c = λ collection is.
    let e = c.in-Ok.ensures in
    let m = c.in-Err-merge.ensures in
    finish_by_part _ _ _ c.in-Err-merge.refusal c.from.result c.from.ensures e.faults m.cause e.told m.undamaged

pub returns-in-Err-merge-clause-tells : goal.returns-in-Err-merge-clause-tells
returns-in-Err-merge-clause-tells g c = λ collection is. tells_part _ collection c.in-Err-merge.refusal c.from.result c.from.ensures
