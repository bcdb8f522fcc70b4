use Rattle.std.proofs.Common.{◌≡◌, ◌++◌, ℕ, List, refl, subst, sym}
use Rattle.mg_dev.specs.Causes.{Rose}
use Rattle.mg_defs.specs.Marks.{Mark, marks}
use Rattle.mg_count.specs.Meeting.{Meeting, marks_of}
use Rattle.mg_count.specs.Scanning.{HasMet}
use Rattle.mg_make.specs.Second.{HasWritten}
use Rattle.mg_make.proofs.CallerLemmas.{rose_behind}
use Rattle.mg_make.proofs.EndSteps.{all_written, end_refused, end_tells, handed_all, is_whole, last_marks, stops_before, tells_before}
use Rattle.mg_make.proofs.SortLaws.{sort_for, sort_more, sort_pass}
use Rattle.mg_make.proofs.set_parts.end_pass.Goals as goal

pub put_marks-requires : goal.put_marks-requires
put_marks-requires g c =
    let next = marks_of c.met.result.now in
    let whole : ((fed : List ℕ) (met : List Mark) → HasMet c.args.scanner fed met → marks fed ≡ met ++ next)
    = λ fed met h. subst (λ (m : Meeting). marks fed ≡ met ++ marks_of m) (sym c.met.ensures) (c.finish.ensures.met fed met h) in
    λ k. (
      (refl, tt),
      last_marks (g.W.MarkWriter.pass c.args.writer) (g.S.Store.files c.args.store.now) c.requires.put.0 c.requires.put.1 next c.requires.put.3
          (whole c.requires.put.0 c.requires.put.1 c.requires.put.2) c.requires.put.4,
    )

pub returns-in-Err-clause-refused : goal.returns-in-Err-clause-refused
returns-in-Err-clause-refused g c = λ fed met scanned written few.
    let next = marks_of c.met.result.now in
    let whole : ((fed : List ℕ) (met : List Mark) → HasMet c.args.scanner fed met → marks fed ≡ met ++ next)
    = λ fed met h. subst (λ (m : Meeting). marks fed ≡ met ++ marks_of m) (sym c.met.ensures) (c.finish.ensures.met fed met h) in
    stops_before (g.W.MarkWriter.pass c.args.writer) (g.S.Store.files c.args.store.now) fed met next
    (Rose (g.S.Store.faults c.args.store.now) (g.S.Store.faults c.put_marks.new.store)) c.in-Err.refusal written (whole fed met scanned) few c.in-Err.ensures.refused

pub end_marks-requires : goal.end_marks-requires
end_marks-requires g c =
    let next = marks_of c.met.result.now in
    let whole : ((fed : List ℕ) (met : List Mark) → HasMet c.args.scanner fed met → marks fed ≡ met ++ next)
    = λ fed met h. subst (λ (m : Meeting). marks fed ≡ met ++ marks_of m) (sym c.met.ensures) (c.finish.ensures.met fed met h) in
    λ k. (
      (refl, tt),
      is_whole (g.W.MarkWriter.pass c.put_marks.new.writer) (g.S.Store.files c.put_marks.new.store) c.requires.put.0
          (all_written (g.W.MarkWriter.pass c.args.writer) (g.W.MarkWriter.pass c.put_marks.new.writer) (g.S.Store.files c.args.store.now) (g.S.Store.files c.put_marks.new.store) c.requires.put.0 c.requires.put.1 next
          c.in-Ok.ensures.written c.requires.put.3 (whole c.requires.put.0 c.requires.put.1 c.requires.put.2)),
    )

pub returns-clause-handed : goal.returns-clause-handed
returns-clause-handed g c = λ fed met scanned written few.
    let next = marks_of c.met.result.now in
    let whole : ((fed : List ℕ) (met : List Mark) → HasMet c.args.scanner fed met → marks fed ≡ met ++ next)
    = λ fed met h. subst (λ (m : Meeting). marks fed ≡ met ++ marks_of m) (sym c.met.ensures) (c.finish.ensures.met fed met h) in
    let all : HasWritten (g.W.MarkWriter.pass c.put_marks.new.writer) (g.S.Store.files c.put_marks.new.store) (marks fed)
    = all_written (g.W.MarkWriter.pass c.args.writer) (g.W.MarkWriter.pass c.put_marks.new.writer) (g.S.Store.files c.args.store.now) (g.S.Store.files c.put_marks.new.store) fed met next c.in-Ok.ensures.written written (whole fed met scanned) in
    handed_all c.end_marks.result (g.W.MarkWriter.pass c.args.writer) (g.W.MarkWriter.pass c.put_marks.new.writer) (g.S.Store.files c.args.store.now) (g.S.Store.files c.put_marks.new.store)
    (g.S.Store.files c.end_marks.new.store) fed c.in-Ok.ensures.same c.in-Ok.ensures.wrote.told few all
    (c.end_marks.ensures.ends (marks fed) all)

pub returns-in-Err-clause-step : goal.returns-in-Err-clause-step
returns-in-Err-clause-step g c = sort_pass c.in-Err.ensures

pub returns-clause-step : goal.returns-clause-step
returns-clause-step g c = sort_more (sort_pass c.in-Ok.ensures) (sort_for c.in-Ok.ensures.same.base c.end_marks.ensures.step)

pub returns-clause-refused : goal.returns-clause-refused
returns-clause-refused g c =
    let next = marks_of c.met.result.now in
    let whole : ((fed : List ℕ) (met : List Mark) → HasMet c.args.scanner fed met → marks fed ≡ met ++ next)
    = λ fed met h. subst (λ (m : Meeting). marks fed ≡ met ++ marks_of m) (sym c.met.ensures) (c.finish.ensures.met fed met h) in
    end_refused c.end_marks.result c.args.scanner (g.W.MarkWriter.pass c.args.writer) (g.W.MarkWriter.pass c.put_marks.new.writer) (g.S.Store.files c.args.store.now) (g.S.Store.files c.put_marks.new.store) next _ _
    (λ rose. rose_behind _ _ _ c.in-Ok.ensures.faults rose) c.in-Ok.ensures.same c.in-Ok.ensures.wrote.told c.in-Ok.ensures.written whole c.end_marks.ensures.refused

pub returns-in-Err-clause-tells : goal.returns-in-Err-clause-tells
returns-in-Err-clause-tells g c = λ fed met scanned written few.
    let next = marks_of c.met.result.now in
    let whole : ((fed : List ℕ) (met : List Mark) → HasMet c.args.scanner fed met → marks fed ≡ met ++ next)
    = λ fed met h. subst (λ (m : Meeting). marks fed ≡ met ++ marks_of m) (sym c.met.ensures) (c.finish.ensures.met fed met h) in
    tells_before (g.W.MarkWriter.pass c.args.writer) (g.S.Store.files c.args.store.now) fed met next
    (Rose (g.S.Store.faults c.args.store.now) (g.S.Store.faults c.put_marks.new.store)) c.in-Err.refusal written (whole fed met scanned) few c.in-Err.ensures.refused

pub returns-clause-tells : goal.returns-clause-tells
returns-clause-tells g c =
    let next = marks_of c.met.result.now in
    let whole : ((fed : List ℕ) (met : List Mark) → HasMet c.args.scanner fed met → marks fed ≡ met ++ next)
    = λ fed met h. subst (λ (m : Meeting). marks fed ≡ met ++ marks_of m) (sym c.met.ensures) (c.finish.ensures.met fed met h) in
    end_tells c.end_marks.result c.args.scanner (g.W.MarkWriter.pass c.args.writer) (g.W.MarkWriter.pass c.put_marks.new.writer) (g.S.Store.files c.args.store.now)
    (g.S.Store.files c.put_marks.new.store) next c.in-Ok.ensures.same c.in-Ok.ensures.written whole c.end_marks.ensures.tells
