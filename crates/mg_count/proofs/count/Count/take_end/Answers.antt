use Rattle.std.proofs.Common.{◌≡◌, ◌++◌, List, ap, sym, subst, ◌∙◌}
use Rattle.mg_defs.specs.Marks.{Mark, marks}
use Rattle.mg_count.specs.Counting.{AreFew, FirstPass, HasCounted, IsCounted}
use Rattle.mg_count.specs.Meeting.{Meeting, marks_of}
use Rattle.mg_count.proofs.Fed.{end-stops}
use Rattle.mg_count.proofs.count.Count.take_end.Goals as goal

pub take-requires : goal.take-requires
take-requires c =
    let given = c.requires.given in
    let h : HasCounted (record { scanning = c.self.inside.scanner; counting = c.self.inside.counts }) given.0 = subst (λ (v : FirstPass). HasCounted v given.0) (sym c.self.view_is) given.1 in
    let all : marks given.0 ≡ h.met ++ marks_of c.met.result.now = c.finish.ensures.met given.0 h.met h.scanned ∙ ap (λ (m : Meeting). h.met ++ marks_of m) (sym c.met.ensures) in
    record { few = (h.met, h.counted, subst AreFew all (c.few_are_met.ensures.all given.0 given.2)) }

pub returns-in-Err-clause-refused : goal.returns-in-Err-clause-refused
returns-in-Err-clause-refused c fed given =
    let h : HasCounted (record { scanning = c.self.inside.scanner; counting = c.self.inside.counts }) fed = subst (λ (v : FirstPass). HasCounted v fed) (sym c.self.view_is) given in
    let all : marks fed ≡ h.met ++ marks_of c.met.result.now = c.finish.ensures.met fed h.met h.scanned ∙ ap (λ (m : Meeting). h.met ++ marks_of m) (sym c.met.ensures) in
    end-stops fed h.met (marks_of c.met.result.now) c.in-Err.refusal all (c.in-Err.ensures.refused h.met h.counted)

pub returns-clause-counted : goal.returns-clause-counted
returns-clause-counted c fed given few =
    let h : HasCounted (record { scanning = c.self.inside.scanner; counting = c.self.inside.counts }) fed = subst (λ (v : FirstPass). HasCounted v fed) (sym c.self.view_is) given in
    let all : marks fed ≡ h.met ++ marks_of c.met.result.now = c.finish.ensures.met fed h.met h.scanned ∙ ap (λ (m : Meeting). h.met ++ marks_of m) (sym c.met.ensures) in
    record {
      few = few;
      counted = subst (λ (met : List Mark). IsCounted c.take.new.self met) (sym all) (c.in-Ok.ensures.counted h.met h.counted);
      end = c.is_open-open_end.ensures fed h.met h.scanned;
    }
