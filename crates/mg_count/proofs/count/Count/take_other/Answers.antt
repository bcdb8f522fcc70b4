use Rattle.std.proofs.Common.{◌++◌, ◌∷◌, List, ℕ, [], length-append, arith, sym, subst}
use Rattle.std.proofs.lemmas.Result.{IfErr-weaker, on_ok_weaker}
use Rattle.mg_defs.specs.Marks.{Mark}
use Rattle.mg_count.specs.Counting.{AreFew, CountStops, FirstPass, HasCounted, IsCounted, StopsAt}
use Rattle.mg_count.specs.Meeting.{Meeting, marks_of}
use Rattle.mg_count.proofs.Fed.{count-stops}
use Rattle.mg_count.proofs.count.Count.take_other.Goals as goal

pub take-requires-2 : goal.take-requires-2
take-requires-2 c =
    let given = c.requires.given in
    let h : HasCounted (record { scanning = c.self.inside.scanner; counting = c.self.inside.counts }) given.0 = subst (λ (v : FirstPass). HasCounted v given.0) (sym c.self.view_is) given.1 in
    let met : List Mark = h.met ++ marks_of c.take.new.self.met in
    let few = c.few_are_met.ensures.met c.take.new.self (given.0 ++ c.args.byte ∷ []) met (c.take.ensures.met given.0 h.met h.scanned)
    (omega (arith, given.2, length-append given.0 (c.args.byte ∷ []))) in
    record { few = (h.met, h.counted, subst (λ (m : Meeting). AreFew (h.met ++ marks_of m)) (sym c.met.ensures) few) }

pub returns-clause-given : goal.returns-clause-given
returns-clause-given c =
    on_ok_weaker c.take-2.result
    (λ (counted : (before : List Mark) → IsCounted c.self.inside.counts before → IsCounted c.take-2.new.self (before ++ marks_of c.met.result.now)) fed given.
    let h : HasCounted (record { scanning = c.self.inside.scanner; counting = c.self.inside.counts }) fed = subst (λ (v : FirstPass). HasCounted v fed) (sym c.self.view_is) given in
    record {
      met = h.met ++ marks_of c.take.new.self.met;
      scanned = c.take.ensures.met fed h.met h.scanned;
      counted = subst (λ (m : Meeting). IsCounted c.take-2.new.self (h.met ++ marks_of m)) c.met.ensures (counted h.met h.counted);
    })
    c.take-2.ensures.counted

pub returns-clause-refused : goal.returns-clause-refused
returns-clause-refused c =
    IfErr-weaker c.take-2.result (λ fault. (before : List Mark) → IsCounted c.self.inside.counts before → StopsAt before (marks_of c.met.result.now) fault)
    (λ fault. (fed : List ℕ) → HasCounted c.args.self.now fed → CountStops (fed ++ c.args.byte ∷ []) fault)
    (λ fault stops fed given.
    let h : HasCounted (record { scanning = c.self.inside.scanner; counting = c.self.inside.counts }) fed = subst (λ (v : FirstPass). HasCounted v fed) (sym c.self.view_is) given in
    count-stops c.take.new.self (fed ++ c.args.byte ∷ []) h.met (marks_of c.take.new.self.met) fault (c.take.ensures.met fed h.met h.scanned)
    (subst (λ (m : Meeting). StopsAt h.met (marks_of m) fault) c.met.ensures (stops h.met h.counted)))
    c.take-2.ensures.refused
