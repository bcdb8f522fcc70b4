use Rattle.std.proofs.Common.{◌≡◌, ◌++◌, ◌∷◌, List, ℕ, [], ap, arith, sym, subst}
use Rattle.mg_defs.specs.Marks.{Mark, stop}
use Rattle.mg_count.specs.Counting.{Counting, IsCounted}
use Rattle.mg_count.proofs.Counted.{AddUp, few-now, met-mark, stop-counted}
use Rattle.mg_count.proofs.counts.Counts.end_if.Goals as goal

pub overflow_cast-self-inside : goal.overflow_cast-self-inside
overflow_cast-self-inside c =
    let few = c.requires.few in
    let pieces : c.self.inside.pieces ≡ c.args.self.now.pieces = ap (λ (v : Counting). v.pieces) c.self.view_is in
    omega (arith, pieces, few-now c.args.self.now few.0 few.1 few.2)

pub returns-clause-counted : goal.returns-clause-counted
returns-clause-counted c met h =
    let e = c.marks_add_up.ensures in
    let laws : AddUp = record { documents = e.documents; pieces = e.pieces; pairs = e.pairs; last = e.last } in
    let i = c.self.inside in
    let now : Counting = record { words = i.words; others = i.others; pairs = i.pairs.items; pieces = i.pieces; documents = i.documents } in
    let before : IsCounted now met = subst (λ (v : Counting). IsCounted v met) (sym c.self.view_is) h in
    let pushed : List ℕ → Counting = λ pairs. record { words = i.words; others = i.others; pairs = pairs; pieces = 0; documents = i.documents } in
    subst (λ (next : List Mark). IsCounted (pushed c.push.new.self.items) (met ++ next)) (sym (met-mark c.args.ends stop c.if-not-ends.false))
    (subst (λ (pairs : List ℕ). IsCounted (pushed pairs) (met ++ stop ∷ [])) (sym c.in_ok-push.ensures.items) (stop-counted laws now met before))
