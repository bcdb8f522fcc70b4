use Rattle.std.proofs.Common.{◌≡◌, ◌≤◌, ◌^◌, ◌++◌, ◌∷◌, ◌+◌, List, [], ℕ, length, ap, arith, sym, subst}
use Rattle.std.proofs.lemmas.Result.{IfErr-weaker}
use Rattle.mg_defs.specs.declared.Stream.{Stream}
use Rattle.mg_defs.specs.declared.Stream.TheVariants.{Words, Others}
use Rattle.mg_defs.specs.Marks.{Mark, piece}
use Rattle.mg_defs.specs.Vocabulary.{counted, total}
use Rattle.mg_count.specs.Counting.{AreFew, Counting, IsCounted, PieceStops, StopsAt}
use Rattle.mg_count.specs.Whole.{fault_by}
use Rattle.mg_count.proofs.Counted.{AddUp, few-front, few-now, ok-both, other-counted, other-fits, other-stops, word-counted, word-fits, word-stops}
use Rattle.mg_count.proofs.counts.Counts.add.Goals as goal

pub overflow_add-self : goal.overflow_add-self
overflow_add-self c =
    let e = c.marks_add_up.ensures in
    let laws : AddUp = record { documents = e.documents; pieces = e.pieces; pairs = e.pairs; last = e.last } in
    let few = c.requires.few in
    let pieces : c.self.inside.pieces ≡ c.args.self.now.pieces = ap (λ (v : Counting). v.pieces) c.self.view_is in
    omega (arith, pieces, few-now c.args.self.now few.0 few.1 (few-front laws few.0 (piece c.args.stream c.args.bytes.now ∷ []) few.2))

pub count_in-requires-clause-total : goal.count_in-requires-clause-total
count_in-requires-clause-total c =
    let e = c.marks_add_up.ensures in
    let laws : AddUp = record { documents = e.documents; pieces = e.pieces; pairs = e.pairs; last = e.last } in
    let few = c.requires.few in
    let words : total c.self.inside.words ≡ total c.args.self.now.words = ap (λ (v : Counting). total v.words) c.self.view_is in
    let mark = ap (λ kind. piece kind c.args.bytes.now ∷ []) c.in-Words.is in
    omega (arith, words, word-fits laws c.args.self.now few.0 c.args.bytes.now few.1 (subst (λ (next : List Mark). AreFew (few.0 ++ next)) mark few.2))

pub count_in-requires-in-Others-clause-total : goal.count_in-requires-in-Others-clause-total
count_in-requires-in-Others-clause-total c =
    let e = c.marks_add_up.ensures in
    let laws : AddUp = record { documents = e.documents; pieces = e.pieces; pairs = e.pairs; last = e.last } in
    let few = c.requires.few in
    let others : total c.self.inside.others ≡ total c.args.self.now.others = ap (λ (v : Counting). total v.others) c.self.view_is in
    let mark = ap (λ kind. piece kind c.args.bytes.now ∷ []) c.in-Others.is in
    omega (arith, others, other-fits laws c.args.self.now few.0 c.args.bytes.now few.1 (subst (λ (next : List Mark). AreFew (few.0 ++ next)) mark few.2))

pub returns-in-Words-clause-counted : goal.returns-in-Words-clause-counted
returns-in-Words-clause-counted c =
    let e = c.marks_add_up.ensures in
    let laws : AddUp = record { documents = e.documents; pieces = e.pieces; pairs = e.pairs; last = e.last } in
    let i = c.self.inside in
    let now : Counting = record { words = i.words; others = i.others; pairs = i.pairs.items; pieces = i.pieces; documents = i.documents } in
    let new : List (List ℕ × ℕ) = c.count_in.new.vocab in
    let after : Counting = record { words = new; others = i.others; pairs = i.pairs.items; pieces = i.pieces + 1; documents = i.documents } in
    let mark = ap (λ kind. piece kind c.args.bytes.now ∷ []) c.in-Words.is in
    ok-both c.count_in.result (new ≡ counted c.args.bytes.now i.words) (length new ≤ 2 ^ 22) _ c.count_in.ensures.counted c.count_in.ensures.few
    (λ is few met h.
    let before : IsCounted now met = subst (λ (v : Counting). IsCounted v met) (sym c.self.view_is) h in
    subst (λ (next : List Mark). IsCounted after (met ++ next)) (sym mark) (word-counted laws now new met c.args.bytes.now is few before))

pub returns-in-Words-clause-refused : goal.returns-in-Words-clause-refused
returns-in-Words-clause-refused c =
    let e = c.marks_add_up.ensures in
    let laws : AddUp = record { documents = e.documents; pieces = e.pieces; pairs = e.pairs; last = e.last } in
    let i = c.self.inside in
    let now : Counting = record { words = i.words; others = i.others; pairs = i.pairs.items; pieces = i.pieces; documents = i.documents } in
    IfErr-weaker c.count_in.result (λ refusal. (stream : Stream) → PieceStops stream i.words c.args.bytes.now (fault_by stream refusal)) _
    (λ refusal stops met h.
    let before : IsCounted now met = subst (λ (v : Counting). IsCounted v met) (sym c.self.view_is) h in
    subst (λ (kind : Stream). StopsAt met (piece kind c.args.bytes.now ∷ []) (fault_by kind refusal)) (sym c.in-Words.is)
    (word-stops laws now met c.args.bytes.now (fault_by Words refusal) before (stops Words)))
    c.count_in.ensures.refused

pub returns-in-Others-clause-counted : goal.returns-in-Others-clause-counted
returns-in-Others-clause-counted c =
    let e = c.marks_add_up.ensures in
    let laws : AddUp = record { documents = e.documents; pieces = e.pieces; pairs = e.pairs; last = e.last } in
    let i = c.self.inside in
    let now : Counting = record { words = i.words; others = i.others; pairs = i.pairs.items; pieces = i.pieces; documents = i.documents } in
    let new : List (List ℕ × ℕ) = c.count_in-in-Others.new.vocab in
    let after : Counting = record { words = i.words; others = new; pairs = i.pairs.items; pieces = i.pieces + 1; documents = i.documents } in
    let mark = ap (λ kind. piece kind c.args.bytes.now ∷ []) c.in-Others.is in
    ok-both c.count_in-in-Others.result (new ≡ counted c.args.bytes.now i.others) (length new ≤ 2 ^ 22) _ c.count_in-in-Others.ensures.counted c.count_in-in-Others.ensures.few
    (λ is few met h.
    let before : IsCounted now met = subst (λ (v : Counting). IsCounted v met) (sym c.self.view_is) h in
    subst (λ (next : List Mark). IsCounted after (met ++ next)) (sym mark) (other-counted laws now new met c.args.bytes.now is few before))

pub returns-in-Others-clause-refused : goal.returns-in-Others-clause-refused
returns-in-Others-clause-refused c =
    let e = c.marks_add_up.ensures in
    let laws : AddUp = record { documents = e.documents; pieces = e.pieces; pairs = e.pairs; last = e.last } in
    let i = c.self.inside in
    let now : Counting = record { words = i.words; others = i.others; pairs = i.pairs.items; pieces = i.pieces; documents = i.documents } in
    IfErr-weaker c.count_in-in-Others.result (λ refusal. (stream : Stream) → PieceStops stream i.others c.args.bytes.now (fault_by stream refusal)) _
    (λ refusal stops met h.
    let before : IsCounted now met = subst (λ (v : Counting). IsCounted v met) (sym c.self.view_is) h in
    subst (λ (kind : Stream). StopsAt met (piece kind c.args.bytes.now ∷ []) (fault_by kind refusal)) (sym c.in-Others.is)
    (other-stops laws now met c.args.bytes.now (fault_by Others refusal) before (stops Others)))
    c.count_in-in-Others.ensures.refused
