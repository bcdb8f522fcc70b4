-- One posting is taken from each run that has it first.
use Rattle.std.proofs.Common.{◌≡◌, ℕ, zero, suc, ◌+◌, ◌<◌, ◌≤◌, ◌^◌, inl, inr, List, [], ◌∷◌, length, refl, sym, ap, ◌∙◌, subst, arith, get_or, set, drop, Some, None}
use Rattle.std.specs.List.{AllByRecursion, All}
use Rattle.std.proofs.lemmas.Bool.{cases_eq}
use Rattle.std.proofs.lemmas.Bool.Decides.{nat_tests}
use Rattle.std.proofs.lemmas.List.{get_or-set_same, get_or-set_other}
use Rattle.std.proofs.lemmas.List.Elements.{All-set, All-tail}
use Rattle.std.proofs.lemmas.List.Sums.{sum_by-set, sum_by-cons}
use Rattle.mg_defs.specs.declared.TermPosting.{TermPosting}
use Rattle.mg_defs.specs.Postings.{IsBefore, AllAfter, RisingByTerm, AllCount, part_at, times, with_count, merged_two, merged}
use Rattle.mg_runs.specs.PostingOrder.{NoLater}
use Rattle.mg_defs.proofs.Gathering.{only_one, times-joined, Rising-joined, AllCount-joined, AllAfter-added}
use Rattle.mg_runs.specs.Decoding.{IsSmall}
use Rattle.mg_runs.specs.Cursors.{IsRun}
use Rattle.mg_runs.specs.Merging.{first, AllFrom, AreRuns, AreLeft, IsMerged, StandFor, times_all, IsTaking}
use Rattle.mg_runs.specs.declared.cursor.Cursor.{Cursor}

all_count : (xs : List TermPosting) → AllByRecursion (λ x. IsSmall x) xs → AllCount xs
all_count [] all = tt
all_count (x ∷ xs) all = (all.0.count_some, all_count xs all.1)

pub times-merged : (t d : ℕ) (lefts : List (List TermPosting)) → times t d (merged lefts) ≡ times_all t d lefts
times-merged t d [] = refl
times-merged t d (run ∷ runs) =
    times-joined t d run (merged runs) ∙ ap (λ n. times t d run + n) (times-merged t d runs) ∙ sym (sum_by-cons (λ (left : List TermPosting). times t d left) run runs)

pub Rising-merged : (lefts : List (List TermPosting)) → All (λ left. IsRun left) lefts → RisingByTerm (merged lefts)
Rising-merged [] all = tt
Rising-merged (run ∷ runs) all = Rising-joined run (merged runs) (Rising-merged runs (All-tail (λ l. IsRun l) run runs all))

pub AllCount-merged : (lefts : List (List TermPosting)) → All (λ left. IsRun left) lefts → AllCount (merged lefts)
AllCount-merged [] all = tt
AllCount-merged (run ∷ runs) all =
    let one : IsRun run = all 0 run (omega arith) in
    AllCount-joined run (merged runs) (all_count run one.small) (AllCount-merged runs (All-tail (λ l. IsRun l) run runs all))

AllAfter-joined : (p : TermPosting) (xs ys : List TermPosting) → AllAfter p xs → AllAfter p ys → AllAfter p (merged_two xs ys)
AllAfter-joined p [] ys a b = b
AllAfter-joined p (x ∷ xs) ys a b = AllAfter-added p x (merged_two xs ys) a.0 (AllAfter-joined p xs ys a.1 b)

AllAfter-merged : (p : TermPosting) (lefts : List (List TermPosting)) → ((k : ℕ) → k < length lefts → AllAfter p (get_or lefts k [])) → AllAfter p (merged lefts)
AllAfter-merged p [] all = tt
AllAfter-merged p (run ∷ runs) all =
    AllAfter-joined p run (merged runs) (all 0 (omega arith)) (AllAfter-merged p runs (λ k h. all (suc k) (omega arith)))

AllAfter-count : (p : TermPosting) (n : ℕ) (xs : List TermPosting) → AllAfter p xs → AllAfter (with_count p n) xs
AllAfter-count p n [] all = tt
AllAfter-count p n (y ∷ xs) all =
    let k : IsBefore p y = all.0 in
    (record { term = k.term; doc = k.doc }, AllAfter-count p n xs all.1)

part-sum : (p : TermPosting) (m n t d : ℕ) → part_at t d (with_count p (m + n)) ≡ part_at t d (with_count p m) + part_at t d (with_count p n)
part-sum p m n t d = grind (arith, nat_tests)

part-own : (p : TermPosting) (n : ℕ) → part_at p.term p.doc (with_count p n) ≡ n
part-own p n = grind (arith, nat_tests)

part-like : (p y : TermPosting) (t d : ℕ) → y.term ≡ p.term → y.doc ≡ p.doc → part_at t d y ≡ part_at t d (with_count p y.count)
part-like p y t d a b = grind (arith, nat_tests)

within : (xs : List (List TermPosting)) (i : ℕ) (y : TermPosting) (ys : List TermPosting) → get_or xs i [] ≡ y ∷ ys → i < length xs
within [] i y ys e = absurd cc
within (x ∷ xs) zero y ys e = omega arith
within (x ∷ xs) (suc i) y ys e = let h = within xs i y ys e in omega arith

pub run_at : (lefts : List (List TermPosting)) (w : ℕ) (y : TermPosting) (ys : List TermPosting) → All (λ l. IsRun l) lefts → get_or lefts w [] ≡ y ∷ ys → IsRun (y ∷ ys)
run_at lefts w y ys all e = subst (λ l. IsRun l) e (all w [] (within lefts w y ys e))

after_like : (x p : TermPosting) → x.term ≡ p.term → x.doc ≡ p.doc → (xs : List TermPosting) → AllAfter x xs → AllFrom p xs
after_like x p a b [] all = tt
after_like x p a b (y ∷ ys) all =
    let k : IsBefore x y = all.0 in
    (record { term = let t = k.term in omega arith; doc = λ e. let d = k.doc (a ∙ e) in omega arith }, after_like x p a b ys all.1)

tail_run : (y : TermPosting) (ys : List TermPosting) → IsRun (y ∷ ys) → IsRun ys
tail_run y ys run = record { rising = run.rising.1; small = run.small.1 }

-- times where one run lost its first posting
times_less : (lefts : List (List TermPosting)) (w : ℕ) (y : TermPosting) (ys : List TermPosting) (t d : ℕ) → get_or lefts w [] ≡ y ∷ ys →
    times_all t d (set lefts w ys) + part_at t d y ≡ times_all t d lefts
times_less lefts w y ys t d e =
    let f : List TermPosting → ℕ = λ left. times t d left in
    let s = sum_by-set f lefts w ys [] (within lefts w y ys e) in
    let here : times t d (get_or lefts w []) ≡ part_at t d y + times t d ys = ap (λ l. times t d l) e in
    omega arith

-- the first posting of all is taken from its run
pub taking_first : (base : List (List TermPosting)) (w : ℕ) (p : TermPosting) (ps : List TermPosting) → All (λ l. IsRun l) base →
    get_or base w [] ≡ p ∷ ps → ((k : ℕ) → AllFrom p (get_or base k [])) → IsTaking p base (set base w ps) p.count
taking_first base w p ps runs e from =
    let run : IsRun (p ∷ ps) = run_at base w p ps runs e in
    record {
      runs = All-set (λ l. IsRun l) base w ps (tail_run p ps run) runs;
      from = λ k. elim (cases_eq k w) [
        | inl same ↦ subst (λ l. AllFrom p l) (sym (ap (λ n. get_or (set base w ps) n []) same ∙ get_or-set_same base w ps [] (within base w p ps e))) (after_like p p refl refl ps run.rising.0)
        | inr other ↦ subst (λ l. AllFrom p l) (sym (get_or-set_other base w k ps [] other)) (from k)
      ];
      counted = λ t d. times_less base w p ps t d e;
    }

-- one more with the same term and document
pub taking_more : (p : TermPosting) (base now : List (List TermPosting)) (count w : ℕ) (y : TermPosting) (ys : List TermPosting) →
    IsTaking p base now count → get_or now w [] ≡ y ∷ ys → y.term ≡ p.term → y.doc ≡ p.doc → IsTaking p base (set now w ys) (count + y.count)
taking_more p base now count w y ys t e a b =
    let run : IsRun (y ∷ ys) = run_at now w y ys t.runs e in
    record {
      runs = All-set (λ l. IsRun l) now w ys (tail_run y ys run) t.runs;
      from = λ k. elim (cases_eq k w) [
        | inl same ↦ subst (λ l. AllFrom p l) (sym (ap (λ n. get_or (set now w ys) n []) same ∙ get_or-set_same now w ys [] (within now w y ys e))) (after_like y p a b ys run.rising.0)
        | inr other ↦ subst (λ l. AllFrom p l) (sym (get_or-set_other now w k ys [] other)) (t.from k)
      ];
      counted = λ u d. omega (arith, t.counted u d, times_less now w y ys u d e, part-sum p count y.count u d, part-like p y u d a b);
    }

-- the count fits
pub count_fits : (p : TermPosting) (base now : List (List TermPosting)) (count : ℕ) → IsTaking p base now count → AreRuns base → count < 2 ^ 32
count_fits p base now count t are =
    omega (arith, t.counted p.term p.doc, are.fits p.term p.doc, part-own p count)

-- where nothing of its term and document is left, the posting with its whole count comes first
pub taking_end : (p : TermPosting) (base now : List (List TermPosting)) (count : ℕ) → IsTaking p base now count → AreRuns base → 1 ≤ count →
    ((k : ℕ) → AllAfter p (get_or now k [])) → (merged base ≡ with_count p count ∷ merged now) × AreRuns now
taking_end p base now count t are some all =
    let after : AllAfter p (merged now) = AllAfter-merged p now (λ k h. all k) in
    let q : TermPosting = with_count p count in (
      only_one (merged base) (q ∷ merged now) (Rising-merged base are.runs) (AllAfter-count p count (merged now) after, Rising-merged now t.runs)
          (AllCount-merged base are.runs) (some, AllCount-merged now t.runs)
          (λ u d. omega (arith, times-merged u d base, times-merged u d now, t.counted u d)),
      record { runs = t.runs; fits = λ u d. omega (arith, are.fits u d, t.counted u d) },
    )

pub merged_none : (lefts : List (List TermPosting)) → ((k : ℕ) → get_or lefts k [] ≡ []) → merged lefts ≡ []
merged_none [] h = refl
merged_none (run ∷ runs) h =
    let e : run ≡ [] = h 0 in
    let r : merged runs ≡ [] = merged_none runs (λ k. h (suc k)) in
    ap (λ xs. merged_two xs (merged runs)) e ∙ r

-- where the least first posting is another one, or there is none, all are after this one
pub all_after_none : (p : TermPosting) (lefts : List (List TermPosting)) → ((k : ℕ) → get_or lefts k [] ≡ []) → (k : ℕ) → AllAfter p (get_or lefts k [])
all_after_none p lefts none k = subst (λ l. AllAfter p l) (sym (none k)) tt

strictly_from : (p h : TermPosting) → NoLater p h → (h.term ≡ p.term → h.doc ≡ p.doc → ⊥) → (xs : List TermPosting) → AllFrom h xs → AllAfter p xs
strictly_from p h le other [] all = tt
strictly_from p h le other (x ∷ xs) all =
    let k : NoLater h x = all.0 in
    let a = le.term in
    let b = k.term in (
      record {
        term = omega arith;
        doc = λ e.
            let s : p.term ≡ h.term = omega arith in
            let u : p.doc ≤ h.doc = le.doc s in
            let v : h.doc ≤ x.doc = k.doc (omega arith) in
            lt_or p.doc x.doc h.doc u v (λ same. other (sym s) same);
      },
      strictly_from p h le other xs all.1,
    )
  where
    lt_or : (a c b : ℕ) → a ≤ b → b ≤ c → (b ≡ a → ⊥) → a < c
    lt_or a c b u v other = omega arith

pub all_after_other : (p h : TermPosting) (lefts : List (List TermPosting)) (w : ℕ) → ((k : ℕ) → AllFrom p (get_or lefts k [])) →
    first (get_or lefts w []) ≡ Some h → ((k : ℕ) → AllFrom h (get_or lefts k [])) → (h.term ≡ p.term → h.doc ≡ p.doc → ⊥) → (k : ℕ) →
    AllAfter p (get_or lefts k [])
all_after_other p h lefts w from is least other k =
    strictly_from p h (head_from p h (get_or lefts w []) is (from w)) other (get_or lefts k []) (least k)
  where
    head_from : (p h : TermPosting) (xs : List TermPosting) → first xs ≡ Some h → AllFrom p xs → NoLater p h
    head_from p h [] e all = absurd cc
    head_from p h (x ∷ xs) e all = let same : x ≡ h = cc in subst (λ z. NoLater p z) same all.0

-- what is left, by the postings merged
pub left_none : (slots : List (List ℕ)) (cursors : List Cursor) (file : List ℕ) (left : List TermPosting) (lefts : List (List TermPosting)) →
    StandFor slots cursors file lefts → AreRuns lefts → merged lefts ≡ [] → merged lefts ≡ left →
    (None ≡ first left) × AreLeft slots cursors file (drop 1 left)
left_none slots cursors file left lefts stand are none same =
    let e : [] ≡ left = sym none ∙ same in
    subst (λ l. (None ≡ first l) × AreLeft slots cursors file (drop 1 l)) e (refl, record { lefts = lefts; stand = stand; are = are; same = none })

pub left_some : (slots : List (List ℕ)) (cursors : List Cursor) (file : List ℕ) (left : List TermPosting) (base : List (List TermPosting)) (p : TermPosting) →
    IsMerged slots cursors file base p → merged base ≡ left → (Some p ≡ first left) × AreLeft slots cursors file (drop 1 left)
left_some slots cursors file left base p m same =
    let e : p ∷ merged m.lefts ≡ left = sym m.same ∙ same in
    subst (λ l. (Some p ≡ first l) × AreLeft slots cursors file (drop 1 l)) e (refl, record { lefts = m.lefts; stand = m.stand; are = m.are; same = refl })
