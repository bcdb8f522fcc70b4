-- Laws of the pages of blocks.
use Rattle.std.proofs.Common.{arith, ◌≡◌, ◌+◌, ◌*◌, ◌-◌, ◌/◌, ◌≤◌, ◌<◌, ◌^◌, ℕ, zero, suc, true, false, List, [], ◌∷◌, ◌++◌, length, take, drop, sum_by, refl, sym, ap, ◌∙◌, inl, inr, add-one, nat_lt, nat_le, length-append}
use Rattle.std.specs.Prelude.{filter}
use Rattle.std.proofs.lemmas.Bool.{cases_Bool, cases_lt, and_from, lt-ltb, le-leb, cond_both}
use Rattle.std.proofs.lemmas.List.{take-append-drop}
use Rattle.std.proofs.lemmas.List.Elements.{filter-append}
use Rattle.std.proofs.lemmas.List.Sums.{sum_by-append, sum_by-cons}
use Rattle.std.proofs.Math.Seq.{take-add}
use Rattle.mg_defs.specs.declared.Posting.{Posting}
use Rattle.mg_defs.specs.PagesOf.{pages}
use Rattle.mg_defs.specs.Lists.{bits_after, bits_before, last_doc, doc_before, block_pages, InRange}
use Rattle.mg_defs.proofs.ListLaws.{bits_append}
use Rattle.mg_defs.specs.PageBounds.{numbers, in_range, is_met, met_pages, whole_pages}

abbrev of_block : ℕ → ℕ → List Posting → ℕ → ℕ
of_block b at ps k = block_pages b at k ps

numbers_more : (n : ℕ) → numbers (n + 1) ≡ numbers n ++ n ∷ []
unfolding numbers
numbers_more n = rw add-one refl

pub whole_more : (b at n : ℕ) (ps : List Posting) → whole_pages b at (n + 1) ps ≡ whole_pages b at n ps + block_pages b at n ps
unfolding whole_pages
whole_more b at n ps =
    omega (arith, ap (sum_by (of_block b at ps)) (numbers_more n), sum_by-append (of_block b at ps) (numbers n) (n ∷ []), sum_by-cons (of_block b at ps) n [])

met_split : (asked : List ℕ) (b at n : ℕ) (ps : List Posting) → met_pages asked b at (n + 1) ps ≡ met_pages asked b at n ps + sum_by (of_block b at ps) (filter (is_met asked ps) (n ∷ []))
unfolding met_pages
met_split asked b at n ps =
    ap (λ ks. sum_by (of_block b at ps) (filter (is_met asked ps) ks)) (numbers_more n)
    ∙ ap (sum_by (of_block b at ps)) (filter-append (is_met asked ps) (numbers n) (n ∷ []))
    ∙ sum_by-append (of_block b at ps) (filter (is_met asked ps) (numbers n)) (filter (is_met asked ps) (n ∷ []))

pub met_hit : (asked : List ℕ) (b at n : ℕ) (ps : List Posting) → is_met asked ps n ≡ true → met_pages asked b at (n + 1) ps ≡ met_pages asked b at n ps + block_pages b at n ps
met_hit asked b at n ps hit =
    let one : filter (is_met asked ps) (n ∷ []) ≡ n ∷ [] = rw hit refl in
    omega (arith, met_split asked b at n ps, ap (sum_by (of_block b at ps)) one, sum_by-cons (of_block b at ps) n [])

pub met_miss : (asked : List ℕ) (b at n : ℕ) (ps : List Posting) → is_met asked ps n ≡ false → met_pages asked b at (n + 1) ps ≡ met_pages asked b at n ps
met_miss asked b at n ps miss =
    let none : filter (is_met asked ps) (n ∷ []) ≡ [] = rw miss refl in
    omega (arith, met_split asked b at n ps, ap (sum_by (of_block b at ps)) none)

pub met_step : (asked : List ℕ) (b at n : ℕ) (ps : List Posting) → met_pages asked b at n ps ≤ met_pages asked b at (n + 1) ps
met_step asked b at n ps = omega (arith, met_split asked b at n ps)

pub met_rises : (asked : List ℕ) (b at m n : ℕ) (ps : List Posting) → m ≤ n → met_pages asked b at m ps ≤ met_pages asked b at n ps
met_rises asked b at m zero ps le = let e : m ≡ 0 = omega arith in rw e (omega arith)
met_rises asked b at m (suc n) ps le =
    elim (cases_lt n m) [
      | inl past ↦ (let e : m ≡ suc n = omega arith in rw e (omega arith))
      | inr within ↦ (let e : suc n ≡ n + 1 = omega arith in rw e (omega (arith, met_rises asked b at m n ps within, met_step asked b at n ps)))
    ]

-- a block that may be read is entered, and the cursor stood before it
pub met_enters : (asked : List ℕ) (b at m k : ℕ) (ps : List Posting) → m ≤ k → is_met asked ps k ≡ true → met_pages asked b at m ps + block_pages b at k ps ≤ met_pages asked b at (k + 1) ps
met_enters asked b at m k ps le hit = omega (arith, met_rises asked b at m k ps le, met_hit asked b at k ps hit)

pub met_none : (asked : List ℕ) (b at : ℕ) (ps : List Posting) → met_pages asked b at 0 ps ≡ 0
unfolding met_pages numbers
met_none asked b at ps = refl

pub whole_none : (b at : ℕ) (ps : List Posting) → whole_pages b at 0 ps ≡ 0
unfolding whole_pages numbers
whole_none b at ps = refl

pub met_whole : (asked : List ℕ) (b at n : ℕ) (ps : List Posting) → met_pages asked b at n ps ≤ whole_pages b at n ps
met_whole asked b at zero ps = omega (arith, met_none asked b at ps, whole_none b at ps)
met_whole asked b at (suc n) ps =
    let e : suc n ≡ n + 1 = omega arith in
    rw e (elim (cases_Bool (is_met asked ps n)) [
      | inl hit ↦ omega (arith, met_hit asked b at n ps hit, whole_more b at n ps, met_whole asked b at n ps)
      | inr miss ↦ (
          let none : filter (is_met asked ps) (n ∷ []) ≡ [] = rw miss refl in
          omega (arith, met_split asked b at n ps, ap (sum_by (of_block b at ps)) none, whole_more b at n ps, met_whole asked b at n ps))
    ])

pub whole_rises : (b at m n : ℕ) (ps : List Posting) → m ≤ n → whole_pages b at m ps ≤ whole_pages b at n ps
whole_rises b at m zero ps le = let e : m ≡ 0 = omega arith in rw e (omega arith)
whole_rises b at m (suc n) ps le =
    elim (cases_lt n m) [
      | inl past ↦ (let e : m ≡ suc n = omega arith in rw e (omega arith))
      | inr within ↦ (let e : suc n ≡ n + 1 = omega arith in rw e (omega (arith, whole_rises b at m n ps within, whole_more b at n ps)))
    ]

-- ---- which blocks are met

pub range_true : (k : ℕ) (ps : List Posting) (doc : ℕ) → InRange k ps doc → in_range k ps doc ≡ true
range_true k ps doc in_it = and_from (nat_lt (doc_before (64 * k) ps) doc) (nat_le doc (doc_before (64 * (k + 1)) ps))
    (lt-ltb (doc_before (64 * k) ps) doc in_it.after) (le-leb doc (doc_before (64 * (k + 1)) ps) in_it.within)

-- ---- how many pages a list has at most

page_few : (from to : ℕ) → from ≤ to → 32768 * pages from to ≤ (to - from) + 65536
page_few from to le =
    cond_both (nat_lt from to) ((to - 1) / 32768 - from / 32768 + 1) 0 (λ n. 32768 * n ≤ (to - from) + 65536)
    (λ _. omega arith)
    (λ _. omega arith)

bits_next : (b n : ℕ) (ps : List Posting) → bits_before b (64 * n) ps ≤ bits_before b (64 * (n + 1)) ps
unfolding bits_before
bits_next b n ps =
    let e : 64 * (n + 1) ≡ 64 * n + 64 = omega arith in
    let two : take (64 * (n + 1)) ps ≡ take (64 * n) ps ++ take 64 (drop (64 * n) ps) = ap (λ m. take m ps) e ∙ take-add (64 * n) 64 ps in
    let long : bits_after b 0 (take (64 * (n + 1)) ps) ≡ bits_after b 0 (take (64 * n) ps)
    ++ bits_after b (last_doc 0 (take (64 * n) ps)) (take 64 (drop (64 * n) ps)) = ap (bits_after b 0) two
    ∙ bits_append b 0 (take (64 * n) ps) (take 64 (drop (64 * n) ps)) in
    omega (arith, ap length long, length-append (bits_after b 0 (take (64 * n) ps)) (bits_after b (last_doc 0 (take (64 * n) ps)) (take 64 (drop (64 * n) ps))))

block_few : (b at n : ℕ) (ps : List Posting) → 32768 * block_pages b at n ps ≤ (at + bits_before b (64 * (n + 1)) ps) - (at + bits_before b (64 * n) ps) + 65536
unfolding block_pages
block_few b at n ps = page_few (at + bits_before b (64 * n) ps) (at + bits_before b (64 * (n + 1)) ps) (omega (arith, bits_next b n ps))

pub whole_few : (b at n : ℕ) (ps : List Posting) → 32768 * whole_pages b at n ps ≤ bits_before b (64 * n) ps + 65536 * n
whole_few b at zero ps = omega (arith, whole_none b at ps)
whole_few b at (suc n) ps =
    let e : suc n ≡ n + 1 = omega arith in
    rw e (omega (arith, whole_few b at n ps, whole_more b at n ps, block_few b at n ps, bits_next b n ps))

pub bits_within : (b n : ℕ) (ps : List Posting) → bits_before b n ps ≤ length (bits_after b 0 ps)
unfolding bits_before
bits_within b n ps =
    let whole : bits_after b 0 ps ≡ bits_after b 0 (take n ps) ++ bits_after b (last_doc 0 (take n ps)) (drop n ps) =
    ap (bits_after b 0) (sym (take-append-drop n ps)) ∙ bits_append b 0 (take n ps) (drop n ps) in
    omega (arith, ap length whole, length-append (bits_after b 0 (take n ps)) (bits_after b (last_doc 0 (take n ps)) (drop n ps)))

-- a list that fits in its file never brings a count to its end
pub list_few : (b at n : ℕ) (ps : List Posting) → length (bits_after b 0 ps) ≤ 2 ^ 63 → n < 2 ^ 32 → whole_pages b at n ps < 2 ^ 50
list_few b at n ps small few = omega (arith, whole_few b at n ps, bits_within b (64 * n) ps)
