-- Each page of Post is read once while a list is walked from its first block on.
use Rattle.std.proofs.Common.{arith, ◌≡◌, ◌+◌, ◌*◌, ◌-◌, ◌≤◌, ◌<◌, ℕ, List, length, Some, inl, inr, ◌∙◌, refl, subst}
use Rattle.std.specs.declared.option.Option.{Option}
use Rattle.std.proofs.lemmas.Bool.{cases_lt}
use Rattle.mg_dev.specs.declared.part.Part.{Part}
use Rattle.mg_bits.specs.Feed.{Device as Seen, Feeding, ReadsWithin, held_after, lacks, to_read}
use Rattle.mg_defs.specs.Lists.{bits_before, block_count, postings}
use Rattle.mg_defs.specs.PageBounds.{list_bit, parameter_of}
use Rattle.mg_defs.specs.PagesOf.{page_at, pages}
use Rattle.mg_defs.proofs.PageLaws.{pages_none, pages_some, pages_within}
use Rattle.mg_post.specs.ListReading.{span_to}
use Rattle.mg_post.specs.PagesOnce.{span_pages}
use Rattle.mg_post.proofs.EnterLaws.{to_read_most}
use Rattle.mg_post.proofs.PagesOnceLaws.{blocks_rise, range_none, range_some}

-- the page of the bit before this one is held, where it is behind the first one
abbrev pub HoldsLast : ℕ → ℕ → Option ℕ → Type 0
HoldsLast at place held = at < place → held ≡ Some (page_at (place - 1))

lacks_next : (p q : ℕ) → p ≤ q → lacks (Some p) q + p ≤ q
lacks_next p q le = grind (arith, le)

-- a range that begins behind the last bit that was read has no page twice
pub walk_pages : (at m n : ℕ) (held : Option ℕ) → at ≤ m → m ≤ n → HoldsLast at m held → to_read 4096 held m n + pages at m ≤ pages at n
walk_pages at m n held low le last =
    elim (cases_lt at m) [
      | inl some ↦ elim (cases_lt m n) [
        | inl more ↦ (
            let is = last some in
            let next : lacks held (page_at m) + page_at (m - 1) ≤ page_at m = rw is (lacks_next (page_at (m - 1)) (page_at m) (omega arith)) in
            omega (arith, (range_some held m n more).0, next, pages_some at m some, pages_some at n (omega (arith, some, le)), more, some))
        | inr none ↦ (let same : m ≡ n = omega (arith, le, none) in omega (arith, (range_none held m n none).0, subst (λ k. pages at m ≡ pages at k) same refl))
      ]
      | inr none ↦ omega (arith, pages_none at m none, to_read_most held m n, pages_within at m n n low (omega arith))
    ]

-- and the page of its last bit is held then
pub walk_holds : (at m n : ℕ) (held now : Option ℕ) → m ≤ n → HoldsLast at m held → now ≡ held_after 4096 held m n → HoldsLast at n now
walk_holds at m n held now le last is some =
    elim (cases_lt m n) [
      | inl more ↦ is ∙ (range_some held m n more).1
      | inr none ↦ (let same : m ≡ n = omega (arith, le, none) in
          is ∙ (range_none held m n none).1 ∙ subst (λ k. held ≡ Some (page_at (k - 1))) same (last (omega (arith, some, same))))
    ]

-- ---- the list of a term

-- the first blocks lie on no more pages than the list
pub span_within : (collection t : List ℕ) (blocks : ℕ) → blocks ≤ block_count (length (postings collection t)) → span_to collection t blocks ≤ span_pages collection t
span_within collection t blocks le =
    pages_within (list_bit collection t) (list_bit collection t) _ _ (omega arith)
    (blocks_rise (list_bit collection t) (parameter_of collection t) blocks (block_count (length (postings collection t))) (postings collection t) le)

-- a block more was read on
pub span_next : (collection t : List ℕ) (b k place to : ℕ) (f0 f1 : Feeding) (d0 d1 : Seen) (part : Part) → b ≡ parameter_of collection t →
    place ≡ list_bit collection t + bits_before b (64 * k) (postings collection t) → to ≡ list_bit collection t + bits_before b (64 * (k + 1)) (postings collection t) →
    f0.page ≡ 4096 → f0.part ≡ Some part → HoldsLast (list_bit collection t) place f0.held → ReadsWithin f0 f1 d0 d1 place to →
    d1.reads part + span_to collection t k ≤ d0.reads part + span_to collection t (k + 1)
span_next collection t b k place to f0 f1 d0 d1 part parameter from ends page own last within =
    let some : d1.reads part ≤ d0.reads part + to_read 4096 f0.held place to = subst (λ n. d1.reads part ≤ d0.reads part + to_read n f0.held place to) page (within.device part own) in
    let le : place ≤ to = omega (arith, from, ends, blocks_rise (list_bit collection t) b k (k + 1) (postings collection t) (omega arith)) in
    let walk = walk_pages (list_bit collection t) place to f0.held (omega (arith, from)) le last in
    let first : pages (list_bit collection t) place ≡ span_to collection t k = rw (from, parameter) refl in
    let then : pages (list_bit collection t) to ≡ span_to collection t (k + 1) = rw (ends, parameter) refl in
    omega (arith, some, walk, first, then)
