-- The page of a weight, where it is read or held.
use Rattle.std.proofs.Common.{arith, ◌≡◌, ◌+◌, ◌*◌, ◌-◌, ◌<◌, ℕ, Option, Some, ◌∙◌, ap}
use Rattle.std.proofs.lemmas.Grind.{common_steps}
use Rattle.mg_bits.specs.Feed.{Feeding, HoldsBits, held_after, lacks, page_of, to_read}
use Rattle.mg_rank.specs.WeightReads.{weight_page}

-- the four bytes of a weight lie on one page
pub four_read : (held : Option ℕ) (d at n : ℕ) → at ≡ 4 * (d - 1) → n ≡ 4 → to_read 4096 held (8 * at) (8 * (at + n)) ≡ lacks held (weight_page d)
four_read held d at n is four = one held (8 * at) (8 * (at + n)) (weight_page d) (omega (arith, four)) (omega (arith, is)) (omega (arith, is, four))
  where
    one : (held : Option ℕ) (from to p : ℕ) → from < to → page_of 4096 from ≡ p → page_of 4096 (to - 1) ≡ p → to_read 4096 held from to ≡ lacks held p
    one held from to p lt low high = grind (arith, common_steps, lt, low, high)

pub four_held : (held : Option ℕ) (d at n : ℕ) → at ≡ 4 * (d - 1) → n ≡ 4 → held_after 4096 held (8 * at) (8 * (at + n)) ≡ Some (weight_page d)
four_held held d at n is four = one held (8 * at) (8 * (at + n)) (weight_page d) (omega (arith, four)) (omega (arith, is, four))
  where
    one : (held : Option ℕ) (from to p : ℕ) → from < to → page_of 4096 (to - 1) ≡ p → held_after 4096 held from to ≡ Some p
    one held from to p lt high = grind (arith, common_steps, lt, high)

-- the page that is held has the weight
pub word_held : (feed : Feeding) (d at : ℕ) → feed.page ≡ 4096 → at ≡ 4 * (d - 1) → HoldsBits feed (8 * at) 64 → feed.held ≡ Some (weight_page d)
word_held feed d at page is holds =
    let place : page_of feed.page (8 * at) ≡ weight_page d = ap (λ n. page_of n (8 * at)) page ∙ omega (arith, is) in
    holds.first ∙ ap Some place
