-- Laws of the pages of a range of bits.
use Rattle.std.proofs.Common.{arith, ◌≡◌, ◌+◌, ◌*◌, ◌-◌, ◌≤◌, ◌<◌, ℕ, inl, inr}
use Rattle.std.proofs.lemmas.Grind.{common_steps}
use Rattle.std.proofs.lemmas.Bool.{cases_lt, cond-true, cond-false, lt-ltb, le-ltb}
use Rattle.mg_defs.specs.PagesOf.{page_at, HasBit, pages}

pub pages_some : (from to : ℕ) → from < to → pages from to ≡ page_at (to - 1) - page_at from + 1
pages_some from to lt = cond-true _ _ _ (lt-ltb from to lt)

pub pages_none : (from to : ℕ) → to ≤ from → pages from to ≡ 0
pages_none from to le = cond-false _ _ _ (le-ltb from to le)

-- the pages with a bit of a range go from that of its first bit to that of its last
pub first_to_last : (from to page : ℕ) → HasBit from to page → (from < to) × (page_at from ≤ page) × (page ≤ page_at (to - 1))
first_to_last from to page bit = (omega (arith, bit.low, bit.high), omega (arith, bit.low, bit.on), omega (arith, bit.high, bit.on))

pub all_have_bits : (from to page : ℕ) → from < to → page_at from ≤ page → page ≤ page_at (to - 1) → HasBit from to page
all_have_bits from to page some low high =
    elim (cases_lt from (32768 * page)) [
      | inl lt ↦ record { place = 32768 * page; low = omega (arith, lt); high = omega (arith, lt); on = omega arith }
      | inr ge ↦ record { place = from; low = omega arith; high = some; on = omega (arith, ge) }
    ]

-- a range in two parts has at most the pages of both
pub pages_of_both : (a p q : ℕ) → a ≤ p → p ≤ q → pages a q ≤ pages a p + pages p q
pages_of_both a p q ap pq =
    elim (cases_lt a p) [
      | inl one ↦ elim (cases_lt p q) [
        | inl two ↦ omega (arith, pages_some a p one, pages_some p q two, pages_some a q (omega (arith, one, two)))
        | inr none ↦ let e : p ≡ q = omega (arith, none) in omega (arith, pages_some a p one, pages_some a q (omega (arith, one, e)), e)
      ]
      | inr none ↦ let e : a ≡ p = omega (arith, none) in omega (arith, e, same_pages a p q e)
    ]
  where
    same_pages : (a p q : ℕ) → a ≡ p → pages a q ≤ pages p q
    same_pages a p q e = grind (arith, common_steps, e)

-- a range within another has at most its pages
pub pages_within : (a b p q : ℕ) → a ≤ b → p ≤ q → pages b p ≤ pages a q
pages_within a b p q ab pq =
    elim (cases_lt b p) [
      | inl some ↦ omega (arith, pages_some b p some, pages_some a q (omega (arith, some)))
      | inr none ↦ omega (arith, pages_none b p none)
    ]
