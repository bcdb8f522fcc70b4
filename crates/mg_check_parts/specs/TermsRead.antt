-- The terms of a document that was read last, and how often each comes.
use Rattle.std.specs.Prelude.{◌≡◌, ℕ, ◌+◌, ◌*◌, ◌<◌, ◌≤◌, ◌^◌, ◌==◌, ◌⊎◌, nat_eq, nat_lt, if◌then◌else◌, List, [], ◌∷◌, ◌++◌, All, length, get_or, map, filter, sum_by, count_by}
use Rattle.std.specs.Cmp.Lexicographic.{slice_cmp}
use Rattle.std.specs.List.{enumerate_from}
use Rattle.std.specs.List.Sorted.{IsStrictlySortedBy}
use Rattle.std.specs.Ordering.{nat_cmp}
use Rattle.mg_defs.specs.Fixed.{isqrt}
use Rattle.mg_defs.specs.Weights.{weight_in_doc}
use Rattle.mg_check_parts.specs.Documents.{counted_in, numbers_in}

-- the numbers of the terms that were read last, in reading order, and how often each comes
pub record TermsRead : Type 0 where
  pub numbers : List ℕ
  pub counted : List (ℕ × ℕ)

-- each of these terms that comes among numbers, by its number, and how often it comes
abbrev pub counted_among : List (List ℕ) → List ℕ → List (ℕ × ℕ)
counted_among dictionary numbers =
    filter (λ (e : ℕ × ℕ). nat_lt 0 e.1) (map (λ (e : ℕ × List ℕ). (e.0, count_by (nat_eq e.0) numbers))
    (enumerate_from 0 dictionary))

-- how many of these counts are those of a number
abbrev pub entries_of : ℕ → List (ℕ × ℕ) → ℕ
entries_of number counted = sum_by (λ (e : ℕ × ℕ). if number == e.0 then 1 else 0) counted

-- how often a number was counted by all of them
abbrev pub count_of : ℕ → List (ℕ × ℕ) → ℕ
count_of number counted = sum_by (λ (e : ℕ × ℕ). if number == e.0 then e.1 else 0) counted

-- the count of a number stands at a place
abbrev pub IsCountOf : ℕ → List (ℕ × ℕ) → ℕ → Type 0
IsCountOf number counted place = (place < length counted) × ((get_or counted place (0, 0)).0 ≡ number)

-- counts of numbers in the order in which they first came, and where each of them stands
pub record AreTallied (numbers places : List ℕ) (counted : List (ℕ × ℕ)) : Type 0 where
  -- a number that has a count has it at its place
  pub found : (n : ℕ) → (entries_of n counted ≡ 0) ⊎ IsCountOf n counted (get_or places n 0)
  -- it has one at most
  pub once : (n : ℕ) → entries_of n counted ≤ 1
  -- and comes at least once
  pub some : (n : ℕ) → entries_of n counted ≤ count_of n counted
  -- so often as it is counted
  pub often : (n : ℕ) → count_of n counted ≡ count_by (nat_eq n) numbers

-- one number more is counted, whatever was counted before
pub record CountsOne (number : ℕ) (places_before places_now : List ℕ) (before now : List (ℕ × ℕ)) : Type 0 where
  pub tallied : (numbers : List ℕ) → AreTallied numbers places_before before → AreTallied (numbers ++ number ∷ []) places_now now
  pub places : length places_now ≡ length places_before
  pub more : length now ≤ length before + 1

-- a term of so many, and a count
pub record IsCounted (terms : ℕ) (e : ℕ × ℕ) : Type 0 where
  pub term : e.0 < terms
  pub some : 1 ≤ e.1
  pub few : e.1 < 2 ^ 32

-- the weight of a document, by how often it has each of its terms
abbrev pub weight_of_counts : List (ℕ × ℕ) → ℕ
weight_of_counts counted = isqrt (sum_by (λ (e : ℕ × ℕ). weight_in_doc e.1 * weight_in_doc e.1) counted)

-- the terms that were read are those of a document, by this dictionary
pub record AreTermsOf (words : List (List ℕ)) (doc : List ℕ) (t : TermsRead) : Type 0 where
  -- the terms of the dictionary rise
  pub rising : IsStrictlySortedBy (slice_cmp nat_cmp) words
  -- no dictionary has more
  pub few : length words ≤ 2 ^ 22
  -- the numbers of the document's terms, in reading order
  pub numbers : t.numbers ≡ numbers_in words doc
  -- each is that of a term
  pub within : All (λ n. n < length words) t.numbers
  -- how often each of the distinct ones comes
  pub counted : t.counted ≡ counted_in words doc
  -- each is a term, which comes at least once
  pub counts : All (IsCounted (length words)) t.counted
  -- no document has more terms
  pub short : length t.numbers < 2 ^ 32

-- the terms that were read are those of some document
pub record AreTermsOfSome (words : List (List ℕ)) (t : TermsRead) : Type 0 where
  pub doc : List ℕ
  pub terms : AreTermsOf words doc t
