-- The terms of a lexicon, one after the other in one list of bytes, and what it tells of each.
use Rattle.std.specs.Prelude.{◌≡◌, ◌≤◌, ℕ, ◌+◌, ◌-◌, suc, List, [], ◌∷◌, length, take, drop, sum_by, slice_index, ◌==◌, if◌then◌else◌}
use Rattle.mg_defs.specs.Rotations.{most_rotations}
use Rattle.mg_layout.specs.Infos.{info_of}
use Rattle.mg_layout.specs.declared.term_info.TermInfo.{TermInfo}
use Rattle.mg_lex.specs.Terms.{FitsField}

-- terms in order, and what the lexicon tells of each
pub record LexTerms : Type 0 where
  pub terms : List (List ℕ)
  pub infos : List TermInfo

-- how many bytes strings have together
abbrev pub total : List (List ℕ) → ℕ
total strings = sum_by (λ t. length t) strings

-- the strings that end at these places, the first from a place on
abbrev pub cut : ℕ → List ℕ → List ℕ → List (List ℕ)
cut from [] bytes = []
cut from (end ∷ ends) bytes = take (end - from) (drop from bytes) ∷ cut end ends bytes

-- the places rise from one to another
abbrev pub AreEnds : ℕ → List ℕ → ℕ → Type 0
AreEnds from [] to = from ≡ to
AreEnds from (end ∷ ends) to = (from ≤ end) × AreEnds end ends to

-- each string has at most 255 bytes
abbrev pub AreShort : ℕ → List ℕ → Type 0
AreShort from [] = Unit {0}
AreShort from (end ∷ ends) = (end ≤ from + 255) × AreShort end ends

-- where the string of a number begins
abbrev pub start_of : List ℕ → ℕ → ℕ
start_of ends number = if number == 0 then 0 else slice_index ends (number - 1)

-- it tells its number, and fits in its field
pub record IsNumbered (number : ℕ) (info : TermInfo) : Type 0 where
  pub number_is : info.number ≡ number
  pub fits : FitsField (info_of info)

abbrev pub AreNumbered : ℕ → List TermInfo → Type 0
AreNumbered number [] = Unit {0}
AreNumbered number (info ∷ infos) = IsNumbered number info × AreNumbered (suc number) infos

-- the bytes are those of the terms that end at these places, and each term has its info
pub record IsTermBlock (ends bytes : List ℕ) (infos : List TermInfo) : Type 0 where
  pub few : length bytes + length ends ≤ most_rotations
  pub ends_are : AreEnds 0 ends (length bytes)
  pub short : AreShort 0 ends
  pub each : length infos ≡ length ends
  pub numbered : AreNumbered 0 infos
