-- The heads of the collection "a a a a ", eight bytes with an open end, in both versions, and what is wrong in damaged ones.
use Rattle.std.proofs.Common.{◌≡◌, ◌++◌, List, ℕ, [], ◌∷◌, refl, true, take, drop, None, Some, set}
use Rattle.mg_defs.specs.Numbers.{four, eight, four_at, eight_at}
use Rattle.mg_defs.specs.Heads.{Head, head_bytes, first_damage, exactly, within, read_head}

small : ℕ → Head
small version = record {
  version = version;
  documents = 1;
  words = 1;
  others = 1;
  terms = 1;
  cap = 1398101;
  open_end = true;
  collection = 8;
  occurrences = 4;
  runs = 1;
  text_bytes = 2;
  post_bytes = 1;
  skip_count = 1;
}

version_1 : List ℕ
version_1 =
    0x4d ∷ 0x47 ∷ 0x52 ∷ 0x4f ∷ 0x57 ∷ 0x76 ∷ 0x31 ∷ 0x0a ∷ 0 ∷ 0 ∷ 0 ∷ 1 ∷ 0 ∷ 0 ∷ 0 ∷ 1 ∷ 0 ∷ 0 ∷ 0 ∷ 1 ∷ 0 ∷ 0 ∷ 0 ∷ 1 ∷ 0 ∷ 0x15 ∷ 0x55 ∷ 0x55 ∷ 0 ∷ 0 ∷ 0 ∷
    1 ∷ 0 ∷ 0 ∷ 0 ∷ 8 ∷ 0 ∷ 0 ∷ 0 ∷ 4 ∷ 0 ∷ 0 ∷ 0 ∷ 1 ∷ 0 ∷ 0 ∷ 0 ∷ 2
    ∷ 0 ∷ 0 ∷ 0 ∷ 0 ∷ 0 ∷ 0 ∷ 0 ∷ 1 ∷ 0 ∷ 0 ∷ 0 ∷ 0 ∷ 0 ∷ 0 ∷ 0 ∷ 1 ∷ []

version_2 : List ℕ
version_2 =
    0x4d ∷ 0x47 ∷ 0x52 ∷ 0x4f ∷ 0x57 ∷ 0x76 ∷ 0x32 ∷ 0x0a ∷ 0 ∷ 0 ∷ 0 ∷ 1 ∷ 0 ∷ 0 ∷ 0 ∷ 1 ∷ 0 ∷ 0 ∷ 0 ∷ 1 ∷ 0 ∷ 0 ∷ 0 ∷ 1 ∷ 0 ∷ 0x15 ∷ 0x55 ∷ 0x55 ∷ 0 ∷ 0 ∷ 0 ∷
    1 ∷ 0 ∷ 0 ∷ 0 ∷ 0 ∷ 0 ∷ 0 ∷ 0 ∷ 8 ∷ 0 ∷ 0 ∷ 0 ∷ 0 ∷ 0 ∷ 0 ∷ 0 ∷ 4
    ∷ 0 ∷ 0 ∷ 0 ∷ 1 ∷ 0 ∷ 0 ∷ 0 ∷ 0 ∷ 0 ∷ 0 ∷ 0 ∷ 0 ∷ 0 ∷ 0 ∷ 0 ∷ 2 ∷ 0 ∷ 0 ∷ 0 ∷ 0 ∷ 0 ∷ 0 ∷ 0 ∷ 1 ∷ 0 ∷ 0 ∷ 0 ∷ 0 ∷ 0 ∷ 0 ∷ 0 ∷ 1 ∷ []

first_bytes : head_bytes (small 1) ≡ version_1
unfolding head_bytes four eight small version_1
first_bytes = refl

second_bytes : head_bytes (small 2) ≡ version_2
unfolding head_bytes four eight small version_2
second_bytes = refl

first_read : read_head version_1 ≡ small 1
unfolding read_head four_at eight_at small version_1
first_read = refl

whole : first_damage 1 2 version_1 ≡ None
unfolding first_damage four_at eight_at version_1
whole = refl

whole_too : first_damage 1 2 version_2 ≡ None
unfolding first_damage four_at eight_at version_2
whole_too = refl

ten_bytes : first_damage 1 2 (take 10 version_1) ≡ Some (exactly 0 64 10)
unfolding first_damage version_1
ten_bytes = refl

byte_seven : first_damage 1 2 (set version_1 7 11) ≡ Some (exactly 7 10 11)
unfolding first_damage four_at eight_at version_1
byte_seven = refl

-- 64 bytes that say version 2, and 80 that say version 1
too_short : first_damage 1 2 (set version_1 6 50) ≡ Some (exactly 0 80 64)
unfolding first_damage four_at eight_at version_1
too_short = refl

too_long : first_damage 1 2 (set version_2 6 49) ≡ Some (exactly 0 64 80)
unfolding first_damage four_at eight_at version_2
too_long = refl

another_digit : first_damage 1 2 (set version_2 6 51) ≡ Some (within 6 49 50 51)
unfolding first_damage four_at eight_at version_2
another_digit = refl

many_documents : first_damage 1 2 (set version_1 9 16) ≡ Some (within 8 0 1048576 1048577)
unfolding first_damage four_at eight_at version_1
many_documents = refl

small_cap : first_damage 1 2 (take 24 version_1 ++ (0 ∷ 0 ∷ 1 ∷ 0x54 ∷ drop 28 version_1)) ≡ Some (within 24 341 89478485 340)
unfolding first_damage four_at eight_at version_1
small_cap = refl

two_runs : first_damage 1 2 (set version_1 43 2) ≡ Some (exactly 40 1 2)
unfolding first_damage four_at eight_at version_1
two_runs = refl

not_zero : first_damage 1 2 (set version_2 55 1) ≡ Some (exactly 52 0 1)
unfolding first_damage four_at eight_at version_2
not_zero = refl
