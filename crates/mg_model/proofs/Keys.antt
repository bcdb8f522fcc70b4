-- Keys of pieces: what a key tells, that it is the only one of its piece, and that more of the longer pieces change none.
use Rattle.std.proofs.Common.{◌≡◌, ℕ, zero, suc, ◌+◌, ◌<◌, ◌≤◌, ◌^◌, ◌-◌, Bool, true, false, not, cond, if◌then◌else◌, List, [], ◌∷◌, ◌++◌, Vec, Global, length, slice_index, slice_get, replicate, position, None, Some, refl, sym, ap, subst, ◌∙◌, inl, inr, arith, add-zero, append-nil, eqb, ltb, length-append}
use Rattle.std.specs.Cmp.{both_ways}
use Rattle.std.specs.Cmp.Lexicographic.{bytes_decides}
use Rattle.std.specs.List.{position_or_len, list_any}
use Rattle.std.specs.Str.{bytes_eq}
use Rattle.std.proofs.lemmas.Bool.{cases_Bool, cases_lt, eqb-true, le-leb, lt-leb, lt-ltb, ltb-true}
use Rattle.std.proofs.Math.Seq.{take-append_seam}
use Rattle.std.proofs.lemmas.List.Folds.{position_or_len_push}
use Rattle.indexmap.specs.IndexSet.{insert_key}
use Rattle.mg_defs.specs.Numbers.{eight, eight_at}
use Rattle.mg_defs.proofs.NumberLaws.{eight_back}
use Rattle.mg_model.specs.Blocks.{short_piece}
use Rattle.mg_model.specs.Keys.{Longer, short_key, longer_key, longer_at, holds, piece_in, key_in, HasNumber, IsKeyOf, HasNoNumber, Extends}

pub piece-short : (longer : Longer) (key : List ℕ) → slice_index key 0 ≤ 15 → piece_in longer key ≡ short_piece key
piece-short longer key h = ap (λ b. if b then short_piece key else longer_at longer (eight_at key 1)) (le-leb (slice_index key 0) 15 h)

pub piece-longer : (longer : Longer) (key : List ℕ) → 15 < slice_index key 0 → piece_in longer key ≡ longer_at longer (eight_at key 1)
piece-longer longer key h = ap (λ b. if b then short_piece key else longer_at longer (eight_at key 1)) (lt-leb (slice_index key 0) 15 h)

key-short : (longer : Longer) (piece : List ℕ) → length piece ≤ 15 → key_in longer piece ≡ short_key piece
key-short longer piece h = ap (λ b. if b then short_key piece else longer_key (position_or_len (holds piece) longer)) (le-leb (length piece) 15 h)

key-longer : (longer : Longer) (piece : List ℕ) → 15 < length piece → key_in longer piece ≡ longer_key (position_or_len (holds piece) longer)
key-longer longer piece h = ap (λ b. if b then short_key piece else longer_key (position_or_len (holds piece) longer)) (lt-leb (length piece) 15 h)

-- ---- the first place at which a test passes

pub position-some : {X : Type 0} (p : X → Bool) (xs : List X) (i : ℕ) → position p xs ≡ Some i → (position_or_len p xs ≡ i) × (position_or_len p xs < length xs)
position-some p xs i h = by (ltb (position_or_len p xs) (length xs)) refl h
  where
    by : (b : Bool) → ltb (position_or_len p xs) (length xs) ≡ b → cond b (Some (position_or_len p xs)) None ≡ Some i →
        (position_or_len p xs ≡ i) × (position_or_len p xs < length xs)
    by true low is = let same : position_or_len p xs ≡ i = cc in (same, ltb-true (position_or_len p xs) (length xs) low)
    by false low is = absurd cc

pub position-none : {X : Type 0} (p : X → Bool) (xs : List X) → position p xs ≡ None → length xs ≤ position_or_len p xs
position-none p xs h =
    elim (cases_lt (position_or_len p xs) (length xs)) [
      | inl low ↦
          let found : position p xs ≡ Some (position_or_len p xs) = ap (λ b. cond b (Some (position_or_len p xs)) None) (lt-ltb (position_or_len p xs) (length xs) low) in
          absurd cc
      | inr high ↦ high
    ]

-- ---- the longer pieces

pub longer-there : (longer : Longer) (number : ℕ) (kept : Vec ℕ Global) → slice_get longer number ≡ Some kept → longer_at longer number ≡ kept.items
longer-there [] number kept h = absurd cc
longer-there (b ∷ bs) zero kept h = let same : b ≡ kept = cc in ap (λ (x : Vec ℕ Global). x.items) same
longer-there (b ∷ bs) (suc number) kept h = longer-there bs number kept h

pub longer-none : (longer : Longer) (number : ℕ) → slice_get longer number ≡ None → longer_at longer number ≡ []
longer-none [] number h = refl
longer-none (b ∷ bs) zero h = absurd cc
longer-none (b ∷ bs) (suc number) h = longer-none bs number h

-- the first that is a piece has its bytes
longer-found : (longer : Longer) (piece : List ℕ) → position_or_len (holds piece) longer < length longer → longer_at longer (position_or_len (holds piece) longer) ≡ piece
longer-found [] piece h = absurd (omega arith)
longer-found (b ∷ bs) piece h = by (bytes_eq piece b.items) refl h (longer-found bs piece)
  where
    rest : ℕ
    rest = position_or_len (holds piece) bs

    by : (t : Bool) → bytes_eq piece b.items ≡ t → cond (not t) (1 + rest) 0 < suc (length bs) →
        (rest < length bs → longer_at bs rest ≡ piece) → longer_at (b ∷ bs) (cond (not t) (1 + rest) 0) ≡ piece
    by true is h later = sym ((bytes_decides piece b.items).0 is)
    by false is h later = let n : suc rest ≡ 1 + rest = omega arith in subst (λ m. longer_at (b ∷ bs) m ≡ piece) n (later (omega arith))

longer-kept : (longer more : Longer) (number : ℕ) → number < length longer → longer_at (longer ++ more) number ≡ longer_at longer number
longer-kept [] more number h = absurd (omega arith)
longer-kept (b ∷ bs) more zero h = refl
longer-kept (b ∷ bs) more (suc number) h = longer-kept bs more number (omega arith)

place-kept : (longer more : Longer) (piece : List ℕ) → position_or_len (holds piece) longer < length longer →
    position_or_len (holds piece) (longer ++ more) ≡ position_or_len (holds piece) longer
place-kept [] more piece h = absurd (omega arith)
place-kept (b ∷ bs) more piece h = by (bytes_eq piece b.items) h (place-kept bs more piece)
  where
    rest : ℕ
    rest = position_or_len (holds piece) bs

    all : ℕ
    all = position_or_len (holds piece) (bs ++ more)

    by : (t : Bool) → cond (not t) (1 + rest) 0 < suc (length bs) → (rest < length bs → all ≡ rest) → cond (not t) (1 + all) 0 ≡ cond (not t) (1 + rest) 0
    by true h later = refl
    by false h later = ap (λ n. 1 + n) (later (omega arith))

-- ---- keys that are made

pub short-is : (longer : Longer) (key piece : List ℕ) → length piece ≤ 15 → key ≡ short_key piece → IsKeyOf longer key piece
short-is longer key piece few same = record {
  piece_is = ap (piece_in longer) same ∙ piece-short longer (short_key piece) few ∙ take-append_seam piece (replicate (15 - length piece) 0);
  key_is = same ∙ sym (key-short longer piece few);
  number = λ many. absurd (omega arith);
}

eight-there : (number : ℕ) → number < 2 ^ 64 → eight_at (longer_key number) 1 ≡ number
unfolding eight_at
eight-there number small = eight_back number small (replicate (15 - length (eight number)) 0)

pub longer-is : (longer : Longer) (key piece : List ℕ) (number : ℕ) → 15 < length piece → number < 2 ^ 64 → number ≡ position_or_len (holds piece) longer →
    number < length longer → key ≡ longer_key number → IsKeyOf longer key piece
longer-is longer key piece number many small first there same =
    let told : eight_at key 1 ≡ number = ap (λ k. eight_at k 1) same ∙ eight-there number small in
    let held : position_or_len (holds piece) longer < length longer = omega (arith, first, there) in
    record {
      piece_is = ap (piece_in longer) same ∙ piece-longer longer (longer_key number) (omega arith) ∙ ap (longer_at longer) (eight-there number small ∙ first)
          ∙ longer-found longer piece held;
      key_is = same ∙ ap longer_key first ∙ sym (key-longer longer piece many);
      number = λ h. record { held = held; told = omega (arith, told, there) };
    }

-- ---- one key for each piece

-- two keys are the same where their pieces are
pub keys-apart : (longer : Longer) (one other piece found : List ℕ) → IsKeyOf longer one piece → IsKeyOf longer other found → bytes_eq one other ≡ bytes_eq piece found
keys-apart longer one other piece found is was =
    both_ways (bytes_eq one other) (bytes_eq piece found)
    (λ h. (bytes_decides piece found).1 (sym is.piece_is ∙ ap (piece_in longer) ((bytes_decides one other).0 h) ∙ was.piece_is))
    (λ h. (bytes_decides one other).1 (is.key_is ∙ ap (key_in longer) ((bytes_decides piece found).0 h) ∙ sym was.key_is))

-- a longer piece that is not there is not that of a key
pub no-number : (longer : Longer) (piece key found : List ℕ) → HasNoNumber longer piece → IsKeyOf longer key found → bytes_eq piece found ≡ false
no-number longer piece key found lacks is =
    elim (cases_Bool (bytes_eq piece found)) [
      | inl same ↦
          let there : found ≡ piece = sym ((bytes_decides piece found).0 same) in
          let number : HasNumber longer key piece = subst (HasNumber longer key) there (is.number (omega (arith, ap length there, lacks.many))) in
          absurd (omega (arith, number.held, position-none (holds piece) longer lacks.none))
      | inr isnt ↦ isnt
    ]

-- ---- longer pieces that are added

pub stays : (before now : Longer) (key piece : List ℕ) → Extends before now → IsKeyOf before key piece → IsKeyOf now key piece
stays before now key piece more is =
    elim (cases_lt 15 (length piece)) [
      | inl many ↦
          let number = is.number many in
          let first : slice_index key 0 ≡ 16 = ap (λ k. slice_index k 0) (is.key_is ∙ key-longer before piece many) in
          let long : length now ≡ length before + length more.more = ap length more.now_is ∙ length-append before more.more in
          let same : position_or_len (holds piece) now ≡ position_or_len (holds piece) before = ap (position_or_len (holds piece)) more.now_is ∙ place-kept before more.more piece number.held in
          let held : longer_at now (eight_at key 1) ≡ longer_at before (eight_at key 1) = ap (λ l. longer_at l (eight_at key 1)) more.now_is
          ∙ longer-kept before more.more (eight_at key 1) number.told in
          record {
            piece_is = piece-longer now key (omega (arith, first)) ∙ held ∙ sym (piece-longer before key (omega (arith, first))) ∙ is.piece_is;
            key_is = is.key_is ∙ key-longer before piece many ∙ ap longer_key (sym same) ∙ sym (key-longer now piece many);
            number = λ h. record { held = omega (arith, same, number.held, long); told = omega (arith, number.told, long) };
          }
      | inr few ↦ short-is now key piece few (is.key_is ∙ key-short before piece few)
    ]

-- ---- a longer piece that is put in

-- whether two longer pieces are the same
abbrev pub same_bytes : Vec ℕ Global → Vec ℕ Global → Bool
same_bytes one other = bytes_eq one.items other.items

pub put-longer : (longer now : Longer) (kept : Vec ℕ Global) → now ≡ insert_key same_bytes longer kept → Extends longer now
put-longer longer now kept same = by (list_any (same_bytes kept) longer) same
  where
    by : (b : Bool) → now ≡ (if b then longer else longer ++ kept ∷ []) → Extends longer now
    by true is = record { more = []; now_is = is ∙ sym (append-nil longer) }
    by false is = record { more = kept ∷ []; now_is = is }

-- one that is put in leaves its first place
pub put-place : (longer now : Longer) (kept : Vec ℕ Global) (piece : List ℕ) → kept.items ≡ piece → now ≡ insert_key same_bytes longer kept →
    position_or_len (same_bytes kept) longer ≡ position_or_len (holds piece) now
put-place longer now kept piece bytes same =
    ap (λ p. position_or_len (holds p) longer) bytes ∙ by (list_any (same_bytes kept) longer) same
  where
    first : ℕ
    first = position_or_len (holds piece) longer

    last : holds piece kept ≡ true
    last = (bytes_decides piece kept.items).1 (sym bytes)

    pushed : (b : Bool) → eqb first (length longer) ≡ b → first ≡ cond b (length longer + cond (holds piece kept) 0 1) first
    pushed true h = eqb-true first (length longer) h ∙ sym (ap (λ b. length longer + cond b 0 1) last ∙ add-zero (length longer))
    pushed false h = refl

    by : (b : Bool) → now ≡ (if b then longer else longer ++ kept ∷ []) → first ≡ position_or_len (holds piece) now
    by true is = ap (position_or_len (holds piece)) (sym is)
    by false is = pushed (eqb first (length longer)) refl ∙ sym (position_or_len_push (holds piece) longer kept) ∙ ap (position_or_len (holds piece)) (sym is)
