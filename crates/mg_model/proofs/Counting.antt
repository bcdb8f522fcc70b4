-- The entries of a map from keys to counts, and what counting a piece does to them.
use Rattle.std.proofs.Common.{◌≡◌, ℕ, zero, suc, ◌+◌, ◌^◌, ◌<◌, ◌≤◌, Bool, true, false, cond, not, List, [], ◌∷◌, length, refl, sym, ap, subst, ◌∙◌, arith, if◌then◌else◌, ◌||◌, None, Some, position, slice_get, ltb}
use Rattle.std.specs.List.{AllByRecursion, IsDistinct, position_or_len}
use Rattle.std.specs.Map.{keys_of, values_of}
use Rattle.std.specs.Str.{bytes_eq}
use Rattle.std.proofs.lemmas.Bool.{le-ltb}
use Rattle.std.proofs.lemmas.Cmp.{nat_list_eq_equiv}
use Rattle.std.proofs.lemmas.List.{length-map}
use Rattle.std.proofs.lemmas.List.Sums.{sum_by-cons}
use Rattle.indexmap.specs.IndexMap.{insert_entry, set_value_at}
use Rattle.mg_defs.specs.Vocabulary.{has_piece, counted, total}
use Rattle.mg_model.specs.declared.piece_key.PieceKey.{PieceKey}
use Rattle.mg_model.specs.Keys.{Longer, IsKeyOf, HasNoNumber, Extends, piece_in}
use Rattle.mg_model.specs.Vocabularies.{IsKey, IsKept, IsVocabulary, counted_times, entries_of, pieces_of, entry_counts}
use Rattle.mg_model.proofs.Keys.{keys-apart, no-number, position-none, position-some, stays}

-- a piece that came once more
pub counted-once : (piece : List ℕ) (es : List (List ℕ × ℕ)) → counted_times piece 1 es ≡ counted piece es
counted-once piece [] = refl
counted-once piece (e ∷ es) = ap (λ rest. if bytes_eq piece e.0 then (e.0, e.1 + 1) ∷ es else e ∷ rest) (counted-once piece es)

pub total-counted : (piece : List ℕ) (times : ℕ) (es : List (List ℕ × ℕ)) → total (counted_times piece times es) ≡ total es + times
total-counted piece times [] = refl
total-counted piece times (e ∷ es) = by (bytes_eq piece e.0) (total-counted piece times es)
  where
    by : (b : Bool) → total (counted_times piece times es) ≡ total es + times → total (if b then (e.0, e.1 + times) ∷ es else e ∷ counted_times piece times es) ≡ total (e ∷ es) + times
    by true rest = omega (arith, sum_by-cons (λ (x : List ℕ × ℕ). x.1) (e.0, e.1 + times) es, sum_by-cons (λ (x : List ℕ × ℕ). x.1) e es)
    by false rest = omega (arith, rest, sum_by-cons (λ (x : List ℕ × ℕ). x.1) e (counted_times piece times es), sum_by-cons (λ (x : List ℕ × ℕ). x.1) e es)

pub length-counted : (piece : List ℕ) (times : ℕ) (es : List (List ℕ × ℕ)) → length (counted_times piece times es) ≡ length es + cond (has_piece es piece) 0 1
length-counted piece times [] = refl
length-counted piece times (e ∷ es) = by (bytes_eq piece e.0) (has_piece es piece) (length-counted piece times es)
  where
    by : (b more : Bool) → length (counted_times piece times es) ≡ length es + cond more 0 1 → length (if b then (e.0, e.1 + times) ∷ es else e ∷ counted_times piece times es) ≡ length (e ∷ es) + cond (b || more) 0 1
    by true more rest = omega arith
    by false more rest = omega (arith, rest)

some-counted : (piece : List ℕ) (times : ℕ) (es : List (List ℕ × ℕ)) → 1 ≤ times → AllByRecursion (λ (e : List ℕ × ℕ). 1 ≤ e.1) es → AllByRecursion (λ (e : List ℕ × ℕ). 1 ≤ e.1) (counted_times piece times es)
some-counted piece times [] some h = (some, tt)
some-counted piece times (e ∷ es) some h = by (bytes_eq piece e.0) (some-counted piece times es some h.1)
  where
    by : (b : Bool) → AllByRecursion (λ (e : List ℕ × ℕ). 1 ≤ e.1) (counted_times piece times es) → AllByRecursion (λ (e : List ℕ × ℕ). 1 ≤ e.1) (if b then (e.0, e.1 + times) ∷ es else e ∷ counted_times piece times es)
    by true rest = (omega (arith, h.0), h.1)
    by false rest = (h.0, rest)

short-counted : (piece : List ℕ) (times : ℕ) (es : List (List ℕ × ℕ)) → length piece ≤ 255 → AllByRecursion (λ (e : List ℕ × ℕ). length e.0 ≤ 255) es →
    AllByRecursion (λ (e : List ℕ × ℕ). length e.0 ≤ 255) (counted_times piece times es)
short-counted piece times [] short h = (short, tt)
short-counted piece times (e ∷ es) short h = by (bytes_eq piece e.0) (short-counted piece times es short h.1)
  where
    by : (b : Bool) → AllByRecursion (λ (e : List ℕ × ℕ). length e.0 ≤ 255) (counted_times piece times es) →
        AllByRecursion (λ (e : List ℕ × ℕ). length e.0 ≤ 255) (if b then (e.0, e.1 + times) ∷ es else e ∷ counted_times piece times es)
    by true rest = h
    by false rest = (h.0, rest)

apart-counted : (p piece : List ℕ) (times : ℕ) (es : List (List ℕ × ℕ)) → bytes_eq p piece ≡ false → AllByRecursion (λ q. bytes_eq p q ≡ false) (pieces_of es) →
    AllByRecursion (λ q. bytes_eq p q ≡ false) (pieces_of (counted_times piece times es))
apart-counted p piece times [] other h = (other, tt)
apart-counted p piece times (e ∷ es) other h = by (bytes_eq piece e.0) (apart-counted p piece times es other h.1)
  where
    by : (b : Bool) → AllByRecursion (λ q. bytes_eq p q ≡ false) (pieces_of (counted_times piece times es)) →
        AllByRecursion (λ q. bytes_eq p q ≡ false) (pieces_of (if b then (e.0, e.1 + times) ∷ es else e ∷ counted_times piece times es))
    by true rest = h
    by false rest = (h.0, rest)

distinct-counted : (piece : List ℕ) (times : ℕ) (es : List (List ℕ × ℕ)) → IsDistinct bytes_eq (pieces_of es) → IsDistinct bytes_eq (pieces_of (counted_times piece times es))
unfolding IsDistinct
distinct-counted piece times [] h = (tt, tt)
distinct-counted piece times (e ∷ es) h = by (bytes_eq piece e.0) refl (distinct-counted piece times es h.1)
  where
    by : (b : Bool) → bytes_eq piece e.0 ≡ b → IsDistinct bytes_eq (pieces_of (counted_times piece times es)) → IsDistinct bytes_eq (pieces_of (if b then (e.0, e.1 + times) ∷ es else e ∷ counted_times piece times es))
    by true is rest = h
    by false isnt rest = (apart-counted e.0 piece times es (nat_list_eq_equiv.symm e.0 piece ∙ isnt) h.0, rest)

-- a vocabulary stays one where the piece is there, or there is room for one more
pub still : (piece : List ℕ) (times : ℕ) (es new : List (List ℕ × ℕ)) → IsVocabulary es → 1 ≤ times → total es + times < 2 ^ 32 → length piece ≤ 255 →
    length es + cond (has_piece es piece) 0 1 ≤ 2 ^ 22 → new ≡ counted_times piece times es → IsVocabulary new
still piece times es new is some few short room same = subst IsVocabulary (sym same) (record {
  distinct = distinct-counted piece times es is.distinct;
  few = omega (arith, length-counted piece times es, room);
  total = omega (arith, total-counted piece times es, few);
  counted = some-counted piece times es some is.counted;
  short = short-counted piece times es short is.short;
})

-- ---- the first place of a piece

there : (piece : List ℕ) (es : List (List ℕ × ℕ)) → position_or_len (bytes_eq piece) (pieces_of es) < length (pieces_of es) → has_piece es piece ≡ true
there piece [] low = absurd (omega arith)
there piece (e ∷ es) low = by (bytes_eq piece e.0) low (there piece es)
  where
    rest : ℕ
    rest = position_or_len (bytes_eq piece) (pieces_of es)

    by : (b : Bool) → cond (not b) (1 + rest) 0 < suc (length (pieces_of es)) → (rest < length (pieces_of es) → has_piece es piece ≡ true) → (b || has_piece es piece) ≡ true
    by true h later = refl
    by false h later = later (omega arith)

not-there : (piece : List ℕ) (es : List (List ℕ × ℕ)) → length (pieces_of es) ≤ position_or_len (bytes_eq piece) (pieces_of es) → has_piece es piece ≡ false
not-there piece [] high = refl
not-there piece (e ∷ es) high = by (bytes_eq piece e.0) high (not-there piece es)
  where
    rest : ℕ
    rest = position_or_len (bytes_eq piece) (pieces_of es)

    by : (b : Bool) → suc (length (pieces_of es)) ≤ cond (not b) (1 + rest) 0 → (length (pieces_of es) ≤ rest → has_piece es piece ≡ false) → (b || has_piece es piece) ≡ false
    by true h later = absurd (omega arith)
    by false h later = later (omega arith)

pub has-place : (piece : List ℕ) (es : List (List ℕ × ℕ)) (place : ℕ) → Some place ≡ position (bytes_eq piece) (pieces_of es) → has_piece es piece ≡ true
has-place piece es place h = there piece es (position-some (bytes_eq piece) (pieces_of es) place (sym h)).1

pub has-no-place : (piece : List ℕ) (es : List (List ℕ × ℕ)) → None ≡ position (bytes_eq piece) (pieces_of es) → has_piece es piece ≡ false
has-no-place piece es h = not-there piece es (position-none (bytes_eq piece) (pieces_of es) (sym h))

-- ---- the map's entries

-- whether two keys are the same
abbrev pub same_key : PieceKey → PieceKey → Bool
same_key one other = bytes_eq one.entry other.entry

-- the entries after a piece came so many times more
pub record IsCounted (longer : Longer) (piece : List ℕ) (times : ℕ) (before : List (List ℕ × ℕ)) (now : List (PieceKey × ℕ)) : Type 0 where
  pub kept : IsKept longer now
  pub entries : entries_of longer now ≡ counted_times piece times before

module _ (longer : Longer) where
  pub length-entries : (es : List (PieceKey × ℕ)) → length (entries_of longer es) ≡ length es
  length-entries es = length-map es (λ (e : PieceKey × ℕ). (piece_in longer e.0.entry, e.1))

  -- a key's first place is that of its piece
  first-keys : (key : PieceKey) (piece : List ℕ) (es : List (PieceKey × ℕ)) → IsKeyOf longer key.entry piece → AllByRecursion (IsKey longer) (keys_of es) →
      position_or_len (same_key key) (keys_of es) ≡ position_or_len (bytes_eq piece) (pieces_of (entries_of longer es))
  first-keys key piece [] is all = refl
  first-keys key piece (e ∷ es) is all =
      let head = keys-apart longer key.entry e.0.entry piece (piece_in longer e.0.entry) is all.0 in
      let tail = first-keys key piece es is all.1 in
      λ i. cond (not (head i)) (1 + tail i) 0

  pub place-keys : (key : PieceKey) (piece : List ℕ) (es : List (PieceKey × ℕ)) → IsKeyOf longer key.entry piece → AllByRecursion (IsKey longer) (keys_of es) →
      position (same_key key) (keys_of es) ≡ position (bytes_eq piece) (pieces_of (entries_of longer es))
  place-keys key piece es is all =
      let first = first-keys key piece es is all in
      let long : length (keys_of es) ≡ length (pieces_of (entries_of longer es)) = length-map es (λ (e : PieceKey × ℕ). e.0) ∙ sym (length-entries es)
      ∙ sym (length-map (entries_of longer es) (λ (e : List ℕ × ℕ). e.0)) in
      λ i. cond (ltb (first i) (long i)) (Some (first i)) None

  past : (piece : List ℕ) (es : List (PieceKey × ℕ)) → HasNoNumber longer piece → AllByRecursion (IsKey longer) (keys_of es) →
      length (pieces_of (entries_of longer es)) ≤ position_or_len (bytes_eq piece) (pieces_of (entries_of longer es))
  past piece [] lacks all = omega arith
  past piece (e ∷ es) lacks all = by (bytes_eq piece (piece_in longer e.0.entry)) (no-number longer piece e.0.entry (piece_in longer e.0.entry) lacks all.0) (past piece es lacks all.1)
    where
      by : (b : Bool) → b ≡ false → length (pieces_of (entries_of longer es)) ≤ position_or_len (bytes_eq piece) (pieces_of (entries_of longer es)) →
          suc (length (pieces_of (entries_of longer es))) ≤ cond (not b) (1 + position_or_len (bytes_eq piece) (pieces_of (entries_of longer es))) 0
      by true isnt h = absurd cc
      by false isnt h = omega (arith, h)

  -- a longer piece that is not there has no place
  pub place-none : (piece : List ℕ) (es : List (PieceKey × ℕ)) → HasNoNumber longer piece → AllByRecursion (IsKey longer) (keys_of es) →
      None ≡ position (bytes_eq piece) (pieces_of (entries_of longer es))
  place-none piece es lacks all =
      let n = position_or_len (bytes_eq piece) (pieces_of (entries_of longer es)) in
      sym (ap (λ b. cond b (Some n) None) (le-ltb n (length (pieces_of (entries_of longer es))) (past piece es lacks all)))

  pub piece-there : (es : List (PieceKey × ℕ)) (i : ℕ) (key : PieceKey) (count : ℕ) → slice_get es i ≡ Some (key, count) →
      slice_get (pieces_of (entries_of longer es)) i ≡ Some (piece_in longer key.entry)
  piece-there [] i key count h = absurd cc
  piece-there (e ∷ es) zero key count h = let same : e ≡ (key, count) = cc in ap (λ (x : PieceKey × ℕ). Some (piece_in longer x.0.entry)) same
  piece-there (e ∷ es) (suc i) key count h = piece-there es i key count h

  pub count-there : (es : List (PieceKey × ℕ)) (i : ℕ) (key : PieceKey) (count : ℕ) → slice_get es i ≡ Some (key, count) → slice_get (entry_counts (entries_of longer es)) i ≡ Some count
  count-there [] i key count h = absurd cc
  count-there (e ∷ es) zero key count h = let same : e ≡ (key, count) = cc in ap (λ (x : PieceKey × ℕ). Some x.1) same
  count-there (e ∷ es) (suc i) key count h = count-there es i key count h

  pub none-kept : IsKept longer []
  unfolding IsDistinct
  none-kept = record { keys = tt; vocabulary = record { distinct = tt; few = omega arith; total = omega arith; counted = tt; short = tt } }

  -- ---- a piece that is there

  pub count-fits : (es : List (PieceKey × ℕ)) (i count : ℕ) → slice_get (values_of es) i ≡ Some count → count ≤ total (entries_of longer es)
  count-fits [] i count h = absurd cc
  count-fits (e ∷ es) zero count h = let same : e.1 ≡ count = cc in omega (arith, same, sum_by-cons (λ (x : List ℕ × ℕ). x.1) (piece_in longer e.0.entry, e.1) (entries_of longer es))
  count-fits (e ∷ es) (suc i) count h = omega (arith, count-fits es i count h, sum_by-cons (λ (x : List ℕ × ℕ). x.1) (piece_in longer e.0.entry, e.1) (entries_of longer es))

  same-keys : (es : List (PieceKey × ℕ)) (i count : ℕ) → keys_of (set_value_at es i count) ≡ keys_of es
  same-keys [] i count = refl
  same-keys (e ∷ es) zero count = refl
  same-keys (e ∷ es) (suc i) count = ap (λ ks. e.0 ∷ ks) (same-keys es i count)

  counted-at : (piece : List ℕ) (times : ℕ) (es : List (PieceKey × ℕ)) (count : ℕ) → slice_get (values_of es) (position_or_len (bytes_eq piece) (pieces_of (entries_of longer es))) ≡ Some count →
      entries_of longer (set_value_at es (position_or_len (bytes_eq piece) (pieces_of (entries_of longer es))) (count + times)) ≡ counted_times piece times (entries_of longer es)
  counted-at piece times [] count h = absurd cc
  counted-at piece times (e ∷ es) count h = by (bytes_eq piece (piece_in longer e.0.entry)) h (counted-at piece times es count)
    where
      rest : ℕ
      rest = position_or_len (bytes_eq piece) (pieces_of (entries_of longer es))

      by : (b : Bool) → slice_get (values_of (e ∷ es)) (cond (not b) (1 + rest) 0) ≡ Some count →
          (slice_get (values_of es) rest ≡ Some count → entries_of longer (set_value_at es rest (count + times)) ≡ counted_times piece times (entries_of longer es)) →
          entries_of longer (set_value_at (e ∷ es) (cond (not b) (1 + rest) 0) (count + times))
          ≡ (if b then (piece_in longer e.0.entry, e.1 + times) ∷ entries_of longer es else (piece_in longer e.0.entry, e.1) ∷ counted_times piece times (entries_of longer es))
      by true is later = let same : count ≡ e.1 = cc in ap (λ n. (piece_in longer e.0.entry, n + times) ∷ entries_of longer es) same
      by false is later =
          let n : suc rest ≡ 1 + rest = omega arith in
          subst (λ m. entries_of longer (set_value_at (e ∷ es) m (count + times)) ≡ (piece_in longer e.0.entry, e.1) ∷ counted_times piece times (entries_of longer es)) n
          (ap (λ t. (piece_in longer e.0.entry, e.1) ∷ t) (later (subst (λ m. slice_get (values_of (e ∷ es)) m ≡ Some count) (sym n) is)))

  pub counted-again : (piece : List ℕ) (times : ℕ) (es now : List (PieceKey × ℕ)) (place count : ℕ) → IsKept longer es → 1 ≤ times → total (entries_of longer es) + times < 2 ^ 32 → length piece ≤ 255 →
      position (bytes_eq piece) (pieces_of (entries_of longer es)) ≡ Some place → Some count ≡ slice_get (values_of es) place → now ≡ set_value_at es place (count + times) →
      IsCounted longer piece times (entries_of longer es) now
  counted-again piece times es now place count kept some low short first value same =
      let at = (position-some (bytes_eq piece) (pieces_of (entries_of longer es)) place first).0 in
      let has : has_piece (entries_of longer es) piece ≡ true = has-place piece (entries_of longer es) place (sym first) in
      let entries : entries_of longer now ≡ counted_times piece times (entries_of longer es) = ap (entries_of longer) (same ∙ ap (λ i. set_value_at es i (count + times)) (sym at))
      ∙ counted-at piece times es count (ap (slice_get (values_of es)) at ∙ sym value) in
      record {
        kept = record {
          keys = subst (AllByRecursion (IsKey longer)) (sym (ap keys_of same ∙ same-keys es place (count + times))) kept.keys;
          vocabulary = still piece times (entries_of longer es) (entries_of longer now) kept.vocabulary some low short
              (subst (λ b. length (entries_of longer es) + cond b 0 1 ≤ 2 ^ 22) (sym has) (omega (arith, kept.vocabulary.few))) entries;
        };
        entries = entries;
      }

  -- ---- a piece that is not there

  -- a piece that is not there is put in last
  put-in : (piece : List ℕ) (times : ℕ) (es : List (PieceKey × ℕ)) (key : PieceKey) → has_piece (entries_of longer es) piece ≡ false → IsKeyOf longer key.entry piece → AllByRecursion (IsKey longer) (keys_of es) →
      entries_of longer (insert_entry same_key es key times) ≡ counted_times piece times (entries_of longer es)
  put-in piece times [] key none is all = ap (λ p. (p, times) ∷ []) is.piece_is
  put-in piece times (e ∷ es) key none is all =
      by (bytes_eq piece (piece_in longer e.0.entry)) refl none (keys-apart longer key.entry e.0.entry piece (piece_in longer e.0.entry) is all.0) (λ h. put-in piece times es key h is all.1)
    where
      by : (b : Bool) → bytes_eq piece (piece_in longer e.0.entry) ≡ b → (b || has_piece (entries_of longer es) piece) ≡ false → same_key key e.0 ≡ bytes_eq piece (piece_in longer e.0.entry) →
          (has_piece (entries_of longer es) piece ≡ false → entries_of longer (insert_entry same_key es key times) ≡ counted_times piece times (entries_of longer es)) →
          entries_of longer (insert_entry same_key (e ∷ es) key times) ≡ counted_times piece times (entries_of longer (e ∷ es))
      by true here none same later = absurd cc
      by false other none same later = rw (same ∙ other, other) (ap (λ t. (piece_in longer e.0.entry, e.1) ∷ t) (later none))

  keys-put : (piece : List ℕ) (times : ℕ) (es : List (PieceKey × ℕ)) (key : PieceKey) → IsKeyOf longer key.entry piece → AllByRecursion (IsKey longer) (keys_of es) →
      AllByRecursion (IsKey longer) (keys_of (insert_entry same_key es key times))
  keys-put piece times [] key is all = (subst (IsKeyOf longer key.entry) (sym is.piece_is) is, tt)
  keys-put piece times (e ∷ es) key is all = by (same_key key e.0) (keys-put piece times es key is all.1)
    where
      by : (b : Bool) → AllByRecursion (IsKey longer) (keys_of (insert_entry same_key es key times)) →
          AllByRecursion (IsKey longer) (keys_of (if b then (e.0, times) ∷ es else e ∷ insert_entry same_key es key times))
      by true rest = all
      by false rest = (all.0, rest)

-- more of the longer pieces change no entry
pub more-longer : (before now : Longer) (es : List (PieceKey × ℕ)) → Extends before now → AllByRecursion (IsKey before) (keys_of es) →
    (entries_of now es ≡ entries_of before es) × AllByRecursion (IsKey now) (keys_of es)
more-longer before now [] more all = (refl, tt)
more-longer before now (e ∷ es) more all =
    let is = stays before now e.0.entry (piece_in before e.0.entry) more all.0 in
    let rest = more-longer before now es more all.1 in (
      (λ i. (is.piece_is i, e.1) ∷ rest.0 i),
      (subst (IsKeyOf now e.0.entry) (sym is.piece_is) is, rest.1),
    )

pub still-kept : (before now : Longer) (es : List (PieceKey × ℕ)) → Extends before now → IsKept before es → IsKept now es
still-kept before now es more kept =
    let same = more-longer before now es more kept.keys in
    record { keys = same.1; vocabulary = subst IsVocabulary (sym same.0) kept.vocabulary }

pub counted-new : (before now : Longer) (piece : List ℕ) (times : ℕ) (es new : List (PieceKey × ℕ)) (key : PieceKey) → Extends before now → IsKeyOf now key.entry piece → IsKept before es →
    has_piece (entries_of before es) piece ≡ false → 1 ≤ times → total (entries_of before es) + times < 2 ^ 32 → length piece ≤ 255 → length es < 2 ^ 22 → new ≡ insert_entry same_key es key times →
    IsCounted now piece times (entries_of before es) new
counted-new before now piece times es new key more is kept none some low short few same =
    let stay = more-longer before now es more kept.keys in
    let entries : entries_of now new ≡ counted_times piece times (entries_of before es) = ap (entries_of now) same
    ∙ put-in now piece times es key (ap (λ x. has_piece x piece) stay.0 ∙ none) is stay.1 ∙ ap (counted_times piece times) stay.0 in
    record {
      kept = record {
        keys = subst (λ x. AllByRecursion (IsKey now) (keys_of x)) (sym same) (keys-put now piece times es key is stay.1);
        vocabulary = still piece times (entries_of before es) (entries_of now new) kept.vocabulary some low short
            (subst (λ b. length (entries_of before es) + cond b 0 1 ≤ 2 ^ 22) (sym none) (omega (arith, length-entries before es, few))) entries;
      };
      entries = entries;
    }
