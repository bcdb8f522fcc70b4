-- Sums in a row, and a row that goes into a map.
use Rattle.std.proofs.Common.{arith, ◌≡◌, ◌≤◌, ◌<◌, ◌+◌, ◌++◌, inl, inr, ℕ, zero, suc, false, List, [], ◌∷◌, length, take, Some, None, nat_eq, slice_index_or}
use Rattle.std.proofs.Common.{refl, sym, ap, subst, ◌∙◌, append-nil}
use Rattle.std.specs.List.{AllByRecursion}
use Rattle.std.specs.Map.{lookup}
use Rattle.std.proofs.lemmas.Bool.{cases_Bool, eqb-true, ne_eqb}
use Rattle.indexmap.specs.IndexMap.{insert_entry}
use Rattle.mg_rank.specs.Sums.{AreApart, IsRowOrMap, with_more}
use Rattle.mg_rank.proofs.Adding.{apart_more}
use Rattle.mg_rank.proofs.RowLaws.{entry_found}

abbrev AllTo : ℕ → List (ℕ × ℕ) → Type 0
AllTo last es = AllByRecursion (λ (e : ℕ × ℕ). e.0 ≤ last) es

-- a document behind all of them goes last
pub more_behind : (d m last : ℕ) (es : List (ℕ × ℕ)) → AllTo last es → last < d → with_more d m es ≡ es ++ (d, m) ∷ []
more_behind d m last [] before behind = refl
more_behind d m last (e ∷ es) before behind =
    let isnt : nat_eq d e.0 ≡ false = ne_eqb d e.0 (λ is. omega (arith, is, before.0, behind)) in
    rw isnt (ap (λ t. e ∷ t) (more_behind d m last es before.1 behind))

all_behind : (d m last : ℕ) (es : List (ℕ × ℕ)) → AllTo last es → last < d → AllTo d (es ++ (d, m) ∷ [])
all_behind d m last [] before behind = (omega arith, tt)
all_behind d m last (e ∷ es) before behind = (omega (arith, before.0, behind), all_behind d m last es before.1 behind)

-- the row with one document more
pub row_more : {d last : ℕ} {row map : List (ℕ × ℕ)} (m : ℕ) → IsRowOrMap last row map → map ≡ [] → last < d → IsRowOrMap d (row ++ (d, m) ∷ []) map
row_more {d} {last} {row} m is none behind = record {
  alone = inr none;
  apart = subst AreApart (more_behind d m last row is.before behind) (apart_more d m row is.apart);
  before = all_behind d m last row is.before behind;
}

pub row_added : {d last : ℕ} {row map : List (ℕ × ℕ)} (m : ℕ) → IsRowOrMap last row map → map ≡ [] → last < d →
    (row ++ (d, m) ∷ []) ++ map ≡ with_more d m (row ++ map)
row_added {d} {last} {row} {map} m is none behind =
    ap (λ t. (row ++ (d, m) ∷ []) ++ t) none ∙ append-nil (row ++ (d, m) ∷ []) ∙ sym (more_behind d m last row is.before behind)
    ∙ ap (with_more d m) (sym (append-nil row) ∙ ap (λ t. row ++ t) (sym none))

-- without a row anything may stand in the map
pub map_alone : {last : ℕ} {row map : List (ℕ × ℕ)} → row ≡ [] → IsRowOrMap last row map
map_alone {last} none = record { alone = inl none; apart = subst AreApart (sym none) tt; before = subst (AllTo last) (sym none) tt }

-- ---- a row goes into a map

insert_past : (d v : ℕ) (e : ℕ × ℕ) (es : List (ℕ × ℕ)) → nat_eq d e.0 ≡ false → insert_entry nat_eq (e ∷ es) d v ≡ e ∷ insert_entry nat_eq es d v
insert_past d v e es is = rw is refl

insert_next : (row : List (ℕ × ℕ)) (i : ℕ) (x : ℕ × ℕ) → AreApart row → i < length row →
    insert_entry nat_eq (take i row) (slice_index_or row i x).0 (slice_index_or row i x).1 ≡ take (suc i) row
insert_next [] i x apart lt = absurd (omega (arith, lt))
insert_next (e ∷ es) zero x apart lt = refl
insert_next (e ∷ es) (suc i) x apart lt =
    let at = slice_index_or es i x in
    let there = entry_found es i x apart.1 (omega (arith, lt)) in
    elim (cases_Bool (nat_eq at.0 e.0)) [
      | inl is ↦ absurd (let none : lookup (nat_eq at.0) es ≡ None = subst (λ n. lookup (nat_eq n) es ≡ None) (sym (eqb-true at.0 e.0 is)) apart.0 in
          let bad : Some at.1 ≡ None = sym there ∙ none in cc)
      | inr isnt ↦ insert_past at.0 at.1 e (take i es) isnt ∙ ap (λ t. e ∷ t) (insert_next es i x apart.1 (omega (arith, lt)))
    ]

-- the map has the sum of one place more
pub inserted : {old new : List (ℕ × ℕ)} (row : List (ℕ × ℕ)) (i : ℕ) (x : ℕ × ℕ) → AreApart row → i < length row → old ≡ take i row →
    new ≡ insert_entry nat_eq old (slice_index_or row i x).0 (slice_index_or row i x).1 → new ≡ take (i + 1) row
inserted row i x apart lt so_far is =
    let next : suc i ≡ i + 1 = omega arith in
    is ∙ ap (λ es. insert_entry nat_eq es (slice_index_or row i x).0 (slice_index_or row i x).1) so_far ∙ insert_next row i x apart lt ∙ ap (λ n. take n row) next

pub none_there : (es : List (ℕ × ℕ)) → length es ≡ 0 → es ≡ []
none_there [] none = refl
none_there (e ∷ es) none = absurd (omega (arith, none))
