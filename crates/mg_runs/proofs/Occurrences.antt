-- Occurrences, their first ones and those behind these, and one more.
use Rattle.std.proofs.Common.{◌≡◌, ℕ, zero, suc, ◌+◌, ◌-◌, ◌≤◌, List, [], ◌∷◌, ◌++◌, length, length-append, refl, take, drop, map}
use Rattle.std.proofs.lemmas.List.{drop-append-le, length-drop, drop_all as none_behind}
use Rattle.mg_defs.specs.Postings.{once}
use Rattle.mg_runs.specs.Bytes.{AreEntries}
use Rattle.mg_runs.specs.Fed.{IsOccurrence, AreOccurrences}

-- ---- how many there are

pub length_end : (s : List (ℕ × ℕ)) (o : ℕ × ℕ) → length (s ++ o ∷ []) ≡ length s + 1
length_end s o = length-append s (o ∷ [])

pub length_rest : (s : List (ℕ × ℕ)) (k : ℕ) → length (drop k s) ≡ length s - k
length_rest s k = length-drop k s

pub drop_end : (s : List (ℕ × ℕ)) (k : ℕ) (o : ℕ × ℕ) → k ≤ length s → drop k (s ++ o ∷ []) ≡ drop k s ++ o ∷ []
drop_end s k o h = drop-append-le k s (o ∷ []) h

pub drop_all : (s : List (ℕ × ℕ)) (k : ℕ) → length s ≤ k → drop k s ≡ []
drop_all s k h = none_behind k s h

-- ---- their terms and documents fit

pub occurrences_end : (s : List (ℕ × ℕ)) (o : ℕ × ℕ) → AreOccurrences s → IsOccurrence o → AreOccurrences (s ++ o ∷ [])
occurrences_end [] o all h = (h, tt)
occurrences_end (x ∷ s) o all h = (all.0, occurrences_end s o all.1 h)

pub occurrences_drop : (k : ℕ) (s : List (ℕ × ℕ)) → AreOccurrences s → AreOccurrences (drop k s)
occurrences_drop zero s all = all
occurrences_drop (suc k) [] all = tt
occurrences_drop (suc k) (o ∷ s) all = occurrences_drop k s all.1

pub occurrences_take : (k : ℕ) (s : List (ℕ × ℕ)) → AreOccurrences s → AreOccurrences (take k s)
occurrences_take zero s all = tt
occurrences_take (suc k) [] all = tt
occurrences_take (suc k) (o ∷ s) all = (all.0, occurrences_take k s all.1)

-- each is an entry that counts one
pub entries_of : (s : List (ℕ × ℕ)) → AreOccurrences s → AreEntries (map once s)
entries_of [] all = tt
entries_of (o ∷ s) all = ((refl, all.0.some), entries_of s all.1)
