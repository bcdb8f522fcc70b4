-- Some of the lists of a range: their places and rooms, and what they hold.
use Rattle.std.proofs.Common.{arith, ◌≡◌, ◌<◌, ◌≤◌, ◌+◌, ◌-◌, ℕ, List, [], length, take, drop, get_or, sym, ap, subst, ◌∙◌, length-drop}
use Rattle.std.specs.Prelude.{slice_index}
use Rattle.std.proofs.lemmas.List.{get_or-drop, get_or-take, length-take-le}
use Rattle.mg_defs.specs.Terms.{dictionary, docs}
use Rattle.mg_check_index.specs.declared.indexed.Indexed.{Indexed}
use Rattle.mg_check_index.specs.Listing.{AreRooms, IsLaidOut, IsRange, IsRangeOf, Ranged, list_at, lists_of, room_at, some_of}

-- ---- their places

pub some_long : (w : Ranged) (first n : ℕ) → first + n ≤ length w.next → length (take n (drop first w.next)) ≡ n
some_long w first n within = length-take-le n (drop first w.next) (omega (arith, length-drop first w.next, within))

starts_long : (w : Ranged) (first n : ℕ) → IsLaidOut w → first + n ≤ length w.next → length (take (n + 1) (drop first w.starts)) ≡ n + 1
starts_long w first n laid within = length-take-le (n + 1) (drop first w.starts) (omega (arith, length-drop first w.starts, laid.count, within))

pub start_at : (w : Ranged) (first n k : ℕ) → k < n + 1 → slice_index (take (n + 1) (drop first w.starts)) k ≡ slice_index w.starts (first + k)
start_at w first n k lt = get_or-take (n + 1) (drop first w.starts) k 0 lt ∙ get_or-drop first w.starts k 0

pub start_next : (w : Ranged) (first n k : ℕ) → k < n → slice_index (take (n + 1) (drop first w.starts)) (k + 1) ≡ slice_index w.starts (first + k + 1)
start_next w first n k lt =
    let at : first + (k + 1) ≡ first + k + 1 = omega arith in
    start_at w first n (k + 1) (omega (arith, lt)) ∙ ap (λ i. slice_index w.starts i) at

next_at : (w : Ranged) (first n k : ℕ) → k < n → slice_index (take n (drop first w.next)) k ≡ slice_index w.next (first + k)
next_at w first n k lt = get_or-take n (drop first w.next) k 0 lt ∙ get_or-drop first w.next k 0

pub some_room : (w : Ranged) (first n k : ℕ) → k < n → room_at (some_of w first n) k ≡ room_at w (first + k)
some_room w first n k lt =
    ap (λ m. m - slice_index (take (n + 1) (drop first w.starts)) k) (start_next w first n k lt)
    ∙ ap (λ m. slice_index w.starts (first + k + 1) - m) (start_at w first n k (omega (arith, lt)))

pub some_list : (w : Ranged) (first n k : ℕ) → k < n → list_at (some_of w first n) k ≡ list_at w (first + k)
some_list w first n k lt =
    let start = slice_index (take (n + 1) (drop first w.starts)) k in
    ap (λ m. take (m - start) (drop start w.postings)) (next_at w first n k lt)
    ∙ ap (λ s. take (slice_index w.next (first + k) - s) (drop s w.postings)) (start_at w first n k (omega (arith, lt)))

-- ---- they are lists of a range

at_most : (a b c d : ℕ) → a ≡ c → b ≡ d → c ≤ d → a ≤ b
at_most a b c d one other le = omega (arith, one, other, le)

some_laid : (w : Ranged) (first n : ℕ) → IsLaidOut w → first + n ≤ length w.next → IsLaidOut (some_of w first n)
some_laid w first n laid within =
    let long = some_long w first n within in
    let places = starts_long w first n laid within in
    record {
      count = places ∙ ap (λ m. m + 1) (sym long);
      begun = λ k lt.
          at_most _ _ _ _ (start_at w first n k (omega (arith, lt, long))) (next_at w first n k (omega (arith, lt, long)))
          (laid.begun (first + k) (omega (arith, lt, long, within)));
      within = λ k lt.
          at_most _ _ _ _ (next_at w first n k (omega (arith, lt, long))) (start_next w first n k (omega (arith, lt, long)))
          (laid.within (first + k) (omega (arith, lt, long, within)));
      rise = λ j k le lt.
          at_most _ _ _ _ (start_at w first n j (omega (arith, le, lt, places))) (start_at w first n k (omega (arith, lt, places)))
          (laid.rise (first + j) (first + k) (omega (arith, le)) (omega (arith, lt, places, within, laid.count)));
      whole = λ k lt. subst (λ m. m ≤ length w.postings) (sym (start_at w first n k (omega (arith, lt, places))))
          (laid.whole (first + k) (omega (arith, lt, places, within, laid.count)));
    }

some_rooms : (w : Ranged) (all first n : ℕ) → first + n ≤ length w.next → AreRooms w all → AreRooms (some_of w first n) all
some_rooms w all first n within rooms =
    let long = some_long w first n within in
    record {
      some = λ k lt. subst (λ m. 1 ≤ m) (sym (some_room w first n k (omega (arith, lt, long)))) (rooms.some (first + k) (omega (arith, lt, long, within)));
      within = λ k lt. subst (λ m. m ≤ all) (sym (some_room w first n k (omega (arith, lt, long)))) (rooms.within (first + k) (omega (arith, lt, long, within)));
    }

some_is_range : (w : Ranged) (of : Indexed) (first n : ℕ) → 1 ≤ n → first + n ≤ length w.next → IsRange w of → IsRange (some_of w first n) of
some_is_range w of first n some within range =
    let long = some_long w first n within in
    record {
      some = subst (λ m. 1 ≤ m) (sym long) some;
      range = subst (λ m. w.first + first + m ≤ length of.table.now.terms) (sym long) (omega (arith, within, range.range));
      laid = some_laid w first n range.laid within;
      rooms = some_rooms w of.documents first n within range.rooms;
      most = range.most;
      few = range.few;
      rising = range.rising;
    }

some_is_of : (w : Ranged) (terms : List (List ℕ)) (all : ℕ) (collection : List ℕ) (first n : ℕ) → first + n ≤ length w.next →
    IsRangeOf w terms all collection → IsRangeOf (some_of w first n) terms all collection
some_is_of w terms all collection first n within of =
    let long = some_long w first n within in
    let number : (k : ℕ) → w.first + (first + k) ≡ w.first + first + k = λ k. omega arith in
    record {
      terms_are = of.terms_are;
      all_are = of.all_are;
      few = of.few;
      lists = record {
        each = λ k lt. some_list w first n k (omega (arith, lt, long)) ∙ of.lists.each (first + k) (omega (arith, lt, long, within)) ∙ ap (lists_of collection) (number k);
      };
      rooms = record {
        each = λ k lt. some_room w first n k (omega (arith, lt, long)) ∙ of.rooms.each (first + k) (omega (arith, lt, long, within))
            ∙ ap (λ m. docs collection (get_or (dictionary collection) m [])) (number k);
      };
    }

-- ---- the same of lists that are told so

pub first_of_some : (w v : Ranged) (first : ℕ) → v ≡ some_of w first (length v.next) → v.first ≡ w.first + first
first_of_some w v first is = ap (λ (u : Ranged). u.first) is

pub range_of_some : (w v : Ranged) (of : Indexed) (first : ℕ) → v ≡ some_of w first (length v.next) → 1 ≤ length v.next → first + length v.next ≤ length w.next → IsRange w of → IsRange v of
range_of_some w v of first is some within range = subst (λ (u : Ranged). IsRange u of) (sym is) (some_is_range w of first (length v.next) some within range)

pub own_of_some : (w v : Ranged) (terms : List (List ℕ)) (all : ℕ) (collection : List ℕ) (first : ℕ) → v ≡ some_of w first (length v.next) →
    first + length v.next ≤ length w.next → IsRangeOf w terms all collection → IsRangeOf v terms all collection
own_of_some w v terms all collection first is within of =
    subst (λ (u : Ranged). IsRangeOf u terms all collection) (sym is) (some_is_of w terms all collection first (length v.next) within of)
