-- Bytes behind a place that are counted, one piece after another.
use Rattle.std.proofs.Common.{◌≡◌, ◌+◌, ◌-◌, ◌<◌, ◌≤◌, ◌^◌, ℕ, List, [], ◌∷◌, ◌++◌, length, take, drop, sym, ap, subst, ◌∙◌, arith, append_assoc, append-nil, length-append, length-drop, take-add, take-append-drop}
use Rattle.std.proofs.Math.Seq.{take-append-add}
use Rattle.std.proofs.lemmas.List.{drop-drop}
use Rattle.mg_dev.specs.declared.fault.Fault.{Fault}
use Rattle.mg_defs.specs.Marks.{Mark, piece}
use Rattle.mg_count.specs.Counting.{AreFew, Counting, CountStops, CountStopsAmong, FirstPass, HasCounted, IsCounted, StopsAt}
use Rattle.mg_count.specs.Scanning.{HasMet, Scanning}
use Rattle.mg_count.specs.Whole.{EndsPiece, between}
use Rattle.mg_count.proofs.Fed.{count-stops}
use Rattle.mg_count.proofs.WholePieces.{between-joins, between-length, between-none}

abbrev pub pass : Scanning → Counting → FirstPass
pass scanning counting = record { scanning = scanning; counting = counting }

-- none of them
pub behind-none : (c : FirstPass) (bytes fed : List ℕ) (at : ℕ) → HasCounted c fed → HasCounted c (fed ++ between at at bytes)
behind-none c bytes fed at h = subst (HasCounted c) (sym (ap (λ run. fed ++ run) (between-none at bytes) ∙ append-nil fed)) h

-- how many there are then
pub behind-length : (fed bytes : List ℕ) (from at : ℕ) → at ≤ length bytes → length (fed ++ between from at bytes) ≡ length fed + (at - from)
behind-length fed bytes from at within = omega (arith, length-append fed (between from at bytes), between-length from at bytes within)

-- those up to a second place, and from there
pub behind-joins : (old mid new : FirstPass) (bytes : List ℕ) (from at next : ℕ) → from ≤ at → at ≤ next → ((fed : List ℕ) → HasCounted old fed → HasCounted mid (fed ++ between from at bytes)) →
    ((fed : List ℕ) → HasCounted mid fed → HasCounted new (fed ++ between at next bytes)) → (fed : List ℕ) → HasCounted old fed → HasCounted new (fed ++ between from next bytes)
behind-joins old mid new bytes from at next after then first second fed h =
    subst (HasCounted new) (append_assoc fed (between from at bytes) (between at next bytes) ∙ ap (λ run. fed ++ run) (between-joins from at next bytes after then))
    (second (fed ++ between from at bytes) (first fed h))

-- and behind the first so many
pub behind-front : (old mid new : FirstPass) (bytes : List ℕ) (at next : ℕ) → at ≤ next → ((fed : List ℕ) → HasCounted old fed → HasCounted mid (fed ++ take at bytes)) →
    ((fed : List ℕ) → HasCounted mid fed → HasCounted new (fed ++ between at next bytes)) → (fed : List ℕ) → HasCounted old fed → HasCounted new (fed ++ take next bytes)
behind-front old mid new bytes at next then first second fed h =
    let count : at + (next - at) ≡ next = omega (arith, then) in
    let all : take at bytes ++ between at next bytes ≡ take next bytes = sym (take-add at (next - at) bytes) ∙ ap (λ n. take n bytes) count in
    subst (HasCounted new) (append_assoc fed (take at bytes) (between at next bytes) ∙ ap (λ run. fed ++ run) all) (second (fed ++ take at bytes) (first fed h))

-- ---- a piece more

module _ (old new : Scanning) (counting after : Counting) (bytes : List ℕ) (at next : ℕ) (ends : EndsPiece old new bytes at next) where
  abbrev told : List Mark
  told = piece old.reading.kind (between at next bytes) ∷ []

  pub piece-few : ((s : Scanning) (fed : List ℕ) (met : List Mark) → HasMet s fed met → length fed < 2 ^ 32 → AreFew met) → (fed : List ℕ) (h : HasCounted (pass old counting) fed) →
      length fed + (length bytes - (at + 1)) < 2 ^ 32 → AreFew (h.met ++ told)
  piece-few few fed h short = few new (fed ++ between (at + 1) (next + 1) bytes) (h.met ++ told) (ends.met fed h.met h.scanned)
      (omega (arith, short, ends.after, ends.within, behind-length fed bytes (at + 1) (next + 1) (omega (arith, ends.within))))

  pub piece-counted : ((met : List Mark) → IsCounted counting met → IsCounted after (met ++ told)) → (fed : List ℕ) → HasCounted (pass old counting) fed →
      HasCounted (pass new after) (fed ++ between (at + 1) (next + 1) bytes)
  piece-counted counts fed h = record { met = h.met ++ told; scanned = ends.met fed h.met h.scanned; counted = counts h.met h.counted }

  pub piece-stops : (fault : Fault) → ((met : List Mark) → IsCounted counting met → StopsAt met told fault) → CountStopsAmong (pass old counting) (drop (at + 1) bytes) fault
  piece-stops fault stops = record {
    taken = next - (at + 1);
    within = omega (arith, ends.after, ends.within, length-drop (at + 1) bytes);
    middle = pass ends.middle counting;
    counted = λ fed h. record { met = h.met; scanned = ends.read fed h.met h.scanned; counted = h.counted };
    stops = λ fed h.
        let count : next + 1 - (at + 1) ≡ (next - (at + 1)) + 1 = omega (arith, ends.after) in
        subst (λ n. CountStops (fed ++ take n (drop (at + 1) bytes)) fault) count
        (count-stops new (fed ++ between (at + 1) (next + 1) bytes) h.met told fault (ends.met fed h.met h.scanned) (stops h.met h.counted));
  }

-- ---- one of them is refused

-- behind others
stops-behind : (old mid : FirstPass) (xs ys : List ℕ) (fault : Fault) → ((fed : List ℕ) → HasCounted old fed → HasCounted mid (fed ++ xs)) → CountStopsAmong mid ys fault →
    CountStopsAmong old (xs ++ ys) fault
stops-behind old mid xs ys fault first s =
    let some : take (length xs + s.taken) (xs ++ ys) ≡ xs ++ take s.taken ys = take-append-add xs ys s.taken in
    let count : length xs + s.taken + 1 ≡ length xs + (s.taken + 1) = omega arith in
    let more : take (length xs + s.taken + 1) (xs ++ ys) ≡ xs ++ take (s.taken + 1) ys = ap (λ n. take n (xs ++ ys)) count ∙ take-append-add xs ys (s.taken + 1) in
    record {
      taken = length xs + s.taken;
      within = omega (arith, s.within, length-append xs ys);
      middle = s.middle;
      counted = λ fed h. subst (HasCounted s.middle) (append_assoc fed xs (take s.taken ys) ∙ ap (λ run. fed ++ run) (sym some)) (s.counted (fed ++ xs) (first fed h));
      stops = λ fed h. subst (λ all. CountStops all fault) (append_assoc fed xs (take (s.taken + 1) ys) ∙ ap (λ run. fed ++ run) (sym more)) (s.stops (fed ++ xs) (first fed h));
    }

pub rest-behind : (from at : ℕ) (bytes : List ℕ) → from ≤ at → between from at bytes ++ drop at bytes ≡ drop from bytes
rest-behind from at bytes after =
    let place : from + (at - from) ≡ at = omega (arith, after) in
    ap (λ l. between from at bytes ++ l) (sym (drop-drop (at - from) from bytes ∙ ap (λ n. drop n bytes) place)) ∙ take-append-drop (at - from) (drop from bytes)

-- behind those from a place on
pub stops-from : (old mid : FirstPass) (bytes : List ℕ) (from at : ℕ) (fault : Fault) → from ≤ at → ((fed : List ℕ) → HasCounted old fed → HasCounted mid (fed ++ between from at bytes)) →
    CountStopsAmong mid (drop at bytes) fault → CountStopsAmong old (drop from bytes) fault
stops-from old mid bytes from at fault after first s =
    subst (λ run. CountStopsAmong old run fault) (rest-behind from at bytes after) (stops-behind old mid (between from at bytes) (drop at bytes) fault first s)

-- behind the first so many of them
pub stops-rest : (old mid : FirstPass) (bytes : List ℕ) (at : ℕ) (fault : Fault) → ((fed : List ℕ) → HasCounted old fed → HasCounted mid (fed ++ take at bytes)) →
    CountStopsAmong mid (drop at bytes) fault → CountStopsAmong old bytes fault
stops-rest old mid bytes at fault first s =
    subst (λ run. CountStopsAmong old run fault) (take-append-drop at bytes) (stops-behind old mid (take at bytes) (drop at bytes) fault first s)
