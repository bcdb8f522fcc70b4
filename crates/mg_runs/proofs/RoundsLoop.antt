-- A round, group by group, and one round after another.
use Rattle.std.proofs.Common.{◌≡◌, ℕ, zero, suc, ◌+◌, ◌-◌, ◌*◌, ◌/◌, ◌%◌, ◌<◌, ◌≤◌, ◌^◌, min, max, List, [], ◌∷◌, ◌++◌, length, refl, sym, ap, ◌∙◌, subst, arith, take, drop, length-drop, length-take}
use Rattle.std.proofs.lemmas.List.{take_min}
use Rattle.std.proofs.lemmas.Grind.{div_ceil_times}
use Rattle.std.proofs.lemmas.Nat.{le-div}
use Rattle.mg_defs.specs.Heads.{run_count}
use Rattle.mg_defs.specs.declared.TermPosting.{TermPosting}
use Rattle.mg_defs.specs.Bits.{Bits, bits_of, filled}
use Rattle.mg_defs.specs.Postings.{term_postings, merged}
use Rattle.mg_defs.specs.RunBits.{run_bits, runs_bits, run_part_bits}
use Rattle.mg_defs.specs.Runs.{runs_of}
use Rattle.mg_defs.proofs.Joining.{merged-all}
use Rattle.mg_runs.specs.Fed.{AreOccurrences, starts}
use Rattle.mg_runs.specs.Merging.{AreRunsAt}
use Rattle.mg_runs.specs.Rounds.{first_joined, joined_runs, AreWritten, AreStored, AreJoined, IsGroupAt, AreCounted}
use Rattle.mg_runs.proofs.Rounds.{joined_more, ceil_is, runs_slice, group_is, written_joined, merged_joined}
use Rattle.mg_runs.proofs.RoundsBits.{runs_bits_more, runs_whole, first_joined_short, length_starts, starts_more, all_runs_at, runs_at_slice}
use Rattle.mg_runs.proofs.RoundsFed.{fed_written, length_runs_of}

-- ---- a round's loop: `at` is the first run that is not joined yet, 0 at first

pub joined_none : (w : ℕ) (runs : List (List TermPosting)) → 1 ≤ w → AreJoined w runs 0 [] []
joined_none w runs some =
    let z : 0 * w ≡ 0 = omega arith in
    record { count = 0; next = omega arith; last = omega arith; written = refl; stand = refl }

-- the runs of a group, or their places: a slice up to the next group, or the end
pub group_slice : {X : Type 0} (w at end : ℕ) (xs : List X) → end ≡ min (at + w) (length xs) → at < length xs → take (end - at) (drop at xs) ≡ take w (drop at xs)
group_slice w at end xs e less =
    let size : end - at ≡ min w (length (drop at xs)) = omega (arith, e, less, length-drop at xs) in
    ap (λ n. take n (drop at xs)) size ∙ take_min w (drop at xs)

pub joined_group : (w at end : ℕ) (runs : List (List TermPosting)) (bits : Bits) (places : List ℕ) → AreJoined w runs at bits places →
    at < length runs → end ≡ min (at + w) (length runs) →
    AreJoined w runs end (bits ++ filled (run_bits (merged (take w (drop at runs))))) (places ++ length bits ∷ [])
joined_group w at end runs bits places is less e =
    let k : ℕ = is.count in
    let group : List TermPosting = merged (take w (drop at runs)) in
    let old : List (List TermPosting) = first_joined w k runs in
    let next : suc k * w ≡ w + k * w = omega arith in
    let here = is.next in
    let there : at ≡ k * w = omega arith in
    let more : first_joined w (suc k) runs ≡ old ++ group ∷ [] = joined_more w k runs ∙ ap (λ n. old ++ merged (take w (drop n runs)) ∷ []) (sym there) in
    record {
      count = suc k;
      next = omega arith;
      last = omega arith;
      written = ap (λ b. b ++ filled (run_bits group)) is.written ∙ sym (runs_bits_more old group) ∙ ap (λ rs. runs_bits rs) (sym more);
      stand = ap (λ p. p ++ length bits ∷ []) is.stand ∙ ap (λ b. starts 0 old ++ length b ∷ []) is.written ∙ sym (starts_more old group) ∙ ap (λ rs. starts 0 rs) (sym more);
    }

joined_count : (w at : ℕ) (runs : List (List TermPosting)) (bits : Bits) (places : List ℕ) (is : AreJoined w runs at bits places) → 1 ≤ w → length runs ≤ at → is.count ≡ (length runs + w - 1) / w
joined_count w at runs bits places is some all =
    let here = is.next in
    sym (ceil_is (length runs) w is.count some is.last (omega arith))

pub joined_bits : (w at : ℕ) (runs : List (List TermPosting)) (bits : Bits) (places : List ℕ) → AreJoined w runs at bits places → 1 ≤ w → length runs ≤ at → bits ≡ runs_bits (joined_runs w runs)
joined_bits w at runs bits places is some all =
    is.written ∙ ap (λ n. runs_bits (first_joined w n runs)) (joined_count w at runs bits places is some all)

pub joined_places : (w at : ℕ) (runs : List (List TermPosting)) (bits : Bits) (places : List ℕ) → AreJoined w runs at bits places → 1 ≤ w → length runs ≤ at → places ≡ starts 0 (joined_runs w runs)
joined_places w at runs bits places is some all =
    is.stand ∙ ap (λ n. starts 0 (first_joined w n runs)) (joined_count w at runs bits places is some all)

-- the group at hand may be joined
pub group_at : (w at : ℕ) (runs : List (List TermPosting)) (bits : Bits) (places : List ℕ) → AreJoined w runs at bits places → 1 ≤ w → w < length runs →
    at < length runs → AreWritten runs → IsGroupAt (take w (drop at runs)) (length bits)
group_at w at runs bits places is some more less written =
    let k : ℕ = is.count in
    let here = is.next in
    let there : k * w ≡ at = omega arith in
    let next : suc k * w ≡ w + k * w = omega arith in
    let within : suc k ≤ (length runs + w - 1) / w = le-div (suc k) (length runs + w - 1) w some (omega arith) in
    let low : k * w < length runs = omega arith in
    let group = group_is w k runs some more low written in
    let short = first_joined_short w k runs some more (omega arith) written in
    let size : length bits ≡ length (runs_bits (first_joined w k runs)) = ap (λ b. length b) is.written in
    let few = written.few in
    subst (λ n. IsGroupAt (take w (drop n runs)) (length bits)) there (record {
      are = runs_slice w (k * w) runs written.are;
      run = group.0;
      some = group.1.some;
      few = group.1.short;
      below = omega (arith, size, short, few);
      whole = subst (λ n. n % 8 ≡ 0) (sym size) (runs_whole (first_joined w k runs));
    })

-- ---- how many groups there are, also where the file isn't told

pub length_slice : {X : Type 0} (at end : ℕ) (xs : List X) → end ≤ length xs → length (take (end - at) (drop at xs)) ≡ end - at
length_slice at end xs within = omega (arith, within, length-take (end - at) (drop at xs), length-drop at xs)

pub counted_more : (w many at end count : ℕ) → AreCounted w many at count → at < many → end ≡ min (at + w) many → AreCounted w many end (count + 1)
counted_more w many at end count is less e =
    let next : (count + 1) * w ≡ w + count * w = omega arith in
    let here = is.next in
    record { next = omega arith; last = omega arith }

pub counted_all : (w many at count : ℕ) → AreCounted w many at count → 1 ≤ w → many ≤ at → count ≡ (many + w - 1) / w
counted_all w many at count is some all =
    let here = is.next in
    sym (ceil_is many w count some is.last (omega arith))

-- ---- runs that are stored

pub stored_at : (file places : List ℕ) (whole : List TermPosting) (is : AreStored file places whole) → AreRunsAt file places is.runs
stored_at file places whole is =
    subst (λ p. AreRunsAt file p is.runs) (sym is.stand) (all_runs_at file is.runs is.bits is.written)

pub stored_count : (file places : List ℕ) (whole : List TermPosting) (is : AreStored file places whole) → length is.runs ≡ length places
stored_count file places whole is = sym (ap (λ p. length p) is.stand ∙ length_starts 0 is.runs)

-- a group's runs stand at its places, a slice of all places
pub stored_group : (file places : List ℕ) (whole : List TermPosting) (w at end : ℕ) (is : AreStored file places whole) →
    end ≡ min (at + w) (length places) → at < length places → AreRunsAt file (take (end - at) (drop at places)) (take w (drop at is.runs))
stored_group file places whole w at end is e less =
    subst (λ p. AreRunsAt file p (take w (drop at is.runs))) (sym (group_slice w at end places e less)) (runs_at_slice file places is.runs w at (stored_at file places whole is))

-- a round leaves the same postings, in fewer runs
pub stored_next : (file places next nexts : List ℕ) (whole : List TermPosting) (w : ℕ) (is : AreStored file places whole) → 1 ≤ w → w < length places →
    bits_of next ≡ runs_bits (joined_runs w is.runs) → nexts ≡ starts 0 (joined_runs w is.runs) → AreStored next nexts whole
stored_next file places next nexts whole w is some more bits at =
    let size = stored_count file places whole is in
    record {
      runs = joined_runs w is.runs;
      written = written_joined w is.runs some (omega arith) is.written;
      bits = bits;
      stand = at;
      same = merged_joined w is.runs some is.written.are ∙ is.same;
    }

-- the runs of occurrences
pub stored_fed : (file places : List ℕ) (cap : ℕ) (fed : List (ℕ × ℕ)) → bits_of file ≡ run_part_bits cap fed → places ≡ starts 0 (runs_of cap fed) →
    1 ≤ cap → cap < 2 ^ 31 → AreOccurrences fed → length fed < 2 ^ 32 → AreStored file places (term_postings fed)
stored_fed file places cap fed bits at some small all few = record {
  runs = runs_of cap fed;
  written = fed_written cap fed some small all few;
  bits = bits;
  stand = at;
  same = merged-all cap fed some;
}

-- as many groups of occurrences as runs
pub groups_are_runs : (n cap : ℕ) → 1 ≤ cap → (n + cap - 1) / cap ≡ run_count n cap
groups_are_runs n cap some = let up = div_ceil_times n cap some in ceil_is n cap (run_count n cap) some up.1 up.0

pub fed_count : (places : List ℕ) (cap : ℕ) (fed : List (ℕ × ℕ)) → 1 ≤ cap → places ≡ starts 0 (runs_of cap fed) → length places ≡ run_count (length fed) cap
fed_count places cap fed some at = ap (λ p. length p) at ∙ length_starts 0 (runs_of cap fed) ∙ length_runs_of cap fed ∙ groups_are_runs (length fed) cap some

-- ---- the peak: 64 bytes a run in use

peak_first : (few old now next : ℕ) → now ≡ max old (64 * 0) → next ≡ max now (64 * few) → next ≡ max old (64 * few)
peak_first few old now next is more = omega arith

peak_within : (few w old next now : ℕ) → few ≤ w → now ≡ max old (64 * w) → next ≡ max now (64 * few) → next ≡ max old (64 * w)
peak_within few w old next now less is more = omega arith

peak_stays : (few w now next top : ℕ) → few ≤ w → max now (64 * w) ≡ top → next ≡ max now (64 * w) → max next (64 * few) ≡ top
peak_stays few w now next top less is more = omega arith

-- within a round of more runs than the width: after the groups up to `at`
pub peak_group : (w count n at end old now next : ℕ) → at ≡ min (count * w) n → at < n → end ≡ min (at + w) n → now ≡ max old (64 * min at w) →
    next ≡ max now (64 * (end - at)) → next ≡ max old (64 * min end w)
peak_group w zero n at end old now next here less e is more =
    let z : zero * w ≡ 0 = omega arith in
    let none : min at w ≡ 0 = omega arith in
    let size : end - at ≡ min end w = omega arith in
    peak_first (min end w) old now next (is ∙ ap (λ k. max old (64 * k)) none) (more ∙ ap (λ k. max now (64 * k)) size)
peak_group w (suc count) n at end old now next here less e is more =
    let z : suc count * w ≡ w + count * w = omega arith in
    let before : min at w ≡ w = omega arith in
    let after : min end w ≡ w = omega arith in
    let within : end - at ≤ w = omega arith in
    peak_within (end - at) w old next now within (is ∙ ap (λ k. max old (64 * k)) before) more ∙ ap (λ k. max old (64 * k)) (sym after)

-- from round to round: `first` runs at first, `many` now, `few` after the round
pub peak_round : (w first many few start now next : ℕ) → max now (64 * min many w) ≡ max start (64 * min first w) → w < many → next ≡ max now (64 * w) →
    max next (64 * min few w) ≡ max start (64 * min first w)
peak_round w first many few start now next is more e =
    let all : min many w ≡ w = omega arith in
    peak_stays (min few w) w now next _ (omega arith) (ap (λ k. max now (64 * k)) (sym all) ∙ is) e
