-- The last run, of the occurrences that the pool has at the end.
use Rattle.std.proofs.Common.{◌≡◌, ℕ, ◌+◌, ◌-◌, ◌*◌, ◌/◌, ◌%◌, ◌^◌, min, max, Ok, Err, ◌<◌, ◌≤◌, List, [], ◌++◌, length, sym, ap, subst, ◌∙◌, arith, IsSome}
use Rattle.std.specs.Prelude.{OnOk}
use Rattle.std.specs.declared.option.Option.{Option}
use Rattle.std.specs.declared.result.Result.{Result}
use Rattle.std.proofs.lemmas.Nat.{div_below}
use Rattle.mg_dev.specs.Files.{Files, bytes_at}
use Rattle.mg_defs.specs.Bits.{Bits, bits_of, digits, filled, to_byte, as_bytes}
use Rattle.mg_defs.specs.Heads.{run_count}
use Rattle.mg_defs.specs.Postings.{gathered}
use Rattle.mg_defs.specs.RunBits.{run_bits, run_part_bits}
use Rattle.mg_bits.specs.Writer.{AreBytes}
use Rattle.mg_bits.proofs.CallerLemmas.{bytes_again}
use Rattle.mg_bits.specs.BitWriting.{BitWriting, Holds, WroteBits, bits_put}
use Rattle.mg_runs.specs.Pooled.{Pooled, used}
use Rattle.mg_runs.specs.Fed.{Inverting, IsFed, cap_of}
use Rattle.mg_runs.proofs.RoundsLoop.{groups_are_runs}
use Rattle.mg_runs.proofs.RoundsFirst.{fed_bits, fed_bits_none, finished_bits}

pub some_entries : (pool : Pooled) (u : ℕ) → u ≡ used pool → pool.slots ≡ [] → 0 < u → 1 ≤ length pool.entries
some_entries pool u e none more = let z : length pool.slots ≡ 0 = ap (λ l. length l) none in omega arith

pub no_entries_used : (pool : Pooled) (u : ℕ) → u ≡ used pool → u ≤ 0 → length pool.entries ≡ 0
no_entries_used pool u e none = omega arith

pub last_bits : (runs : Inverting) (f f1 : Option Files) (fed : List (ℕ × ℕ)) (w1 : BitWriting) (bits : Bits) → IsFed runs f fed →
    1 ≤ length runs.pool.entries → IsSome f → WroteBits runs.writer w1 f f1 (filled (run_bits (gathered runs.pool.entries))) → w1.place % 8 ≡ 0 →
    bits ≡ bits_put w1 f1 ++ digits (to_byte w1.place) 0 → bits ≡ run_part_bits (cap_of runs.pool) fed
last_bits runs f f1 fed w1 bits is some told wrote whole e =
    e ∙ finished_bits w1.place (bits_put w1 f1) whole ∙ wrote.told told ∙ fed_bits runs f fed is some told

pub no_last_bits : (runs : Inverting) (f : Option Files) (fed : List (ℕ × ℕ)) (bits : Bits) → IsFed runs f fed → length runs.pool.entries ≡ 0 →
    IsSome f → bits ≡ bits_put runs.writer f ++ digits (to_byte runs.writer.place) 0 → bits ≡ run_part_bits (cap_of runs.pool) fed
no_last_bits runs f fed bits is none told e =
    e ∙ finished_bits runs.writer.place (bits_put runs.writer f) is.whole ∙ fed_bits_none runs f fed is none told

pub on_ok : {T E : Type 0} (P : Type 0) (r : Result T E) → P → OnOk r P
on_ok P (Ok value) p = p
on_ok P (Err e) p = tt

-- the part of the runs as bytes
pub run_is_bytes : (w : BitWriting) (name : List ℕ) (f : Option Files) → IsSome f → w.name ≡ name → Holds w f → AreBytes (bytes_at f name)
run_is_bytes w name f told same holds = subst (λ n. AreBytes (bytes_at f n)) same (holds.bytes told)

pub run_made : {T E : Type 0} (r : Result T E) (bytes : List ℕ) (bits : Bits) → AreBytes bytes → bits_of bytes ≡ bits → OnOk r (bytes ≡ as_bytes bits)
run_made r bytes bits small is = on_ok (bytes ≡ as_bytes bits) r (sym (bytes_again bytes small) ∙ ap as_bytes is)

-- how many runs there are fits in 32 bits
pub runs_fit : (n cap : ℕ) → 1 ≤ cap → n < 2 ^ 32 → run_count n cap < 2 ^ 32
runs_fit n cap some few =
    let below : (n + cap - 1) / cap < 2 ^ 32 = div_below (n + cap - 1) cap (2 ^ 32) some (omega arith) in
    omega (arith, below, groups_are_runs n cap some)

-- the greatest use of the pool over all rounds
pub peak_all : (n cap width first last p0 p1 : ℕ) → p0 ≡ 12 * min n cap → first ≡ run_count n cap →
    max p1 (64 * min last width) ≡ max p0 (64 * min first width) → last ≤ width →
    max p1 (64 * last) ≡ max (12 * min n cap) (64 * min (run_count n cap) width)
peak_all n cap width first last p0 p1 start count rounds few =
    let one : min last width ≡ last = omega arith in
    ap (λ k. max p1 (64 * k)) (sym one) ∙ rounds ∙ ap (λ k. max k (64 * min first width)) start ∙ ap (λ k. max (12 * min n cap) (64 * min k width)) count
