-- A run that is written in memory.
use Rattle.std.proofs.Common.{arith, ◌≡◌, ◌+◌, ◌*◌, ◌/◌, ◌%◌, ◌≤◌, ◌^◌, max, ℕ, List, [], ◌++◌, length, sym, ap, ◌∙◌, append-nil, IsSome}
use Rattle.std.specs.declared.option.Option.{Option}
use Rattle.mg_dev.specs.Files.{Files}
use Rattle.mg_defs.specs.Bits.{Bits, bits_of, digits, filled, to_byte, as_bytes}
use Rattle.mg_defs.specs.Postings.{gathered}
use Rattle.mg_defs.specs.RunBits.{run_bits}
use Rattle.mg_defs.proofs.CodedTextLaws.{length-as_bytes}
use Rattle.mg_bits.specs.BitWriting.{BitWriting, WroteBits, bits_put}
use Rattle.mg_bits.specs.Writer.{AreBytes}
use Rattle.mg_bits.proofs.CallerLemmas.{bytes_again}
use Rattle.mg_runs.specs.Pooled.{Pooled}
use Rattle.mg_check_index.specs.Counting.{run_of_pool}

-- no bit is wanting to a whole byte
whole_bits : (place : ℕ) (bits : Bits) → place % 8 ≡ 0 → bits ++ digits (to_byte place) 0 ≡ bits
unfolding digits
whole_bits place bits whole =
    let none : to_byte place ≡ 0 = omega arith in
    ap (λ n. bits ++ digits n 0) none ∙ append-nil bits

-- what was written first is all
pub written_bits : (w0 w1 : BitWriting) (f0 f1 : Option Files) (bits made : Bits) → IsSome f0 → bits_put w0 f0 ≡ [] → WroteBits w0 w1 f0 f1 bits →
    w1.place % 8 ≡ 0 → made ≡ bits_put w1 f1 ++ digits (to_byte w1.place) 0 → made ≡ bits
written_bits w0 w1 f0 f1 bits made told none wrote whole is = is ∙ whole_bits w1.place (bits_put w1 f1) whole ∙ wrote.told told ∙ ap (λ b. b ++ bits) none

pub run_is : (pool : Pooled) (bytes : List ℕ) → AreBytes bytes → bits_of bytes ≡ filled (run_bits (gathered pool.entries)) → bytes ≡ run_of_pool pool
run_is pool bytes small is = sym (bytes_again bytes small) ∙ ap as_bytes (is ∙ sym (append-nil (filled (run_bits (gathered pool.entries)))))

pub run_count : (pool : Pooled) (p0 p1 : ℕ) → p0 ≡ 0 → p1 ≡ p0 + length (filled (run_bits (gathered pool.entries))) → p1 % 8 ≡ 0 → p1 / 8 ≡ length (run_of_pool pool)
run_count pool p0 p1 none place whole =
    let bits : Bits = filled (run_bits (gathered pool.entries)) in
    let long : length (as_bytes bits) ≡ p1 / 8 = omega (arith, length-as_bytes bits, none, place, whole) in
    sym long ∙ ap (λ (b : Bits). length (as_bytes b)) (sym (append-nil bits))

pub run_short : (pool : Pooled) (p0 p1 : ℕ) → p0 ≡ 0 → p1 ≡ p0 + length (filled (run_bits (gathered pool.entries))) → p1 % 8 ≡ 0 →
    p1 ≤ p0 + 128 + 256 * length pool.entries → length (run_of_pool pool) ≤ 16 + 32 * length pool.entries
run_short pool p0 p1 none place whole few = omega (arith, run_count pool p0 p1 none place whole, none, few)

-- a pool for so many entries
pub budget_least : (cap budget : ℕ) → budget ≡ max (12 * cap) 4096 → 4096 ≤ budget
budget_least cap budget is = omega arith

pub budget_most : (cap budget : ℕ) → cap ≤ 89478485 → budget ≡ max (12 * cap) 4096 → budget ≤ 2 ^ 30
budget_most cap budget few is = omega arith

pub budget_cap : (cap budget : ℕ) → 341 ≤ cap → budget ≡ max (12 * cap) 4096 → budget / 12 ≡ cap
budget_cap cap budget some is = omega arith
