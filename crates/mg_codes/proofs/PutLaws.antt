-- The ways out of a writer of a code: its pieces make what the writer promises.
use Rattle.std.proofs.Common.{arith, ◌≡◌, ◌≤◌, ℕ, Ok, ◌++◌}
use Rattle.std.specs.declared.option.Option.{Option}
use Rattle.mg_dev.specs.Files.{Files, Reads}
use Rattle.mg_defs.specs.Bits.{Bits}
use Rattle.mg_bits.specs.Writer.{WroteTo}
use Rattle.mg_bits.specs.BitWriting.{BitWriting, Holds, WroteBits}
use Rattle.mg_bits.proofs.CallerLemmas.{bits_more, to_more}
use Rattle.mg_codes.specs.Writers.{PutsBits}

-- these bits were written
pub record HasPut {Store : Type 0} (bits : Bits) (files : Store → Option Files) (reads : Store → Reads) (faults : Store → ℕ)
    (old new : BitWriting) (before now : Store) : Type 0 where
  pub holds : Holds new (files now)
  pub wrote_bits : WroteBits old new (files before) (files now) bits
  pub wrote : WroteTo old.name (files before) (files now) (reads before) (reads now)
  pub later : faults before ≤ faults now

-- a code that was written
pub put_of : {Store T : Type 0} {code : Bits} {files : Store → Option Files} {reads : Store → Reads} {faults : Store → ℕ}
    {old new : BitWriting} {before now : Store} {x : T} → PutsBits code files reads faults old new before now (Ok x) → HasPut code files reads faults old new before now
put_of put = record { holds = put.holds; wrote_bits = put.bits; wrote = put.wrote; later = put.cause.later }

-- bits after bits
pub put_behind : {Store : Type 0} {one two : Bits} {files : Store → Option Files} {reads : Store → Reads} {faults : Store → ℕ}
    {old mid new : BitWriting} {before between now : Store} → HasPut one files reads faults old mid before between →
    HasPut two files reads faults mid new between now → HasPut (one ++ two) files reads faults old new before now
put_behind {Store} {one} {two} {files} {reads} {faults} {old} {mid} {new} {before} {between} {now} first second = record {
  holds = second.holds;
  wrote_bits = bits_more (files before) (files between) (files now) old mid new one two first.wrote.told first.wrote_bits second.wrote_bits;
  wrote =
      to_more old.name (files before) (files between) (files now) (reads before) (reads between) (reads now) first.wrote
      (rw first.wrote_bits.name at second.wrote);
  later = omega (arith, first.later, second.later);
}

-- the bits are those of a code
pub code_is_put : {Store T : Type 0} {code bits : Bits} {files : Store → Option Files} {reads : Store → Reads} {faults : Store → ℕ}
    {old new : BitWriting} {before now : Store} {x : T} → HasPut bits files reads faults old new before now → code ≡ bits →
    PutsBits code files reads faults old new before now (Ok x)
code_is_put put is = record {
  holds = put.holds;
  bits = rw is put.wrote_bits;
  name = put.wrote_bits.name;
  wrote = put.wrote;
  cause = record { later = put.later; failed = λ h. absurd cc };
}
