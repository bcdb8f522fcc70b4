-- Bits that are put: none, some behind others, and some that are refused.
use Rattle.std.proofs.Common.{◌≡◌, ◌≤◌, ◌<◌, ◌+◌, ◌-◌, ◌%◌, ◌++◌, ◌∙◌, ℕ, Ok, Err, ap, length, arith, is_some}
use Rattle.std.specs.Prelude.{OnOk}
use Rattle.std.specs.declared.option.Option.{Option}
use Rattle.std.specs.declared.result.Result.{Result}
use Rattle.mg_dev.specs.Causes.{HasPutCause}
use Rattle.mg_dev.specs.Files.{Files, Reads}
use Rattle.mg_dev.specs.declared.device.PutErr.{PutErr}
use Rattle.mg_defs.specs.Bits.{Bits, digits, filled, to_byte}
use Rattle.mg_defs.proofs.BitLaws.{length_digits}
use Rattle.mg_bits.specs.BitWriting.{BitWriting, WroteBits}
use Rattle.mg_bits.proofs.CallerLemmas.{bits_more, to_more}
use Rattle.mg_codes.specs.Writers.{PutsBits}
use Rattle.mg_runs.proofs.Steps.{put_as}

-- what put so few bits is so little further
pub put_within : {T : Type 0} (v w : BitWriting) (f g : Option Files) (bits : Bits) (most : ℕ) (result : Result T PutErr) →
    OnOk result (WroteBits v w f g bits) → length bits ≤ most → OnOk result (w.place ≤ v.place + most)
put_within v w f g bits most (Ok x) wrote few = omega (arith, wrote.place, few)
put_within v w f g bits most (Err e) wrote few = tt

wrote_more : {T : Type 0} (u v w : BitWriting) (f g h : Option Files) (one two : Bits) (result : Result T PutErr) → is_some g ≡ is_some f →
    WroteBits u v f g one → OnOk result (WroteBits v w g h two) → OnOk result (WroteBits u w f h (one ++ two))
wrote_more u v w f g h one two (Ok x) told first second = bits_more f g h u v w one two told first second
wrote_more u v w f g h one two (Err e) told first second = tt

-- a cause behind calls that were done
pub cause_more : {T : Type 0} {l m n : ℕ} (result : Result T PutErr) → l ≤ m → HasPutCause m n result → HasPutCause l n result
cause_more result le cause = record { later = omega (arith, le, cause.later); failed = λ e. let rose = cause.failed e in omega arith }

-- bits behind others
pub puts_more : {Store T U : Type 0} {x : T} {result : Result U PutErr} {one two : Bits} {files : Store → Option Files} {reads : Store → Reads}
    {faults : Store → ℕ} {u v w : BitWriting} {before between now : Store} →
    PutsBits one files reads faults u v before between (Ok x) → PutsBits two files reads faults v w between now result →
    PutsBits (one ++ two) files reads faults u w before now result
puts_more {result = result} {one = one} {two = two} {files = files} {reads = reads} {u = u} {v = v} {w = w} {before = before} {between = between} {now = now} first second = record {
  holds = second.holds;
  bits = wrote_more u v w (files before) (files between) (files now) one two result first.wrote.told first.bits second.bits;
  name = second.name ∙ first.name;
  wrote = to_more u.name (files before) (files between) (files now) (reads before) (reads between) (reads now) first.wrote (rw first.name at second.wrote);
  cause = cause_more result first.cause.later second.cause;
}

-- a refusal is one of any bits
pub puts_err : {Store T U : Type 0} {e : PutErr} {one two : Bits} {files : Store → Option Files} {reads : Store → Reads}
    {faults : Store → ℕ} {v w : BitWriting} {before now : Store} →
    PutsBits {T = T} one files reads faults v w before now (Err e) → PutsBits {T = U} two files reads faults v w before now (Err e)
puts_err {T = T} {U = U} puts = record { holds = tt; bits = tt; name = puts.name; wrote = puts.wrote; cause = put_as T U _ _ _ puts.cause }

-- it is told of no answer but the refusal
pub puts_ok : {Store T U : Type 0} {x : T} {y : U} {bits : Bits} {files : Store → Option Files} {reads : Store → Reads}
    {faults : Store → ℕ} {v w : BitWriting} {before now : Store} →
    PutsBits bits files reads faults v w before now (Ok x) → PutsBits bits files reads faults v w before now (Ok y)
puts_ok puts = record { holds = puts.holds; bits = puts.bits; name = puts.name; wrote = puts.wrote; cause = record { later = puts.cause.later; failed = λ e. absurd cc } }

-- ---- zero-bits to a byte

pub to_byte_same : (p n : ℕ) → p % 8 ≡ 0 → to_byte (p + n) ≡ to_byte n
to_byte_same p n h =
    let e : (p + n) % 8 ≡ n % 8 = omega arith in
    ap (λ k. (8 - k) % 8) e

to_byte_below : (n : ℕ) → to_byte n < 8
to_byte_below n = omega arith

pub aligned_place : (f0 f1 : Option Files) (w0 w1 : BitWriting) → WroteBits w0 w1 f0 f1 (digits (to_byte w0.place) 0) → w1.place ≤ w0.place + 8
aligned_place f0 f1 w0 w1 wrote =
    let p = wrote.place in
    omega (arith, p, length_digits (to_byte w0.place) 0, to_byte_below w0.place)

-- bits that began at a byte, and zero-bits behind them
pub puts_filled : {Store T U V : Type 0} {x : T} {y : U} {z : V} {bits : Bits} {files : Store → Option Files} {reads : Store → Reads}
    {faults : Store → ℕ} {u v w : BitWriting} {before between now : Store} → u.place % 8 ≡ 0 →
    PutsBits bits files reads faults u v before between (Ok x) → PutsBits (digits (to_byte v.place) 0) files reads faults v w between now (Ok y) →
    PutsBits (filled bits) files reads faults u w before now (Ok z)
unfolding filled
puts_filled {bits = bits} {u = u} whole first second =
    let same = ap (λ n. to_byte n) first.bits.place ∙ to_byte_same u.place (length bits) whole in
    puts_ok (puts_more first (rw same at second))
