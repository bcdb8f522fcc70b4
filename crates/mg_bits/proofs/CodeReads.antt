-- The ways out of a reader of a code that reads bit by bit: each makes what the reader promises.
use Rattle.std.proofs.Common.{arith, ◌≡◌, ◌+◌, ◌≤◌, ◌<◌, ℕ, Bool, Ok, Err, [], ◌∷◌, ◌++◌, length, add-zero, length-append}
use Rattle.std.specs.declared.option.Option.{Option}
use Rattle.mg_dev.specs.Files.{Files}
use Rattle.mg_defs.specs.Bits.{Begins, Bits}
use Rattle.mg_defs.specs.Answers.{CutShort, IsNone, IsPrefixFree}
use Rattle.mg_bits.specs.Feed.{Feeding, Device as Seen}
use Rattle.mg_bits.specs.NextBits.{FromNext, ReadNext, ReadsNext}
use Rattle.mg_bits.specs.Reader.{AnswersBit, DeviceCause}
use Rattle.mg_bits.specs.CodeAnswers.{CodeCause, of_bit}
use Rattle.mg_bits.specs.CodeReads.{ReadsCode}
use Rattle.mg_bits.specs.Reading.{Reading}
use Rattle.mg_bits.specs.declared.bit_err.BitErr.{BitErr}
use Rattle.mg_bits.specs.declared.bit_err.BitErr.TheVariants.{Device, End}
use Rattle.mg_bits.specs.declared.code_err.CodeErr.TheVariants.{Over}
use Rattle.mg_bits.proofs.Ranges.{calm_more, read_none, read_step, part_step}
use Rattle.mg_bits.proofs.Told.{same_told}
use Rattle.mg_bits.proofs.Walks.{walk_begun, walk_bit, walk_none, walk_whole, walk_refused, walk_pages, no_pages}

-- these bits were read from the reader's place on
pub record HasRead {Fed Dev : Type 0} (agrees : Fed → Option Files → Type 0) (feeding : Fed → Feeding) (device : Dev → Seen)
    (old new : Reading Fed) (dev now : Dev) (bits : Bits) : Type 0 where
  pub fits : agrees new.feed (device now).files
  pub place : new.place ≡ old.place + length bits
  pub told : FromNext feeding device old dev (Begins bits)
  pub read : ReadNext feeding device old new dev now (length bits)

caused : (refusal : BitErr) (place a b c : ℕ) → DeviceCause {T = Bool} (Err refusal) b c → a ≤ b → CodeCause {T = ℕ} (Err (of_bit refusal place)) a c
caused Device place a b c cause le = omega arith
caused (End at) place a b c cause le = tt

module _ {Fed Dev : Type 0} {agrees : Fed → Option Files → Type 0} {feeding : Fed → Feeding} {device : Dev → Seen} where
  pub read_nothing : {r : Reading Fed} {d : Dev} → agrees r.feed (device d).files → HasRead agrees feeding device r r d d []
  read_nothing {r} {d} fits = record {
    fits = fits;
    place = omega arith;
    told = walk_begun _ r.place;
    read = rw add-zero (read_none (feeding r.feed) (device d) r.place);
  }

  pub read_a_bit : {old mid new : Reading Fed} {d0 d1 d2 : Dev} {bits : Bits} {bit : Bool} → 0 < (feeding old.feed).page →
      HasRead agrees feeding device old mid d0 d1 bits → ReadsNext feeding device agrees mid new d1 d2 1 (Ok bit) (AnswersBit (Ok bit) mid.place) →
      HasRead agrees feeding device old new d0 d2 (bits ++ bit ∷ [])
  read_a_bit {old} {mid} {new} {d0} {d1} {d2} {bits} {bit} some one two =
      let long : length (bits ++ bit ∷ []) ≡ length bits + 1 = length-append bits (bit ∷ []) in
      record {
        fits = two.fits;
        place = rw long (omega (arith, one.place, two.place));
        told = walk_bit _ old.place mid.place bits (bit ∷ []) one.place one.told (rw (same_told _ _ _ _ one.read.calm) at two.told);
        read = rw long (read_step _ _ _ _ _ _ old.place (length bits) 1 mid.place some one.place one.read two.read);
      }

  module _ {taken : ℕ → ℕ → Type 0} {limit : ℕ} {code : ℕ → Bits} {bits : Bits} where
    -- the bits are the code of a number
    pub code_is_read : {old new : Reading Fed} {dev now : Dev} (x : ℕ) → HasRead agrees feeding device old new dev now bits → taken limit x → code x ≡ bits →
        ReadsCode taken limit code agrees feeding device old new dev now (Ok x)
    code_is_read {old} x one within is = record {
      fits = one.fits;
      calm = one.read.calm;
      read = rw is one.read;
      pages = tt;
      place = rw is one.place;
      told = walk_whole _ old.place limit (taken limit) code bits x one.told within is;
      range = within;
      cause = tt;
    }

    -- the bits are the front of no code
    pub no_code_is_read : {old mid new : Reading Fed} {dev now : Dev} → HasRead agrees feeding device old mid dev now bits → IsNone (taken limit) code bits →
        new.feed ≡ mid.feed → new.place ≡ old.place → ReadsCode taken limit code agrees feeding device old new dev now (Err (Over old.place limit))
    no_code_is_read {old} {mid} {new} {dev} {now} one none feed place = record {
      fits = rw feed one.fits;
      calm = rw feed one.read.calm;
      read = tt;
      pages = rw feed (no_pages _ old.place (taken limit) code bits (feeding old.feed) (feeding mid.feed) (device dev) (device now) one.told none);
      place = place;
      told = walk_none _ old.place limit (taken limit) code bits one.told none;
      range = tt;
      cause = tt;
    }

    -- the bits are a front of a code, and there are no more
    pub a_code_is_cut : {old mid lost new : Reading Fed} {d0 d1 d2 : Dev} {refusal : BitErr} → 0 < (feeding old.feed).page → HasRead agrees feeding device old mid d0 d1 bits →
        ReadsNext {T = Bool} feeding device agrees mid lost d1 d2 1 (Err refusal) (AnswersBit (Err refusal) mid.place) → CutShort (taken limit) code bits →
        IsPrefixFree (taken limit) code → new.feed ≡ lost.feed → new.place ≡ old.place →
        ReadsCode taken limit code agrees feeding device old new d0 d2 (Err (of_bit refusal old.place))
    a_code_is_cut {old} {mid} {lost} {new} {d0} {d1} {d2} {refusal} some one two cut free feed place = record {
      fits = rw feed two.fits;
      calm = rw feed (calm_more (feeding old.feed) (feeding mid.feed) (feeding lost.feed) (device d0) (device d1) (device d2) one.read.calm two.part.calm);
      read = tt;
      pages =
          rw feed
          (walk_pages _ old.place (taken limit) code bits (feeding old.feed) (feeding lost.feed) (device d0) (device d2) some free one.told cut
          (part_step _ _ _ _ _ _ old.place (length bits) 1 mid.place (length bits + 1) some one.place (omega arith) one.read two.part));
      place = place;
      told =
          walk_refused _ old.place mid.place limit (taken limit) code bits refusal one.place free one.told cut
          (rw (same_told _ _ _ _ one.read.calm) at two.told);
      range = tt;
      cause = caused refusal old.place _ _ _ two.cause one.read.calm.faults;
    }
