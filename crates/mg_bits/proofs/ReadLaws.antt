-- What each way out of a bit reader's calls promises.
use Rattle.std.proofs.Common.{arith, ◌≡◌, ◌+◌, ◌*◌, ◌/◌, ◌%◌, ◌≤◌, ◌<◌, ◌^◌, ℕ, Bool, List, nat_eq, sym, ◌∙◌, ap, subst, Option, Some, None, Result, Ok, Err}
use Rattle.mg_dev.specs.Files.{Files}
use Rattle.mg_defs.specs.Bits.{Bits, Begins, FromPlace, digits}
use Rattle.mg_bits.specs.Feed.{Calm, Device as Seen, Feeding, HoldsBits, KeepsPage, Read, ReadPart, ReadsWithin, page_of}
use Rattle.mg_bits.specs.Reading.{Reading}
use Rattle.mg_bits.specs.Reader.{AnswersBit, AnswersPiece, DeviceCause, EndHolds, at_place}
use Rattle.mg_bits.specs.NextBits.{FromNext, ReadsBits, ReadsNext}
use Rattle.mg_bits.specs.declared.bit_err.BitErr.{BitErr}
use Rattle.mg_bits.specs.declared.bit_err.BitErr.TheVariants.{Device, End}
use Rattle.mg_bits.proofs.EightBytes.{read_held}
use Rattle.mg_bits.proofs.Places.{page_of_place}
use Rattle.mg_bits.proofs.Ranges.{held_piece, part_step, within_piece}
use Rattle.mg_bits.proofs.Told.{same_told, told_end, told_end_ok, told_one, told_refused}

-- a device's failure tells nothing of the bits
pub told_any : (told : Option (List ℕ)) (place : ℕ) → FromPlace told place (λ bits. Unit {0})
told_any None place = tt
told_any (Some bytes) place = tt

-- a refusal that came after others calls has its cause between the first of them and the last
cause_at : (refusal : BitErr) (place a b c : ℕ) → a ≤ b → DeviceCause {T = ℕ} (Err refusal) b c → DeviceCause {T = ℕ} (Err (at_place refusal place)) a c
cause_at Device place a b c later rose = omega (arith, later, rose)
cause_at (End at) place a b c later none = tt

module _ {Fed Dev : Type 0} {feeding : Fed → Feeding} {device : Dev → Seen} {fits : Fed → Option Files → Type 0} where
  -- bits of the page that is held
  pub next_held : {T : Type 0} {old new : Reading Fed} {dev : Dev} {count : ℕ} {value : T} {tells : Bits → Type 0} → 0 < count → fits old.feed (device dev).files →
      HoldsBits (feeding old.feed) old.place count → new.feed ≡ old.feed → new.place ≡ old.place + count → FromNext feeding device old dev tells →
      ReadsNext feeding device fits old new dev dev count (Ok value) tells
  next_held {T} {old} {new} {dev} {count} some agrees holds same place told = record {
    fits = subst (λ f. fits f (device dev).files) (sym same) agrees;
    read = subst (λ f. Read (feeding old.feed) (feeding f) (device dev) (device dev) old.place (old.place + count)) (sym same)
        (read_held (feeding old.feed) (device dev) old.place count some holds);
    part = tt;
    place = place;
    told = told;
    cause = tt;
  }

  -- a call from where another left the reader
  pub from_same : {T : Type 0} {first old new : Reading Fed} {before now : Dev} {count : ℕ} {result : Result T BitErr} (tells : ℕ → Bits → Type 0) → old ≡ first →
      ReadsNext feeding device fits old new before now count result (tells old.place) → ReadsNext feeding device fits first new before now count result (tells first.place)
  from_same {T} {first} {old} {new} {before} {now} {count} {result} tells same next =
      subst (λ r. ReadsNext feeding device fits r new before now count result (tells r.place)) same next

  -- ---- bits of one byte

  module _ {old new : Reading Fed} {before now : Dev} {count : ℕ} (some : 0 < count) (room : old.place % 8 + count ≤ 8) (agrees : fits new.feed (device now).files)
      (calm : Calm (feeding old.feed) (feeding new.feed) (device before) (device now))
      (pages : ReadsWithin (feeding old.feed) (feeding new.feed) (device before) (device now) (8 * (old.place / 8)) (8 * (old.place / 8) + 1)) where
    -- the byte is not there, or the device failed
    pub piece_refused : (refusal : BitErr) → new.place ≡ old.place → FromNext feeding device old before (AnswersPiece (Err refusal) old.place count) →
        DeviceCause {T = ℕ} (Err refusal) (device before).faults (device now).faults →
        ReadsNext {T = ℕ} feeding device fits old new before now count (Err refusal) (AnswersPiece (Err refusal) old.place count)
    piece_refused refusal place told cause = record {
      fits = agrees;
      read = tt;
      part = record { calm = calm; pages = within_piece _ _ _ _ old.place count some room pages };
      place = place;
      told = told;
      cause = cause;
    }

    -- the byte is there
    pub piece_got : (value : ℕ) → new.place ≡ old.place + count → (feeding new.feed).held ≡ Some (page_of (feeding old.feed).page (8 * (old.place / 8))) →
        FromNext feeding device old before (Begins (digits count value)) →
        ReadsNext feeding device fits old new before now count (Ok value) (AnswersPiece (Ok value) old.place count)
    piece_got value place held told = record {
      fits = agrees;
      read = record {
        calm = calm;
        pages = within_piece _ _ _ _ old.place count some room pages;
        held = held ∙ ap Some (page_of_place (feeding old.feed).page old.place) ∙ sym (held_piece (feeding old.feed).page (feeding old.feed).held old.place count some room);
      };
      part = tt;
      place = place;
      told = told;
      cause = tt;
    }

  -- ---- bits of one byte after the other

  -- a byte is refused
  pub number_refused : (done : ℕ) {old mid last new : Reading Fed} {d0 d1 d2 : Dev} {refusal at : BitErr} {size count : ℕ} → 0 < (feeding old.feed).page → mid.place ≡ old.place + done →
      0 < size → done + size ≤ count → Read (feeding old.feed) (feeding mid.feed) (device d0) (device d1) old.place (old.place + done) →
      ReadsNext {T = ℕ} feeding device fits mid last d1 d2 size (Err refusal) (AnswersPiece (Err refusal) mid.place size) →
      KeepsPage (feeding mid.feed) (feeding last.feed) mid.place → new.feed ≡ last.feed → new.place ≡ old.place →
      at ≡ at_place refusal old.place → ReadsBits feeding device fits old new d0 d2 count (Err at)
  number_refused done {old} {mid} {last} {new} {d0} {d1} {d2} {refusal} {at} {size} {count} page mid_is some within read piece keeps feed place is =
      let told : FromPlace ((feeding old.feed).source (device d0).files) mid.place (AnswersPiece (Err refusal) mid.place size) =
      subst (λ t. FromPlace t mid.place (AnswersPiece (Err refusal) mid.place size)) (same_told _ _ _ _ read.calm) piece.told in
      let keeps_it : (feeding mid.feed).held ≡ Some (page_of (feeding old.feed).page mid.place) → (feeding last.feed).held ≡ (feeding mid.feed).held =
      subst (λ n. (feeding mid.feed).held ≡ Some (page_of n mid.place) → (feeding last.feed).held ≡ (feeding mid.feed).held) read.calm.page keeps in
      subst (λ e. ReadsBits feeding device fits old new d0 d2 count (Err e)) (sym is)
      (record {
        fits = subst (λ f. fits f (device d2).files) (sym feed) piece.fits;
        read = tt;
        part = subst (λ f. ReadPart (feeding old.feed) (feeding f) (device d0) (device d2) old.place (old.place + count)) (sym feed)
            (part_step _ _ _ _ _ _ old.place done size mid.place count page mid_is within read piece.part);
        place = place;
        below = tt;
        told = told_refused _ refusal old.place done mid.place size count (omega (arith, some, within)) mid_is told;
        end = subst (λ f. FromNext feeding device old d0 (EndHolds (Err (at_place refusal old.place)) (feeding old.feed).page old.place count (feeding f).held)) (sym feed)
            (told_end _ refusal (feeding old.feed).page old.place done mid.place size count (feeding old.feed).held (feeding mid.feed).held (feeding last.feed).held page
            (omega (arith, some, within)) mid_is read.held keeps_it told);
        cause = cause_at refusal old.place _ _ _ read.calm.faults piece.cause;
      })

  -- all of them are read
  pub number_read : (done : ℕ) {old new : Reading Fed} {before now : Dev} {count value : ℕ} → done ≡ count → fits new.feed (device now).files → new.place ≡ old.place + done →
      value < 2 ^ done → FromNext feeding device old before (Begins (digits done value)) →
      Read (feeding old.feed) (feeding new.feed) (device before) (device now) old.place (old.place + done) →
      ReadsBits feeding device fits old new before now count (Ok value)
  number_read done {old} {new} {before} {now} {count} {value} is agrees place below told read =
      subst (λ n. ReadsBits feeding device fits old new before now n (Ok value)) is
      (record {
        fits = agrees;
        read = read;
        part = tt;
        place = place;
        below = below;
        told = told;
        end = told_end_ok _ value (feeding old.feed).page old.place done (feeding new.feed).held;
        cause = tt;
      })

  -- ---- one bit of a byte

  pub bit_refused : {old new : Reading Fed} {before now : Dev} (refusal : BitErr) →
      ReadsNext {T = ℕ} feeding device fits old new before now 1 (Err refusal) (AnswersPiece (Err refusal) old.place 1) →
      ReadsNext {T = Bool} feeding device fits old new before now 1 (Err refusal) (AnswersBit (Err refusal) old.place)
  bit_refused Device next = record { fits = next.fits; read = tt; part = next.part; place = next.place; told = next.told; cause = next.cause }
  bit_refused (End at) next = record { fits = next.fits; read = tt; part = next.part; place = next.place; told = next.told; cause = tt }

  pub bit_got : {old new : Reading Fed} {before now : Dev} (value : ℕ) → value < 2 ^ 1 →
      ReadsNext feeding device fits old new before now 1 (Ok value) (AnswersPiece (Ok value) old.place 1) →
      ReadsNext feeding device fits old new before now 1 (Ok (nat_eq value 1)) (AnswersBit (Ok (nat_eq value 1)) old.place)
  bit_got {old} value below next = record {
    fits = next.fits;
    read = next.read;
    part = tt;
    place = next.place;
    told = told_one _ old.place value below next.told;
    cause = tt;
  }
