-- What a call that reads bits does to a bit reader and its device, by the functions that tell what contracts see of both.
use Rattle.std.specs.Prelude.{◌≡◌, ◌+◌, ◌<◌, ◌^◌, ℕ, IfOk, MatchResult, OnErr, OnOk}
use Rattle.std.specs.declared.option.Option.{Option}
use Rattle.std.specs.declared.result.Result.{Result}
use Rattle.mg_dev.specs.Files.{Files}
use Rattle.mg_defs.specs.Bits.{Bits, FromPlace}
use Rattle.mg_bits.specs.Feed.{Feeding, Device, Read, ReadPart}
use Rattle.mg_bits.specs.Reading.{Reading}
use Rattle.mg_bits.specs.Reader.{AnswersBits, DeviceCause, EndHolds}
use Rattle.mg_bits.specs.declared.bit_err.BitErr.{BitErr}

-- so many bits were read from the reader's place on
abbrev pub ReadNext : {Fed Dev : Type 0} → (Fed → Feeding) → (Dev → Device) → Reading Fed → Reading Fed → Dev → Dev →
    ℕ → Type 0
ReadNext feeding device old new before now count =
    Read (feeding old.feed) (feeding new.feed) (device before) (device now) old.place (old.place + count)

-- some of so many bits were read from the reader's place on, and then the call was refused
abbrev pub ReadNextPart : {Fed Dev : Type 0} → (Fed → Feeding) → (Dev → Device) → Reading Fed → Reading Fed → Dev →
    Dev → ℕ → Type 0
ReadNextPart feeding device old new before now count =
    ReadPart (feeding old.feed) (feeding new.feed) (device before) (device now) old.place (old.place + count)

-- a fact on the bits from the reader's place on, where the bytes are told
abbrev pub FromNext : {Fed Dev : Type 0} → (Fed → Feeding) → (Dev → Device) → Reading Fed → Dev → (Bits → Type 0) →
    Type 0
FromNext feeding device reader dev fact = FromPlace ((feeding reader.feed).source (device dev).files) reader.place fact

-- where the bits end after the first of so many, and all of them lie on one page, that page is held
abbrev pub NextEndHolds : {Fed Dev : Type 0} → (Fed → Feeding) → (Dev → Device) → Reading Fed → Reading Fed → Dev → ℕ →
    Result ℕ BitErr → Type 0
NextEndHolds feeding device old new before count result =
    FromNext feeding device old before (EndHolds result (feeding old.feed).page old.place count (feeding new.feed).held)

-- so many bits are asked for from the reader's place on, and the answer tells this of them
pub record ReadsNext {Fed Dev T : Type 0} (feeding : Fed → Feeding) (device : Dev → Device) (agrees : Fed → Option Files → Type 0)
    (old new : Reading Fed) (before now : Dev) (count : ℕ) (result : Result T BitErr) (tells : Bits → Type 0) : Type 0
  where
    -- the page that is held agrees with what the device holds
    pub fits : agrees new.feed (device now).files
    -- where the call is not refused, these bits were read
    pub read : OnOk result (ReadNext feeding device old new before now count)
    -- where it is refused, some of them were
    pub part : OnErr result (ReadNextPart feeding device old new before now count)
    -- the place is behind them, or where it was if the call is refused
    pub place : MatchResult result (λ _. new.place ≡ old.place + count) (λ _. new.place ≡ old.place)
    -- the bits are as the answer tells
    pub told : FromNext feeding device old before tells
    -- a device's failure has a cause
    pub cause : DeviceCause result (device before).faults (device now).faults

-- so many bits are asked for as a number
pub record ReadsBits {Fed Dev : Type 0} (feeding : Fed → Feeding) (device : Dev → Device) (agrees : Fed → Option Files → Type 0)
    (old new : Reading Fed) (before now : Dev) (count : ℕ) (result : Result ℕ BitErr) : Type 0
  where
    -- the page that is held agrees with what the device holds
    pub fits : agrees new.feed (device now).files
    -- where the call is not refused, these bits were read
    pub read : OnOk result (ReadNext feeding device old new before now count)
    -- where it is refused, some of them were
    pub part : OnErr result (ReadNextPart feeding device old new before now count)
    -- the place is behind them, or where it was if the call is refused
    pub place : MatchResult result (λ _. new.place ≡ old.place + count) (λ _. new.place ≡ old.place)
    -- so many bits write the number
    pub below : IfOk result (λ value. value < 2 ^ count)
    -- the number is that of the bits, or they are too few
    pub told : FromNext feeding device old before (AnswersBits result old.place count)
    -- where they end after the first of them, and all lie on one page, that page is held
    pub end : NextEndHolds feeding device old new before count result
    -- a device's failure has a cause
    pub cause : DeviceCause result (device before).faults (device now).faults
