-- What a call that asks for one byte does to what keeps a page of the file.
use Rattle.std.specs.Prelude.{◌≡◌, ◌≢◌, ◌≤◌, ◌+◌, ◌*◌, ℕ, Some, IfOk, IfSome, OnOk, OnSome, slice_get}
use Rattle.std.specs.Option.{IsSome}
use Rattle.std.specs.declared.option.Option.{Option}
use Rattle.std.specs.declared.result.Result.{Result}
use Rattle.mg_dev.specs.Causes.{HasCause, Rose}
use Rattle.mg_dev.specs.Files.{Files, Reads, bytes_at}
use Rattle.mg_dev.specs.declared.device.Failed.{Failed}
use Rattle.mg_dev.specs.declared.part.Part.{Part}
use Rattle.mg_bits.specs.Feed.{Calm, Device, Feeding, KeepsPage, ReadsWithin, lacks, of_store, page_of}
use Rattle.mg_bits.specs.Pages.{Fits, Looked, Paging, SameFile, feeding_of}

-- a page of this number is turned to: it is read where it is not held
pub record TurnsTo {T : Type 0} (part : Part) (number : ℕ) (result : Result T Failed) (old new : Feeding) (before now : Device) : Type 0 where
  -- what every reading call keeps
  pub calm : Calm old new before now
  -- the device is asked once at most, and not for the page that is held
  pub device : now.reads part ≤ before.reads part + lacks old.held number
  -- the feed counts so
  pub feed : new.count ≤ old.count + lacks old.held number
  -- where the call is not refused, the page is held
  pub held : OnOk result (new.held ≡ Some number)
  -- a page that is held stays held
  pub keeps : old.held ≡ Some number → new.held ≡ old.held
  -- another page is held only where the device was asked
  pub turned : new.held ≢ old.held → Rose (before.reads part) (now.reads part)
  -- a device's failure has a cause
  pub cause : HasCause before.faults now.faults result

-- the byte at a place is asked for
pub record ReadsByte (part : Part) (at : ℕ) (result : Result (Option ℕ) Failed) (old new : Feeding) (before now : Device) : Type 0 where
  -- the answer is the byte, or that there is none
  pub told : IfSome (old.source before.files) (λ bytes. IfOk result (λ byte. byte ≡ slice_get bytes at))
  -- what every reading call keeps
  pub calm : Calm old new before now
  -- only the page of the byte is read, and not where it is held
  pub pages : ReadsWithin old new before now (8 * at) (8 * at + 1)
  -- where the byte is there, its page is held
  pub held : IfOk result (λ byte. OnSome byte (new.held ≡ Some (page_of old.page (8 * at))))
  -- its page stays held
  pub keeps : KeepsPage old new (8 * at)
  -- another page is held only where the device was asked
  pub turned : new.held ≢ old.held → Rose (before.reads part) (now.reads part)
  -- a device's failure has a cause
  pub cause : HasCause before.faults now.faults result

-- a reader of the pages of a file is asked for the byte at a place
pub record AsksByte (old new : Paging) (at : ℕ) (result : Result (Option ℕ) Failed) (files_before files_now : Option Files)
    (reads_before reads_now : Reads) (faults_before faults_now : ℕ) : Type 0
  where
    -- the page that is held agrees with the file
    pub fits : Fits new files_now
    -- the reader reads the same file
    pub file : SameFile old new
    -- the store is only read, and of this part alone
    pub looked : Looked old.part files_before files_now reads_before reads_now faults_before faults_now
    -- the answer is the byte, or that there is none
    pub told : IsSome files_before → IfOk result (λ byte. byte ≡ slice_get (bytes_at files_before old.name) at)
    -- what every reading call keeps
    pub calm : Calm (feeding_of 4096 old) (feeding_of 4096 new) (of_store files_before faults_before reads_before)
        (of_store files_now faults_now reads_now)
    -- only the page of the byte is read, and not where it is held
    pub pages : ReadsWithin (feeding_of 4096 old) (feeding_of 4096 new) (of_store files_before faults_before reads_before)
        (of_store files_now faults_now reads_now) (8 * at) (8 * at + 1)
    -- where the byte is there, its page is held
    pub held : IfOk result (λ byte. OnSome byte (new.held ≡ Some (page_of 4096 (8 * at))))
    -- its page stays held
    pub keeps : old.held ≡ Some (page_of 4096 (8 * at)) → new.held ≡ old.held
    -- another page is held only where the device was asked
    pub turned : new.held ≢ old.held → Rose (reads_before old.part) (reads_now old.part)
    -- a device's failure has a cause
    pub cause : HasCause faults_before faults_now result
