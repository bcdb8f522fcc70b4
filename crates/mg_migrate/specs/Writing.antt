-- What a call that writes under one base does to its store, by what the store's type tells, and why it stops.
use Rattle.std.specs.Prelude.{ℕ, ◌≤◌, List, IfErr}
use Rattle.std.specs.declared.result.Result.{Result}
use Rattle.mg_dev.specs.Causes.{Rose}
use Rattle.mg_dev.specs.Faults.{ReadStops}
use Rattle.mg_dev.specs.declared.fault.Fault.{Fault}
use Rattle.mg_dev.specs.declared.store.Store as stores
use Rattle.mg_make.specs.Putting.{OthersSame}
use Rattle.mg_migrate.specs.Copying.{ChangedAlone}

-- a call that writes the file of a name; a part is told as damaged only where what is read does not stand
pub record WritesFile {X T : Type 0} (name : List ℕ) (stands : Type 0) (result : Result T Fault)
    (of : stores.Ghosts X) (store store_now : X) : Type 0 where
  pub alone : ChangedAlone name (of.files store) (of.files store_now)
  pub refused : IfErr result (ReadStops (Rose (of.faults store) (of.faults store_now)) stands)
  pub later : of.faults store ≤ of.faults store_now

-- a call that writes parts of the set of a base
pub record WritesSet {X T : Type 0} (base : List ℕ) (stands : Type 0) (result : Result T Fault)
    (of : stores.Ghosts X) (store store_now : X) : Type 0 where
  pub others : OthersSame base (of.files store) (of.files store_now)
  pub refused : IfErr result (ReadStops (Rose (of.faults store) (of.faults store_now)) stands)
  pub later : of.faults store ≤ of.faults store_now
