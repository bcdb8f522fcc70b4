-- The numbers of faults and statuses, and which fault a refusal becomes.
use Rattle.std.specs.Prelude.{ℕ}
use Rattle.mg_dev.specs.declared.device.PutErr.{PutErr}
use Rattle.mg_dev.specs.declared.device.PutErr.TheVariants as put
use Rattle.mg_dev.specs.declared.part_err.PartErr.{PartErr}
use Rattle.mg_dev.specs.declared.part_err.PartErr.TheVariants as part
use Rattle.mg_dev.specs.declared.show_err.ShowErr.{ShowErr}
use Rattle.mg_dev.specs.declared.show_err.ShowErr.TheVariants as show
use Rattle.mg_dev.specs.declared.fault.Fault.{Fault}
use Rattle.mg_dev.specs.declared.fault.Fault.TheVariants.{Usage, StoreFault, ReadFault, WriteFault, NotBuilt, Damaged, NoCollection, TooLarge, TooManyDocuments, TooManyPieces, Changed, Memory, NameClash, InputTooLong, SameName, TooManyRotations}
use Rattle.mg_dev.specs.declared.status.Status.{Status}
use Rattle.mg_dev.specs.declared.status.Status.TheVariants.{Done, Stopped}

-- the status number of a fault
abbrev pub fault_number : Fault → ℕ
fault_number Usage = 1
fault_number StoreFault = 2
fault_number ReadFault = 3
fault_number WriteFault = 4
fault_number NotBuilt = 5
fault_number (Damaged bad) = 6
fault_number NoCollection = 7
fault_number (TooLarge size most) = 8
fault_number TooManyDocuments = 9
fault_number (TooManyPieces stream) = 10
fault_number (Changed what first second) = 11
fault_number Memory = 12
fault_number (NameClash part) = 13
fault_number InputTooLong = 14
fault_number SameName = 16
fault_number (TooManyRotations count) = 17

-- the number that the program ends with
abbrev pub status_number : Status → ℕ
status_number Done = 0
status_number (Stopped fault) = fault_number fault

-- what a refused put to the sink becomes where a document is shown
abbrev pub show_of_put : PutErr → ShowErr
show_of_put put.Failed = show.Write
show_of_put put.Memory = show.Memory

-- the fault of a refused write to the store
abbrev pub fault_of_store : PutErr → Fault
fault_of_store put.Failed = StoreFault
fault_of_store put.Memory = Memory

-- the fault of a refused write to the output
abbrev pub fault_of_output : PutErr → Fault
fault_of_output put.Failed = WriteFault
fault_of_output put.Memory = Memory

-- the fault of a part that could not be read
abbrev pub fault_of_part : PartErr → Fault
fault_of_part part.Device = StoreFault
fault_of_part part.Memory = Memory
fault_of_part (part.Bad bad) = Damaged bad

-- the fault of a document that could not be shown
abbrev pub fault_of_show : ShowErr → Fault
fault_of_show (show.Part error) = fault_of_part error
fault_of_show show.Write = WriteFault
fault_of_show show.Memory = Memory

-- a part is told as damaged
abbrev pub IsDamagedPart : Fault → Type 0
IsDamagedPart (Damaged bad) = Unit {0}
IsDamagedPart _ = ⊥

-- why reading or writing stops; as damaged only where what is read does not stand
abbrev pub ReadStops : Type 0 → Type 0 → Fault → Type 0
ReadStops store_rose stands StoreFault = store_rose
ReadStops store_rose stands (Damaged bad) = stands → ⊥
ReadStops store_rose stands Memory = Unit {0}
ReadStops store_rose stands _ = ⊥
