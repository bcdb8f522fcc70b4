-- For callers: how a run ends by what a call answered, and the cause of a reader's refusal.
use Rattle.std.proofs.Common.{arith, ◌≡◌, ◌⊎◌, ◌≤◌, ℕ, List, [], Option, Ok, Err, ap, inl, inr, refl, subst, sym, append-nil}
use Rattle.std.specs.Prelude.{Result, OnOk, IfErr}
use Rattle.mg_dev.specs.PartCauses.{HasPartCause, IsCaused}
use Rattle.mg_dev.specs.StreamLaws.{grew_nothing, grew_second}
use Rattle.mg_dev.specs.Streams.{appended, AfterPut, GrewByPrefix}
use Rattle.mg_dev.specs.declared.fault.Fault.{Fault}
use Rattle.mg_dev.specs.declared.fault.Fault.TheVariants.{Usage, StoreFault, ReadFault, WriteFault, NotBuilt, Damaged, NoCollection, TooLarge, TooManyDocuments, TooManyPieces, Changed, Memory, NameClash, InputTooLong, SameName, TooManyRotations}
use Rattle.mg_dev.specs.declared.part_err.PartErr.{PartErr}
use Rattle.mg_dev.specs.declared.part_err.PartErr.TheVariants as err
use Rattle.mg_dev.specs.declared.status.Status.{Status}
use Rattle.mg_dev.specs.declared.status.Status.TheVariants.{Done, Stopped}
use Rattle.mg_dev.specs.Runs.{IfStopped, IsDone, RefusedFor, Run, StoppedFor, StopsUnless, status_of}

pub when_ok : {T : Type 0} (P : Type 0) (r : Result T Fault) → status_of r ≡ Done → OnOk r P → P
when_ok P (Ok u) is holds = holds
when_ok P (Err fault) is holds = cc

pub err_by : {T : Type 0} (r : Result T Fault) (fault : Fault) → status_of r ≡ Stopped fault → r ≡ Err fault
err_by (Ok u) fault is = cc
err_by (Err f) fault is = cc

pub stopped_by : {T : Type 0} (P : Fault → Type 0) (r : Result T Fault) → IfErr r P → IfStopped (status_of r) P
stopped_by P (Ok u) holds = tt
stopped_by P (Err f) holds = holds

-- what holds of every refusal holds of this one
pub at_fault : {T : Type 0} (P : Fault → Type 0) (r : Result T Fault) (fault : Fault) → status_of r ≡ Stopped fault → IfErr r P → P fault
at_fault {T} P r fault is holds = subst (λ (x : Result T Fault). IfErr x P) (err_by r fault is) holds

-- it is refused, unless the store fails or memory is wanting
pub stopped_for : {T : Type 0} (r : Result T Fault) (fault : Fault) → RefusedFor r fault → StoppedFor (status_of r) fault
stopped_for r fault (inl e) = inl (ap status_of e)
stopped_for r fault (inr (inl e)) = inr (inl (ap status_of e))
stopped_for r fault (inr (inr e)) = inr (inr (ap status_of e))

pub unless_by : {T : Type 0} (run : Run) (r : Result T Fault) (fault : Fault) → run.status ≡ status_of r
    → RefusedFor r fault → StopsUnless run fault
unless_by run r fault is refused = subst (λ (s : Status). StoppedFor s fault) (sym is) (stopped_for r fault refused)

-- a refusal where nothing stood in the way is want of memory
pub only_lacks : (T : Type 0) (fault : Fault) → IsDone {T = T} (Err fault) → fault ≡ Memory
only_lacks T Usage done = absurd done
only_lacks T StoreFault done = absurd done
only_lacks T ReadFault done = absurd done
only_lacks T WriteFault done = absurd done
only_lacks T NotBuilt done = absurd done
only_lacks T (Damaged bad) done = absurd done
only_lacks T NoCollection done = absurd done
only_lacks T (TooLarge size most) done = absurd done
only_lacks T TooManyDocuments done = absurd done
only_lacks T (TooManyPieces stream) done = absurd done
only_lacks T (Changed what first second) done = absurd done
only_lacks T Memory done = refl
only_lacks T (NameClash p) done = absurd done
only_lacks T InputTooLong done = absurd done
only_lacks T SameName done = absurd done
only_lacks T (TooManyRotations count) done = absurd done

-- it is done, or memory is wanting
pub done_or_lacks : {T : Type 0} (r : Result T Fault) → IsDone r → (status_of r ≡ Done) ⊎ (status_of r ≡ Stopped Memory)
done_or_lacks (Ok value) done = inl refl
done_or_lacks {T} (Err fault) done = inr (ap Stopped (only_lacks T fault done))

-- after a put, whatever it answered, a prefix was added
grew_all : (old new : Option (List ℕ)) (bytes : List ℕ) → new ≡ appended old bytes → GrewByPrefix old new bytes
grew_all old new bytes is = subst (λ (b : List ℕ). GrewByPrefix old new b) (append-nil bytes) (grew_second old new new bytes [] is (grew_nothing new []))

pub put_grew : {T E : Type 0} (r : Result T E) (old new : Option (List ℕ)) (bytes : List ℕ) → AfterPut old new bytes r → GrewByPrefix old new bytes
put_grew (Ok value) old new bytes put = grew_all old new bytes put
put_grew (Err e) old new bytes put = put

-- ---- a cause behind an earlier moment

pub cause_ok : {T : Type 0} {x : T} {m n : ℕ} → m ≤ n → HasPartCause m n (Ok x)
cause_ok later = record { later = later; device = tt }

caused_as : (T U : Type 0) (l m n : ℕ) (e : PartErr) → l ≤ m → IsCaused {T = T} m n (Err e) → IsCaused {T = U} l n (Err e)
caused_as T U l m n err.Device later rose = omega (arith, later, rose)
caused_as T U l m n err.Memory later rose = tt
caused_as T U l m n (err.Bad bad) later rose = tt

-- a refusal that is handed on, whatever value was wanted
pub cause_err : {T U : Type 0} {e : PartErr} {l m n : ℕ} → l ≤ m → HasPartCause {T = T} m n (Err e) → HasPartCause {T = U} l n (Err e)
cause_err {T} {U} {e} {l} {m} {n} later cause = record {
  later = omega (arith, later, cause.later);
  device = caused_as T U l m n e later cause.device;
}

-- an answer that is handed on
pub cause_then : {T : Type 0} (result : Result T PartErr) {l m n : ℕ} → l ≤ m → HasPartCause m n result → HasPartCause l n result
cause_then (Ok x) later cause = cause_ok (omega (arith, later, cause.later))
cause_then (Err e) later cause = cause_err later cause
