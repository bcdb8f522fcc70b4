-- Calls that only read parts of a set: none, one behind another, and one with another answer.
use Rattle.std.proofs.Common.{arith, ◌≢◌, ◌≤◌, ◌∙◌, ℕ, Ok, Err, refl}
use Rattle.std.specs.Prelude.{IfErr}
use Rattle.std.specs.declared.option.Option.{Option}
use Rattle.std.specs.declared.result.Result.{Result}
use Rattle.mg_dev.specs.Files.{Files, Reads}
use Rattle.mg_dev.specs.PartCauses.{HasPartCause}
use Rattle.mg_dev.specs.declared.part_err.PartErr.{PartErr}
use Rattle.mg_dev.specs.declared.part_err.PartErr.TheVariants.{Device, Memory, Bad}
use Rattle.mg_dev.proofs.CallerLemmas.{cause_err, cause_ok, cause_then}
use Rattle.mg_check_parts.specs.Looks.{LooksAtSet}
use Rattle.mg_check_parts.specs.Refusals.{IsNotDevice}

-- ---- causes

pub cause_own : {T : Type 0} (e : PartErr) {m n : ℕ} → m ≤ n → IsNotDevice e → HasPartCause {T = T} m n (Err e)
cause_own Device le own = absurd own
cause_own Memory le own = record { later = le; device = tt }
cause_own (Bad bad) le own = record { later = le; device = tt }

-- a refusal behind what was done
pub cause_behind : {T : Type 0} {e : PartErr} {l m n : ℕ} → l ≤ m → HasPartCause {T = T} m n (Err e) → HasPartCause {T = T} l n (Err e)
cause_behind {T} le cause = cause_err {T = T} {U = T} le cause

-- ---- refusals without a device

pub apart_device : (e : PartErr) → e ≢ Device → IsNotDevice e
apart_device Device other = absurd (other refl)
apart_device Memory other = tt
apart_device (Bad bad) other = tt

pub not_device : {T : Type 0} (result : Result T PartErr) → result ≢ Err Device → IfErr result IsNotDevice
not_device (Ok x) other = tt
not_device (Err Device) other = absurd (other refl)
not_device (Err Memory) other = tt
not_device (Err (Bad bad)) other = tt

-- ---- parts of a set

-- nothing was asked
pub looks_none : {T : Type 0} {x : T} (f : Option Files) (r : Reads) (n : ℕ) → LooksAtSet (Ok x) f f r r n n
looks_none f r n = record { files = refl; unread = refl; cause = cause_ok (omega arith) }

-- nor before a refusal
pub looks_own : {T : Type 0} (e : PartErr) (f : Option Files) (r : Reads) (n : ℕ) → IsNotDevice e → LooksAtSet {T = T} (Err e) f f r r n n
looks_own e f r n own = record { files = refl; unread = refl; cause = cause_own e (omega arith) own }

-- another answer
pub looks_ok : {T U : Type 0} {result : Result T PartErr} {y : U} {f g : Option Files} {r s : Reads} {m n : ℕ} →
    LooksAtSet result f g r s m n → LooksAtSet (Ok y) f g r s m n
looks_ok looks = record { files = looks.files; unread = looks.unread; cause = cause_ok looks.cause.later }

pub looks_err : {T U : Type 0} {e : PartErr} {f g : Option Files} {r s : Reads} {m n : ℕ} →
    LooksAtSet {T = T} (Err e) f g r s m n → LooksAtSet {T = U} (Err e) f g r s m n
looks_err {T} {U} looks = record { files = looks.files; unread = looks.unread; cause = cause_err {T = T} {U = U} (omega arith) looks.cause }

-- a refusal behind what was done
pub looks_bad : {T U : Type 0} {result : Result T PartErr} (e : PartErr) {f g : Option Files} {r s : Reads} {m n : ℕ} →
    LooksAtSet result f g r s m n → IsNotDevice e → LooksAtSet {T = U} (Err e) f g r s m n
looks_bad e looks own = record { files = looks.files; unread = looks.unread; cause = cause_own e looks.cause.later own }

-- an answer that was found without the store
pub looks_pure : {T U : Type 0} {one : Result T PartErr} (two : Result U PartErr) {f g : Option Files} {r s : Reads} {m n : ℕ} →
    LooksAtSet one f g r s m n → IfErr two IsNotDevice → LooksAtSet two f g r s m n
looks_pure (Ok y) looks own = looks_ok looks
looks_pure (Err e) looks own = looks_bad e looks own

-- one behind another
pub looks_then : {T U : Type 0} {one : Result T PartErr} {two : Result U PartErr} {f g h : Option Files} {r s t : Reads} {l m n : ℕ} →
    LooksAtSet one f g r s l m → LooksAtSet two g h s t m n → LooksAtSet two f h r t l n
looks_then {two = two} a b = record { files = b.files ∙ a.files; unread = b.unread ∙ a.unread; cause = cause_then two a.cause.later b.cause }
