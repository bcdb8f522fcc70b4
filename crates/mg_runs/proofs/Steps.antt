-- Calls one after the other, and refusals passed on.
use Rattle.std.proofs.Common.{◌≡◌, ℕ, ◌≤◌, List, [], ◌∷◌, refl, ap, ◌∙◌, arith, Some}
use Rattle.std.specs.Prelude.{Err}
use Rattle.std.specs.declared.option.Option.{Option}
use Rattle.mg_dev.specs.Causes.{HasPutCause}
use Rattle.mg_dev.specs.declared.device.PutErr.{PutErr}
use Rattle.mg_dev.specs.declared.device.PutErr.TheVariants.{Failed}
use Rattle.mg_dev.specs.declared.part.Part.{Part}
use Rattle.mg_dev.specs.declared.part_err.PartErr.{PartErr}
use Rattle.mg_dev.specs.declared.part_err.PartErr.TheVariants.{Device, Memory, Bad}
use Rattle.mg_dev.specs.Files.{Files, Reads}
use Rattle.mg_bits.specs.Pages.{Looked}
use Rattle.mg_defs.specs.declared.TermPosting.{TermPosting}
use Rattle.mg_runs.specs.Pooled.{Pooled, SamePool}
use Rattle.mg_runs.specs.Cursors.{NoDamage, NoMemory, Tells}
use Rattle.mg_runs.specs.Merging.{first}

pub looked_more : {part : Part} {f g h : Option Files} {r s t : Reads} {l m n : ℕ} → Looked part f g r s l m → Looked part g h s t m n → Looked part f h r t l n
looked_more one two = record {
  files = two.files ∙ one.files;
  faults = let a = one.faults in let b = two.faults in omega arith;
  later = λ p. let a = one.later p in let b = two.later p in omega arith;
  others = λ p apart. two.others p apart ∙ one.others p apart;
}

pub looked_none : (part : Part) (f : Option Files) (r : Reads) (m : ℕ) → Looked part f f r r m m
looked_none part f r m = record { files = refl; faults = omega arith; later = λ p. omega arith; others = λ p apart. refl }

pub pool_more : {a b c : Pooled} → SamePool a b → SamePool b c → SamePool a c
pool_more one two = record {
  entries = λ e. two.entries (one.entries e);
  peak = two.peak ∙ one.peak;
  limit = two.limit ∙ one.limit;
}

pub undamaged_as : (T U : Type 0) (e : PartErr) → NoDamage {T = T} (Err e) → NoDamage {T = U} (Err e)
undamaged_as T U Device h = tt
undamaged_as T U Memory h = tt
undamaged_as T U (Bad bad) h = h

-- a refusal that is no damage, or that was told before, is told here
pub tells_none : (T U : Type 0) (P : U → Type 0) (e : PartErr) → NoDamage {T = T} (Err e) → Tells {T = U} (Err e) P
tells_none T U P Device h = tt
tells_none T U P Memory h = tt
tells_none T U P (Bad bad) h = h

pub damage_none : (T U : Type 0) (P : T → Type 0) (e : PartErr) → Tells {T = T} (Err e) P → NoDamage {T = U} (Err e)
damage_none T U P Device h = tt
damage_none T U P Memory h = tt
damage_none T U P (Bad bad) h = h

pub tells_err : (T U : Type 0) (P : T → Type 0) (Q : U → Type 0) (e : PartErr) → Tells {T = T} (Err e) P → Tells {T = U} (Err e) Q
tells_err T U P Q Device h = tt
tells_err T U P Q Memory h = tt
tells_err T U P Q (Bad bad) h = h

pub memory_as : (T U : Type 0) (e : PartErr) → NoMemory {T = T} (Err e) → NoMemory {T = U} (Err e)
memory_as T U Device h = tt
memory_as T U Memory h = h
memory_as T U (Bad bad) h = tt

-- a writer's refusal
pub put_as : (T U : Type 0) (f g : ℕ) (e : PutErr) → HasPutCause {T = T} f g (Err e) → HasPutCause {T = U} f g (Err e)
put_as T U f g e cause = record { later = cause.later; failed = λ h. let same : e ≡ Failed = cc in cause.failed (ap (λ x. Err x) same) }

-- a list by its first posting
pub split_first : (left : List TermPosting) (y : TermPosting) → first left ≡ Some y → (ys : List TermPosting) × (left ≡ y ∷ ys)
split_first [] y e = absurd cc
split_first (x ∷ xs) y e = let same : x ≡ y = cc in (xs, ap (λ z. z ∷ xs) same)
