-- The head of a set that is made anew.
use Rattle.std.proofs.Common.{arith, ◌≡◌, ◌≤◌, ◌<◌, ◌^◌, ◌-◌, ◌==◌, ◌∙◌, inl, inr, if◌then◌else◌, ℕ, Bool, true, false, cond, List, [], Err, refl, ap, subst, IsSome, Option, Some}
use Rattle.mg_dev.specs.Causes.{HasPutCause, Rose}
use Rattle.mg_dev.specs.Faults.{ReadStops, fault_of_store}
use Rattle.mg_dev.specs.Files.{Files, GrewInPart, file_at, grown}
use Rattle.mg_dev.specs.Names.{full_name, number}
use Rattle.mg_dev.specs.declared.device.PutErr.{PutErr}
use Rattle.mg_dev.specs.declared.device.PutErr.TheVariants as put_err
use Rattle.mg_dev.specs.declared.part.Part.TheVariants.{Head, MergeA, MergeB}
use Rattle.mg_defs.specs.CodedText.{TextCode}
use Rattle.mg_defs.specs.Heads as defs
use Rattle.mg_defs.specs.Heads.{IsWithin, head_bytes}
use Rattle.mg_defs.specs.Limits.{version_1, version_2}
use Rattle.mg_defs.specs.Stands.{head_of}
use Rattle.mg_layout.specs.HeadAnswers.{fields_of}
use Rattle.mg_layout.specs.Stands.{StandsBy, StandsForNone, StandsIn}
use Rattle.mg_layout.specs.declared.head.Head as layout
use Rattle.mg_make.specs.Putting.{IsUnbuilt}
use Rattle.mg_make.specs.Outcomes.{Left}
use Rattle.mg_migrate.specs.Copying.{ChangedAlone}
use Rattle.mg_migrate.specs.Migrating.{wide_of}
use Rattle.mg_migrate.proofs.MigrateLaws.{part_stays}

docs_fit : (narrow : Bool) (n : ℕ) → n ≤ (cond narrow version_1 version_2).documents → n ≤ 2 ^ 24
docs_fit true n h = omega (arith, h)
docs_fit false n h = omega (arith, h)

pieces_fit : (narrow : Bool) (n : ℕ) → n ≤ (cond narrow version_1 version_2).pieces → n ≤ 2 ^ 22
pieces_fit true n h = omega (arith, h)
pieces_fit false n h = omega (arith, h)

bytes_fit : (narrow : Bool) (n : ℕ) → n ≤ (cond narrow version_1 version_2).collection → n ≤ 2 ^ 32 - 1
bytes_fit true n h = omega (arith, h)
bytes_fit false n h = omega (arith, h)

text_fits : (narrow : Bool) (n : ℕ) → n < (if narrow then 2 ^ 32 else 2 ^ 64) → n < 2 ^ 64
text_fits true n h = omega (arith, h)
text_fits false n h = omega (arith, h)

pub wide_within : (h : defs.Head) → IsWithin h → IsWithin (wide_of h)
wide_within h is = record {
  version_low = omega arith;
  version_high = omega arith;
  documents = docs_fit (h.version == 1) h.documents is.documents;
  words = pieces_fit (h.version == 1) h.words is.words;
  others = pieces_fit (h.version == 1) h.others is.others;
  terms = is.terms;
  cap_low = is.cap_low;
  cap_high = is.cap_high;
  collection = bytes_fit (h.version == 1) h.collection is.collection;
  occurrences = is.occurrences;
  runs = is.runs;
  text_bytes = text_fits (h.version == 1) h.text_bytes is.text_bytes;
  post_bytes = is.post_bytes;
  skip_count = is.skip_count;
}

-- ---- the head is appended

module _ (new : List ℕ) (head : layout.Head) (code : TextCode) (name collection : List ℕ) (before middle now : Option Files) (stands : StandsBy head code before name collection) where
  wide_bytes : head_bytes (wide_of (fields_of head)) ≡ head_bytes (head_of 2 head.cap code collection)
  wide_bytes = ap (λ h. head_bytes (wide_of h)) stands.head_is

  pub wide_grown : now ≡ grown middle (full_name new Head) (head_bytes (wide_of (fields_of head))) → now ≡ grown middle (full_name new Head) (head_bytes (head_of 2 head.cap code collection))
  wide_grown grew = grew ∙ ap (λ bytes. grown middle (full_name new Head) bytes) wide_bytes

  pub wide_in_part : GrewInPart middle now (full_name new Head) (head_bytes (wide_of (fields_of head))) → GrewInPart middle now (full_name new Head) (head_bytes (head_of 2 head.cap code collection))
  wide_in_part grew = subst (λ bytes. GrewInPart middle now (full_name new Head) bytes) wide_bytes grew

-- a working part stays where the head is appended
pub merge_a_stays : (new : List ℕ) (before now : Option Files) → ChangedAlone (full_name new Head) before now →
    file_at before (full_name new MergeA) ≡ Some [] → file_at now (full_name new MergeA) ≡ Some []
merge_a_stays new before now alone is = part_stays new Head MergeA before now (λ same. omega (arith, ap number same)) alone ∙ is

pub merge_b_stays : (new : List ℕ) (before now : Option Files) → ChangedAlone (full_name new Head) before now →
    file_at before (full_name new MergeB) ≡ Some [] → file_at now (full_name new MergeB) ≡ Some []
merge_b_stays new before now alone is = part_stays new Head MergeB before now (λ same. omega (arith, ap number same)) alone ∙ is

-- ---- what is left

pub left_unbuilt : (new collection : List ℕ) (before now : Option Files) → IsSome before →
    ((base : List ℕ) (files : Option Files) → file_at files (full_name base Head) ≡ Some [] → StandsForNone files base) → IsUnbuilt new before now →
    Left new before now collection
left_unbuilt new collection before now told none (inl same) = inl same
left_unbuilt new collection before now told none (inr gone) = inr (inl (none new now (gone told)))

pub left_built : (new collection : List ℕ) (cap : ℕ) (before now : Option Files) → StandsIn 2 cap now new collection → Left new before now collection
left_built new collection cap before now is = inr (inr (record { told = is.told; stand = record { version = 2; cap = cap; code = is.code; are = is.are } }))

pub head_stops : (a b c : ℕ) (error : PutErr) (whole : Type 0) → a ≤ b → HasPutCause {T = Unit {0}} b c (Err error) → ReadStops (Rose a c) whole (fault_of_store error)
head_stops a b c put_err.Failed whole up cause = omega (arith, up, cause.failed refl)
head_stops a b c put_err.Memory whole up cause = tt
