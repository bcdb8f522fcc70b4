-- Pages that are kept, and bytes that are compared with them.
use Rattle.std.proofs.Common.{◌≡◌, ◌∙◌, ℕ, List, length, take, drop, Bool, true, false, sym, ap, subst}
use Rattle.std.proofs.lemmas.Slice.Eq.{bytes_eq-Decides}
use Rattle.std.specs.Str.{bytes_eq}
use Rattle.std.specs.declared.option.Option.{Option}
use Rattle.std.specs.declared.result.Result.{Result}
use Rattle.mg_dev.specs.Files.{Files, Reads}
use Rattle.mg_dev.specs.PartCauses.{HasPartCause}
use Rattle.mg_dev.specs.declared.part.Part.{Part}
use Rattle.mg_dev.specs.declared.part_err.PartErr.{PartErr}
use Rattle.mg_bits.specs.Pages.{Fits, IsFilled, Looked, Paging, SameFile}
use Rattle.mg_layout.specs.Contents.{StandAt}
use Rattle.mg_check_parts.specs.Looks.{LooksAtSet, is_of_set}
use Rattle.mg_check_parts.proofs.CallerLemmas.{looks_two}
use Rattle.mg_check_text.specs.Reads.{KeepsPage, KeepsPages}

-- what a page shows where it has these bytes
pub stands_shown : (whole : Bool) (at : ℕ) (buf wanted bytes : List ℕ) → whole ≡ true → IsFilled whole buf at bytes → true ≡ bytes_eq buf wanted →
    StandAt at wanted bytes
stands_shown true at buf wanted bytes is_whole filled same =
    let is : buf ≡ wanted = (bytes_eq-Decides buf wanted).0 (sym same) in
    subst (λ (b : List ℕ). take (length b) (drop at bytes) ≡ b) is (sym filled)
stands_shown false at buf wanted bytes is_whole filled same = absurd cc

-- ---- the same page, or another one of the same file

pub kept_on : {base : List ℕ} {part : Part} {files now : Option Files} {old new : Paging} → KeepsPage base part files old → SameFile old new → Fits new now →
    KeepsPage base part now new
kept_on kept same fits = record { name_is = same.name ∙ kept.name_is; part_is = same.part ∙ kept.part_is; fits = fits }

pub kept_there : {base : List ℕ} {part : Part} {files now : Option Files} {feed : Paging} → now ≡ files → KeepsPage base part files feed →
    KeepsPage base part now feed
kept_there {base} {part} {feed = feed} same kept = subst (λ f. KeepsPage base part f feed) (sym same) kept

pub both_there : {base : List ℕ} {files now : Option Files} {text places : Paging} → now ≡ files → KeepsPages base files text places →
    KeepsPages base now text places
both_there {base} {text = text} {places = places} same kept = subst (λ f. KeepsPages base f text places) (sym same) kept

-- ---- a look at a page

pub looks_one : {T : Type 0} {result : Result T PartErr} {f g : Option Files} {r s : Reads} {m n : ℕ} (own p : Part) → own ≡ p → is_of_set p ≡ true →
    Looked own f g r s m n → HasPartCause m n result → LooksAtSet result f g r s m n
looks_one own p same of_set looked cause =
    let here : is_of_set own ≡ true = ap is_of_set same ∙ of_set in
    looks_two own own here here (record { files = looked.files; faults = looked.faults; later = looked.later; others = λ q a b. looked.others q a }) cause
