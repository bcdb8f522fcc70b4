-- What a reader that was loaded by a head knows, and what its refusal shows.
use Rattle.std.proofs.Common.{ℕ, List, Ok, sym, IsSome}
use Rattle.std.specs.declared.option.Option.{Option}
use Rattle.mg_dev.specs.Bads.{IsNotBad}
use Rattle.mg_dev.specs.Files.{Files}
use Rattle.mg_dev.specs.declared.part_err.PartErr.{PartErr}
use Rattle.mg_dev.specs.declared.part_err.PartErr.TheVariants.{Device, Memory, Bad}
use Rattle.mg_defs.specs.CodedText.{TextCode}
use Rattle.mg_defs.specs.Heads.{IsHead}
use Rattle.mg_defs.specs.Means.{IsModel, StandForNone}
use Rattle.mg_defs.specs.Stands.{Stand}
use Rattle.mg_layout.proofs.CallerLemmas.{loaded_set}
use Rattle.mg_layout.specs.HeadAnswers.{fields_of}
use Rattle.mg_layout.specs.Stands.{parts_at}
use Rattle.mg_layout.specs.declared.head.Head.{Head}
use Rattle.mg_text.proofs.CallerLemmas.{set_is_text}
use Rattle.mg_text.specs.Reading.{AnswersReader, IsText, IsTextReader, TextReading, stored_at}
use Rattle.mg_check_parts.specs.Refusals.{IfBad}
use Rattle.mg_check_text.specs.Checking.{IsLoaded}

-- where the head is the part's own, the text of a collection for which the parts stand can be read by it
pub text-of : (files : Option Files) (base : List ℕ) (head : Head) (collection : List ℕ) → IsSome files →
    IsHead 1 2 (parts_at files base).head (fields_of head) → Stand (parts_at files base) collection → (code : TextCode) × IsText base files head code collection
text-of files base head collection told is stand =
    let by = loaded_set files base collection head (record { told = told; stand = stand }) is in
    (by.0, set_is_text base files head by.0 collection by.1)

pub refused-none : (files : Option Files) (base : List ℕ) (head : Head) (refusal : PartErr) → IsSome files → IsHead 1 2 (parts_at files base).head (fields_of head) →
    ((code : TextCode) (collection : List ℕ) → IsText base files head code collection → IsNotBad refusal) → IfBad refusal (StandForNone (parts_at files base))
refused-none files base head Device told is fine = tt
refused-none files base head Memory told is fine = tt
refused-none files base head (Bad bad) told is fine = λ collection stand. let text = text-of files base head collection told is stand in fine text.0 collection text.1

pub reader-told : (files : Option Files) (base : List ℕ) (head : Head) (r : TextReading) → IsSome files →
    IsHead 1 2 (parts_at files base).head (fields_of head) → IsTextReader r base head → IsModel r.code → AnswersReader (stored_at files base head) (Ok r) →
    IsLoaded files base head r
reader-told files base head r told is reader model answer = record {
  told = told;
  reader = reader;
  tell = record { head = is; model = model; words = answer.1.0.part.front.bytes_are; nonwords = answer.1.1.part.front.bytes_are };
  words = sym answer.1.0.part.count_is;
  others = sym answer.1.1.part.count_is;
  text = answer.0.0;
  places = answer.0.1;
}
