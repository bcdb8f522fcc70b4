-- What loading a model and writing it do to a store, between a call's begin and its end.
use Rattle.std.specs.Prelude.{◌≡◌, ◌≢◌, ℕ, List, Result}
use Rattle.std.specs.Option.{IsSome}
use Rattle.std.specs.declared.option.Option.{Option}
use Rattle.mg_dev.specs.Files.{Files, Reads, file_at, part_bytes}
use Rattle.mg_dev.specs.PartCauses.{HasPartCause}
use Rattle.mg_dev.specs.Names.{full_name}
use Rattle.mg_dev.specs.declared.part.Part.{Part}
use Rattle.mg_dev.specs.declared.part.Part.TheVariants as part
use Rattle.mg_dev.specs.declared.part_err.PartErr.{PartErr}
use Rattle.mg_bits.specs.Pages.{Looked, LookedAt}
use Rattle.mg_defs.specs.CodedText.{StreamCode, TextCode}
use Rattle.mg_model.specs.Damage.{AnswersLoad, AnswersStream}
use Rattle.mg_model.specs.Read.{ReadBehindWhole, ReadOnce, ToldUnread, UnreadIfShort}

-- what loading a model from the two parts under a base answers
abbrev pub AnswersModel : List ℕ → ℕ → ℕ → Option Files → Result TextCode PartErr → Type 0
AnswersModel base words others files result = AnswersLoad words others (part_bytes base part.Words files)
    (part_bytes base part.Nonwords files) result

-- where the store tells its files, the part was read once
abbrev pub ReadsOnce : {T : Type 0} → List ℕ → Part → ℕ → Result T PartErr → Option Files → Option Files → Reads →
    Reads → ℕ → ℕ → Type 0
ReadsOnce base part count result files files_now reads reads_now faults faults_now = IsSome files →
    ReadOnce part count (part_bytes base part files) reads reads_now result

-- where the store tells its files, a part that is too short for its entries was not read
abbrev pub SkipsIfShort : List ℕ → Part → ℕ → Option Files → Option Files → Reads → Reads → ℕ → ℕ → Type 0
SkipsIfShort base part count files files_now reads reads_now faults faults_now = IsSome files →
    UnreadIfShort part count (part_bytes base part files) reads reads_now

-- where the store tells its files, Nonwords was read only if Words has no damage
abbrev pub ReadsWordsFirst : List ℕ → ℕ → Option Files → Option Files → Reads → Reads → ℕ → ℕ → Type 0
ReadsWordsFirst base words files files_now reads reads_now faults faults_now = IsSome files →
    ReadBehindWhole words (part_bytes base part.Words files) reads reads_now

-- loading the model of one stream, of so many pieces
pub record LoadsStream (base : List ℕ) (part : Part) (count : ℕ) (result : Result StreamCode PartErr)
    (files_before files_now : Option Files) (reads_before reads_now : Reads) (faults_before faults_now : ℕ) : Type 0
  where
    -- the pieces and their lengths, or the first damage of the part
    pub answer : IsSome files_before → AnswersStream part count (part_bytes base part files_before) result
    -- no file changed, and no other part was read
    pub looked : Looked part files_before files_now reads_before reads_now faults_before faults_now
    -- the part was read once
    pub once : ReadsOnce base part count result files_before files_now reads_before reads_now faults_before faults_now
    -- a part that is too short for its entries was not read
    pub unread : SkipsIfShort base part count files_before files_now reads_before reads_now faults_before faults_now
    -- a refusal for the device has its cause there
    pub cause : HasPartCause faults_before faults_now result

-- loading the model of both streams, of so many words and so many others
pub record LoadsModel (base : List ℕ) (words others : ℕ) (result : Result TextCode PartErr)
    (files_before files_now : Option Files) (reads_before reads_now : Reads) (faults_before faults_now : ℕ) : Type 0
  where
    -- the pieces and their lengths, or the first damage of the parts
    pub answer : IsSome files_before → AnswersModel base words others files_before result
    -- no file changed, and no other part was read
    pub looked : LookedAt part.Words part.Nonwords files_before files_now reads_before reads_now faults_before
        faults_now
    -- each part was read once
    pub words_once : ReadsOnce base part.Words words result files_before files_now reads_before reads_now faults_before
        faults_now
    pub others_once : ReadsOnce base part.Nonwords others result files_before files_now reads_before reads_now
        faults_before faults_now
    -- a part that is too short for its entries was not read
    pub words_unread : SkipsIfShort base part.Words words files_before files_now reads_before reads_now faults_before
        faults_now
    pub others_unread : SkipsIfShort base part.Nonwords others files_before files_now reads_before reads_now
        faults_before faults_now
    -- Nonwords was read only where Words has no damage
    pub words_first : ReadsWordsFirst base words files_before files_now reads_before reads_now faults_before faults_now
    -- where a damage of Words is told, Nonwords was not read
    pub words_told : IsSome files_before → ToldUnread reads_before reads_now result
    -- a refusal for the device has its cause there
    pub cause : HasPartCause faults_before faults_now result

-- no file changes but the two parts of a model
abbrev pub OnlyModelChanges : List ℕ → Option Files → Option Files → Type 0
OnlyModelChanges base files files_now = (n : List ℕ) → n ≢ full_name base part.Words →
    n ≢ full_name base part.Nonwords → file_at files_now n ≡ file_at files n
