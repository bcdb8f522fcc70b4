-- Phrases that are sought in documents by the symbols of their words.
use Rattle.std.specs.Prelude.{◌≡◌, ℕ, ◌+◌, ◌≤◌, List, [], None, Some, map, IfErr, IfOk, IsSome}
use Rattle.std.specs.declared.option.Option.{Option}
use Rattle.std.specs.declared.result.Result.{Result}
use Rattle.mg_dev.specs.Bads.{IsNotBad}
use Rattle.mg_dev.specs.Files.{Files, Reads}
use Rattle.mg_dev.specs.Moments.{StoreAt}
use Rattle.mg_dev.specs.PartCauses.{HasPartCause}
use Rattle.mg_dev.specs.declared.part.Part.TheVariants as part
use Rattle.mg_dev.specs.declared.part_err.PartErr.{PartErr}
use Rattle.mg_defs.specs.Parse.{Pair}
use Rattle.mg_defs.specs.Phrases.{phrase_places}
use Rattle.mg_defs.specs.Terms.{document}
use Rattle.mg_defs.specs.declared.session.Mode.TheVariants as mode
use Rattle.mg_bits.specs.Pages.{LookedAt}
use Rattle.mg_phrase.specs.Marks.{Marking, MarksFit}
use Rattle.mg_text.specs.Held.{WhereShort}
use Rattle.mg_text.specs.Reading.{PagesOfDocument, SameText, TellsPairs, TextFits, TextReading}
use Rattle.mg_session.specs.DocStands.{ArePlacesIn, places_in_words}
use Rattle.mg_session.specs.Parts.{ShownIn}
use Rattle.mg_session.specs.Sessions.{ForText}
use Rattle.mg_session.specs.Showing.{shown_pages}
use Rattle.mg_session.specs.Texts.{SameTexts, Texting, TextsFit}

-- the marks that are kept are those of the words of the models; none is kept before the models are loaded
abbrev pub AreMarksOf : Option TextReading → Marking → Type 0
AreMarksOf None m = m.marks ≡ []
AreMarksOf (Some r) m = MarksFit r.code.words.pieces m

-- what seeking a phrase in a document of a reader promises: the document has at most so many bytes where facts of it
-- are told
pub record SeeksPhrase (number most : ℕ) (result : Result ℕ PartErr) (old new : TextReading) (marks marks_now : Marking)
    (files_before files_now : Option Files) (reads_before reads_now : Reads) (faults_before faults_now : ℕ) : Type 0
  where
    -- what the reader keeps of Text and Places agrees with them, and it reads the same text
    pub fits : TextFits new files_now
    pub same : SameText old new
    -- nothing is read but Text and Places, and no file changes
    pub looked : LookedAt part.Text part.Places files_before files_now reads_before reads_now faults_before faults_now
    -- so many places are those of the document
    pub content : WhereShort old files_before number most (λ collection.
        IfOk result (λ places. places ≡ phrase_places marks.phrase (document collection number)))
    -- whatever the parts hold, they are those among the words of pairs of which they tell
    pub stood : IsSome files_before → IfOk result (λ places. (pairs : List Pair)
        × TellsPairs old files_before number pairs
        × (places ≡ places_in_words marks.phrase (map (λ (p : Pair). p.word) pairs)))
    -- no part is bad
    pub never_bad : WhereShort old files_before number most (λ _. IfErr result IsNotBad)
    -- no more pages of Text are read than the document's bits lie on
    pub pages : WhereShort old files_before number most (PagesOfDocument old number reads_before reads_now)
    -- a refusal has its cause
    pub cause : HasPartCause faults_before faults_now result
    -- the marks are still those of the words of the models, for the same phrase
    pub marked : MarksFit new.code.words.pieces marks_now
    pub phrase : marks_now.phrase ≡ marks.phrase

-- what seeking a phrase in a document of a set promises
pub record FindsPlaces (number : ℕ) (result : Result ℕ PartErr) (texts texts_now : Texting) (marks marks_now : Marking)
    (before now : StoreAt) : Type 0 where
  -- what the reader keeps agrees with the files, and the text is the same
  pub fits : TextsFit now.files texts_now
  pub same : SameTexts texts texts_now
  -- where the text is that of a collection, so many places are those of its document
  pub content : ForText texts before.files (λ code collection.
      IfOk result (λ places. places ≡ phrase_places marks.phrase (document collection number)))
  -- whatever the parts hold, they are those among the words of pairs that stand there
  pub stood : IfOk result (ArePlacesIn texts before.files marks.phrase number)
  -- and no part is bad
  pub never_bad : ForText texts before.files (λ code collection. IfErr result IsNotBad)
  -- no more pages of Text are read than the document lies on
  pub pages : ForText texts before.files (λ code collection. now.reads part.Text
      ≤ before.reads part.Text + shown_pages mode.Text number None code collection)
  -- no file changes, and only those parts are read that documents are decoded from
  pub looked : ShownIn mode.Text before.files now.files before.reads now.reads before.faults now.faults
  -- a refusal has its cause
  pub cause : HasPartCause before.faults now.faults result
  -- the marks are those of the words of the models, for the same phrase
  pub marked : AreMarksOf texts_now.reader marks_now
  pub phrase : marks_now.phrase ≡ marks.phrase
