-- The pieces of whole texts, counted in two vocabularies by tallies of their symbols.
use Rattle.std.specs.Prelude.{◌≡◌, ℕ, ◌+◌, ◌≤◌, Bool, if◌then◌else◌, List, [], ◌∷◌, ◌++◌, length, map, IfOk}
use Rattle.std.specs.Bool.{OnTrue}
use Rattle.std.specs.List.{AllByRecursion, flat_map}
use Rattle.std.specs.Str.{bytes_eq}
use Rattle.std.specs.declared.option.Option.{Option}
use Rattle.std.specs.declared.result.Result.{Result}
use Rattle.mg_dev.specs.Causes.{HasCause}
use Rattle.mg_dev.specs.Files.{Files, Reads}
use Rattle.mg_dev.specs.declared.device.Failed.{Failed}
use Rattle.mg_dev.specs.declared.part.Part.TheVariants as part
use Rattle.mg_bits.specs.Pages.{LookedAt}
use Rattle.mg_defs.specs.CodedText.{TextCode}
use Rattle.mg_defs.specs.Parse.{parse}
use Rattle.mg_defs.specs.Split.{documents}
use Rattle.mg_defs.specs.Terms.{document}
use Rattle.mg_defs.specs.Vocabulary.{count_in, entry_count, pieces_in}
use Rattle.mg_defs.specs.declared.Stream.TheVariants.{Words, Others}
use Rattle.mg_text.specs.PieceCounts.{PieceTally, with_pairs}
use Rattle.mg_text.specs.Reading.{SameText, TextFits, TextReading, WhereTextStands}

-- ---- counts

-- the words and the others that were counted, each with its count, and how many pairs each document has
pub record Counted : Type 0 where
  pub words : List (List ℕ × ℕ)
  pub others : List (List ℕ × ℕ)
  pub pairs : List ℕ

-- the pairs of more documents
abbrev pub with_pairs_of : List ℕ → Counted → Counted
with_pairs_of numbers c = record { words = c.words; others = c.others; pairs = c.pairs ++ numbers }

-- a piece is counted so many times more, and no other is
abbrev pub ComesMore : List ℕ → ℕ → List (List ℕ × ℕ) → List (List ℕ × ℕ) → Type 0
ComesMore piece times old new = (other : List ℕ) →
    entry_count new other ≡ entry_count old other + (if bytes_eq other piece then times else 0)

-- each entry came at least once
abbrev pub AllCame : List (List ℕ × ℕ) → Type 0
AllCame entries = AllByRecursion (λ (e : List ℕ × ℕ). 1 ≤ e.1) entries

-- how often a piece came, by how often each symbol came
abbrev pub tallied : List (List ℕ) → List ℕ → List ℕ → ℕ
tallied [] numbers piece = 0
tallied (p ∷ pieces) [] piece = 0
tallied (p ∷ pieces) (n ∷ numbers) piece = (if bytes_eq piece p then n else 0) + tallied pieces numbers piece

-- each piece is counted as many times more as its symbol came
abbrev pub ComeMore : List (List ℕ) → List ℕ → List (List ℕ × ℕ) → List (List ℕ × ℕ) → Type 0
ComeMore pieces numbers old new = (piece : List ℕ) → entry_count new piece ≡ entry_count old piece + tallied pieces numbers piece

-- the same of both streams
pub record PutsTally (code : TextCode) (t : PieceTally) (old new : Counted) : Type 0 where
  pub words : ComeMore code.words.pieces t.words old.words new.words
  pub others : ComeMore code.others.pieces t.others old.others new.others
  pub pairs : new.pairs ≡ old.pairs

-- ---- documents

-- how many pairs each document has
abbrev pub pairs_of : List (List ℕ) → List ℕ
pairs_of docs = map (λ doc. length (parse doc)) docs

-- the pieces of these documents are counted, and no other ones, and their pairs are kept behind the others
pub record CountsDocuments (docs : List (List ℕ)) (old new : Counted) : Type 0 where
  pub words : (piece : List ℕ) → entry_count new.words piece ≡ entry_count old.words piece + count_in (flat_map (pieces_in Words) docs) piece
  pub others : (piece : List ℕ) → entry_count new.others piece ≡ entry_count old.others piece + count_in (flat_map (pieces_in Others) docs) piece
  pub pairs : new.pairs ≡ old.pairs ++ pairs_of docs

-- what a call does that only reads a text
pub record ReadsText {T : Type 0} (result : Result T Failed) (old new : TextReading) (files_before files_now : Option Files)
    (reads_before reads_now : Reads) (faults_before faults_now : ℕ) : Type 0
  where
    -- what the reader keeps of Text and Places agrees with them
    pub fits : TextFits new files_now
    -- it reads the same text
    pub same : SameText old new
    -- nothing is read but Text and Places, and no file changes
    pub looked : LookedAt part.Text part.Places files_before files_now reads_before reads_now faults_before faults_now
    -- a refusal has its cause
    pub cause : HasCause faults_before faults_now result

-- ---- tallies of documents

-- the pieces of a document are tallied, and its pairs are kept
abbrev pub TalliesOne : TextCode → List ℕ → PieceTally → PieceTally → Counted → Counted → Type 0
TalliesOne code doc t t_now c c_now = (t_now ≡ with_pairs code (parse doc) t) × (c_now ≡ with_pairs_of (length (parse doc) ∷ []) c)

-- those of documents
abbrev pub TalliesAll : TextCode → List (List ℕ) → PieceTally → PieceTally → Counted → Counted → Type 0
TalliesAll code docs t t_now c c_now = (t_now ≡ with_pairs code (flat_map parse docs) t) × (c_now ≡ with_pairs_of (pairs_of docs) c)

-- a document of a text is tallied, where the text stands
pub record TalliesDocument (number : ℕ) (result : Result Bool Failed) (old new : TextReading) (t t_now : PieceTally) (c c_now : Counted)
    (files_before files_now : Option Files) (reads_before reads_now : Reads) (faults_before faults_now : ℕ) : Type 0
  where
    pub reads : ReadsText result old new files_before files_now reads_before reads_now faults_before faults_now
    pub told : WhereTextStands old files_before (λ collection. IfOk result (λ done. OnTrue done
        (TalliesOne old.code (document collection number) t t_now c c_now)))

-- all documents of a text are tallied, where the text stands
pub record TalliesText (result : Result Bool Failed) (old new : TextReading) (t t_now : PieceTally) (c c_now : Counted)
    (files_before files_now : Option Files) (reads_before reads_now : Reads) (faults_before faults_now : ℕ) : Type 0
  where
    pub reads : ReadsText result old new files_before files_now reads_before reads_now faults_before faults_now
    pub told : WhereTextStands old files_before (λ collection. IfOk result (λ done. OnTrue done
        (TalliesAll old.code (documents collection) t t_now c c_now)))

-- ---- a text

-- the documents of a text are counted, where the text stands
pub record CountsText (result : Result Bool Failed) (old new : TextReading) (c c_now : Counted)
    (files_before files_now : Option Files) (reads_before reads_now : Reads) (faults_before faults_now : ℕ) : Type 0
  where
    pub reads : ReadsText result old new files_before files_now reads_before reads_now faults_before faults_now
    pub counted : WhereTextStands old files_before (λ collection. IfOk result (λ done. OnTrue done
        (CountsDocuments (documents collection) c c_now)))
