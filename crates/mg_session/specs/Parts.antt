-- The parts that a session does not read, and what a step of it does to the store.
use Rattle.std.specs.Prelude.{◌≡◌, ◌≢◌, ◌≤◌, ◌⊎◌, ℕ, Bool, true, false}
use Rattle.std.specs.declared.option.Option.{Option}
use Rattle.mg_defs.specs.declared.session.Mode.{Mode}
use Rattle.mg_defs.specs.declared.session.Mode.TheVariants as mode
use Rattle.mg_dev.specs.Files.{Files, Reads}
use Rattle.mg_dev.specs.declared.part.Part.{Part}
use Rattle.mg_dev.specs.declared.part.Part.TheVariants as part
use Rattle.mg_front.specs.Looks.{ReadLooks}

abbrev pub NeverRead : Part → Type 0
NeverRead part.Run = Unit {0}
NeverRead part.MergeA = Unit {0}
NeverRead part.MergeB = Unit {0}
NeverRead part.Plain = Unit {0}
NeverRead _ = ⊥

-- whether documents are decoded from this part: the models of both streams, the coded text and its places
abbrev pub is_of_text : Part → Bool
is_of_text part.Words = true
is_of_text part.Nonwords = true
is_of_text part.Text = true
is_of_text part.Places = true
is_of_text _ = false

-- whether what a reply shows of a document in this mode is decoded from this part
abbrev pub is_shown_from : Mode → Part → Bool
is_shown_from mode.Docnums p = false
is_shown_from mode.Text p = is_of_text p
is_shown_from mode.Count p = false

-- a part that is read when a set is opened, or when a term is looked up
abbrev pub IsOpened : Part → Type 0
IsOpened part.Head = Unit {0}
IsOpened part.Lex = Unit {0}
IsOpened part.LexAt = Unit {0}
IsOpened _ = ⊥

-- behind the look-up of its terms a query line that is answered in this mode does not read this part
abbrev pub UnreadIn : Mode → Part → Type 0
UnreadIn m p = NeverRead p ⊎ IsOpened p ⊎ ((m ≢ mode.Text) × (is_of_text p ≡ true))

-- no file changed, no fault was forgotten, and no part was read that a query line in this mode does not read there
pub record Stepped (m : Mode) (files_before files_now : Option Files) (reads_before reads_now : Reads)
    (faults_before faults_now : ℕ) : Type 0 where
  pub files : files_now ≡ files_before
  pub faults : faults_before ≤ faults_now
  pub unread : (p : Part) → UnreadIn m p → reads_now p ≡ reads_before p

-- a line reads neither a part that is never read, nor the head
abbrev pub UnreadByLines : Part → Type 0
UnreadByLines p = NeverRead p ⊎ (p ≡ part.Head)

-- so many places of the lexicon were looked at, at most: each takes a page of LexAt, and two of Lex
abbrev pub ReadsLexicon : Reads → Reads → ℕ → Type 0
ReadsLexicon before now places = ReadLooks part.Lex part.LexAt before now places

-- a query line was answered in this mode, for which so many places of the lexicon were looked at
pub record LineStepped (m : Mode) (places : ℕ) (files_before files_now : Option Files) (reads_before reads_now : Reads)
    (faults_before faults_now : ℕ) : Type 0 where
  -- no file changed, and no fault was forgotten
  pub files : files_now ≡ files_before
  pub faults : faults_before ≤ faults_now
  -- some parts were not read, and in most modes the text was not
  pub unread : (p : Part) → UnreadByLines p → reads_now p ≡ reads_before p
  pub texts : m ≢ mode.Text → (p : Part) → is_of_text p ≡ true → reads_now p ≡ reads_before p
  -- no more pages of the lexicon were read than these places take
  pub looked : ReadsLexicon reads_before reads_now places

-- a call that only reads, and that reads no part but those that documents are shown from in this mode
pub record ShownIn (m : Mode) (files_before files_now : Option Files) (reads_before reads_now : Reads)
    (faults_before faults_now : ℕ) : Type 0 where
  pub files : files_now ≡ files_before
  pub faults : faults_before ≤ faults_now
  pub others : (p : Part) → is_shown_from m p ≡ false → reads_now p ≡ reads_before p
