-- A state of a search over built files, and what a query line does to it.
use Rattle.std.specs.Prelude.{◌≡◌, ◌≢◌, ℕ, ◌+◌, ◌*◌, ◌≤◌, true, None, List, All, flat_map, length, sum_by}
use Rattle.std.specs.declared.option.Option.{Option}
use Rattle.mg_dev.specs.Causes.{Rose}
use Rattle.mg_dev.specs.Files.{Files, Reads}
use Rattle.mg_dev.specs.declared.part.Part.{Part}
use Rattle.mg_dev.specs.declared.part.Part.TheVariants as part
use Rattle.mg_dev.specs.declared.part_err.PartErr.{PartErr}
use Rattle.mg_dev.specs.declared.part_err.PartErr.TheVariants.{Device, Memory, Bad}
use Rattle.mg_defs.specs.CodedText.{TextCode}
use Rattle.mg_defs.specs.Limits.{line_bytes}
use Rattle.mg_defs.specs.declared.session.Mode.TheVariants as mode
use Rattle.mg_defs.specs.declared.session.Settings.{Settings}
use Rattle.mg_defs.specs.WithinLimits.{IsWithinLimits}
use Rattle.mg_defs.specs.Replies.{reply}
use Rattle.mg_defs.specs.Session.{Question}
use Rattle.mg_defs.specs.Split.{documents}
use Rattle.mg_defs.specs.TextBounds.{line_text_bound}
use Rattle.mg_front.specs.Looks.{looks}
use Rattle.mg_front.specs.Reading.{Fronted, FrontFits, SameParts}
use Rattle.mg_layout.specs.declared.head.Head.{Head}
use Rattle.mg_lex.specs.Reading.{LexStands}
use Rattle.mg_rank.specs.Ranked.{WeightsStand}
use Rattle.mg_session.specs.PagesAllowed.{ReadsAllowed, line_terms, lines_allow}
use Rattle.mg_session.specs.Parts.{ReadsLexicon, UnreadByLines, is_of_text}
use Rattle.mg_session.specs.Texts.{SameTexts, Texting, TextsFit, TextsStand}

-- the parts of a base that are open: its lexicon and its text, and how many documents there are
pub record Opened : Type 0 where
  pub base : List ℕ
  pub lex : Fronted
  pub texts : Texting
  pub all : ℕ

-- those of a base, before any document was shown from its text
abbrev pub opened_at : List ℕ → Fronted → Head → Opened
opened_at base lex head = record {
  base = base;
  lex = lex;
  texts = record { base = base; head = head; reader = None };
  all = head.documents;
}

-- these, and the store that they are read from
pub record Searching : Type 0 where
  pub files : Option Files
  pub reads : Reads
  pub faults : ℕ
  pub opened : Opened

abbrev pub state_of : Option Files → Reads → ℕ → Opened → Searching
state_of files reads faults opened = record { files = files; reads = reads; faults = faults; opened = opened }

-- what the readers keep agrees with the files
pub record SearchFits (files : Option Files) (o : Opened) : Type 0 where
  pub lex : FrontFits o.lex files
  pub texts : TextsFit files o.texts
  pub all : o.texts.head.documents ≡ o.all

-- A line can be answered from them.
pub record CanAnswer (files : Option Files) (o : Opened) (line : List ℕ) : Type 0 where
  -- it is no longer than lines of a session are
  pub short : length line ≤ line_bytes
  -- what the readers keep agrees with the files
  pub fits : SearchFits files o

-- the same parts
pub record SameOpened (old new : Opened) : Type 0 where
  pub base : new.base ≡ old.base
  pub lex : SameParts old.lex new.lex
  pub texts : SameTexts old.texts new.texts
  pub all : new.all ≡ old.all

-- they are those of this collection, its text under these codes
pub record OpenedOver (files : Option Files) (o : Opened) (code : TextCode) (collection : List ℕ) : Type 0 where
  pub version : ℕ
  pub limits : IsWithinLimits version collection
  pub weights : WeightsStand o.base files collection
  pub lex : LexStands o.lex files collection
  pub texts : TextsStand o.texts files code collection
  pub all : o.all ≡ length (documents collection)

abbrev pub Fits : Searching → Type 0
Fits s = SearchFits s.files s.opened

abbrev pub Over : Searching → TextCode → List ℕ → Type 0
Over s code collection = OpenedOver s.files s.opened code collection

-- it answers as a session over a collection does
pub record AnswersBy (s : Searching) (by : Settings → List ℕ → List ℕ) : Type 0 where
  pub code : TextCode
  pub collection : List ℕ
  pub over : Over s code collection
  pub by_is : by ≡ reply collection

-- no query line asks for the texts of its documents
abbrev pub AskForNoText : List Question → Type 0
AskForNoText questions = All (λ (q : Question). q.now.mode ≢ mode.Text) questions

-- these query lines were answered in between
pub record Asked (s t : Searching) (questions : List Question) : Type 0 where
  pub files : t.files ≡ s.files
  pub faults : s.faults ≤ t.faults
  pub same : SameOpened s.opened t.opened
  pub unread : (p : Part) → UnreadByLines p → t.reads p ≡ s.reads p
  pub texts_unread : AskForNoText questions → (p : Part) → is_of_text p ≡ true → t.reads p ≡ s.reads p
  pub allowed : (code : TextCode) (collection : List ℕ) → Over s code collection →
      ReadsAllowed (lines_allow collection questions) s.reads t.reads
  pub looked : ReadsLexicon s.reads t.reads (length (flat_map line_terms questions) * looks s.opened.lex.count)
  pub shown : (code : TextCode) (collection : List ℕ) → Over s code collection →
      t.reads part.Text ≤ s.reads part.Text + sum_by (line_text_bound code collection) questions

-- why a part may be refused
abbrev pub MayStop : Searching → Searching → PartErr → Type 0
MayStop s t Device = Rose s.faults t.faults
MayStop s t Memory = Unit {0}
MayStop s t (Bad bad) = (code : TextCode) (collection : List ℕ) → Over s code collection → ⊥
