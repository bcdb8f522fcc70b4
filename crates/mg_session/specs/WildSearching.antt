-- A state of a search for patterns over built files, and what a line does to it.
use Rattle.std.specs.Prelude.{◌≡◌, ◌⊎◌, ℕ, ◌+◌, ◌≤◌, List, [], ◌∷◌, IsSome, sum_by}
use Rattle.std.specs.declared.option.Option.{Option}
use Rattle.mg_dev.specs.Causes.{Rose}
use Rattle.mg_dev.specs.Files.{Files, Reads}
use Rattle.mg_dev.specs.Streams.{appended}
use Rattle.mg_dev.specs.declared.part.Part.TheVariants as part
use Rattle.mg_dev.specs.declared.part_err.PartErr.{PartErr}
use Rattle.mg_dev.specs.declared.part_err.PartErr.TheVariants.{Device, Memory, Bad}
use Rattle.mg_defs.specs.CodedText.{TextCode}
use Rattle.mg_defs.specs.Patterns as defs
use Rattle.mg_defs.specs.Patterns.{pattern_of}
use Rattle.mg_defs.specs.Session.{Question}
use Rattle.mg_defs.specs.WildSession.{wild_reply}
use Rattle.mg_defs.specs.declared.session.Settings.{Settings}
use Rattle.mg_reply.specs.PrintedLines.{PrintRule}
use Rattle.mg_session.specs.WildAnswers.{wild_pages}
use Rattle.mg_session.specs.WildTerms.{ReadsLists, SameTerms, TermsFit, WildSet, WildTerms}

-- a base that patterns are answered from, the terms of its lexicon, how many documents there are, and how many can be marked
pub record WildParts : Type 0 where
  pub base : List ℕ
  pub terms : WildTerms
  pub all : ℕ
  pub room : ℕ

-- these, and the store that the lists are read from
pub record WildState : Type 0 where
  pub files : Option Files
  pub reads : Reads
  pub faults : ℕ
  pub parts : WildParts

abbrev pub wild_state : Option Files → Reads → ℕ → WildParts → WildState
wild_state files reads faults parts = record { files = files; reads = reads; faults = faults; parts = parts }

-- Patterns can be answered from them.
pub record IsReady (files : Option Files) (p : WildParts) : Type 0 where
  -- each document can be marked
  pub room : p.room ≡ p.all
  -- what is held of the lexicon agrees with the files
  pub terms : TermsFit files p.terms

-- They are the same parts; terms that were loaded stay so.
pub record SameWild (old new : WildParts) : Type 0 where
  pub base : new.base ≡ old.base
  pub terms : SameTerms old.terms new.terms
  pub all : new.all ≡ old.all

-- the lists and the lexicon are those of this collection
abbrev pub PartsAreOf : Option Files → WildParts → List ℕ → Type 0
PartsAreOf files p collection = WildSet p.base files p.terms.lex p.all collection

-- whatever the codes of its text are
abbrev pub PartsAreBy : Option Files → WildParts → TextCode → List ℕ → Type 0
PartsAreBy files p code collection = PartsAreOf files p collection

abbrev pub WildFits : WildState → Type 0
WildFits s = IsReady s.files s.parts

abbrev pub WildOver : WildState → List ℕ → Type 0
WildOver s collection = PartsAreOf s.files s.parts collection

-- it answers as a session of patterns over a collection does, whatever the settings are
pub record WildBy (s : WildState) (by : Settings → List ℕ → List ℕ) : Type 0 where
  pub collection : List ℕ
  pub over : WildOver s collection
  pub by_is : by ≡ (λ now. wild_reply collection)

-- a line is no pattern
abbrev pub IsNoPattern : List ℕ → Type 0
IsNoPattern line = (at : ℕ) × (pattern_of line ≡ defs.bad at)

abbrev pub AreNoPatterns : List Question → Type 0
AreNoPatterns [] = Unit {0}
AreNoPatterns (q ∷ questions) = IsNoPattern q.line × AreNoPatterns questions

-- the terms are loaded before, or none of these lines asks for them
abbrev pub LoadsNone : WildParts → Type 0 → Type 0
LoadsNone p AreNone = IsSome p.terms.loaded ⊎ AreNone

-- these lines were answered in between
pub record WildAsked (s t : WildState) (questions : List Question) : Type 0 where
  -- no part was read but Post, and Lex at most for the first pattern
  pub step : ReadsLists (LoadsNone s.parts (AreNoPatterns questions)) s.files t.files s.reads t.reads s.faults t.faults
  pub same : SameWild s.parts t.parts
  -- no more pages of the lists were read than the lines allow
  pub post : (collection : List ℕ) → WildOver s collection → t.reads part.Post
      ≤ s.reads part.Post + sum_by (λ (q : Question). wild_pages collection q.line) questions

-- what a line prints that was answered, of each collection that it is over
abbrev pub WildPrints : WildState → PrintRule
WildPrints s question before now = (collection : List ℕ) → WildOver s collection →
    now ≡ appended before (wild_reply collection question.line)

-- why a part may be refused
abbrev pub WildMayStop : WildState → WildState → PartErr → Type 0
WildMayStop s t Device = Rose s.faults t.faults
WildMayStop s t Memory = Unit {0}
WildMayStop s t (Bad bad) = (collection : List ℕ) → WildOver s collection → ⊥
