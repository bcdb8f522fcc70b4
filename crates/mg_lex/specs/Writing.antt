-- A writer of a lexicon: what contracts see of it, and which terms it took.
use Rattle.std.specs.Prelude.{◌≡◌, ◌≢◌, ◌≤◌, ◌+◌, ◌^◌, ◌++◌, ◌∷◌, ℕ, List, [], length, Some, IfOk, OnOk}
use Rattle.std.specs.declared.option.Option.{Option}
use Rattle.std.specs.declared.result.Result.{Result}
use Rattle.std.specs.Option.{IsSome, is_some, option_map}
use Rattle.mg_dev.specs.Causes.{HasPutCause}
use Rattle.mg_dev.specs.Files.{Files, Reads, SameReads, bytes_at, file_at, written}
use Rattle.mg_dev.specs.Names.{full_name}
use Rattle.mg_dev.specs.declared.device.PutErr.{PutErr}
use Rattle.mg_dev.specs.declared.part.Part.TheVariants.{Lex, LexAt}
use Rattle.mg_defs.specs.Front.{front, whole_at}
use Rattle.mg_defs.specs.Terms.{dictionary}
use Rattle.mg_front.specs.Fronting.{Fronting, Took}
use Rattle.mg_layout.specs.Infos.{info_of}
use Rattle.mg_layout.specs.declared.term_info.TermInfo.{TermInfo}
use Rattle.mg_lex.specs.Terms.{Term, entries_of, terms_of}

pub record LexWriting : Type 0 where
  pub base : List ℕ
  pub front : Fronting

-- the files with both parts of a lexicon there and empty
abbrev pub with_empty_lexicon : Option Files → List ℕ → Option Files
with_empty_lexicon files base = written (written files (full_name base Lex) []) (full_name base LexAt) []

-- the names of the writer's files, where they are asked for
abbrev pub places_name : Fronting → Option (List ℕ)
places_name w = option_map (λ places. places.name) w.places

-- the writer stands for these terms
pub record TookTerms (w : LexWriting) (files : Option Files) (ts : List Term) : Type 0 where
  pub took : Took w.front files (entries_of ts)
  pub width : w.front.width ≡ 16
  pub strings : w.front.strings.name ≡ full_name w.base Lex
  pub places : places_name w.front ≡ Some (full_name w.base LexAt)

-- the parts of a base are the lexicon of these terms
pub record TermsStand (base : List ℕ) (files : Option Files) (ts : List Term) : Type 0 where
  pub lex : bytes_at files (full_name base Lex) ≡ front (entries_of ts)
  pub lex_at : bytes_at files (full_name base LexAt) ≡ whole_at (entries_of ts)

-- a term and what is told of it
abbrev pub told_term : List ℕ → TermInfo → Term
told_term string info = record { string = string; info = info_of info }

-- whatever terms it stood for, it stands for them and for this one
abbrev pub TookTermMore : LexWriting → LexWriting → Option Files → Option Files → Term → Type 0
TookTermMore old new files files_now term = (ts : List Term) → TookTerms old files ts →
    TookTerms new files_now (ts ++ term ∷ [])

-- where the store tells its files, the parts are the lexicon of the terms that the writer stood for
abbrev pub TookTermsStand : LexWriting → Option Files → Option Files → Type 0
TookTermsStand w files files_now = (ts : List Term) → TookTerms w files ts → IsSome files →
    TermsStand w.base files_now ts

-- the store tells the parts of a base: those of the terms of this collection, which are few enough
pub record IsWritten (base : List ℕ) (files : Option Files) (collection : List ℕ) : Type 0 where
  pub told : IsSome files
  pub stand : TermsStand base files (terms_of collection)
  pub few : length (dictionary collection) ≤ 2 ^ 22

-- no file changes but the two parts of a lexicon
abbrev pub OnlyLexiconChanges : List ℕ → Option Files → Option Files → Type 0
OnlyLexiconChanges base files files_now = (n : List ℕ) → n ≢ full_name base Lex → n ≢ full_name base LexAt →
    file_at files_now n ≡ file_at files n

-- this holds where the store tells its files as before, and these two files are as before
abbrev pub WhereBothStay : List ℕ → List ℕ → Option Files → Option Files → Type 0 → Type 0
WhereBothStay one other files files_now holds = is_some files_now ≡ is_some files →
    file_at files_now one ≡ file_at files one → file_at files_now other ≡ file_at files other → holds

-- this holds where the two parts of a lexicon are as before
abbrev pub WhereLexiconStays : List ℕ → Option Files → Option Files → Type 0 → Type 0
WhereLexiconStays base files files_now holds = WhereBothStay (full_name base Lex) (full_name base LexAt) files files_now
    holds

-- a call that writes the two parts of a lexicon
pub record WritesLexicon {T : Type 0} (base : List ℕ) (result : Result T PutErr) (files_before files_now : Option Files)
    (reads_before reads_now : Reads) (faults_before faults_now : ℕ) : Type 0
  where
    -- no other file changes
    pub others : OnlyLexiconChanges base files_before files_now
    -- the store tells its files where it told them before
    pub told : is_some files_now ≡ is_some files_before
    -- no part was read
    pub reads : SameReads reads_before reads_now
    -- a refusal has a cause
    pub cause : HasPutCause faults_before faults_now result

-- a writer under a base is made
pub record StartsLexicon (under : List ℕ) (result : Result LexWriting PutErr) (files_before files_now : Option Files)
    (reads_before reads_now : Reads) (faults_before faults_now : ℕ) : Type 0
  where
    -- it took no term
    pub took : IfOk result (λ writer. TookTerms writer files_now [])
    -- both parts are there and empty
    pub empty : OnOk result (files_now ≡ with_empty_lexicon files_before under)
    -- it writes under this base
    pub base : IfOk result (λ writer. writer.base ≡ under)
    -- whatever it answers, only the lexicon is written
    pub writes : WritesLexicon under result files_before files_now reads_before reads_now faults_before faults_now
    pub open writes use *

-- a term more is written
pub record PushesTerm (old new : LexWriting) (term : Term) (result : Result (Unit {0}) PutErr)
    (files_before files_now : Option Files) (reads_before reads_now : Reads) (faults_before faults_now : ℕ) : Type 0
  where
    -- where the call is not refused, the writer took it behind the others
    pub took : OnOk result (TookTermMore old new files_before files_now term)
    -- so that there is one more
    pub count : OnOk result (new.front.count ≡ old.front.count + 1)
    -- and it is the last one
    pub last : OnOk result (new.front.last ≡ term.string)
    -- the writer writes under the same base
    pub base : new.base ≡ old.base
    -- whatever it answers, only the lexicon is written
    pub writes : WritesLexicon old.base result files_before files_now reads_before reads_now faults_before faults_now
    pub open writes use *

-- what is held is written
pub record FinishesLexicon (old : LexWriting) (result : Result (Unit {0}) PutErr) (files_before files_now : Option Files)
    (reads_before reads_now : Reads) (faults_before faults_now : ℕ) : Type 0
  where
    -- where the call is not refused, the parts are the lexicon of the terms that the writer took
    pub finished : OnOk result (TookTermsStand old files_before files_now)
    -- whatever it answers, only the lexicon is written
    pub writes : WritesLexicon old.base result files_before files_now reads_before reads_now faults_before faults_now
    pub open writes use *
