-- What a line of a session of patterns is answered from, and what is printed of it.
use Rattle.std.specs.Prelude.{◌≡◌, ◌≢◌, ℕ, ◌+◌, ◌≤◌, List, length, sum_by}
use Rattle.std.specs.declared.option.Option.{Option}
use Rattle.std.specs.declared.result.Result.{Result}
use Rattle.mg_dev.specs.Files.{Files, Reads}
use Rattle.mg_dev.specs.Moments.{SinkAt, StoreAt, StoreStep}
use Rattle.mg_dev.specs.Streams.{AfterPut}
use Rattle.mg_dev.specs.declared.part.Part.{Part}
use Rattle.mg_dev.specs.declared.part.Part.TheVariants as part
use Rattle.mg_dev.specs.declared.show_err.ShowErr.{ShowErr}
use Rattle.mg_dev.specs.declared.sink.Sink as sinks
use Rattle.mg_dev.specs.declared.store.Store as stores
use Rattle.mg_defs.specs.CodedText.{TextCode}
use Rattle.mg_defs.specs.Lines.{lines}
use Rattle.mg_defs.specs.PageBounds.{ranked_bound}
use Rattle.mg_defs.specs.Patterns.{Pattern, PatternLine, bad, matching, pattern_of, sides}
use Rattle.mg_defs.specs.PlainSession.{plain_questions}
use Rattle.mg_defs.specs.Split.{documents}
use Rattle.mg_defs.specs.WildSession.{match_text, wild_reply}
use Rattle.mg_post.specs.PagesOnce.{span_pages}
use Rattle.mg_post.specs.TermLists.{ListsStand}
use Rattle.mg_text.specs.Reading.{ShowIsNotBad}
use Rattle.mg_wild.specs.Loading.{HasTermsOf, TellsOf}
use Rattle.mg_wild.specs.Terms.{LexTerms}
use Rattle.mg_session.specs.Answering.{HasShowCause, HasShowLack}
use Rattle.mg_session.specs.Calls.{at_sink, at_store}

-- a session of patterns reads the head, the lexicon and the lists alone, and no skip entry
abbrev pub NeverReadByPatterns : Part → Type 0
NeverReadByPatterns part.Head = ⊥
NeverReadByPatterns part.Lex = ⊥
NeverReadByPatterns part.Post = ⊥
NeverReadByPatterns _ = Unit {0}

-- the pages of Post that a pattern may read: those on which the list of each term lies that matches it
unfoldable pub pattern_pages : List ℕ → Pattern → ℕ
pattern_pages collection p = sum_by (span_pages collection) (matching collection p)

-- those of each block of these lists
unfoldable pub pattern_blocks : List ℕ → Pattern → ℕ
pattern_blocks collection p = ranked_bound collection (matching collection p)

-- of a line; none where it is no pattern
abbrev pub pages_of : (Pattern → ℕ) → PatternLine → ℕ
pages_of pages (sides p) = pages p
pages_of pages (bad at) = 0

abbrev pub wild_pages : List ℕ → List ℕ → ℕ
wild_pages collection line = pages_of (pattern_pages collection) (pattern_of line)

abbrev pub wild_blocks : List ℕ → List ℕ → ℕ
wild_blocks collection line = pages_of (pattern_blocks collection) (pattern_of line)

-- those of the lines of an input
unfoldable pub patterns_pages : List ℕ → List ℕ → ℕ
patterns_pages collection input = sum_by (wild_pages collection) (plain_questions (lines input))

-- no more pages of Post are read than the lines allow, added up
pub record ReadsPatterns (code : TextCode) (collection given : List ℕ) (before now : Reads) : Type 0 where
  pub post : now part.Post ≤ before part.Post + patterns_pages collection given

-- no file changed, no fault was forgotten, and no part was read but Post
pub record ReadsNoOther (files_before files_now : Option Files) (reads_before reads_now : Reads)
    (faults_before faults_now : ℕ) : Type 0 where
  pub files : files_now ≡ files_before
  pub faults : faults_before ≤ faults_now
  pub unread : (p : Part) → p ≢ part.Post → reads_now p ≡ reads_before p

-- A pattern was answered, and the store is so after it.
pub record PatternStep (IsStep : StoreStep) (before now : StoreAt) (out out_now : SinkAt)
    (result : Result (Unit {0}) ShowErr) : Type 0 where
  -- what was done to the store
  pub step : IsStep before.files now.files before.reads now.reads before.faults now.faults
  -- a failure has its cause, and so has the output's want of memory
  pub cause : HasShowCause result before.faults now.faults out.faults out_now.faults
  pub lack : HasShowLack out.lacks out_now.lacks result

-- by what the types of the store and the output tell
abbrev pub StepsPattern : {X Y : Type 0} → stores.Ghosts X → sinks.Ghosts Y → X → X → Y → Y →
    Result (Unit {0}) ShowErr → StoreStep → Type 0
StepsPattern of_store of_out store store_now out out_now result IsStep = PatternStep IsStep (at_store of_store store)
    (at_store of_store store_now) (at_sink of_out out) (at_sink of_out out_now) result

-- the lists are those of this collection, which has so many documents, and the terms are its terms with what stands of each
pub record WildSources (base : List ℕ) (files : Option Files) (terms : LexTerms) (all : ℕ) (collection : List ℕ) : Type
    0 where
  pub lists : ListsStand base files collection
  pub terms_are : HasTermsOf terms collection
  pub infos_are : TellsOf terms collection
  pub all_is : all ≡ length (documents collection)

-- for each collection whose terms these are, with what stands of each
abbrev pub ForLexTerms : LexTerms → (List ℕ → Type 0) → Type 0
ForLexTerms terms holds = (collection : List ℕ) → HasTermsOf terms collection → TellsOf terms collection →
    holds collection

-- The terms that match a pattern and the documents with one of them were printed, or a part of that text; no part is bad.
pub record WildAnswered (collection : List ℕ) (p : Pattern) (before after : Option (List ℕ))
    (result : Result (Unit {0}) ShowErr) : Type 0 where
  pub put : AfterPut before after (match_text collection p) result
  pub sound : ShowIsNotBad result

-- The same of a line.
pub record WildReplied (collection line : List ℕ) (before after : Option (List ℕ))
    (result : Result (Unit {0}) ShowErr) : Type 0 where
  pub put : AfterPut before after (wild_reply collection line) result
  pub sound : ShowIsNotBad result
