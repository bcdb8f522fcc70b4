-- The terms of a lexicon in a session of patterns, which are loaded when the first pattern asks for them.
use Rattle.std.specs.Prelude.{◌≡◌, ◌≢◌, ℕ, ◌+◌, ◌≤◌, List, length, IfSome, IsSome}
use Rattle.std.specs.declared.option.Option.{Option}
use Rattle.std.specs.declared.result.Result.{Result}
use Rattle.mg_dev.specs.Each.{ForEach}
use Rattle.mg_dev.specs.Files.{Files, Reads, bytes_at}
use Rattle.mg_dev.specs.Moments.{SinkAt, StoreAt}
use Rattle.mg_dev.specs.Names.{full_name}
use Rattle.mg_dev.specs.declared.part.Part.{Part}
use Rattle.mg_dev.specs.declared.part.Part.TheVariants as part
use Rattle.mg_dev.specs.declared.show_err.ShowErr.{ShowErr}
use Rattle.mg_dev.specs.declared.sink.Sink as sinks
use Rattle.mg_dev.specs.declared.store.Store as stores
use Rattle.mg_defs.specs.Patterns.{Pattern}
use Rattle.mg_defs.specs.Split.{documents}
use Rattle.mg_defs.specs.WithinLimits.{IsWithinLimits}
use Rattle.mg_lex.specs.Reading.{ForEachWithinLimits}
use Rattle.mg_post.specs.TermLists.{ListsStand}
use Rattle.mg_wild.specs.Loading.{AreWithin, HasTermsOf, IsOfLexicon, LexToLoad, TellsOf}
use Rattle.mg_wild.specs.Terms.{LexTerms}
use Rattle.mg_session.specs.Calls.{at_sink, at_store}
use Rattle.mg_session.specs.WildAnswers.{PatternStep, WildAnswered, pattern_pages}

-- what is told of a lexicon whose terms are not loaded, and the terms once they are
pub record WildTerms : Type 0 where
  pub lex : LexToLoad
  pub loaded : Option LexTerms

-- Terms were loaded from these files: they are those of each collection whose lexicon that is, with what stands of each.
pub record AreLoaded (lex : LexToLoad) (files : Option Files) (terms : LexTerms) : Type 0 where
  pub terms_are : (collection : List ℕ) → IsOfLexicon lex files collection → HasTermsOf terms collection
  pub infos_are : ForEachWithinLimits (λ collection. IsOfLexicon lex files collection → TellsOf terms collection)

-- What is held of a lexicon agrees with these files.
pub record TermsFit (files : Option Files) (t : WildTerms) : Type 0 where
  -- the strings have no more bytes together than was told
  pub within : IsSome files → AreWithin (bytes_at files (full_name t.lex.base part.Lex)) t.lex.count t.lex.most
  pub loaded : IfSome t.loaded (AreLoaded t.lex files)

-- It is the same lexicon, and what was loaded stays so.
pub record SameTerms (old new : WildTerms) : Type 0 where
  pub lex : new.lex ≡ old.lex
  pub loaded : IsSome old.loaded → IsSome new.loaded

-- The lists and the lexicon are those of this collection, which has so many documents and is within the limits of a version.
pub record WildSet (base : List ℕ) (files : Option Files) (lex : LexToLoad) (all : ℕ) (collection : List ℕ) : Type 0
  where
    pub version : ℕ
    pub limits : IsWithinLimits version collection
    pub lists : ListsStand base files collection
    pub lexicon : IsOfLexicon lex files collection
    pub all_is : all ≡ length (documents collection)

-- No file changed, no fault was forgotten, and no part was read but Post, and Lex where this isn't so.
pub record ReadsLists (LexStays : Type 0) (files_before files_now : Option Files) (reads_before reads_now : Reads)
    (faults_before faults_now : ℕ) : Type 0 where
  pub files : files_now ≡ files_before
  pub faults : faults_before ≤ faults_now
  pub unread : (p : Part) → p ≢ part.Post → (p ≡ part.Lex → LexStays) → reads_now p ≡ reads_before p

-- A pattern was answered from the lists of a base and the terms of a lexicon.
pub record PatternAsked (base : List ℕ) (all : ℕ) (p : Pattern) (terms terms_now : WildTerms) (before now : StoreAt)
    (out out_now : SinkAt) (result : Result (Unit {0}) ShowErr) : Type 0 where
  -- what is held of the lexicon agrees with the files, and it is the same
  pub fits : TermsFit now.files terms_now
  pub same : SameTerms terms terms_now
  -- where lists and lexicon are those of a collection, its answer is printed, or a part of it, and no part is bad
  pub answer : ForEach (WildSet base before.files terms.lex all)
      (λ collection. WildAnswered collection p out.written out_now.written result)
  -- and no more pages of Post are read than the pattern allows
  pub pages : ForEach (WildSet base before.files terms.lex all)
      (λ collection. now.reads part.Post ≤ before.reads part.Post + pattern_pages collection p)
  -- no part is read but Post, and Lex where its terms were not loaded
  pub stepped : PatternStep (ReadsLists (IsSome terms.loaded)) before now out out_now result

-- by what the types of the store and the output tell
abbrev pub AsksPattern : {X Y : Type 0} → stores.Ghosts X → sinks.Ghosts Y → X → X → Y → Y →
    Result (Unit {0}) ShowErr → List ℕ → ℕ → Pattern → WildTerms → WildTerms → Type 0
AsksPattern of_store of_out store store_now out out_now result base all p terms terms_now = PatternAsked base all p
    terms terms_now (at_store of_store store) (at_store of_store store_now) (at_sink of_out out) (at_sink of_out out_now)
    result
