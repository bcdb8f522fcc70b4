-- Occurrences as they are taken: runs of them, and how many documents have each term.
use Rattle.std.specs.Prelude.{◌≡◌, ◌<◌, ◌≤◌, ◌-◌, ◌^◌, ◌++◌, ◌∷◌, ℕ, List, [], length}
use Rattle.std.specs.declared.option.Option.{Option}
use Rattle.mg_dev.specs.Files.{Files}
use Rattle.mg_dev.specs.declared.part.Part.{Part as AnyPart}
use Rattle.mg_dev.specs.declared.part.Part.TheVariants.{MergeA, MergeB, Run}
use Rattle.mg_defs.specs.DocCounts.{NeverFall}
use Rattle.mg_count.specs.DocCounting.{AreDocCounts, DocCounting}
use Rattle.mg_runs.specs.Fed.{IsFed, Inverting}

-- the runs, the documents of each term, and how many occurrences were taken
pub record Indexing : Type 0 where
  pub runs : Inverting
  pub counts : DocCounting
  pub occurrences : ℕ

-- these occurrences of so many terms were taken
pub record HasTaken (index : Indexing) (files : Option Files) (terms : ℕ) (fed : List (ℕ × ℕ)) : Type 0 where
  pub runs : IsFed index.runs files fed
  pub counts : AreDocCounts index.counts terms fed
  pub occurrences : index.occurrences ≡ length fed

-- one occurrence more can be taken: that of one of so many terms, in a document that is not before those of the others
pub record MayFollow (terms : ℕ) (fed : List (ℕ × ℕ)) (term doc : ℕ) : Type 0 where
  pub known : term < terms
  pub some : 1 ≤ doc
  pub order : NeverFall 0 fed doc
  pub few : length fed < 2 ^ 32 - 1

-- the parts of runs
abbrev pub OfRuns : AnyPart → Type 0
OfRuns Run = Unit {0}
OfRuns MergeA = Unit {0}
OfRuns MergeB = Unit {0}
OfRuns p = ⊥

-- whatever occurrences were taken, one more is taken behind them, where it may follow
abbrev pub TakesOneMore : Indexing → Indexing → Option Files → Option Files → ℕ → ℕ → Type 0
TakesOneMore old new files files_now term doc =
    (terms : ℕ) (fed : List (ℕ × ℕ)) → HasTaken old files terms fed → MayFollow terms fed term doc →
    HasTaken new files_now terms (fed ++ (term, doc) ∷ [])
