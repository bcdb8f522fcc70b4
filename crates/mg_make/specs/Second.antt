-- The second pass: text and runs from the marks of a collection, by the plan of the first pass.
use Rattle.std.specs.Prelude.{◌≡◌, ◌≢◌, ◌≤◌, ◌+◌, ◌*◌, ◌-◌, ℕ, true, List, [], ◌++◌, length, get_or, sum, take, None, IfErr}
use Rattle.std.specs.Option.{IsSome}
use Rattle.std.specs.declared.option.Option.{Option}
use Rattle.std.specs.declared.result.Result.{Result}
use Rattle.mg_dev.specs.Causes.{Rose}
use Rattle.mg_dev.specs.Files.{Files}
use Rattle.mg_dev.specs.declared.fault.Fault.{Fault}
use Rattle.mg_dev.specs.declared.fault.Fault.TheVariants.{Changed, Damaged, Memory, StoreFault}
use Rattle.mg_defs.specs.declared.Stream.{Stream}
use Rattle.mg_defs.specs.declared.Stream.TheVariants.{Others, Words}
use Rattle.mg_defs.specs.Bits.{Bits}
use Rattle.mg_defs.specs.Marks.{Mark, coded_from, is_open_after, marks, open_from, piece_count_from, starts, term_in, terms_from}
use Rattle.mg_text_writer.specs.Writing.{IsOnText, TextWriting}
use Rattle.mg_make.specs.Fronts.{IsFrontOf}
use Rattle.mg_make.specs.Indexes.{HasTaken, Indexing}
use Rattle.mg_count.specs.Plans.{IsPlan, IsPlanOf, Plan}
use Rattle.mg_make.specs.Changes.{TellsChange}
use Rattle.mg_make.specs.Written.{SecondStops}

-- ---- what a plan makes of marks

-- the bits of the documents that ended
abbrev pub coded_by : Plan → List Mark → List Bits
coded_by p met = coded_from p.code p.pairs [] met

-- the bits of the open document, none where none is open
abbrev pub open_by : Plan → List Mark → Bits
open_by p met = open_from p.code p.pairs [] met

-- the occurrences of terms, each with its document
abbrev pub occurring_by : Plan → List Mark → List (ℕ × ℕ)
occurring_by p met = terms_from p.terms.terms 0 met

-- the number of the term of a piece, which a word has that is not empty
abbrev pub term_at : Stream → List (List ℕ) → List ℕ → Option ℕ
term_at Words terms bytes = term_in terms bytes
term_at Others terms bytes = None

-- ---- the pass

-- the base, the plan, both writers, the document that was begun last, and how many of its pieces are to come
pub record Inversion : Type 0 where
  pub base : List ℕ
  pub plan : Plan
  pub text : TextWriting
  pub index : Indexing
  pub doc : ℕ
  pub left : ℕ

-- these marks were written
pub record HasWritten (s : Inversion) (files : Option Files) (met : List Mark) : Type 0 where
  pub text_base : s.text.base ≡ s.base
  pub runs_base : s.index.runs.base ≡ s.base
  pub planned : IsPlan s.plan
  pub text : IsOnText s.text files (coded_by s.plan met) (open_by s.plan met)
  pub index : HasTaken s.index files (length s.plan.terms.terms) (occurring_by s.plan met)
  pub doc : s.doc ≡ starts met
  pub left : s.left ≡ s.text.left
  pub docs : s.text.docs ≡ s.doc
  pub is_open : s.text.is_open ≡ is_open_after met
  pub pairs : s.text.pairs ≡ sum (take s.doc s.plan.pairs)
  pub within : s.doc ≤ length s.plan.pairs
  pub put : s.text.is_open ≡ true → s.left + piece_count_from 0 met ≡ 2 * get_or s.plan.pairs (s.doc - 1) 0

-- Marks were written with which a collection begins, and in it these follow.
pub record IsNext (s : Inversion) (files : Option Files) (next : List Mark) : Type 0 where
  pub met : List Mark
  pub collection : List ℕ
  pub written : HasWritten s files met
  pub front : IsFrontOf (met ++ next) collection

-- The marks of a whole collection were written.
pub record IsWhole (s : Inversion) (files : Option Files) : Type 0 where
  pub collection : List ℕ
  pub written : HasWritten s files (marks collection)

-- ---- what its calls do

-- these marks were written, behind all that had been
pub record WroteMarks (old new : Inversion) (files_before files_now : Option Files) (more : List Mark) : Type 0 where
  pub behind : (met : List Mark) → HasWritten old files_before met → HasWritten new files_now (met ++ more)

-- it still writes for the same base, by the same plan and in a pool of the same size
pub record SamePass (old new : Inversion) : Type 0 where
  pub base : new.base ≡ old.base
  pub plan : new.plan ≡ old.plan
  pub limit : new.index.runs.pool.limit ≡ old.index.runs.pool.limit

-- why these marks, which come next in a collection, are not written
pub record StopsBefore (s : Inversion) (files : Option Files) (next : List Mark) (store_rose : Type 0) (fault : Fault) :
    Type 0 where
  pub cause : (met : List Mark) (collection : List ℕ) → HasWritten s files met → IsFrontOf (met ++ next) collection
      → SecondStops store_rose (IsPlanOf s.plan collection) fault
  -- a change is told exactly
  pub tells : (met : List Mark) (collection : List ℕ) → HasWritten s files met → IsFrontOf (met ++ next) collection
      → TellsChange s.plan collection fault

-- these marks are refused only for such a reason
abbrev pub HasStopCause : Inversion → Option Files → List Mark → Type 0 → Result (Unit {0}) Fault → Type 0
HasStopCause s files next store_rose result = IfErr result (λ fault. StopsBefore s files next store_rose fault)

-- why the pass can't be ended: as before, and where the store does not tell its files, damage of the runs
abbrev pub FinishStops : Type 0 → Type 0 → Type 0 → Fault → Type 0
FinishStops store_rose same told StoreFault = store_rose
FinishStops store_rose same told Memory = Unit {0}
FinishStops store_rose same told (Changed what first second) = (first ≢ second) × ¬ same
FinishStops store_rose same told (Damaged bad) = ¬ told
FinishStops store_rose same told _ = ⊥

-- the pass can't be ended for such a reason, whatever collection's marks were written
abbrev pub EndRefused : {X T : Type 0} → Inversion → (X → Option Files) → (X → ℕ) → X → X → Result T Fault → Type 0
EndRefused s files faults before now result =
    IfErr result (λ fault. (collection : List ℕ) → HasWritten s (files before) (marks collection)
    → FinishStops (Rose (faults before) (faults now)) (IsPlanOf s.plan collection) (IsSome (files before)) fault)

-- and a change is told exactly
abbrev pub EndTells : {T : Type 0} → Inversion → Option Files → Result T Fault → Type 0
EndTells s files result =
    IfErr result (λ fault. (collection : List ℕ) → HasWritten s files (marks collection)
    → TellsChange s.plan collection fault)
