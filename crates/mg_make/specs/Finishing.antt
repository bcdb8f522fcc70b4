-- What a second pass hands on at its end.
use Rattle.std.specs.Prelude.{◌≡◌, ◌≤◌, ℕ, List, [], length, IfErr, IfOk, OnOk}
use Rattle.std.specs.Option.{IsSome, is_some}
use Rattle.std.specs.declared.option.Option.{Option}
use Rattle.std.specs.declared.result.Result.{Result}
use Rattle.mg_dev.specs.Causes.{Rose}
use Rattle.mg_dev.specs.Files.{Files, Reads, SameReads, bytes_at}
use Rattle.mg_dev.specs.Names.{full_name}
use Rattle.mg_dev.specs.declared.fault.Fault.{Fault}
use Rattle.mg_dev.specs.declared.part.Part.TheVariants.{Places, Run, Text}
use Rattle.mg_bits.specs.Writer.{KeepsOthers}
use Rattle.mg_defs.specs.Bits.{Bits, as_bytes}
use Rattle.mg_defs.specs.Heads.{run_count}
use Rattle.mg_defs.specs.Marks.{Mark, marks, starts}
use Rattle.mg_defs.specs.Postings.{term_postings}
use Rattle.mg_defs.specs.RunBits.{run_part_bits}
use Rattle.mg_defs.specs.Summaries.{pool_peak, run_cap}
use Rattle.mg_runs.specs.Fed.{Inverting, cap_of}
use Rattle.mg_runs.specs.Left.{IsMerging, Merging}
use Rattle.mg_text_writer.specs.Writing.{DocumentsStand, IsOnText, text_bytes}
use Rattle.mg_count.specs.DocCounting.{AreDocCounts}
use Rattle.mg_count.specs.Plans.{IsPlanOf}
use Rattle.mg_make.specs.Changes.{TellsChange}
use Rattle.mg_make.specs.Second.{HasWritten, Inversion, coded_by, occurring_by}
use Rattle.mg_make.specs.Written.{SecondStops}
use Rattle.mg_make.specs.declared.inverter.Inverted.{Inverted}

-- the bytes of the pool in which a pass sorts
abbrev pub budget_of : Inversion → ℕ
budget_of s = s.index.runs.pool.limit

-- A pass that wrote these marks ends with this: the parts are written, the merge has all postings, and the numbers are those of the marks.
-- There are as many documents as were planned.
pub record EndsWith (s : Inversion) (met : List Mark) (files_before files_now : Option Files) (r : Inverted) : Type 0
  where
    pub documents : starts met ≡ length s.plan.pairs
    pub text : IsSome files_before → DocumentsStand s.base files_now (coded_by s.plan met)
    pub size : r.text_bytes ≡ length (text_bytes (coded_by s.plan met))
    pub run : IsSome files_before → bytes_at files_now (full_name s.base Run)
        ≡ as_bytes (run_part_bits (run_cap (budget_of s)) (occurring_by s.plan met))
    pub merge : IsMerging r.merge files_now (term_postings (occurring_by s.plan met))
    pub base : r.merge.base ≡ s.base
    pub runs : r.merge.runs ≡ run_count (length (occurring_by s.plan met)) (run_cap (budget_of s))
    pub peak : r.merge.peak ≡ pool_peak (length (occurring_by s.plan met)) (budget_of s)
    pub counts : AreDocCounts r.counts (length s.plan.terms.terms) (occurring_by s.plan met)
    pub occurrences : r.occurrences ≡ length (occurring_by s.plan met)

-- a merge of the runs of these occurrences
pub record IsMergeOf (runs_in : Inverting) (g h : Option Files) (merge : Merging) (fed : List (ℕ × ℕ)) : Type 0 where
  -- the postings of all occurrences are left
  pub left : IsMerging merge h (term_postings fed)
  -- the part of the runs is written
  pub run : IsSome g → bytes_at h (full_name runs_in.base Run) ≡ as_bytes (run_part_bits (cap_of runs_in.pool) fed)
  -- the number of the first runs
  pub runs : merge.runs ≡ run_count (length fed) (cap_of runs_in.pool)
  -- the greatest use of the pool
  pub peak : merge.peak ≡ pool_peak (length fed) runs_in.pool.limit
  -- the base stays
  pub base : merge.base ≡ runs_in.base

-- the text of a pass is ended, where as many documents were written as were planned
pub record TextEnd (old new : Inversion) (result : Result ℕ Fault) (files_before files_now : Option Files)
    (reads_before reads_now : Reads)
    (faults_before faults_now : ℕ) : Type 0 where
  -- what goes on is as it was
  pub index : new.index ≡ old.index
  -- there are as many documents as were planned
  pub all : OnOk result (length old.plan.pairs ≤ old.doc)
  -- the parts of the text have the documents
  pub stands : OnOk result ((docs : List Bits) → IsOnText old.text files_before docs [] → IsSome files_before →
      DocumentsStand old.text.base files_now docs)
  -- the size of the text
  pub answer : IfOk result (λ size. (docs : List Bits) → IsOnText old.text files_before docs [] →
      size ≡ length (text_bytes docs))
  -- whether the store tells its files stays
  pub told : is_some files_now ≡ is_some files_before
  -- no file was written but the parts of the text
  pub others : KeepsOthers (full_name old.text.base Text) (full_name old.text.base Places) files_before files_now
  -- no part was read
  pub reads : SameReads reads_before reads_now
  -- the faults never fall
  pub faults : faults_before ≤ faults_now
  -- why it stops
  pub refused : IfErr result (λ fault. (collection : List ℕ) → HasWritten old files_before (marks collection)
      → SecondStops (Rose faults_before faults_now) (IsPlanOf old.plan collection) fault)
  -- a change is told exactly
  pub tells : IfErr result (λ fault. (collection : List ℕ) → HasWritten old files_before (marks collection)
      → TellsChange old.plan collection fault)

-- whatever marks it wrote, a pass that wrote them ends with this
abbrev pub HandsOn : {E : Type 0} → Inversion → Option Files → Option Files → Result Inverted E → Type 0
HandsOn s files files_now result = (met : List Mark) → HasWritten s files met →
    IfOk result (λ (inverted : Inverted). EndsWith s met files files_now inverted)
