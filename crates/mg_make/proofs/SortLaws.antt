-- Steps that read what was sorted, one behind another.
use Rattle.std.proofs.Common.{arith, ◌≡◌, ℕ, List, subst, ◌∙◌}
use Rattle.std.specs.declared.option.Option.{Option}
use Rattle.std.specs.declared.result.Result.{Result}
use Rattle.mg_dev.specs.Files.{Files, Reads}
use Rattle.mg_dev.specs.declared.fault.Fault.{Fault}
use Rattle.mg_dev.specs.declared.part.Part.{Part as AnyPart}
use Rattle.mg_defs.specs.Marks.{Mark}
use Rattle.mg_runs.specs.Left.{Merging}
use Rattle.mg_index.specs.Steps.{MergeStep}
use Rattle.mg_index.specs.Written.{WroteParts}
use Rattle.mg_index.proofs.CallerLemmas.{wrote_more}
use Rattle.mg_make.specs.Second.{Inversion}
use Rattle.mg_make.specs.Steps.{PassStep, SortStep}
use Rattle.mg_make.specs.Written.{OfSecond}

pub sort_more : {parts : AnyPart → Type 0} {base : List ℕ} {f g h : Option Files} {q r s : Reads} {l m n : ℕ} →
    SortStep parts base f g q r l m → SortStep parts base g h r s m n → SortStep parts base f h q s l n
sort_more {parts} {base} {f} {g} {h} one two = record {
  wrote = wrote_more parts base f g h one.wrote two.wrote;
  reads = λ p run first second. two.reads p run first second ∙ one.reads p run first second;
  later = omega (arith, one.later, two.later);
}

pub sort_for : {parts : AnyPart → Type 0} {base own : List ℕ} {f g : Option Files} {q r : Reads} {m n : ℕ} →
    own ≡ base → SortStep parts own f g q r m n → SortStep parts base f g q r m n
sort_for {parts} {f = f} {g = g} own_is step = record {
  wrote = subst (λ b. WroteParts parts b f g) own_is step.wrote;
  reads = step.reads;
  later = step.later;
}

pub sort_merge : {parts : AnyPart → Type 0} {base : List ℕ} {a b : Merging} {f g : Option Files} {q r : Reads} {m n : ℕ} →
    MergeStep parts base a b f g q r m n → SortStep parts base f g q r m n
sort_merge step = record { wrote = step.wrote; reads = step.reads; later = step.later }

pub sort_pass : {s t : Inversion} {marks : List Mark} {result : Result (Unit {0}) Fault} {f g : Option Files} {q r : Reads} {m n : ℕ} →
    PassStep s t marks result f g q r m n → SortStep OfSecond s.base f g q r m n
sort_pass step = record { wrote = step.wrote; reads = λ p run first second. step.reads p; later = step.faults }
