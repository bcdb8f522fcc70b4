-- Terms that are indexed one behind another.
use Rattle.std.proofs.Common.{Global, ℕ, Vec, refl, ◌∙◌, arith, Ok, Err}
use Rattle.std.specs.declared.option.Option.{Option}
use Rattle.std.specs.declared.result.Result.{Result}
use Rattle.mg_dev.specs.Files.{Files, Reads}
use Rattle.mg_dev.specs.declared.fault.Fault.{Fault}
use Rattle.mg_runs.specs.Left.{Merging}
use Rattle.mg_index.specs.ListEnds.{TermsStep}
use Rattle.mg_index.specs.Listed.{CanIndexTo}
use Rattle.mg_index.specs.declared.lists.IndexWriter.{IndexWriter}
use Rattle.mg_index.specs.declared.lists.Terms.{Terms}
use Rattle.mg_index.proofs.Causes.{rose_behind}
use Rattle.mg_index.proofs.ListFrames.{stops_for}
use Rattle.mg_index.proofs.StepLaws.{step_none, step_then}

-- no term yet
pub terms_none : {from : ℕ} {terms : Terms} {a : Merging} {w : IndexWriter} {s : Vec ℕ Global} {f : Option Files} {q : Reads} {m : ℕ} →
    CanIndexTo from terms a w s f → TermsStep from from terms a a w w s s (Ok tt) f f q q m m
terms_none can = record {
  can = can;
  indexed = λ collection has. has;
  all = refl;
  step = step_none refl (λ p. refl) (omega arith);
  refused = tt;
  tells = tt;
}

-- those behind the ones that are indexed, or why they are not
pub terms_more : {from between to : ℕ} {terms : Terms} {a b c : Merging} {w x y : IndexWriter} {s t u : Vec ℕ Global} {result : Result (Unit {0}) Fault}
    {f g h : Option Files} {q r v : Reads} {l m n : ℕ} → TermsStep from between terms a b w x s t (Ok tt) f g q r l m →
    TermsStep between to terms b c x y t u result g h r v m n → TermsStep from to terms a c w y s u result f h q v l n
terms_more {result = Ok done} one two = record {
  can = two.can;
  indexed = λ collection has. two.indexed collection (one.indexed collection has);
  all = two.all ∙ one.all;
  step = step_then one.step two.step;
  refused = tt;
  tells = tt;
}
terms_more {result = Err fault} {l = l} {m = m} {n = n} one two = record {
  can = tt;
  indexed = λ collection has. tt;
  all = two.all ∙ one.all;
  step = step_then one.step two.step;
  refused = λ collection. stops_for fault (rose_behind l m n one.step.later) (λ has. one.indexed collection has) (two.refused collection);
  tells = two.tells;
}

-- where one is refused, it is the same for any number
pub terms_err : {from to last : ℕ} {terms : Terms} {a b : Merging} {w x : IndexWriter} {s t : Vec ℕ Global} {fault : Fault} {f g : Option Files} {q r : Reads} {m n : ℕ} →
    TermsStep from to terms a b w x s t (Err fault) f g q r m n → TermsStep from last terms a b w x s t (Err fault) f g q r m n
terms_err step = record { can = tt; indexed = λ collection has. tt; all = step.all; step = step.step; refused = step.refused; tells = step.tells }
