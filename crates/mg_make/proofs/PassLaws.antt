-- Steps of the second pass, one behind another, and what each way out of one promises.
use Rattle.std.proofs.Common.{arith, ◌≡◌, ◌≤◌, ◌∙◌, ◌++◌, ℕ, List, [], refl, Ok, Err, is_some}
use Rattle.std.specs.declared.option.Option.{Option}
use Rattle.std.specs.declared.result.Result.{Result}
use Rattle.mg_dev.specs.Causes.{HasPutCause, Rose}
use Rattle.mg_dev.specs.Faults.{fault_of_store}
use Rattle.mg_dev.specs.Files.{Files, Reads, SameReads}
use Rattle.mg_dev.specs.declared.device.PutErr.{PutErr}
use Rattle.mg_dev.specs.declared.fault.Fault.{Fault}
use Rattle.mg_defs.specs.Marks.{Mark}
use Rattle.mg_text_writer.specs.Writing.{TextWriting}
use Rattle.mg_make.specs.Second.{Inversion, SamePass, StopsBefore, WroteMarks}
use Rattle.mg_make.specs.Steps.{PassStep}
use Rattle.mg_make.proofs.Frames.{OthersStay, text_wrote, wrote_both, wrote_for, wrote_none}
use Rattle.mg_make.proofs.Stopping.{stops_store, tells_store}
use Rattle.mg_make.proofs.Taking.{if_err, marks_both, marks_none, on_ok, same_both, same_none, stops_first, stops_then}

-- ---- without a call

-- no mark is to be written
pub pass_none : {s : Inversion} {f : Option Files} {r : Reads} {n : ℕ} {x : Unit {0}} → PassStep s s [] (Ok x) f f r r n n
pass_none {s} {f} = record {
  written = marks_none s f;
  same = same_none s;
  wrote = wrote_none s.base f;
  reads = λ p. refl;
  faults = omega arith;
  refused = tt;
}

-- the marks are not as it was planned
pub pass_refused : {s : Inversion} {marks : List Mark} {fault : Fault} {f : Option Files} {r : Reads} {n : ℕ} →
    StopsBefore s f marks (Rose n n) fault → PassStep s s marks (Err fault) f f r r n n
pass_refused {s} {f = f} stops = record {
  written = tt;
  same = same_none s;
  wrote = wrote_none s.base f;
  reads = λ p. refl;
  faults = omega arith;
  refused = stops;
}

-- ---- one step behind another

-- where the first part stops, the whole does
pub pass_first : {s t : Inversion} {a : List Mark} {fault : Fault} {f g : Option Files} {q r : Reads} {m n : ℕ} (b : List Mark) →
    PassStep s t a (Err fault) f g q r m n → PassStep s t (a ++ b) (Err fault) f g q r m n
pass_first {s} {a = a} {fault = fault} {f = f} {m = m} {n = n} b step = record {
  written = tt;
  same = step.same;
  wrote = step.wrote;
  reads = step.reads;
  faults = step.faults;
  refused = stops_first s f a b (Rose m n) fault step.refused;
}

-- the first part is done, and the whole does what the rest does
pub pass_then : {s t u : Inversion} {a b : List Mark} {x : Unit {0}} {result : Result (Unit {0}) Fault} {f g h : Option Files} {q r v : Reads} {l m n : ℕ} →
    PassStep s t a (Ok x) f g q r l m → PassStep t u b result g h r v m n → PassStep s u (a ++ b) result f h q v l n
pass_then {s} {t} {u} {a} {b} {result = result} {f = f} {g = g} {h = h} {l = l} {m = m} {n = n} one two = record {
  written = on_ok result (WroteMarks t u g h b) (WroteMarks s u f h (a ++ b)) (marks_both s t u f g h a b one.written) two.written;
  same = same_both s t u one.same two.same;
  wrote = wrote_both s.base f g h one.wrote (wrote_for s.base t.base g h one.same.base two.wrote);
  reads = λ p. two.reads p ∙ one.reads p;
  faults = omega (arith, one.faults, two.faults);
  refused =
      if_err result (λ fault. StopsBefore t g b (Rose m n) fault) (λ fault. StopsBefore s f (a ++ b) (Rose l n) fault)
      (λ fault stops. stops_then s t f g a b l m n fault one.faults one.same one.written stops) two.refused;
}

-- ---- a call of the writer of the text

-- what the call leaves
pub record TextCall (s : Inversion) (f g : Option Files) (q r : Reads) (m n : ℕ) : Type 0 where
  pub base : s.text.base ≡ s.base
  pub told : is_some g ≡ is_some f
  pub others : OthersStay s.text.base f g
  pub reads : SameReads q r
  pub faults : m ≤ n

-- it refused
pub text_refused : {s : Inversion} {w : TextWriting} {marks : List Mark} {e : PutErr} {fault : Fault} {f g : Option Files} {q r : Reads} {m n : ℕ} →
    TextCall s f g q r m n → HasPutCause {T = Unit {0}} m n (Err e) → fault ≡ fault_of_store e →
    PassStep s (record { base = s.base; plan = s.plan; text = w; index = s.index; doc = s.doc; left = s.left }) marks (Err fault) f g q r m n
text_refused {s} {e = e} {fault = fault} {f = f} {g = g} call cause is = record {
  written = tt;
  same = record { base = refl; plan = refl; limit = refl };
  wrote = text_wrote s.base s.text.base f g call.base call.told call.others;
  reads = call.reads;
  faults = call.faults;
  refused = record {
    cause = λ met collection written front. stops_store _ _ e fault is cause.failed;
    tells = λ met collection written front. tells_store s.plan collection e fault is;
  };
}

-- the marks stand behind the others
pub text_done : {s t : Inversion} {marks : List Mark} {x : Unit {0}} {f g : Option Files} {q r : Reads} {m n : ℕ} →
    TextCall s f g q r m n → SamePass s t → WroteMarks s t f g marks → PassStep s t marks (Ok x) f g q r m n
text_done {s} {f = f} {g = g} call same wrote = record {
  written = wrote;
  same = same;
  wrote = text_wrote s.base s.text.base f g call.base call.told call.others;
  reads = call.reads;
  faults = call.faults;
  refused = tt;
}
