-- A set that is being written, from step to step.
use Rattle.std.proofs.Common.{append-nil, arith, ◌≡◌, ◌<◌, ◌^◌, ◌+◌, ◌-◌, ◌∙◌, inr, ℕ, List, [], ◌∷◌, ◌++◌, length, length-append, replicate, refl, sym, ap, subst, IsSome, is_some, Some, Ok, Err}
use Rattle.std.proofs.lemmas.List.{append_assoc}
use Rattle.std.specs.declared.option.Option.{Option}
use Rattle.mg_dev.specs.Causes.{Rose}
use Rattle.mg_dev.specs.declared.fault.Fault.{Fault}
use Rattle.mg_dev.specs.declared.part.Part.TheVariants.{Head, Plain}
use Rattle.mg_dev.specs.Files.{Files, Reads, file_at}
use Rattle.mg_dev.specs.Names.{full_name}
use Rattle.mg_defs.specs.Marks.{Mark, marks}
use Rattle.mg_model.specs.Models.{PartsHold}
use Rattle.mg_make.specs.Finishing.{budget_of}
use Rattle.mg_make.specs.Fronts.{IsFrontOf}
use Rattle.mg_count.specs.Plans.{IsPlanOf, Plan}
use Rattle.mg_make.specs.Putting.{HasPut, IsUnbuilt, OfPass, OthersSame, Putting}
use Rattle.mg_count.specs.Scanning.{HasMet, Scanning}
use Rattle.mg_make.specs.Second.{HasWritten, Inversion, IsNext, SamePass, StopsBefore, WroteMarks}
use Rattle.mg_make.specs.SetSteps.{ByteStep}
use Rattle.mg_make.specs.Steps.{PassStep}
use Rattle.mg_index.specs.Written.{WroteParts}
use Rattle.mg_make.specs.Changes.{TellsChange}
use Rattle.mg_make.specs.Written.{SecondStops, WroteSecond}
use Rattle.mg_count.proofs.CallerLemmas.{marks-go_on}
use Rattle.mg_make.proofs.SetFrames.{head_of_second, kept, models_of_second, others_kept, others_of_second, pass_from}

-- the view of a writer with these parts
abbrev pub writing : List ℕ → Plan → ℕ → List ℕ → ℕ → Scanning → Inversion → Putting
writing base plan limit sums size scanning pass = record { base = base; plan = plan; limit = limit; scanning = scanning; pass = pass; sums = sums; size = size }

-- ---- the start

pub put_nothing : (base : List ℕ) (plan : Plan) (limit : ℕ) (sums : List ℕ) (scanning : Scanning) (pass : Inversion) (f g h : Option Files) →
    HasMet scanning [] [] → HasWritten pass h [] → pass.base ≡ base → pass.plan ≡ plan → budget_of pass ≡ limit
    → is_some g ≡ is_some f → (IsSome f → file_at g (full_name base Head) ≡ Some []) → WroteParts OfPass base g h → (IsSome g → PartsHold h base plan.code) → sums ≡ replicate (length plan.pairs) 0
    → HasPut (writing base plan limit sums 0 scanning pass) h []
put_nothing base plan limit sums scanning pass f g h scanned written base_is plan_is limit_is told gone wrote models sums_are = record {
  met = [];
  scanned = scanned;
  written = written;
  base_is = base_is;
  plan_is = plan_is;
  limit_is = limit_is;
  head = λ is. kept OfPass base g h Head (λ q of n. omega (arith, n, (pass_from q of).0)) wrote ∙ gone (sym told ∙ sym wrote.told ∙ is);
  models = λ is. models (sym wrote.told ∙ is);
  sums_are = sums_are;
  size_is = refl;
}

-- what stands where the head was emptied and parts were written
pub unbuilt_behind : (base : List ℕ) (f g h : Option Files) → (IsSome f → file_at g (full_name base Head) ≡ Some []) → WroteParts OfPass base g h → IsUnbuilt base f h
unbuilt_behind base f g h gone wrote = inr (λ told. kept OfPass base g h Head (λ q of n. omega (arith, n, (pass_from q of).0)) wrote ∙ gone told)

pub head_others : (base : List ℕ) (f g : Option Files) → WroteParts (λ p. p ≡ Head) base f g → OthersSame base f g
head_others base f g wrote = record { told = wrote.told; others = λ name apart. wrote.others name (λ q is e. apart q (λ plain. other (sym is ∙ plain)) e) }
  where
    other : Head ≡ Plain → ⊥
    other same = cc

pub pass_others : (base : List ℕ) (f g : Option Files) → WroteParts OfPass base f g → OthersSame base f g
pass_others base f g wrote = others_kept OfPass base f g (λ q of. (pass_from q of).1) wrote

-- ---- a byte

-- the bytes so far begin with the marks that were met in them
pub front_met : (s : Scanning) (fed : List ℕ) (met : List Mark) → HasMet s fed met → length fed < 2 ^ 32 → IsFrontOf met fed
front_met s fed met scanned few = front (marks-go_on s fed met scanned [])
  where
    front : (rest : List Mark) × (marks (fed ++ []) ≡ met ++ rest) → IsFrontOf met fed
    front go = record { after = go.0; whole = ap marks (sym (append-nil fed)) ∙ go.1; few = few }

-- and so do they with whatever follows
pub front_more : (s : Scanning) (fed more : List ℕ) (met : List Mark) → HasMet s fed met → length (fed ++ more) < 2 ^ 32 → IsFrontOf met (fed ++ more)
front_more s fed more met scanned few = front (marks-go_on s fed met scanned more)
  where
    front : (rest : List Mark) × (marks (fed ++ more) ≡ met ++ rest) → IsFrontOf met (fed ++ more)
    front go = record { after = go.0; whole = go.1; few = few }

module _ (w : Putting) (scanned : Scanning) (new : Inversion) (f g : Option Files) (run : List ℕ) (next : List Mark)
    (takes : (fed : List ℕ) (met : List Mark) → HasMet w.scanning fed met → HasMet scanned (fed ++ run) (met ++ next)) where
  -- the marks that some bytes more give come next
  pub next_marks : (fed : List ℕ) → HasPut w f fed → length fed + length run < 2 ^ 32 → IsNext w.pass f next
  next_marks fed put few = record {
    met = put.met;
    collection = fed ++ run;
    written = put.written;
    front = front_met scanned (fed ++ run) (put.met ++ next) (takes fed put.met put.scanned) (omega (arith, few, length-append fed run));
  }

  pub put_more : (fed : List ℕ) (count : ℕ) → length run ≡ count → WroteMarks w.pass new f g next → SamePass w.pass new → WroteSecond w.pass.base f g →
      HasPut w f fed → HasPut (writing w.base w.plan w.limit w.sums (w.size + count) scanned new) g (fed ++ run)
  put_more fed count long wrote same only put =
      let second : WroteSecond w.base f g = subst (λ b. WroteSecond b f g) put.base_is only in
      record {
        met = put.met ++ next;
        scanned = takes fed put.met put.scanned;
        written = wrote.behind put.met put.written;
        base_is = same.base ∙ put.base_is;
        plan_is = same.plan ∙ put.plan_is;
        limit_is = same.limit ∙ put.limit_is;
        head = λ is. head_of_second w.base f g second ∙ put.head (sym second.told ∙ is);
        models = λ is. models_of_second w.base f g w.plan.code second (put.models (sym second.told ∙ is));
        sums_are = put.sums_are;
        size_is = omega (arith, put.size_is, long, length-append fed run);
      }

  -- the head stays empty, and other files stay
  pub put_head : (fed : List ℕ) → WroteSecond w.pass.base f g → HasPut w f fed → IsSome f → file_at g (full_name w.base Head) ≡ Some []
  put_head fed only put told = head_of_second w.base f g (subst (λ b. WroteSecond b f g) put.base_is only) ∙ put.head told

  pub put_others : (fed : List ℕ) → WroteSecond w.pass.base f g → HasPut w f fed → OthersSame w.base f g
  put_others fed only put = others_of_second w.base f g (subst (λ b. WroteSecond b f g) put.base_is only)

  -- the marks up to these bytes begin those of all bytes
  front_there : (fed more : List ℕ) (put : HasPut w f fed) → length (fed ++ (run ++ more)) < 2 ^ 32 → IsFrontOf (put.met ++ next) (fed ++ (run ++ more))
  front_there fed more put few =
      let all : (fed ++ run) ++ more ≡ fed ++ (run ++ more) = append_assoc fed run more in
      subst (λ bytes. IsFrontOf (put.met ++ next) bytes) all
      (front_more scanned (fed ++ run) more (put.met ++ next) (takes fed put.met put.scanned)
      (subst (λ bytes. length bytes < 2 ^ 32) (sym all) few))

  -- why they are not written
  pub put_stops : (rose : Type 0) (fault : Fault) (fed more : List ℕ) → StopsBefore w.pass f next rose fault →
      HasPut w f fed → length (fed ++ (run ++ more)) < 2 ^ 32 →
      SecondStops rose (IsPlanOf w.plan (fed ++ (run ++ more))) fault
  put_stops rose fault fed more stops put few =
      subst (λ p. SecondStops rose (IsPlanOf p (fed ++ (run ++ more))) fault) put.plan_is
      (stops.cause put.met (fed ++ (run ++ more)) put.written (front_there fed more put few))

  -- and what the refusal tells
  pub put_tells : (rose : Type 0) (fault : Fault) (fed more : List ℕ) → StopsBefore w.pass f next rose fault →
      HasPut w f fed → length (fed ++ (run ++ more)) < 2 ^ 32 → TellsChange w.plan (fed ++ (run ++ more)) fault
  put_tells rose fault fed more stops put few =
      subst (λ p. TellsChange p (fed ++ (run ++ more)) fault) put.plan_is
      (stops.tells put.met (fed ++ (run ++ more)) put.written (front_there fed more put few))

-- ---- a byte, to each of its two ends

pub byte_done : {w : Putting} {scanned : Scanning} {pass : Inversion} {byte : ℕ} {next : List Mark} {x : Unit {0}} {f g : Option Files} {q r : Reads} {m n : ℕ} →
    ((fed : List ℕ) (met : List Mark) → HasMet w.scanning fed met → HasMet scanned (fed ++ byte ∷ []) (met ++ next)) → (fed : List ℕ) → HasPut w f fed →
    PassStep w.pass pass next (Ok x) f g q r m n → ByteStep w (writing w.base w.plan w.limit w.sums (w.size + 1) scanned pass) byte (Ok x) f g q r m n
byte_done {w} {scanned} {pass} {byte} {next} {f = f} {g = g} takes fed put step = record {
  put = λ fed put. put_more w scanned pass f g (byte ∷ []) next takes fed 1 refl step.written step.same step.wrote put;
  base = refl;
  plan = refl;
  limit = refl;
  head = put_head w scanned pass f g (byte ∷ []) next takes fed step.wrote put;
  others = put_others w scanned pass f g (byte ∷ []) next takes fed step.wrote put;
  reads = step.reads;
  later = step.faults;
  refused = tt;
  tells = tt;
}

pub byte_refused : {w : Putting} {scanned : Scanning} {pass : Inversion} {byte : ℕ} {next : List Mark} {fault : Fault} {f g : Option Files} {q r : Reads} {m n : ℕ} →
    ((fed : List ℕ) (met : List Mark) → HasMet w.scanning fed met → HasMet scanned (fed ++ byte ∷ []) (met ++ next)) → (fed : List ℕ) → HasPut w f fed →
    PassStep w.pass pass next (Err fault) f g q r m n → ByteStep w (writing w.base w.plan w.limit w.sums w.size scanned pass) byte (Err fault) f g q r m n
byte_refused {w} {scanned} {pass} {byte} {next} {fault} {f} {g} {m = m} {n = n} takes fed put step = record {
  put = tt;
  base = refl;
  plan = refl;
  limit = refl;
  head = put_head w scanned pass f g (byte ∷ []) next takes fed step.wrote put;
  others = put_others w scanned pass f g (byte ∷ []) next takes fed step.wrote put;
  reads = step.reads;
  later = step.faults;
  refused = λ fed more put few. put_stops w scanned pass f g (byte ∷ []) next takes (Rose m n) fault fed more step.refused put few;
  tells = λ fed more put few. put_tells w scanned pass f g (byte ∷ []) next takes (Rose m n) fault fed more step.refused put few;
}
