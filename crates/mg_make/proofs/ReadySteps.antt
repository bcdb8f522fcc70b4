-- What stands before the head is appended, and behind it.
use Rattle.std.proofs.Common.{arith, ◌≡◌, ◌≤◌, ◌<◌, ◌^◌, ◌⊎◌, ◌∙◌, inl, inr, ℕ, List, length, refl, ap, subst, Ok, Err, IsSome}
use Rattle.std.specs.Prelude.{IfErr, OnOk, Result}
use Rattle.std.specs.declared.option.Option.{Option}
use Rattle.mg_dev.specs.declared.part.Part.{Part}
use Rattle.mg_dev.specs.declared.fault.Fault.{Fault}
use Rattle.mg_dev.specs.declared.part.Part.TheVariants.{Head, Nonwords, Places, Run, Text, Words}
use Rattle.mg_dev.specs.Causes.{Rose}
use Rattle.mg_dev.specs.Files.{Files, Reads, bytes_at, file_at}
use Rattle.mg_dev.specs.Names.{full_name, number}
use Rattle.mg_defs.specs.Bits.{Bits, as_bytes}
use Rattle.mg_defs.specs.CodedText.{TextCode, text_part}
use Rattle.mg_defs.specs.Marks.{marks}
use Rattle.mg_defs.specs.Occurrences.{occurrences}
use Rattle.mg_defs.specs.RunBits.{run_part_bits}
use Rattle.mg_defs.specs.Summaries.{run_cap}
use Rattle.mg_layout.specs.declared.head.Head as layout
use Rattle.mg_text_writer.specs.Documents.{TextHolds, coded_docs}
use Rattle.mg_text_writer.specs.Writing.{DocumentsStand, text_bytes}
use Rattle.mg_make.specs.Changes.{TellsAtEnd, TellsChange}
use Rattle.mg_make.specs.Finishing.{budget_of}
use Rattle.mg_make.specs.Index.{IndexStands, OfIndex}
use Rattle.mg_index.specs.Listing.{ListStops}
use Rattle.mg_count.specs.Plans.{IsPlanOf, Plan}
use Rattle.mg_make.specs.Putting.{ForScanned, HandsFor, HasPut, IsHanded, IsReady, OthersSame, PlanStops, Putting}
use Rattle.mg_make.specs.Second.{coded_by, occurring_by}
use Rattle.mg_make.specs.SetSteps.{PartsStep, RestStep}
use Rattle.mg_make.specs.Steps.{SortStep}
use Rattle.mg_index.specs.Written.{WroteParts}
use Rattle.mg_make.specs.Written.{OfSecond, WroteSecond}
use Rattle.mg_make.specs.declared.inverter.Inverted.{Inverted}
use Rattle.mg_make.proofs.Finishing.{planned_occurrences, planned_text}
use Rattle.mg_make.proofs.CallerLemmas.{others_more, rose_behind}
use Rattle.mg_index.proofs.CallerLemmas.{stops_for}
use Rattle.mg_make.proofs.SetFrames.{bytes_kept, head_of_second, index_from, kept, models_of_second, others_kept, others_of_second}

-- the laws of text that a caller takes from mg_text_writer
pub record TextLaws : Type 0 where
  pub text : (code : TextCode) (collection : List ℕ) → text_bytes (coded_docs code collection) ≡ text_part code collection
  pub holds : (base : List ℕ) (files : Option Files) (code : TextCode) (collection : List ℕ) → DocumentsStand base files (coded_docs code collection) → TextHolds base files code collection
  pub bytes : (base : List ℕ) (files : Option Files) (docs : List Bits) → DocumentsStand base files docs → bytes_at files (full_name base Text) ≡ text_bytes docs

module _ (laws : TextLaws) (w : Putting) (fed : List ℕ) (f g h : Option Files) (r : Inverted) (put : HasPut w f fed) (told : IsSome f) (plan_of : IsPlanOf w.plan fed)
    (second : WroteSecond w.base f g) (handed : IsHanded w.plan w.limit w.base fed f g r) (wrote : WroteParts OfIndex w.base g h) where
  documents_stand : DocumentsStand w.base g (coded_docs w.plan.code fed)
  documents_stand = subst (λ docs. DocumentsStand w.base g docs) (planned_text w.plan fed plan_of)
      (subst (λ (p : Plan). DocumentsStand w.base g (coded_by p (marks fed))) handed.plan_is
      (subst (λ b. DocumentsStand b g (coded_by handed.pass.plan (marks fed))) handed.base_is (handed.ends.text (handed.told ∙ told))))

  run_stands : bytes_at g (full_name w.base Run) ≡ as_bytes (run_part_bits (run_cap w.limit) (occurrences fed))
  run_stands = subst (λ b. bytes_at g (full_name b Run) ≡ as_bytes (run_part_bits (run_cap w.limit) (occurrences fed))) handed.base_is
      (handed.ends.run (handed.told ∙ told)
      ∙ ap (λ (p : Plan). as_bytes (run_part_bits (run_cap (budget_of handed.pass)) (occurring_by p (marks fed)))) handed.plan_is
      ∙ ap (λ n. as_bytes (run_part_bits (run_cap n) (occurring_by w.plan (marks fed)))) handed.limit_is
      ∙ ap (λ os. as_bytes (run_part_bits (run_cap w.limit) os)) (planned_occurrences w.plan fed plan_of))

  -- a part below the fifth, and Run, are as they were
  behind : (p : Part) → (number p ≤ 4) ⊎ (number p ≡ 10) → bytes_at h (full_name w.base p) ≡ bytes_at g (full_name w.base p)
  behind p (inl low) = bytes_kept g h _ (kept OfIndex w.base g h p (λ q of is. omega (arith, is, low, (index_from q of).0)) wrote)
  behind p (inr ten) = bytes_kept g h _ (kept OfIndex w.base g h p (λ q of is. absurd ((index_from q of).2 (is ∙ ten))) wrote)

  pub ready_by : IndexStands h w.base fed → IsReady (run_cap w.limit) h w.base w.plan.code fed
  ready_by index =
      let models = models_of_second w.base f g w.plan.code second (put.models told) in
      record {
        limits = plan_of.limits;
        code_is = plan_of.code;
        words = behind Words (inl (omega arith)) ∙ models.words;
        nonwords = behind Nonwords (inl (omega arith)) ∙ models.others;
        text = behind Text (inl (omega arith)) ∙ laws.bytes w.base g _ documents_stand ∙ laws.text w.plan.code fed;
        places = behind Places (inl (omega arith)) ∙ (laws.holds w.base g w.plan.code fed documents_stand).places;
        run = behind Run (inr refl) ∙ run_stands;
        index = index;
      }

-- ---- from step to step

pub put_few : (w : Putting) (f : Option Files) (fed some : List ℕ) → HasPut w f fed → HasPut w f some → length some < 2 ^ 32 → length fed < 2 ^ 32
put_few w f fed some put other few = omega (arith, put.size_is, other.size_is, few)

pub handed_for : (p q : Plan) (l m : ℕ) (a b fed : List ℕ) (f g : Option Files) (r : Inverted) → p ≡ q → l ≡ m → a ≡ b → IsHanded p l a fed f g r → IsHanded q m b fed f g r
handed_for p q l m a b fed f g r one two three handed = subst (λ x. IsHanded x m b fed f g r) one (subst (λ x. IsHanded p x b fed f g r) two (subst (λ x. IsHanded p l x fed f g r) three handed))

pub index_others : (base : List ℕ) (f g : Option Files) → WroteParts OfIndex base f g → OthersSame base f g
index_others base f g wrote = others_kept OfIndex base f g (λ q of. (index_from q of).1) wrote

pub head_of_index : (base : List ℕ) (f g : Option Files) → WroteParts OfIndex base f g → file_at g (full_name base Head) ≡ file_at f (full_name base Head)
head_of_index base f g wrote = kept OfIndex base f g Head (λ q of is. omega (arith, is, (index_from q of).0)) wrote

-- ---- why it stops

-- of the parts behind the second pass, for the bytes that were put
pub rest_refused : {T : Type 0} (result : Result T Fault) (w : Putting) (f g : Option Files) (r : Inverted) (rose now : Type 0) → (rose → now) →
    (IsSome f → IsSome g) → ((fed : List ℕ) → HasPut w f fed → IsHanded w.plan w.limit w.base fed f g r)
    → IfErr result (λ fault. (fed : List ℕ) (before : Option Files) → IsHanded w.plan w.limit w.base fed before g r → ListStops rose (IsSome g × IsPlanOf w.plan fed) fault)
    → IfErr result (λ fault. (fed : List ℕ) → HasPut w f fed → ListStops now (IsSome f × IsPlanOf w.plan fed) fault)
rest_refused (Ok value) w f g r rose now grows still handed stop = tt
rest_refused (Err fault) w f g r rose now grows still handed stop = λ fed put. stops_for fault grows (λ both. (still both.0, both.1)) (stop fed f (handed fed put))

-- and what a change tells there
rest_tells : {T : Type 0} (result : Result T Fault) (w : Putting) (f g : Option Files) (r : Inverted) →
    ((fed : List ℕ) → HasPut w f fed → IsHanded w.plan w.limit w.base fed f g r)
    → IfErr result (λ fault. (fed : List ℕ) (before : Option Files) → IsHanded w.plan w.limit w.base fed before g r → TellsAtEnd w.plan fed fault)
    → IfErr result (λ fault. (fed : List ℕ) → HasPut w f fed → TellsAtEnd w.plan fed fault)
rest_tells (Ok value) w f g r handed tells = tt
rest_tells (Err fault) w f g r handed tells = λ fed put. tells fed f (handed fed put)

pub ready_all : {T : Type 0} (result : Result T Fault) (w : Putting) (fed : List ℕ) (h : Option Files) → OnOk result (IndexStands h w.base fed) →
    (IndexStands h w.base fed → IsReady (run_cap w.limit) h w.base w.plan.code fed) → OnOk result (IsReady (run_cap w.limit) h w.base w.plan.code fed)
ready_all (Ok value) w fed h stands by = by stands
ready_all (Err fault) w fed h stands by = tt

-- ---- all parts but the head, to each of the two ends

-- what the pass handed on for the bytes that were put
pub handed_put : {w : Putting} {inverted : Inverted} {f g : Option Files} (some : List ℕ) → HasPut w f some → length some < 2 ^ 32 →
    ForScanned w.scanning w.pass f (HandsFor {E = Fault} w.pass f g (Ok inverted)) → (fed : List ℕ) → HasPut w f fed → IsHanded w.plan w.limit w.base fed f g inverted
handed_put {w} {inverted} {f} {g} some first few hands fed put = handed_for w.pass.plan w.plan (budget_of w.pass) w.limit w.pass.base w.base fed f g inverted put.plan_is put.limit_is put.base_is
    (hands fed put.met put.scanned put.written (put_few w f fed some put first few))

-- the pass is not ended
pub parts_refused : {w : Putting} {fault : Fault} {f g : Option Files} {q r : Reads} {m n : ℕ} (some : List ℕ) → HasPut w f some → length some < 2 ^ 32 →
    SortStep OfSecond w.pass.base f g q r m n → ForScanned w.scanning w.pass f (PlanStops (Rose m n) w.pass.plan f fault) →
    ForScanned w.scanning w.pass f (λ fed. TellsChange w.pass.plan fed fault) → PartsStep w (Err fault) f g q r m n
parts_refused {w} {fault} {f} {g} {m = m} {n = n} some first few step stops tells =
    let second : WroteSecond w.base f g = subst (λ b. WroteSecond b f g) first.base_is step.wrote in
    record {
      ready = λ fed told put plan_of. tt;
      within = tt;
      head = λ fed told put plan_of. tt;
      peak = λ fed put plan_of. tt;
      gone = λ told. head_of_second w.base f g second ∙ first.head told;
      others = others_of_second w.base f g second;
      reads = step.reads;
      later = step.later;
      refused = λ fed put. subst (λ p. ListStops (Rose m n) (IsSome f × IsPlanOf p fed) fault) put.plan_is
          (stops fed put.met put.scanned put.written (put_few w f fed some put first few));
      tells = λ fed put. inl (subst (λ p. TellsChange p fed fault) put.plan_is
          (tells fed put.met put.scanned put.written (put_few w f fed some put first few)));
    }

-- it is, and what follows it is written or not
pub parts_behind : {w : Putting} {inverted : Inverted} {result : Result (layout.Head × ℕ) Fault} {f g h : Option Files} {q r v : Reads} {l m n : ℕ} → TextLaws →
    (some : List ℕ) → HasPut w f some → length some < 2 ^ 32 → SortStep OfSecond w.pass.base f g q r l m →
    ForScanned w.scanning w.pass f (HandsFor {E = Fault} w.pass f g (Ok inverted)) → RestStep w.plan w.limit w.size w.base inverted result g h r v m n →
    PartsStep w result f h q v l n
parts_behind {w} {inverted} {result} {f} {g} {h} {l = l} {m = m} {n = n} laws some first few step hands rest =
    let second : WroteSecond w.base f g = subst (λ b. WroteSecond b f g) first.base_is step.wrote in
    let handed = handed_put {w = w} {inverted = inverted} {f = f} {g = g} some first few hands in
    record {
      ready = λ fed told put plan_of. ready_all result w fed h (rest.stand fed f (handed fed put) (second.told ∙ told) plan_of)
          (ready_by laws w fed f g h inverted put told plan_of second (handed fed put) rest.step.wrote);
      within = rest.within;
      head = λ fed told put plan_of. rest.head fed f (handed fed put) put.size_is (second.told ∙ told) plan_of;
      peak = λ fed put plan_of. rest.peak fed f (handed fed put) plan_of;
      gone = λ told. head_of_index w.base g h rest.step.wrote ∙ head_of_second w.base f g second ∙ first.head told;
      others = others_more w.base f g h (others_of_second w.base f g second) (index_others w.base g h rest.step.wrote);
      reads = λ p run first second. rest.step.reads p run first second ∙ step.reads p run first second;
      later = omega (arith, step.later, rest.step.later);
      refused = rest_refused result w f g inverted (Rose m n) (Rose l n) (λ rose. rose_behind l m n step.later rose) (λ told. second.told ∙ told) handed rest.refused;
      tells = rest_tells result w f g inverted handed rest.tells;
    }
