-- What the second pass ends with, and why it does not.
use Rattle.std.proofs.Common.{inr, ◌≡◌, ◌≤◌, ◌<◌, ℕ, false, Err, List, [], refl, sym, ap, ◌∙◌, subst, length, arith, IsSome, is_some, unwrap_or}
use Rattle.std.specs.declared.option.Option.{Option}
use Rattle.mg_dev.specs.Causes.{Rose}
use Rattle.mg_dev.specs.Faults.{fault_of_part}
use Rattle.mg_dev.specs.Files.{Files, bytes_at}
use Rattle.mg_dev.specs.Names.{full_name}
use Rattle.mg_dev.specs.declared.fault.Fault.{Fault}
use Rattle.mg_dev.specs.declared.fault.Fault.TheVariants.{Changed, Memory, StoreFault}
use Rattle.mg_dev.specs.declared.what.What.TheVariants as what
use Rattle.mg_dev.specs.PartCauses.{HasPartCause}
use Rattle.mg_dev.specs.declared.part.Part.TheVariants.{Places, Run, Text}
use Rattle.mg_dev.specs.declared.part_err.PartErr.{PartErr}
use Rattle.mg_dev.specs.declared.part_err.PartErr.TheVariants as part_err
use Rattle.mg_defs.specs.Bits.{Bits, bits_of}
use Rattle.mg_defs.specs.Marks.{Mark, coded_from, marks, terms_from}
use Rattle.mg_defs.specs.Occurrences.{occurrences}
use Rattle.mg_laws.proofs.MarkLaws.{marks_are_closed, marks_have_occurrences, marks_have_text}
use Rattle.mg_runs.specs.Cursors.{NoDamage}
use Rattle.mg_runs.specs.Fed.{IsFed}
use Rattle.mg_runs.specs.Left.{Merging}
use Rattle.mg_text_writer.specs.Documents.{coded_docs}
use Rattle.mg_text_writer.specs.Writing.{DocumentsStand, IsOnText, text_bytes}
use Rattle.mg_count.specs.DocCounting.{AreDocCounts, DocCounting}
use Rattle.mg_make.specs.Changes.{TellsChange}
use Rattle.mg_make.specs.Finishing.{EndsWith, IsMergeOf}
use Rattle.mg_make.specs.Indexes.{Indexing, OfRuns}
use Rattle.mg_count.specs.Plans.{IsPlanOf, Plan}
use Rattle.mg_make.specs.Second.{FinishStops, HasWritten, Inversion, IsWhole, coded_by, occurring_by}
use Rattle.mg_index.specs.Written.{WroteParts}
use Rattle.mg_make.specs.Written.{SecondStops}
use Rattle.mg_make.proofs.CallerLemmas.{rose_behind}
use Rattle.mg_make.proofs.Frames.{OthersStay, RunsStay, index_kept, places_file_kept, text_file_kept}
use Rattle.mg_make.proofs.MarkFronts.{all_documents}
use Rattle.mg_make.proofs.SecondSteps.{none_open}
use Rattle.mg_make.specs.declared.inverter.Inverted.{Inverted}

-- ---- content

pub whole_is_closed : (s : Inversion) (files : Option Files) → IsWhole s files → s.text.is_open ≡ false
whole_is_closed s files whole = whole.written.is_open ∙ marks_are_closed whole.collection

pub documents_kept : (base own : List ℕ) (g h : Option Files) (docs : List Bits) → own ≡ base → WroteParts OfRuns own g h → DocumentsStand base g docs → DocumentsStand base h docs
documents_kept base own g h docs same wrote stand =
    let here : WroteParts OfRuns base g h = subst (λ (b : List ℕ). WroteParts OfRuns b g h) same wrote in
    let text : bytes_at h (full_name base Text) ≡ bytes_at g (full_name base Text) = ap (λ o. unwrap_or o []) (text_file_kept base g h here) in
    let places : bytes_at h (full_name base Places) ≡ bytes_at g (full_name base Places) = ap (λ o. unwrap_or o []) (places_file_kept base g h here) in
    subst (λ (b : List ℕ). DocumentsStand b h docs) refl (record { text = ap bits_of text ∙ stand.text; bytes = text ∙ stand.bytes; places = places ∙ stand.places })

-- what both writers did
pub record Finished (s : Inversion) (f g h : Option Files) (size : ℕ) (merge : Merging) (index : Indexing) : Type 0 where
  pub told : is_some g ≡ is_some f
  pub others : OthersStay s.text.base f g
  pub stands : (docs : List Bits) → IsOnText s.text f docs [] → IsSome f → DocumentsStand s.text.base g docs
  pub answer : (docs : List Bits) → IsOnText s.text f docs [] → size ≡ length (text_bytes docs)
  pub wrote : WroteParts OfRuns index.runs.base g h
  pub merged : (fed : List (ℕ × ℕ)) → IsFed index.runs g fed → IsMergeOf index.runs g h merge fed

ends_by : (s : Inversion) (met : List Mark) (f g h : Option Files) (size : ℕ) (merge : Merging) → s.text.is_open ≡ false → length s.plan.pairs ≤ s.doc →
    RunsStay → Finished s f g h size merge s.index → HasWritten s f met →
    EndsWith s met f h (record { text_bytes = size; merge = merge; counts = s.index.counts; occurrences = s.index.occurrences })
ends_by s met f g h size merge closed all stay done is =
    let on : IsOnText s.text f (coded_by s.plan met) [] = none_open s f met closed is in
    let fed : List (ℕ × ℕ) = occurring_by s.plan met in
    let taken = index_kept stay s.index s.text.base f g (length s.plan.terms.terms) fed (is.text_base ∙ sym is.runs_base) done.told done.others is.index in
    let it = done.merged fed taken.runs in
    record {
      documents = omega (arith, is.doc, is.within);
      text = λ t. documents_kept s.base s.index.runs.base g h (coded_by s.plan met) is.runs_base done.wrote
          (subst (λ (b : List ℕ). DocumentsStand b g (coded_by s.plan met)) is.text_base (done.stands (coded_by s.plan met) on t));
      size = done.answer (coded_by s.plan met) on;
      run = λ t. ap (λ b. bytes_at h (full_name b Run)) (sym is.runs_base) ∙ it.run (done.told ∙ t);
      merge = it.left;
      base = it.base ∙ is.runs_base;
      runs = it.runs;
      peak = it.peak;
      counts = is.index.counts;
      occurrences = is.index.occurrences;
    }

pub ends_with : (s : Inversion) (met : List Mark) (f g h : Option Files) (size : ℕ) (merge : Merging) (index : Indexing) → index ≡ s.index →
    s.text.is_open ≡ false → length s.plan.pairs ≤ s.doc → RunsStay → Finished s f g h size merge index → HasWritten s f met
    → EndsWith s met f h (record { text_bytes = size; merge = merge; counts = index.counts; occurrences = index.occurrences })
ends_with s met f g h size merge index same closed all stay done is =
    subst (λ (i : Indexing). Finished s f g h size merge i → EndsWith s met f h (record { text_bytes = size; merge = merge; counts = i.counts; occurrences = i.occurrences })) (sym same)
    (λ it. ends_by s met f g h size merge closed all stay it is) done

-- whatever hands on what the runs were merged to, behind a text of this size
pub ends_all : (s : Inversion) (met : List Mark) (f g h : Option Files) (size : ℕ) (index : Indexing) (r : Inverted) → index ≡ s.index →
    r.text_bytes ≡ size → r.counts ≡ index.counts → r.occurrences ≡ index.occurrences → s.text.is_open ≡ false → length s.plan.pairs ≤ s.doc → RunsStay →
    Finished s f g h size r.merge index → HasWritten s f met → EndsWith s met f h r
ends_all s met f g h size index r same bytes counts occurrences closed all stay done is =
    let it = ends_with s met f g h size r.merge index same closed all stay done is in
    record {
      documents = it.documents;
      text = it.text;
      size = bytes ∙ it.size;
      run = it.run;
      merge = it.merge;
      base = it.base;
      runs = it.runs;
      peak = it.peak;
      counts = subst (λ (c : DocCounting). AreDocCounts c (length s.plan.terms.terms) (occurring_by s.plan met)) (sym counts) it.counts;
      occurrences = occurrences ∙ it.occurrences;
    }

-- ---- the plan of a collection

-- by the plan of a collection the text is the collection's, and so are the occurrences
pub planned_text : (p : Plan) (collection : List ℕ) → IsPlanOf p collection → coded_by p (marks collection) ≡ coded_docs p.code collection
planned_text p collection of = ap (λ ns. coded_from p.code ns [] (marks collection)) of.pairs ∙ marks_have_text p.code collection

pub planned_occurrences : (p : Plan) (collection : List ℕ) → IsPlanOf p collection → occurring_by p (marks collection) ≡ occurrences collection
planned_occurrences p collection of = ap (λ ts. terms_from ts 0 (marks collection)) of.terms ∙ marks_have_occurrences collection

-- ---- refusals

pub fewer_documents : (s : Inversion) (files : Option Files) (collection : List ℕ) → HasWritten s files (marks collection) → s.doc < length s.plan.pairs → ¬ IsPlanOf s.plan collection
fewer_documents s files collection is few of =
    let all = all_documents collection in
    let same = ap length of.pairs in
    omega (arith, all, same, is.doc)

-- and both numbers are told
pub tells_fewer_documents : (s : Inversion) (files : Option Files) (collection : List ℕ) (first second : ℕ) → HasWritten s files (marks collection) →
    s.doc < length s.plan.pairs → first ≡ length s.plan.pairs → second ≡ s.doc → TellsChange s.plan collection (Changed what.Documents first second)
tells_fewer_documents s files collection first second is few planned there =
    let all = all_documents collection in
    (planned, inr (omega (arith, all, is.doc, there), omega (arith, all, is.doc, few, planned)))

-- what stops the text stops the pass
pub finish_stops : (rose same told : Type 0) (fault : Fault) → SecondStops rose same fault → FinishStops rose same told fault
finish_stops rose same told StoreFault stops = stops
finish_stops rose same told Memory stops = tt
finish_stops rose same told (Changed what first second) stops = stops
finish_stops rose same told fault stops = absurd stops

-- and so does what stops the merge of the runs
pub finish_by_part : {T : Type 0} {l m n : ℕ} (same : Type 0) (f g : Option Files) (refusal : PartErr) (fault : Fault) → fault ≡ fault_of_part refusal → l ≤ m →
    HasPartCause {T = T} m n (Err refusal) → is_some g ≡ is_some f → (IsSome g → NoDamage {T = T} (Err refusal)) → FinishStops (Rose l n) same (IsSome f) fault
finish_by_part {l = l} {m = m} {n = n} same f g part_err.Device fault is less cause told sound = rw is (rose_behind l m n less cause.device)
finish_by_part same f g part_err.Memory fault is less cause told sound = rw is tt
finish_by_part same f g (part_err.Bad bad) fault is less cause told sound = rw is (λ t. sound (told ∙ t))

-- the merge tells no change
pub tells_part : (p : Plan) (collection : List ℕ) (refusal : PartErr) (fault : Fault) → fault ≡ fault_of_part refusal → TellsChange p collection fault
tells_part p collection part_err.Device fault is = rw is tt
tells_part p collection part_err.Memory fault is = rw is tt
tells_part p collection (part_err.Bad bad) fault is = rw is tt
