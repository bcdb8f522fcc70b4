-- A part that is compared with wanted bytes.
use Rattle.std.proofs.Common.{arith, ◌≡◌, ◌≤◌, ◌≢◌, ◌+◌, ◌++◌, ℕ, List, [], Ok, Err, IsSome, length, take, drop, sym, ap, subst, ◌∙◌, append_assoc, append-nil, length-append}
use Rattle.std.proofs.lemmas.List.{take_all}
use Rattle.std.proofs.Math.Seq.{drop-append_seam, take-add, take-append_seam}
use Rattle.std.specs.Prelude.{OnOk}
use Rattle.std.specs.declared.option.Option.{Option}
use Rattle.std.specs.declared.result.Result.{Result}
use Rattle.mg_dev.specs.Files.{Files, bytes_at}
use Rattle.mg_dev.specs.declared.part_err.PartErr.{PartErr}
use Rattle.mg_dev.specs.declared.part_err.PartErr.TheVariants.{Device, Memory, Bad}
use Rattle.mg_dev.specs.declared.part.Part.{Part}
use Rattle.mg_layout.specs.Contents.{AnswersBytes, StandAt}
use Rattle.mg_layout.specs.Sizes.{AnswersSize}
use Rattle.mg_check_index.specs.Counting.{Comparing, EndsElsewhere, EndsThere, GoesOnOtherwise, HasBegun, HasWeighed, Weighing, WeighsOtherwise}
use Rattle.mg_check_parts.specs.Refusals.{Refutes, WhereBad}

pub where_bad : {T : Type 0} (P Q : Type 0) (r : Result T PartErr) → (P → Q) → WhereBad P r → WhereBad Q r
where_bad P Q (Ok value) f p = tt
where_bad P Q (Err Device) f p = tt
where_bad P Q (Err Memory) f p = tt
where_bad P Q (Err (Bad bad)) f p = f p

-- ---- one comparison

-- the bytes that were compared are followed by these
stand_there : (at : ℕ) (done wanted rest bytes : List ℕ) → at ≡ length done → bytes ≡ done ++ (wanted ++ rest) → StandAt at wanted bytes
stand_there at done wanted rest bytes at_is is =
    ap (λ (b : List ℕ). take (length wanted) (drop at b)) is
    ∙ ap (λ n. take (length wanted) (drop n (done ++ (wanted ++ rest)))) at_is
    ∙ ap (λ (b : List ℕ). take (length wanted) b) (drop-append_seam done (wanted ++ rest))
    ∙ take-append_seam wanted rest

pub goes_on_otherwise : (refusal : PartErr) (c : Comparing) (files : Option Files) (wanted : List ℕ) →
    AnswersBytes c.at wanted (bytes_at files c.name) (Err refusal) → WhereBad {T = Unit {0}} (GoesOnOtherwise c files wanted) (Err refusal)
goes_on_otherwise Device c files wanted answer = tt
goes_on_otherwise Memory c files wanted answer = tt
goes_on_otherwise (Bad bad) c files wanted answer = λ done rest begun e. answer.0 (stand_there c.at done wanted rest (bytes_at files c.name) begun.at_is e)

-- the same by what a comparison refutes
pub goes_on_refuted : (refusal : PartErr) (c : Comparing) (files : Option Files) (wanted : List ℕ) → Refutes (StandAt c.at wanted (bytes_at files c.name)) refusal →
    WhereBad {T = Unit {0}} (GoesOnOtherwise c files wanted) (Err refusal)
goes_on_refuted Device c files wanted other = tt
goes_on_refuted Memory c files wanted other = tt
goes_on_refuted (Bad bad) c files wanted other = λ done rest begun e. other (stand_there c.at done wanted rest (bytes_at files c.name) begun.at_is e)

pub begun_more : (old new : Comparing) (f g : Option Files) (wanted : List ℕ) → new.name ≡ old.name → new.at ≡ old.at + length wanted → g ≡ f →
    (IsSome f → StandAt old.at wanted (bytes_at f old.name)) → (done : List ℕ) → HasBegun old f done → HasBegun new g (done ++ wanted)
begun_more old new f g wanted name at files stand done begun = record {
  at_is = at ∙ ap (λ n. n + length wanted) begun.at_is ∙ sym (length-append done wanted);
  begins = λ told.
      let told_then : IsSome f = subst (λ h. IsSome h) files told in
      let bytes = bytes_at f old.name in
      ap (λ h. take (length (done ++ wanted)) (bytes_at h new.name)) files
      ∙ ap (λ n. take (length (done ++ wanted)) (bytes_at f n)) name
      ∙ ap (λ n. take n bytes) (length-append done wanted)
      ∙ take-add (length done) (length wanted) bytes
      ∙ ap (λ (b : List ℕ). b ++ take (length wanted) (drop (length done) bytes)) (begun.begins told_then)
      ∙ ap (λ n. done ++ take (length wanted) (drop n bytes)) (sym begun.at_is)
      ∙ ap (λ (b : List ℕ). done ++ b) (stand told_then);
}

pub ends_there : (result : Result (Unit {0}) PartErr) (part : Part) (c : Comparing) (files : Option Files) → AnswersSize part c.at (bytes_at files c.name) result →
    IsSome files → OnOk result (EndsThere c files)
ends_there (Ok value) part c files long told = λ done begun.
    let whole : length (bytes_at files c.name) ≤ length done = omega (arith, long, begun.at_is) in
    sym (take_all (length done) (bytes_at files c.name) whole) ∙ begun.begins told
ends_there (Err refusal) part c files long told = tt

pub ends_elsewhere : (result : Result (Unit {0}) PartErr) (part : Part) (c : Comparing) (files : Option Files) → AnswersSize part c.at (bytes_at files c.name) result →
    WhereBad (EndsElsewhere c files) result
ends_elsewhere (Ok value) part c files answer = tt
ends_elsewhere (Err Device) part c files answer = tt
ends_elsewhere (Err Memory) part c files answer = tt
ends_elsewhere (Err (Bad bad)) part c files answer = λ done begun e. answer.0 (ap (λ (b : List ℕ). length b) e ∙ sym begun.at_is)

-- ---- what is held

-- what is held more
pub weighed_held : (old new : Weighing) (files : Option Files) (bytes more : List ℕ) → new.part ≡ old.part → new.held ≡ old.held ++ more →
    HasWeighed old files bytes → HasWeighed new files (bytes ++ more)
weighed_held old new files bytes more same held it = record {
  done = it.done;
  begun = subst (λ c. HasBegun c files it.done) (sym same) it.begun;
  all = ap (λ h. it.done ++ h) held ∙ sym (append_assoc it.done old.held more) ∙ ap (λ b. b ++ more) it.all;
}

-- where nothing is held, the part begins with all
pub weighed_all : (w : Weighing) (files : Option Files) (bytes : List ℕ) → w.held ≡ [] → HasWeighed w files bytes → HasBegun w.part files bytes
weighed_all w files bytes none it = subst (λ b. HasBegun w.part files b) (sym (append-nil it.done) ∙ ap (λ h. it.done ++ h) (sym none) ∙ it.all) it.begun

-- no rest
pub other_whole : (part bytes : List ℕ) → part ≢ bytes ++ [] → part ≢ bytes
other_whole part bytes other e = other (e ∙ sym (append-nil bytes))

pub other_more : (part bytes more rest : List ℕ) → part ≢ (bytes ++ more) ++ rest → part ≢ bytes ++ (more ++ rest)
other_more part bytes more rest other e = other (e ∙ sym (append_assoc bytes more rest))

-- where what is held differs, so does every list that begins with it
pub weighed_bad : {T : Type 0} (r : Result T PartErr) (old mid : Weighing) (files : Option Files) (more : List ℕ) → mid.part ≡ old.part →
    mid.held ≡ old.held ++ more → WhereBad ((bytes rest : List ℕ) → HasWeighed mid files bytes → bytes_at files mid.part.name ≢ bytes ++ rest) r →
    WhereBad ((bytes rest : List ℕ) → HasWeighed old files bytes → bytes_at files old.part.name ≢ bytes ++ (more ++ rest)) r
weighed_bad (Ok value) old mid files more same held bad = tt
weighed_bad (Err Device) old mid files more same held bad = tt
weighed_bad (Err Memory) old mid files more same held bad = tt
weighed_bad (Err (Bad b)) old mid files more same held bad = λ bytes rest it e.
    bad (bytes ++ more) rest (weighed_held old mid files bytes more same held it) (ap (λ c. bytes_at files c.name) same ∙ e ∙ sym (append_assoc bytes more rest))

pub weighed_other : {T : Type 0} (r : Result T PartErr) (w : Weighing) (files : Option Files) →
    WhereBad ((bytes rest : List ℕ) → HasWeighed w files bytes → bytes_at files w.part.name ≢ bytes ++ rest) r →
    WhereBad ((bytes : List ℕ) → HasWeighed w files bytes → bytes_at files w.part.name ≢ bytes) r
weighed_other (Ok value) w files bad = tt
weighed_other (Err Device) w files bad = tt
weighed_other (Err Memory) w files bad = tt
weighed_other (Err (Bad b)) w files bad = λ bytes it. other_whole (bytes_at files w.part.name) bytes (bad bytes [] it)

pub on_ok : {T E : Type 0} (P Q : Type 0) (r : Result T E) → (P → Q) → OnOk r P → OnOk r Q
on_ok P Q (Ok value) f p = f p
on_ok P Q (Err e) f p = tt

pub weighed_done : {T E : Type 0} (r : Result T E) (old new : Weighing) (part : Comparing) (f0 f1 : Option Files) → f1 ≡ f0 → part ≡ new.part → new.held ≡ [] →
    new.part.name ≡ old.part.name → ((bytes : List ℕ) → HasWeighed old f0 bytes → HasWeighed new f1 bytes) →
    OnOk r ((done : List ℕ) → HasBegun part f1 done → bytes_at f1 part.name ≡ done) →
    OnOk r ((bytes : List ℕ) → HasWeighed old f0 bytes → bytes_at f0 old.part.name ≡ bytes)
weighed_done (Ok value) old new part f0 f1 files same none name kept known = λ bytes it.
    let begun : HasBegun part f1 bytes = subst (λ c. HasBegun c f1 bytes) (sym same) (weighed_all new f1 bytes none (kept bytes it)) in
    let named : bytes_at f0 old.part.name ≡ bytes_at f1 part.name = ap (λ f. bytes_at f old.part.name) (sym files) ∙ ap (λ n. bytes_at f1 n) (sym name ∙ ap (λ c. c.name) (sym same)) in
    named ∙ known bytes begun
weighed_done (Err e) old new part f0 f1 files same none name kept known = tt

-- what was held was compared
pub compared_all : (old new : Weighing) (f g : Option Files) → new.held ≡ [] → ((done : List ℕ) → HasBegun old.part f done → HasBegun new.part g (done ++ old.held)) →
    (bytes : List ℕ) → HasWeighed old f bytes → HasWeighed new g bytes
compared_all old new f g none more bytes it = record {
  done = it.done ++ old.held;
  begun = more it.done it.begun;
  all = ap (λ (h : List ℕ). (it.done ++ old.held) ++ h) none ∙ append-nil (it.done ++ old.held) ∙ it.all;
}

pub held_bad : (refusal : PartErr) (w : Weighing) (files : Option Files) → WhereBad {T = Unit {0}} (GoesOnOtherwise w.part files w.held) (Err refusal) →
    WhereBad {T = Unit {0}} (WeighsOtherwise w files) (Err refusal)
held_bad Device w files bad = tt
held_bad Memory w files bad = tt
held_bad (Bad b) w files bad = λ bytes rest it e. bad it.done rest it.begun (e ∙ ap (λ (x : List ℕ). x ++ rest) (sym it.all) ∙ append_assoc it.done w.held rest)

pub weighed_longer : {T : Type 0} (r : Result T PartErr) (old new : Weighing) (part : Comparing) (f0 f1 : Option Files) → f1 ≡ f0 → part ≡ new.part → new.held ≡ [] →
    new.part.name ≡ old.part.name → ((bytes : List ℕ) → HasWeighed old f0 bytes → HasWeighed new f1 bytes) →
    WhereBad ((done : List ℕ) → HasBegun part f1 done → bytes_at f1 part.name ≢ done) r →
    WhereBad ((bytes : List ℕ) → HasWeighed old f0 bytes → bytes_at f0 old.part.name ≢ bytes) r
weighed_longer (Ok value) old new part f0 f1 files same none name kept bad = tt
weighed_longer (Err Device) old new part f0 f1 files same none name kept bad = tt
weighed_longer (Err Memory) old new part f0 f1 files same none name kept bad = tt
weighed_longer (Err (Bad b)) old new part f0 f1 files same none name kept bad = λ bytes it e.
    let begun : HasBegun part f1 bytes = subst (λ c. HasBegun c f1 bytes) (sym same) (weighed_all new f1 bytes none (kept bytes it)) in
    let named : bytes_at f1 part.name ≡ bytes_at f0 old.part.name = ap (λ n. bytes_at f1 n) (ap (λ c. c.name) same ∙ name) ∙ ap (λ f. bytes_at f old.part.name) files in
    bad bytes begun (named ∙ e)
