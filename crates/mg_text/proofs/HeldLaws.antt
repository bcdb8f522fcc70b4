-- What of a document went to an empty sink in memory.
use Rattle.std.proofs.Common.{arith, ◌≡◌, ◌≢◌, ◌≤◌, ◌<◌, ◌+◌, ◌-◌, ◌^◌, ◌⊎◌, inl, inr, Option, Result, OnOk, refl, min, ℕ, zero, suc, List, [], ◌++◌, length, take, sym, ap, subst, ◌∙◌, Some, Ok, Err}
use Rattle.std.proofs.lemmas.Grind.{common_steps}
use Rattle.mg_dev.specs.Bads.{IsNotBad}
use Rattle.mg_dev.specs.PartCauses.{HasPartCause}
use Rattle.mg_dev.specs.Streams.{AfterPut, appended}
use Rattle.mg_dev.specs.declared.part_err.PartErr.{PartErr}
use Rattle.mg_dev.specs.declared.part_err.PartErr.TheVariants.{Device, Memory, Bad}
use Rattle.mg_dev.specs.declared.show_err.ShowErr.{ShowErr}
use Rattle.mg_dev.specs.declared.show_err.ShowErr.TheVariants as show
use Rattle.mg_dev.specs.Files.{Files}
use Rattle.mg_text.specs.Held.{AnswersHeld, HasShortDocument, held_answer}
use Rattle.mg_text.specs.Decoding.{IsShowCaused}
use Rattle.mg_defs.specs.Parse.{text}
use Rattle.mg_defs.specs.Terms.{document}
use Rattle.mg_text.specs.Reading.{ShowIsNotBad, TellsDocument, TextReading, TextStands, WroteAll}
use Rattle.mg_text.proofs.StandLaws.{doc_short}

inside : (x y : List ℕ) → Some x ≡ Some y → x ≡ y
inside x y same = cc

short_take : (n most : ℕ) (doc : List ℕ) → length doc ≤ most → length (take n doc) ≤ most
short_take n most doc short = grind (arith, common_steps)

-- it is no longer than the document
pub held_short : (r : Result (Unit {0}) ShowErr) (before now doc : List ℕ) (most : ℕ) → before ≡ [] →
    AfterPut (Some before) (Some now) doc r → length doc ≤ most → length now ≤ most
unfolding appended
held_short (Ok done) before now doc most empty after short =
    let is : now ≡ doc = inside now (before ++ doc) after ∙ ap (λ (b : List ℕ). b ++ doc) empty in
    subst (λ (x : List ℕ). length x ≤ most) (sym is) short
held_short (Err refusal) before now doc most empty after short =
    let is : now ≡ take after.count doc
    = inside now (before ++ take after.count doc) after.is ∙ ap (λ (b : List ℕ). b ++ take after.count doc) empty in
    subst (λ (x : List ℕ). length x ≤ most) (sym is) (short_take after.count most doc short)

-- at `Ok` it is the document
pub held_whole : (r : Result (Unit {0}) ShowErr) (done : Unit {0}) (before now doc : List ℕ) → r ≡ Ok done → before ≡ [] →
    AfterPut (Some before) (Some now) doc r → now ≡ doc
unfolding appended
held_whole (Ok done) _ before now doc is empty after =
    inside now (before ++ doc) after ∙ ap (λ (b : List ℕ). b ++ doc) empty
held_whole (Err refusal) done before now doc is empty after = cc

pub part_not_bad : (refusal : PartErr) → ShowIsNotBad (Err (show.Part refusal)) → IsNotBad refusal
part_not_bad Device fine = tt
part_not_bad Memory fine = tt
part_not_bad (Bad bad) fine = fine

document_short : (collection : List ℕ) (number : ℕ) → length (document collection number) ≤ length collection
document_short collection zero = omega arith
document_short collection (suc n) = doc_short collection n

-- no document has more bytes than a collection may have
pub any_short : (r : TextReading) (files : Option Files) (number : ℕ) (collection : List ℕ) → TextStands r files collection → HasShortDocument r files number (2 ^ 32 - 1) collection
any_short r files number collection stands = record { stands = stands; short = omega (arith, document_short collection number, stands.few) }

-- ---- what is answered once a document was shown

-- the document is longer than its bound
pub long_answer : {most size : ℕ} (shown : Result (Unit {0}) ShowErr) (refusal : PartErr) → most < size → refusal ≢ Device → AnswersHeld most size shown (Err refusal)
long_answer shown refusal longer other = record { whole = tt; bad = λ short fine. absurd (omega (arith, longer, short)); device = λ is. absurd (other cc) }

-- it is no longer
pub short_answer : {most size : ℕ} (shown : Result (Unit {0}) ShowErr) → size ≤ most → AnswersHeld most size shown (held_answer shown)
short_answer (Ok done) short = record { whole = (refl, short); bad = λ le fine. tt; device = λ is. absurd cc }
short_answer (Err (show.Part refusal)) short = record { whole = tt; bad = λ le fine. part_not_bad refusal fine; device = λ is. inl cc }
short_answer (Err show.Write) short = record { whole = tt; bad = λ le fine. tt; device = λ is. inr refl }
short_answer (Err show.Memory) short = record { whole = tt; bad = λ le fine. tt; device = λ is. absurd cc }

module _ {most size : ℕ} {shown : Result (Unit {0}) ShowErr} where
  pub held_in_bound : (result : Result (Unit {0}) PartErr) → AnswersHeld most size shown result → OnOk result (size ≤ most)
  held_in_bound (Ok done) answers = answers.whole.1
  held_in_bound (Err refusal) answers = tt

  pub held_content : (result : Result (Unit {0}) PartErr) (before now doc : List ℕ) → AnswersHeld most size shown result → before ≡ [] →
      AfterPut (Some before) (Some now) doc shown → OnOk result (now ≡ doc)
  held_content (Ok done) before now doc answers empty after = held_whole shown tt before now doc answers.whole.0 empty after
  held_content (Err refusal) before now doc answers empty after = tt

  -- the sink in memory never fails
  pub held_cause : (result : Result (Unit {0}) PartErr) (m n before now : ℕ) → AnswersHeld most size shown result → m ≤ n → IsShowCaused shown m n 0 0 before now → HasPartCause m n result
  held_cause (Ok done) m n before now answers le cause = record { later = le; device = tt }
  held_cause (Err Memory) m n before now answers le cause = record { later = le; device = tt }
  held_cause (Err (Bad bad)) m n before now answers le cause = record { later = le; device = tt }
  held_cause (Err Device) m n before now answers le cause = record { later = le; device = failed (answers.device refl) }
    where
      failed : (shown ≡ Err (show.Part Device)) ⊎ (shown ≡ Err show.Write) → min (m + 1) (2 ^ 64 - 1) ≤ n
      failed (inl is) = subst (λ (r : Result (Unit {0}) ShowErr). IsShowCaused r m n 0 0 before now) is cause
      failed (inr is) =
          let never : min (0 + 1) (2 ^ 64 - 1) ≤ 0 = subst (λ (r : Result (Unit {0}) ShowErr). IsShowCaused r m n 0 0 before now) is cause in
          absurd (omega (arith, never))

-- what came into the empty sink is held
pub held_stood : {most size : ℕ} (shown : Result (Unit {0}) ShowErr) (result : Result (Unit {0}) PartErr) (r : TextReading) (files : Option Files) (number : ℕ) (before now : List ℕ) →
    AnswersHeld most size shown result → before ≡ [] → OnOk shown (TellsDocument r files number (WroteAll (Some before) (Some now))) →
    OnOk result (TellsDocument r files number (λ doc. now ≡ doc))
unfolding appended
held_stood shown (Ok done) r files number before now answers empty stood =
    let is = subst (λ (s : Result (Unit {0}) ShowErr). OnOk s (TellsDocument r files number (WroteAll (Some before) (Some now)))) answers.whole.0 stood in
    record { pairs = is.pairs; told = is.told; is = inside now (before ++ text is.pairs) is.is ∙ ap (λ (b : List ℕ). b ++ text is.pairs) empty }
held_stood shown (Err refusal) r files number before now answers empty stood = tt
