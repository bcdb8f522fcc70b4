-- What a decoding answers, by what the calls that it makes answer.
use Rattle.std.proofs.Common.{arith, ◌+◌, ◌-◌, ◌^◌, min, max, ◌≡◌, ◌≤◌, ◌==◌, ◌⊎◌, inl, inr, ℕ, false, cond, List, [], Option, Some, None, Ok, Err, IsSome, refl, sym, ◌∙◌, ap, subst}
use Rattle.std.proofs.lemmas.Bool.Decides.{nat_tests}
use Rattle.std.specs.declared.result.Result.{Result}
use Rattle.mg_dev.specs.Causes.{Rose}
use Rattle.mg_dev.specs.Faults.{fault_of_part, fault_of_show}
use Rattle.mg_dev.specs.Files.{Files, OneRead, Reads, SameReads, bytes_at, with_read}
use Rattle.mg_dev.specs.Moments.{SinkAt}
use Rattle.mg_dev.specs.Names.{full_name, number}
use Rattle.mg_dev.specs.PartCauses.{HasPartCause}
use Rattle.mg_dev.specs.declared.fault.Fault.{Fault}
use Rattle.mg_dev.specs.declared.fault.Fault.TheVariants as fault
use Rattle.mg_dev.specs.declared.part.Part.{Part}
use Rattle.mg_dev.specs.declared.part.Part.TheVariants as part
use Rattle.mg_dev.specs.declared.part_err.PartErr.{PartErr}
use Rattle.mg_dev.specs.declared.part_err.PartErr.TheVariants.{Device, Memory, Bad}
use Rattle.mg_dev.specs.declared.show_err.ShowErr.{ShowErr}
use Rattle.mg_dev.specs.declared.show_err.ShowErr.TheVariants as show
use Rattle.mg_defs.specs.CodedText.{TextCode}
use Rattle.mg_defs.specs.Heads as defs
use Rattle.mg_defs.specs.Heads.{IsHead}
use Rattle.mg_front.specs.Reading.{IsNotBad}
use Rattle.mg_layout.specs.HeadAnswers.{AnswersBack, AnswersHead, AnswersWithin, fields_of}
use Rattle.mg_layout.specs.Stands.{Stands, StandsBy}
use Rattle.mg_layout.specs.declared.head.Head.{Head}
use Rattle.mg_layout.proofs.CallerLemmas.{head_there, loaded_set, own_head}
use Rattle.mg_text.specs.Decoding.{IsShowCaused}
use Rattle.mg_text.specs.Reading.{ShowIsNotBad}
use Rattle.mg_dev.specs.Runs.{IsDone}
use Rattle.mg_decode.specs.Outcomes.{DecodeStops, LacksEarly, ShowStops, TextUnread}

-- ---- heads

-- a head that was refused as bad is that of no set
pub bad_head : (files : Option Files) (base : List ℕ) (refusal : PartErr) →
    (IsSome files → (h : defs.Head) → IsHead 1 2 (bytes_at files (full_name base part.Head)) h → AnswersBack h (Err refusal)) → AnswersWithin (Err refusal) →
    (before now : ℕ) (out : Type 0) → HasPartCause {T = Option Head} before now (Err refusal) →
    DecodeStops (Rose before now) out files base (fault_of_part refusal)
bad_head files base Device back within before now out cause = cause.device
bad_head files base Memory back within before now out cause = tt
bad_head files base (Bad bad) back within before now out cause = λ collection stands. back stands.told _ (own_head files base collection stands)

pub read_same : (r s : Reads) → SameReads r s ⊎ OneRead r s part.Head → (p : Part) → 5 ≤ number p → s p ≡ r p
unfolding with_read
read_same r s (inl same) p high = same p
read_same r s (inr one) p high = one p ∙ ap (λ b. cond b (max (r p) (min (r p + 1) (2 ^ 64 - 1))) (r p)) (other (number p) high)
  where
    other : (n : ℕ) → 5 ≤ n → (n == 0) ≡ false
    other n h = grind (arith, nat_tests)

-- ---- showing a set

pub load_bad : (refusal : PartErr) → IsNotBad refusal → ShowIsNotBad (Err (show.Part refusal))
load_bad Device h = tt
load_bad Memory h = tt
load_bad (Bad bad) h = h

-- a reader that was not loaded
pub load_stops : {T : Type 0} (refusal : PartErr) (r r_now : Reads) (s t : ℕ) (out : SinkAt) → TextUnread r r_now → HasPartCause {T = T} s t (Err refusal) →
    ShowStops (Err (show.Part refusal)) r r_now s t out out
load_stops {T} Device r r_now s t out unread cause = cause.device
load_stops {T} Memory r r_now s t out unread cause = (refl, unread)
load_stops {T} (Bad bad) r r_now s t out unread cause = tt

pub show_stops : (r : Result (Unit {0}) ShowErr) (reads reads_now : Reads) (s0 s1 t : ℕ) (out now : SinkAt) → s0 ≤ s1 →
    IsShowCaused r s1 t out.faults now.faults out.lacks now.lacks → ShowStops r reads reads_now s0 t out now
show_stops (Ok done) reads reads_now s0 s1 t out now le cause = tt
show_stops (Err (show.Part Device)) reads reads_now s0 s1 t out now le cause = omega (arith, le, cause)
show_stops (Err (show.Part Memory)) reads reads_now s0 s1 t out now le cause = absurd cause
show_stops (Err (show.Part (Bad bad))) reads reads_now s0 s1 t out now le cause = tt
show_stops (Err show.Write) reads reads_now s0 s1 t out now le cause = cause
show_stops (Err show.Memory) reads reads_now s0 s1 t out now le cause = cause

pub decode_stops : (refusal : ShowErr) {files : Option Files} {base : List ℕ} {s0 s1 : ℕ} (r r_now : Reads) (t : ℕ) (out now : SinkAt) → s0 ≤ s1 →
    ShowStops (Err refusal) r r_now s1 t out now → ((collection : List ℕ) → Stands files base collection → ShowIsNotBad (Err refusal)) →
    DecodeStops (Rose s0 t) (Rose out.faults now.faults) files base (fault_of_show refusal)
decode_stops (show.Part Device) r r_now t out now le stops bad = omega (arith, le, stops)
decode_stops (show.Part Memory) r r_now t out now le stops bad = tt
decode_stops (show.Part (Bad b)) r r_now t out now le stops bad = bad
decode_stops show.Write r r_now t out now le stops bad = stops
decode_stops show.Memory r r_now t out now le stops bad = tt

pub one_fault : (r : Result (Unit {0}) Fault) (a b : Fault) → r ≡ Err a → r ≡ Err b → a ≡ b
one_fault r a b is other = cc

-- want of memory came early
pub lacks_early : (refusal : ShowErr) (r0 r1 r2 : Reads) (s t : ℕ) (out now : SinkAt) → TextUnread r0 r1 → ShowStops (Err refusal) r1 r2 s t out now →
    fault_of_show refusal ≡ fault.Memory → LacksEarly r0 r2 out now
lacks_early (show.Part Device) r0 r1 r2 s t out now unread stops is = cc
lacks_early (show.Part Memory) r0 r1 r2 s t out now unread stops is = inl (stops.0, stops.1 ∙ unread)
lacks_early (show.Part (Bad b)) r0 r1 r2 s t out now unread stops is = cc
lacks_early show.Write r0 r1 r2 s t out now unread stops is = cc
lacks_early show.Memory r0 r1 r2 s t out now unread stops is = inr stops

-- the head was read, and no page of Text
pub text_unread : (r s : Reads) → SameReads r s ⊎ OneRead r s part.Head → TextUnread r s
unfolding with_read
text_unread r s (inl same) = same part.Text
text_unread r s (inr one) = one part.Text

-- a set that stands is decoded where no device fails and memory does not lack
pub done : (fault : Fault) (rose out : Type 0) (files : Option Files) (base collection : List ℕ) → Stands files base collection → (rose → ⊥) → (out → ⊥) →
    DecodeStops rose out files base fault → IsDone {T = Unit {0}} (Err fault)
done fault.Usage rose out files base collection stands calm well stops = stops
done fault.StoreFault rose out files base collection stands calm well stops = calm stops
done fault.ReadFault rose out files base collection stands calm well stops = stops
done fault.WriteFault rose out files base collection stands calm well stops = well stops
done fault.NotBuilt rose out files base collection stands calm well stops = head_there files base collection stands (stops stands.told)
done (fault.Damaged bad) rose out files base collection stands calm well stops = stops collection stands
done fault.NoCollection rose out files base collection stands calm well stops = stops
done (fault.TooLarge size most) rose out files base collection stands calm well stops = stops
done fault.TooManyDocuments rose out files base collection stands calm well stops = stops
done (fault.TooManyPieces stream) rose out files base collection stands calm well stops = stops
done (fault.Changed what first second) rose out files base collection stands calm well stops = stops
done fault.Memory rose out files base collection stands calm well stops = tt
done (fault.NameClash p) rose out files base collection stands calm well stops = stops
done fault.InputTooLong rose out files base collection stands calm well stops = stops
done fault.SameName rose out files base collection stands calm well stops = stops
done (fault.TooManyRotations count) rose out files base collection stands calm well stops = stops

-- what was loaded, and the store after that
pub some_head : (bytes : List ℕ) (loaded : Option Head) (head : Head) → loaded ≡ Some head → AnswersHead 1 2 bytes (Ok loaded) → IsHead 1 2 bytes (fields_of head)
some_head bytes loaded head is answer = subst (λ o. AnswersHead 1 2 bytes (Ok o)) is answer

pub no_head : (bytes : List ℕ) (loaded : Option Head) → loaded ≡ None → AnswersHead 1 2 bytes (Ok loaded) → bytes ≡ []
no_head bytes loaded is answer = subst (λ o. AnswersHead 1 2 bytes (Ok o)) is answer

pub stands_loaded : (files mid : Option Files) (base collection : List ℕ) (loaded : Option Head) (head : Head) → loaded ≡ Some head → mid ≡ files →
    (IsSome files → AnswersHead 1 2 (bytes_at files (full_name base part.Head)) (Ok loaded)) → Stands files base collection →
    (code : TextCode) × StandsBy head code mid base collection
stands_loaded files mid base collection loaded head is same answer stands =
    let by = loaded_set files base collection head stands (some_head (bytes_at files (full_name base part.Head)) loaded head is (answer stands.told)) in
    (by.0, subst (λ f. StandsBy head by.0 f base collection) (sym same) by.1)
