-- Why a session stops, by what the calls that it makes answer.
use Rattle.std.proofs.Common.{arith, ◌+◌, ◌-◌, ◌^◌, min, max, ◌≡◌, ◌≤◌, ◌==◌, ◌⊎◌, inl, inr, ℕ, true, false, cond, List, Option, Some, Err, refl, sym, ◌∙◌, ap}
use Rattle.std.proofs.lemmas.Bool.Decides.{nat_tests}
use Rattle.mg_dev.specs.Causes.{Rose}
use Rattle.mg_dev.specs.Faults.{fault_of_part}
use Rattle.mg_dev.specs.Files.{Files, OneRead, Reads, SameReads, with_read}
use Rattle.mg_dev.specs.Names.{number}
use Rattle.mg_dev.specs.PartCauses.{HasPartCause}
use Rattle.mg_dev.specs.declared.bad.Bad.{Bad}
use Rattle.mg_dev.specs.declared.fault.Fault.{Fault}
use Rattle.mg_dev.specs.declared.fault.Fault.TheVariants as fault
use Rattle.mg_dev.specs.declared.part.Part.{Part}
use Rattle.mg_dev.specs.declared.part.Part.TheVariants as part
use Rattle.mg_dev.specs.declared.part_err.PartErr.{PartErr}
use Rattle.mg_dev.specs.declared.part_err.PartErr.TheVariants as err
use Rattle.mg_dev.specs.declared.show_err.ShowErr.TheVariants as show
use Rattle.mg_defs.specs.InputLimit.{is_too_much}
use Rattle.mg_front.specs.Reading.{IsNotBad}
use Rattle.mg_defs.specs.Limits.{input_limit}
use Rattle.mg_layout.specs.Stands.{Stands}
use Rattle.mg_layout.proofs.CallerLemmas.{head_there}
use Rattle.mg_reply.specs.Printed.{IsTooLong}
use Rattle.mg_reply.specs.Served.{EndsFor, fault_of_serve}
use Rattle.mg_reply.specs.declared.serve.ServeErr.{ServeErr}
use Rattle.mg_reply.specs.declared.serve.ServeErr.TheVariants as serve
use Rattle.mg_session.specs.Opening.{OpenStops}
use Rattle.mg_session.specs.Served.{LineStops}
use Rattle.mg_session.specs.Serves.{IsFirst, ServeStops, Stops}

-- ---- what is read of the head

pub head_read : (r s : Reads) → SameReads r s ⊎ OneRead r s part.Head → (p : Part) → 1 ≤ number p → s p ≡ r p
unfolding with_read
head_read r s (inl same) p high = same p
head_read r s (inr one) p high = one p ∙ ap (λ b. cond b (max (r p) (min (r p + 1) (2 ^ 64 - 1))) (r p)) (other (number p) high)
  where
    other : (n : ℕ) → 1 ≤ n → (n == 0) ≡ false
    other n h = grind (arith, nat_tests)

-- ---- causes while a set is opened

-- a part was refused
pub open_part : {T : Type 0} (refusal : PartErr) (s0 s1 t : ℕ) (U D : Type 0) (C : ℕ → Type 0) → s0 ≤ s1 → HasPartCause {T = T} s1 t (Err refusal) →
    ((IsNotBad refusal → ⊥) → D) → OpenStops (Rose s0 t) U D C (fault_of_part refusal)
open_part err.Device s0 s1 t U D C le cause bad = omega (arith, le, cause.device)
open_part err.Memory s0 s1 t U D C le cause bad = tt
open_part (err.Bad b) s0 s1 t U D C le cause bad = bad (λ d. d)

-- what stops the opening stops the session
pub open_stops : (f : Fault) (A B I O U V D E : Type 0) (C K : ℕ → Type 0) (input : Option (List ℕ)) → (A → B) → (U → V) → (D → E) → ((n : ℕ) → C n → K n) →
    OpenStops A U D C f → Stops B I O V E K input f
open_stops fault.Usage A B I O U V D E C K input rose none bad counts stops = stops
open_stops fault.StoreFault A B I O U V D E C K input rose none bad counts stops = rose stops
open_stops fault.ReadFault A B I O U V D E C K input rose none bad counts stops = absurd stops
open_stops fault.WriteFault A B I O U V D E C K input rose none bad counts stops = absurd stops
open_stops fault.NotBuilt A B I O U V D E C K input rose none bad counts stops = none stops
open_stops (fault.Damaged b) A B I O U V D E C K input rose none bad counts stops = bad stops
open_stops fault.NoCollection A B I O U V D E C K input rose none bad counts stops = stops
open_stops (fault.TooLarge size most) A B I O U V D E C K input rose none bad counts stops = stops
open_stops fault.TooManyDocuments A B I O U V D E C K input rose none bad counts stops = stops
open_stops (fault.TooManyPieces stream) A B I O U V D E C K input rose none bad counts stops = stops
open_stops (fault.Changed what first second) A B I O U V D E C K input rose none bad counts stops = stops
open_stops fault.Memory A B I O U V D E C K input rose none bad counts stops = tt
open_stops (fault.NameClash p) A B I O U V D E C K input rose none bad counts stops = stops
open_stops fault.InputTooLong A B I O U V D E C K input rose none bad counts stops = absurd stops
open_stops fault.SameName A B I O U V D E C K input rose none bad counts stops = stops
open_stops (fault.TooManyRotations count) A B I O U V D E C K input rose none bad counts stops = counts count stops

-- ---- causes while lines are answered

pub ended : (error : ServeErr) (I O L : Type 0) (MayStop : PartErr → Type 0) → EndsFor I O L MayStop error → LineStops I O L MayStop (fault_of_serve error)
ended serve.Read I O L MayStop e = e
ended serve.TooMuch I O L MayStop e = e
ended (serve.Show show.Write) I O L MayStop e = e
ended (serve.Show show.Memory) I O L MayStop e = tt
ended (serve.Show (show.Part err.Device)) I O L MayStop e = e
ended (serve.Show (show.Part err.Memory)) I O L MayStop e = tt
ended (serve.Show (show.Part (err.Bad b))) I O L MayStop e = e

-- what stops the lines stops the session
pub line_stops : (f : Fault) (B I O V E : Type 0) (K : ℕ → Type 0) (MayStop : PartErr → Type 0) (input : Option (List ℕ)) → (MayStop err.Device → B) →
    ((b : Bad) → MayStop (err.Bad b) → E) → LineStops I O (IsTooLong input) MayStop f → Stops B I O V E K input f
line_stops fault.Usage B I O V E K MayStop input rose bad stops = stops
line_stops fault.StoreFault B I O V E K MayStop input rose bad stops = rose stops
line_stops fault.ReadFault B I O V E K MayStop input rose bad stops = stops
line_stops fault.WriteFault B I O V E K MayStop input rose bad stops = stops
line_stops fault.NotBuilt B I O V E K MayStop input rose bad stops = absurd stops
line_stops (fault.Damaged b) B I O V E K MayStop input rose bad stops = bad b stops
line_stops fault.NoCollection B I O V E K MayStop input rose bad stops = stops
line_stops (fault.TooLarge size most) B I O V E K MayStop input rose bad stops = stops
line_stops fault.TooManyDocuments B I O V E K MayStop input rose bad stops = stops
line_stops (fault.TooManyPieces stream) B I O V E K MayStop input rose bad stops = stops
line_stops (fault.Changed what first second) B I O V E K MayStop input rose bad stops = stops
line_stops fault.Memory B I O V E K MayStop input rose bad stops = tt
line_stops (fault.NameClash p) B I O V E K MayStop input rose bad stops = stops
line_stops fault.InputTooLong B I O V E K MayStop input rose bad stops = stops
line_stops fault.SameName B I O V E K MayStop input rose bad stops = stops
line_stops (fault.TooManyRotations count) B I O V E K MayStop input rose bad stops = absurd stops

-- and it is none of the first refusals
pub line_later : (f : Fault) (I O L X : Type 0) (MayStop : PartErr → Type 0) → LineStops I O L MayStop f → IsFirst f → X
line_later fault.Usage I O L X MayStop stops first = absurd first
line_later fault.StoreFault I O L X MayStop stops first = absurd first
line_later fault.ReadFault I O L X MayStop stops first = absurd first
line_later fault.WriteFault I O L X MayStop stops first = absurd first
line_later fault.NotBuilt I O L X MayStop stops first = absurd stops
line_later (fault.Damaged b) I O L X MayStop stops first = absurd first
line_later fault.NoCollection I O L X MayStop stops first = absurd first
line_later (fault.TooLarge size most) I O L X MayStop stops first = absurd first
line_later fault.TooManyDocuments I O L X MayStop stops first = absurd first
line_later (fault.TooManyPieces stream) I O L X MayStop stops first = absurd first
line_later (fault.Changed what first_count second) I O L X MayStop stops first = absurd first
line_later fault.Memory I O L X MayStop stops first = absurd first
line_later (fault.NameClash p) I O L X MayStop stops first = absurd first
line_later fault.InputTooLong I O L X MayStop stops first = absurd first
line_later fault.SameName I O L X MayStop stops first = absurd first
line_later (fault.TooManyRotations count) I O L X MayStop stops first = absurd stops

-- ---- what is left where nothing stands in the way

true_is_not_false : true ≡ false → ⊥
true_is_not_false e = cc

-- where nothing stands in a session's way and no device failed, want of memory is the only refusal
pub only_memory : (IsCounted : Option Files → List ℕ → ℕ → Type 0) (s i o : Type 0) (files : Option Files) (base collection given : List ℕ) (left : Option (List ℕ)) (f : Fault) →
    ServeStops IsCounted base s i o files left f → Stands files base collection → ((n : ℕ) → IsCounted files base n → ⊥) → left ≡ Some given → is_too_much input_limit given ≡ false →
    ¬ s → ¬ i → ¬ o → f ≡ fault.Memory
only_memory C s i o files base collection given left fault.Usage cause stands few is short no_store no_input no_output = absurd cause
only_memory C s i o files base collection given left fault.StoreFault cause stands few is short no_store no_input no_output = absurd (no_store cause)
only_memory C s i o files base collection given left fault.ReadFault cause stands few is short no_store no_input no_output = absurd (no_input cause)
only_memory C s i o files base collection given left fault.WriteFault cause stands few is short no_store no_input no_output = absurd (no_output cause)
only_memory C s i o files base collection given left fault.NotBuilt cause stands few is short no_store no_input no_output = absurd (head_there files base collection stands (cause stands.told))
only_memory C s i o files base collection given left (fault.Damaged bad) cause stands few is short no_store no_input no_output = absurd (cause collection stands)
only_memory C s i o files base collection given left fault.NoCollection cause stands few is short no_store no_input no_output = absurd cause
only_memory C s i o files base collection given left (fault.TooLarge size most) cause stands few is short no_store no_input no_output = absurd cause
only_memory C s i o files base collection given left fault.TooManyDocuments cause stands few is short no_store no_input no_output = absurd cause
only_memory C s i o files base collection given left (fault.TooManyPieces stream) cause stands few is short no_store no_input no_output = absurd cause
only_memory C s i o files base collection given left (fault.Changed what first second) cause stands few is short no_store no_input no_output = absurd cause
only_memory C s i o files base collection given left fault.Memory cause stands few is short no_store no_input no_output = refl
only_memory C s i o files base collection given left (fault.NameClash p) cause stands few is short no_store no_input no_output = absurd cause
only_memory C s i o files base collection given left fault.InputTooLong cause stands few is short no_store no_input no_output = absurd (true_is_not_false (sym (cause given is) ∙ short))
only_memory C s i o files base collection given left fault.SameName cause stands few is short no_store no_input no_output = absurd cause
only_memory C s i o files base collection given left (fault.TooManyRotations count) cause stands few is short no_store no_input no_output = absurd (few count cause)
