-- The reply to a pattern, and a session of them.
use Rattle.std.proofs.Common.{◌≡◌, ℕ, List, Ok, Err, refl, sym, subst}
use Rattle.std.specs.Prelude.{IfErr, OnOk}
use Rattle.std.specs.declared.option.Option.{Option}
use Rattle.std.specs.declared.result.Result.{Result}
use Rattle.mg_dev.specs.Streams.{AfterPut, appended}
use Rattle.mg_dev.specs.StreamLaws.{grew_nothing}
use Rattle.mg_dev.specs.declared.part_err.PartErr.TheVariants.{Device, Memory, Bad}
use Rattle.mg_dev.specs.declared.show_err.ShowErr.{ShowErr}
use Rattle.mg_dev.specs.declared.show_err.ShowErr.TheVariants as show
use Rattle.mg_defs.specs.Patterns.{Pattern, bad, pattern_of, sides}
use Rattle.mg_defs.specs.WildSession.{bad_pattern, match_text, wild_reply}
use Rattle.mg_reply.specs.Served.{PartStops}
use Rattle.mg_text.specs.Reading.{ShowIsNotBad}
use Rattle.mg_session.specs.Answering.{HasShowCause}
use Rattle.mg_session.specs.WildAnswers.{WildAnswered, WildReplied}
use Rattle.mg_session.specs.WildSearching.{WildBy, WildMayStop, WildOver, WildState}

-- ---- a line

says_bad : (collection line : List ℕ) (at : ℕ) → pattern_of line ≡ bad at → wild_reply collection line ≡ bad_pattern at
unfolding wild_reply
says_bad collection line at e = rw e refl

-- a line that is no pattern
pub line_bad : (collection line : List ℕ) (at : ℕ) (w0 w1 : Option (List ℕ)) (result : Result (Unit {0}) ShowErr) → pattern_of line ≡ bad at →
    AfterPut w0 w1 (bad_pattern at) result → ShowIsNotBad result → WildReplied collection line w0 w1 result
line_bad collection line at w0 w1 result is put sound = record {
  put = subst (λ t. AfterPut w0 w1 t result) (sym (says_bad collection line at is)) put;
  sound = sound;
}

says_matches : (collection line : List ℕ) (p : Pattern) → pattern_of line ≡ sides p → wild_reply collection line ≡ match_text collection p
unfolding wild_reply
says_matches collection line p e = rw e refl

pub line_matched : (collection line : List ℕ) (p : Pattern) (w0 w1 : Option (List ℕ)) (result : Result (Unit {0}) ShowErr) → pattern_of line ≡ sides p →
    WildAnswered collection p w0 w1 result → WildReplied collection line w0 w1 result
line_matched collection line p w0 w1 result is a = record {
  put = subst (λ t. AfterPut w0 w1 t result) (sym (says_matches collection line p is)) a.put;
  sound = a.sound;
}

-- nothing was printed
pub line_unread : (collection line : List ℕ) (w : Option (List ℕ)) (error : ShowErr) → ShowIsNotBad (Err error) → WildReplied collection line w w (Err error)
line_unread collection line w error sound = record { put = grew_nothing w (wild_reply collection line); sound = sound }

-- ---- a session

pub patterns_over : (s : WildState) (collection : List ℕ) → WildOver s collection → WildBy s (λ now. wild_reply collection)
patterns_over s collection over = record { collection = collection; over = over; by_is = refl }

-- why a line stops the session
line_stops : (s t : WildState) (f g : ℕ) (error : ShowErr) → HasShowCause (Err error) s.faults t.faults f g →
    ((collection : List ℕ) → WildOver s collection → ShowIsNotBad (Err error)) → PartStops (WildMayStop s t) error
line_stops s t f g (show.Part Device) cause sound = cause.caused
line_stops s t f g (show.Part Memory) cause sound = tt
line_stops s t f g (show.Part (Bad b)) cause sound = sound
line_stops s t f g show.Write cause sound = tt
line_stops s t f g show.Memory cause sound = tt

pub line_part : (s t : WildState) (f g : ℕ) (r : Result (Unit {0}) ShowErr) → HasShowCause r s.faults t.faults f g →
    ((collection : List ℕ) → WildOver s collection → ShowIsNotBad r) → IfErr r (PartStops (WildMayStop s t))
line_part s t f g (Ok value) cause sound = tt
line_part s t f g (Err error) cause sound = line_stops s t f g error cause sound

-- a line that was answered
pub line_told : {Over : List ℕ → Type 0} {line : List ℕ} {w0 w1 : Option (List ℕ)} (r : Result (Unit {0}) ShowErr) →
    ((collection : List ℕ) → Over collection → WildReplied collection line w0 w1 r) → OnOk r ((collection : List ℕ) → Over collection → w1 ≡ appended w0 (wild_reply collection line))
line_told (Ok done) replied = λ collection over. (replied collection over).put
line_told (Err error) replied = tt
