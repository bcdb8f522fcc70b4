-- The end of an answer: its count behind its rows, and all that waits.
use Rattle.std.proofs.Common.{arith, ◌≡◌, ℕ, ◌≤◌, List, [], ◌++◌, Ok, Err, sym, ◌∙◌, ap, subst, append_assoc}
use Rattle.std.specs.declared.option.Option.{Option}
use Rattle.std.specs.declared.result.Result.{Result}
use Rattle.mg_dev.specs.Streams.{AfterPut, appended}
use Rattle.mg_dev.specs.StreamLaws.{appended-appended, put_second}
use Rattle.mg_dev.specs.declared.show_err.ShowErr.{ShowErr}
use Rattle.mg_dev.specs.declared.show_err.ShowErr.TheVariants as show
use Rattle.mg_reply.specs.Pending.{Passed}
use Rattle.mg_session.specs.Answering.{HasShowLack, IsShowLacked}

-- bytes were passed on, and all that waited then was put
pub put_all : (w0 w1 w2 : Option (List ℕ)) (waited waiting bytes : List ℕ) → Passed w0 w1 waited waiting bytes → w2 ≡ appended w1 waiting → w2 ≡ appended w0 (waited ++ bytes)
put_all w0 w1 w2 waited waiting bytes passed put =
    put ∙ ap (λ w. appended w waiting) passed.given ∙ appended-appended w0 passed.sent waiting ∙ ap (appended w0) passed.whole

-- rows were passed on, and what waited of them was put with what came behind it
pub put_rest : {T E : Type 0} (w0 w1 w2 : Option (List ℕ)) (waiting rows more : List ℕ) (r : Result T E) → Passed w0 w1 [] waiting rows →
    AfterPut w1 w2 (waiting ++ more) r → AfterPut w0 w2 (rows ++ more) r
put_rest w0 w1 w2 waiting rows more r passed put =
    subst (λ x. AfterPut w0 w2 x r) (sym (append_assoc passed.sent waiting more) ∙ ap (λ x. x ++ more) passed.whole) (put_second w0 w1 w2 passed.sent (waiting ++ more) r passed.given put)

-- the same where nothing had waited
pub put_rows : {T E : Type 0} (w0 w1 w2 : Option (List ℕ)) (waited waiting rows more : List ℕ) (r : Result T E) → waited ≡ [] →
    Passed w0 w1 waited waiting rows → AfterPut w1 w2 (waiting ++ more) r → AfterPut w0 w2 (rows ++ more) r
put_rows w0 w1 w2 waited waiting rows more r none passed put =
    put_rest w0 w1 w2 waiting rows more r (subst (λ p. Passed w0 w1 p waiting rows) none passed) put

-- a lack that was met later
pub lack_after : (result : Result (Unit {0}) ShowErr) (l0 l1 l2 : ℕ) → l0 ≤ l1 → HasShowLack l1 l2 result → HasShowLack l0 l2 result
lack_after result l0 l1 l2 before lack = record { later = omega (arith, before, lack.later); lacked = wider result lack.lacked }
  where
    wider : (r : Result (Unit {0}) ShowErr) → IsShowLacked r l1 l2 → IsShowLacked r l0 l2
    wider (Ok done) is = tt
    wider (Err (show.Part refusal)) is = tt
    wider (Err show.Write) is = tt
    wider (Err show.Memory) is = omega (arith, is, before)
