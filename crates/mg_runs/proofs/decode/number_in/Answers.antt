use Rattle.std.proofs.Common.{◌≡◌, ◌+◌, ◌∙◌, ℕ, Some, ap, arith, length}
use Rattle.mg_defs.specs.Codes.{gamma}
use Rattle.mg_runs.specs.declared.decode.Number.{Number}
use Rattle.mg_runs.proofs.Short.{gamma_short}
use Rattle.mg_runs.proofs.Decoding.{number_is, not_refused, over_same}
use Rattle.mg_runs.proofs.decode.number_in.Goals as goal

pub returns-in-Ok-clause-told : goal.returns-in-Ok-clause-told
returns-in-Ok-clause-told c = λ x more taken e.
    let t = rw (ap (λ f. f.bytes.now) c.new-reader.ensures.feed ∙ over_same _ _ c.new.ensures.feeding, c.new-reader.ensures.place) at c.in-Ok.ensures.told in
    let same : c.in-Ok.value ≡ x = number_is c.what_was_put_is_got.ensures.gamma c.args.limit x c.in-Ok.value c.args.at _ more c.requires.limit taken e t in
    let next : c.place.result ≡ c.args.at + length (gamma x) = c.place.ensures ∙ c.in-Ok.ensures.place
    ∙ ap (λ p. p + length (gamma c.in-Ok.value)) c.new-reader.ensures.place ∙ ap (λ v. c.args.at + length (gamma v)) same in
    let mk : ℕ → ℕ → Number = λ v n. record { value = v; next = n } in
    ap (λ v. Some (mk v c.place.result)) same ∙ ap (λ n. Some (mk x n)) next

pub returns-in-Ok-clause-next : goal.returns-in-Ok-clause-next
returns-in-Ok-clause-next c =
    let r = c.in-Ok.ensures.range in
    omega (arith, gamma_short c.in-Ok.value r.0 (omega (arith, r.1, c.requires.limit)), c.place.ensures, c.in-Ok.ensures.place, c.new-reader.ensures.place)

pub returns-in-Err-clause-told : goal.returns-in-Err-clause-told
returns-in-Err-clause-told c = λ x more taken e.
    let t = rw (ap (λ f. f.bytes.now) c.new-reader.ensures.feed ∙ over_same _ _ c.new.ensures.feeding, c.new-reader.ensures.place) at c.in-Err.ensures.told in
    absurd (not_refused c.what_was_put_is_got.ensures.gamma c.in-Err.field-0 c.args.limit x c.args.at _ more c.requires.limit taken e t c.in-Err.ensures.cause)
