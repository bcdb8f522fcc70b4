use Rattle.std.proofs.Common.{◌≡◌, ◌+◌, length, take, drop, refl}
use Rattle.mg_dev.specs.Files.{bytes_at}
use Rattle.mg_layout.specs.Contents.{StandAt}
use Rattle.mg_check_parts.specs.Refusals.{Refutes}
use Rattle.mg_check_index.specs.InPair.{bytes_of, set_name}
use Rattle.mg_check_index.proofs.InStoreLaws.{followed-stands, rest-stands}
use Rattle.mg_check_index.proofs.LexiconLaws.{refutes_wider}
use Rattle.mg_check_index.proofs.written_part.WrittenPart.finish.Goals as goal

pub returns-in-Err-clause-other : goal.returns-in-Err-clause-other
returns-in-Err-clause-other g c = λ told.
    let w = c.args.self.now in
    let files = g.S.Store.files c.args.store.now in
    let rest_is : c.as_slice.result.now ≡ w.rest.items = c.as_slice.ensures.value in
    let other = c.in-Err.ensures.other told in
    let here : Refutes (StandAt (w.from + w.standing) w.rest.items (bytes_at files (set_name w))) c.in-Err.refusal = rw (← rest_is) other in
    refutes_wider _ (StandAt w.from (bytes_of files w) (bytes_at files (set_name w))) c.in-Err.refusal
    (rest-stands files (set_name w) w.from w.standing w.rest.items (bytes_of files w) refl) here

pub returns-in-Ok-size-clause-stand : goal.returns-in-Ok-size-clause-stand
returns-in-Ok-size-clause-stand g c = λ told.
    let w = c.args.self.now in
    let files = g.S.Store.files c.args.store.now in
    let rest_is : c.as_slice.result.now ≡ w.rest.items = c.as_slice.ensures.value in
    let stand = c.in-Ok.ensures.stand told in
    let here : take (length w.rest.items) (drop (w.from + w.standing) (bytes_at files (set_name w))) ≡ w.rest.items = cc in
    followed-stands files (set_name w) w.from w.standing w.rest.items (bytes_of files w) refl here
