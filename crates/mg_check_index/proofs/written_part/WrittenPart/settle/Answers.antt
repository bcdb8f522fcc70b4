use Rattle.std.proofs.Common.{rules, arith, ◌+◌, ◌*◌, ◌/◌, ◌++◌, ◌∙◌, ap, drop, length, take}
use Rattle.mg_check_parts.proofs.CallerLemmas.{looks_bytes}
use Rattle.mg_dev.specs.Files.{bytes_at}
use Rattle.mg_check_index.specs.InPair.{set_name}
use Rattle.mg_check_index.proofs.PairLaws.{rose-of, settled}
use Rattle.mg_check_index.proofs.written_part.WrittenPart.settle.Goals as goal

pub returns-in-Ok-clause-bytes : goal.returns-in-Ok-clause-bytes
returns-in-Ok-clause-bytes g c = λ told.
    let w = c.args.self.now in
    let bytes = bytes_at (g.S.Store.files c.args.store.now) (set_name w) in
    let whole = length c.as_slice.result.now / 4096 * 4096 in
    ap (λ r. take (w.standing + whole) (drop w.from bytes) ++ r) c.remove_front.ensures
    ∙ settled bytes w.from w.standing whole w.rest.items _ (search rules) (omega (arith, ap length c.as_slice.ensures.value)) (c.in-Ok.ensures.answer told)

pub returns-in-Ok-clause-puts : goal.returns-in-Ok-clause-puts
returns-in-Ok-clause-puts g c =
    let looks = looks_bytes c.args.self.now.part c.args.self.now.of_set c.expect_bytes.ensures.files c.expect_bytes.ensures.reads c.in-Ok.ensures.cause in
    record { files = looks.files; unread = looks.unread; cause = record { later = looks.cause.later; failed = λ e. absurd cc } }

pub returns-in-Err-Bad-clause-puts : goal.returns-in-Err-Bad-clause-puts
returns-in-Err-Bad-clause-puts g c =
    let looks = looks_bytes c.args.self.now.part c.args.self.now.of_set c.expect_bytes.ensures.files c.expect_bytes.ensures.reads c.in-Err-Bad.ensures.cause in
    record { files = looks.files; unread = looks.unread; cause = record { later = looks.cause.later; failed = λ e. absurd cc } }

pub returns-in-Err-Device-clause-puts : goal.returns-in-Err-Device-clause-puts
returns-in-Err-Device-clause-puts g c =
    let looks = looks_bytes c.args.self.now.part c.args.self.now.of_set c.expect_bytes.ensures.files c.expect_bytes.ensures.reads c.in-Err-Device.ensures.cause in
    record { files = looks.files; unread = looks.unread; cause = record { later = looks.cause.later; failed = λ e. rose-of c.in-Err-Device.field-0 _ _ c.in-Err-Device.field-0-is looks.cause } }
