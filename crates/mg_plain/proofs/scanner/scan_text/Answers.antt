use Rattle.std.proofs.Common.{refl}
use Rattle.mg_dev.specs.StreamLaws.{grew_nothing}
use Rattle.mg_reply.proofs.CallerLemmas.{none_in_turn, printed_in_turn, read_failed}
use Rattle.mg_plain.proofs.LoadLaws.{broken_over, not_read, session_over, turns_over}
use Rattle.mg_plain.proofs.scanner.scan_text.Goals as goal

pub returns-in-Err-clause-prefix : goal.returns-in-Err-clause-prefix
returns-in-Err-clause-prefix g c = λ told given left. grew_nothing _ _

pub returns-in-Ok-serve_lines-clause-all : goal.returns-in-Ok-serve_lines-clause-all
returns-in-Ok-serve_lines-clause-all g c = λ told given left.
    rw (session_over _ _ _ given (c.in-Ok.ensures.content told)) (c.in-Ok-serve_lines.ensures.all _ refl given left)

pub returns-in-Ok-serve_lines-clause-prefix : goal.returns-in-Ok-serve_lines-clause-prefix
returns-in-Ok-serve_lines-clause-prefix g c = λ told given left.
    rw (session_over _ _ _ given (c.in-Ok.ensures.content told)) (c.in-Ok-serve_lines.ensures.prefix _ refl given left)

pub returns-clause-prefix : goal.returns-clause-prefix
returns-clause-prefix g c = λ told given left.
    rw (session_over _ _ _ given (c.in-Ok.ensures.content told)) (c.in-Err-serve_lines.ensures.prefix _ refl given left)

pub returns-in-Err-clause-in_turn : goal.returns-in-Err-clause-in_turn
returns-in-Err-clause-in_turn g c = λ told. none_in_turn _ _ refl refl

pub returns-in-Ok-serve_lines-clause-in_turn : goal.returns-in-Ok-serve_lines-clause-in_turn
returns-in-Ok-serve_lines-clause-in_turn g c = λ told.
    turns_over _ _ _ _ (c.in-Ok.ensures.content told) (printed_in_turn (c.in-Ok-serve_lines.ensures.in_turn _ refl))

pub returns-clause-in_turn : goal.returns-clause-in_turn
returns-clause-in_turn g c = λ told.
    turns_over _ _ _ _ (c.in-Ok.ensures.content told) (printed_in_turn (c.in-Err-serve_lines.ensures.in_turn _ refl))

pub returns-in-Err-clause-broken : goal.returns-in-Err-clause-broken
returns-in-Err-clause-broken g c = λ told is given left. not_read _ _ _ _ _ c.in-Err.ensures.cause is

pub returns-clause-broken : goal.returns-clause-broken
returns-clause-broken g c = rw c.fault_of.ensures (λ told is given left.
    broken_over _ _ _ _ given _ _ _ (c.in-Ok.ensures.content told) (c.in-Err-serve_lines.ensures.broken _ refl (read_failed _ is) given left))
