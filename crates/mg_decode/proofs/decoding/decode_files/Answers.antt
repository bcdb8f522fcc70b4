use Rattle.std.proofs.Common.{Err, inl, refl, sym, ◌∙◌}
use Rattle.mg_dev.specs.Faults.{fault_of_part, fault_of_show}
use Rattle.mg_dev.specs.StreamLaws.{grew_nothing}
use Rattle.mg_text.proofs.CallerLemmas.{added_none, adds_some}
use Rattle.mg_decode.proofs.BoundLaws.{head_within, nothing_within}
use Rattle.mg_decode.proofs.StopLaws.{bad_head, decode_stops, done, lacks_early, no_head, one_fault, read_same, some_head, stands_loaded, text_unread}
use Rattle.mg_layout.proofs.CallerLemmas.{head_there, no_empty_head}
use Rattle.mg_decode.proofs.decoding.decode_files.Goals as goal

pub returns-in-Err-clause-content : goal.returns-in-Err-clause-content
returns-in-Err-clause-content g c = λ collection stands. grew_nothing _ collection

pub returns-in-Err-clause-added : goal.returns-in-Err-clause-added
returns-in-Err-clause-added g c = added_none _ _ _

pub returns-in-Err-clause-bounded : goal.returns-in-Err-clause-bounded
returns-in-Err-clause-bounded g c = λ told. nothing_within _ _ _

pub returns-in-Err-clause-cause : goal.returns-in-Err-clause-cause
returns-in-Err-clause-cause g c = rw c.from.ensures (bad_head _ _ c.in-Err.refusal c.in-Err.ensures.back c.in-Err.ensures.within _ _ _ c.in-Err.ensures.cause)

pub returns-in-Err-clause-complete : goal.returns-in-Err-clause-complete
returns-in-Err-clause-complete g c = λ collection stands calm well.
    rw c.from.ensures (done (fault_of_part c.in-Err.refusal) _ _ _ _ collection stands calm well
    (bad_head _ _ c.in-Err.refusal c.in-Err.ensures.back c.in-Err.ensures.within _ _ _ c.in-Err.ensures.cause))

pub returns-in-Err-clause-memory : goal.returns-in-Err-clause-memory
returns-in-Err-clause-memory g c = λ is. inl (refl, text_unread _ _ c.in-Err.ensures.reads)

pub returns-in-Err-clause-reads : goal.returns-in-Err-clause-reads
returns-in-Err-clause-reads g c = read_same _ _ c.in-Err.ensures.reads

pub returns-in-None-clause-content : goal.returns-in-None-clause-content
returns-in-None-clause-content g c = λ collection stands. grew_nothing _ collection

pub returns-in-None-clause-added : goal.returns-in-None-clause-added
returns-in-None-clause-added g c = added_none _ _ _

pub returns-in-None-clause-bounded : goal.returns-in-None-clause-bounded
returns-in-None-clause-bounded g c = λ told. nothing_within _ _ _

pub returns-in-None-clause-cause : goal.returns-in-None-clause-cause
returns-in-None-clause-cause g c = λ told. no_head _ c.in-Ok.loaded c.in-None.is (c.in-Ok.ensures.answer told)

pub returns-in-None-clause-complete : goal.returns-in-None-clause-complete
returns-in-None-clause-complete g c = λ collection stands calm well. head_there _ _ collection stands (no_head _ c.in-Ok.loaded c.in-None.is (c.in-Ok.ensures.answer stands.told))

pub returns-in-None-clause-memory : goal.returns-in-None-clause-memory
returns-in-None-clause-memory g c = λ is. inl (refl, text_unread _ _ c.in-Ok.ensures.reads)

pub returns-in-None-clause-reads : goal.returns-in-None-clause-reads
returns-in-None-clause-reads g c = read_same _ _ c.in-Ok.ensures.reads

pub returns-in-Ok-show_set-clause-content : goal.returns-in-Ok-show_set-clause-content
returns-in-Ok-show_set-clause-content g c = λ collection stands.
    let by = stands_loaded _ _ _ collection c.in-Ok.loaded c.in-Some.head c.in-Some.is c.in-Ok.ensures.files c.in-Ok.ensures.answer stands in
    c.in-Ok-show_set.ensures.content by.0 collection by.1

pub returns-in-Ok-show_set-clause-bounded : goal.returns-in-Ok-show_set-clause-bounded
returns-in-Ok-show_set-clause-bounded g c = λ told.
    head_within _ _ c.in-Some.head _ _ (some_head _ c.in-Ok.loaded c.in-Some.head c.in-Some.is (c.in-Ok.ensures.answer told)) c.in-Ok-show_set.ensures.added

pub returns-in-Ok-show_set-clause-added : goal.returns-in-Ok-show_set-clause-added
returns-in-Ok-show_set-clause-added g c = adds_some c.in-Ok-show_set.ensures.added

pub returns-in-Ok-show_set-clause-not_built : goal.returns-in-Ok-show_set-clause-not_built
returns-in-Ok-show_set-clause-not_built g c = λ told empty. absurd (no_empty_head _ _ (some_head _ c.in-Ok.loaded c.in-Some.head c.in-Some.is (c.in-Ok.ensures.answer told)) empty)

pub returns-in-Ok-show_set-clause-reads : goal.returns-in-Ok-show_set-clause-reads
returns-in-Ok-show_set-clause-reads g c = λ p high. c.in-Ok-show_set.ensures.reads p high ∙ read_same _ _ c.in-Ok.ensures.reads p high

pub returns-in-Err-show_set-clause-content : goal.returns-in-Err-show_set-clause-content
returns-in-Err-show_set-clause-content g c = λ collection stands.
    let by = stands_loaded _ _ _ collection c.in-Ok.loaded c.in-Some.head c.in-Some.is c.in-Ok.ensures.files c.in-Ok.ensures.answer stands in
    c.in-Err-show_set.ensures.content by.0 collection by.1

pub returns-in-Err-show_set-clause-cause : goal.returns-in-Err-show_set-clause-cause
returns-in-Err-show_set-clause-cause g c = rw c.from-in-Err-show_set.ensures (decode_stops c.in-Err-show_set.refusal _ _ _ _ _ c.in-Ok.ensures.cause.later c.in-Err-show_set.ensures.cause
    (λ collection stands.
    let by = stands_loaded _ _ _ collection c.in-Ok.loaded c.in-Some.head c.in-Some.is c.in-Ok.ensures.files c.in-Ok.ensures.answer stands in
    c.in-Err-show_set.ensures.never_bad by.0 collection by.1))

pub returns-in-Err-show_set-clause-bounded : goal.returns-in-Err-show_set-clause-bounded
returns-in-Err-show_set-clause-bounded g c = λ told.
    head_within _ _ c.in-Some.head _ _ (some_head _ c.in-Ok.loaded c.in-Some.head c.in-Some.is (c.in-Ok.ensures.answer told)) c.in-Err-show_set.ensures.added

pub returns-in-Err-show_set-clause-added : goal.returns-in-Err-show_set-clause-added
returns-in-Err-show_set-clause-added g c = adds_some c.in-Err-show_set.ensures.added

pub returns-in-Err-show_set-clause-memory : goal.returns-in-Err-show_set-clause-memory
returns-in-Err-show_set-clause-memory g c = λ is. lacks_early c.in-Err-show_set.refusal (g.S.Store.reads c.args.store.now) _ _ _ _ _ _ (text_unread _ _ c.in-Ok.ensures.reads)
    c.in-Err-show_set.ensures.cause
    (sym c.from-in-Err-show_set.ensures ∙ one_fault (Err c.from-in-Err-show_set.result) _ _ refl is)

pub returns-in-Err-show_set-clause-not_built : goal.returns-in-Err-show_set-clause-not_built
returns-in-Err-show_set-clause-not_built g c = λ told empty. absurd (no_empty_head _ _ (some_head _ c.in-Ok.loaded c.in-Some.head c.in-Some.is (c.in-Ok.ensures.answer told)) empty)

pub returns-in-Err-show_set-clause-complete : goal.returns-in-Err-show_set-clause-complete
returns-in-Err-show_set-clause-complete g c = λ collection stands calm well.
    rw c.from-in-Err-show_set.ensures (done (fault_of_show c.in-Err-show_set.refusal) _ _ _ _ collection stands calm well
    (decode_stops c.in-Err-show_set.refusal _ _ _ _ _ c.in-Ok.ensures.cause.later c.in-Err-show_set.ensures.cause
    (λ other is.
    let by = stands_loaded _ _ _ other c.in-Ok.loaded c.in-Some.head c.in-Some.is c.in-Ok.ensures.files c.in-Ok.ensures.answer is in
    c.in-Err-show_set.ensures.never_bad by.0 other by.1)))

pub returns-in-Err-show_set-clause-reads : goal.returns-in-Err-show_set-clause-reads
returns-in-Err-show_set-clause-reads g c = λ p high. c.in-Err-show_set.ensures.reads p high ∙ read_same _ _ c.in-Ok.ensures.reads p high
