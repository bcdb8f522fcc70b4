use Rattle.std.proofs.Common.{arith, ◌∙◌}
use Rattle.mg_dev.specs.Files.{bytes_at}
use Rattle.mg_dev.specs.Names.{full_name}
use Rattle.mg_dev.specs.declared.part.Part.TheVariants as part
use Rattle.mg_layout.specs.HeadAnswers.{fields_of}
use Rattle.mg_check_parts.proofs.CallerLemmas.{cause_behind, head_read}
use Rattle.mg_check.proofs.FoundLaws.{early-err, early-found, early-none, head-refused, loaded-head, no-head, set-found, set-none-here, set-refused}
use Rattle.mg_layout.proofs.CallerLemmas.{no_empty_head}
use Rattle.mg_check.proofs.found.check_files.Goals as goal

pub returns-in-Err : goal.returns-in-Err
returns-in-Err g c = record {
  found = record {
    stands = λ told. tt;
    cause = rw c.from.ensures (head-refused (g.S.Store.files c.args.store.now) c.args.base.now c.in-Err.refusal _ _
        c.in-Err.ensures.answer c.in-Err.ensures.back c.in-Err.ensures.cause);
    early = λ told none. early-err c.in-Err.refusal c.from.result c.from.ensures c.in-Err.ensures.within;
    same = c.load.ensures.files;
    unread = head_read _ _ c.load.ensures.reads;
    later = c.in-Err.ensures.cause.later;
  };
}

pub returns-in-None : goal.returns-in-None
returns-in-None g c = record {
  found = record {
    stands = λ told. tt;
    cause = λ told. no-head (bytes_at (g.S.Store.files c.args.store.now) (full_name c.args.base.now part.Head)) c.in-Ok.loaded c.in-None.is (c.in-Ok.ensures.answer told);
    early = λ told none. early-none;
    same = c.load.ensures.files;
    unread = head_read _ _ c.load.ensures.reads;
    later = c.in-Ok.ensures.cause.later;
  };
}

pub returns-in-Ok-check_set : goal.returns-in-Ok-check_set
returns-in-Ok-check_set g c = record {
  found = record {
    stands = λ told.
        set-found (g.S.Store.files c.args.store.now) (g.S.Store.files c.load.new.store) c.args.base.now c.in-Some.head c.in-Some.head.documents
        c.in-Some.head.collection c.load.ensures.files (λ some is. c.in-Ok-check_set.ensures.set.stands (record { told = some; is = is })) told
        (loaded-head (bytes_at (g.S.Store.files c.args.store.now) (full_name c.args.base.now part.Head)) c.in-Ok.loaded c.in-Some.head c.in-Some.is (c.in-Ok.ensures.answer told));
    cause = tt;
    early = λ told none. early-found _;
    same = c.check_set.ensures.set.looks.files ∙ c.load.ensures.files;
    unread = c.check_set.ensures.set.looks.unread ∙ head_read _ _ c.load.ensures.reads;
    later = omega (arith, c.in-Ok.ensures.cause.later, c.check_set.ensures.set.looks.cause.later);
  };
}

pub returns-in-Err-check_set : goal.returns-in-Err-check_set
returns-in-Err-check_set g c = record {
  found = record {
    stands = λ told. tt;
    cause = rw c.from-in-Err-check_set.ensures (set-refused (g.S.Store.files c.args.store.now) c.args.base.now c.in-Some.head c.in-Err-check_set.refusal _ _
        (λ told. loaded-head (bytes_at (g.S.Store.files c.args.store.now) (full_name c.args.base.now part.Head)) c.in-Ok.loaded c.in-Some.head c.in-Some.is (c.in-Ok.ensures.answer told))
        (λ told. set-none-here (g.S.Store.files c.args.store.now) (g.S.Store.files c.load.new.store) c.args.base.now c.in-Some.head c.in-Err-check_set.refusal
        c.load.ensures.files (λ some is. c.in-Err-check_set.ensures.set.none (record { told = some; is = is })) told
        (loaded-head (bytes_at (g.S.Store.files c.args.store.now) (full_name c.args.base.now part.Head)) c.in-Ok.loaded c.in-Some.head c.in-Some.is (c.in-Ok.ensures.answer told)))
        (cause_behind c.in-Ok.ensures.cause.later c.in-Err-check_set.ensures.set.looks.cause));
    early = λ told none.
        absurd (no_empty_head (bytes_at (g.S.Store.files c.args.store.now) (full_name c.args.base.now part.Head)) (fields_of c.in-Some.head)
        (loaded-head (bytes_at (g.S.Store.files c.args.store.now) (full_name c.args.base.now part.Head)) c.in-Ok.loaded c.in-Some.head c.in-Some.is (c.in-Ok.ensures.answer told)) none);
    same = c.check_set.ensures.set.looks.files ∙ c.load.ensures.files;
    unread = c.check_set.ensures.set.looks.unread ∙ head_read _ _ c.load.ensures.reads;
    later = omega (arith, c.in-Ok.ensures.cause.later, c.check_set.ensures.set.looks.cause.later);
  };
}
