use Rattle.std.proofs.Common.{arith}
use Rattle.mg_text.specs.Reading.{stored_at}
use Rattle.mg_text.proofs.LoadLaws.{cause_then, looked_nowhere, looked_then, models_stand, size_refused}
use Rattle.mg_text.proofs.ReaderLaws.{models_refused, reader_refused, sizes_stand}
use Rattle.mg_text.proofs.text_reader.TextReader.load.Goals as goal

pub returns-in-Err : goal.returns-in-Err
returns-in-Err g c =
    let e = c.in-Err.ensures in
    record {
      fits = tt;
      reader = tt;
      answer = λ told. size_refused (stored_at (g.S.Store.files c.args.store.now) c.args.base.now c.args.head.now) c.in-Err.refusal (e.answer told);
      unread = λ told differs. e.reads;
      stands = λ code collection it. tt;
      code = λ code collection it. tt;
      never_bad = λ code collection it.
          sizes_stand c.args.base.now (g.S.Store.files c.args.store.now) c.args.head.now code collection c.in-Err.refusal it (e.answer it.models.told);
      looked = looked_nowhere e.files e.reads e.cause.later;
      cause = cause_then c.in-Err.refusal (omega arith) e.cause;
    }

pub returns-in-Err-load : goal.returns-in-Err-load
returns-in-Err-load g c =
    let sizes = c.in-Ok.ensures in
    let e = c.in-Err-load.ensures in
    record {
      fits = tt;
      reader = tt;
      answer = λ told. models_refused c.args.base.now (g.S.Store.files c.args.store.now) (g.S.Store.files c.expect_sizes.new.store)
          c.args.head.now c.in-Err-load.refusal sizes.files (sizes.answer told) e.answer told;
      unread = λ told differs. absurd (differs (sizes.answer told));
      stands = λ code collection it. tt;
      code = λ code collection it. tt;
      never_bad = λ code collection it. models_stand c.in-Err-load.refusal it sizes.files e.standing;
      looked = looked_then sizes.files sizes.reads sizes.cause.later e.looked;
      cause = cause_then c.in-Err-load.refusal sizes.cause.later e.cause;
    }

pub returns-in-Err-over : goal.returns-in-Err-over
returns-in-Err-over g c =
    let sizes = c.in-Ok.ensures in
    let e = c.in-Ok-load.ensures in
    record {
      fits = tt;
      reader = tt;
      answer = λ told. reader_refused c.args.base.now (g.S.Store.files c.args.store.now) (g.S.Store.files c.expect_sizes.new.store)
          c.args.head.now c.in-Ok-load.model sizes.files (sizes.answer told) e.answer told;
      unread = λ told differs. absurd (differs (sizes.answer told));
      stands = λ code collection it. tt;
      code = λ code collection it. tt;
      never_bad = λ code collection it. tt;
      looked = looked_then sizes.files sizes.reads sizes.cause.later e.looked;
      cause = record { later = omega (arith, sizes.cause.later, e.cause.later); device = tt };
    }

pub returns-in-Ok-over-clause-unread : goal.returns-in-Ok-over-clause-unread
returns-in-Ok-over-clause-unread g c = λ told differs. absurd (differs (c.in-Ok.ensures.answer told))

pub returns-in-Ok-over-clause-never_bad : goal.returns-in-Ok-over-clause-never_bad
returns-in-Ok-over-clause-never_bad g c = λ code collection it. tt

pub returns-in-Ok-over-clause-looked : goal.returns-in-Ok-over-clause-looked
returns-in-Ok-over-clause-looked g c = looked_then c.in-Ok.ensures.files c.in-Ok.ensures.reads c.in-Ok.ensures.cause.later c.in-Ok-load.ensures.looked

pub returns-in-Ok-over-clause-cause : goal.returns-in-Ok-over-clause-cause
returns-in-Ok-over-clause-cause g c = record { later = omega (arith, c.in-Ok.ensures.cause.later, c.in-Ok-load.ensures.cause.later); device = tt }
