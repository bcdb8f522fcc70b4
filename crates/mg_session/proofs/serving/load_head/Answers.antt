use Rattle.mg_dev.specs.Moments.{store_at}
use Rattle.mg_session.proofs.OpenLaws.{head_loaded, head_missing, head_refused}
use Rattle.mg_session.proofs.serving.load_head.Goals as goal

pub returns-in-Err-clause-opened : goal.returns-in-Err-clause-opened
returns-in-Err-clause-opened g c = rw c.from.ensures (head_refused c.args.base.now (store_at g.S.Store.files g.S.Store.reads g.S.Store.faults c.args.store.now)
    (store_at g.S.Store.files g.S.Store.reads g.S.Store.faults c.load.new.store) c.in-Err.refusal (record {
      answer = c.in-Err.ensures.answer;
      back = c.in-Err.ensures.back;
      files = c.in-Err.ensures.files;
      reads = c.in-Err.ensures.reads;
      cause = c.in-Err.ensures.cause;
    }))

pub returns-in-Some-clause-opened : goal.returns-in-Some-clause-opened
returns-in-Some-clause-opened g c = head_loaded c.args.base.now (store_at g.S.Store.files g.S.Store.reads g.S.Store.faults c.args.store.now)
    (store_at g.S.Store.files g.S.Store.reads g.S.Store.faults c.load.new.store) c.in-Ok.loaded c.in-Some.head c.in-Some.is (record {
      answer = c.in-Ok.ensures.answer;
      back = c.in-Ok.ensures.back;
      files = c.in-Ok.ensures.files;
      reads = c.in-Ok.ensures.reads;
      cause = c.in-Ok.ensures.cause;
    })

pub returns-in-None-clause-opened : goal.returns-in-None-clause-opened
returns-in-None-clause-opened g c = head_missing c.args.base.now (store_at g.S.Store.files g.S.Store.reads g.S.Store.faults c.args.store.now)
    (store_at g.S.Store.files g.S.Store.reads g.S.Store.faults c.load.new.store) c.in-Ok.loaded c.in-None.is (record {
      answer = c.in-Ok.ensures.answer;
      back = c.in-Ok.ensures.back;
      files = c.in-Ok.ensures.files;
      reads = c.in-Ok.ensures.reads;
      cause = c.in-Ok.ensures.cause;
    })
