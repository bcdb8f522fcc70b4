use Rattle.mg_check_index.proofs.NewListsLaws.{holds-written}
use Rattle.mg_check_index.proofs.PairLaws.{kept, looks-kept, made-kept, own-put, put-done, put-part, puts-kept, same-references, told-pair}
use Rattle.mg_check_index.proofs.pair_lists.finish_into.Goals as goal

pub returns-in-Ok-clause-same : goal.returns-in-Ok-clause-same
returns-in-Ok-clause-same g c = same-references (kept (made-kept _ _ _ _ c.finish.ensures.step.reads))

pub returns-in-Err-clause-same : goal.returns-in-Err-clause-same
returns-in-Err-clause-same g c = same-references (kept (made-kept _ _ _ _ c.finish.ensures.step.reads))

pub returns-in-Ok-clause-finished : goal.returns-in-Ok-clause-finished
returns-in-Ok-clause-finished g c =
    let is = kept (made-kept _ _ _ _ c.finish.ensures.step.reads) in
    let cause = own-put _ _ _ _ c.requires.unread (looks-kept _ _ _ _ c.finish.ensures.step.reads) c.finish.ensures.step.cause in
    let old = g.S.Store.files c.args.into.now.store.now in
    let now = g.S.Store.files c.finish.new.store.store.now in
    let p = c.args.into.now.pair.now in
    record {
      holds = λ told done took.
          holds-written old now p c.finish.new.store.pair.now c.args.writer.now done is.files is.places c.requires.goes told
          (c.in-Ok.ensures.bytes done took (told-pair old p told));
      never_bad = tt;
      same = c.finish.ensures.step.same;
      puts = puts-kept is (put-done _ _ cause);
    }

pub returns-in-Err-clause-finished : goal.returns-in-Err-clause-finished
returns-in-Err-clause-finished g c =
    let is = kept (made-kept _ _ _ _ c.finish.ensures.step.reads) in
    let cause = own-put _ _ _ _ c.requires.unread (looks-kept _ _ _ _ c.finish.ensures.step.reads) c.in-Err.ensures.step.cause in
    record {
      holds = λ told done took. tt;
      never_bad = c.refusal_of.ensures.never_bad;
      same = c.finish.ensures.step.same;
      puts = puts-kept is (put-part _ _ _ _ c.refusal_of.ensures.failed cause);
    }
