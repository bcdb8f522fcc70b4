use Rattle.std.proofs.Common.{subst}
use Rattle.mg_lex.specs.Writing.{TookTermMore, told_term}
use Rattle.mg_check_index.specs.InPair.{pair_files}
use Rattle.mg_check_index.proofs.PairLaws.{kept, looks-kept, made-kept, own-put, put-done, put-part, puts-kept, same-references}
use Rattle.mg_check_index.proofs.pair_lexicon.push_into.Goals as goal

pub returns-in-Ok-clause-same : goal.returns-in-Ok-clause-same
returns-in-Ok-clause-same g c = same-references (kept (made-kept _ _ _ _ c.push.ensures.writes.reads))

pub returns-in-Err-clause-same : goal.returns-in-Err-clause-same
returns-in-Err-clause-same g c = same-references (kept (made-kept _ _ _ _ c.push.ensures.writes.reads))

pub returns-in-Ok-clause-written : goal.returns-in-Ok-clause-written
returns-in-Ok-clause-written g c =
    let is = kept (made-kept _ _ _ _ c.push.ensures.writes.reads) in
    let cause = own-put _ _ _ _ c.requires.unread (looks-kept _ _ _ _ c.push.ensures.writes.reads) c.push.ensures.writes.cause in
    record {
      took = subst (λ f. TookTermMore c.args.writer.now c.push.new.self
          (pair_files (g.S.Store.files c.args.into.now.store.now) c.args.into.now.pair.now) (pair_files f c.push.new.store.pair.now)
          (told_term c.args.term.now c.args.info.now)) is.files c.in-Ok.ensures.took;
      count = c.in-Ok.ensures.count;
      last = c.in-Ok.ensures.last;
      base = c.push.ensures.base;
      never_bad = tt;
      puts = puts-kept is (put-done _ _ cause);
    }

pub returns-in-Err-clause-written : goal.returns-in-Err-clause-written
returns-in-Err-clause-written g c =
    let is = kept (made-kept _ _ _ _ c.push.ensures.writes.reads) in
    let cause = own-put _ _ _ _ c.requires.unread (looks-kept _ _ _ _ c.push.ensures.writes.reads) c.in-Err.ensures.writes.cause in
    record {
      took = tt;
      count = tt;
      last = tt;
      base = c.push.ensures.base;
      never_bad = c.refusal_of.ensures.never_bad;
      puts = puts-kept is (put-part _ _ _ _ c.refusal_of.ensures.failed cause);
    }
