use Rattle.std.proofs.Common.{rules, [], subst}
use Rattle.mg_lex.specs.Writing.{TookTerms}
use Rattle.mg_check_index.specs.InPair.{pair_files}
use Rattle.mg_check_index.proofs.PairLaws.{kept, looks-kept, made-kept, own-put, put-done, put-part, puts-kept, same-references}
use Rattle.mg_check_index.proofs.pair_lexicon.start_into.Goals as goal

pub returns-in-Ok-clause-same : goal.returns-in-Ok-clause-same
returns-in-Ok-clause-same g c = same-references (kept (made-kept _ _ _ _ c.start.ensures.writes.reads))

pub returns-in-Err-clause-same : goal.returns-in-Err-clause-same
returns-in-Err-clause-same g c = same-references (kept (made-kept _ _ _ _ c.start.ensures.writes.reads))

pub returns-in-Ok-clause-started : goal.returns-in-Ok-clause-started
returns-in-Ok-clause-started g c =
    let is = kept (made-kept _ _ _ _ c.start.ensures.writes.reads) in
    let cause = own-put _ _ _ _ c.requires.unread (looks-kept _ _ _ _ c.start.ensures.writes.reads) c.start.ensures.writes.cause in
    record {
      took = subst (λ f. TookTerms c.in-Ok.writer (pair_files f c.start.new.store.pair.now) []) is.files c.in-Ok.ensures.took;
      base = search rules;
      never_bad = tt;
      puts = puts-kept is (put-done _ _ cause);
    }

pub returns-in-Err-clause-started : goal.returns-in-Err-clause-started
returns-in-Err-clause-started g c =
    let is = kept (made-kept _ _ _ _ c.start.ensures.writes.reads) in
    let cause = own-put _ _ _ _ c.requires.unread (looks-kept _ _ _ _ c.start.ensures.writes.reads) c.in-Err.ensures.writes.cause in
    record {
      took = tt;
      base = tt;
      never_bad = c.refusal_of.ensures.never_bad;
      puts = puts-kept is (put-part _ _ _ _ c.refusal_of.ensures.failed cause);
    }
