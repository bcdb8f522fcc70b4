use Rattle.std.proofs.Common.{[], ◌∙◌, sym, subst}
use Rattle.mg_post.specs.Writing.{Took}
use Rattle.mg_check_index.specs.InPair.{pair_files}
use Rattle.mg_check_index.proofs.LexiconLaws.{post_name, skip_name}
use Rattle.mg_check_index.proofs.PairLaws.{kept, looks-kept, made-kept, own-put, put-done, put-part, puts-kept, same-references}
use Rattle.mg_check_index.proofs.pair_lists.start_into.Goals as goal

pub returns-in-Ok-clause-same : goal.returns-in-Ok-clause-same
returns-in-Ok-clause-same g c = same-references (kept (made-kept _ _ _ _ c.start.ensures.reads))

pub returns-in-Err-clause-same : goal.returns-in-Err-clause-same
returns-in-Err-clause-same g c = same-references (kept (made-kept _ _ _ _ c.start.ensures.reads))

pub returns-in-Ok-clause-started : goal.returns-in-Ok-clause-started
returns-in-Ok-clause-started g c =
    let is = kept (made-kept _ _ _ _ c.start.ensures.reads) in
    let cause = own-put _ _ _ _ c.requires.unread (looks-kept _ _ _ _ c.start.ensures.reads) c.start.ensures.cause in
    record {
      took = subst (λ f. Took c.in-Ok.writer (pair_files f c.start.new.store.pair.now) [] []) is.files c.in-Ok.ensures.took;
      nothing = c.in-Ok.ensures.nothing;
      all_are = c.in-Ok.ensures.all;
      goes = record {
        post = c.in-Ok.ensures.post ∙ post_name ∙ sym c.requires.files.post ∙ sym is.places.one.own;
        skip = c.in-Ok.ensures.skip ∙ skip_name ∙ sym c.requires.files.skip ∙ sym is.places.other.own;
      };
      never_bad = tt;
      puts = puts-kept is (put-done _ _ cause);
    }

pub returns-in-Err-clause-started : goal.returns-in-Err-clause-started
returns-in-Err-clause-started g c =
    let is = kept (made-kept _ _ _ _ c.start.ensures.reads) in
    let cause = own-put _ _ _ _ c.requires.unread (looks-kept _ _ _ _ c.start.ensures.reads) c.in-Err.ensures.cause in
    record {
      took = tt;
      nothing = tt;
      all_are = tt;
      goes = tt;
      never_bad = c.refusal_of.ensures.never_bad;
      puts = puts-kept is (put-part _ _ _ _ c.refusal_of.ensures.failed cause);
    }
