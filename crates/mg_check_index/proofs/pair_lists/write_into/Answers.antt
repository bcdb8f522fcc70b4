use Rattle.std.proofs.Common.{subst}
use Rattle.mg_check_index.specs.InPair.{pair_files}
use Rattle.mg_check_index.specs.PairCalls.{WritesList}
use Rattle.mg_check_index.proofs.PairLaws.{kept, looks-kept, made-kept, own-part, puts-kept, same-references}
use Rattle.mg_check_index.proofs.pair_lists.write_into.Goals as goal

pub returns-clause-same : goal.returns-clause-same
returns-clause-same g c = same-references (kept (made-kept _ _ _ _ c.write_list.ensures.step.reads))

pub returns-clause-compared : goal.returns-clause-compared
returns-clause-compared g c =
    let step = c.write_list.ensures.step in
    let is = kept (made-kept _ _ _ _ step.reads) in
    record {
      written = subst (λ f. WritesList c.args.postings.now c.args.count c.args.all c.args.writer.now c.write_list.new.writer
          (pair_files (g.S.Store.files c.args.into.now.store.now) c.args.into.now.pair.now) (pair_files f c.write_list.new.store.pair.now)
          c.write_list.result) is.files c.write_list.ensures.written;
      same = step.same;
      puts = puts-kept is (own-part _ _ _ _ c.requires.unread (looks-kept _ _ _ _ step.reads) step.cause);
    }
