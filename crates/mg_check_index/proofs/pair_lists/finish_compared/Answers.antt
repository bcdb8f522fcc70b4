use Rattle.std.proofs.Common.{rules}
use Rattle.mg_dev.specs.Moments.{Between}
use Rattle.mg_check_index.specs.PairCalls.{FinishesLists}
use Rattle.mg_check_index.proofs.PairLaws.{told-last}
use Rattle.mg_check_index.proofs.pair_lists.finish_compared.Goals as goal

pub returns : goal.returns
returns g c =
    let store = c.finish_into.ensures.same.store in
    let pair = c.finish_into.ensures.same.pair in
    record {
      finished = told-last
          (λ p s. Between g.S.Store.files g.S.Store.reads g.S.Store.faults c.args.store.now s (FinishesLists c.args.writer.now c.finish_into.new.writer c.args.pair.now p c.finish_into.result))
          c.finish_into.new.into.pair.now _ c.finish_into.new.into.store.now _ (search rules) (search rules) c.finish_into.ensures.finished;
    }
