use Rattle.std.proofs.Common.{rules}
use Rattle.mg_dev.specs.Moments.{Between}
use Rattle.mg_check_index.specs.PairCalls.{ComparesList}
use Rattle.mg_check_index.proofs.PairLaws.{told-last}
use Rattle.mg_check_index.proofs.pair_lists.write_compared.Goals as goal

pub returns : goal.returns
returns g c =
    let store = c.write_into.ensures.same.store in
    let pair = c.write_into.ensures.same.pair in
    record {
      compared = told-last
          (λ p s. Between g.S.Store.files g.S.Store.reads g.S.Store.faults c.args.store.now s (ComparesList c.args.postings.now c.args.count c.args.all
          c.args.writer.now c.write_into.new.writer c.args.pair.now p c.write_into.result))
          c.write_into.new.into.pair.now _ c.write_into.new.into.store.now _ (search rules) (search rules) c.write_into.ensures.compared;
    }
