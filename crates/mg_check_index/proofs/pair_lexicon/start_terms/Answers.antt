use Rattle.std.proofs.Common.{rules}
use Rattle.mg_dev.specs.Moments.{Between}
use Rattle.mg_check_index.specs.PairCalls.{StartsTerms}
use Rattle.mg_check_index.proofs.PairLaws.{told-last}
use Rattle.mg_check_index.proofs.pair_lexicon.start_terms.Goals as goal

pub returns : goal.returns
returns g c =
    let store = c.start_into.ensures.same.store in
    let pair = c.start_into.ensures.same.pair in
    record {
      started = told-last
          (λ p s. Between g.S.Store.files g.S.Store.reads g.S.Store.faults c.args.store.now s (StartsTerms c.args.pair.now p c.start_into.result))
          c.start_into.new.into.pair.now _ c.start_into.new.into.store.now _ (search rules) (search rules) c.start_into.ensures.started;
    }
