use Rattle.std.proofs.Common.{rules}
use Rattle.mg_dev.specs.Moments.{Between}
use Rattle.mg_check_index.specs.PairCalls.{WritesTerm}
use Rattle.mg_check_index.proofs.PairLaws.{told-last}
use Rattle.mg_check_index.proofs.pair_lexicon.push_term.Goals as goal

pub returns : goal.returns
returns g c =
    let store = c.push_into.ensures.same.store in
    let pair = c.push_into.ensures.same.pair in
    record {
      written = told-last
          (λ p s. Between g.S.Store.files g.S.Store.reads g.S.Store.faults c.args.store.now s (WritesTerm c.args.term.now c.args.info.now
          c.args.writer.now c.push_into.new.writer c.args.pair.now p c.push_into.result))
          c.push_into.new.into.pair.now _ c.push_into.new.into.store.now _ (search rules) (search rules) c.push_into.ensures.written;
    }
