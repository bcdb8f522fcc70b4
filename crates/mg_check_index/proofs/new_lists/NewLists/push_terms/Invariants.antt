use Rattle.std.proofs.Common.{◌+◌, ℕ, List, Ok}
use Rattle.mg_dev.specs.Moments.{Between}
use Rattle.mg_check_index.specs.Anew.{WritesTerms}
use Rattle.mg_check_index.specs.InPair.{pair_files}
use Rattle.mg_check_index.specs.Listing.{CanList, CanPush, HasListed}
use Rattle.mg_check_index.proofs.new_lists.NewLists.push_terms.Given as goal

abbrev pub invariant-loop-index : goal.invariant-loop-index
invariant-loop-index g l = record {
  can : CanList l.lists l.index l.self.writer (pair_files (g.S.Store.files l.initial.store) l.self.pair);
  push : CanPush l.of.table.now.terms (l.lists.first + l.index) l.lexicon.writer (pair_files (g.S.Store.files l.initial.store) l.lexicon.pair);
  listed : (collection : List ℕ) → HasListed l.lists l.of.table.now.terms l.before 0 collection l.initial.self.writer
      (pair_files (g.S.Store.files l.initial.store) l.initial.self.pair) l.initial.lexicon.writer (pair_files (g.S.Store.files l.initial.store) l.initial.lexicon.pair) →
      HasListed l.lists l.of.table.now.terms l.before l.index collection l.self.writer (pair_files (g.S.Store.files l.initial.store) l.self.pair) l.lexicon.writer
      (pair_files (g.S.Store.files l.initial.store) l.lexicon.pair);
  step : Between g.S.Store.files g.S.Store.reads g.S.Store.faults l.initial.store l.store (WritesTerms {T = Unit {0}} l.initial.self l.self l.initial.lexicon l.lexicon (Ok tt));
}
