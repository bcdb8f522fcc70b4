use Rattle.std.proofs.Common.{◌≡◌, ◌≤◌, ◌++◌, List, length, take, drop, IsSome}
use Rattle.mg_defs.specs.declared.Posting.{Posting}
use Rattle.mg_defs.specs.declared.TermPosting.{TermPosting}
use Rattle.mg_post.specs.Writing.{PushedMore, SameFiles}
use Rattle.mg_index.specs.Listing.{CanList, IsInList, OfPostings}
use Rattle.mg_index.specs.Steps.{MergeStep}
use Rattle.mg_index.proofs.one_list.take_postings.Given as goal

abbrev pub invariant-loop : goal.invariant-loop
invariant-loop g l = record {
  can : CanList l.merge l.lists l.sums.items (g.S.Store.files l.store);
  pushed : PushedMore l.initial.lists l.lists l.counter;
  last : l.lists.last ≡ l.last;
  told : IsSome (g.S.Store.files l.initial.store) → (done : List (List Posting)) (ps left : List Posting) (later : List TermPosting) → l.docs ≤ length left →
      IsInList l.number l.initial.merge l.initial.lists l.initial.sums.items (g.S.Store.files l.initial.store) done ps left later →
      IsInList l.number l.merge l.lists l.sums.items (g.S.Store.files l.store) done (ps ++ take l.counter left) (drop l.counter left) later;
  names : SameFiles l.initial.lists l.lists;
  step : MergeStep OfPostings l.initial.merge.base l.initial.merge l.merge (g.S.Store.files l.initial.store) (g.S.Store.files l.store)
      (g.S.Store.reads l.initial.store) (g.S.Store.reads l.store) (g.S.Store.faults l.initial.store) (g.S.Store.faults l.store);
}
