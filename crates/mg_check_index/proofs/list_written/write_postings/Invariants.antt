use Rattle.std.proofs.Common.{◌≡◌, ◌≤◌, ◌^◌, Ok, List, [], take, drop}
use Rattle.mg_dev.specs.Moments.{Between}
use Rattle.mg_defs.specs.declared.Posting.{Posting}
use Rattle.mg_defs.specs.Lists.{Rises}
use Rattle.mg_post.specs.Writing.{PushedMore, Took}
use Rattle.mg_check_index.specs.Anew.{PutsLists}
use Rattle.mg_check_index.proofs.list_written.write_postings.Given as goal

abbrev pub invariant-loop-index : goal.invariant-loop-index
invariant-loop-index g l = record {
  took : (done : List (List Posting)) → Took l.initial.writer (g.T.Store.files l.initial.store) done [] →
      Took l.writer (g.T.Store.files l.store) done (take l.index l.postings);
  pushed : PushedMore l.initial.writer l.writer l.index;
  last : l.writer.last ≡ l.last;
  few : l.last ≤ 2 ^ 24;
  puts : Between g.T.Store.files g.T.Store.reads g.T.Store.faults l.initial.store l.store (PutsLists {T = Unit {0}} l.initial.writer l.writer (Ok tt));
  rises : Rises l.all 0 l.postings → Rises l.all l.last (drop l.index l.postings);
}
