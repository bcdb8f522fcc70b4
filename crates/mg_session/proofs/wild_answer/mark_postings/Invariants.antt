use Rattle.std.proofs.Common.{◌-◌, ◌≡◌, ◌≤◌}
use Rattle.mg_bits.specs.Pages.{Fits}
use Rattle.mg_post.specs.ListReading.{ForReader, ReaderFor, SameSource, current_doc, span_to}
use Rattle.mg_rank.specs.Ranked.{PostWithin}
use Rattle.mg_session.specs.WildMarks.{ReadsPost}
use Rattle.mg_session.proofs.WildListLaws.{Marking}
use Rattle.mg_session.proofs.wild_answer.mark_postings.Given as goal

abbrev pub invariant-loop-last : goal.invariant-loop-last
invariant-loop-last g l = record {
  most : l.last ≤ l.all;
  room : l.marked.all ≡ l.all;
  fits : Fits l.reader.post (g.S.Store.files l.store);
  all : l.reader.all ≡ l.all;
  same : SameSource l.fn.reader l.reader;
  current : current_doc l.reader ≡ l.last;
  files : g.S.Store.files l.store ≡ g.S.Store.files l.fn.store;
  reads : ReadsPost (g.S.Store.reads l.fn.store) (g.S.Store.reads l.store);
  faults : g.S.Store.faults l.fn.store ≤ g.S.Store.faults l.store;
  walk : ForReader (g.S.Store.files l.fn.store) 0 l.fn.reader (λ base collection t. Marking collection t l.last l.fn.marked l.marked);
  list : ForReader (g.S.Store.files l.fn.store) 0 l.fn.reader (λ base collection t. ReaderFor base collection t l.last l.reader);
  post : ForReader (g.S.Store.files l.fn.store) 0 l.fn.reader (λ base collection t. PostWithin g.S.Store.reads l.fn.store l.store (span_to collection t l.reader.reached));
}

abbrev pub decreases-loop-last : goal.decreases-loop-last
decreases-loop-last g l = l.all - l.last
