use Rattle.mg_dev.specs.Moments.{Between}
use Rattle.mg_check_index.specs.Counting.{SameParts}
use Rattle.mg_check.specs.CountedText.{TalliedText}
use Rattle.mg_check_text.specs.Reads.{HasReadText}
use Rattle.mg_check.proofs.counting.count_documents.Given as goal

abbrev pub invariant-loop-before : goal.invariant-loop-before
invariant-loop-before g l = record {
  text : Between g.S.Store.files g.S.Store.reads g.S.Store.faults l.initial.store l.store (HasReadText l.initial.reader l.reader);
  tallied : TalliedText l.tally (g.S.Store.files l.store) l.table.terms l.before l.initial.reader;
  parts : SameParts l.initial.tally l.tally;
}
