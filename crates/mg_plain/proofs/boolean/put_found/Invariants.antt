use Rattle.std.proofs.Common.{◌≡◌, ◌≤◌, length, vec_len}
use Rattle.mg_defs.specs.QueryTerms.{query_terms}
use Rattle.mg_query.specs.QueryOf.{query_of}
use Rattle.mg_plain.specs.BooleanUnderWay.{FoundSoFar}
use Rattle.mg_plain.proofs.boolean.put_found.Given as goal

abbrev pub invariant-docs : goal.invariant-docs
invariant-docs g l = record {
  scanned : FoundSoFar l.fn.bytes (query_of l.fn.query) l.fn.now (g.O.Sink.written l.fn.out) (g.O.Sink.written l.out) l.pending l.number l.total l.docs;
  few : l.total ≤ l.number;
  counts : vec_len l.counted.counts ≡ length (query_terms (query_of l.fn.query));
  there : vec_len l.counted.there ≡ length (query_terms (query_of l.fn.query));
  faults : g.O.Sink.faults l.fn.out ≤ g.O.Sink.faults l.out;
  lacks : g.O.Sink.lacks l.fn.out ≤ g.O.Sink.lacks l.out;
}

abbrev pub decreases-docs : goal.decreases-docs
decreases-docs g l = length l.docs
