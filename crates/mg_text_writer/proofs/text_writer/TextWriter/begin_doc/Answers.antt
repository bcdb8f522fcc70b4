use Rattle.std.proofs.Common.{[], rules}
use Rattle.mg_text_writer.proofs.WriterLaws.{text_counts, took_begun}
use Rattle.mg_text_writer.proofs.text_writer.TextWriter.begin_doc.Goals as goal

pub returns : goal.returns
returns g c =
    let closed = rw (← c.self.view_is) at c.requires.closed in
    let few = rw (← c.self.view_is) at c.requires.docs in
    let small = rw (← c.self.view_is) at c.requires.pairs in
    let place = c.in_ok-put_place.ensures in
    let e = c.in_ok-put_gamma.ensures in
    record {
      took = rw (c.from-count.ensures, ← c.self.view_is)
          (λ docs took. took_begun docs c.args.pairs (rw c.place.ensures at place.bytes) place.wrote (rw c.from-count.ensures at e.bits) e.wrote e.holds closed few small took);
      numbers = search rules;
      base = search rules;
      others = search rules;
      told = search rules;
      reads = search rules;
      cause = search rules;
    }

pub put_gamma-requires-clause-holds : goal.put_gamma-requires-clause-holds
put_gamma-requires-clause-holds g c =
    let took = rw (← c.self.view_is) at c.requires.took in
    text_counts _ _ _ _ _ took.0 [] took.1 c.in_ok-put_place.ensures.wrote
