use Rattle.std.proofs.Common.{arith, ◌+◌, ◌≡◌, ◌∙◌, refl, sym, length}
use Rattle.mg_defs.specs.Split.{documents}
use Rattle.mg_text.proofs.CallerLemmas.{adds_less, adds_more, adds_none}
use Rattle.mg_decode.proofs.DocumentLaws.{first_most, looked_more, looked_none, next_fits, refused_next, same_more, same_none, shown_next, shown_nothing, shown_whole, stands_on}
use Rattle.mg_decode.proofs.documents.show_documents.Goals as goal

pub loop-index-init : goal.loop-index-init
loop-index-init g c = record {
  fits = c.requires.fits;
  same = same_none _;
  looked = looked_none _ _ _ _ _;
  added = adds_none (first_most _ c.requires.empty);
  told = λ collection stands ends size. shown_nothing _ _ collection c.requires.empty;
}

pub returns-in-Err-clause-content : goal.returns-in-Err-clause-content
returns-in-Err-clause-content g c = λ collection stands ends size.
    let first = c.loop-index.invariant.told collection stands ends size in
    let still = stands_on _ _ _ _ collection c.loop-index.invariant.same c.loop-index.invariant.looked.files stands in
    let count = sym c.requires.documents ∙ stands.documents in
    let fits = next_fits collection c.loop-index.index (c.loop-index.index + 1) c.args.documents _ c.args.open_end c.is_closed-closed.result _ _ _
    count c.loop-index-test.true refl ends c.is_closed-closed.ensures first size in
    refused_next collection c.loop-index.index (c.loop-index.index + 1) c.args.documents _ c.args.open_end c.is_closed-closed.result _ _ _ _
    count c.loop-index-test.true refl ends c.is_closed-closed.ensures first
    (c.in-Err.ensures.content collection _ first.bytes _ still first.shown fits).0

pub returns-in-Err-clause-never_bad : goal.returns-in-Err-clause-never_bad
returns-in-Err-clause-never_bad g c = λ collection stands ends size.
    let first = c.loop-index.invariant.told collection stands ends size in
    let still = stands_on _ _ _ _ collection c.loop-index.invariant.same c.loop-index.invariant.looked.files stands in
    let fits = next_fits collection c.loop-index.index (c.loop-index.index + 1) c.args.documents _ c.args.open_end c.is_closed-closed.result _ _ _
    (sym c.requires.documents ∙ stands.documents) c.loop-index-test.true refl ends c.is_closed-closed.ensures first size in
    (c.in-Err.ensures.content collection _ first.bytes _ still first.shown fits).1

pub returns-in-Err-clause-added : goal.returns-in-Err-clause-added
returns-in-Err-clause-added g c = adds_less (adds_more c.loop-index.invariant.added c.in-Err.ensures.added) (omega arith)

pub loop-index-preserved : goal.loop-index-preserved
loop-index-preserved g c = record {
  fits = c.in-Ok.ensures.fits;
  same = same_more c.loop-index.invariant.same c.in-Ok.ensures.same;
  looked = looked_more c.loop-index.invariant.looked c.in-Ok.ensures.looked;
  added = adds_more c.loop-index.invariant.added c.in-Ok.ensures.added;
  told = λ collection stands ends size.
      let first = c.loop-index.invariant.told collection stands ends size in
      let still = stands_on _ _ _ _ collection c.loop-index.invariant.same c.loop-index.invariant.looked.files stands in
      let count = sym c.requires.documents ∙ stands.documents in
      let fits = next_fits collection c.loop-index.index (c.loop-index.index + 1) c.args.documents _ c.args.open_end c.is_closed-closed.result _ _ _
      count c.loop-index-test.true refl ends c.is_closed-closed.ensures first size in
      shown_next collection c.loop-index.index (c.loop-index.index + 1) c.args.documents _ c.args.open_end c.is_closed-closed.result _ _ _ _ _
      count c.loop-index-test.true refl ends c.is_closed-closed.ensures first
      (c.in-Ok.ensures.content collection _ first.bytes _ still first.shown fits).0;
}

pub returns-in-Ok-flush-clause-content : goal.returns-in-Ok-flush-clause-content
returns-in-Ok-flush-clause-content g c = λ collection stands ends size.
    let count : c.args.documents ≡ length (documents collection) = sym c.requires.documents ∙ stands.documents in
    c.in-Ok-flush.ensures.shown _ collection _
    (shown_whole collection c.loop-index.index _ _ _ _ (omega (arith, count, c.loop-index-test.false)) (c.loop-index.invariant.told collection stands ends size))

pub returns-in-Ok-flush-clause-added : goal.returns-in-Ok-flush-clause-added
returns-in-Ok-flush-clause-added g c = adds_less (adds_more c.loop-index.invariant.added c.in-Ok-flush.ensures.added) (omega arith)

pub returns-in-Err-flush-clause-content : goal.returns-in-Err-flush-clause-content
returns-in-Err-flush-clause-content g c = λ collection stands ends size.
    let count : c.args.documents ≡ length (documents collection) = sym c.requires.documents ∙ stands.documents in
    c.in-Err-flush.ensures.shown _ collection _
    (shown_whole collection c.loop-index.index _ _ _ _ (omega (arith, count, c.loop-index-test.false)) (c.loop-index.invariant.told collection stands ends size))

pub returns-in-Err-flush-clause-added : goal.returns-in-Err-flush-clause-added
returns-in-Err-flush-clause-added g c = adds_less (adds_more c.loop-index.invariant.added c.in-Err-flush.ensures.added) (omega arith)
