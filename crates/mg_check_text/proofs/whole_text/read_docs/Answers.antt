use Rattle.std.proofs.Common.{◌+◌, ◌∙◌, ℕ, ap, sym, subst, IsSome}
use Rattle.mg_layout.specs.Stands.{parts_at}
use Rattle.mg_check_text.proofs.ReadLaws.{text_err, text_none, text_ok, text_own, text_then}
use Rattle.mg_check_text.proofs.NextLaws.{code-range, docs-more, docs-none, none-yet, reads_on}
use Rattle.mg_dev.specs.declared.part_err.PartErr.TheVariants.{Memory}
use Rattle.mg_check_text.proofs.whole_text.read_docs.Goals as goal

pub next_doc-requires-clause-can : goal.next_doc-requires-clause-can
next_doc-requires-clause-can g c =
    let inv = c.loop-number.invariant in
    record { reads = reads_on c.requires.reads inv.text.fits inv.text.same; pages = inv.pages }

pub next_doc-requires-clause-range : goal.next_doc-requires-clause-range
next_doc-requires-clause-range g c = code-range c.loop-number.invariant.text.same.code c.loop-number.invariant.range

pub loop-number-init : goal.loop-number-init
loop-number-init g c =
    let none = c.in-Ok.ensures.none (parts_at (g.S.Store.files c.args.store.now) c.args.set.now.base.now) c.args.set.now.head.now.version in
    record {
      text = text_none (g.S.Store.files c.args.store.now) (g.S.Store.reads c.args.store.now) (g.S.Store.faults c.args.store.now) c.requires.reads.fits;
      pages = c.requires.pages;
      range = code-range (sym c.model.ensures) (c.in-Ok.ensures.range c.args.set.now.head.now);
      count = sym none.count;
      found = λ told. none-yet c.model.ensures none;
    }

pub loop-number-preserved : goal.loop-number-preserved
loop-number-preserved g c =
    let inv = c.loop-number.invariant in
    let e = c.in-Ok-next_doc.ensures in
    record {
      text = text_then inv.text e.read.text;
      pages = e.pages;
      range = code-range (sym inv.text.same.code) e.range;
      count = e.count ∙ ap (λ (n : ℕ). n + 1) inv.count;
      found = λ told. docs-more c.args.set.now.base.now inv.text.looks.files inv.text.same.code (inv.found told)
          (e.read.found (subst (λ f. IsSome f) (sym inv.text.looks.files) told));
    }

pub returns-in-Err-clause-read : goal.returns-in-Err-clause-read
returns-in-Err-clause-read g c = record { found = λ told. tt; none = λ loaded. tt; text = text_own Memory _ _ _ c.requires.reads.fits tt }

pub returns-in-Err-next_doc-clause-read : goal.returns-in-Err-next_doc-clause-read
returns-in-Err-next_doc-clause-read g c =
    let inv = c.loop-number.invariant in
    let e = c.in-Err-next_doc.ensures.read in
    record {
      found = λ told. tt;
      none = λ loaded. docs-none c.in-Err-next_doc.refusal inv.text.looks.files inv.text.same loaded (inv.found loaded.told) e.none;
      text = text_err (text_then inv.text e.text);
    }

pub returns-clause-read : goal.returns-clause-read
returns-clause-read g c = record { found = c.loop-number.invariant.found; none = λ loaded. tt; text = text_ok c.loop-number.invariant.text }

pub returns-clause-pages : goal.returns-clause-pages
returns-clause-pages g c = c.loop-number.invariant.pages
