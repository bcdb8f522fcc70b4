use Rattle.std.proofs.Common.{arith, Err, ◌≡◌, ◌+◌, ℕ, subst}
use Rattle.mg_check_index.specs.Counting.{AreOwn}
use Rattle.mg_check.specs.CountedText.{TalliedText}
use Rattle.mg_check_index.proofs.CallerLemmas.{where_bad}
use Rattle.mg_check_text.proofs.CallerLemmas.{stands_on, terms_here, text_none, text_then}
use Rattle.mg_check.proofs.TallyText.{own_stays, parts_more, parts_same, same_back, text_same}
use Rattle.mg_check.proofs.counting.count_documents.Goals as goal

pub loop-before-init : goal.loop-before-init
loop-before-init g c = record { text = text_none _ _ _ c.requires.text.fits; tallied = c.requires.tallied; parts = parts_same c.args.tally.now }

pub count_document-requires-clause-text : goal.count_document-requires-clause-text
count_document-requires-clause-text g c = let text = c.loop-before.invariant.text in terms_here text.fits text.same c.requires.text

pub count_document-requires-clause-within : goal.count_document-requires-clause-within
count_document-requires-clause-within g c = omega (arith, c.loop-before-test.true, c.requires.text.all, c.loop-before.invariant.text.same.documents)

pub count_document-requires-clause-tallied : goal.count_document-requires-clause-tallied
count_document-requires-clause-tallied g c =
    let inv = c.loop-before.invariant in
    text_same c.loop-before.tally (g.S.Store.files c.loop-before.store) c.args.table.now.terms c.loop-before.before c.args.reader.now c.loop-before.reader inv.text.same inv.tallied

pub loop-before-preserved : goal.loop-before-preserved
loop-before-preserved g c =
    let inv = c.loop-before.invariant in
    record {
      text = text_then inv.text c.in-Ok.ensures.tallied.text;
      tallied = text_same c.count_document.new.tally (g.S.Store.files c.count_document.new.store) c.args.table.now.terms (c.loop-before.before + 1)
          c.loop-before.reader c.args.reader.now (same_back _ _ inv.text.same) c.in-Ok.ensures.tallied.taken;
      parts = parts_more _ _ _ inv.parts c.in-Ok.ensures.tallied.parts;
    }

pub returns-in-Err : goal.returns-in-Err
returns-in-Err g c = record {
  tallied = record {
    taken = tt;
    parts = parts_more _ _ _ c.loop-before.invariant.parts c.in-Err.ensures.tallied.parts;
    other = λ collection stand.
        let inv = c.loop-before.invariant in
        let files = inv.text.looks.files in
        where_bad {T = Unit {0}} (AreOwn c.loop-before.tally (g.S.Store.files c.loop-before.store) collection → ⊥)
        (AreOwn c.args.tally.now (g.S.Store.files c.args.store.now) collection → ⊥) (Err c.in-Err.refusal)
        (λ none own. none (own_stays c.args.tally.now c.loop-before.tally (g.S.Store.files c.args.store.now) (g.S.Store.files c.loop-before.store) collection inv.parts files own))
        (c.in-Err.ensures.tallied.other collection (stands_on _ _ _ _ collection inv.text.same files stand));
    text = text_then c.loop-before.invariant.text c.in-Err.ensures.tallied.text;
  };
}

pub returns : goal.returns
returns g c = record {
  tallied = record {
    taken =
        let all : c.loop-before.before ≡ c.args.documents = omega (arith, c.loop-before-test.false, c.loop-before.auto) in
        subst (λ (n : ℕ). TalliedText c.loop-before.tally (g.S.Store.files c.loop-before.store) c.args.table.now.terms n c.args.reader.now) all c.loop-before.invariant.tallied;
    parts = c.loop-before.invariant.parts;
    other = λ collection stand. tt;
    text = c.loop-before.invariant.text;
  };
}
