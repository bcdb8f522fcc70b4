use Rattle.std.proofs.Common.{Err, ◌∙◌, sym}
use Rattle.mg_dev.specs.declared.part_err.PartErr.TheVariants.{Memory}
use Rattle.mg_check_index.specs.Counting.{AreOwn, TermsStand}
use Rattle.mg_check_text.proofs.CallerLemmas.{text_err, text_ok, text_own}
use Rattle.mg_check.proofs.TallyText.{own_stand, refuted, stand_own, text_none}
use Rattle.mg_check.proofs.counting.check_terms.Goals as goal

pub count_text-requires-clause-tallied : goal.count_text-requires-clause-tallied
count_text-requires-clause-tallied g c =
    text_none c.in-Ok.tally (g.S.Store.files c.args.store.now) c.args.of.now.table.now.terms c.args.reader.now
    (c.in-Ok.ensures.tallied (g.S.Store.files c.args.store.now) c.args.of.now.table.now.terms (sym c.count.ensures.count))

pub returns-in-Err-clause-text : goal.returns-in-Err-clause-text
returns-in-Err-clause-text g c = text_own Memory _ _ _ c.requires.text.fits tt

pub returns-in-Err-count_text-clause-other : goal.returns-in-Err-count_text-clause-other
returns-in-Err-count_text-clause-other g c = λ text stand.
    let files = g.S.Store.files c.args.store.now in
    refuted (AreOwn c.in-Ok.tally files text) (TermsStand c.args.of.now.base.now files c.args.of.now.cap text) {T = Unit {0}} (Err c.in-Err-count_text.refusal)
    (stand_own c.in-Ok.tally files c.args.of.now.base.now c.args.of.now.cap text (record { weights = c.in-Ok.ensures.weights; run = c.in-Ok.ensures.run; cap_is = c.in-Ok.ensures.cap }))
    (c.in-Err-count_text.ensures.other text stand)

pub returns-in-Err-count_text-clause-text : goal.returns-in-Err-count_text-clause-text
returns-in-Err-count_text-clause-text g c = text_err c.in-Err-count_text.ensures.text

pub returns-clause-counted : goal.returns-clause-counted
returns-clause-counted g c = λ text stand.
    let it = c.in-Ok-count_text.ensures.tallied text stand in
    record {
      stand =
          own_stand c.in-Ok.tally (g.S.Store.files c.args.store.now) c.args.of.now.base.now c.args.of.now.cap text
          (record { weights = c.in-Ok.ensures.weights; run = c.in-Ok.ensures.run; cap_is = c.in-Ok.ensures.cap }) it.own;
      docs = c.docs.ensures ∙ it.docs;
      occurrences = c.occurrences-occurrences.ensures ∙ it.occurrences;
    }

pub returns-clause-text : goal.returns-clause-text
returns-clause-text g c = text_ok c.in-Ok-count_text.ensures.text
