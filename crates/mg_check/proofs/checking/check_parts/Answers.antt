use Rattle.std.proofs.Common.{◌≡◌, ◌∙◌, Option, sym, subst}
use Rattle.mg_dev.specs.Files.{Files}
use Rattle.mg_check_index.specs.Counting.{TermsStand}
use Rattle.mg_check_index.specs.Listing.{IndexStands}
use Rattle.mg_check.specs.Rest.{Compares, PartsStand}
use Rattle.mg_check_parts.proofs.CallerLemmas.{looks_bad, looks_err, looks_then}
use Rattle.mg_check_text.proofs.CallerLemmas.{terms_stay}
use Rattle.mg_check.proofs.RestLaws.{compares-so, head-runs, index-of, refuted, terms-of-head, terms-of-size}
use Rattle.mg_check.proofs.checking.check_parts.Goals as goal

pub check_index-requires : goal.check_index-requires
check_index-requires g c = record { text = terms_stay c.in-Ok.ensures.text.fits c.in-Ok.ensures.text.same c.requires.text }

pub returns-in-Err : goal.returns-in-Err
returns-in-Err g c = record {
  parts = record {
    compares = λ collection stand.
        let size = c.run_size-size.result in
        refuted (TermsStand c.args.base.now (g.S.Store.files c.args.store.now) size collection)
        (PartsStand (g.S.Store.files c.args.store.now) c.args.base.now c.args.head.now collection) c.in-Err.refusal
        (λ parts. terms-of-size (g.S.Store.files c.args.store.now) c.args.base.now c.args.head.now size collection
        (head-runs c.args.head.now size collection c.run_size-size.ensures.least c.run_size-size.ensures.most c.run_size-size.ensures.enough parts.occurrences_are) parts.terms)
        (c.in-Err.ensures.other collection stand);
    looks = looks_err c.in-Err.ensures.text.looks;
  };
}

pub returns-in-Err-expect_number : goal.returns-in-Err-expect_number
returns-in-Err-expect_number g c = record {
  parts = record {
    compares = λ collection stand.
        refuted (c.args.head.now.occurrences ≡ c.in-Ok.counts.occurrences) (PartsStand (g.S.Store.files c.args.store.now) c.args.base.now c.args.head.now collection) c.in-Err-expect_number.refusal
        (λ parts. parts.occurrences_are ∙ sym ((c.in-Ok.ensures.counted collection stand).occurrences)) c.in-Err-expect_number.ensures.number.other;
    looks = looks_bad c.in-Err-expect_number.refusal c.in-Ok.ensures.text.looks c.in-Err-expect_number.ensures.own;
  };
}

pub returns : goal.returns
returns g c = record {
  parts = record {
    compares = λ collection stand.
        let files = g.S.Store.files c.args.store.now in
        let same : g.S.Store.files c.check_terms.new.store ≡ files = c.in-Ok.ensures.text.looks.files in
        let index = index-of files (g.S.Store.files c.check_terms.new.store) c.args.head.now c.args.reader.now c.check_terms.new.reader
        c.args.table.now c.deref.result.now c.in-Ok.counts.occurrences collection same c.in-Ok.ensures.text.same c.requires.text.table_is
        (c.deref.ensures.value ∙ (c.in-Ok.ensures.counted collection stand).docs) (c.in-Ok.ensures.counted collection stand).occurrences c.requires.reads.documents c.requires.reads.within stand in
        let size = c.run_size-size.result in
        let count = c.in-Ok-expect_number.ensures.number.stand ∙ (c.in-Ok.ensures.counted collection stand).occurrences in
        let runs = head-runs c.args.head.now size collection c.run_size-size.ensures.least c.run_size-size.ensures.most c.run_size-size.ensures.enough count in
        let terms = terms-of-head files c.args.base.now c.args.head.now size collection runs ((c.in-Ok.ensures.counted collection stand).stand) in
        compares-so (IndexStands files c.args.base.now collection) (PartsStand files c.args.base.now c.args.head.now collection) c.check_index.result
        (λ stands. record { occurrences_are = count; terms = terms; index = stands }) (λ parts. parts.index)
        (subst (λ (f : Option Files). Compares (IndexStands f c.args.base.now collection) c.check_index.result) same
        (record { stand = c.check_index.ensures.index.stand collection index; other = c.check_index.ensures.index.other collection index }));
    looks = looks_then c.in-Ok.ensures.text.looks c.check_index.ensures.index.text.looks;
  };
}
