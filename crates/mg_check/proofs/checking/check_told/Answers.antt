use Rattle.std.proofs.Common.{arith, ◌≡◌, Option, length, ap, sym, subst}
use Rattle.mg_dev.specs.Files.{Files}
use Rattle.mg_text.specs.Reading.{TextFits}
use Rattle.mg_defs.specs.Terms.{dictionary}
use Rattle.mg_layout.specs.Stands.{parts_at}
use Rattle.mg_check.specs.Rest.{Compares, IsTold, PartsStand, RestStands}
use Rattle.mg_check_parts.proofs.CallerLemmas.{looks_then}
use Rattle.mg_check_text.proofs.CallerLemmas.{reads_on, same_text, stands_on, table_terms}
use Rattle.mg_check.proofs.RestLaws.{compares-so, refuted, rest-of, sizes-of}
use Rattle.mg_check.proofs.checking.check_told.Goals as goal

pub returns-in-Err : goal.returns-in-Err
returns-in-Err g c = record {
  rest = record {
    compares = λ collection stand.
        let files = g.S.Store.files c.args.store.now in
        let own = table_terms c.args.table.now c.args.reader.now files collection c.requires.table stand in
        refuted (IsTold (parts_at files c.args.base.now) c.args.head.now c.from-terms.result)
        (RestStands files c.args.base.now c.args.head.now collection) c.in-Err.refusal
        (λ rest. record {
          terms_are = omega (arith, rest.numbers.terms, ap length own, c.count.ensures.count, c.from-terms.ensures);
          sizes = sizes-of files c.args.base.now c.args.head.now collection rest;
        })
        (c.in-Err.ensures.told.compares stand.told).other;
    looks = c.in-Err.ensures.told.looks;
  };
}

pub returns : goal.returns
returns g c = record {
  rest = record {
    compares = λ collection stand.
        let files = g.S.Store.files c.args.store.now in
        let own = table_terms c.args.table.now c.args.reader.now files collection c.requires.table stand in
        let there = stands_on c.args.reader.now c.args.reader.now files (g.S.Store.files c.expect_told.new.store) collection
        (same_text c.args.reader.now) c.expect_told.ensures.told.looks.files stand in
        let count : c.from-terms.result ≡ length (dictionary collection) = omega (arith, ap length own, c.count.ensures.count, c.from-terms.ensures) in
        compares-so (PartsStand files c.args.base.now c.args.head.now collection) (RestStands files c.args.base.now c.args.head.now collection) c.check_parts.result
        (rest-of files c.args.base.now c.args.head.now c.from-terms.result collection count ((c.in-Ok.ensures.told.compares stand.told).stand))
        (λ rest. record { occurrences_are = rest.numbers.occurrences; terms = rest.terms; index = rest.index })
        (subst (λ (f : Option Files). Compares (PartsStand f c.args.base.now c.args.head.now collection) c.check_parts.result)
        c.expect_told.ensures.told.looks.files (c.check_parts.ensures.parts.compares collection there));
    looks = looks_then c.in-Ok.ensures.told.looks c.check_parts.ensures.parts.looks;
  };
}

pub check_parts-requires-clause-reads : goal.check_parts-requires-clause-reads
check_parts-requires-clause-reads g c =
    let files = c.in-Ok.ensures.told.looks.files in
    reads_on c.requires.reads (subst (λ f. TextFits c.args.reader.now f) (sym files) c.requires.reads.fits) (same_text c.args.reader.now)

pub check_parts-requires-clause-text : goal.check_parts-requires-clause-text
check_parts-requires-clause-text g c =
    let files = c.in-Ok.ensures.told.looks.files in
    record {
      fits = subst (λ f. TextFits c.args.reader.now f) (sym files) c.requires.reads.fits;
      all = sym c.requires.reads.documents;
      table_is = c.requires.table;
      few = c.count.ensures.few;
    }
