use Rattle.std.proofs.Common.{rules, arith, sym, subst}
use Rattle.mg_dev.specs.declared.part_err.PartErr.TheVariants.{Bad}
use Rattle.mg_check_index.specs.Listing.{AreSizes}
use Rattle.mg_check_text.proofs.CallerLemmas.{text_own}
use Rattle.mg_check.proofs.IndexLaws.{few_documents, sizes_of}
use Rattle.mg_check.proofs.index.check_index.Goals as goal
use Rattle.mg_check.proofs.index.check_index.Goals.{then-of-gt-DOCUMENTS-via-then-of-gt-DOCUMENTS, then-of-gt-DOCUMENTS-via-else-of-gt-DOCUMENTS+then-not-are_sizes}

pub returns-then-of-gt-DOCUMENTS : goal.returns-then-of-gt-DOCUMENTS
returns-then-of-gt-DOCUMENTS g c = record {
  index = record {
    stand = λ collection is. tt;
    other = λ collection is stand.
        elim c.then-of-gt-DOCUMENTS.branch [
          | then-of-gt-DOCUMENTS-via-then-of-gt-DOCUMENTS w ↦ omega (arith, few_documents c.args.of.now.documents is c.requires.text.all, w.if-of-gt-DOCUMENTS.true)
          | then-of-gt-DOCUMENTS-via-else-of-gt-DOCUMENTS+then-not-are_sizes w ↦
              (let sizes = subst (λ n. AreSizes c.args.of.now.docs.now n c.args.of.now.documents) (sym w.count.ensures.count)
              (sizes_of c.args.of.now.documents is c.requires.text.all) in
              let ok = w.are_sizes.ensures.1 sizes in
              search rules)
        ];
    text = text_own (Bad c.other_sizes.result) _ _ _ c.requires.text.fits tt;
  };
}

pub returns : goal.returns
returns g c = record { index = c.check_sized.ensures.index }
