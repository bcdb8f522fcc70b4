use Rattle.mg_check_index.specs.Listing.{IndexStands}
use Rattle.mg_check_parts.proofs.CallerLemmas.{looks_err}
use Rattle.mg_check_text.proofs.CallerLemmas.{text_looks, text_none}
use Rattle.mg_check_index.proofs.CallerLemmas.{not_bad_refutes, start_on}
use Rattle.mg_check.proofs.IndexLaws.{index_behind, index_on}
use Rattle.mg_check.proofs.index.check_sized.Goals as goal

pub returns-in-Err : goal.returns-in-Err
returns-in-Err g c = record {
  index = record {
    stand = λ collection is. tt;
    other = λ collection is. not_bad_refutes (IndexStands (g.S.Store.files c.args.store.now) c.args.of.now.base.now collection) c.in-Err.refusal c.in-Err.ensures.never_bad;
    text = text_looks (text_none {T = Unit {0}} {x = tt} _ _ _ c.requires.index.text.fits) (looks_err c.in-Err.ensures.looks);
  };
}

pub compare_index-requires-clause-index : goal.compare_index-requires-clause-index
compare_index-requires-clause-index g c =
    let begun = text_looks (text_none {T = Unit {0}} {x = tt} _ _ _ c.requires.index.text.fits) c.in-Ok.ensures.looks in
    index_on begun.fits begun.same c.requires.index

pub compare_index-requires-clause-start : goal.compare_index-requires-clause-start
compare_index-requires-clause-start g c = start_on c.in-Ok.ensures.looks.files c.in-Ok.ensures.start

pub returns : goal.returns
returns g c = record {
  index = index_behind (text_looks (text_none {T = Unit {0}} {x = tt} _ _ _ c.requires.index.text.fits) c.in-Ok.ensures.looks) c.compare_index.ensures.index;
}
