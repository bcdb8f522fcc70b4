use Rattle.std.proofs.Common.{◌∙◌, ap, subst, sym}
use Rattle.mg_defs.specs.CodedText.{TextCode}
use Rattle.mg_model.specs.Terms.{terms_and_numbers}
use Rattle.mg_check_parts.specs.Words.{AreWords}
use Rattle.mg_check_parts.proofs.CallerLemmas.{collection_words, looks_own}
use Rattle.mg_check.specs.Rest.{RestStands}
use Rattle.mg_check.proofs.RestLaws.{refuted}
use Rattle.mg_check.proofs.checking.check_rest.Goals as goal

pub returns-in-Err : goal.returns-in-Err
returns-in-Err g c = record {
  rest = record {
    compares = λ collection stand.
        let words : AreWords c.args.reader.now.code.words.pieces = subst AreWords (sym stand.code.0.pieces) (collection_words collection) in
        refuted (AreWords c.model.result.now.words.pieces) (RestStands (g.S.Store.files c.args.store.now) c.args.base.now c.args.head.now collection) c.in-Err.refusal
        (λ rest. subst (λ (code : TextCode). AreWords code.words.pieces) (sym c.model.ensures) words) c.in-Err.ensures.other;
    looks = looks_own c.in-Err.refusal _ _ _ c.in-Err.ensures.own;
  };
}

pub check_told-requires-clause-table : goal.check_told-requires-clause-table
check_told-requires-clause-table g c = c.in-Ok.ensures.table ∙ ap (λ (code : TextCode). terms_and_numbers code.words.pieces) c.model.ensures

pub returns-in-Ok : goal.returns-in-Ok
returns-in-Ok g c = record { rest = c.check_told.ensures.rest }
