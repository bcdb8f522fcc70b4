use Rattle.std.proofs.Common.{rules, arith, ◌<◌, ◌≤◌, ◌+◌, ◌∙◌, length, refl, sym, ap, subst}
use Rattle.mg_check_parts.specs.TermsRead.{TermsRead}
use Rattle.mg_dev.specs.declared.part_err.PartErr.TheVariants.{Bad}
use Rattle.mg_defs.specs.Split.{documents}
use Rattle.mg_check_index.specs.Packing.{beside_in}
use Rattle.mg_defs.proofs.TermLaws.{document_behind}
use Rattle.mg_check_index.specs.Listing.{HasRoomFor, HoldsLists, lists_upto, with_document}
use Rattle.mg_check.proofs.DocumentLaws.{counted_is, holds_upto, range_in, room_upto}
use Rattle.mg_check_text.proofs.CallerLemmas.{text_bad, text_ok}
use Rattle.mg_check.proofs.postings.read_document.Goals as goal

pub returns-in-Err-clause-never_bad : goal.returns-in-Err-clause-never_bad
returns-in-Err-clause-never_bad g c = λ collection stand holds room. c.in-Err.ensures.never_bad collection stand

pub returns-in-Err-clause-filled : goal.returns-in-Err-clause-filled
returns-in-Err-clause-filled g c = record { laid = c.requires.fill.laid; rooms = record { first = refl; starts = refl; count = refl }; text = c.in-Err.ensures.text }

pub returns-in-Ok-false-clause-never_bad : goal.returns-in-Ok-false-clause-never_bad
returns-in-Ok-false-clause-never_bad g c = λ collection stand holds room.
    let own = c.in-Ok.ensures.terms.own collection stand in
    let counted = counted_is _ c.args.table.now _ collection c.args.before _ _ _ (document_behind collection c.args.before) c.requires.text.table_is stand own.counted
    (c.counted.ensures ∙ ap (λ (t : TermsRead). t.counted) c.terms.ensures) in
    let lt : c.args.before < length (documents collection) = omega (arith, c.requires.within, stand.documents) in
    let range = range_in c.args.lists.now c.args.table.now _ _ collection c.requires.text.table_is stand c.requires.fill.range in
    let there = subst (λ es. HasRoomFor c.args.lists.now (with_document (lists_upto c.args.before collection) (c.args.before + 1) es)) (sym counted)
    (room_upto c.args.lists.now collection c.args.before lt range room.each) in
    let ok = c.in-Ok-false.ensures.room (lists_upto c.args.before collection) holds there in
    search rules

pub returns-in-Err-add_document-clause-never_bad : goal.returns-in-Err-add_document-clause-never_bad
returns-in-Err-add_document-clause-never_bad g c = λ collection stand holds room.
    let own = c.in-Ok.ensures.terms.own collection stand in
    let counted = counted_is _ c.args.table.now _ collection c.args.before _ _ _ (document_behind collection c.args.before) c.requires.text.table_is stand own.counted
    (c.counted.ensures ∙ ap (λ (t : TermsRead). t.counted) c.terms.ensures) in
    let ok = c.in-Err-add_document.ensures.sure (subst (λ es. beside_in (c.args.before + 1) es ≤ c.args.lists.now.left) (sym counted) room.beside) in
    search rules

pub returns-in-Ok-false-clause-filled : goal.returns-in-Ok-false-clause-filled
returns-in-Ok-false-clause-filled g c = record {
  laid = c.add_document.ensures.keeps.laid;
  rooms = c.add_document.ensures.keeps.same;
  text = text_bad (Bad c.damaged_document.result) c.in-Ok.ensures.text tt;
}

pub returns-in-Err-add_document-clause-filled : goal.returns-in-Err-add_document-clause-filled
returns-in-Err-add_document-clause-filled g c = record {
  laid = c.add_document.ensures.keeps.laid;
  rooms = c.add_document.ensures.keeps.same;
  text = text_bad (Bad c.damaged_document-in-Err-add_document.result) c.in-Ok.ensures.text tt;
}

pub returns-in-Ok-true-clause-held : goal.returns-in-Ok-true-clause-held
returns-in-Ok-true-clause-held g c = λ collection stand holds room.
    let own = c.in-Ok.ensures.terms.own collection stand in
    let counted = counted_is _ c.args.table.now _ collection c.args.before _ _ _ (document_behind collection c.args.before) c.requires.text.table_is stand own.counted
    (c.counted.ensures ∙ ap (λ (t : TermsRead). t.counted) c.terms.ensures) in
    let lt : c.args.before < length (documents collection) = omega (arith, c.requires.within, stand.documents) in
    let range = range_in c.args.lists.now c.args.table.now _ _ collection c.requires.text.table_is stand c.requires.fill.range in
    let keeps = c.add_document.ensures.keeps in
    let more = c.in-Ok-true.ensures.held (lists_upto c.args.before collection) holds (search rules) in
    record {
      lists = holds_upto c.add_document.new.self collection c.args.before lt (omega (arith, range, keeps.same.first, keeps.same.count))
          (subst (λ es. HoldsLists c.add_document.new.self (with_document (lists_upto c.args.before collection) (c.args.before + 1) es)) counted more);
      left = subst (λ es. c.args.lists.now.left ≤ c.add_document.new.self.left + beside_in (c.args.before + 1) es) counted keeps.left;
    }

pub returns-in-Ok-true-clause-filled : goal.returns-in-Ok-true-clause-filled
returns-in-Ok-true-clause-filled g c =
    record { laid = c.add_document.ensures.keeps.laid; rooms = c.add_document.ensures.keeps.same; text = text_ok c.in-Ok.ensures.text }
