use Rattle.std.proofs.Common.{arith, ◌<◌, ◌+◌, length, refl}
use Rattle.mg_defs.specs.Split.{documents}
use Rattle.mg_check_index.proofs.CallerLemmas.{same_more}
use Rattle.mg_check.proofs.BesideLaws.{left_more, next_room}
use Rattle.mg_check.proofs.DocumentLaws.{upto_all, upto_none}
use Rattle.mg_check_text.proofs.CallerLemmas.{stands_on, terms_here, text_none, text_then}
use Rattle.mg_check.proofs.postings.read_documents.Goals as goal

pub loop-before-init : goal.loop-before-init
loop-before-init g c = record {
  text = text_none _ _ _ c.requires.text.fits;
  laid = c.requires.fill.laid;
  rooms = record { first = refl; starts = refl; count = refl };
  held = λ collection stand room. record { lists = upto_none c.args.lists.now collection c.requires.empty; left = omega arith };
}

pub read_document-requires-clause-text : goal.read_document-requires-clause-text
read_document-requires-clause-text g c = let text = c.loop-before.invariant.text in terms_here text.fits text.same c.requires.text

pub read_document-requires-clause-within : goal.read_document-requires-clause-within
read_document-requires-clause-within g c = omega (arith, c.loop-before-test.true, c.requires.text.all, c.loop-before.invariant.text.same.documents)

pub read_document-requires-clause-fill : goal.read_document-requires-clause-fill
read_document-requires-clause-fill g c =
    let inv = c.loop-before.invariant in
    record { laid = inv.laid; range = omega (arith, c.requires.fill.range, inv.rooms.first, inv.rooms.count) }

pub returns-in-Err-clause-never_bad : goal.returns-in-Err-clause-never_bad
returns-in-Err-clause-never_bad g c = λ collection stand room.
    let inv = c.loop-before.invariant in
    let there = stands_on _ _ _ _ collection inv.text.same inv.text.looks.files stand in
    let so_far = inv.held collection stand room in
    let lt : c.loop-before.before < length (documents collection) = omega (arith, c.loop-before-test.true, c.requires.text.all, stand.documents) in
    let enough = next_room c.args.lists.now c.loop-before.lists collection c.loop-before.before lt inv.rooms room so_far.left in
    c.in-Err.ensures.never_bad collection there so_far.lists enough

pub returns-in-Err-clause-filled : goal.returns-in-Err-clause-filled
returns-in-Err-clause-filled g c =
    let inv = c.loop-before.invariant in
    let filled = c.in-Err.ensures.filled in
    record { laid = filled.laid; rooms = same_more _ _ _ inv.rooms filled.rooms; text = text_then inv.text filled.text }

pub loop-before-preserved : goal.loop-before-preserved
loop-before-preserved g c =
    let inv = c.loop-before.invariant in
    record {
      text = text_then inv.text c.in-Ok.ensures.filled.text;
      laid = c.in-Ok.ensures.filled.laid;
      rooms = same_more _ _ _ inv.rooms c.in-Ok.ensures.filled.rooms;
      held = λ collection stand room.
          let so_far = inv.held collection stand room in
          let lt : c.loop-before.before < length (documents collection) = omega (arith, c.loop-before-test.true, c.requires.text.all, stand.documents) in
          let enough = next_room c.args.lists.now c.loop-before.lists collection c.loop-before.before lt inv.rooms room so_far.left in
          let next = c.in-Ok.ensures.held collection (stands_on _ _ _ _ collection inv.text.same inv.text.looks.files stand) so_far.lists enough in
          record { lists = next.lists; left = left_more c.args.lists.now c.loop-before.lists c.read_document.new.lists collection c.loop-before.before lt room.few so_far.left next.left };
    }

pub returns-clause-held : goal.returns-clause-held
returns-clause-held g c = λ collection stand room.
    upto_all c.loop-before.lists collection c.loop-before.before
    (omega (arith, c.loop-before-test.false, c.loop-before.auto, c.requires.text.all, stand.documents)) (c.loop-before.invariant.held collection stand room).lists

pub returns-clause-filled : goal.returns-clause-filled
returns-clause-filled g c = let inv = c.loop-before.invariant in record { laid = inv.laid; rooms = inv.rooms; text = inv.text }
