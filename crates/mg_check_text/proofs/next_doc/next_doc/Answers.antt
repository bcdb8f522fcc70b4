use Rattle.std.proofs.Common.{rules, arith, ◌≡◌, ◌≤◌, ◌+◌, ◌∙◌, length, ap, subst, sym}
use Rattle.mg_defs.specs.CodedText.{TextCode}
use Rattle.mg_defs.specs.Means.{IsModel}
use Rattle.mg_layout.specs.Stands.{parts_at}
use Rattle.mg_check_text.specs.Checking.{IsNextDoc}
use Rattle.mg_check_text.proofs.ReadLaws.{text_looks}
use Rattle.mg_check_text.proofs.NextLaws.{both-ok, code-range, head-few, next-there, on-bad, other-next, range-next, refused-next, told-there}
use Rattle.mg_check_text.proofs.KeptLaws.{both_there}
use Rattle.mg_check_text.proofs.next_doc.next_doc.Goals as goal

pub add_doc-requires-clause-pages : goal.add_doc-requires-clause-pages
add_doc-requires-clause-pages g c = both_there c.decode_next.ensures.text.looks.files c.requires.can.pages

pub returns-in-Err-clause-pages : goal.returns-in-Err-clause-pages
returns-in-Err-clause-pages g c = both_there c.decode_next.ensures.text.looks.files c.requires.can.pages

pub add_doc-requires-clause-can : goal.add_doc-requires-clause-can
add_doc-requires-clause-can g c =
    let same : c.model.result.now ≡ c.args.reader.now.code = c.model.ensures ∙ c.decode_next.ensures.text.same.code in
    let left : c.args.progress.now.bytes + length c.decode_next.new.held.bytes.items ≤ c.args.set.now.head.now.collection = omega (arith, c.in-Ok.ensures.short) in
    let few = (head-few c.args.set.now.head.now c.requires.can.reads.within).0 in
    let range = c.requires.range in
    record {
      short = omega (arith, left, few);
      model = subst IsModel (sym same) c.requires.can.reads.model;
      words = record { size = range.word_places ∙ ap (λ (code : TextCode). length code.words.pieces) (sym same); few = omega (arith, range.words, left, few) };
      others = record { size = range.other_places ∙ ap (λ (code : TextCode). length code.others.pieces) (sym same); few = omega (arith, range.others, left, few) };
    }

pub returns-in-Err-clause-read : goal.returns-in-Err-clause-read
returns-in-Err-clause-read g c = record {
  found = λ told. tt;
  none = λ loaded docs so. refused-next c.in-Err.refusal loaded so c.requires.more
      (λ collection stand short. c.in-Err.ensures.never_bad collection (record { stands = stand; short = omega (arith, short) }));
  text = c.in-Err.ensures.text;
}

pub returns-clause-range : goal.returns-clause-range
returns-clause-range g c =
    let same : c.model.result.now ≡ c.args.reader.now.code = c.model.ensures ∙ c.decode_next.ensures.text.same.code in
    let left : c.args.progress.now.bytes + length c.decode_next.new.held.bytes.items ≤ c.args.set.now.head.now.collection = omega (arith, c.in-Ok.ensures.short) in
    both-ok _ _ _ c.add_doc.result (λ added short. code-range (sym same) (range-next (code-range same c.requires.range) added short left c.requires.more))
    c.add_doc.ensures.added c.add_doc.ensures.short

pub returns-clause-read : goal.returns-clause-read
returns-clause-read g c = record {
  found = search rules;
  none = λ loaded docs so.
      let same : c.model.result.now ≡ c.args.reader.now.code = c.model.ensures ∙ c.decode_next.ensures.text.same.code in
      let files = c.decode_next.ensures.text.looks.files in
      let before = g.S.Store.files c.args.store.now in
      let there = g.S.Store.files c.decode_next.new.store in
      let set = c.args.set.now in
      let code = c.args.reader.now.code in
      let doc = c.decode_next.new.held.bytes.items in
      other-next doc c.add_doc.result loaded so c.requires.more
      (λ collection stand short. c.in-Ok.ensures.own collection (record { stands = stand; short = omega (arith, short) }))
      (on-bad (IsNextDoc (parts_at there set.base.now) set.head.now.version c.model.result.now doc c.args.progress.now)
      (IsNextDoc (parts_at before set.base.now) set.head.now.version code doc c.args.progress.now) c.add_doc.result
      (λ next. next-there before there set.base.now set.head.now.version code c.model.result.now doc c.args.progress.now files same next)
      (c.add_doc.ensures.compared.parts.other (told-there files loaded.told)));
  text = text_looks c.in-Ok.ensures.text c.add_doc.ensures.compared.parts.looks;
}
