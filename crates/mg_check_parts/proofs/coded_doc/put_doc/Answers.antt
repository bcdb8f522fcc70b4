use Rattle.std.proofs.Common.{arith, ◌++◌, ◌+◌, [], ◌∙◌, length, IsSome}
use Rattle.std.specs.List.{flat_map}
use Rattle.mg_defs.specs.Codes.{gamma}
use Rattle.mg_defs.specs.CodedText.{coded_pair}
use Rattle.mg_defs.specs.Parse.{parse}
use Rattle.mg_defs.proofs.ParseLaws.{parse_short}
use Rattle.mg_check_parts.specs.Decoding.{text_in}
use Rattle.mg_check_parts.proofs.CodeLaws.{doc-coded, put-there, room-less}
use Rattle.mg_check_parts.proofs.coded_doc.put_doc.Goals as goal

pub count_pairs-count-requires : goal.count_pairs-count-requires
count_pairs-count-requires g c = c.requires.can.short

pub put_pairs-requires-clause-model : goal.put_pairs-requires-clause-model
put_pairs-requires-clause-model g c = c.requires.can.model

pub put_pairs-requires-clause-took : goal.put_pairs-requires-clause-took
put_pairs-requires-clause-took g c = (gamma (c.count_pairs-count.result + 1), c.in_ok-begin_doc.ensures.took [] c.requires.took)

pub put_pairs-requires-clause-words : goal.put_pairs-requires-clause-words
put_pairs-requires-clause-words g c = room-less c.args.model.now.words c.args.uses.now.words.items (length c.args.doc.now) (length (parse c.args.doc.now))
    c.requires.can.words (parse_short c.args.doc.now)

pub put_pairs-requires-clause-others : goal.put_pairs-requires-clause-others
put_pairs-requires-clause-others g c = room-less c.args.model.now.others c.args.uses.now.others.items (length c.args.doc.now) (length (parse c.args.doc.now))
    c.requires.can.others (parse_short c.args.doc.now)

pub close_text-requires-clause-took : goal.close_text-requires-clause-took
close_text-requires-clause-took g c =
    let put = put-there c.in-Ok-Some.field-0 _ _ c.in-Ok-Some.field-0-is c.in-Ok-Some.ensures.put in
    (_, put.took (gamma (c.count_pairs-count.result + 1)) (c.in_ok-begin_doc.ensures.took [] c.requires.took))

pub close_text-requires-clause-base : goal.close_text-requires-clause-base
close_text-requires-clause-base g c =
    let put = put-there c.in-Ok-Some.field-0 _ _ c.in-Ok-Some.field-0-is c.in-Ok-Some.ensures.put in
    put.base ∙ c.begin_doc.ensures.base ∙ c.requires.base

pub close_text-requires-clause-begun : goal.close_text-requires-clause-begun
close_text-requires-clause-begun g c =
    let put = put-there c.in-Ok-Some.field-0 _ _ c.in-Ok-Some.field-0-is c.in-Ok-Some.ensures.put in
    put.is_open ∙ c.in_ok-begin_doc.ensures.numbers.is_open

pub close_text-requires-clause-whole : goal.close_text-requires-clause-whole
close_text-requires-clause-whole g c =
    let put = put-there c.in-Ok-Some.field-0 _ _ c.in-Ok-Some.field-0-is c.in-Ok-Some.ensures.put in
    omega (arith, put.left, c.in_ok-begin_doc.ensures.numbers.left, c.count_pairs-count.ensures)

pub returns-clause-coded : goal.returns-clause-coded
returns-clause-coded g c = λ told.
    let put = put-there c.in-Ok-Some.field-0 _ _ c.in-Ok-Some.field-0-is c.in-Ok-Some.ensures.put in
    let began = c.in_ok-begin_doc.ensures.took [] c.requires.took in
    let told_too : IsSome (g.S.Store.files c.put_pairs.new.store) = put.told ∙ c.begin_doc.ensures.told ∙ told in
    doc-coded c.args.model.now c.args.doc.now (text_in (g.S.Store.files c.close_text.new.store)) c.count_pairs-count.result c.args.writer.now
    c.begin_doc.new.self c.put_pairs.new.writer (g.S.Store.files c.begin_doc.new.store) (g.S.Store.files c.put_pairs.new.store) c.args.uses.now
    c.put_pairs.new.uses c.count_pairs-count.ensures c.requires.can.short c.requires.pairs c.requires.docs c.in_ok-begin_doc.ensures.numbers put
    (c.in_ok-close_text.ensures.closed (gamma (c.count_pairs-count.result + 1) ++ flat_map (coded_pair c.args.model.now) (parse c.args.doc.now))
    (put.took (gamma (c.count_pairs-count.result + 1)) began) told_too)
