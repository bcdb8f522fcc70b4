use Rattle.mg_defs.specs.Parse.{parse}
use Rattle.mg_parse.specs.Lent.{pair_of}
use Rattle.mg_check_parts.proofs.CodeLaws.{are-put-more, not-codable, put-there, two-more, unknown-there}
use Rattle.mg_check_parts.proofs.coded_doc.put_pairs.Goals as goal

pub put_pair-requires-clause-more : goal.put_pair-requires-clause-more
put_pair-requires-clause-more g c =
    two-more c.args.model.now (parse c.args.doc.now) c.loop-pair.pair-iterator c.next.new.self (pair_of c.in-Some.pair) c.args.writer.now c.loop-pair.writer
    (g.S.Store.files c.args.store.now) (g.S.Store.files c.loop-pair.store) c.args.uses.now c.loop-pair.uses
    c.in-Some.ensures.steps c.requires.more c.loop-pair.invariant

pub loop-pair-preserved : goal.loop-pair-preserved
loop-pair-preserved g c =
    are-put-more c.args.model.now (parse c.args.doc.now) c.loop-pair.pair-iterator c.next.new.self (pair_of c.in-Some.pair) c.args.writer.now c.loop-pair.writer c.put_pair.new.writer
    (g.S.Store.files c.args.store.now) (g.S.Store.files c.loop-pair.store) (g.S.Store.files c.put_pair.new.store) c.args.uses.now c.loop-pair.uses c.put_pair.new.uses
    c.in-Some.ensures.steps c.loop-pair.invariant (put-there c.in-Ok-Some.field-0 _ _ c.in-Ok-Some.field-0-is c.in-Ok-Some.ensures.put)

pub returns-in-Ok-None-clause-unknown : goal.returns-in-Ok-None-clause-unknown
returns-in-Ok-None-clause-unknown g c =
    not-codable c.args.model.now (parse c.args.doc.now) c.loop-pair.pair-iterator c.next.new.self (pair_of c.in-Some.pair) c.args.writer.now c.loop-pair.writer
    (g.S.Store.files c.args.store.now) (g.S.Store.files c.loop-pair.store) c.args.uses.now c.loop-pair.uses
    c.in-Some.ensures.steps c.loop-pair.invariant (unknown-there c.in-Ok-None.field-0 _ c.in-Ok-None.field-0-is c.in-Ok-None.ensures.unknown)
