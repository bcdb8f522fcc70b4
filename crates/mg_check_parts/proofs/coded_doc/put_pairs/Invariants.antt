use Rattle.mg_defs.specs.Parse.{parse}
use Rattle.mg_check_parts.proofs.CodeLaws.{ArePut}
use Rattle.mg_check_parts.proofs.coded_doc.put_pairs.Given as goal

abbrev pub invariant-loop-pair : goal.invariant-loop-pair
invariant-loop-pair g l = ArePut l.model (parse l.doc) l.pair-iterator l.initial.writer l.writer (g.S.Store.files l.initial.store) (g.S.Store.files l.store) l.initial.uses l.uses
