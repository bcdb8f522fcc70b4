use Rattle.std.proofs.Common.{IsSome, ◌∙◌}
use Rattle.mg_check_parts.specs.Decoding.{IsCodedAs, text_in}
use Rattle.mg_check_parts.proofs.CodeLaws.{where-put}
use Rattle.mg_check_parts.proofs.coded_doc.code_into.Goals as goal

pub returns-clause-coded : goal.returns-clause-coded
returns-clause-coded g c =
    where-put c.put_doc.result
    (IsSome (g.S.Store.files c.start.new.store) → IsCodedAs c.args.model.now c.args.doc.now (text_in (g.S.Store.files c.put_doc.new.store)) c.args.uses.now c.put_doc.new.uses)
    (IsSome (g.S.Store.files c.args.store.now) → IsCodedAs c.args.model.now c.args.doc.now (text_in (g.S.Store.files c.put_doc.new.store)) c.args.uses.now c.put_doc.new.uses)
    (λ coded told. coded (c.start.ensures.told ∙ told)) c.put_doc.ensures.coded
