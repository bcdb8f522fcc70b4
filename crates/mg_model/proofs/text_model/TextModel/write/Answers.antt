use Rattle.std.proofs.Common.{◌∙◌, ap, IsSome, unwrap_or, []}
use Rattle.std.proofs.lemmas.Result.{on_ok_weaker}
use Rattle.mg_dev.specs.Names.{full_name}
use Rattle.mg_dev.specs.declared.part.Part.TheVariants.{Words}
use Rattle.mg_defs.specs.CodedText.{pieces_part}
use Rattle.mg_model.proofs.Standing.{names-apart}
use Rattle.mg_model.proofs.text_model.TextModel.write.Goals as goal

pub returns-clause-hold : goal.returns-clause-hold
returns-clause-hold g c =
    let apart = names-apart c.args.base.now in
    let is = c.self.view_is in
    on_ok_weaker c.write-2.result
    (λ bytes. λ told.
    let here : IsSome (g.S.Store.files c.write.new.store) = c.in_ok-write.ensures.wrote.told ∙ told in
    record {
      words = ap (λ o. unwrap_or o []) (c.write-2.ensures.wrote.others (full_name c.args.base.now Words) apart) ∙ c.in_ok-write.ensures.bytes told ∙ ap (λ m. pieces_part m.words) is;
      others = bytes here ∙ ap (λ m. pieces_part m.others) is;
    })
    c.write-2.ensures.bytes
