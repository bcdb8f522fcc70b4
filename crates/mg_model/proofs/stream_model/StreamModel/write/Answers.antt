use Rattle.std.proofs.Common.{◌∙◌, sym, ap}
use Rattle.std.proofs.lemmas.Result.{on_ok_weaker}
use Rattle.mg_dev.specs.Files.{bytes_at}
use Rattle.mg_model.proofs.stream_model.StreamModel.write.Goals as goal

pub returns-clause-bytes : goal.returns-clause-bytes
returns-clause-bytes g c = on_ok_weaker c.write_entries.result
    (λ bytes. λ told. ap (bytes_at (g.S.Store.files c.write_entries.new.store)) (sym c.in-Ok.ensures.name) ∙ bytes (c.in-Ok.ensures.step.told ∙ told))
    c.write_entries.ensures.bytes

pub returns-clause-wrote : goal.returns-clause-wrote
returns-clause-wrote g c =
    let start = c.in-Ok.ensures in
    let wrote = c.write_entries.ensures.wrote in
    record {
      told = wrote.told ∙ start.step.told;
      others = λ n apart. wrote.others n (λ e. apart (e ∙ start.name)) ∙ start.step.others n apart;
      reads = λ p. wrote.reads p ∙ start.step.reads p;
    }
