use Rattle.std.proofs.lemmas.Result.{on_ok_weaker}
use Rattle.mg_lex.specs.Terms.{entries_of}
use Rattle.mg_lex.proofs.LexLaws.{finished_terms, writes_lexicon}
use Rattle.mg_lex.proofs.lex_writer.LexWriter.finish.Goals as goal

pub finish-requires : goal.finish-requires
finish-requires g c =
    let took = rw (← c.self.view_is) at c.requires.took in
    record { took = (entries_of took.0, took.1.took) }

pub returns : goal.returns
returns g c =
    let took = rw (← c.self.view_is) at c.requires.took in
    let e = c.finish.ensures in
    rw (← c.self.view_is)
    (record {
      finished = on_ok_weaker c.finish.result (λ finished ts took told. finished_terms _ _ _ ts took (finished (entries_of ts) took.took told)) e.finished;
      writes = writes_lexicon took.1 e.step;
    })
