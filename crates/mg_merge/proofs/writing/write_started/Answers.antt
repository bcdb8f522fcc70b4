use Rattle.std.proofs.Common.{arith, ◌∙◌, inl, inr, refl}
use Rattle.mg_dev.specs.Causes.{Rose}
use Rattle.mg_dev.specs.Moments.{store_at}
use Rattle.mg_make.proofs.CallerLemmas.{rose_behind}
use Rattle.mg_merge.proofs.LookLaws.{runs_index}
use Rattle.mg_merge.proofs.PassLaws.{finish_stops, list_differs}
use Rattle.mg_merge.proofs.WrittenLaws.{not_written, put_plan, was_ended}
use Rattle.mg_merge.proofs.writing.write_started.Goals as goal

pub put_documents-requires : goal.put_documents-requires
put_documents-requires g c = λ k. ((refl, tt), (c.requires.texts, c.requires.nothing))

-- ---- not all documents were put

pub returns-in-Err : goal.returns-in-Err
returns-in-Err g c = record {
  written = rw c.without.ensures (not_written _ _ c.args.writer.base (g.D.Documents.texts c.args.texts.now) _ _ _
      (λ collection stand. inr (inl (c.empty_heads_stand_for_none.ensures c.args.writer.base _ (c.in-Err.ensures.head stand.first.told))))
      c.in-Err.ensures.others c.in-Err.ensures.index c.in-Err.ensures.later c.in-Err.ensures.refused);
}

-- ---- all were put

pub finish-requires : goal.finish-requires
finish-requires g c =
    let put = c.in-Ok.ensures.put in
    record { put = (put.0, put.2, omega (arith, put.1.size, c.in-Ok.ensures.few)) }

pub returns-in-Ok-finish : goal.returns-in-Ok-finish
returns-in-Ok-finish g c =
    let put = c.in-Ok.ensures.put in
    record {
      written = was_ended c.args.writer c.put_documents.new.writer (g.D.Documents.texts c.args.texts.now) _
          (store_at g.S.Store.files g.S.Store.reads g.S.Store.faults c.put_documents.new.store) put.0 c.in-Ok.ensures.plan put.1 put.2 c.in-Ok.ensures.others _ _
          c.in-Ok.ensures.base c.in-Ok.ensures.limit c.in-Ok.ensures.later
          c.in-Ok-finish.ensures.stands c.in-Ok-finish.ensures.summary c.in-Ok-finish.ensures.merge_a c.in-Ok-finish.ensures.merge_b c.in-Ok-finish.ensures.left
          c.in-Ok-finish.ensures.others (runs_index _ _ c.in-Ok-finish.ensures.reads ∙ c.in-Ok.ensures.index) c.in-Ok-finish.ensures.later tt;
    }

pub retold-requires : goal.retold-requires
retold-requires g c = list_differs _ _ c.in-Err-finish.refusal (c.in-Err-finish.ensures.refused c.in-Ok.ensures.put.0 c.in-Ok.ensures.put.2)

pub returns-in-Err-finish : goal.returns-in-Err-finish
returns-in-Err-finish g c =
    let put = c.in-Ok.ensures.put in
    let texts = g.D.Documents.texts c.args.texts.now in
    let before = store_at g.S.Store.files g.S.Store.reads g.S.Store.faults c.args.store.now in
    let middle = store_at g.S.Store.files g.S.Store.reads g.S.Store.faults c.put_documents.new.store in
    record {
      written = was_ended c.args.writer c.put_documents.new.writer texts before middle put.0 c.in-Ok.ensures.plan put.1 put.2 c.in-Ok.ensures.others _ _
          c.in-Ok.ensures.base c.in-Ok.ensures.limit c.in-Ok.ensures.later
          (λ bytes told has is. tt) (λ bytes told has is. tt) (λ bytes told has is. tt) (λ bytes told has is. tt) c.in-Err-finish.ensures.left
          c.in-Err-finish.ensures.others (runs_index _ _ c.in-Err-finish.ensures.reads ∙ c.in-Ok.ensures.index) c.in-Err-finish.ensures.later
          (finish_stops (Rose (g.S.Store.faults c.put_documents.new.store) (g.S.Store.faults c.finish.new.store)) _ _ _ c.in-Err-finish.refusal c.retold.result
          (λ rose. rose_behind _ _ _ c.in-Ok.ensures.later rose)
          (λ some. put_plan c.args.writer c.put_documents.new.writer texts before middle put.0 c.in-Ok.ensures.plan put.1 put.2 c.in-Ok.ensures.others some.0 some.1)
          c.retold.ensures (c.in-Err-finish.ensures.refused put.0 put.2));
    }
