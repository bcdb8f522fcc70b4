use Rattle.std.proofs.Common.{◌∙◌}
use Rattle.std.proofs.lemmas.Result.{err_from_is_err_and}
use Rattle.mg_dev.specs.declared.part.Part.TheVariants.{MergeA, MergeB, Weights}
use Rattle.mg_index.proofs.WeightFrames.{weights_stay}
use Rattle.mg_index.proofs.ListFrames.{on_ok_of}
use Rattle.mg_index.proofs.StepLaws.{put_err, put_more}
use Rattle.mg_index.proofs.weights.write_weights_part.Goals as goal

pub returns-in_err-write_weights-clause-step : goal.returns-in_err-write_weights-clause-step
returns-in_err-write_weights-clause-step g c =
    let p = err_from_is_err_and c.from_residual.result c.from_residual.ensures.1 in
    let e = c.in_err-write_weights.ensures in
    rw (p.1, p.2)
    (put_err (record { wrote = record { told = e.wrote.told; others = λ name apart. e.wrote.others name (apart Weights tt) }; reads = e.wrote.reads; cause = e.cause }))

pub returns-clause-bytes : goal.returns-clause-bytes
returns-clause-bytes g c = λ told.
    on_ok_of c.reset_merge_parts.result _ (weights_stay c.args.base.now _ _ c.reset_merge_parts.ensures.others ∙ c.in_ok-write_weights.ensures.bytes told)

pub returns-clause-step : goal.returns-clause-step
returns-clause-step g c =
    let e = c.in_ok-write_weights.ensures in
    let m = c.reset_merge_parts.ensures in
    put_more
    (record { wrote = record { told = e.wrote.told; others = λ name apart. e.wrote.others name (apart Weights tt) }; reads = e.wrote.reads; cause = e.cause })
    (record { wrote = record { told = m.told; others = λ name apart. m.others name (apart MergeA tt) (apart MergeB tt) }; reads = m.reads; cause = m.cause })
