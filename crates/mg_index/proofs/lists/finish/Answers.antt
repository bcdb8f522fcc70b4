use Rattle.std.proofs.Common.{arith, ◌∙◌, ◌/◌, [], length, ap}
use Rattle.std.proofs.lemmas.Result.{err_from_is_err_and}
use Rattle.mg_defs.specs.Lists.{inverted, lists_bits, lists_entries}
use Rattle.mg_lex.specs.Terms.{terms_of}
use Rattle.mg_index.proofs.IndexEnds.{ends_err, lists_are_there}
use Rattle.mg_index.proofs.IndexSteps.{took_beside}
use Rattle.mg_index.proofs.ListFrames.{wrote_lists}
use Rattle.mg_index.proofs.StepLaws.{put_err, put_lex, put_lists, put_more, put_ok}
use Rattle.mg_index.proofs.lists.finish.Goals as goal

pub finish-requires-2 : goal.finish-requires-2
finish-requires-2 g c = record {
  took = (
    c.requires.lists.0,
    took_beside c.lists_stay.ensures c.args.writer.now.lex.base _ _ _ c.requires.lists.0 [] c.requires.post c.requires.skip c.finish.ensures.told c.finish.ensures.others c.requires.lists.1,
  );
}

pub returns-in_err-finish : goal.returns-in_err-finish
returns-in_err-finish g c =
    let p = err_from_is_err_and c.from_residual.result c.from_residual.ensures.1 in
    let e = c.in_err-finish.ensures in
    rw (p.1, p.2) (ends_err (put_err (put_lex e.told e.others e.reads e.cause)))

pub returns-in_err-post_bytes : goal.returns-in_err-post_bytes
returns-in_err-post_bytes g c =
    let p = err_from_is_err_and c.from_residual-in_err-post_bytes.result c.from_residual-in_err-post_bytes.ensures.1 in
    let e = c.in_ok-finish.ensures in
    let l = c.in_err-post_bytes.ensures.step in
    rw (p.1, p.2) (ends_err (put_more (put_lex e.told e.others e.reads e.cause) (put_err (put_lists c.requires.post c.requires.skip l.told l.others l.reads l.cause))))

pub returns : goal.returns
returns g c =
    let base = c.args.writer.now.lex.base in
    let writer = c.args.writer.now.lists in
    let e = c.in_ok-finish.ensures in
    let l = c.in_ok-post_bytes.ensures in
    let held = c.requires.lists.1 in
    record {
      stand = λ collection told all took terms.
          let still = took_beside c.lists_stay.ensures base writer _ _ (inverted collection) [] c.requires.post c.requires.skip c.finish.ensures.told c.finish.ensures.others took in
          lists_are_there c.lexicon_has_its_terms.ensures.entries base collection writer _ _ c.requires.post c.requires.skip all (e.finished (terms_of collection) terms told)
          (wrote_lists base _ _ _ _ c.requires.post c.requires.skip c.finish-2.ensures.step.told c.finish-2.ensures.step.others)
          (l.bytes (inverted collection) still (c.finish.ensures.told ∙ told));
      post_bytes = λ collection all took.
          let still = took_beside c.lists_stay.ensures base writer _ _ (inverted collection) [] c.requires.post c.requires.skip c.finish.ensures.told c.finish.ensures.others took in
          (l.answer (inverted collection) still).0 ∙ ap (λ m. length (lists_bits m (inverted collection)) / 8) all;
      skip_count = λ collection all took.
          let still = took_beside c.lists_stay.ensures base writer _ _ (inverted collection) [] c.requires.post c.requires.skip c.finish.ensures.told c.finish.ensures.others took in
          (l.answer (inverted collection) still).1 ∙ ap (λ m. length (lists_entries m (inverted collection))) all;
      few =
          let still = took_beside c.lists_stay.ensures base writer _ _ c.requires.lists.0 [] c.requires.post c.requires.skip c.finish.ensures.told c.finish.ensures.others held in
          omega (arith, (l.answer c.requires.lists.0 still).1, held.first, held.room);
      step = put_more (put_lex e.told e.others e.reads e.cause) (put_ok (put_lists c.requires.post c.requires.skip l.step.told l.step.others l.step.reads l.step.cause));
    }
