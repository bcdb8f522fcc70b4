use Rattle.std.proofs.Common.{arith, rules, ◌≡◌, IsSome, Err, ap, get_or, sym, subst}
use Rattle.mg_dev.specs.Files.{part_bytes}
use Rattle.mg_dev.specs.declared.part.Part.TheVariants as part
use Rattle.mg_layout.specs.HeadAnswers.{fields_of}
use Rattle.mg_layout.specs.Sizes.{AnswersSize}
use Rattle.mg_migrate.proofs.PartLaws.{HasSize, size_at, size_differs, size_more}
use Rattle.mg_migrate.proofs.sizes.expect_sizes.Goals as goal

pub returns-in-Err-clause-answer : goal.returns-in-Err-clause-answer
returns-in-Err-clause-answer g c = λ told.
    let head = fields_of c.args.head.now in
    let base = c.args.base.now in
    let index = c.loop-part.part-index in
    let so_far = c.loop-part.invariant in
    let entry = get_or c.sizes_of-part-items.result index (part.Head, 0) in
    size_differs c.in-Err.refusal head (g.S.Store.files c.args.store.now) base index entry c.loop-part-test.true (ap (λ sizes. get_or sizes index (part.Head, 0)) c.sizes_of-part-items.ensures)
    (subst (λ f. AnswersSize entry.0 entry.1 (part_bytes base entry.0 f) (Err c.in-Err.refusal)) so_far.files (c.in-Err.ensures.answer (subst (λ f. IsSome f) (sym so_far.files) told)))

pub loop-part-preserved : goal.loop-part-preserved
loop-part-preserved g c =
    let head = fields_of c.args.head.now in
    let base = c.args.base.now in
    let index = c.loop-part.part-index in
    let so_far = c.loop-part.invariant in
    let entry = get_or c.sizes_of-part-items.result index (part.Head, 0) in
    let same : entry ≡ size_at head index = ap (λ sizes. get_or sizes index (part.Head, 0)) c.sizes_of-part-items.ensures in
    record {
      files = search rules;
      reads = search rules;
      later = omega (arith, so_far.later, c.in-Ok.ensures.cause.later);
      sized = λ told. size_more head (g.S.Store.files c.args.store.now) base index entry same
          (subst (λ f. HasSize f base entry) so_far.files (c.in-Ok.ensures.answer (subst (λ f. IsSome f) (sym so_far.files) told))) (so_far.sized told);
    }

pub returns-clause-answer : goal.returns-clause-answer
returns-clause-answer g c = λ told.
    let sized = c.loop-part.invariant.sized told in
    record {
      text = sized 0 (omega (arith, c.loop-part-test.false));
      places = sized 1 (omega (arith, c.loop-part-test.false));
      lex_at = sized 2 (omega (arith, c.loop-part-test.false));
      post = sized 3 (omega (arith, c.loop-part-test.false));
      skip = sized 4 (omega (arith, c.loop-part-test.false));
      weights = sized 5 (omega (arith, c.loop-part-test.false));
    }
