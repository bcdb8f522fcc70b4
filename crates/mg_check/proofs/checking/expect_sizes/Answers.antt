use Rattle.std.proofs.Common.{◌*◌, sym, subst, IsSome}
use Rattle.mg_dev.specs.Files.{bytes_at}
use Rattle.mg_dev.specs.Names.{full_name}
use Rattle.mg_dev.specs.declared.part.Part.TheVariants as part
use Rattle.mg_layout.specs.Sizes.{AnswersSize}
use Rattle.mg_layout.specs.Stands.{parts_at}
use Rattle.mg_check_parts.proofs.CallerLemmas.{looks_size, looks_then}
use Rattle.mg_check.specs.Rest.{HaveSizes}
use Rattle.mg_check.proofs.RestLaws.{size-compared, size-refuted}
use Rattle.mg_check.proofs.checking.expect_sizes.Goals as goal

pub returns-in-Err : goal.returns-in-Err
returns-in-Err g c =
    let old = g.S.Store.files c.args.store.now in
    record {
      sizes = record {
        compares = λ told.
            size-refuted (HaveSizes (parts_at old c.args.base.now) c.args.head.now) part.Post c.args.head.now.post_bytes (bytes_at old (full_name c.args.base.now part.Post))
            c.in-Err.refusal (c.in-Err.ensures.answer told) (λ sizes. sizes.post);
        looks = looks_size c.expect_size.ensures.files c.expect_size.ensures.reads c.in-Err.ensures.cause;
      };
    }

pub returns : goal.returns
returns g c =
    let old = g.S.Store.files c.args.store.now in
    let name = full_name c.args.base.now part.Skip in
    let size = 16 * c.args.head.now.skip_count in
    record {
      sizes = record {
        compares = λ told.
            size-compared (HaveSizes (parts_at old c.args.base.now) c.args.head.now) part.Skip size (bytes_at old name) c.expect_size-2.result
            (subst (λ f. AnswersSize part.Skip size (bytes_at f name) c.expect_size-2.result) c.expect_size.ensures.files
            (c.expect_size-2.ensures.answer (subst (λ f. IsSome f) (sym c.expect_size.ensures.files) told)))
            (λ skip. record { post = c.in-Ok.ensures.answer told; skip = skip }) (λ sizes. sizes.skip);
        looks = looks_then (looks_size c.expect_size.ensures.files c.expect_size.ensures.reads c.in-Ok.ensures.cause)
            (looks_size c.expect_size-2.ensures.files c.expect_size-2.ensures.reads c.expect_size-2.ensures.cause);
      };
    }
