use Rattle.std.proofs.Common.{IsSome, sym, subst}
use Rattle.mg_dev.specs.Causes.{Rose}
use Rattle.mg_dev.specs.Files.{bytes_at}
use Rattle.mg_dev.specs.Names.{full_name}
use Rattle.mg_dev.specs.declared.part.Part.TheVariants as part
use Rattle.mg_layout.specs.HeadAnswers.{fields_of}
use Rattle.mg_layout.proofs.CallerLemmas.{no_empty_head}
use Rattle.mg_decode.specs.Outcomes.{DecodeStops}
use Rattle.mg_migrate.specs.Sizes.{HasSizesOf}
use Rattle.mg_migrate.proofs.MigrateStopLaws.{size_refused}
use Rattle.mg_decode.proofs.CallerLemmas.{bad_head, some_head, stands_loaded}
use Rattle.mg_migrate.proofs.sizes.load_sized.Goals as goal

pub returns-in-Err-clause-cause : goal.returns-in-Err-clause-cause
returns-in-Err-clause-cause g c =
    let before = g.S.Store.files c.args.store.now in
    let rose = Rose (g.S.Store.faults c.args.store.now) (g.S.Store.faults c.load.new.store) in
    subst (λ f. DecodeStops rose ⊥ before c.args.base.now f) (sym c.from.ensures)
    (bad_head before c.args.base.now c.in-Err.refusal c.in-Err.ensures.back c.in-Err.ensures.within _ _ ⊥ c.in-Err.ensures.cause)

pub returns-in-Ok-expect_sizes-clause-sized : goal.returns-in-Ok-expect_sizes-clause-sized
returns-in-Ok-expect_sizes-clause-sized g c = λ told.
    let before = g.S.Store.files c.args.store.now in
    record {
      has = some_head (bytes_at before (full_name c.args.base.now part.Head)) c.in-Ok.loaded c.in-Some.head c.in-Some.is (c.in-Ok.ensures.answer told);
      sizes = subst (λ f. HasSizesOf (fields_of c.in-Some.head) f c.args.base.now) c.in-Ok.ensures.files (c.in-Ok-expect_sizes.ensures.answer (subst (λ f. IsSome f) (sym c.in-Ok.ensures.files) told));
    }

pub returns-in-Ok-expect_sizes-clause-not_built : goal.returns-in-Ok-expect_sizes-clause-not_built
returns-in-Ok-expect_sizes-clause-not_built g c = λ told none.
    let bytes = bytes_at (g.S.Store.files c.args.store.now) (full_name c.args.base.now part.Head) in
    absurd (no_empty_head bytes (fields_of c.in-Some.head) (some_head bytes c.in-Ok.loaded c.in-Some.head c.in-Some.is (c.in-Ok.ensures.answer told)) none)

pub returns-in-Err-expect_sizes-clause-cause : goal.returns-in-Err-expect_sizes-clause-cause
returns-in-Err-expect_sizes-clause-cause g c =
    let before = g.S.Store.files c.args.store.now in
    let loaded = g.S.Store.files c.load.new.store in
    let rose = Rose (g.S.Store.faults c.args.store.now) (g.S.Store.faults c.expect_sizes.new.store) in
    subst (λ f. DecodeStops rose ⊥ before c.args.base.now f) (sym c.from-in-Err-expect_sizes.ensures)
    (size_refused c.in-Err-expect_sizes.refusal c.in-Some.head _ _ _ before loaded c.args.base.now c.in-Ok.ensures.cause.later c.in-Ok.ensures.files
    c.in-Err-expect_sizes.ensures.cause c.in-Err-expect_sizes.ensures.answer
    (λ collection stands. stands_loaded before loaded c.args.base.now collection c.in-Ok.loaded c.in-Some.head c.in-Some.is c.in-Ok.ensures.files c.in-Ok.ensures.answer stands))

pub returns-in-Err-expect_sizes-clause-not_built : goal.returns-in-Err-expect_sizes-clause-not_built
returns-in-Err-expect_sizes-clause-not_built g c = λ told none.
    let bytes = bytes_at (g.S.Store.files c.args.store.now) (full_name c.args.base.now part.Head) in
    absurd (no_empty_head bytes (fields_of c.in-Some.head) (some_head bytes c.in-Ok.loaded c.in-Some.head c.in-Some.is (c.in-Ok.ensures.answer told)) none)
