use Rattle.std.proofs.Common.{◌≡◌, ◌∙◌, sym}
use Rattle.mg_layout.specs.Stands.{parts_at}
use Rattle.mg_check.specs.Rest.{HaveSizes, IsTold}
use Rattle.mg_check_parts.proofs.CallerLemmas.{looks_own}
use Rattle.mg_check.proofs.RestLaws.{compares-so, refuted}
use Rattle.mg_check.proofs.checking.expect_told.Goals as goal

pub returns-in-Err : goal.returns-in-Err
returns-in-Err g c = record {
  told = record {
    compares = λ told.
        refuted (c.from.result ≡ c.args.terms) (IsTold (parts_at (g.S.Store.files c.args.store.now) c.args.base.now) c.args.head.now c.args.terms)
        c.in-Err.refusal (λ is. c.from.ensures ∙ is.terms_are) c.in-Err.ensures.number.other;
    looks = looks_own c.in-Err.refusal _ _ _ c.in-Err.ensures.own;
  };
}

pub returns : goal.returns
returns g c = record {
  told = record {
    compares = λ told.
        let parts = parts_at (g.S.Store.files c.args.store.now) c.args.base.now in
        compares-so (HaveSizes parts c.args.head.now) (IsTold parts c.args.head.now c.args.terms) c.expect_sizes.result
        (λ sizes. record { terms_are = sym c.from.ensures ∙ c.in-Ok.ensures.number.stand; sizes = sizes }) (λ is. is.sizes) (c.expect_sizes.ensures.sizes.compares told);
    looks = c.expect_sizes.ensures.sizes.looks;
  };
}
