use Rattle.std.proofs.Common.{rules, inl, sym, subst}
use Rattle.mg_dev.specs.Files.{HasSize}
use Rattle.mg_dev.specs.Moments.{store_at}
use Rattle.mg_make.specs.Putting.{IsApart}
use Rattle.mg_build.specs.Steps.{BuildsSet}
use Rattle.mg_build.proofs.BuiltLaws.{built_before, clash_refused, not_opened}
use Rattle.mg_build.proofs.building.build.Goals as goal

pub returns-in-Some-clause-made : goal.returns-in-Some-clause-made
returns-in-Some-clause-made g c =
    let before = store_at g.S.Store.files g.S.Store.reads g.S.Store.faults c.args.store.now in
    let named = c.in-Some.ensures.part in
    (clash_refused c.args.collection.now c.args.base.now c.args.budget before c.in-Some.part named.0 named.1 c.in-Some.ensures.one).made

pub returns-in-Some-clause-tells : goal.returns-in-Some-clause-tells
returns-in-Some-clause-tells g c = inl (0, tt)

-- ---- the collection has the name of no part

pub returns-in-Err-clause-made : goal.returns-in-Err-clause-made
returns-in-Err-clause-made g c =
    let before = store_at g.S.Store.files g.S.Store.reads g.S.Store.faults c.args.store.now in
    let now = store_at g.S.Store.files g.S.Store.reads g.S.Store.faults c.open.new.store in
    let apart : IsApart c.args.base.now c.args.collection.now = search rules in
    (not_opened c.args.collection.now c.args.base.now c.args.budget before now c.in-Err.ensures.files c.in-Err.ensures.later apart c.in-Err.refusal c.in-Err.ensures.refused).made

pub returns-in-Err-clause-tells : goal.returns-in-Err-clause-tells
returns-in-Err-clause-tells g c =
    let before = store_at g.S.Store.files g.S.Store.reads g.S.Store.faults c.args.store.now in
    let now = store_at g.S.Store.files g.S.Store.reads g.S.Store.faults c.open.new.store in
    let apart : IsApart c.args.base.now c.args.collection.now = search rules in
    (not_opened c.args.collection.now c.args.base.now c.args.budget before now c.in-Err.ensures.files c.in-Err.ensures.later apart c.in-Err.refusal c.in-Err.ensures.refused).tells

pub build_opened-requires-clause-size : goal.build_opened-requires-clause-size
build_opened-requires-clause-size g c = subst (λ f. HasSize f c.in-Ok.source.feed.name c.in-Ok.source.size) (sym c.in-Ok.ensures.files)
    (subst (λ name. HasSize (g.S.Store.files c.args.store.now) name c.in-Ok.source.size) (sym c.in-Ok.ensures.name) c.in-Ok.ensures.size)

pub build_opened-requires-clause-source : goal.build_opened-requires-clause-source
build_opened-requires-clause-source g c =
    let apart : IsApart c.args.base.now c.args.collection.now = search rules in
    record { fits = c.in-Ok.ensures.fits; apart = subst (λ name. IsApart c.args.base.now name) (sym c.in-Ok.ensures.name) apart }

pub returns : goal.returns
returns g c =
    let before = store_at g.S.Store.files g.S.Store.reads g.S.Store.faults c.args.store.now in
    let opened = store_at g.S.Store.files g.S.Store.reads g.S.Store.faults c.open.new.store in
    let now = store_at g.S.Store.files g.S.Store.reads g.S.Store.faults c.build_opened.new.store in
    let built : BuildsSet c.args.collection.now c.args.base.now c.args.budget before now c.build_opened.result
    = built_before {opened = opened} c.in-Ok.ensures.files c.in-Ok.ensures.reads c.in-Ok.ensures.later
    (subst (λ name. BuildsSet name c.args.base.now c.args.budget opened now c.build_opened.result) c.in-Ok.ensures.name c.build_opened.ensures.builds) in
    record { made = built.made; summary = built.summary; tells = built.tells; later = built.later }
