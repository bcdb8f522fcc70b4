use Rattle.std.proofs.Common.{arith, ◌≡◌, ◌≤◌, ℕ, List, length, Ok, Err, subst, sym, refl, inr}
use Rattle.std.specs.Prelude.{Result}
use Rattle.mg_dev.specs.Causes.{Rose}
use Rattle.mg_dev.specs.declared.fault.Fault.{Fault}
use Rattle.mg_defs.specs.Generator.{made_collection, made_session}
use Rattle.mg_defs.specs.Limits.{held_bytes}
use Rattle.mg_top.specs.Trials.{IsBuilt, WorkEnds}
use Rattle.mg_top.specs.declared.trial_summary.TrialSummary.{TrialSummary}
use Rattle.mg_top.proofs.TrialLaws.{built_by, done_ends, found, found_is, lacking_ends, refused_ends, rose_within, stands_by}
use Rattle.mg_top.proofs.TrialSteps.{told}
use Rattle.mg_top.proofs.trials.try_text.Goals as goal

pub returns-in-Err-build-clause-ends : goal.returns-in-Err-build-clause-ends
returns-in-Err-build-clause-ends g c =
    let same : c.args.text.now ≡ made_collection c.args.seed c.args.docs = c.requires.made in
    let few : length c.args.text.now ≤ held_bytes = omega arith in
    subst (λ (b : List ℕ). WorkEnds (Rose (g.S.Store.faults c.args.store.now) (g.S.Store.faults c.build.new.store)) c.args.docs b (made_session c.args.seed) (Err c.in-Err-build.fault)) same
    (refused_ends _ _ _ c.args.text.now c.in-Ok.ensures.there (told _ _ _ c.in-Ok.ensures.there) few
    _ c.args.docs (made_session c.args.seed) c.in-Err-build.fault (λ rose. rose_within _ _ _ _ c.in-Ok.ensures.stops.later (omega arith) rose) c.in-Err-build.ensures.made)

pub is_decoded-requires : goal.is_decoded-requires
is_decoded-requires g c = record {
  stands = stands_by _ _ _ 2 _ (inr refl) ((c.in-Ok-build.ensures.made.done (told _ _ _ c.in-Ok.ensures.there) refl).stands) c.in-Ok.ensures.there;
}

pub returns-in-Err-ask_both-clause-ends : goal.returns-in-Err-ask_both-clause-ends
returns-in-Err-ask_both-clause-ends g c =
    let same : c.args.text.now ≡ made_collection c.args.seed c.args.docs = c.requires.made in
    let few : length c.args.text.now ≤ held_bytes = omega arith in
    let built : IsBuilt (g.S.Store.files c.is_decoded.new.store) c.args.text.now =
    built_by _ _ _ _ _ c.in-Ok.ensures.there ((c.in-Ok-build.ensures.made.done (told _ _ _ c.in-Ok.ensures.there) refl).stands)
    c.in-Ok-build.ensures.made.others c.in-Ok-is_decoded.ensures.files few in
    lacking_ends _ _ _ _ _ c.in-Err-ask_both.fault
    (λ rose. rose_within _ _ _ _ (omega (arith, c.in-Ok.ensures.stops.later, c.in-Ok-build.ensures.later, c.in-Ok-is_decoded.ensures.stops.later)) (omega arith) rose)
    (c.in-Err-ask_both.ensures.asks.cause c.args.text.now built)

pub returns-clause-ends : goal.returns-clause-ends
returns-clause-ends g c =
    let same : c.args.text.now ≡ made_collection c.args.seed c.args.docs = c.requires.made in
    let few : length c.args.text.now ≤ held_bytes = omega arith in
    let there = c.in-Ok.ensures.there in
    let are_told = told _ _ _ there in
    let built : IsBuilt (g.S.Store.files c.is_decoded.new.store) c.args.text.now =
    built_by _ _ _ _ _ there (c.in-Ok-build.ensures.made.done are_told refl).stands c.in-Ok-build.ensures.made.others c.in-Ok-is_decoded.ensures.files few in
    let is = found_is c.args.docs _ c.args.text.now (made_session c.args.seed) _ c.in-Ok-build.summary c.in-Ok-is_decoded.same c.in-Ok-ask_both.replies there
    (c.in-Ok-build.ensures.summary are_told) c.in-Ok-is_decoded.ensures.same (c.in-Ok-ask_both.ensures.replies c.args.text.now built) in
    let result : Result TrialSummary Fault = Ok (found c.args.docs (length c.args.text.now) c.in-Ok-build.summary c.in-Ok-is_decoded.same c.in-Ok-ask_both.replies) in
    subst (λ (b : List ℕ). WorkEnds (Rose (g.S.Store.faults c.args.store.now) (g.S.Store.faults c.ask_both.new.store)) c.args.docs b (made_session c.args.seed) result) same
    (done_ends _ _ _ c.args.text.now there are_told few _ c.args.docs (made_session c.args.seed) _ c.in-Ok-build.ensures.made is)

pub returns-clause-built : goal.returns-clause-built
returns-clause-built g c =
    let same : c.args.text.now ≡ made_collection c.args.seed c.args.docs = c.requires.made in
    let few : length c.args.text.now ≤ held_bytes = omega arith in
    let there = c.in-Ok.ensures.there in
    let built : IsBuilt (g.S.Store.files c.is_decoded.new.store) c.args.text.now =
    built_by _ _ _ _ _ there (c.in-Ok-build.ensures.made.done (told _ _ _ there) refl).stands c.in-Ok-build.ensures.made.others c.in-Ok-is_decoded.ensures.files few in
    subst (λ (b : List ℕ). IsBuilt (g.S.Store.files c.ask_both.new.store) b) same
    (subst (λ f. IsBuilt f c.args.text.now) (sym c.in-Ok-ask_both.ensures.asks.files) built)
