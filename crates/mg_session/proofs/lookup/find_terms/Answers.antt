use Rattle.std.proofs.Common.{arith, ◌≡◌, ◌<◌, ℕ, List, [], ◌∷◌, ◌+◌, length, get_or, slice_index_or, None, IsSome, sym, ◌∙◌, ap, subst, length-append}
use Rattle.std.specs.declared.option.Option.{Option}
use Rattle.std.proofs.lemmas.List.{get_or_read}
use Rattle.mg_bool.specs.Places.{IsToldOf}
use Rattle.mg_layout.specs.declared.term_info.TermInfo.{TermInfo}
use Rattle.mg_lex.specs.Stood.{TermTold}
use Rattle.mg_session.specs.Answering.{FirstInfos}
use Rattle.mg_session.specs.PrintedLaws.{told_as}
use Rattle.mg_front.specs.Looks.{looks}
use Rattle.mg_session.specs.LookLaws.{looks_most, looks_then, one_more, some_terms}
use Rattle.mg_session.specs.SearchLaws.{lex_later, parts_then}
use Rattle.mg_session.proofs.FindLaws.{infos_all, infos_more, told_more, told_of, told_or}
use Rattle.mg_session.proofs.StepLaws.{looked_then}
use Rattle.mg_session.proofs.WildListLaws.{caused_then}
use Rattle.mg_session.proofs.lookup.find_terms.Goals as goal

pub loop-term-preserved : goal.loop-term-preserved
loop-term-preserved g c = record {
  fits = c.in-Ok.ensures.fits;
  same = parts_then _ _ _ c.loop-term.invariant.same c.in-Ok.ensures.same;
  looked = looked_then c.loop-term.invariant.looked c.in-Ok.ensures.looked;
  told = λ version collection limits stands.
      let here = lex_later _ _ _ _ collection c.loop-term.invariant.same c.loop-term.invariant.looked.files stands in
      let term = c.as_bytes.ensures ∙ get_or_read c.args.terms.now c.loop-term.term-index c.term-item.result c.loop-term-test.true c.term-item.is [] in
      let told = told_of collection _ c.in-Ok.info (c.in-Ok.ensures.info version collection limits here) in
      subst (λ (xs : List (Option TermInfo)). FirstInfos collection c.args.terms.now (c.loop-term.term-index + 1) xs) (sym c.in-Ok-push.ensures.items)
      (infos_more collection c.args.terms.now c.loop-term.term-index c.loop-term.infos.items c.in-Ok.info
      (c.loop-term.invariant.told version collection limits stands) c.loop-term.invariant.size (subst (λ t. IsToldOf collection t c.in-Ok.info) term told));
  stood = λ known.
      let term = c.as_bytes.ensures ∙ get_or_read c.args.terms.now c.loop-term.term-index c.term-item.result c.loop-term-test.true c.term-item.is [] in
      let files = c.loop-term.invariant.looked.files in
      let told = told_as _ _ _ _ _ c.in-Ok.info c.loop-term.invariant.same files (c.in-Ok.ensures.stood (subst IsSome (sym files) known)) in
      subst (λ (xs : List (Option TermInfo)). (k : ℕ) → k < c.loop-term.term-index + 1 →
      TermTold c.args.lex.now (g.S.Store.files c.args.store.now) (get_or c.args.terms.now k []) (slice_index_or xs k None)) (sym c.in-Ok-push.ensures.items)
      (told_more _ _ c.args.terms.now c.loop-term.term-index c.loop-term.infos.items c.in-Ok.info c.loop-term.invariant.size (c.loop-term.invariant.stood known)
      (subst (λ t. TermTold c.args.lex.now (g.S.Store.files c.args.store.now) t c.in-Ok.info) term told));
  size = omega (arith, ap length c.in-Ok-push.ensures.items, length-append c.loop-term.infos.items (c.in-Ok.info ∷ []), c.loop-term.invariant.size);
  reads = looks_then (one_more c.loop-term.term-index _ _ (ap looks c.loop-term.invariant.same.count)) c.loop-term.invariant.reads c.in-Ok.ensures.reads;
}

pub returns-clause-answer : goal.returns-clause-answer
returns-clause-answer g c = λ version collection limits stands.
    infos_all collection c.args.terms.now c.loop-term.term-index c.loop-term.infos.items (c.loop-term.invariant.told version collection limits stands)
    c.loop-term.invariant.size (omega (arith, c.loop-term-test.false, c.loop-term.auto.term-index-end))

pub returns-clause-told : goal.returns-clause-told
returns-clause-told g c =
    let whole : c.loop-term.term-index ≡ length c.args.terms.now = omega (arith, c.loop-term-test.false, c.loop-term.auto.term-index-end) in
    record {
      size = omega (arith, c.loop-term.invariant.size, whole);
      each = λ known k lt. c.loop-term.invariant.stood known k (omega (arith, lt, whole));
      are = λ version collection limits stands.
          infos_all collection c.args.terms.now c.loop-term.term-index c.loop-term.infos.items (c.loop-term.invariant.told version collection limits stands)
          c.loop-term.invariant.size whole;
    }

-- ---- the lexicon is refused

pub returns-in-Err-clause-fits : goal.returns-in-Err-clause-fits
returns-in-Err-clause-fits g c = c.in-Err.ensures.fits

pub returns-in-Err-clause-same : goal.returns-in-Err-clause-same
returns-in-Err-clause-same g c = parts_then _ _ _ c.loop-term.invariant.same c.in-Err.ensures.same

pub returns-in-Err-clause-answer : goal.returns-in-Err-clause-answer
returns-in-Err-clause-answer g c = λ version collection limits stands.
    told_or collection _ c.in-Err.refusal _ (c.in-Err.ensures.info version collection limits
    (lex_later _ _ _ _ collection c.loop-term.invariant.same c.loop-term.invariant.looked.files stands))

pub returns-in-Err-clause-looked : goal.returns-in-Err-clause-looked
returns-in-Err-clause-looked g c = looked_then c.loop-term.invariant.looked c.in-Err.ensures.looked

pub returns-in-Err-clause-cause : goal.returns-in-Err-clause-cause
returns-in-Err-clause-cause g c = caused_then c.in-Err.refusal c.loop-term.invariant.looked.faults c.in-Err.ensures.cause

-- ---- memory is wanting

pub returns-in-Err-push-clause-fits : goal.returns-in-Err-push-clause-fits
returns-in-Err-push-clause-fits g c = c.in-Ok.ensures.fits

pub returns-in-Err-push-clause-same : goal.returns-in-Err-push-clause-same
returns-in-Err-push-clause-same g c = parts_then _ _ _ c.loop-term.invariant.same c.in-Ok.ensures.same

pub returns-in-Err-push-clause-answer : goal.returns-in-Err-push-clause-answer
returns-in-Err-push-clause-answer g c = λ version collection limits stands. tt

pub returns-in-Err-push-clause-looked : goal.returns-in-Err-push-clause-looked
returns-in-Err-push-clause-looked g c = looked_then c.loop-term.invariant.looked c.in-Ok.ensures.looked

pub returns-in-Err-push-clause-cause : goal.returns-in-Err-push-clause-cause
returns-in-Err-push-clause-cause g c = record { later = omega (arith, c.loop-term.invariant.looked.faults, c.in-Ok.ensures.cause.later); device = tt }

-- ---- what was read

pub returns-in-Err-clause-reads : goal.returns-in-Err-clause-reads
returns-in-Err-clause-reads g c =
    looks_most (some_terms (c.loop-term.term-index + 1) (length c.args.terms.now) _ (omega (arith, c.loop-term-test.true)))
    (looks_then (one_more c.loop-term.term-index _ _ (ap looks c.loop-term.invariant.same.count)) c.loop-term.invariant.reads c.in-Err.ensures.reads)

pub returns-in-Err-push-clause-reads : goal.returns-in-Err-push-clause-reads
returns-in-Err-push-clause-reads g c =
    looks_most (some_terms (c.loop-term.term-index + 1) (length c.args.terms.now) _ (omega (arith, c.loop-term-test.true)))
    (looks_then (one_more c.loop-term.term-index _ _ (ap looks c.loop-term.invariant.same.count)) c.loop-term.invariant.reads c.in-Ok.ensures.reads)

pub returns-clause-reads : goal.returns-clause-reads
returns-clause-reads g c =
    looks_most (some_terms c.loop-term.term-index (length c.args.terms.now) _ (omega (arith, c.loop-term.auto.term-index-end))) c.loop-term.invariant.reads

-- ---- all terms are looked up

pub returns-clause-fits : goal.returns-clause-fits
returns-clause-fits g c = c.loop-term.invariant.fits

pub returns-clause-same : goal.returns-clause-same
returns-clause-same g c = c.loop-term.invariant.same

pub returns-clause-looked : goal.returns-clause-looked
returns-clause-looked g c = c.loop-term.invariant.looked

pub returns-clause-cause : goal.returns-clause-cause
returns-clause-cause g c = record { later = c.loop-term.invariant.looked.faults; device = tt }
