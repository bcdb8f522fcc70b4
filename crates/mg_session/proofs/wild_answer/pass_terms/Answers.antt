use Rattle.std.proofs.Common.{arith, ◌∙◌, [], get_or, refl, ap}
use Rattle.mg_session.proofs.CallLaws.{put_all_done, put_behind}
use Rattle.mg_session.proofs.WildTextLaws.{terms_all, terms_cut, terms_passed, terms_start, told_docs, told_info}
use Rattle.mg_session.proofs.wild_answer.pass_terms.Goals as goal

pub loop-number-init : goal.loop-number-init
loop-number-init g c = record { output = omega arith; lacks = omega arith; passed = λ collection has tells. terms_start collection c.args.numbers.now _ _ }

pub info-info-requires : goal.info-info-requires
info-info-requires g c = omega (arith, c.requires.numbers.below c.loop-number.number-index 0 c.loop-number-test.true, c.requires.numbers.told)

pub loop-number-preserved : goal.loop-number-preserved
loop-number-preserved g c =
    let inv = c.loop-number.invariant in
    let n = (get_or c.args.numbers.now c.loop-number.number-index 0) in
    record {
      output = omega (arith, inv.output, c.in-Ok.ensures.cause.later);
      lacks = omega (arith, inv.lacks, c.in-Ok.ensures.lack.later);
      passed = λ collection has tells.
          let told = told_info collection c.args.terms.now n c.info-info.result has tells
          (c.requires.numbers.below c.loop-number.number-index 0 c.loop-number-test.true) c.info-info.ensures.info c.info-info.ensures.number in
          let named = c.term.ensures ∙ ap (λ ts. get_or ts n []) has.terms in
          terms_passed collection c.args.numbers.now c.loop-number.number-index n c.info-info.result.docs c.term.result.now _ _ _ _ _ _ c.loop-number-test.true
          refl named (told_docs collection _ c.info-info.result told) (inv.passed collection has tells) c.in-Ok.ensures.content;
    }

pub returns-in-Err-clause-content : goal.returns-in-Err-clause-content
returns-in-Err-clause-content g c = λ collection has tells.
    let inv = c.loop-number.invariant in
    let n = (get_or c.args.numbers.now c.loop-number.number-index 0) in
    let told = told_info collection c.args.terms.now n c.info-info.result has tells (c.requires.numbers.below c.loop-number.number-index 0 c.loop-number-test.true)
    c.info-info.ensures.info c.info-info.ensures.number in
    let named = c.term.ensures ∙ ap (λ ts. get_or ts n []) has.terms in
    terms_cut collection c.args.numbers.now c.loop-number.number-index n c.info-info.result.docs c.term.result.now _ _ _ _ _ c.loop-number-test.true refl named
    (told_docs collection _ c.info-info.result told) (inv.passed collection has tells) c.in-Err.ensures.content

pub returns-clause-content : goal.returns-clause-content
returns-clause-content g c = λ collection has tells. terms_all collection c.args.numbers.now c.loop-number.number-index _ _ _ _
    (omega (arith, c.loop-number-test.false, c.loop-number.auto.number-index-end)) (c.loop-number.invariant.passed collection has tells)

pub returns-in-Err-clause-stepped : goal.returns-in-Err-clause-stepped
returns-in-Err-clause-stepped g c =
    let e = c.in-Err.ensures in
    put_behind e.cause e.lack c.loop-number.invariant.output c.loop-number.invariant.lacks

pub returns-clause-stepped : goal.returns-clause-stepped
returns-clause-stepped g c = put_all_done c.loop-number.invariant.output c.loop-number.invariant.lacks
