use Rattle.std.proofs.Common.{arith, ◌∷◌, [], ◌++◌, sym, ◌∙◌, ap, length, length-append}
use Rattle.mg_layout.specs.declared.term_info.TermInfo.{TermInfo}
use Rattle.std.proofs.Common.{List}
use Rattle.mg_session.proofs.FindLaws.{known_none, known_some}
use Rattle.mg_session.proofs.lookup.known_of.Goals as goal

pub loop-info-preserved-in_default : goal.loop-info-preserved-in_default
loop-info-preserved-in_default c = record {
  known = c.loop-info.invariant.known ∙ sym (known_none c.args.infos.now c.loop-info.info-index _ c.loop-info-test.true c.in_default.is);
  few = omega (arith, c.loop-info.invariant.few);
}

pub loop-info-preserved : goal.loop-info-preserved
loop-info-preserved c = record {
  known = c.in_ok-push.ensures.items ∙ ap (λ (xs : List TermInfo). xs ++ c.in-Some.info ∷ []) c.loop-info.invariant.known
      ∙ sym (known_some c.args.infos.now c.loop-info.info-index _ c.in-Some.info c.loop-info-test.true c.in-Some.is);
  few = omega (arith, ap length c.in_ok-push.ensures.items, length-append c.loop-info.known.items (c.in-Some.info ∷ []), c.loop-info.invariant.few);
}
