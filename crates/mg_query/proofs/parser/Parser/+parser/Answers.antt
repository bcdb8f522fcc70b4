use Rattle.std.proofs.Common.{arith, ◌∙◌, ap, sym}
use Rattle.std.proofs.lemmas.Bool.{ltb-true}
use Rattle.mg_query.specs.TokenOf.{sign_token, token_of}
use Rattle.mg_query.proofs.Steps.{reads-word, reads-inside, reads-and, reads-or, reads-only-not, reads-only-and, banged-more, and-shorter, or-shorter}
use Rattle.mg_query.proofs.AheadFew.{ahead-few}
use Rattle.mg_query.proofs.parser.Parser.+parser.Goals as goal

pub and-operands-init : goal.and-operands-init
and-operands-init t c = record { reads = reads-only-not _ _ _ _ _ c.in_ok-query.ensures.parsed.reads; end = c.not.ensures.parsed.end }

pub and-operands-smaller : goal.and-operands-smaller
and-operands-smaller t c = and-shorter _ _ _ _ _ _ c.operands-test.ensures.yes c.in_ok-right.ensures.parsed.reads

pub and-operands-preserved : goal.and-operands-preserved
and-operands-preserved t c = record {
  reads = reads-and c.operands.invariant.reads c.operands-test.ensures.yes (c.joins.ensures.end ∙ c.operands.invariant.end) c.in_ok-right.ensures.parsed.reads c.in_ok-query-2.ensures;
  end = c.in_ok-right.ensures.parsed.end ∙ (c.joins.ensures.end ∙ c.operands.invariant.end);
}

pub not-overflow_add-signs : goal.not-overflow_add-signs
not-overflow_add-signs t c =
    let few = ahead-few c.args.self.now in
    omega (arith, few, c.signs.invariant.banged.count)

pub not-signs-preserved : goal.not-signs-preserved
not-signs-preserved t c = record {
  banged = banged-more _ _ _ _ _ _ _ c.signs.invariant.banged c.signs-test.ensures.taken.yes.1;
  end = c.takes.ensures.taken.end ∙ c.signs.invariant.end;
}

pub operand-returns-in_ok-term-in-Word : goal.operand-returns-in_ok-term-in-Word
operand-returns-in_ok-term-in-Word t c = record {
  parsed = record {
    reads = reads-word _ _ _ _ _ _ _ c.in-Some.ensures.some (ap token_of c.in-Word.is) c.if-word-gt-WORD_LIMIT.false c.in_ok-term-in-Word.ensures;
    stops = tt;
    stopped = tt;
    end = c.take.ensures.end;
  };
}

pub operand-returns-else-not-takes : goal.operand-returns-else-not-takes
operand-returns-else-not-takes t c = record {
  parsed = record {
    reads = reads-inside c.in-Some.ensures.some (ap token_of c.in-Sign.is ∙ ap sign_token c.in-Opening.is) (ltb-true c.args.depth 32 (sym c.if-not-may_open.ensures.is)) c.take.ensures.end
        c.in_ok-inner-in-Opening.ensures.parsed.reads c.if-not-takes.ensures.taken.yes.1;
    stops = tt;
    stopped = tt;
    end = c.if-not-takes.ensures.taken.end ∙ (c.in_ok-inner-in-Opening.ensures.parsed.end ∙ c.take.ensures.end);
  };
}

pub or-operands-init : goal.or-operands-init
or-operands-init t c = record { reads = reads-only-and _ _ _ _ _ c.in_ok-query.ensures.parsed.reads; stops = c.in_ok-query.ensures.parsed.stops; end = c.and.ensures.parsed.end }

pub or-operands-smaller : goal.or-operands-smaller
or-operands-smaller t c = or-shorter _ _ _ _ _ _ _ c.operands-test.ensures.taken.yes.1 c.in_ok-right.ensures.parsed.reads

pub or-operands-preserved : goal.or-operands-preserved
or-operands-preserved t c = record {
  reads = reads-or c.operands.invariant.reads c.operands-test.ensures.taken.yes.1 (c.takes.ensures.taken.end ∙ c.operands.invariant.end)
      c.in_ok-right.ensures.parsed.reads c.in_ok-query-2.ensures;
  stops = c.in_ok-right.ensures.parsed.stops;
  end = c.in_ok-right.ensures.parsed.end ∙ (c.takes.ensures.taken.end ∙ c.operands.invariant.end);
}
