use Rattle.std.proofs.Common.{arith, ◌∙◌, ◌<◌, [], sym, ap, length, get_or}
use Rattle.mg_wild.specs.Terms.{LexTerms}
use Rattle.mg_wild.proofs.CutLaws.{at-lent, length-cut, past, short-at}
use Rattle.mg_wild.proofs.term_block.TermBlock.term.Goals as goal

pub returns-then-number-len-clause-term : goal.returns-then-number-len-clause-term
returns-then-number-len-clause-term c =
    past c.args.self.now.terms c.args.number (omega (
      arith,
      length-cut 0 c.self.inside.ends.items c.self.inside.bytes.items,
      ap (λ (v : LexTerms). length v.terms) c.self.view_is,
      c.len.ensures,
      c.if-number-len.true,
    ))

pub part-requires-clause-order : goal.part-requires-clause-order
part-requires-clause-order c =
    let within : c.args.number < length c.self.inside.ends.items = omega (arith, c.len.ensures, c.if-number-len.false) in
    (at-lent c.self.inside.ends.items c.self.inside.bytes.items c.deref.result.now c.deref-3.result.now c.args.number c.start_of-start.result
    c.end_of-end.result c.self.invariant.ends_are within c.deref.ensures.value c.deref-3.ensures.value c.start_of-start.ensures
    (c.end_of-end.ensures ∙ ap (λ e. get_or e c.args.number 0) (c.deref-2.ensures.value ∙ sym c.deref.ensures.value))).0

pub part-requires-clause-within : goal.part-requires-clause-within
part-requires-clause-within c =
    let within : c.args.number < length c.self.inside.ends.items = omega (arith, c.len.ensures, c.if-number-len.false) in
    (at-lent c.self.inside.ends.items c.self.inside.bytes.items c.deref.result.now c.deref-3.result.now c.args.number c.start_of-start.result
    c.end_of-end.result c.self.invariant.ends_are within c.deref.ensures.value c.deref-3.ensures.value c.start_of-start.ensures
    (c.end_of-end.ensures ∙ ap (λ e. get_or e c.args.number 0) (c.deref-2.ensures.value ∙ sym c.deref.ensures.value))).1

pub returns-clause-term : goal.returns-clause-term
returns-clause-term c =
    let within : c.args.number < length c.self.inside.ends.items = omega (arith, c.len.ensures, c.if-number-len.false) in
    let here = (at-lent c.self.inside.ends.items c.self.inside.bytes.items c.deref.result.now c.deref-3.result.now c.args.number c.start_of-start.result
    c.end_of-end.result c.self.invariant.ends_are within c.deref.ensures.value c.deref-3.ensures.value c.start_of-start.ensures
    (c.end_of-end.ensures ∙ ap (λ e. get_or e c.args.number 0) (c.deref-2.ensures.value ∙ sym c.deref.ensures.value))).2 in
    c.part.ensures ∙ sym here ∙ ap (λ (v : LexTerms). get_or v.terms c.args.number []) c.self.view_is

pub returns-clause-short : goal.returns-clause-short
returns-clause-short c =
    let within : c.args.number < length c.self.inside.ends.items = omega (arith, c.len.ensures, c.if-number-len.false) in
    let here = (at-lent c.self.inside.ends.items c.self.inside.bytes.items c.deref.result.now c.deref-3.result.now c.args.number c.start_of-start.result
    c.end_of-end.result c.self.invariant.ends_are within c.deref.ensures.value c.deref-3.ensures.value c.start_of-start.ensures
    (c.end_of-end.ensures ∙ ap (λ e. get_or e c.args.number 0) (c.deref-2.ensures.value ∙ sym c.deref.ensures.value))).2 in
    omega (arith, ap length (c.part.ensures ∙ sym here), short-at 0 c.self.inside.ends.items c.self.inside.bytes.items c.args.number c.self.invariant.short)
