use Rattle.std.proofs.Common.{arith, ◌∙◌, ◌+◌, ◌∷◌, [], ap, refl, subst, sym, length, length-append}
use Rattle.mg_front.specs.Entries.{entry_of, string_of}
use Rattle.mg_front.specs.Walk.{AfterNext, with_next}
use Rattle.mg_wild.specs.Terms.{AreNumbered, total}
use Rattle.mg_wild.proofs.LoadLaws.{looked-on, has-more, taken-all, taken-more, taken-none, total-push}
use Rattle.mg_wild.proofs.reading.take_terms.Goals as goal

pub loop-terms-init : goal.loop-terms-init
loop-terms-init g c =
    let walk = c.args.walk.now in
    record {
      looked = record { files = refl; faults = omega arith; later = λ p. omega arith; others = λ p _. refl };
      gave = record { es = []; gave = c.requires.gave };
      taken = taken-none walk (g.S.Store.files c.args.store.now) (g.S.Store.files c.args.store.now) walk.feed.name walk.count c.args.terms.now refl c.requires.gave
          c.requires.terms c.requires.infos;
      name = refl;
      part = refl;
      width = c.requires.width;
      count = refl;
      space = omega (arith, ap length c.requires.terms);
      numbered = subst (AreNumbered 0) (sym c.requires.infos) tt;
      room = omega (arith, ap total c.requires.terms);
    }

pub returns-then-grown-most-clause-answer : goal.returns-then-grown-most-clause-answer
returns-then-grown-most-clause-answer g c =
    let inv = c.loop-terms.invariant in
    has-more c.loop-terms.walk c.next.new.out (g.S.Store.files c.args.store.now) (g.S.Store.files c.loop-terms.store)
    c.args.walk.now.feed.name c.args.walk.now.count c.args.most c.loop-terms.terms c.in_ok-next.field-0
    (c.size.result + length c.string_in.result.now) inv.taken inv.looked.files inv.name inv.width inv.count c.in_ok-next.ensures.among c.if-branch.true
    (omega (arith, c.size.ensures, ap length c.string_in.ensures.string)) (omega (arith, c.if-grown-most.true))

pub loop-terms-preserved : goal.loop-terms-preserved
loop-terms-preserved g c =
    let inv = c.loop-terms.invariant in
    let same = c.in_ok-next.ensures.same in
    let step = subst (λ b. AfterNext b c.loop-terms.walk c.next.new.self) c.if-branch.true c.in_ok-next.ensures.step in
    record {
      looked = looked-on inv.looked c.in_ok-next.ensures.looked inv.part;
      gave = record { es = with_next inv.gave.es c.in_ok-next.field-0 (entry_of c.loop-terms.walk.width c.next.new.out); gave = c.in_ok-next.ensures.gave inv.gave.es inv.gave.gave };
      taken = taken-more c.loop-terms.walk c.next.new.out (g.S.Store.files c.args.store.now) (g.S.Store.files c.loop-terms.store)
          c.args.walk.now.feed.name c.args.walk.now.count c.loop-terms.terms c.push.new.self c.next.new.self.done c.in_ok-next.field-0
          inv.taken inv.looked.files inv.name inv.width inv.count c.in_ok-next.ensures.among c.if-branch.true step.1
          c.in_ok-push.ensures.terms c.in_ok-push.ensures.fields;
      name = same.name ∙ inv.name;
      part = same.part ∙ inv.part;
      width = same.width ∙ inv.width;
      count = same.count ∙ inv.count;
      space = omega (arith, inv.space, step.0, step.1, same.count, ap length c.in_ok-push.ensures.terms, length-append c.loop-terms.terms.terms (string_of c.next.new.out ∷ []));
      numbered = c.in_ok-push.ensures.numbered;
      room = omega (
        arith,
        ap total c.in_ok-push.ensures.terms,
        total-push c.loop-terms.terms.terms (string_of c.next.new.out),
        c.size.ensures,
        ap length c.string_in.ensures.string,
        c.if-grown-most.false,
      );
    }

pub returns-clause-answer : goal.returns-clause-answer
returns-clause-answer g c =
    let inv = c.loop-terms.invariant in
    taken-all c.loop-terms.walk c.next.new.out (g.S.Store.files c.args.store.now) (g.S.Store.files c.loop-terms.store)
    c.args.walk.now.feed.name c.args.walk.now.count c.args.most c.loop-terms.terms c.in_ok-next.field-0 inv.taken inv.gave inv.looked.files inv.name
    inv.width inv.count c.in_ok-next.ensures.answer c.if-branch.false inv.room c.requires.most
