use Rattle.std.proofs.Common.{◌≡◌, ⊎_elim, arith, subst}
use Rattle.std.proofs.lemmas.Bool.{cases_eq}
use Rattle.mg_canon.specs.Tables.{place_of}
use Rattle.mg_canon.proofs.Placing.{place-once}
use Rattle.mg_canon.proofs.canon.Canon.symbol_of.Goals as goal

pub loop-symbol-init : goal.loop-symbol-init
loop-symbol-init c = λ s before. absurd (omega arith)

pub returns-then-place_of-place : goal.returns-then-place_of-place
returns-then-place_of-place c = λ s there is.
    place-once c.args.self.now c.loop-symbol.symbol s (omega (arith, c.count-symbol-end.ensures.count)) there (omega (arith, is, c.place_of.ensures))

pub loop-symbol-preserved : goal.loop-symbol-preserved
loop-symbol-preserved c = λ s before is. ⊎_elim
    (λ here. let same = subst (λ n. place_of c.args.self.now n ≡ c.args.place) here is in absurd (omega (arith, same, c.place_of.ensures)))
    (λ other. absurd (c.loop-symbol.invariant s (omega (arith, other)) is))
    (cases_eq s c.loop-symbol.symbol)

pub returns : goal.returns
returns c = λ s there is. absurd (c.loop-symbol.invariant s (omega (arith, c.count-symbol-end.ensures.count)) is)
