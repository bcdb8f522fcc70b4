use Rattle.std.proofs.Common.{ℕ, ◌+◌, ◌-◌, ◌/◌, ◌^◌, arith, inr, refl, subst, sym}
use Rattle.mg_canon.specs.Tables.{IsSymbolAt}
use Rattle.mg_canon.proofs.Decoding.{ends_nowhere, ends_with, walk_begins, walk_on}
use Rattle.mg_canon.proofs.SymbolReads.{entry_found, first_is, first_is_none}
use Rattle.mg_canon.proofs.canon.Canon.first_by_lengths.Goals as goal

pub loop-read-init : goal.loop-read-init
loop-read-init c =
    let start = rw (← c.self.view_is) at c.requires.start in
    record {
      walk = walk_begins c.args.next c.self.invariant.tables (rw (← c.self.view_is) at c.requires.some) c.requires.next start;
      some = start.some;
    }

pub loop-read-smaller : goal.loop-read-smaller
loop-read-smaller c =
    let on = (walk_on c.args.next c.self.invariant.tables (rw (← c.self.view_is) at c.requires.some) c.loop-read.invariant.walk (inr (omega arith))).0 in
    omega (arith, on)

pub loop-read-preserved : goal.loop-read-preserved
loop-read-preserved c = record {
  walk = (walk_on c.args.next c.self.invariant.tables (rw (← c.self.view_is) at c.requires.some) c.loop-read.invariant.walk (inr (omega arith))).1;
  some = omega arith;
}

pub returns-in-None-clause-none : goal.returns-in-None-clause-none
returns-in-None-clause-none c = λ none.
    let i = c.loop-read.invariant in
    let past = rw (← c.self.view_is) at c.in-None.ensures.none in
    rw (← c.self.view_is)
    (first_is_none (ends_nowhere c.self.invariant.tables (rw (← c.self.view_is) at c.requires.some) i.walk i.some (omega arith)
    (omega (arith, past, c.from-3.ensures, c.from-2.ensures))).alone)

pub entry_of-requires-clause-symbol : goal.entry_of-requires-clause-symbol
entry_of-requires-clause-symbol c =
    let i = c.loop-read.invariant in
    let t = c.self.invariant.tables in
    let place : ℕ = c.from-3.result + (c.args.next / 2 ^ (57 - c.loop-read.read) - c.from-2.result) in
    let found = ends_with t (rw (← c.self.view_is) at c.requires.some) i.walk i.some (omega arith) c.in-Some.symbol place
    (omega (arith, c.from-3.ensures, c.from-2.ensures)) (rw (← c.self.view_is) at c.in-Some.ensures.within)
    (subst (λ l. IsSymbolAt l place c.in-Some.symbol) (sym c.self.view_is) c.in-Some.ensures.is) in
    omega (arith, found.taken, t.few)

pub returns-in-Some-clause-found : goal.returns-in-Some-clause-found
returns-in-Some-clause-found c = λ some.
    let i = c.loop-read.invariant in
    let place : ℕ = c.from-3.result + (c.args.next / 2 ^ (57 - c.loop-read.read) - c.from-2.result) in
    rw (← c.self.view_is)
    (entry_found c.entry_of.result c.in-Some.symbol c.loop-read.read c.entry_of.ensures.symbol c.entry_of.ensures.size
    (first_is
    (ends_with c.self.invariant.tables (rw (← c.self.view_is) at c.requires.some) i.walk i.some (omega arith) c.in-Some.symbol place
    (omega (arith, c.from-3.ensures, c.from-2.ensures)) (rw (← c.self.view_is) at c.in-Some.ensures.within)
    (subst (λ l. IsSymbolAt l place c.in-Some.symbol) (sym c.self.view_is) c.in-Some.ensures.is))
    i.some i.walk.short refl))
