use Rattle.std.proofs.Common.{ℕ, ◌/◌, ◌%◌, ◌^◌, ◌-◌, ◌<◌, ◌≤◌, ◌∙◌, length, ap, subst, arith}
use Rattle.mg_defs.specs.Bits.{digits}
use Rattle.mg_canon.specs.Tables.{IsBeginning, found_in}
use Rattle.mg_canon.proofs.Decoding.{entry_is, last_of_front, of_front, start_one, start_within}
use Rattle.mg_canon.proofs.canon.Canon.first_by_table.Goals as goal

pub returns-then-front-len-clause-start : goal.returns-then-front-len-clause-start
returns-then-front-len-clause-start c = λ none. rw c.entry_of.ensures.symbol (start_one c.args.self.now c.args.next)

pub returns-clause-found : goal.returns-clause-found
returns-clause-found c = λ some.
    let s = c.self.inside in
    let entry : ℕ = c.index.result.now in
    let front : ℕ = c.args.next / 2 ^ (57 - s.width) in
    let few : s.width ≤ 57 = omega (arith, c.self.invariant.narrow) in
    let there : front < length s.beginnings.items = omega (arith, c.len.ensures, c.if-front-len.false) in
    let told = subst (λ l. IsBeginning l s.width front (found_in entry)) c.self.view_is
    (entry_is s.lengths.items s.width s.beginnings.items front entry c.self.invariant.entries there c.index.ensures) in
    record {
      symbol = told.symbol some;
      code = told.code some ∙ ap (λ n. digits (entry % 64) n) (of_front c.args.next s.width (entry % 64) few told.short);
      some = some;
      small = omega (arith, told.short, c.self.invariant.narrow);
      none = tt;
    }

pub returns-clause-start : goal.returns-clause-start
returns-clause-start c = λ none.
    let s = c.self.inside in
    let entry : ℕ = c.index.result.now in
    let front : ℕ = c.args.next / 2 ^ (57 - s.width) in
    let there : front < length s.beginnings.items = omega (arith, c.len.ensures, c.if-front-len.false) in
    let told = subst (λ l. IsBeginning l s.width front (found_in entry)) c.self.view_is
    (entry_is s.lengths.items s.width s.beginnings.items front entry c.self.invariant.entries there c.index.ensures) in
    start_within c.args.next (told.start none) (last_of_front c.args.next (57 - s.width))
