use Rattle.std.proofs.Common.{◌≡◌, ℕ, ◌-◌, ◌*◌, ◌/◌, ◌%◌, ◌^◌, ◌<◌, ◌≤◌, ◌+◌, ◌∙◌, ap, arith, sym, subst}
use Rattle.std.proofs.Math.Pow.{pow_mono}
use Rattle.mg_defs.specs.Bits.{digits}
use Rattle.mg_canon.specs.Tables.{IsStart}
use Rattle.mg_canon.proofs.Decoding.{front_below, of_front_alone}
use Rattle.mg_canon.proofs.canon.Canon.beginning.Goals as goal

shifted : (front width : ℕ) → width ≤ 12 → front < 2 ^ width → front * 2 ^ (57 - width) % 2 ^ 64 ≡ front * 2 ^ (57 - width)
shifted front width few below = omega (arith, front_below front width (omega (arith, few)) below)

pub first_by_lengths-entry-requires-clause-next : goal.first_by_lengths-entry-requires-clause-next
first_by_lengths-entry-requires-clause-next c =
    omega (arith, shifted c.args.front c.args.width c.requires.width c.requires.front, front_below c.args.front c.args.width (omega (arith, c.requires.width)) c.requires.front)

pub returns-then-size_in-width : goal.returns-then-size_in-width
returns-then-size_in-width c =
    let entry : ℕ = c.first_by_lengths-entry.result in
    let width : ℕ = c.args.width in
    let front : ℕ = c.args.front in
    let few : width ≤ 57 = omega (arith, c.requires.width) in
    let short : entry % 64 ≤ width = omega arith in
    let told = c.first_by_lengths-entry.ensures.found (omega arith) in
    let whole = shifted front width c.requires.width c.requires.front in
    record {
      short = short;
      symbol = λ some. told.symbol;
      code = λ some. told.code ∙ ap (λ n. digits (entry % 64) (n / 2 ^ (57 - entry % 64))) whole ∙ ap (λ n. digits (entry % 64) n) (of_front_alone front width (entry % 64) few short);
      start = λ none. absurd (omega arith);
    }

-- a bit of that place
one_bit : (width : ℕ) → (1 * 2 ^ (57 - width) % 2 ^ 64 ≡ 2 ^ (57 - width)) × (2 ^ (57 - width) ≤ 2 ^ 57)
one_bit width =
    let few : 2 ^ (57 - width) ≤ 2 ^ 57 = pow_mono {i = 57 - width} {j = 57} (omega arith) in
    (omega (arith, few), few)

pub overflow_add-least : goal.overflow_add-least
overflow_add-least c =
    let front : ℕ = c.args.front in
    let width : ℕ = c.args.width in
    let one = one_bit width in
    omega (arith, shifted front width c.requires.width c.requires.front, front_below front width (omega (arith, c.requires.width)) c.requires.front, one.0, one.1)

pub returns : goal.returns
returns c =
    let front : ℕ = c.args.front in
    let width : ℕ = c.args.width in
    let most : front * 2 ^ (57 - width) % 2 ^ 64 + (1 * 2 ^ (57 - width) % 2 ^ 64 - 1) ≡ front * 2 ^ (57 - width) + (2 ^ (57 - width) - 1) =
    omega (arith, shifted front width c.requires.width c.requires.front, (one_bit width).0) in
    let start = subst (λ n. IsStart c.args.self.now n c.start_at.result) most c.start_at.ensures in
    record {
      short = omega (arith, c.entry_of.ensures.size);
      symbol = λ some. absurd (omega (arith, c.entry_of.ensures.size));
      code = λ some. absurd (omega (arith, c.entry_of.ensures.size));
      start = λ none. subst (λ r. IsStart c.args.self.now (front * 2 ^ (57 - width) + (2 ^ (57 - width) - 1)) r) (sym c.entry_of.ensures.symbol) start;
    }
