use Rattle.std.proofs.Common.{arith, ◌≡◌, ◌+◌, ◌-◌, ◌*◌, ◌%◌, ◌<◌, ◌^◌, ◌∙◌, ap, sym, ℕ, mul_assoc}
use Rattle.std.proofs.lemmas.Nat.{pow-add, pow_pos}
use Rattle.mg_defs.proofs.BitLaws.{high_below}
use Rattle.mg_bits.proofs.bit_writer.shifted.Goals as goal

pub returns : goal.returns
returns c =
    let word : ℕ = c.args.word in
    let left : ℕ = 40 - c.args.total in
    let all : c.args.total + left ≡ 40 = omega (arith, c.requires.total) in
    let more : left + 24 ≡ 64 - c.args.total = omega (arith, c.requires.total) in
    let below : word * 2 ^ left + 0 < 2 ^ (c.args.total + left) = high_below c.args.total left word 0 c.requires.word (pow_pos left) in
    let few : word * 2 ^ left < 1099511627776 = omega (arith, below, ap (λ k. 2 ^ k) all) in
    let kept : word * 2 ^ left % 18446744073709551616 * 16777216 % 18446744073709551616 ≡ word * 2 ^ left * 2 ^ 24 = omega (arith, few) in
    kept ∙ mul_assoc word (2 ^ left) (2 ^ 24) ∙ ap (λ p. word * p) (sym (pow-add 2 left 24) ∙ ap (λ k. 2 ^ k) more)
