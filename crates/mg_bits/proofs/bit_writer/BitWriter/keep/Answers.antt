use Rattle.std.proofs.Common.{arith, ◌+◌, ◌/◌, ◌%◌, ◌^◌, ◌<◌, subst, sym}
use Rattle.std.proofs.lemmas.Nat.{mod_below, pow_pos}
use Rattle.mg_defs.proofs.BitLaws.{digits_mod}
use Rattle.mg_bits.proofs.Held.{word_held}
use Rattle.mg_bits.proofs.bit_writer.BitWriter.keep.Goals as goal

pub returns-clause-kept : goal.returns-clause-kept
returns-clause-kept c =
    rw (← c.self.view_is, c.low-self-inside.ensures, ← digits_mod c.args.count c.args.count c.args.value (omega arith), ← c.low.ensures)
    (word_held _ _ c.self.inside.rest c.self.inside.count c.low.result c.args.count c.self.inside.place c.from.result c.join-word.result ((c.self.inside.count + c.args.count) % 8)
    ((c.self.inside.count + c.args.count) / 8) c.shifted.result
    (subst (λ n. n < 2 ^ c.args.count) (sym c.low.ensures) (mod_below c.args.value (2 ^ c.args.count) (pow_pos c.args.count)))
    c.join-word.ensures.value (omega (arith, c.self.invariant.0, c.if-count-gt32.false)) (omega arith) c.shifted.ensures (omega arith) (omega (arith, c.from.ensures))
    c.if-not-keep_first.ensures.name c.if-not-keep_first.ensures.page c.if-not-keep_first.ensures.kept)
