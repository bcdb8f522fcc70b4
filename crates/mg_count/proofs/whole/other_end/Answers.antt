use Rattle.std.proofs.Common.{rules, arith, ◌≡◌, ◌≢◌, ◌<◌, true, false, inl, inr, get_or}
use Rattle.mg_defs.specs.Parse.{is_of_kind}
use Rattle.mg_defs.specs.declared.Stream.TheVariants.{Others}
use Rattle.mg_count.proofs.WholePieces.{goes-more, goes-none, no-further}
use Rattle.mg_count.proofs.whole.other_end.Goals as goal

pub loop-at-init : goal.loop-at-init
loop-at-init c = goes-none Others c.args.bytes.now c.args.from c.requires

pub loop-at-preserved : goal.loop-at-preserved
loop-at-preserved c =
    let is : is_of_kind Others (get_or c.args.bytes.now c.loop-at.at 0) ≡ true = search rules in
    let other : get_or c.args.bytes.now c.loop-at.at 0 ≢ 2 = search rules in
    let below : c.loop-at.at < c.min-most.result = search rules in
    goes-more Others c.args.bytes.now c.args.from c.loop-at.at c.loop-at.invariant (omega (arith, below, c.min-most.ensures)) (omega (arith, below, c.min-most.ensures)) is other

pub returns-else-bytes-at-ne-CLOSE-clause-far : goal.returns-else-bytes-at-ne-CLOSE-clause-far
returns-else-bytes-at-ne-CLOSE-clause-far c =
    let closes : get_or c.args.bytes.now c.loop-at.at 0 ≡ 2 = search rules in
    no-further Others c.args.bytes.now c.args.from c.loop-at.at c.loop-at.invariant.after (inr closes)

pub returns-else-not-is_word_byte-clause-far : goal.returns-else-not-is_word_byte-clause-far
returns-else-not-is_word_byte-clause-far c =
    let other : is_of_kind Others (get_or c.args.bytes.now c.loop-at.at 0) ≡ false = search rules in
    no-further Others c.args.bytes.now c.args.from c.loop-at.at c.loop-at.invariant.after (inl other)
