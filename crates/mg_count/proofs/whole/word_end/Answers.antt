use Rattle.std.proofs.Common.{rules, arith, ◌≡◌, ◌<◌, true, false, inl, get_or}
use Rattle.mg_defs.specs.Parse.{is_of_kind}
use Rattle.mg_defs.specs.declared.Stream.TheVariants.{Words}
use Rattle.mg_count.proofs.WholePieces.{goes-more, goes-none, no-further, word-open}
use Rattle.mg_count.proofs.whole.word_end.Goals as goal

pub loop-at-init : goal.loop-at-init
loop-at-init c = goes-none Words c.args.bytes.now c.args.from c.requires

pub loop-at-preserved : goal.loop-at-preserved
loop-at-preserved c =
    let is : is_of_kind Words (get_or c.args.bytes.now c.loop-at.at 0) ≡ true = search rules in
    let below : c.loop-at.at < c.min-most.result = search rules in
    goes-more Words c.args.bytes.now c.args.from c.loop-at.at c.loop-at.invariant (omega (arith, below, c.min-most.ensures)) (omega (arith, below, c.min-most.ensures)) is
    (word-open (get_or c.args.bytes.now c.loop-at.at 0) is)

pub returns-else-is_word_byte-clause-far : goal.returns-else-is_word_byte-clause-far
returns-else-is_word_byte-clause-far c =
    let other : is_of_kind Words (get_or c.args.bytes.now c.loop-at.at 0) ≡ false = search rules in
    no-further Words c.args.bytes.now c.args.from c.loop-at.at c.loop-at.invariant.after (inl other)
