use Rattle.std.proofs.Common.{arith, sym}
use Rattle.mg_check_index.proofs.PackedLaws.{behind, here, there}
use Rattle.mg_check_index.proofs.packed_postings.unpack.Goals as goal

pub returns-then-freq-gt0 : goal.returns-then-freq-gt0
returns-then-freq-gt0 c = sym (here c.args.beside.now c.args.word (λ e. omega (arith, e, c.if-freq-gt0.true)))

pub returns-then-place-beside : goal.returns-then-place-beside
returns-then-place-beside c =
    sym (behind c.args.beside.now c.args.word (omega (arith, c.if-freq-gt0.false)) (omega (arith, c.if-place-beside.true)))

pub returns : goal.returns
returns c = sym (there c.args.beside.now c.args.word (omega (arith, c.if-freq-gt0.false)))
