use Rattle.std.proofs.Common.{rules, arith, ◌≢◌, ◌∙◌, get_or, length, subst, sym, take}
use Rattle.mg_defs.specs.Pieces.{OpenPiece}
use Rattle.mg_count.specs.Scanning.{HasReadOn}
use Rattle.mg_count.proofs.ReadingOn.{read-on_more, read-on_none}
use Rattle.mg_count.proofs.Slices.{all_given}
use Rattle.mg_count.proofs.scanner.read_on.Goals as goal

pub loop-count-init : goal.loop-count-init
loop-count-init c = read-on_none c.args.reader.now

pub loop-count-preserved : goal.loop-count-preserved
loop-count-preserved c =
    let other : get_or c.args.bytes.now c.loop-count.count 0 ≢ 2 = search rules in
    read-on_more c.args.bytes.now c.loop-count.count c.loop-count-test.true c.loop-count.invariant other c.in-Taken.ensures.offered

pub returns-in-Ended-clause-read : goal.returns-in-Ended-clause-read
returns-in-Ended-clause-read c = subst (λ (r : OpenPiece). HasReadOn c.args.reader.now r (take c.loop-count.count c.args.bytes.now)) (sym c.in-Ended.ensures.offered.1) c.loop-count.invariant

pub returns-clause-read : goal.returns-clause-read
returns-clause-read c = subst (λ run. HasReadOn c.args.reader.now c.loop-count.reader run)
    (all_given c.args.bytes.now c.loop-count.count c.loop-count-test.false ∙ sym (all_given c.args.bytes.now (length c.args.bytes.now) (omega arith))) c.loop-count.invariant
