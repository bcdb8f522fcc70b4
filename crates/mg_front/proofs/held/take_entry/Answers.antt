use Rattle.mg_front.specs.Entries.{string_of}
use Rattle.mg_front.proofs.HeldFacts.{held_as}
use Rattle.mg_front.proofs.ReadSteps.{cut_meant, whole_meant}
use Rattle.mg_front.proofs.held.take_entry.Goals as goal

pub returns-then-number-eq0 : goal.returns-then-number-eq0
returns-then-number-eq0 c =
    held_as _ _ _ _ _ _ _ _ (whole_meant c.args.width c.args.number (string_of c.args.last.now) c.args.bytes.now c.if-number-eq0.true) c.take_whole.ensures

pub returns : goal.returns
returns c = held_as _ _ _ _ _ _ _ _ (cut_meant c.args.width c.args.number (string_of c.args.last.now) c.args.bytes.now c.if-number-eq0.false) c.take_cut.ensures
