use Rattle.mg_front.specs.Entries.{string_of}
use Rattle.mg_front.proofs.ReadSteps.{cut_meant, entry_as, whole_meant}
use Rattle.mg_front.proofs.entry.read_entry.Goals as goal

pub returns-then-at-eq0 : goal.returns-then-at-eq0
returns-then-at-eq0 g c = entry_as _ (λ bytes. whole_meant c.args.at.width c.args.at.number (string_of c.args.before.now) bytes c.if-at-eq0.true) c.read_whole.ensures

pub returns : goal.returns
returns g c = entry_as _ (λ bytes. cut_meant c.args.at.width c.args.at.number (string_of c.args.before.now) bytes c.if-at-eq0.false) c.read_cut.ensures
