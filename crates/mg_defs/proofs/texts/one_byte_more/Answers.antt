use Rattle.mg_defs.proofs.texts.one_byte_more.Goals as goal
use Rattle.mg_defs.proofs.ClosedLaws.{closed-close, open-close, closed-byte, open-byte}

pub returns-clause-closes : goal.returns-clause-closes
returns-clause-closes c = closed-close

pub returns-clause-begins : goal.returns-clause-begins
returns-clause-begins c = open-close

pub returns-clause-stays : goal.returns-clause-stays
returns-clause-stays c = closed-byte

pub returns-clause-grows : goal.returns-clause-grows
returns-clause-grows c = open-byte
