use Rattle.std.proofs.Common.{map}
use Rattle.mg_defs.specs.Postings.{once}
use Rattle.mg_defs.proofs.Gathering.{gathered-are, gathered-only}
use Rattle.mg_defs.proofs.Joining.{AllCount-once}
use Rattle.mg_defs.proofs.postings.one_list_of_postings.Goals as goal

pub returns-clause-is : goal.returns-clause-is
returns-clause-is c = λ s. gathered-are (map once s) (AllCount-once s)

pub returns-clause-only : goal.returns-clause-only
returns-clause-only c = λ s found are. gathered-only (map once s) found (AllCount-once s) are
