use Rattle.mg_laws.proofs.PartLaws.{parts}
use Rattle.mg_laws.proofs.existence.collections_have_parts.Goals as goal

pub returns : goal.returns
returns c = parts c.counts_have_codes.ensures
