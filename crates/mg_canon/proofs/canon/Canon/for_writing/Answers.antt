use Rattle.mg_canon.proofs.Refused.{have_lengths}
use Rattle.mg_canon.proofs.canon.Canon.for_writing.Goals as goal

pub tables_of-requires-clause-all : goal.tables_of-requires-clause-all
tables_of-requires-clause-all c = have_lengths c.args.lengths.now c.requires.good
