use Rattle.mg_laws.proofs.JoinLaws as laws
use Rattle.mg_laws.proofs.joins.pieces_of_both.Goals as goal

pub returns-clause-pieces : goal.returns-clause-pieces
returns-clause-pieces c = laws.pieces_joined

pub returns-clause-counts : goal.returns-clause-counts
returns-clause-counts c = laws.counts_joined

pub returns-clause-sorted : goal.returns-clause-sorted
returns-clause-sorted c = laws.sorted_pieces_joined

pub returns-clause-dictionary : goal.returns-clause-dictionary
returns-clause-dictionary c = laws.dictionary_joined

pub returns-clause-docs : goal.returns-clause-docs
returns-clause-docs c = laws.docs_joined

pub returns-clause-weights : goal.returns-clause-weights
returns-clause-weights c = laws.weights_joined
