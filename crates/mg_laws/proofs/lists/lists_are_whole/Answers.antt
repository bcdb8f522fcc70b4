use Rattle.mg_laws.proofs.WholeBytes as laws
use Rattle.mg_laws.proofs.lists.lists_are_whole.Goals as goal

pub returns-clause-lists : goal.returns-clause-lists
returns-clause-lists c = laws.lists_are_whole

pub returns-clause-entries : goal.returns-clause-entries
returns-clause-entries c = laws.entries_are_whole

pub returns-clause-runs : goal.returns-clause-runs
returns-clause-runs c = laws.runs_are_whole

pub returns-clause-size : goal.returns-clause-size
returns-clause-size c = laws.whole_long

pub returns-clause-sixteen : goal.returns-clause-sixteen
returns-clause-sixteen c = laws.entries_sized
