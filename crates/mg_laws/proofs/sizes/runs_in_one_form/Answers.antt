use Rattle.mg_laws.proofs.SizeLaws as laws
use Rattle.mg_laws.proofs.sizes.runs_in_one_form.Goals as goal

pub returns-clause-count : goal.returns-clause-count
returns-clause-count c = laws.runs_are_counted

pub returns-clause-form : goal.returns-clause-form
returns-clause-form c = laws.runs_in_one_form
