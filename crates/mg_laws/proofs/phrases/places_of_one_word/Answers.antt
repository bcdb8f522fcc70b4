use Rattle.mg_laws.proofs.PhraseLaws as laws
use Rattle.mg_laws.proofs.phrases.places_of_one_word.Goals as goal

pub returns : goal.returns
returns c = laws.places_of_one_word
