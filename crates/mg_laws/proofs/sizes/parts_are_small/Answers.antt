use Rattle.mg_laws.proofs.SizeLaws as laws
use Rattle.mg_laws.proofs.sizes.parts_are_small.Goals as goal

pub returns-clause-post : goal.returns-clause-post
returns-clause-post c = laws.few_post_bits

pub returns-clause-text : goal.returns-clause-text
returns-clause-text c = laws.few_text_bytes

pub returns-clause-post_places : goal.returns-clause-post_places
returns-clause-post_places c = laws.post_places_fit

pub returns-clause-text_places : goal.returns-clause-text_places
returns-clause-text_places c = laws.text_places_fit
