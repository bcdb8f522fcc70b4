use Rattle.mg_defs.proofs.CanonLaws as laws
use Rattle.mg_defs.proofs.huffman.first_is_exact.Goals as goal

pub returns : goal.returns
returns c = laws.first-whole
