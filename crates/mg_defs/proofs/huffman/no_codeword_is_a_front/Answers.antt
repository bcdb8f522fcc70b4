use Rattle.mg_defs.proofs.CanonLaws as laws
use Rattle.mg_defs.proofs.huffman.no_codeword_is_a_front.Goals as goal

pub returns-clause-prefix_free : goal.returns-clause-prefix_free
returns-clause-prefix_free c = laws.codewords_free

pub returns-clause-bits : goal.returns-clause-bits
returns-clause-bits c = laws.length-codeword
