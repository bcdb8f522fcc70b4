use Rattle.mg_defs.proofs.CostLaws as laws
use Rattle.mg_defs.proofs.huffman.cost_in_any_order.Goals as goal

pub returns : goal.returns
returns c = laws.huffman_cost-permutation
