use Rattle.mg_bits.proofs.HeldPages.{held_page_stays}
use Rattle.mg_bits.proofs.laws.held_pages_stay.Goals as goal

pub returns : goal.returns
returns c = held_page_stays
