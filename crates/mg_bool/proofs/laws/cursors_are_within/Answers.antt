use Rattle.mg_bool.proofs.BoundLaws.{both_within}
use Rattle.mg_bool.proofs.laws.cursors_are_within.Goals as goal

pub returns : goal.returns
returns c = λ base collection asked t n v over.
    both_within collection asked t _ (c.cursor_pages_are_within.ensures base collection asked t n v over) (c.each_page_is_read_once.ensures.span base collection asked t n v over)
