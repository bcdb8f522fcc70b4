use Rattle.std.proofs.Common.{sym, subst}
use Rattle.std.specs.List.Sorted.{IsStrictlySortedBy}
use Rattle.std.specs.Ordering.{nat_cmp}
use Rattle.std.specs.Cmp.Lexicographic.{slice_cmp}
use Rattle.mg_defs.specs.Terms.{terms_of_words}
use Rattle.mg_defs.proofs.SortedLaws.{sorted-rising}
use Rattle.mg_model.proofs.term_table.TermTable.of.Goals as goal

pub invariant_of-result : goal.invariant_of-result
invariant_of-result c = subst (IsStrictlySortedBy (slice_cmp nat_cmp)) (sym c.in-Ok.ensures) (sorted-rising (terms_of_words c.args.model.now.words.pieces))
