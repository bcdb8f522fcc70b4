use Rattle.std.proofs.Common.{arith, ap, length, sym, subst}
use Rattle.std.specs.List.Sorted.{IsStrictlySortedBy}
use Rattle.std.specs.Ordering.{nat_cmp}
use Rattle.std.specs.Cmp.Lexicographic.{slice_cmp}
use Rattle.mg_defs.specs.Terms.{terms_of_words}
use Rattle.mg_defs.proofs.SortedLaws.{sorted-rising}
use Rattle.mg_model.proofs.Numbering.{numbers-more, numbers-all, place-few}
use Rattle.mg_model.proofs.term_table.term_numbers.Goals as goal

pub number_of-number-requires-clause-rising : goal.number_of-number-requires-clause-rising
number_of-number-requires-clause-rising c = subst (IsStrictlySortedBy (slice_cmp nat_cmp)) (sym c.requires) (sorted-rising (terms_of_words c.args.model.now.words.pieces))

pub kept-requires : goal.kept-requires
kept-requires c = place-few c.args.terms.now c.piece.result.now c.number_of-number.result c.number_of-number.ensures c.len.ensures.few

pub loop-symbol-preserved : goal.loop-symbol-preserved
loop-symbol-preserved c = numbers-more c.args.model.now.words.pieces c.args.terms.now c.loop-symbol.symbol c.piece.result.now
    c.number_of-number.result c.kept.result c.loop-symbol.numbers.items c.push.new.self.items c.requires c.piece.ensures.piece c.number_of-number.ensures
    c.kept.ensures c.loop-symbol.invariant c.in_ok-push.ensures.items

pub returns : goal.returns
returns c = numbers-all c.args.model.now.words.pieces c.loop-symbol.symbol c.loop-symbol.numbers.items c.loop-symbol.invariant
    (omega (arith, c.canon.ensures.keeps.each, ap length c.canon.ensures.lengths, c.count-words.ensures.count))
