use Rattle.std.proofs.Common.{◌≡◌, take, map}
use Rattle.mg_defs.specs.Sorted.{sorted_distinct}
use Rattle.mg_defs.specs.Terms.{terms_of_words}
use Rattle.mg_defs.specs.Marks.{term_in}
use Rattle.mg_model.specs.Terms.{numbers_kept}
use Rattle.mg_model.proofs.term_table.term_numbers.Given as goal

abbrev pub invariant-loop-symbol : goal.invariant-loop-symbol
invariant-loop-symbol l = numbers_kept l.numbers.items ≡ take l.symbol (map (term_in (sorted_distinct (terms_of_words l.model.words.pieces))) l.model.words.pieces)
