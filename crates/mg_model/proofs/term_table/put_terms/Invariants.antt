use Rattle.std.proofs.Common.{◌≡◌, take}
use Rattle.mg_defs.specs.Terms.{terms_of_words}
use Rattle.mg_model.proofs.term_table.put_terms.Given as goal

abbrev pub invariant-loop-symbol : goal.invariant-loop-symbol
invariant-loop-symbol l = l.terms ≡ terms_of_words (take l.symbol l.model.words.pieces)
