use Rattle.std.proofs.Common.{◌≡◌, ◌++◌}
use Rattle.mg_defs.specs.Terms.{terms}
use Rattle.mg_plain.specs.EqualTerms.{terms_of, terms_in}
use Rattle.mg_plain.proofs.weigh.collect_words.Given as goal

abbrev pub invariant-loop-pair : goal.invariant-loop-pair
invariant-loop-pair l = terms_of l.words.items ++ terms_in l.pair-iterator ≡ terms l.doc
