use Rattle.std.proofs.Common.{sym, subst}
use Rattle.mg_model.specs.Terms.{TermNumbers}
use Rattle.mg_check_parts.specs.Words.{AreWords}
use Rattle.mg_check_parts.proofs.TermWords.{terms_words}
use Rattle.mg_check_parts.proofs.word_table.WordTable.of.Goals as goal

pub invariant_of-result : goal.invariant_of-result
invariant_of-result c = subst (λ (t : TermNumbers). AreWords t.terms) (sym c.in-Ok-of.ensures) (terms_words c.args.model.now.words.pieces c.in-Ok.ensures.words)
