use Rattle.std.proofs.Common.{arith, subst, sym}
use Rattle.mg_check_parts.proofs.CallerLemmas.{looks_err, looks_ok}
use Rattle.mg_check_index.specs.Listing.{GoesToLexicon}
use Rattle.mg_check_index.proofs.EndLaws.{compared_none}
use Rattle.mg_check_index.proofs.lists.Compared.start.Goals as goal

pub returns-in-Ok-clause-start : goal.returns-in-Ok-clause-start
returns-in-Ok-clause-start g c = record {
  can = λ of is. record {
    compare = record { push = c.in-Ok.ensures.can of.table.now.terms; within = record { post = omega arith; skip = omega arith } };
    goes = subst (λ b. GoesToLexicon c.in-Ok.lexicon.writer c.in-Ok.lexicon.pair b) (sym is) c.in-Ok.ensures.goes;
  };
  none = λ of collection. record { has = compared_none _ of.base.now collection c.in-Ok.lexicon.writer _ c.in-Ok.ensures.took };
}

pub returns-in-Ok-clause-looks : goal.returns-in-Ok-clause-looks
returns-in-Ok-clause-looks g c = looks_ok c.in-Ok.ensures.looks.looks

pub returns-in-Err-clause-looks : goal.returns-in-Err-clause-looks
returns-in-Err-clause-looks g c = looks_err c.in-Err.ensures.looks.looks
