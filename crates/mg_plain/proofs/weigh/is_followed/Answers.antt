use Rattle.mg_plain.proofs.WordLaws.{followed}
use Rattle.mg_plain.proofs.weigh.is_followed.Goals as goal

pub returns-in-Some : goal.returns-in-Some
returns-in-Some c = followed _ _ c.in-Some.next.now _ _ c.in-Some.ensures.value c.compare_terms.ensures c.is_eq.ensures
