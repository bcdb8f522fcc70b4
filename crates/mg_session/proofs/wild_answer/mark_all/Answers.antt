use Rattle.std.proofs.Common.{arith, refl}
use Rattle.mg_session.proofs.WildListLaws.{post_same}
use Rattle.mg_session.proofs.wild_answer.mark_all.Goals as goal

pub mark_lists-requires-clause-over : goal.mark_lists-requires-clause-over
mark_lists-requires-clause-over g c = record { post = c.in-Ok.ensures.post; documents = c.in-Ok.ensures.all }

pub mark_lists-requires-clause-fits : goal.mark_lists-requires-clause-fits
mark_lists-requires-clause-fits g c = c.in-Ok.ensures.fits _

pub returns-in-Err : goal.returns-in-Err
returns-in-Err g c = record {
  answer = λ collection sources. tt;
  pages = λ collection sources. omega arith;
  step = record { room = c.requires.room; files = refl; reads = post_same _; cause = record { later = omega arith; device = tt } };
}

pub returns-in-Ok : goal.returns-in-Ok
returns-in-Ok g c = c.mark_lists.ensures
