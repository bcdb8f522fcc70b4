use Rattle.std.proofs.Common.{arith, ℕ, Ok, Err}
use Rattle.std.proofs.lemmas.Grind.{common_steps}
use Rattle.mg_post.proofs.FindLaws.{bits_cause, bits_told, ends_number, told_number, refused_number}
use Rattle.mg_post.proofs.find.number_at.Goals as goal

pub returns-in-Ok : goal.returns-in-Ok
returns-in-Ok g c =
    let told = rw (c.seek.ensures.feed, c.seek.ensures.place) at c.in-Ok.ensures.told in
    record {
      does = record {
        page = record { count = grind (arith, common_steps); held = grind (arith, common_steps) };
        shows = told;
        ends = tt;
        at = tt;
        told = λ y small shows. told_number _ (Ok c.in-Ok.number) c.args.place y c.in-Ok.ensures.below small shows told;
      };
      fits = c.in-Ok.ensures.fits;
      calm = rw c.seek.ensures.feed at c.in-Ok.ensures.read.calm;
      cause = tt;
    }

pub returns-in-Err : goal.returns-in-Err
returns-in-Err g c =
    let told = rw (c.seek.ensures.feed, c.seek.ensures.place) at c.in-Err.ensures.told in
    rw c.refused_bits.ensures
    record {
      does = record {
        page = record { count = grind (arith, common_steps); held = tt };
        shows = tt;
        ends = ends_number _ c.in-Err.refusal c.args.place told;
        at = bits_told c.in-Err.refusal c.args.place;
        told = λ y small shows. refused_number c.in-Err.refusal c.args.place y _ (told_number _ (Err c.in-Err.refusal) c.args.place y tt small shows told);
      };
      fits = c.in-Err.ensures.fits;
      calm = rw c.seek.ensures.feed at c.in-Err.ensures.part.calm;
      cause = bits_cause ℕ ℕ c.in-Err.refusal c.args.place _ _ c.in-Err.ensures.cause;
    }
