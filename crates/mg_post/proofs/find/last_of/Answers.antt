use Rattle.std.proofs.Common.{arith, inl, inr}
use Rattle.mg_post.proofs.FindLaws.{holds_err, holds_ok, lacks_last, last_shown, page_of_entry}
use Rattle.mg_post.proofs.ReadLaws.{any_refused}
use Rattle.mg_post.proofs.find.last_of.Goals as goal

pub returns-then-last-from : goal.returns-then-last-from
returns-then-last-from g c =
    let e = c.in-Ok.ensures in
    let place = c.entry_place-place.ensures.value in
    record {
      does = record {
        page = holds_err _ _ _ _ _ _ (page_of_entry _ _ place) e.does.page;
        behind = tt;
        within = tt;
        tells = tt;
        lacks = record { at_is = place; missing = inr (c.in-Ok.last, inl (omega (arith, c.if-last-from.true, c.from.ensures)), rw place at e.does.shows) };
        told = λ w low most shows. absurd (omega (arith, e.does.told w.last (omega (arith, most)) (last_shown _ _ _ w place shows), c.if-last-from.true, c.from.ensures, low));
      };
      fits = e.fits;
      calm = e.calm;
      cause = tt;
    }

pub returns-then-last-from-2 : goal.returns-then-last-from-2
returns-then-last-from-2 g c =
    let e = c.in-Ok.ensures in
    let place = c.entry_place-place.ensures.value in
    record {
      does = record {
        page = holds_err _ _ _ _ _ _ (page_of_entry _ _ place) e.does.page;
        behind = tt;
        within = tt;
        tells = tt;
        lacks = record { at_is = place; missing = inr (c.in-Ok.last, inr (omega (arith, c.if-last-from-2.true, c.from-in-Ok.ensures)), rw place at e.does.shows) };
        told = λ w low most shows. absurd (omega (arith, e.does.told w.last (omega (arith, most)) (last_shown _ _ _ w place shows), c.if-last-from-2.true, c.from-in-Ok.ensures, most));
      };
      fits = e.fits;
      calm = e.calm;
      cause = tt;
    }

pub returns-else-last-from-2 : goal.returns-else-last-from-2
returns-else-last-from-2 g c =
    let e = c.in-Ok.ensures in
    let place = c.entry_place-place.ensures.value in
    record {
      does = record {
        page = holds_ok _ _ c.in-Ok.last c.in-Ok.last _ _ (page_of_entry _ _ place) e.does.page;
        behind = omega (arith, c.if-last-from.false, c.from.ensures);
        within = omega (arith, c.if-last-from-2.false, c.from-in-Ok.ensures);
        tells = rw place at e.does.shows;
        lacks = tt;
        told = λ w low most shows. e.does.told w.last (omega (arith, most)) (last_shown _ _ _ w place shows);
      };
      fits = e.fits;
      calm = e.calm;
      cause = tt;
    }

pub returns-in-Err : goal.returns-in-Err
returns-in-Err g c =
    let e = c.in-Err.ensures in
    let place = c.entry_place-place.ensures.value in
    record {
      does = record {
        page = holds_err _ _ _ _ _ _ (page_of_entry _ _ place) e.does.page;
        behind = tt;
        within = tt;
        tells = tt;
        lacks = lacks_last _ c.in-Err.refusal c.args.skip_at c.args.block c.args.bounds.after c.args.bounds.most c.entry_place-place.result place e.does.at e.does.ends;
        told = λ w low most shows. any_refused c.in-Err.refusal _ _ (e.does.told w.last (omega (arith, most)) (last_shown _ _ _ w place shows));
      };
      fits = e.fits;
      calm = e.calm;
      cause = e.cause;
    }
