use Rattle.std.proofs.Common.{◌+◌, ap}
use Rattle.mg_post.proofs.FindLaws.{bits_shown, holds_same, lacks_bits, page_of_bits}
use Rattle.mg_post.proofs.find.bits_of.Goals as goal

pub returns : goal.returns
returns g c =
    let e = c.number_at.ensures in
    let place = ap (λ n. n + 64) c.entry_place-place.ensures.value in
    record {
      does = record {
        page = holds_same _ _ c.number_at.result _ _ (page_of_bits _ _ place) e.does.page;
        tells = rw c.entry_place-place.ensures.value at e.does.shows;
        lacks = lacks_bits _ c.number_at.result c.args.skip_at c.args.block _ place e.does.at e.does.ends;
        told = λ w small shows. e.does.told w.bits small (bits_shown _ _ _ w place shows);
      };
      fits = e.fits;
      calm = e.calm;
      cause = e.cause;
    }
