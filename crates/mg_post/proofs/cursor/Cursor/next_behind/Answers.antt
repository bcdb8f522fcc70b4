use Rattle.std.proofs.Common.{arith}
use Rattle.mg_defs.specs.Lists.{postings}
use Rattle.mg_defs.specs.PageBounds.{numbers_in}
use Rattle.mg_post.proofs.TermLaws.{span_is}
use Rattle.mg_post.proofs.WholeListLaws.{list_may_ask, pages_in_list}
use Rattle.mg_post.proofs.cursor.Cursor.next_behind.Goals as goal

pub returns : goal.returns
returns g c =
    let e = c.ask.ensures in
    record {
      fits = e.fits;
      same = e.same;
      answer = λ base collection t stand f. e.answer base collection (numbers_in (postings collection t)) t (list_may_ask base collection t c.args.last _ _ stand f);
      within = λ base collection t stand f.
          let asked = numbers_in (postings collection t) in
          omega (arith, pages_in_list collection asked t, (e.pages base collection asked t (list_may_ask base collection t c.args.last _ _ stand f)).within);
      post = λ base collection t stand f. (e.pages base collection (numbers_in (postings collection t)) t (list_may_ask base collection t c.args.last _ _ stand f)).post;
      once = λ base collection t stand f. e.once base collection (numbers_in (postings collection t)) t (list_may_ask base collection t c.args.last _ _ stand f);
      span = λ base collection t stand f.
          let asked = numbers_in (postings collection t) in
          omega (
            arith,
            (e.once base collection asked t (list_may_ask base collection t c.args.last _ _ stand f)).most,
            span_is base collection asked t c.args.last _ _ f e.same,
          );
      third = e.third;
      skips = e.skips;
      sound = e.sound;
      next = e.next;
      shows = e.shows;
      part = e.part;
      reads = e.reads;
      files = e.files;
      memory = e.memory;
      cause = e.cause;
    }
