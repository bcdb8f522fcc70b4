use Rattle.std.proofs.Common.{arith, refl, ap}
use Rattle.mg_query.specs.QueryOf.{query_of}
use Rattle.mg_bool.proofs.AskLaws.{err_answer}
use Rattle.mg_bool.proofs.ShownLaws.{word_shown}
use Rattle.mg_bool.proofs.WordLaws.{word_found, word_goes, word_pages, word_range}
use Rattle.mg_bool.proofs.next.next_match.Goals as goal

-- ---- one word

pub returns-in-Err : goal.returns-in-Err
returns-in-Err g c =
    let e = c.in-Err.ensures in
    let t = c.in-Term-Some.field-0-0 in
    record {
      fits = tt;
      same = e.call.same;
      there = refl;
      most = c.requires.most;
      later = omega arith;
      range = tt;
      last = λ is. absurd cc;
      answer = λ base collection goes.
          err_answer _ _ _ (e.answer t base collection (word_goes base collection t _ _ _ _ c.in-Term-Some.place _ _ (ap query_of c.in-Term-Some.is-0)
          c.in-Term-Some.is-1 goes));
      pages = λ base collection goes. word_pages collection t _ _ _ _ _ (ap query_of c.in-Term-Some.is-0)
          (e.pages t base collection (word_goes base collection t _ _ _ _ c.in-Term-Some.place _ _ (ap query_of c.in-Term-Some.is-0) c.in-Term-Some.is-1 goes));
      shows = λ stands. tt;
      part = e.call.part;
      reads = e.call.reads;
      skips = e.call.skips;
      files = e.call.files;
      memory = e.call.memory;
      cause = e.call.cause;
    }

pub returns-then-walk-asks : goal.returns-then-walk-asks
returns-then-walk-asks g c =
    let e = c.in-Ok.ensures in
    let t = c.in-Term-Some.field-0-0 in
    let w = word_range c.in-Ok.found c.args.walk.now.decided c.args.asks.now.all c.unwrap_or-walk.result c.if-walk-asks.true e.range c.unwrap_or-walk.ensures in
    record {
      fits = e.call.fits;
      same = e.call.same;
      there = refl;
      most = w.0;
      later = w.1;
      range = w.2;
      last = λ is. w.3 cc;
      answer = λ base collection goes.
          word_found base collection t _ _ _ c.in-Term-Some.place _ _ _ _ c.in-Ok.found (ap query_of c.in-Term-Some.is-0) c.in-Term-Some.is-1 c.unwrap_or-walk.ensures
          (e.answer t base collection (word_goes base collection t _ _ _ _ c.in-Term-Some.place _ _ (ap query_of c.in-Term-Some.is-0) c.in-Term-Some.is-1 goes));
      pages = λ base collection goes. word_pages collection t _ _ _ _ _ (ap query_of c.in-Term-Some.is-0)
          (e.pages t base collection (word_goes base collection t _ _ _ _ c.in-Term-Some.place _ _ (ap query_of c.in-Term-Some.is-0) c.in-Term-Some.is-1 goes));
      shows = word_shown t _ _ c.in-Term-Some.place c.in-Ok.found (ap query_of c.in-Term-Some.is-0) c.in-Term-Some.is-1 (rw c.in-Term-Some.is-1 at c.requires.lead) c.if-walk-asks.true
          c.unwrap_or-walk.ensures e.range e.call.same e.shows;
      part = tt;
      reads = e.call.reads;
      skips = e.call.skips;
      files = e.call.files;
      memory = e.call.memory;
      cause = e.call.cause;
    }
