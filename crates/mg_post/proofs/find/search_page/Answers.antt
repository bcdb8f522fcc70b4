use Rattle.std.proofs.Common.{arith, ◌≡◌, ◌+◌, ◌-◌, ◌*◌, ◌<◌, ◌≤◌, ◌∙◌, ℕ, ap, subst, inr, Some, Ok, Err}
use Rattle.mg_bits.proofs.CallerLemmas.{calm_more, same_told}
use Rattle.mg_defs.specs.Lists.{doc_before, bits_before}
use Rattle.mg_post.specs.Finding.{LacksBits, LacksLast, TellsBefore, TellsLast, entry_page}
use Rattle.mg_post.specs.declared.find.Found.{Found}
use Rattle.mg_post.proofs.ReadLaws.{any_refused}
use Rattle.mg_post.proofs.FindLaws.{lacks_within, middle_answer, bits_answer, page_between, count_same, damaged_weaker, tells_next, any_cause}
use Rattle.mg_post.proofs.find.search_page.Goals as goal
use Rattle.mg_post.proofs.find.search_page.Goals.{then-search-from, else-search-from}

pub loop-from-preserved : goal.loop-from-preserved
loop-from-preserved g c =
    let inside = c.loop-from.invariant.before_to c.loop-from-test.true in
    let page : entry_page (c.args.search.now.skip_at + c.loop-from.middle) ≡ entry_page (c.args.search.now.skip_at + c.args.page.high) =
    page_between c.args.search.now.skip_at c.args.page.low c.loop-from.middle c.args.page.high c.requires.one_page
    (omega (arith, c.loop-from.invariant.low, c.loop-from.invariant.middle)) (omega (arith, inside, c.loop-from.invariant.high)) in
    let step = count_same _ _ _ _ _ c.loop-from.invariant.held page c.in-Ok.ensures.does.page.count in
    let here : TellsLast ((g.F.Feed.feeding c.args.r.now.feed).source (g.F.Feed.device c.args.dev.now).files) c.args.search.now.skip_at c.loop-from.middle
    c.in-Ok.here = rw (same_told _ _ _ _ c.loop-from.invariant.calm) at c.in-Ok.ensures.does.tells in
    elim c.if-search-from.branch [
      | then-search-from w ↦ record {
        fits = c.in-Ok.ensures.fits;
        calm = calm_more _ _ _ _ _ _ c.loop-from.invariant.calm c.in-Ok.ensures.calm;
        count = omega (arith, step, c.loop-from.invariant.count);
        held = c.in-Ok.ensures.does.page.held ∙ ap Some page;
        low = omega (arith, w.from-is, c.loop-from.invariant.low);
        order = omega (arith, w.from-is, w.to-is, c.loop-from.invariant.middle);
        high = omega (arith, w.to-is, inside, c.loop-from.invariant.high);
        middle = omega arith;
        before_to = λ lt. omega (arith, lt);
        known = omega (arith, w.passed-is, c.loop-from.invariant.known);
        below = omega (arith, w.passed-is, c.loop-from.invariant.below);
        within = omega (arith, w.end-is, w.if-search-from.true, c.from.ensures);
        most = omega (arith, w.end-is, c.in-Ok.ensures.does.within, c.loop-from.invariant.most);
        next = λ is. rw (w.from-is, w.passed-is) (c.loop-from.invariant.next is);
        passed_is = rw (w.from-is, w.passed-is) c.loop-from.invariant.passed_is;
        end_is = λ last. rw (w.to-is, w.end-is) here;
        told = λ ps b blocks stands lt before last.
            let old = c.loop-from.invariant.told ps b blocks stands lt before last in
            let got : c.in-Ok.here ≡ doc_before (64 * (c.loop-from.middle + 1)) ps =
            middle_answer c.args.search.now.all b _ _ c.args.search.now.skip_at blocks c.loop-from.from c.loop-from.middle c.loop-from.to c.loop-from.passed c.loop-from.end ps
            (Ok c.in-Ok.here) (same_told _ _ _ _ c.loop-from.invariant.calm) stands c.loop-from.invariant.middle inside (omega (arith, c.loop-from.invariant.high, lt)) old.0 old.1
            c.in-Ok.ensures.does.told in
            (rw (w.passed-is, w.from-is) old.0, rw (w.end-is, w.to-is) got);
      }
      | else-search-from w ↦ record {
        fits = c.in-Ok.ensures.fits;
        calm = calm_more _ _ _ _ _ _ c.loop-from.invariant.calm c.in-Ok.ensures.calm;
        count = omega (arith, step, c.loop-from.invariant.count);
        held = c.in-Ok.ensures.does.page.held ∙ ap Some page;
        low = omega (arith, w.from-is, c.loop-from.invariant.low, c.loop-from.invariant.middle);
        order = omega (arith, w.from-is, w.to-is, inside);
        high = omega (arith, w.to-is, c.loop-from.invariant.high);
        middle = omega arith;
        before_to = λ lt. omega (arith, lt);
        known = omega (arith, w.passed-is, c.in-Ok.ensures.does.within, c.loop-from.invariant.most);
        below = omega (arith, w.passed-is, w.if-search-from.false, c.from.ensures);
        within = omega (arith, w.end-is, c.loop-from.invariant.within);
        most = omega (arith, w.end-is, c.loop-from.invariant.most);
        next = λ is. absurd (omega (arith, is, (c.loop-from.invariant.next is).1, c.in-Ok.ensures.does.behind, w.if-search-from.false, c.from.ensures));
        passed_is = rw (w.from-is, w.passed-is) (tells_next _ c.args.search.now.skip_at c.args.page.low c.args.page.before c.loop-from.middle c.in-Ok.here
            (omega (arith, c.loop-from.invariant.low, c.loop-from.invariant.middle)) here);
        end_is = λ last. rw (w.to-is, w.end-is) (c.loop-from.invariant.end_is last);
        told = λ ps b blocks stands lt before last.
            let old = c.loop-from.invariant.told ps b blocks stands lt before last in
            let got : c.in-Ok.here ≡ doc_before (64 * (c.loop-from.middle + 1)) ps =
            middle_answer c.args.search.now.all b _ _ c.args.search.now.skip_at blocks c.loop-from.from c.loop-from.middle c.loop-from.to c.loop-from.passed c.loop-from.end ps
            (Ok c.in-Ok.here) (same_told _ _ _ _ c.loop-from.invariant.calm) stands c.loop-from.invariant.middle inside (omega (arith, c.loop-from.invariant.high, lt)) old.0 old.1
            c.in-Ok.ensures.does.told in
            (rw (w.passed-is, w.from-is) got, rw (w.end-is, w.to-is) old.1);
      }
    ]

pub returns-in-Err : goal.returns-in-Err
returns-in-Err g c =
    let e = c.in-Err.ensures in
    let i = c.loop-from.invariant in
    let s = c.args.search.now in
    let low : c.args.page.low ≤ c.loop-from.middle = omega (arith, i.low, i.middle) in
    let inside : c.loop-from.middle < c.loop-from.to = i.before_to c.loop-from-test.true in
    let page = page_between s.skip_at c.args.page.low c.loop-from.middle c.args.page.high c.requires.one_page low (omega (arith, inside, i.high)) in
    let step = count_same _ _ _ _ _ i.held page e.does.page.count in
    record {
      does = record {
        count = omega (arith, step, i.count);
        held = tt;
        found = tt;
        tells = λ last. tt;
        lacks = λ last. damaged_weaker c.in-Err.refusal
            (LacksLast ((g.F.Feed.feeding c.args.r.now.feed).source (g.F.Feed.device c.args.dev.now).files) s.skip_at c.loop-from.middle c.loop-from.passed (c.loop-from.end - 1)) _
            (λ at lacks. lacks_within _ s.skip_at s.all c.args.page.low c.args.page.before c.loop-from.from c.loop-from.passed c.loop-from.middle c.loop-from.to c.loop-from.end
            (c.args.page.high + 1) at i.low i.middle inside (omega (arith, i.high)) (omega (arith, i.below, i.within)) i.passed_is (i.end_is last) lacks)
            (rw (same_told _ _ _ _ i.calm) at e.does.lacks);
        next = λ is. tt;
        told = λ ps b blocks stands lt before last.
            let old = i.told ps b blocks stands lt before last in
            any_refused c.in-Err.refusal _ _
            (middle_answer s.all b _ _ s.skip_at blocks c.loop-from.from c.loop-from.middle c.loop-from.to c.loop-from.passed c.loop-from.end ps (Err c.in-Err.refusal)
            (same_told _ _ _ _ i.calm) stands i.middle inside (omega (arith, i.high, lt)) old.0 old.1 e.does.told);
      };
      fits = e.fits;
      calm = calm_more _ _ _ _ _ _ i.calm e.calm;
      cause = any_cause ℕ Found c.in-Err.refusal _ _ _ i.calm.faults e.cause;
    }

pub returns-in-Ok-bits_of : goal.returns-in-Ok-bits_of
returns-in-Ok-bits_of g c =
    let e = c.in-Ok-bits_of.ensures in
    let i = c.loop-from.invariant in
    let s = c.args.search.now in
    let same : c.loop-from.from ≡ c.loop-from.to = omega (arith, c.loop-from-test.false, i.order) in
    let low : c.args.page.low ≤ c.loop-from.to = omega (arith, i.low, i.order) in
    let page = page_between s.skip_at c.args.page.low c.loop-from.to c.args.page.high c.requires.one_page low i.high in
    let step = count_same _ _ _ _ _ i.held page e.does.page.count in
    record {
      does = record {
        count = omega (arith, step, i.count);
        held = e.does.page.held ∙ ap Some page;
        found = record { from = low; there = omega (arith, i.high); known = i.known; below = i.below; within = i.within; most = i.most };
        tells = λ last. record {
          before_is = subst (λ k. TellsBefore ((g.F.Feed.feeding c.args.r.now.feed).source (g.F.Feed.device c.args.dev.now).files) s.skip_at c.args.page.low
              c.args.page.before k c.loop-from.passed) same i.passed_is;
          last_is = i.end_is last;
          at_is = rw (same_told _ _ _ _ i.calm) at e.does.tells;
        };
        lacks = λ last. tt;
        next = λ is. let at_first = i.next is in (omega (arith, same, at_first.0), at_first.1);
        told = λ ps b blocks stands lt before last.
            let old = i.told ps b blocks stands lt before last in
            let from : c.loop-from.passed ≡ doc_before (64 * c.loop-from.to) ps = old.0 ∙ ap (λ n. doc_before (64 * n) ps) same in
            let there : c.loop-from.to < blocks = omega (arith, i.high, lt) in
            let at : c.in-Ok-bits_of.at ≡ bits_before b (64 * c.loop-from.to) ps =
            bits_answer s.all b _ _ s.skip_at blocks c.loop-from.to ps (Ok c.in-Ok-bits_of.at) (same_told _ _ _ _ i.calm) stands there e.does.told in
            record {
              there = there;
              range = record { after = omega (arith, from, i.below); within = omega (arith, old.1, i.within) };
              from = from;
              to = old.1;
              bits = at;
            };
      };
      fits = e.fits;
      calm = calm_more _ _ _ _ _ _ i.calm e.calm;
      cause = tt;
    }

pub returns-in-Err-bits_of : goal.returns-in-Err-bits_of
returns-in-Err-bits_of g c =
    let e = c.in-Err-bits_of.ensures in
    let i = c.loop-from.invariant in
    let s = c.args.search.now in
    let low : c.args.page.low ≤ c.loop-from.to = omega (arith, i.low, i.order) in
    let high : c.loop-from.to < c.args.page.high + 1 = omega (arith, i.high) in
    let page = page_between s.skip_at c.args.page.low c.loop-from.to c.args.page.high c.requires.one_page low i.high in
    let step = count_same _ _ _ _ _ i.held page e.does.page.count in
    record {
      does = record {
        count = omega (arith, step, i.count);
        held = tt;
        found = tt;
        tells = λ last. tt;
        next = λ is. tt;
        lacks = λ last. damaged_weaker c.in-Err-bits_of.refusal (LacksBits ((g.F.Feed.feeding c.args.r.now.feed).source (g.F.Feed.device c.args.dev.now).files) s.skip_at c.loop-from.to) _
            (λ at lacks. (c.loop-from.to, low, high, inr lacks)) (rw (same_told _ _ _ _ i.calm) at e.does.lacks);
        told = λ ps b blocks stands lt before last.
            any_refused c.in-Err-bits_of.refusal _ _
            (bits_answer s.all b _ _ s.skip_at blocks c.loop-from.to ps (Err c.in-Err-bits_of.refusal) (same_told _ _ _ _ i.calm) stands (omega (arith, i.high, lt)) e.does.told);
      };
      fits = e.fits;
      calm = calm_more _ _ _ _ _ _ i.calm e.calm;
      cause = any_cause ℕ Found c.in-Err-bits_of.refusal _ _ _ i.calm.faults e.cause;
    }

pub last_of-requires : goal.last_of-requires
last_of-requires g c = record { fits = c.loop-from.invariant.fits; page = c.loop-from.invariant.calm.page ∙ c.requires.feed.page }

pub bits_of-requires : goal.bits_of-requires
bits_of-requires g c = record { fits = c.loop-from.invariant.fits; page = c.loop-from.invariant.calm.page ∙ c.requires.feed.page }
