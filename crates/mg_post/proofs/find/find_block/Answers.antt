use Rattle.std.proofs.Common.{arith, ◌≡◌, ◌+◌, ◌*◌, ℕ, Option, sym, ap, ◌∙◌, subst, Ok, Err}
use Rattle.mg_bits.proofs.CallerLemmas.{calm_more, same_told}
use Rattle.mg_defs.specs.Lists.{doc_before}
use Rattle.mg_post.specs.Stands.{SkipStands}
use Rattle.mg_post.specs.Finding.{LacksAnEntry, LacksLast, TellsBefore, TellsBlock, TellsLast}
use Rattle.mg_post.specs.declared.find.Found.{Found}
use Rattle.mg_post.proofs.ReadLaws.{any_refused}
use Rattle.mg_post.proofs.FindLaws.{any_cause, damaged_weaker, lacks_on, lacks_wider, page_answer, page_between, reads_now}
use Rattle.mg_post.proofs.FindLaws.{reads_to, reads_same, tells_next, tells_on, within_entries, reads_at, reads_within}
use Rattle.mg_post.proofs.find.find_block.Goals as goal

pub loop-low-preserved : goal.loop-low-preserved
loop-low-preserved g c =
    let e = c.in-Ok.ensures in
    let i = c.loop-low.invariant in
    let s = c.args.search.now in
    record {
      fits = e.fits;
      calm = calm_more _ _ _ _ _ _ i.calm e.calm;
      reads = reads_now s.skip_at c.loop-low.low c.page_end-high.result _ _ _ _ i.reads c.page_end-high.ensures.from e.does.page.count e.does.page.held;
      from = omega (arith, i.from, c.page_end-high.ensures.from);
      there = omega (arith, c.page_end-high.ensures.there);
      known = e.does.within;
      below = omega (arith, c.if-search-from.false, c.from.ensures);
      next = λ is. absurd (omega (arith, is, (i.next is).1, e.does.behind, c.if-search-from.false, c.from.ensures));
      before_is = tells_next _ s.skip_at s.reached s.last c.page_end-high.result c.in-Ok.last (omega (arith, i.from, c.page_end-high.ensures.from)) (rw (same_told _ _ _ _ i.calm) at e.does.tells);
      told = λ ps b stands last.
          page_answer s.all b _ _ s.skip_at s.blocks c.loop-low.low c.page_end-high.result c.loop-low.before ps (Ok c.in-Ok.last) (same_told _ _ _ _ i.calm) stands
          c.page_end-high.ensures.from c.page_end-high.ensures.there (i.told ps b stands last) e.does.told;
    }

pub returns-in-Err : goal.returns-in-Err
returns-in-Err g c =
    let e = c.in-Err.ensures in
    let i = c.loop-low.invariant in
    let s = c.args.search.now in
    record {
      does = record {
        reads = tt;
        most = within_entries s.skip_at c.page_end-high.result s.blocks _ c.page_end-high.ensures.there
            (reads_to s.skip_at c.loop-low.low c.page_end-high.result _ _ _ i.reads c.page_end-high.ensures.from e.does.page.count);
        found = tt;
        tells = tt;
        past = tt;
        lacks = damaged_weaker c.in-Err.refusal
            (LacksLast ((g.F.Feed.feeding c.args.r.now.feed).source (g.F.Feed.device c.args.dev.now).files) s.skip_at c.page_end-high.result c.loop-low.before s.all) _
            (λ at lacks. lacks_on _ s.skip_at s.all s.reached s.last c.loop-low.low c.loop-low.before c.page_end-high.result s.blocks at i.from c.page_end-high.ensures.from
            c.page_end-high.ensures.there i.before_is lacks)
            (rw (same_told _ _ _ _ i.calm) at e.does.lacks);
        next = λ is. tt;
        told = λ ps b stands last.
            any_refused c.in-Err.refusal _ _
            (page_answer s.all b _ _ s.skip_at s.blocks c.loop-low.low c.page_end-high.result c.loop-low.before ps (Err c.in-Err.refusal) (same_told _ _ _ _ i.calm) stands
            c.page_end-high.ensures.from c.page_end-high.ensures.there (i.told ps b stands last) e.does.told);
      };
      fits = e.fits;
      calm = calm_more _ _ _ _ _ _ i.calm e.calm;
      cause = any_cause ℕ (Option Found) c.in-Err.refusal _ _ _ i.calm.faults e.cause;
    }

pub returns-in-Ok-search_page : goal.returns-in-Ok-search_page
returns-in-Ok-search_page g c =
    let e = c.in-Ok-search_page.ensures in
    let i = c.loop-low.invariant in
    let s = c.args.search.now in
    let high = c.page_end-high.result in
    let calm = calm_more _ _ _ _ _ _ i.calm c.in-Ok.ensures.calm in
    let now = reads_now s.skip_at c.loop-low.low high _ _ _ _ i.reads c.page_end-high.ensures.from c.in-Ok.ensures.does.page.count c.in-Ok.ensures.does.page.held in
    let page = page_between s.skip_at c.loop-low.low c.in-Ok-search_page.found.block high (sym c.page_end-high.ensures.page) e.does.found.from (omega (arith, e.does.found.there)) in
    let end : TellsLast ((g.F.Feed.feeding c.args.r.now.feed).source (g.F.Feed.device c.args.dev.now).files) s.skip_at high c.in-Ok.last =
    rw (same_told _ _ _ _ i.calm) at c.in-Ok.ensures.does.tells in
    let found : TellsBlock ((g.F.Feed.feeding c.args.r.now.feed).source (g.F.Feed.device c.args.dev.now).files) s.skip_at c.loop-low.low c.loop-low.before
    c.in-Ok-search_page.found.block c.in-Ok-search_page.found.before c.in-Ok-search_page.found.last c.in-Ok-search_page.found.at =
    (rw (same_told _ _ _ _ calm) at e.does.tells) end in
    record {
      does = record {
        reads = reads_same s.skip_at high c.in-Ok-search_page.found.block _ _ _ _ now c.in-Ok.ensures.does.page.held (e.does.held ∙ sym c.in-Ok.ensures.does.page.held) e.does.count (sym page);
        most = omega (
          arith,
          e.does.count,
          within_entries s.skip_at high s.blocks _ c.page_end-high.ensures.there (reads_to s.skip_at c.loop-low.low high _ _ _ i.reads c.page_end-high.ensures.from c.in-Ok.ensures.does.page.count),
        );
        found = record {
          from = omega (arith, i.from, e.does.found.from);
          there = omega (arith, e.does.found.there, c.page_end-high.ensures.there);
          known = e.does.found.known;
          below = e.does.found.below;
          within = e.does.found.within;
          most = e.does.found.most;
        };
        next = λ is.
            let at_first = i.next is in
            let f = e.does.next (omega (arith, is, at_first.1)) in
            (omega (arith, f.0, at_first.0), omega (arith, f.1, at_first.1));
        tells = tells_on _ s.skip_at s.reached c.loop-low.low s.last c.loop-low.before _ _ _ _ i.from e.does.found.from i.before_is found;
        past = tt;
        lacks = tt;
        told = λ ps b stands last.
            let end : c.in-Ok.last ≡ doc_before (64 * (high + 1)) ps =
            page_answer s.all b _ _ s.skip_at s.blocks c.loop-low.low high c.loop-low.before ps (Ok c.in-Ok.last) (same_told _ _ _ _ i.calm) stands
            c.page_end-high.ensures.from c.page_end-high.ensures.there (i.told ps b stands last) c.in-Ok.ensures.does.told in
            e.does.told ps b s.blocks (subst (λ t. SkipStands s.all b t s.skip_at s.blocks ps) (sym (same_told _ _ _ _ calm)) stands) c.page_end-high.ensures.there (i.told ps b stands last) end;
      };
      fits = e.fits;
      calm = calm_more _ _ _ _ _ _ calm e.calm;
      cause = tt;
    }

pub returns-in-Err-search_page : goal.returns-in-Err-search_page
returns-in-Err-search_page g c =
    let e = c.in-Err-search_page.ensures in
    let i = c.loop-low.invariant in
    let s = c.args.search.now in
    let high = c.page_end-high.result in
    let calm = calm_more _ _ _ _ _ _ i.calm c.in-Ok.ensures.calm in
    let end : TellsLast ((g.F.Feed.feeding c.args.r.now.feed).source (g.F.Feed.device c.args.dev.now).files) s.skip_at high c.in-Ok.last =
    rw (same_told _ _ _ _ i.calm) at c.in-Ok.ensures.does.tells in
    record {
      does = record {
        reads = tt;
        most = omega (
          arith,
          e.does.count,
          within_entries s.skip_at high s.blocks _ c.page_end-high.ensures.there (reads_to s.skip_at c.loop-low.low high _ _ _ i.reads c.page_end-high.ensures.from c.in-Ok.ensures.does.page.count),
        );
        found = tt;
        tells = tt;
        past = tt;
        lacks = damaged_weaker c.in-Err-search_page.refusal
            (LacksAnEntry ((g.F.Feed.feeding c.args.r.now.feed).source (g.F.Feed.device c.args.dev.now).files) s.skip_at s.all c.loop-low.before c.loop-low.low (high + 1)) _
            (λ at. lacks_wider _ s.skip_at s.all s.reached s.last c.loop-low.low c.loop-low.before (high + 1) s.blocks at i.from (omega (arith, c.page_end-high.ensures.there)) i.before_is)
            ((rw (same_told _ _ _ _ calm) at e.does.lacks) end);
        next = λ is. tt;
        told = λ ps b stands last.
            let end : c.in-Ok.last ≡ doc_before (64 * (high + 1)) ps =
            page_answer s.all b _ _ s.skip_at s.blocks c.loop-low.low high c.loop-low.before ps (Ok c.in-Ok.last) (same_told _ _ _ _ i.calm) stands
            c.page_end-high.ensures.from c.page_end-high.ensures.there (i.told ps b stands last) c.in-Ok.ensures.does.told in
            any_refused c.in-Err-search_page.refusal _ _
            (e.does.told ps b s.blocks (subst (λ t. SkipStands s.all b t s.skip_at s.blocks ps) (sym (same_told _ _ _ _ calm)) stands) c.page_end-high.ensures.there (i.told ps b stands last) end);
      };
      fits = e.fits;
      calm = calm_more _ _ _ _ _ _ calm e.calm;
      cause = any_cause Found (Option Found) c.in-Err-search_page.refusal _ _ _ calm.faults e.cause;
    }

pub returns : goal.returns
returns g c =
    let i = c.loop-low.invariant in
    let s = c.args.search.now in
    let all : c.loop-low.low ≡ s.blocks = omega (arith, i.there, c.loop-low-test.false) in
    record {
      does = record {
        reads = reads_at _ _ _ _ _ all i.reads;
        most = reads_within s.skip_at c.loop-low.low s.blocks _ _ i.reads i.there;
        found = tt;
        tells = tt;
        past = (
          c.loop-low.before,
          subst (λ n. TellsBefore ((g.F.Feed.feeding c.args.r.now.feed).source (g.F.Feed.device c.args.dev.now).files)
              s.skip_at s.reached s.last n c.loop-low.before) all i.before_is,
          i.below,
        );
        lacks = tt;
        next = λ is. omega (arith, (i.next is).0, all);
        told = λ ps b stands last. omega (arith, i.below, i.told ps b stands last, ap (λ n. doc_before (64 * n) ps) all);
      };
      fits = i.fits;
      calm = i.calm;
      cause = tt;
    }

pub last_of-requires : goal.last_of-requires
last_of-requires g c = record { fits = c.loop-low.invariant.fits; page = c.loop-low.invariant.calm.page ∙ c.requires.feed.page }

pub search_page-requires-clause-feed : goal.search_page-requires-clause-feed
search_page-requires-clause-feed g c = record { fits = c.in-Ok.ensures.fits; page = c.in-Ok.ensures.calm.page ∙ c.loop-low.invariant.calm.page ∙ c.requires.feed.page }

pub search_page-requires-clause-held : goal.search_page-requires-clause-held
search_page-requires-clause-held g c = c.in-Ok.ensures.does.page.held
