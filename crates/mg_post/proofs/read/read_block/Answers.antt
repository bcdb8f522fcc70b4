use Rattle.std.proofs.Common.{arith, ℕ, ◌≡◌, ◌+◌, ◌<◌, [], ◌∷◌, ◌++◌, length, take, refl, sym, ◌∙◌, ap, Err, Ok, add_assoc, slice_set, add-zero}
use Rattle.std.proofs.lemmas.Grind.{common_steps}
use Rattle.std.proofs.lemmas.List.{length-take-le, take_more_set}
use Rattle.mg_bits.proofs.CallerLemmas.{calm_more, read_more, read_none, same_told}
use Rattle.mg_defs.specs.declared.Posting.{Posting}
use Rattle.mg_defs.specs.Lists.{posting_bits, bits_after, last_doc, Rises}
use Rattle.mg_post.proofs.AheadLaws.{nothing_ahead}
use Rattle.mg_post.proofs.FindLaws.{any_cause}
use Rattle.mg_post.proofs.ReadLaws.{lacks_next, none_stand, postings_stand, next_here, next_answer, any_refused, rises_more, last_more, bits_more, block_pages_more}
use Rattle.mg_post.proofs.read.read_block.Goals as goal

pub loop-i-init : goal.loop-i-init
unfolding bits_after last_doc Rises
loop-i-init g c = record {
  fits = c.requires.fits;
  ahead = nothing_ahead _ _ _ _ _ c.none-ahead.ensures.bits c.none-ahead.ensures.count;
  len = refl;
  last = refl;
  most = c.args.bounds.order;
  rises = tt;
  place = omega arith;
  read = rw add-zero (read_none _ _ c.place-start.result);
  shows = none_stand _ c.place-start.result;
  told = λ ps rises le small shows. refl;
}

pub returns-in-Err-clause-read : goal.returns-in-Err-clause-read
returns-in-Err-clause-read g c =
    let i = c.loop-i.invariant in
    let e = c.in-Err.ensures.posting in
    let b = c.gap_code-code.result.parameter.value in
    let s = c.args.bounds in
    let at : c.loop-i.r.place ≡ c.args.r.now.place + length (bits_after b s.after (take c.loop-i.i c.loop-i.out.items)) = omega (arith, i.place) in
    rw (c.seek.ensures.feed, ← c.gap_code-code.ensures)
    record {
      fits = e.fits;
      calm = calm_more _ _ _ _ _ _ i.read.calm e.calm;
      read = tt;
      pages = λ ps rises le small shows.
          let same : take c.loop-i.i c.loop-i.out.items ≡ take c.loop-i.i ps = i.told ps rises le (rw c.place-start.ensures small) (rw c.place-start.ensures shows) in
          let next = next_here _ c.args.r.now.place c.loop-i.r.place s.most b s.after c.loop-i.last c.loop-i.i c.loop-i.out.items ps (omega arith) same i.last at rises small shows in
          block_pages_more c.args.r.now.place c.loop-i.r.place s.most b s.after c.loop-i.last c.loop-i.i c.args.count ps
          c.loop-i.out.items (g.met.F.Feed.whole_pages c.args.r.now.feed).some (same_told _ _ _ _ i.read.calm) next same i.last
          c.loop-i-test.true at (rw c.place-start.ensures at i.read) e.pages;
      place = c.seek.ensures.place ∙ c.place-start.ensures;
      whole = tt;
      rises = tt;
      last = tt;
      shows = tt;
      lacks =
          lacks_next _ _ c.in-Err.refusal s.most b s.after c.args.r.now.place c.loop-i.last c.loop-i.r.place c.loop-i.i c.args.count
          c.loop-i.out.items (same_told _ _ _ _ i.read.calm) c.loop-i-test.true i.last at i.rises (rw c.place-start.ensures at i.shows) e.told e.at;
      told = λ ps rises le small shows.
          let same : take c.loop-i.i c.loop-i.out.items ≡ take c.loop-i.i ps = i.told ps rises le (rw c.place-start.ensures small) (rw c.place-start.ensures shows) in
          let next = next_here _ c.args.r.now.place c.loop-i.r.place s.most b s.after c.loop-i.last c.loop-i.i c.loop-i.out.items ps (omega arith) same i.last at rises small shows in
          any_refused c.in-Err.refusal _ _ (next_answer _ _ c.loop-i.r.place s.most b c.loop-i.last c.loop-i.i ps (Err c.in-Err.refusal)
          (same_told _ _ _ _ i.read.calm) next e.told);
      cause = any_cause Posting ℕ c.in-Err.refusal _ _ _ i.read.calm.faults e.cause;
    }

pub returns-clause-read : goal.returns-clause-read
returns-clause-read g c =
    let i = c.loop-i.invariant in
    let all : c.loop-i.i ≡ c.args.count = omega arith in
    rw (← c.gap_code-code.ensures)
    record {
      fits = i.fits;
      calm = i.read.calm;
      read = rw (← all, ← c.place-start.ensures) i.read;
      pages = tt;
      place = rw (← all) (omega (arith, i.place, c.place-start.ensures));
      whole = length-take-le c.args.count c.loop-i.out.items (omega (arith, i.len, c.requires.room));
      rises = rw (← all) i.rises;
      last = rw (← all) i.last;
      shows = rw (← all, ← c.place-start.ensures) i.shows;
      lacks = tt;
      told = λ ps rises le small shows. rw (← all) (i.told ps rises le (rw c.place-start.ensures small) (rw c.place-start.ensures shows));
      cause = tt;
    }

pub loop-i-preserved : goal.loop-i-preserved
loop-i-preserved g c =
    let room : c.loop-i.i < length c.loop-i.out.items = omega arith in
    let t : take (c.loop-i.i + 1) (slice_set c.loop-i.out.items c.loop-i.i c.in-Ok.posting) ≡ take c.loop-i.i c.loop-i.out.items ++ c.in-Ok.posting ∷
    [] = take_more_set c.loop-i.out.items c.loop-i.i c.in-Ok.posting room in
    let b : length (bits_after c.gap_code-code.result.parameter.value c.args.bounds.after (take c.loop-i.i c.loop-i.out.items ++ c.in-Ok.posting ∷ []))
    ≡ length (bits_after c.gap_code-code.result.parameter.value c.args.bounds.after (take c.loop-i.i c.loop-i.out.items))
    + length (posting_bits c.gap_code-code.result.parameter.value c.loop-i.last c.in-Ok.posting) =
    bits_more c.gap_code-code.result.parameter.value c.args.bounds.after c.loop-i.last (take c.loop-i.i c.loop-i.out.items) c.in-Ok.posting c.loop-i.invariant.last in
    record {
      fits = c.in-Ok.ensures.posting.fits;
      ahead = c.in-Ok.ensures.ahead;
      len = grind (arith, common_steps, c.loop-i.invariant.len);
      last = rw t (sym (last_more c.args.bounds.after (take c.loop-i.i c.loop-i.out.items) c.in-Ok.posting));
      most = c.in-Ok.ensures.posting.follows.within;
      rises = rw t (rises_more c.args.bounds.most c.args.bounds.after c.loop-i.last (take c.loop-i.i c.loop-i.out.items) c.in-Ok.posting c.loop-i.invariant.last
          c.loop-i.invariant.rises c.in-Ok.ensures.posting.follows);
      place = rw t (omega (arith, c.loop-i.invariant.place, c.in-Ok.ensures.posting.place));
      read = rw (
        t,
        b,
        ← add_assoc c.place-start.result (length (bits_after c.gap_code-code.result.parameter.value c.args.bounds.after (take c.loop-i.i c.loop-i.out.items)))
            (length (posting_bits c.gap_code-code.result.parameter.value c.loop-i.last c.in-Ok.posting)),
      )
          (read_more _ _ _ _ _ _ c.place-start.result (c.place-start.result
          + length (bits_after c.gap_code-code.result.parameter.value c.args.bounds.after (take c.loop-i.i c.loop-i.out.items))) _ (g.met.F.Feed.whole_pages c.args.r.now.feed).some
          (omega arith) (omega arith)
          c.loop-i.invariant.read (rw c.loop-i.invariant.place at c.in-Ok.ensures.posting.read));
      shows = rw t
          (postings_stand _ c.place-start.result c.loop-i.r.place c.gap_code-code.result.parameter.value c.args.bounds.after c.loop-i.last (take c.loop-i.i c.loop-i.out.items)
          c.in-Ok.posting c.loop-i.invariant.last c.loop-i.invariant.place
          c.loop-i.invariant.shows (rw (same_told _ _ _ _ c.loop-i.invariant.read.calm) at c.in-Ok.ensures.posting.shows));
      told = λ ps rises le small shows.
          let same : take c.loop-i.i c.loop-i.out.items ≡ take c.loop-i.i ps = c.loop-i.invariant.told ps rises le small shows in
          let next = next_here _ c.place-start.result c.loop-i.r.place c.args.bounds.most c.gap_code-code.result.parameter.value c.args.bounds.after c.loop-i.last c.loop-i.i c.loop-i.out.items ps
          (omega arith) same c.loop-i.invariant.last c.loop-i.invariant.place rises small shows in
          let got : c.in-Ok.posting ≡ next.posting = next_answer _ _ c.loop-i.r.place c.args.bounds.most c.gap_code-code.result.parameter.value c.loop-i.last c.loop-i.i ps
          (Ok c.in-Ok.posting) (same_told _ _ _ _ c.loop-i.invariant.read.calm) next c.in-Ok.ensures.posting.told in
          t ∙ ap (λ l. l ++ c.in-Ok.posting ∷ []) same ∙ ap (λ q. take c.loop-i.i ps ++ q ∷ []) got ∙ sym next.more;
    }
