use Rattle.std.proofs.Common.{arith, ℕ, ◌≡◌, ◌+◌, ◌-◌, length, ◌∙◌, ap, refl, Err, Ok, add_assoc, inl, inr}
use Rattle.mg_bits.proofs.CallerLemmas.{calm_more, calm_none, read_more, same_told}
use Rattle.mg_defs.specs.Answers.{UpTo}
use Rattle.mg_defs.specs.Codes.{gamma, golomb}
use Rattle.mg_defs.specs.declared.Posting.{Posting}
use Rattle.mg_defs.proofs.StandLists.{length_posting}
use Rattle.mg_post.proofs.ReadLaws.{code_cause, code_stands, code_told, posting_stands, gap_got, gap_refused, freq_got, gap_pages}
use Rattle.mg_post.proofs.ReadLaws.{freq_pages, posting_pages, posting_pages_more, same_posting, posting_length, refused_posting}
use Rattle.mg_post.proofs.read.read_posting.Goals as goal
use Rattle.mg_post.proofs.read.read_posting.Goals.{then-bounds-via-then-bounds, then-bounds-via-else-bounds+then-start-gt-LAST}

-- no document follows, or the place is too far
pub returns-then-bounds : goal.returns-then-bounds
returns-then-bounds g c = record {
  fits = c.requires;
  calm = calm_none _ _;
  read = tt;
  pages = λ p follows shows. record { device = λ part own. omega arith; feed = omega arith };
  place = refl;
  shows = tt;
  follows = tt;
  at = inl record {
    missing = λ gap range low shows. elim c.then-bounds.branch [
      | then-bounds-via-then-bounds w ↦ omega (arith, range.0, range.1, w.if-bounds.true)
      | then-bounds-via-else-bounds+then-start-gt-LAST w ↦ omega (arith, low, c.place-start.ensures, w.if-start-gt-LAST.true)
    ];
    at_is = c.place-start.ensures;
  };
  told = λ p follows small shows. elim c.then-bounds.branch [
    | then-bounds-via-then-bounds w ↦ omega (arith, follows.after, follows.within, w.if-bounds.true)
    | then-bounds-via-else-bounds+then-start-gt-LAST w ↦ omega (arith, small, c.place-start.ensures, w.if-start-gt-LAST.true)
  ];
  cause = tt;
}

-- no gap stands there
pub returns-in-Err : goal.returns-in-Err
returns-in-Err g c =
    let e = c.in-Err.ensures in
    let b = c.args.parameter in
    let from = c.args.bounds.after in
    rw c.refused_code.ensures
    record {
      fits = e.fits;
      calm = e.calm;
      read = tt;
      pages = λ p follows shows.
          posting_pages _ _ _ _ c.args.r.now.place b.value from p (g.met.F.Feed.whole_pages c.args.r.now.feed).some
          (gap_pages _ c.from-most.result c.args.r.now.place b.value from c.args.bounds.most p _ _ _ _ c.from-most.ensures follows shows e.pages);
      place = e.place;
      shows = tt;
      follows = tt;
      at = rw c.place-start.ensures
          (gap_refused _ c.in-Err.refusal c.from-most.result c.args.r.now.place b.value from c.args.bounds.most b.some b.small c.from-most.ensures e.told);
      told = λ p follows small shows.
          refused_posting c.in-Err.refusal _ _ p
          (gap_got _ (Err c.in-Err.refusal) c.from-most.result c.args.r.now.place b.value from c.args.bounds.most p b.some b.small c.from-most.ensures follows shows e.told);
      cause = code_cause ℕ Posting c.in-Err.refusal _ _ _ _ (omega arith) e.cause;
    }

-- a gap stands there, and the place behind it is too far
pub returns-then-behind-gt-LAST : goal.returns-then-behind-gt-LAST
returns-then-behind-gt-LAST g c =
    let e = c.in-Ok.ensures in
    let b = c.args.parameter in
    let from = c.args.bounds.after in
    record {
      fits = rw c.seek.ensures.feed e.fits;
      calm = rw c.seek.ensures.feed e.calm;
      read = tt;
      pages = λ p follows shows.
          let got : c.in-Ok.gap ≡ p.doc - from =
          gap_got _ (Ok c.in-Ok.gap) c.from-most.result c.args.r.now.place b.value from c.args.bounds.most p b.some b.small c.from-most.ensures follows shows e.told in
          rw c.seek.ensures.feed
          (posting_pages _ _ _ _ c.args.r.now.place b.value from p (g.met.F.Feed.whole_pages c.args.r.now.feed).some (rw got at e.read.pages));
      place = c.seek.ensures.place ∙ c.place-start.ensures;
      shows = tt;
      follows = tt;
      at = inr record {
        gap = c.in-Ok.gap;
        range = rw c.from-most.ensures at e.range;
        bits = code_stands _ c.args.r.now.place c.from-most.result c.in-Ok.gap (UpTo c.from-most.result) (golomb b.value) e.told;
        at_is = c.place-behind.ensures ∙ e.place;
      };
      told = λ p follows small shows.
          let got : c.in-Ok.gap ≡ p.doc - from =
          gap_got _ (Ok c.in-Ok.gap) c.from-most.result c.args.r.now.place b.value from c.args.bounds.most p b.some b.small c.from-most.ensures follows shows e.told in
          omega (arith, length_posting b.value from p, e.place, ap (λ n. length (golomb b.value n)) got);
      cause = tt;
    }

-- a posting stands there
pub returns-in-Ok-get_gamma : goal.returns-in-Ok-get_gamma
returns-in-Ok-get_gamma g c =
    let e = c.in-Ok.ensures in
    let k = c.in-Ok-get_gamma.ensures in
    let b = c.args.parameter in
    let from = c.args.bounds.after in
    record {
      fits = k.fits;
      calm = calm_more _ _ _ _ _ _ e.calm k.calm;
      read = rw (
        posting_length b.value from c.in-Ok.gap c.in-Ok-get_gamma.freq,
        ← add_assoc c.args.r.now.place (length (golomb b.value c.in-Ok.gap)) (length (gamma c.in-Ok-get_gamma.freq)),
      )
          (read_more _ _ _ _ _ _ c.args.r.now.place (c.args.r.now.place + length (golomb b.value c.in-Ok.gap)) _ (g.met.F.Feed.whole_pages c.args.r.now.feed).some
          (omega arith) (omega arith) e.read (rw e.place at k.read));
      pages = tt;
      place = omega (arith, posting_length b.value from c.in-Ok.gap c.in-Ok-get_gamma.freq, e.place, k.place);
      shows =
          posting_stands _ c.args.r.now.place c.get_golomb.new.r.place b.value from c.in-Ok.gap c.in-Ok-get_gamma.freq e.place
          (code_stands _ c.args.r.now.place c.from-most.result c.in-Ok.gap (UpTo c.from-most.result) (golomb b.value) e.told)
          (code_stands _ c.get_golomb.new.r.place 4294967295 c.in-Ok-get_gamma.freq (UpTo 4294967295) gamma (rw (same_told _ _ _ _ e.calm) at k.told));
      follows = record {
        after = omega (arith, e.range.0);
        within = omega (arith, e.range.1, c.from-most.ensures);
        some = k.range.0;
        fits = omega (arith, k.range.1);
      };
      at = tt;
      told = λ p follows small shows.
          let got : c.in-Ok.gap ≡ p.doc - from =
          gap_got _ (Ok c.in-Ok.gap) c.from-most.result c.args.r.now.place b.value from c.args.bounds.most p b.some b.small c.from-most.ensures follows shows e.told in
          let freq : c.in-Ok-get_gamma.freq ≡ p.freq = freq_got _ (Ok c.in-Ok-get_gamma.freq) c.args.r.now.place c.get_golomb.new.r.place b.value
          from c.args.bounds.most c.in-Ok.gap p e.place got follows shows (rw (same_told _ _ _ _ e.calm) at k.told) in
          same_posting from c.in-Ok.gap c.in-Ok-get_gamma.freq c.args.bounds.most p follows got freq;
      cause = tt;
    }

-- no count stands behind the gap
pub returns-in-Err-get_gamma : goal.returns-in-Err-get_gamma
returns-in-Err-get_gamma g c =
    let e = c.in-Ok.ensures in
    let k = c.in-Err-get_gamma.ensures in
    let b = c.args.parameter in
    let from = c.args.bounds.after in
    rw (c.refused_code-in-Err-get_gamma.ensures, c.seek-in-Err-get_gamma.ensures.feed)
    record {
      fits = k.fits;
      calm = calm_more _ _ _ _ _ _ e.calm k.calm;
      read = tt;
      pages = λ p follows shows.
          let got : c.in-Ok.gap ≡ p.doc - from =
          gap_got _ (Ok c.in-Ok.gap) c.from-most.result c.args.r.now.place b.value from c.args.bounds.most p b.some b.small c.from-most.ensures follows shows e.told in
          posting_pages_more _ _ _ _ _ _ c.args.r.now.place c.get_golomb.new.r.place b.value from c.in-Ok.gap p
          (g.met.F.Feed.whole_pages c.args.r.now.feed).some got e.place e.read
          (freq_pages _ c.args.r.now.place c.get_golomb.new.r.place b.value from c.args.bounds.most c.in-Ok.gap p _ _ _ _ e.place got follows shows
          (rw (same_told _ _ _ _ e.calm) at k.pages));
      place = c.seek-in-Err-get_gamma.ensures.place ∙ c.place-start.ensures;
      shows = tt;
      follows = tt;
      at =
          code_told c.in-Err-get_gamma.refusal _ _
          (λ no. inr record {
            gap = c.in-Ok.gap;
            range = rw c.from-most.ensures at e.range;
            bits = code_stands _ c.args.r.now.place c.from-most.result c.in-Ok.gap (UpTo c.from-most.result) (golomb b.value) e.told;
            at_is = c.place-behind.ensures ∙ e.place;
          });
      told = λ p follows small shows.
          let got : c.in-Ok.gap ≡ p.doc - from =
          gap_got _ (Ok c.in-Ok.gap) c.from-most.result c.args.r.now.place b.value from c.args.bounds.most p b.some b.small c.from-most.ensures follows shows e.told in
          refused_posting c.in-Err-get_gamma.refusal _ _ p
          (freq_got _ (Err c.in-Err-get_gamma.refusal) c.args.r.now.place c.get_golomb.new.r.place b.value from c.args.bounds.most c.in-Ok.gap p e.place got follows shows
          (rw (same_told _ _ _ _ e.calm) at k.told));
      cause = code_cause ℕ Posting c.in-Err-get_gamma.refusal _ _ _ _ e.calm.faults k.cause;
    }
