use Rattle.std.proofs.Common.{arith, ◌≡◌, ◌+◌, ◌*◌, ◌≤◌, length, sym, ◌∙◌, ap, inl, inr, Ok, Err}
use Rattle.mg_bits.proofs.CallerLemmas.{calm_none}
use Rattle.mg_defs.specs.Lists.{block_of, bits_before, last_doc}
use Rattle.mg_post.specs.Cursor.{HeldRises, forward_to}
use Rattle.mg_post.specs.declared.enter.Inside.{Inside}
use Rattle.mg_post.proofs.ForwardLaws.{forward_all, forward_some}
use Rattle.mg_post.proofs.FindLaws.{bits_fit, damaged_weaker}
use Rattle.mg_post.proofs.ReadLaws.{any_refused}
use Rattle.mg_post.proofs.EnterLaws.{block_answer, block_ends, block_filled, filled_some, head_none, found_some, entered, count_most, read_on, refused_on, refused_pages}
use Rattle.mg_post.proofs.SoundLaws.{block_held, from_held}
use Rattle.mg_post.proofs.enter.enter.Goals as goal

-- the place is too far
pub returns-in_default : goal.returns-in_default
returns-in_default g c =
    let list = c.args.list.now in
    let far = c.in_default.ensures in
    record {
      does = record {
        sound = tt;
        from = tt;
        current = tt;
        whole = λ is. tt;
        shows = tt;
        count = tt;
        listed = λ ps blocks rises whole shows small found. absurd (omega (arith, bits_fit list.parameter.value (64 * c.args.found.block) ps, found.bits, far, small));
        block = λ ps after within stands. absurd (omega (arith, stands.small, far));
        lacks = λ after within. inr (inr record { far = far; at_is = c.place_or_most.ensures });
      };
      fits = c.requires.feed.fits;
      calm = calm_none _ _;
      cause = tt;
    }

-- the block ends with another document than its entry tells
pub returns-then-last-found : goal.returns-then-last-found
returns-then-last-found g c =
    let list = c.args.list.now in
    let f = c.args.found in
    let e = c.in-Ok.ensures in
    let place : c.seek.new.self.place ≡ 8 * list.post_at + f.at = c.seek.ensures.place ∙ c.in-Some.ensures in
    record {
      does = record {
        sound = tt;
        from = tt;
        current = tt;
        whole = λ is. tt;
        shows = tt;
        count = tt;
        listed = λ ps blocks rises whole shows small found.
            let at : c.seek.new.self.place ≡ 8 * list.post_at + bits_before list.parameter.value (64 * f.block) ps = place ∙ ap (λ n. 8 * list.post_at + n) found.bits in
            let got : c.fill.new.self ≡ block_of f.block ps =
            block_answer _ (8 * list.post_at) list.all list.parameter.value c.seek.new.self.place f.before _ list.docs f.block ps c.fill.new.self (Ok c.in-Ok.last)
            c.min.ensures whole found.from at rises (rw (← c.seek.ensures.feed) at shows) small e.told in
            absurd (c.if-last-found.true (block_ends list.parameter.value blocks c.args.doc f.block f.before f.last f.at c.in-Ok.last ps c.fill.new.self found got e.last));
        block = λ ps after within stands.
            let got : c.fill.new.self ≡ ps = block_filled _ list.all list.parameter.value (8 * list.post_at + f.at) c.min.result f.before f.last c.seek.new.self.place
            ps c.fill.new.self (Ok c.in-Ok.last) (rw (c.min.ensures, c.seek.ensures.feed) stands) place e.told in
            absurd (c.if-last-found.true (e.last ∙ ap (last_doc f.before) got ∙ stands.last_is));
        lacks = λ after within. inr
            (inl record {
              block = c.fill.new.self;
              count_is = e.whole ∙ c.min.ensures;
              rises = e.rises;
              bits = rw (c.seek.ensures.feed, place) at e.shows;
              other = λ is. c.if-last-found.true (e.last ∙ is);
              at_is = c.in-Some.ensures;
            });
      };
      fits = e.fits;
      calm = rw c.seek.ensures.feed at e.calm;
      cause = tt;
    }

-- it is entered
pub returns-in-Some-current : goal.returns-in-Some-current
returns-in-Some-current g c =
    let list = c.args.list.now in
    let f = c.args.found in
    let e = c.in-Ok.ensures in
    let place : c.seek.new.self.place ≡ 8 * list.post_at + f.at = c.seek.ensures.place ∙ c.in-Some.ensures in
    let sound : HeldRises list.all f.last c.forward.new.self = block_held list.all f.before f.last c.in-Ok.last c.args.doc c.fill.new.self c.forward.new.self
    e.rises e.last (omega (arith, c.if-last-found.false)) c.forward.ensures in
    let ends : c.in-Ok.last ≡ f.last = omega (arith, c.if-last-found.false) in
    let read = rw (← e.place) at e.read in
    let most = count_most _ _ _ _ c.seek.new.self.place c.fill.new.r.place (rw c.seek.ensures.feed c.requires.feed.page) read.pages in
    record {
      does = record {
        sound = sound;
        from = from_held list.all f.last c.args.doc c.fill.new.self c.forward.new.self c.in-Some-current.posting sound c.forward.ensures (sym c.in-Some-current.ensures);
        current = sym c.in-Some-current.ensures;
        whole = λ is.
            let all : c.forward.new.self ≡ c.fill.new.self =
            c.forward.ensures ∙ ap (λ n. forward_to n c.fill.new.self) is ∙ forward_all list.all f.before c.fill.new.self e.rises in
            ap length all ∙ e.whole ∙ c.min.ensures;
        shows = record {
          ps = c.fill.new.self;
          stands = record {
            count_is = e.whole ∙ c.min.ensures;
            rises = e.rises;
            last_is = sym e.last ∙ ends;
            bits = rw (c.seek.ensures.feed, place) at e.shows;
          };
          held_is = c.forward.ensures;
        };
        count = rw (c.pages_of-pages.ensures, c.place.ensures, ← c.seek.ensures.place, ← c.seek.ensures.feed) most;
        listed = λ ps blocks rises whole shows small found.
            let at : c.seek.new.self.place ≡ 8 * list.post_at + bits_before list.parameter.value (64 * f.block) ps = place ∙ ap (λ n. 8 * list.post_at + n) found.bits in
            let got : c.fill.new.self ≡ block_of f.block ps =
            block_answer _ (8 * list.post_at) list.all list.parameter.value c.seek.new.self.place f.before _ list.docs f.block ps c.fill.new.self (Ok c.in-Ok.last)
            c.min.ensures whole found.from at rises (rw (← c.seek.ensures.feed) at shows) small e.told in
            let told = entered list.parameter.value (8 * list.post_at) c.seek.new.self.place c.fill.new.r.place f.block c.args.doc f.before c.pages_of-pages.result ps
            c.fill.new.self c.forward.new.self c.in-Some-current.posting got c.forward.ensures (sym c.in-Some-current.ensures) found.from at e.place
            (rw (c.place.ensures, ← c.seek.ensures.place) at c.pages_of-pages.ensures) in
            record {
              told = told;
              most = rw (← told.pages, c.pages_of-pages.ensures, c.place.ensures, ← c.seek.ensures.place, ← c.seek.ensures.feed) most;
              once = rw (← c.seek.ensures.feed)
                  (read_on {T = Inside} _ list.parameter.value (8 * list.post_at) c.seek.new.self.place c.fill.new.r.place f.block f.before ps c.fill.new.self _ _ _ _
                  (rw c.seek.ensures.feed c.requires.feed.page) got found.from at e.place read);
            };
        block = λ ps after within stands. tt;
        lacks = tt;
      };
      fits = e.fits;
      calm = rw c.seek.ensures.feed at e.calm;
      cause = tt;
    }

-- it has no posting from the document on, where its entry tells that it has one
pub returns-in-None : goal.returns-in-None
returns-in-None g c =
    let list = c.args.list.now in
    let f = c.args.found in
    let e = c.in-Ok.ensures in
    let place : c.seek.new.self.place ≡ 8 * list.post_at + f.at = c.seek.ensures.place ∙ c.in-Some.ensures in
    let none : length c.forward.new.self ≡ 0 = head_none c.forward.new.self (sym c.in-None.ensures) in
    record {
      does = record {
        sound = tt;
        from = tt;
        current = tt;
        whole = λ is. tt;
        shows = tt;
        count = tt;
        listed = λ ps blocks rises whole shows small found.
            let at : c.seek.new.self.place ≡ 8 * list.post_at + bits_before list.parameter.value (64 * f.block) ps = place ∙ ap (λ n. 8 * list.post_at + n) found.bits in
            let got : c.fill.new.self ≡ block_of f.block ps =
            block_answer _ (8 * list.post_at) list.all list.parameter.value c.seek.new.self.place f.before _ list.docs f.block ps c.fill.new.self (Ok c.in-Ok.last)
            c.min.ensures whole found.from at rises (rw (← c.seek.ensures.feed) at shows) small e.told in
            let same : length c.forward.new.self ≡ length (forward_to c.args.doc (block_of f.block ps)) = ap length (c.forward.ensures ∙ ap (forward_to c.args.doc) got) in
            absurd (omega (arith, none, same, found_some list.all list.parameter.value blocks c.args.doc f.block f.before f.last f.at ps rises found));
        block = λ ps after within stands.
            let got : c.fill.new.self ≡ ps = block_filled _ list.all list.parameter.value (8 * list.post_at + f.at) c.min.result f.before f.last c.seek.new.self.place
            ps c.fill.new.self (Ok c.in-Ok.last) (rw (c.min.ensures, c.seek.ensures.feed) stands) place e.told in
            let same : length c.forward.new.self ≡ length (forward_to c.args.doc ps) = ap length (c.forward.ensures ∙ ap (forward_to c.args.doc) got) in
            absurd (omega (arith, none, same, filled_some _ list.all list.parameter.value _ _ f.before f.last c.args.doc ps after within stands));
        lacks = λ after within.
            let same : length c.forward.new.self ≡ length (forward_to c.args.doc c.fill.new.self) = ap length c.forward.ensures in
            let low : c.args.doc ≤ last_doc f.before c.fill.new.self = omega (arith, within, e.last, c.if-last-found.false) in
            absurd (omega (arith, none, same, forward_some list.all f.before c.args.doc c.fill.new.self e.rises after low));
      };
      fits = e.fits;
      calm = rw c.seek.ensures.feed at e.calm;
      cause = tt;
    }

-- its postings were refused
pub returns-in-Err : goal.returns-in-Err
returns-in-Err g c =
    let list = c.args.list.now in
    let f = c.args.found in
    let e = c.in-Err.ensures in
    let place : c.seek.new.self.place ≡ 8 * list.post_at + f.at = c.seek.ensures.place ∙ c.in-Some.ensures in
    record {
      does = record {
        sound = tt;
        from = tt;
        current = tt;
        whole = λ is. tt;
        shows = tt;
        count = tt;
        listed = λ ps blocks rises whole shows small found.
            let at : c.seek.new.self.place ≡ 8 * list.post_at + bits_before list.parameter.value (64 * f.block) ps = place ∙ ap (λ n. 8 * list.post_at + n) found.bits in
            let stands = rw (← c.seek.ensures.feed) at shows in
            record {
              told = any_refused c.in-Err.refusal _ _
                  (block_answer _ (8 * list.post_at) list.all list.parameter.value c.seek.new.self.place f.before _ list.docs f.block ps c.fill.new.self
                  (Err c.in-Err.refusal) c.min.ensures whole found.from at rises stands small e.told);
              most = rw (← c.seek.ensures.feed)
                  (refused_pages _ _ _ _ _ (8 * list.post_at) list.all list.parameter.value c.seek.new.self.place f.before _ list.docs f.block ps
                  (rw c.seek.ensures.feed c.requires.feed.page) c.min.ensures whole found.from at rises stands small e.pages);
              once = rw (← c.seek.ensures.feed)
                  (refused_on {T = Inside} c.in-Err.refusal _ _ _ _ _ (8 * list.post_at) list.all list.parameter.value c.seek.new.self.place f.before _ list.docs f.block ps
                  (rw c.seek.ensures.feed c.requires.feed.page) c.min.ensures whole found.from at rises stands small e.pages);
            };
        block = λ ps after within stands.
            any_refused c.in-Err.refusal _ _ (block_filled _ list.all list.parameter.value (8 * list.post_at + f.at) c.min.result f.before f.last
            c.seek.new.self.place ps c.fill.new.self (Err c.in-Err.refusal) (rw (c.min.ensures, c.seek.ensures.feed) stands) place e.told);
        lacks = damaged_weaker c.in-Err.refusal _ _ (λ bad lacks after within. inl lacks) (rw (c.seek.ensures.feed, place, c.min.ensures) at e.lacks);
      };
      fits = e.fits;
      calm = rw c.seek.ensures.feed at e.calm;
      cause = e.cause;
    }
