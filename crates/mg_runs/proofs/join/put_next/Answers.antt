use Rattle.std.proofs.Common.{◌≡◌, ℕ, IsTrue, false, sym, ◌∙◌, subst, arith}
use Rattle.std.specs.declared.option.Option.{Option}
use Rattle.mg_defs.specs.declared.TermPosting.{TermPosting}
use Rattle.mg_bits.specs.BitWriting.{WroteBits}
use Rattle.mg_runs.proofs.Joins.{putting_first, put_more, put_end}
use Rattle.mg_runs.proofs.StepLaws.{write_bad, write_look, write_look_err, write_more, write_ok, writer_refused, writer_wrote}
use Rattle.mg_runs.proofs.Steps.{put_as, tells_none}
use Rattle.mg_runs.proofs.join.put_next.Goals as goal
use Rattle.mg_runs.proofs.join.put_next.Goals.{then-place-gt-MOST_BITS-via-then-place-gt-MOST_BITS, then-place-gt-MOST_BITS-via-else-place-gt-MOST_BITS+then-not-can_follow}

pub returns-then-place-gt-MOST_BITS : goal.returns-then-place-gt-MOST_BITS
returns-then-place-gt-MOST_BITS g c = record {
  shape = tt;
  told = λ told files before bits is.
      let now = c.in-Ok-Some.ensures.told told _ is.has in
      let e = sym c.in-Ok-Some.field-0-is ∙ now.0 in
      let h = putting_first is _ e in
      elim c.then-place-gt-MOST_BITS.branch [
        | then-place-gt-MOST_BITS-via-then-place-gt-MOST_BITS w ↦ absurd (omega (arith, h.3, c.place.ensures))
        | then-place-gt-MOST_BITS-via-else-place-gt-MOST_BITS+then-not-can_follow w ↦
            let t : IsTrue w.can_follow.result = w.can_follow.ensures.1 (record { before = h.0; doc = h.1; count = h.2 }) in
            let f : w.can_follow.result ≡ false = w.if-not-can_follow.true in
            absurd cc
      ];
  total = tt;
  place = tt;
  step = write_bad c.damage.result (write_look c.requires.ready.apart.holds c.in-Ok-Some.ensures.step.read) c.damage.ensures.caused c.damage.ensures.names;
}

pub returns-in-Ok : goal.returns-in-Ok
returns-in-Ok g c = record {
  shape = c.in-Ok-Some.ensures.step.shape;
  told = λ told files before bits is.
      let now = c.in-Ok-Some.ensures.told told _ is.has in
      let e = sym c.in-Ok-Some.field-0-is ∙ now.0 in
      let wrote = rw c.next.ensures.step.read.look.looked.files at c.in-Ok.ensures.puts.bits in
      put_more is _ e now.1 told wrote c.in-Ok.ensures.place;
  total = rw c.in-Ok-Some.field-0-is at c.in-Ok-Some.ensures.fall;
  place = λ h. omega (arith, c.in-Ok.ensures.place, c.place.ensures);
  step = write_more (write_look c.requires.ready.apart.holds c.in-Ok-Some.ensures.step.read)
      (writer_wrote c.in-Ok.ensures.puts.holds c.put_posting.ensures.puts.name c.put_posting.ensures.puts.wrote c.put_posting.ensures.puts.cause.later);
}

pub returns-in-Err-put_posting : goal.returns-in-Err-put_posting
returns-in-Err-put_posting g c = record {
  shape = tt;
  told = λ told files before bits is. tells_none ℕ (Option TermPosting) _ c.refused.result c.refused.ensures.undamaged;
  total = tt;
  place = tt;
  step = write_more (write_look c.requires.ready.apart.holds c.in-Ok-Some.ensures.step.read)
      (writer_refused {T = ℕ} c.put_posting.ensures.puts.name c.put_posting.ensures.puts.wrote
      (c.refused.ensures.cause _ _ (put_as (Unit {0}) ℕ _ _ _ c.in-Err-put_posting.ensures.puts.cause)) c.refused.ensures.names);
}

pub returns-in-Ok-None : goal.returns-in-Ok-None
returns-in-Ok-None g c = record {
  shape = c.in-Ok-None.ensures.step.shape;
  told = λ told files before bits is.
      let now = c.in-Ok-None.ensures.told told _ is.has in
      let e = sym c.in-Ok-None.field-0-is ∙ now.0 in
      subst (λ f. WroteBits before c.args.w.now files f bits) (sym c.next.ensures.step.read.look.looked.files) (put_end is e);
  total = tt;
  place = λ h. h;
  step = write_ok (write_look c.requires.ready.apart.holds c.in-Ok-None.ensures.step.read);
}

pub returns-in-Err : goal.returns-in-Err
returns-in-Err g c = record {
  shape = tt;
  told = λ told files before bits is. tells_none (Option TermPosting) (Option TermPosting) _ c.in-Err.refusal (c.in-Err.ensures.undamaged told _ is.has);
  total = tt;
  place = tt;
  step = write_look_err c.in-Err.ensures.step.read;
}
