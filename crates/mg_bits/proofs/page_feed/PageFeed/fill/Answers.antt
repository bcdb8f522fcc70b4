use Rattle.std.proofs.Common.{arith, ◌+◌, ◌∙◌, length, length-set, refl}
use Rattle.mg_bits.proofs.Fills.{byte_part, byte_read, copied_read, ends_within, filled_more, filled_on, looked_then, same_then, whole_buffer, whole_held, whole_part}
use Rattle.mg_bits.proofs.page_feed.PageFeed.fill.Goals as goal

pub loop-done-preserved : goal.loop-done-preserved
loop-done-preserved g c =
    let file = same_then c.loop-done.invariant.file c.in-Ok-Some.ensures.file in
    let looked = looked_then c.loop-done.invariant.file.part c.loop-done.invariant.looked c.in-Ok-Some.ensures.looked in
    let one = byte_read _ _ _ _ _ _ c.args.at c.loop-done.done _ _ (omega arith) refl refl c.loop-done.invariant.read c.in-Ok-Some.ensures.calm c.in-Ok-Some.ensures.pages
    (rw c.in-Ok-Some.field-0-is at c.in-Ok-Some.ensures.held) in
    record {
      within = omega (arith, c.copy_held-done.ensures.within, c.copy_held-done.ensures.length);
      long = c.copy_held-done.ensures.length ∙ length-set _ _ _ ∙ c.loop-done.invariant.long;
      fits = c.in-Ok-Some.ensures.fits;
      file = file;
      looked = looked;
      told = λ told.
          filled_on _ _ _ c.args.at (c.loop-done.done + 1) c.copy_held-done.result _ _ refl refl
          ((rw (looked.files, file.name) at (c.copy_held-done.ensures.told _ c.in-Ok-Some.ensures.fits)) told)
          (filled_more _ _ c.args.at c.loop-done.done c.in-Ok-Some.byte (omega arith) (c.loop-done.invariant.told told)
          ((rw (c.loop-done.invariant.looked.files, c.loop-done.invariant.file.name, c.in-Ok-Some.field-0-is) at c.in-Ok-Some.ensures.told) told));
      read = copied_read _ _ _ _ c.args.at (c.loop-done.done + 1) _ _ c.copy_held-done.result (omega arith) refl refl one c.copy_held-done.ensures.held;
    }

-- ---- the file ends before the buffer is full

pub returns-in-Ok-None-clause-part : goal.returns-in-Ok-None-clause-part
returns-in-Ok-None-clause-part g c = byte_part _ _ _ _ _ _ _ c.loop-done.done _ _ _ (omega arith) refl refl (omega arith) c.loop-done.invariant.read
    c.in-Ok-None.ensures.calm c.in-Ok-None.ensures.pages

pub returns-in-Ok-None-clause-file : goal.returns-in-Ok-None-clause-file
returns-in-Ok-None-clause-file g c = same_then c.loop-done.invariant.file c.in-Ok-None.ensures.file

pub returns-in-Ok-None-clause-looked : goal.returns-in-Ok-None-clause-looked
returns-in-Ok-None-clause-looked g c = looked_then c.loop-done.invariant.file.part c.loop-done.invariant.looked c.in-Ok-None.ensures.looked

pub returns-in-Ok-None-clause-told : goal.returns-in-Ok-None-clause-told
returns-in-Ok-None-clause-told g c = λ told.
    ends_within _ _ c.args.at c.loop-done.done (omega (arith, c.loop-done-test.true))
    ((rw (c.loop-done.invariant.looked.files, c.loop-done.invariant.file.name, c.in-Ok-None.field-0-is) at c.in-Ok-None.ensures.told) told)

pub returns-in-Ok-None-clause-cause : goal.returns-in-Ok-None-clause-cause
returns-in-Ok-None-clause-cause g c = record { later = omega (arith, c.loop-done.invariant.looked.faults, c.in-Ok-None.ensures.cause.later); failed = tt }

-- ---- a byte is refused

pub returns-in-Err-clause-part : goal.returns-in-Err-clause-part
returns-in-Err-clause-part g c = byte_part _ _ _ _ _ _ _ c.loop-done.done _ _ _ (omega arith) refl refl (omega arith) c.loop-done.invariant.read c.in-Err.ensures.calm c.in-Err.ensures.pages

pub returns-in-Err-clause-file : goal.returns-in-Err-clause-file
returns-in-Err-clause-file g c = same_then c.loop-done.invariant.file c.in-Err.ensures.file

pub returns-in-Err-clause-looked : goal.returns-in-Err-clause-looked
returns-in-Err-clause-looked g c = looked_then c.loop-done.invariant.file.part c.loop-done.invariant.looked c.in-Err.ensures.looked

pub returns-in-Err-clause-cause : goal.returns-in-Err-clause-cause
returns-in-Err-clause-cause g c = record {
  later = omega (arith, c.loop-done.invariant.looked.faults, c.in-Err.ensures.cause.later);
  failed = omega (arith, c.loop-done.invariant.looked.faults, c.in-Err.ensures.cause.failed);
}

-- ---- the buffer is full

pub returns-clause-file : goal.returns-clause-file
returns-clause-file g c = c.loop-done.invariant.file

pub returns-clause-looked : goal.returns-clause-looked
returns-clause-looked g c = c.loop-done.invariant.looked

pub returns-clause-told : goal.returns-clause-told
returns-clause-told g c = λ told. whole_buffer _ _ c.args.at c.loop-done.done (omega (arith, c.loop-done.invariant.within, c.loop-done-test.false)) (c.loop-done.invariant.told told)

pub returns-clause-part : goal.returns-clause-part
returns-clause-part g c =
    whole_part c.args.at c.loop-done.done (length c.args.buf.now) (omega (arith, c.loop-done.invariant.within, c.loop-done.invariant.long, c.loop-done-test.false))
    c.loop-done.invariant.read

pub returns-clause-held : goal.returns-clause-held
returns-clause-held g c = λ is.
    whole_held c.args.at c.loop-done.done (length c.args.buf.now) (omega (arith, c.loop-done.invariant.within, c.loop-done.invariant.long, c.loop-done-test.false))
    c.loop-done.invariant.read

pub returns-clause-cause : goal.returns-clause-cause
returns-clause-cause g c = record { later = c.loop-done.invariant.looked.faults; failed = tt }
