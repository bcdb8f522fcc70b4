use Rattle.std.proofs.Common.{arith, refl, ap, ◌∙◌, ◌+◌, drop, length, take, ◌≡◌, ◌≢◌, ◌-◌, ◌*◌, Bool, true, false}
use Rattle.std.specs.Bool.{OnFalse, OnTrue}
use Rattle.mg_defs.specs.Front.{front, read_entry}
use Rattle.mg_front.specs.declared.reader.Scan.TheVariants.{Found, Absent, Damaged}
use Rattle.mg_front.specs.Entries.{string_of, found_of, entry_of}
use Rattle.mg_front.proofs.ReadFacts.{told_as}
use Rattle.mg_front.proofs.ReadSteps.{on_done, on_entry, on_start, on_stop, reads_ended, reads_failed, reads_wider}
use Rattle.mg_front.proofs.ReaderLaws.{stepped, never_none, scanned_more, last_read}
use Rattle.mg_front.proofs.StoodLaws.{none_more, read_next, up_to_next}
use Rattle.mg_front.proofs.reader.scan_block.Goals as goal

on_false : (b : Bool) (P : Type 0) → OnFalse b P → b ≡ false → P
on_false true P h e = absurd cc
on_false false P h e = h

on_true : (b : Bool) (P : Type 0) → OnTrue b P → b ≡ true → P
on_true true P h e = h
on_true false P h e = absurd cc

pub loop-number-init : goal.loop-number-init
loop-number-init g c = record {
  on = on_start c.requires.fits;
  place = omega arith;
  told = λ told es block is from within. (
    record { place_is = from ∙ ap (λ n. length (front (take n es))) (omega arith); last_is = λ some. absurd (omega (arith, some)) },
    λ k e below. absurd (omega (arith, below)),
  );
  stood = λ told. (refl, λ k below. absurd (omega (arith, below)));
}

pub loop-number-preserved : goal.loop-number-preserved
loop-number-preserved g c =
    let inv = c.loop-number.invariant in
    let passed = rw c.in-Ok-Some.field-0-is at c.in-Ok-Some.ensures.passed in
    record {
      on = on_entry c.in-Ok-Some.size refl inv.on (rw c.in-Ok-Some.field-0-is at c.in-Ok-Some.ensures);
      place = omega (arith, inv.place, passed.most);
      told = λ told es block is from within.
          let before = inv.told told es block is from within in
          let read = told_as (λ bytes. read_entry c.args.block.width c.loop-number.number (string_of c.loop-number.out) (drop c.loop-number.place bytes)
          ≡ found_of c.args.block.width c.read_entry.new.out c.in-Ok-Some.field-0) (g.S.Store.files c.args.store.now) _ c.args.strings.now.name _ inv.on.looked.files
          inv.on.file.name c.in-Ok-Some.ensures.told told in
          let so_far = stepped c.args.block.width c.loop-number.number c.loop-number.place (c.args.block.most - 1) c.in-Ok-Some.size c.loop-number.out c.read_entry.new.out
          _ es _ block is before.0 (omega arith) (omega (arith, c.requires.most)) (omega (arith, within)) c.in-Ok-Some.field-0-is read in (
            so_far,
            scanned_more es (4 * block) c.loop-number.number c.args.string.now (entry_of c.args.block.width c.read_entry.new.out) before.1
                (last_read _ _ _ _ es block so_far) (on_false c.is_same.result (string_of c.read_entry.new.out ≢ c.args.string.now) c.is_same.ensures.no
                c.if-is_same.false),
          );
      stood = λ told.
          let read = told_as (λ bytes. read_entry c.args.block.width c.loop-number.number (string_of c.loop-number.out) (drop c.loop-number.place bytes)
          ≡ found_of c.args.block.width c.read_entry.new.out c.in-Ok-Some.field-0) (g.S.Store.files c.args.store.now) _ c.args.strings.now.name _ inv.on.looked.files
          inv.on.file.name c.in-Ok-Some.ensures.told told in
          let before = inv.stood told in
          let next = read_next _ _ _ _ c.in-Ok-Some.size _ _ _ _ before.0 c.in-Ok-Some.field-0-is read in (
            up_to_next _ _ _ _ _ _ next,
            none_more c.args.block.width c.loop-number.number c.args.block.from (c.loop-number.place + c.in-Ok-Some.size) _ c.args.string.now
                (entry_of c.args.block.width c.read_entry.new.out) before.1 next (on_false c.is_same.result (string_of c.read_entry.new.out ≢ c.args.string.now)
                c.is_same.ensures.no c.if-is_same.false),
          );
    }

pub returns-in-Ok-None : goal.returns-in-Ok-None
returns-in-Ok-None g c =
    let inv = c.loop-number.invariant in
    record {
      read = reads_wider (omega (arith, inv.place, c.requires.most)) (reads_ended Damaged (on_stop inv.on c.in-Ok-None.ensures.read));
      told = λ told es block is from within.
          let before = inv.told told es block is from within in
          let read = told_as (λ bytes. read_entry c.args.block.width c.loop-number.number (string_of c.loop-number.out) (drop c.loop-number.place bytes)
          ≡ found_of c.args.block.width c.read_entry.new.out c.in-Ok-None.field-0) (g.S.Store.files c.args.store.now) _ c.args.strings.now.name _ inv.on.looked.files
          inv.on.file.name c.in-Ok-None.ensures.told told in
          never_none c.args.block.width c.loop-number.number c.loop-number.place (c.args.block.most - 1) c.loop-number.out c.read_entry.new.out _ es _ block is before.0
          (omega arith) (omega (arith, c.requires.most)) (omega (arith, within)) c.in-Ok-None.field-0-is read;
      number = tt;
      stood = λ told. tt;
    }

pub returns-in-Err : goal.returns-in-Err
returns-in-Err g c =
    let inv = c.loop-number.invariant in
    record {
      read = reads_wider (omega (arith, inv.place, c.requires.most)) (reads_failed (on_stop inv.on c.in-Err.ensures.read));
      told = λ told es block is from within. tt;
      number = tt;
      stood = λ told. tt;
    }

pub returns-then-is_same : goal.returns-then-is_same
returns-then-is_same g c =
    let inv = c.loop-number.invariant in
    let passed = rw c.in-Ok-Some.field-0-is at c.in-Ok-Some.ensures.passed in
    record {
      read = on_done (Found c.loop-number.number) (omega (arith, inv.place, c.requires.most, passed.most))
          (on_entry c.in-Ok-Some.size refl inv.on (rw c.in-Ok-Some.field-0-is at c.in-Ok-Some.ensures));
      told = λ told es block is from within.
          let before = inv.told told es block is from within in
          let read = told_as (λ bytes. read_entry c.args.block.width c.loop-number.number (string_of c.loop-number.out) (drop c.loop-number.place bytes)
          ≡ found_of c.args.block.width c.read_entry.new.out c.in-Ok-Some.field-0) (g.S.Store.files c.args.store.now) _ c.args.strings.now.name _ inv.on.looked.files
          inv.on.file.name c.in-Ok-Some.ensures.told told in
          let so_far = stepped c.args.block.width c.loop-number.number c.loop-number.place (c.args.block.most - 1) c.in-Ok-Some.size c.loop-number.out c.read_entry.new.out _ es _
          block is before.0 (omega arith) (omega (arith, c.requires.most)) (omega (arith, within)) c.in-Ok-Some.field-0-is read in
          (omega arith, last_read _ _ _ _ es block so_far, on_true c.is_same.result (string_of c.read_entry.new.out ≡ c.args.string.now) c.is_same.ensures.yes c.if-is_same.true);
      number = omega arith;
      stood = λ told.
          let read = told_as (λ bytes. read_entry c.args.block.width c.loop-number.number (string_of c.loop-number.out) (drop c.loop-number.place bytes)
          ≡ found_of c.args.block.width c.read_entry.new.out c.in-Ok-Some.field-0) (g.S.Store.files c.args.store.now) _ c.args.strings.now.name _ inv.on.looked.files
          inv.on.file.name c.in-Ok-Some.ensures.told told in (
            (_, read_next _ _ _ _ c.in-Ok-Some.size _ _ _ _ (inv.stood told).0 c.in-Ok-Some.field-0-is read),
            on_true c.is_same.result (string_of c.read_entry.new.out ≡ c.args.string.now) c.is_same.ensures.yes c.if-is_same.true,
          );
    }

pub returns-clause-read : goal.returns-clause-read
returns-clause-read g c =
    let inv = c.loop-number.invariant in
    on_done Absent (omega (arith, inv.place, c.requires.most)) inv.on

pub returns-clause-stood : goal.returns-clause-stood
returns-clause-stood g c = λ told k lt. (c.loop-number.invariant.stood told).1 k (omega (arith, lt))
