use Rattle.std.proofs.Common.{arith, true, false, refl, ap, ◌∙◌, drop, length, take, ◌≡◌}
use Rattle.mg_defs.specs.Front.{front, read_entry}
use Rattle.mg_front.specs.Entries.{string_of, found_of}
use Rattle.mg_front.proofs.ReadFacts.{told_as}
use Rattle.mg_front.proofs.ReadSteps.{on_done, on_entry, on_start, on_stop, reads_ended, reads_failed, reads_wider}
use Rattle.mg_front.proofs.ReaderLaws.{never_none, stepped}
use Rattle.mg_front.proofs.StoodLaws.{last_up_to, read_next, up_to_next}
use Rattle.mg_front.proofs.reader.read_block.Goals as goal

pub loop-number-init : goal.loop-number-init
loop-number-init g c = record {
  on = on_start c.requires.fits;
  place = omega arith;
  told = λ told es block is from within. record { place_is = from ∙ ap (λ n. length (front (take n es))) (omega arith); last_is = λ some. absurd (omega (arith, some)) };
  stood = λ told. refl;
}

pub loop-number-preserved : goal.loop-number-preserved
loop-number-preserved g c =
    let inv = c.loop-number.invariant in
    let passed = rw c.in-Ok-Some.field-0-is at c.in-Ok-Some.ensures.passed in
    record {
      on = on_entry c.in-Ok-Some.size refl inv.on (rw c.in-Ok-Some.field-0-is at c.in-Ok-Some.ensures);
      place = omega (arith, inv.place, passed.most);
      told = λ told es block is from within.
          let read = told_as (λ bytes. read_entry c.args.width c.loop-number.number (string_of c.loop-number.out) (drop c.loop-number.place bytes)
          ≡ found_of c.args.width c.read_entry.new.out c.in-Ok-Some.field-0) (g.S.Store.files c.args.store.now) _ c.args.strings.now.name _ inv.on.looked.files
          inv.on.file.name c.in-Ok-Some.ensures.told told in
          stepped c.args.width c.loop-number.number c.loop-number.place c.args.last c.in-Ok-Some.size c.loop-number.out c.read_entry.new.out _ es _ block is
          (inv.told told es block is from within) (omega arith) c.requires.last within c.in-Ok-Some.field-0-is read;
      stood = λ told.
          let read = told_as (λ bytes. read_entry c.args.width c.loop-number.number (string_of c.loop-number.out) (drop c.loop-number.place bytes)
          ≡ found_of c.args.width c.read_entry.new.out c.in-Ok-Some.field-0) (g.S.Store.files c.args.store.now) _ c.args.strings.now.name _ inv.on.looked.files
          inv.on.file.name c.in-Ok-Some.ensures.told told in
          up_to_next _ _ _ _ _ _ (read_next _ _ _ _ c.in-Ok-Some.size _ _ _ _ (inv.stood told) c.in-Ok-Some.field-0-is read);
    }

pub returns-in-Ok-None : goal.returns-in-Ok-None
returns-in-Ok-None g c =
    let inv = c.loop-number.invariant in
    record {
      read = reads_wider (omega (arith, inv.place, c.requires.last)) (reads_ended false (on_stop inv.on c.in-Ok-None.ensures.read));
      told = λ told es block is from within.
          let read = told_as (λ bytes. read_entry c.args.width c.loop-number.number (string_of c.loop-number.out) (drop c.loop-number.place bytes)
          ≡ found_of c.args.width c.read_entry.new.out c.in-Ok-None.field-0) (g.S.Store.files c.args.store.now) _ c.args.strings.now.name _ inv.on.looked.files
          inv.on.file.name c.in-Ok-None.ensures.told told in
          absurd (never_none c.args.width c.loop-number.number c.loop-number.place c.args.last c.loop-number.out c.read_entry.new.out _ es _ block is
          (inv.told told es block is from within) (omega arith) c.requires.last within c.in-Ok-None.field-0-is read);
      stood = λ told is. absurd cc;
    }

pub returns-in-Err : goal.returns-in-Err
returns-in-Err g c =
    let inv = c.loop-number.invariant in
    record { read = reads_wider (omega (arith, inv.place, c.requires.last)) (reads_failed (on_stop inv.on c.in-Err.ensures.read)); told = λ told es block is from within. tt; stood = λ told. tt }

pub returns-clause-read : goal.returns-clause-read
returns-clause-read g c =
    let inv = c.loop-number.invariant in
    on_done true (omega (arith, inv.place, c.requires.last)) inv.on

pub returns-clause-stood : goal.returns-clause-stood
returns-clause-stood g c = λ told is. last_up_to _ c.loop-number.number _ _ _ _ _ (omega arith) (c.loop-number.invariant.stood told)
