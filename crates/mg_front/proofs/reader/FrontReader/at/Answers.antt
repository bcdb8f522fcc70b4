use Rattle.std.proofs.Common.{arith, inr, refl, sym, ◌∙◌, ap, Bool, true, false, ℕ, List, length, slice_get, ◌≡◌, ◌<◌, ◌+◌, ◌*◌, ◌/◌, ◌%◌}
use Rattle.std.specs.Prelude.{Err}
use Rattle.mg_dev.specs.declared.part_err.PartErr.{PartErr}
use Rattle.mg_defs.specs.Front.{Entry}
use Rattle.mg_front.specs.Reading.{AnswersAt, Fronted}
use Rattle.mg_front.proofs.ReaderLaws.{at_block, looked_bad, looked_failed, looked_ok, looked_place, lost_place, only_device}
use Rattle.mg_front.proofs.StoodLaws.{entry_stands}
use Rattle.mg_front.proofs.reader.FrontReader.at.Goals as goal

clash : (b : Bool) → b ≡ false → b ≡ true → ⊥
clash b one other = absurd cc

-- an entry stands in its block
in_block : (i count : ℕ) (es : List Entry) → i < count → length es ≡ count → 4 * (i / 4) + i % 4 < length es
in_block i count es below same = omega arith

first_of_block : (i count : ℕ) (es : List Entry) → i < count → length es ≡ count → 4 * (i / 4) < length es
first_of_block i count es below same = omega arith

whole : (i : ℕ) → 4 * (i / 4) + i % 4 ≡ i
whole i = omega arith

pub returns-in-Err : goal.returns-in-Err
returns-in-Err g c =
    let own : Fronted = record { strings = c.self.inside.strings; places = c.self.inside.places; width = c.self.inside.width; count = c.self.inside.count } in
    let fits = rw (← c.self.view_is) at c.requires.fits in
    let below = rw (← c.self.view_is) at c.requires.below in
    let looked = looked_place fits c.in-Err.ensures in
    rw (← c.self.view_is)
    (record {
      step = looked;
      entry = λ es stands. only_device (λ (refusal : PartErr). AnswersAt {T = Unit {0}} (Err refusal) c.self.inside.width c.args.i c.args.out.now es) _ _ es (c.args.i / 4)
          c.in-Err.refusal tt stands (first_of_block c.args.i c.self.inside.count es below stands.count) c.in-Err.ensures.answer;
      stood = λ told. tt;
      bad = lost_place own (g.S.Store.files c.args.store.now) (c.args.i / 4) c.in-Err.refusal c.in-Err.ensures.answer;
    })

pub returns-in-Ok-true : goal.returns-in-Ok-true
returns-in-Ok-true g c =
    let own : Fronted = record { strings = c.self.inside.strings; places = c.self.inside.places; width = c.self.inside.width; count = c.self.inside.count } in
    let fits = rw (← c.self.view_is) at c.requires.fits in
    let below = rw (← c.self.view_is) at c.requires.below in
    let e = c.in-Ok-true.ensures in
    let looked = looked_ok tt fits c.in-Ok.ensures e.read in
    rw (← c.self.view_is)
    (record {
      step = looked;
      entry = λ es stands.
          let within = in_block c.args.i c.self.inside.count es below stands.count in
          ap (slice_get es) (sym (whole c.args.i)) ∙ (at_block own es (c.args.i / 4) c.in-Ok.place stands (first_of_block c.args.i c.self.inside.count es below stands.count)
          c.in-Ok.ensures.looked.files c.in-Ok.ensures.answer e.told within).1;
      stood = λ told. entry_stands own (c.args.i / 4) (c.args.i % 4) c.in-Ok.place _ c.in-Ok.ensures.looked.files told c.in-Ok.ensures.answer
          (λ known. e.stood known c.in-Ok-true.field-0-test);
      bad = tt;
    })

pub returns-in-Err-read_block : goal.returns-in-Err-read_block
returns-in-Err-read_block g c =
    let fits = rw (← c.self.view_is) at c.requires.fits in
    let e = c.in-Err-read_block.ensures in
    let looked = looked_failed fits c.in-Ok.ensures e.read in
    rw (← c.self.view_is)
    (record {
      step = looked;
      entry = λ es stands. tt;
      stood = λ told. tt;
      bad = tt;
    })

pub returns : goal.returns
returns g c =
    let own : Fronted = record { strings = c.self.inside.strings; places = c.self.inside.places; width = c.self.inside.width; count = c.self.inside.count } in
    let fits = rw (← c.self.view_is) at c.requires.fits in
    let below = rw (← c.self.view_is) at c.requires.below in
    let e = c.in-Ok-false.ensures in
    let looked = looked_bad _ fits c.in-Ok.ensures e.read in
    rw (← c.self.view_is)
    (record {
      step = looked;
      entry = λ es stands.
          let within = in_block c.args.i c.self.inside.count es below stands.count in
          clash c.in-Ok-false.field-0 c.in-Ok-false.field-0-test
          (at_block own es (c.args.i / 4) c.in-Ok.place stands (first_of_block c.args.i c.self.inside.count es below stands.count) c.in-Ok.ensures.looked.files c.in-Ok.ensures.answer e.told within).0;
      stood = λ told. tt;
      bad = inr (record {
        is = record { part_is = c.part.ensures ∙ e.read.file.part; at_is = refl; low_is = refl; high_is = refl; found_is = refl };
        small = c.in-Ok.ensures.answer.0;
        told = λ told. c.in-Ok.ensures.answer.1 told;
      });
    })
