use Rattle.std.proofs.Common.{arith, inr, refl, sym, ◌∙◌, subst, IsSome, length, ◌≡◌, ◌≤◌, ◌<◌, ◌+◌, ◌*◌, ◌-◌, min, None, Some}
use Rattle.std.specs.Prelude.{Err}
use Rattle.mg_dev.specs.Files.{bytes_at}
use Rattle.mg_dev.specs.declared.part_err.PartErr.{PartErr}
use Rattle.mg_front.specs.Reading.{AnswersIn, AnswersScan, Fronted, IsInBlock}
use Rattle.mg_front.specs.Stood.{ScanStands}
use Rattle.mg_front.proofs.OrderLaws.{none_behind, last_or_full}
use Rattle.mg_front.proofs.ReaderLaws.{at_block, looked_bad, looked_failed, looked_ok, looked_place, lost_place, only_device}
use Rattle.mg_front.proofs.StoodLaws.{entry_stands, in_block}
use Rattle.mg_front.proofs.reader.FrontReader.find_in.Goals as goal

pub overflow_add-result : goal.overflow_add-result
overflow_add-result g c =
    let below = rw (← c.self.view_is) at c.requires.below in
    let number : c.in-Found.number < c.min-most.result = subst (λ scan. IsInBlock scan c.min-most.result) c.in-Found.is c.in-Ok-scan_block.ensures.number in
    let most : c.min-most.result ≡ min (c.self.inside.count - 4 * c.args.block) 4 = c.min-most.ensures in
    omega (arith, below, number, most, c.self.invariant.1)

pub returns-in-Err : goal.returns-in-Err
returns-in-Err g c =
    let own : Fronted = record { strings = c.self.inside.strings; places = c.self.inside.places; width = c.self.inside.width; count = c.self.inside.count } in
    let fits = rw (← c.self.view_is) at c.requires.fits in
    let below = rw (← c.self.view_is) at c.requires.below in
    rw (← c.self.view_is)
    (record {
      step = looked_place fits c.in-Err.ensures;
      found = λ es stands. only_device (λ (refusal : PartErr). AnswersIn (Err refusal) c.args.block c.self.inside.width c.args.string.now c.args.out.now es) _ _ es c.args.block
          c.in-Err.refusal tt stands (omega (arith, below, stands.count)) c.in-Err.ensures.answer;
      stood = λ told. tt;
      bad = lost_place own (g.S.Store.files c.args.store.now) c.args.block c.in-Err.refusal c.in-Err.ensures.answer;
    })

pub returns-in-Err-scan_block : goal.returns-in-Err-scan_block
returns-in-Err-scan_block g c =
    let fits = rw (← c.self.view_is) at c.requires.fits in
    rw (← c.self.view_is) (record { step = looked_failed fits c.in-Ok.ensures c.in-Err-scan_block.ensures.read; found = λ es stands. tt; stood = λ told. tt; bad = tt })

pub returns-in-Absent : goal.returns-in-Absent
returns-in-Absent g c =
    let own : Fronted = record { strings = c.self.inside.strings; places = c.self.inside.places; width = c.self.inside.width; count = c.self.inside.count } in
    let fits = rw (← c.self.view_is) at c.requires.fits in
    let below = rw (← c.self.view_is) at c.requires.below in
    rw (← c.self.view_is)
    (record {
      step = looked_ok None fits c.in-Ok.ensures c.in-Ok-scan_block.ensures.read;
      found = λ es stands.
          let most : c.min-most.result ≡ min (c.self.inside.count - 4 * c.args.block) 4 = c.min-most.ensures in
          let within : 4 * c.args.block + c.min-most.result ≤ length es = omega (arith, below, stands.count, most) in
          let scan = at_block own es c.args.block c.in-Ok.place stands (omega (arith, below, stands.count)) c.in-Ok.ensures.looked.files c.in-Ok.ensures.answer
          c.in-Ok-scan_block.ensures.told within in
          let scanned = subst (λ scan. AnswersScan scan (4 * c.args.block) c.min-most.result c.args.string.now c.self.inside.width c.scan_block.new.out es) c.in-Absent.is scan in
          none_behind es (4 * c.args.block) c.min-most.result c.args.string.now (last_or_full c.self.inside.count (4 * c.args.block) c.min-most.result (length es)
          most stands.count below) scanned;
      stood = λ told k few within.
          let most : c.min-most.result ≡ min (c.self.inside.count - 4 * c.args.block) 4 = c.min-most.ensures in
          let known = subst IsSome (sym c.in-Ok.ensures.looked.files) told in
          let scan = subst (λ scan. ScanStands c.self.inside.width (bytes_at (g.S.Store.files c.place_of.new.store) c.self.inside.strings.name) c.in-Ok.place c.min-most.result
          c.args.string.now c.scan_block.new.out scan) c.in-Absent.is (c.in-Ok-scan_block.ensures.stood known) in
          let it = scan k (omega (arith, few, within, most)) in
          (it.0, entry_stands own c.args.block k c.in-Ok.place it.0 c.in-Ok.ensures.looked.files told c.in-Ok.ensures.answer (λ known. it.1), it.2);
      bad = tt;
    })

pub returns-in-Damaged : goal.returns-in-Damaged
returns-in-Damaged g c =
    let own : Fronted = record { strings = c.self.inside.strings; places = c.self.inside.places; width = c.self.inside.width; count = c.self.inside.count } in
    let fits = rw (← c.self.view_is) at c.requires.fits in
    let below = rw (← c.self.view_is) at c.requires.below in
    rw (← c.self.view_is)
    (record {
      step = looked_bad _ fits c.in-Ok.ensures c.in-Ok-scan_block.ensures.read;
      found = λ es stands.
          let most : c.min-most.result ≡ min (c.self.inside.count - 4 * c.args.block) 4 = c.min-most.ensures in
          let within : 4 * c.args.block + c.min-most.result ≤ length es = omega (arith, below, stands.count, most) in
          let scan = at_block own es c.args.block c.in-Ok.place stands (omega (arith, below, stands.count)) c.in-Ok.ensures.looked.files c.in-Ok.ensures.answer
          c.in-Ok-scan_block.ensures.told within in
          let scanned = subst (λ scan. AnswersScan scan (4 * c.args.block) c.min-most.result c.args.string.now c.self.inside.width c.scan_block.new.out es) c.in-Damaged.is scan in
          scanned;
      stood = λ told. tt;
      bad = inr (record {
        is = record { part_is = c.part.ensures ∙ c.in-Ok-scan_block.ensures.read.file.part; at_is = refl; low_is = refl; high_is = refl; found_is = refl };
        small = c.in-Ok.ensures.answer.0;
        told = λ told. c.in-Ok.ensures.answer.1 told;
      });
    })

pub returns : goal.returns
returns g c =
    let own : Fronted = record { strings = c.self.inside.strings; places = c.self.inside.places; width = c.self.inside.width; count = c.self.inside.count } in
    let fits = rw (← c.self.view_is) at c.requires.fits in
    let below = rw (← c.self.view_is) at c.requires.below in
    rw (← c.self.view_is)
    (record {
      step = looked_ok (Some _) fits c.in-Ok.ensures c.in-Ok-scan_block.ensures.read;
      found = λ es stands.
          let most : c.min-most.result ≡ min (c.self.inside.count - 4 * c.args.block) 4 = c.min-most.ensures in
          let within : 4 * c.args.block + c.min-most.result ≤ length es = omega (arith, below, stands.count, most) in
          let scan = at_block own es c.args.block c.in-Ok.place stands (omega (arith, below, stands.count)) c.in-Ok.ensures.looked.files c.in-Ok.ensures.answer
          c.in-Ok-scan_block.ensures.told within in
          let scanned = subst (λ scan. AnswersScan scan (4 * c.args.block) c.min-most.result c.args.string.now c.self.inside.width c.scan_block.new.out es) c.in-Found.is scan in
          (scanned.1, scanned.2);
      stood = λ told.
          let most : c.min-most.result ≡ min (c.self.inside.count - 4 * c.args.block) 4 = c.min-most.ensures in
          let known = subst IsSome (sym c.in-Ok.ensures.looked.files) told in
          let number : c.in-Found.number < c.min-most.result = subst (λ scan. IsInBlock scan c.min-most.result) c.in-Found.is c.in-Ok-scan_block.ensures.number in
          let scan = subst (λ scan. ScanStands c.self.inside.width (bytes_at (g.S.Store.files c.place_of.new.store) c.self.inside.strings.name) c.in-Ok.place c.min-most.result
          c.args.string.now c.scan_block.new.out scan) c.in-Found.is (c.in-Ok-scan_block.ensures.stood known) in (
            omega (arith, number, most),
            in_block own _ c.args.block c.in-Found.number _ (omega (arith, number, most))
                (entry_stands own c.args.block c.in-Found.number c.in-Ok.place _ c.in-Ok.ensures.looked.files told c.in-Ok.ensures.answer (λ known. scan.0)),
            scan.1,
          );
      bad = tt;
    })
