use Rattle.std.proofs.Common.{arith, refl, sym, ◌∙◌, ap, cond, Bool, true, false, ◌≤◌, ◌<◌, ℕ, ◌≡◌, ◌+◌, ◌-◌, ◌*◌, ◌/◌, ◌^◌, subst}
use Rattle.std.proofs.Common.{IsSome, List, Option, Ok, Err}
use Rattle.std.specs.Int.{div_ceil}
use Rattle.mg_defs.specs.Front.{Entry, is_below}
use Rattle.mg_front.specs.declared.entry.FrontEntry.{FrontEntry}
use Rattle.mg_front.specs.Entries.{entry_of}
use Rattle.mg_front.specs.Reading.{AnswersAt, AnswersBlock, FrontFits, Fronted, LookedAt, ReaderLooked, ReaderLooks, SameParts}
use Rattle.mg_front.proofs.OrderLaws.{between_start, between_step, around_of, lost_same, stands_same}
use Rattle.mg_dev.specs.Files.{Files, Reads}
use Rattle.mg_dev.specs.declared.part.Part.{Part}
use Rattle.mg_dev.specs.declared.part_err.PartErr.{PartErr}
use Rattle.mg_dev.specs.declared.part_err.PartErr.TheVariants.{Device, Memory, Bad}
use Rattle.mg_front.specs.Looks.{halvings}
use Rattle.mg_front.proofs.ReadPages.{Halved, halved_none, halved_more, halved_look, halved_done, look_as}
use Rattle.mg_dev.proofs.CallerLemmas.{cause_err}
use Rattle.mg_front.proofs.ReaderLaws.{looked_again, looked_not, memory_for, same_again}
use Rattle.mg_front.proofs.StoodLaws.{begins_so, halves_none, halves_some, halves_start, halves_step}
use Rattle.mg_front.proofs.reader.FrontReader.block_of.Goals as goal

halved_none_as : (strings places : Part) (r : Reads) (blocks left : ℕ) → blocks < 2 ^ 32 → left ≡ blocks → Halved strings places r r left (halvings blocks)
halved_none_as strings places r blocks left small same = subst (λ n. Halved strings places r r n (halvings blocks)) (sym same) (halved_none strings places r blocks small)

-- a call that is not refused
looked_halves : {T : Type 0} {old new : Fronted} {times : ℕ} {value : T} {f g : Option Files} {r s : Reads} {x y : ℕ} → FrontFits new g → SameParts old new →
    LookedAt old.strings.part old.places.part f g r s x y → ReaderLooks old r s times → ReaderLooked old new times (Ok value) f g r s x y
looked_halves fits same looked reads = record {
  fits = fits;
  same = same;
  looked = looked;
  reads = reads;
  memory = λ is. absurd cc;
  cause = record { later = looked.faults; device = tt };
}

-- an entry that was refused
at_refused : (refusal : PartErr) (width i : ℕ) (out : FrontEntry) (es : List Entry) (string : List ℕ) → AnswersAt {T = Unit {0}} (Err refusal) width i out es → AnswersBlock (Err refusal) string es
at_refused Device width i out es string none = tt
at_refused Memory width i out es string none = none
at_refused (Bad bad) width i out es string none = none

pub loop-low-init : goal.loop-low-init
loop-low-init g c = record {
  fits = c.requires;
  same = record { strings = refl; places = refl; strings_part = refl; places_part = refl; width = refl; count = refl };
  looked = looked_not;
  high = omega (arith, c.div_ceil-high.ensures, c.count.ensures);
  low = omega arith;
  reads = λ apart. halved_none_as _ _ _ _ _ (omega (arith, c.div_ceil-high.ensures, c.count.ensures)) (omega arith);
  between = λ es stands. between_start es _ _ (omega (arith, c.div_ceil-high.ensures, c.count.ensures, stands.count));
  stood = λ told. halves_start _ _ _ _ _ refl (omega (arith, c.div_ceil-high.ensures, c.count.ensures));
}

under : (above : Bool) (low high middle most l h : ℕ) → l ≡ cond above low (middle + 1) → h ≡ cond above middle high → high ≤ most → low ≤ middle → middle < high → (h ≤ most) × (l ≤ h)
under true low high middle most l h e f p q r = (omega arith, omega arith)
under false low high middle most l h e f p q r = (omega arith, omega arith)

under_half : (above : Bool) (low high l h : ℕ) → l ≡ cond above low (low + (high - low) / 2 + 1) → h ≡ cond above (low + (high - low) / 2) high → low < high → h - l ≤ (high - low) / 2
under_half true low high l h e f some = omega arith
under_half false low high l h e f some = omega arith

pub loop-low-preserved : goal.loop-low-preserved
loop-low-preserved g c =
    let inv = c.loop-low.invariant in
    let at = c.in-Ok.ensures in
    let room = under c.is_below-above.result c.loop-low.low c.loop-low.high (c.loop-low.low + (c.loop-low.high - c.loop-low.low) / 2)
    (div_ceil c.args.self.now.count 4) c.lower-low.result c.higher-high.result c.lower-low.ensures c.higher-high.ensures inv.high (omega arith)
    (omega arith) in
    record {
      fits = at.step.fits;
      same = same_again inv.same at.step.same;
      looked = looked_again inv.looked at.step.looked inv.same.strings_part inv.same.places_part;
      high = room.0;
      low = room.1;
      reads = λ apart.
          let one = look_as inv.same.strings_part inv.same.places_part apart at.step.reads in
          halved_more (omega arith) (under_half c.is_below-above.result c.loop-low.low c.loop-low.high _ _ c.lower-low.ensures
          c.higher-high.ensures (omega arith)) (inv.reads apart) one;
      between = λ es stands.
          let here = stands_same c.args.self.now c.loop-low.self (g.S.Store.files c.args.store.now) (g.S.Store.files c.loop-low.store) es inv.same inv.looked.files stands in
          between_step c.loop-low.self.width es c.args.string.now c.loop-low.low c.loop-low.high (c.loop-low.low + (c.loop-low.high - c.loop-low.low) / 2)
          c.is_below-above.result (entry_of c.loop-low.self.width c.at.new.out) c.lower-low.result c.higher-high.result here.strings.entries
          (at.entry es here) (c.is_below-above.ensures ∙ ap (is_below c.args.string.now) c.bytes.ensures) (inv.between es stands) c.lower-low.ensures
          c.higher-high.ensures;
      stood = λ told. halves_step _ _ _ c.is_below-above.result c.loop-low.low c.loop-low.high (c.loop-low.low + (c.loop-low.high - c.loop-low.low) / 2) _ _
          c.lower-low.ensures c.higher-high.ensures
          (begins_so _ _ _ _ _ _ _ c.at.new.out inv.same inv.looked.files (at.stood (subst IsSome (sym inv.looked.files) told))
          (c.is_below-above.ensures ∙ ap (is_below c.args.string.now) c.bytes.ensures)) (inv.stood told);
    }

pub returns-in-Err-clause-look : goal.returns-in-Err-clause-look
returns-in-Err-clause-look g c =
    let inv = c.loop-low.invariant in
    let at = c.in-Err.ensures in
    record {
      step = record {
        fits = at.step.fits;
        same = same_again inv.same at.step.same;
        looked = looked_again inv.looked at.step.looked inv.same.strings_part inv.same.places_part;
        reads = λ apart. halved_look (omega arith) (inv.reads apart) (look_as inv.same.strings_part inv.same.places_part apart at.step.reads);
        memory = memory_for _ at.step.memory;
        cause = cause_err inv.looked.faults at.step.cause;
      };
      found = λ es stands.
          let here = stands_same c.args.self.now c.loop-low.self (g.S.Store.files c.args.store.now) (g.S.Store.files c.loop-low.store) es inv.same inv.looked.files stands in
          at_refused c.in-Err.refusal c.loop-low.self.width (4 * (c.loop-low.low + (c.loop-low.high - c.loop-low.low) / 2)) c.at.new.out es c.args.string.now (at.entry es here);
      stood = λ told. tt;
      bad = (
        4 * (c.loop-low.low + (c.loop-low.high - c.loop-low.low) / 2) / 4,
        omega (arith, inv.high),
        lost_same _ _ _ _ _ _ inv.same inv.looked.files at.bad,
      );
    }

-- the string is below the first one
pub returns-then-low-eq0-clause-look : goal.returns-then-low-eq0-clause-look
returns-then-low-eq0-clause-look g c =
    let inv = c.loop-low.invariant in
    record {
      step = looked_halves inv.fits inv.same inv.looked (λ apart. halved_done (inv.reads apart));
      found = λ es stands. around_of es _ c.loop-low.low c.loop-low.high 0 (inv.between es stands) (omega arith) (omega arith);
      stood = λ told. halves_none _ _ _ c.loop-low.low c.loop-low.high (omega arith) (omega arith) (inv.stood told);
      bad = tt;
    }

pub returns-clause-look : goal.returns-clause-look
returns-clause-look g c =
    let inv = c.loop-low.invariant in
    record {
      step = looked_halves inv.fits inv.same inv.looked (λ apart. halved_done (inv.reads apart));
      found = λ es stands. (
        omega (arith, inv.high, inv.low, stands.count),
        around_of es _ c.loop-low.low c.loop-low.high (c.loop-low.low - 1 + 1) (inv.between es stands) (omega arith) (omega arith),
      );
      stood = λ told. halves_some _ _ _ c.loop-low.low c.loop-low.high (omega arith) (omega (arith, inv.low)) (inv.stood told);
      bad = tt;
    }
