use Rattle.std.proofs.Common.{arith, refl, ◌≡◌, ◌+◌, ◌-◌, ◌++◌, ◌∷◌, ℕ, List, [], drop, length, length-drop, take, sym, subst}
use Rattle.mg_defs.specs.declared.Stream.{Stream}
use Rattle.mg_defs.specs.Marks.{Mark, piece}
use Rattle.mg_count.specs.Scanning.{HasMet, Scanning}
use Rattle.mg_count.specs.Whole.{between}
use Rattle.mg_count.proofs.CallerLemmas.{between-length, between-none}
use Rattle.mg_make.specs.Putting.{HasPut, Putting}
use Rattle.mg_make.specs.Second.{IsNext}
use Rattle.mg_make.specs.Steps.{PassStep}
use Rattle.mg_make.proofs.PutSteps.{next_marks, writing}
use Rattle.mg_make.proofs.SliceSteps.{piece_done, piece_refused, slice_as, slice_none}
use Rattle.mg_make.proofs.writer.SetWriter.take_piece.Goals as goal

pub returns-then-next-at : goal.returns-then-next-at
returns-then-next-at g c =
    let i = c.self.inside in
    let same : c.take_piece-next.new.self ≡ i.scanner = c.take_piece-next.ensures.none c.if-next-at.true in
    let whole : writing i.base.now i.plan.now i.limit i.sums.items i.size c.take_piece-next.new.self i.pass ≡ c.args.self.now
    = subst (λ (s : Scanning). writing i.base.now i.plan.now i.limit i.sums.items i.size s i.pass ≡ c.args.self.now) (sym same) c.self.view_is in
    rw whole (omega arith, c.requires.within, slice_as (sym (between-none (c.args.at + 1) c.args.bytes.now)) (slice_none c.requires.put.0 c.requires.put.1))

pub put_piece-requires : goal.put_piece-requires
put_piece-requires g c =
    let i = c.self.inside in
    let ends = c.take_piece-next.ensures.some c.if-next-at.false in
    let put = rw (← c.self.view_is) at c.requires.put.1 in
    let run = between (c.args.at + 1) (c.take_piece-next.result + 1) c.args.bytes.now in
    let next : Stream → List Mark = λ kind. piece kind (between c.args.at c.take_piece-next.result c.args.bytes.now) ∷ [] in
    let long = between-length (c.args.at + 1) (c.take_piece-next.result + 1) c.args.bytes.now (omega (arith, ends.within)) in
    λ k. (
      (refl, tt),
      rw c.within.ensures
          (subst (λ (kind : Stream). IsNext i.pass (g.S.Store.files c.args.store.now) (next kind)) (sym c.kind-stream.ensures)
          (next_marks (writing i.base.now i.plan.now i.limit i.sums.items i.size i.scanner i.pass) c.take_piece-next.new.self i.pass _ (g.S.Store.files c.args.store.now) run
          (next i.scanner.reading.kind) ends.met c.requires.put.0 put (omega (arith, c.requires.put.2, long, ends.after, ends.within)))),
    )

pub overflow_add-self : goal.overflow_add-self
overflow_add-self g c =
    let ends = c.take_piece-next.ensures.some c.if-next-at.false in
    let put = rw (← c.self.view_is) at c.requires.put.1 in
    omega (arith, put.size_is, c.requires.put.2, ends.after, ends.within)

pub returns-in-Err : goal.returns-in-Err
returns-in-Err g c =
    let i = c.self.inside in
    let ends = c.take_piece-next.ensures.some c.if-next-at.false in
    let put = rw (← c.self.view_is) at c.requires.put.1 in
    let next : Stream → List Mark = λ kind. piece kind (between c.args.at c.take_piece-next.result c.args.bytes.now) ∷ [] in
    let count : c.take_piece-next.result + 1 - (c.args.at + 1) ≡ (c.take_piece-next.result - (c.args.at + 1)) + 1 = omega (arith, ends.after) in
    let takes : ((fed : List ℕ) (met : List Mark) → HasMet i.scanner fed met →
    HasMet c.take_piece-next.new.self (fed ++ take ((c.take_piece-next.result - (c.args.at + 1)) + 1) (drop (c.args.at + 1) c.args.bytes.now)) (met ++ next i.scanner.reading.kind))
    = λ fed met h. subst (λ n. HasMet c.take_piece-next.new.self (fed ++ take n (drop (c.args.at + 1) c.args.bytes.now)) (met ++ next i.scanner.reading.kind)) count (ends.met fed met h) in
    rw (← c.self.view_is)
    (piece_refused {w = writing i.base.now i.plan.now i.limit i.sums.items i.size i.scanner i.pass} (c.take_piece-next.result - (c.args.at + 1))
    (omega (arith, ends.after, ends.within, length-drop (c.args.at + 1) c.args.bytes.now)) ends.read takes c.requires.put.0 put (rw (c.kind-stream.ensures, c.within.ensures) at c.in-Err.ensures))

pub returns : goal.returns
returns g c =
    let i = c.self.inside in
    let ends = c.take_piece-next.ensures.some c.if-next-at.false in
    let put = rw (← c.self.view_is) at c.requires.put.1 in
    let long = between-length (c.args.at + 1) (c.take_piece-next.result + 1) c.args.bytes.now (omega (arith, ends.within)) in
    rw (← c.self.view_is) (
      omega (arith, ends.after),
      ends.within,
      piece_done {w = writing i.base.now i.plan.now i.limit i.sums.items i.size i.scanner i.pass} {count = c.take_piece-next.result - c.args.at} (omega (arith, long, ends.after)) ends.met
          c.requires.put.0 put (rw (c.kind-stream.ensures, c.within.ensures) at c.in-Ok.ensures),
    )
