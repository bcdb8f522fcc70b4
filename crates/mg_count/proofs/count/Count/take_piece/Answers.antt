use Rattle.std.proofs.Common.{arith, ◌≡◌, ◌+◌, ◌-◌, ◌++◌, ◌∷◌, List, [], drop, sym, subst, length-take}
use Rattle.mg_defs.specs.declared.Stream.{Stream}
use Rattle.mg_defs.specs.Marks.{Mark, piece}
use Rattle.mg_count.specs.Counting.{AreFew, CountStopsAmong, FirstPass, HasCounted, IsCounted, StopsAt}
use Rattle.mg_count.specs.Whole.{between, fault_by}
use Rattle.mg_count.proofs.Behind.{behind-none, pass, piece-counted, piece-few, piece-stops}
use Rattle.mg_count.proofs.count.Count.take_piece.Goals as goal

pub returns-then-next-at : goal.returns-then-next-at
returns-then-next-at c =
    let i = c.self.inside in
    let same : c.take_piece-next.new.self ≡ i.scanner = c.take_piece-next.ensures.none c.if-next-at.true in (
      omega arith,
      c.requires.within,
      λ fed h.
          let before : HasCounted (pass i.scanner i.counts) fed = subst (λ (v : FirstPass). HasCounted v fed) (sym c.self.view_is) h in
          behind-none (pass c.take_piece-next.new.self i.counts) c.args.bytes.now fed (c.args.at + 1) (subst (λ s. HasCounted (pass s i.counts) fed) (sym same) before),
    )

pub add-requires : goal.add-requires
add-requires c =
    let i = c.self.inside in
    let ends = c.take_piece-next.ensures.some c.if-next-at.false in
    let given = c.requires.given in
    let before : HasCounted (pass i.scanner i.counts) given.0 = subst (λ (v : FirstPass). HasCounted v given.0) (sym c.self.view_is) given.1 in
    let few = piece-few i.scanner c.take_piece-next.new.self i.counts i.counts c.args.bytes.now c.args.at c.take_piece-next.result ends c.few_are_met.ensures.met given.0 before given.2 in
    rw c.within.ensures
    record {
      short = omega (arith, length-take (c.take_piece-next.result - c.args.at) (drop c.args.at c.args.bytes.now), ends.short, ends.after, ends.within);
      few = (before.met, before.counted, subst (λ (kind : Stream). AreFew (before.met ++ piece kind (between c.args.at c.take_piece-next.result c.args.bytes.now) ∷ [])) (sym c.kind-stream.ensures) few);
    }

pub returns-in-Err : goal.returns-in-Err
returns-in-Err c =
    let i = c.self.inside in
    let ends = c.take_piece-next.ensures.some c.if-next-at.false in
    let bytes = between c.args.at c.take_piece-next.result c.args.bytes.now in
    let stops : (met : List Mark) → IsCounted i.counts met → StopsAt met (piece i.scanner.reading.kind bytes ∷ []) c.fault_of.result
    = λ met h. subst (λ fault. StopsAt met (piece i.scanner.reading.kind bytes ∷ []) fault) (sym c.fault_of.ensures)
    (subst (λ (kind : Stream). StopsAt met (piece kind bytes ∷ []) (fault_by c.kind-stream.result c.in-Err.refusal)) c.kind-stream.ensures ((rw c.within.ensures at c.in-Err.ensures.refused) met h)) in
    subst (λ (v : FirstPass). CountStopsAmong v (drop (c.args.at + 1) c.args.bytes.now) c.fault_of.result) c.self.view_is
    (piece-stops i.scanner c.take_piece-next.new.self i.counts i.counts c.args.bytes.now c.args.at c.take_piece-next.result ends c.fault_of.result stops)

pub returns : goal.returns
returns c =
    let i = c.self.inside in
    let ends = c.take_piece-next.ensures.some c.if-next-at.false in
    let bytes = between c.args.at c.take_piece-next.result c.args.bytes.now in
    let counts : (met : List Mark) → IsCounted i.counts met → IsCounted c.add.new.self (met ++ piece i.scanner.reading.kind bytes ∷ [])
    = λ met h. subst (λ (kind : Stream). IsCounted c.add.new.self (met ++ piece kind bytes ∷ [])) c.kind-stream.ensures ((rw c.within.ensures at c.in-Ok.ensures.counted) met h) in (
      omega (arith, ends.after),
      ends.within,
      λ fed h.
          piece-counted i.scanner c.take_piece-next.new.self i.counts c.add.new.self c.args.bytes.now c.args.at c.take_piece-next.result ends counts fed
          (subst (λ (v : FirstPass). HasCounted v fed) (sym c.self.view_is) h),
    )
