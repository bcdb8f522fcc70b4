use Rattle.std.proofs.Common.{◌++◌, ◌∷◌, List, [], sym, subst}
use Rattle.mg_defs.specs.Marks.{Mark, piece}
use Rattle.mg_count.specs.Counting.{AreFew, IsCounted, StopsAt}
use Rattle.mg_count.proofs.Counted.{met-mark}
use Rattle.mg_count.proofs.counts.Counts.piece_if.Goals as goal

pub add-requires : goal.add-requires
add-requires c =
    let few = c.requires.few in
    rw c.alone.ensures
    record {
      short = c.requires.short;
      few = (few.0, few.1, subst (λ (next : List Mark). AreFew (few.0 ++ next)) (met-mark c.args.is_met (piece c.args.stream c.args.bytes.now) c.if-not-is_met.false) few.2);
    }

pub returns-in-Ok-clause-counted : goal.returns-in-Ok-clause-counted
returns-in-Ok-clause-counted c = λ met h.
    subst (λ (next : List Mark). IsCounted c.add.new.self (met ++ next)) (sym (met-mark c.args.is_met (piece c.args.stream c.args.bytes.now) c.if-not-is_met.false))
    ((rw c.alone.ensures at c.in-Ok.ensures.counted) met h)

pub returns-in-Err-clause-refused : goal.returns-in-Err-clause-refused
returns-in-Err-clause-refused c = λ met h.
    subst (λ (next : List Mark). StopsAt met next c.fault_of.result) (sym (met-mark c.args.is_met (piece c.args.stream c.args.bytes.now) c.if-not-is_met.false))
    (subst (λ fault. StopsAt met (piece c.args.stream c.args.bytes.now ∷ []) fault) (sym c.fault_of.ensures) ((rw c.alone.ensures at c.in-Err.ensures.refused) met h))
