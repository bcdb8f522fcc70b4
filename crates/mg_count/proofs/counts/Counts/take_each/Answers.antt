use Rattle.std.proofs.Common.{◌++◌, List, ap, sym, subst}
use Rattle.std.proofs.lemmas.Result.{on_ok_weaker}
use Rattle.mg_dev.specs.declared.fault.Fault.{Fault}
use Rattle.mg_defs.specs.Marks.{Mark, start, stop}
use Rattle.mg_count.specs.Counting.{AreFew, Counting, IsCounted, StopsAt}
use Rattle.mg_count.specs.Meeting.{Meeting, marks_of, only_if}
use Rattle.mg_count.proofs.Counted.{AddUp, begin_of, few-other, few-piece, in-all, other-is, other_of, passed-on, piece-is, piece_of, stops-begin, stops-other, stops-piece}
use Rattle.mg_count.proofs.counts.Counts.take_each.Goals as goal

abbrev Refused : Counting → Meeting → Fault → Type 0
Refused old m fault = (before : List Mark) → IsCounted old before → StopsAt before (marks_of m) fault

pub returns-in_err-begin_if-clause-refused : goal.returns-in_err-begin_if-clause-refused
returns-in_err-begin_if-clause-refused c =
    let m : Meeting = c.args.met.now in
    let fault : Fault = c.in_err-begin_if.field-0.0 in
    let begin = ap (λ b. only_if b start) c.begins.ensures in
    passed-on c.from_residual.result fault (Refused c.args.self.now m) c.from_residual.ensures.1
    (λ before h. stops-begin m before fault (subst (λ (x : List Mark). StopsAt before x fault) begin (c.in_err-begin_if.ensures.refused before h)))

pub piece_if-requires-clause-few : goal.piece_if-requires-clause-few
piece_if-requires-clause-few c =
    let e = c.marks_add_up.ensures in
    let laws : AddUp = record { documents = e.documents; pieces = e.pieces; pairs = e.pairs; last = e.last } in
    let m : Meeting = c.args.met.now in
    let few = c.requires.few in
    let begin = ap (λ b. only_if b start) c.begins.ensures in
    let one = piece-is m c.has_piece.result c.kind.result c.piece.result.now c.has_piece.ensures c.kind.ensures c.piece.ensures.bytes in (
      few.0 ++ begin_of m,
      subst (λ (x : List Mark). IsCounted c.begin_if.new.self (few.0 ++ x)) begin (c.in_ok-begin_if.ensures.counted few.0 few.1),
      subst (λ (x : List Mark). AreFew ((few.0 ++ begin_of m) ++ x)) (sym one) (few-piece laws m few.0 few.2),
    )

pub returns-in_err-piece_if-clause-refused : goal.returns-in_err-piece_if-clause-refused
returns-in_err-piece_if-clause-refused c =
    let m : Meeting = c.args.met.now in
    let fault : Fault = c.in_err-piece_if.field-0.0 in
    let begin = ap (λ b. only_if b start) c.begins.ensures in
    let one = piece-is m c.has_piece.result c.kind.result c.piece.result.now c.has_piece.ensures c.kind.ensures c.piece.ensures.bytes in
    passed-on c.from_residual-in_err-piece_if.result fault (Refused c.args.self.now m) c.from_residual-in_err-piece_if.ensures.1
    (λ before h.
    let begun = subst (λ (x : List Mark). IsCounted c.begin_if.new.self (before ++ x)) begin (c.in_ok-begin_if.ensures.counted before h) in
    stops-piece m before fault (subst (λ (x : List Mark). StopsAt (before ++ begin_of m) x fault) one (c.in_err-piece_if.ensures.refused (before ++ begin_of m) begun)))

pub piece_if-requires-2-clause-few : goal.piece_if-requires-2-clause-few
piece_if-requires-2-clause-few c =
    let e = c.marks_add_up.ensures in
    let laws : AddUp = record { documents = e.documents; pieces = e.pieces; pairs = e.pairs; last = e.last } in
    let m : Meeting = c.args.met.now in
    let few = c.requires.few in
    let begin = ap (λ b. only_if b start) c.begins.ensures in
    let one = piece-is m c.has_piece.result c.kind.result c.piece.result.now c.has_piece.ensures c.kind.ensures c.piece.ensures.bytes in
    let two = other-is m c.has_other.result c.other_kind.result c.has_other.ensures c.other_kind.ensures in
    let begun = subst (λ (x : List Mark). IsCounted c.begin_if.new.self (few.0 ++ x)) begin (c.in_ok-begin_if.ensures.counted few.0 few.1) in (
      (few.0 ++ begin_of m) ++ piece_of m,
      subst (λ (x : List Mark). IsCounted c.piece_if.new.self ((few.0 ++ begin_of m) ++ x)) one (c.in_ok-piece_if.ensures.counted (few.0 ++ begin_of m) begun),
      subst (λ (x : List Mark). AreFew (((few.0 ++ begin_of m) ++ piece_of m) ++ x)) (sym two) (few-other laws m few.0 few.2),
    )

pub returns-in_err-piece_if-2-clause-refused : goal.returns-in_err-piece_if-2-clause-refused
returns-in_err-piece_if-2-clause-refused c =
    let m : Meeting = c.args.met.now in
    let fault : Fault = c.in_err-piece_if-2.field-0.0 in
    let begin = ap (λ b. only_if b start) c.begins.ensures in
    let one = piece-is m c.has_piece.result c.kind.result c.piece.result.now c.has_piece.ensures c.kind.ensures c.piece.ensures.bytes in
    let two = other-is m c.has_other.result c.other_kind.result c.has_other.ensures c.other_kind.ensures in
    passed-on c.from_residual-in_err-piece_if-2.result fault (Refused c.args.self.now m) c.from_residual-in_err-piece_if-2.ensures.1
    (λ before h.
    let begun = subst (λ (x : List Mark). IsCounted c.begin_if.new.self (before ++ x)) begin (c.in_ok-begin_if.ensures.counted before h) in
    let told = subst (λ (x : List Mark). IsCounted c.piece_if.new.self ((before ++ begin_of m) ++ x)) one (c.in_ok-piece_if.ensures.counted (before ++ begin_of m) begun) in
    stops-other m before fault (subst (λ (x : List Mark). StopsAt ((before ++ begin_of m) ++ piece_of m) x fault) two
    (c.in_err-piece_if-2.ensures.refused ((before ++ begin_of m) ++ piece_of m) told)))

pub end_if-requires : goal.end_if-requires
end_if-requires c =
    let e = c.marks_add_up.ensures in
    let laws : AddUp = record { documents = e.documents; pieces = e.pieces; pairs = e.pairs; last = e.last } in
    let m : Meeting = c.args.met.now in
    let few = c.requires.few in
    let begin = ap (λ b. only_if b start) c.begins.ensures in
    let one = piece-is m c.has_piece.result c.kind.result c.piece.result.now c.has_piece.ensures c.kind.ensures c.piece.ensures.bytes in
    let two = other-is m c.has_other.result c.other_kind.result c.has_other.ensures c.other_kind.ensures in
    let begun = subst (λ (x : List Mark). IsCounted c.begin_if.new.self (few.0 ++ x)) begin (c.in_ok-begin_if.ensures.counted few.0 few.1) in
    let told = subst (λ (x : List Mark). IsCounted c.piece_if.new.self ((few.0 ++ begin_of m) ++ x)) one (c.in_ok-piece_if.ensures.counted (few.0 ++ begin_of m) begun) in
    record {
      few = (
        ((few.0 ++ begin_of m) ++ piece_of m) ++ other_of m,
        subst (λ (x : List Mark). IsCounted c.piece_if-2.new.self (((few.0 ++ begin_of m) ++ piece_of m) ++ x)) two (c.in_ok-piece_if-2.ensures.counted ((few.0 ++ begin_of m) ++ piece_of m) told),
        few-other laws m few.0 few.2,
      );
    }

pub returns-clause-counted : goal.returns-clause-counted
returns-clause-counted c =
    let m : Meeting = c.args.met.now in
    let begin = ap (λ b. only_if b start) c.begins.ensures in
    let one = piece-is m c.has_piece.result c.kind.result c.piece.result.now c.has_piece.ensures c.kind.ensures c.piece.ensures.bytes in
    let two = other-is m c.has_other.result c.other_kind.result c.has_other.ensures c.other_kind.ensures in
    let end = ap (λ b. only_if b stop) c.ends.ensures in
    on_ok_weaker c.end_if.result
    (λ (ends : (met : List Mark) → IsCounted c.piece_if-2.new.self met → IsCounted c.end_if.new.self (met ++ only_if c.ends.result stop)) before h.
    let begun = subst (λ (x : List Mark). IsCounted c.begin_if.new.self (before ++ x)) begin (c.in_ok-begin_if.ensures.counted before h) in
    let told = subst (λ (x : List Mark). IsCounted c.piece_if.new.self ((before ++ begin_of m) ++ x)) one (c.in_ok-piece_if.ensures.counted (before ++ begin_of m) begun) in
    let both = subst (λ (x : List Mark). IsCounted c.piece_if-2.new.self (((before ++ begin_of m) ++ piece_of m) ++ x)) two
    (c.in_ok-piece_if-2.ensures.counted ((before ++ begin_of m) ++ piece_of m) told) in
    in-all c.end_if.new.self m before (subst (λ (x : List Mark). IsCounted c.end_if.new.self ((((before ++ begin_of m) ++ piece_of m) ++ other_of m) ++ x)) end
    (ends (((before ++ begin_of m) ++ piece_of m) ++ other_of m) both)))
    c.end_if.ensures.counted
