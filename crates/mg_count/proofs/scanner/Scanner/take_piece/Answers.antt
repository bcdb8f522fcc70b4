use Rattle.std.proofs.Common.{rules, arith, ◌≡◌, ◌≢◌, ◌∙◌, ◌+◌, ◌<◌, true, false, get_or, length, sym, subst}
use Rattle.mg_defs.specs.declared.Stream.{Stream}
use Rattle.mg_defs.specs.Parse.{is_of_kind}
use Rattle.mg_count.specs.Scanning.{Scanning}
use Rattle.mg_count.specs.Whole.{EndsPiece, GoesOnTo}
use Rattle.mg_count.proofs.WholePieces.{ends-piece, whole-ends}
use Rattle.mg_count.proofs.scanner.Scanner.take_piece.Goals as goal

pub returns-clause-some : goal.returns-clause-some
returns-clause-some c = λ other.
    let i = c.self.inside in
    let s : Scanning = record { seen = i.splitter; reading = i.reader; is_open = i.is_open; met = i.met } in
    let is_open : i.is_open ≡ true = search rules in
    let is_byte : c.is_byte_at.result ≡ true = search rules in
    let below : c.piece_end-next.result < length c.args.bytes.now = omega (arith, c.if-next-bytes.false) in
    let goes : GoesOnTo i.reader.kind c.args.bytes.now (c.args.at + 1) c.piece_end-next.result
    = subst (λ (kind : Stream). GoesOnTo kind c.args.bytes.now (c.args.at + 1) c.piece_end-next.result) c.kind.ensures c.piece_end-next.ensures.goes in
    let new : Scanning = record { seen = i.splitter; reading = c.turn_at.new.reader; is_open = i.is_open; met = i.met } in
    subst (λ (v : Scanning). EndsPiece v new c.args.bytes.now c.args.at c.piece_end-next.result) c.self.view_is
    (ends-piece s c.turn_at.new.reader c.args.bytes.now c.args.at c.piece_end-next.result is_open (c.is_byte_at.ensures.within is_byte) (c.is_byte_at.ensures.piece is_byte) goes below
    (c.turn_at.ensures.turns (search rules)))

-- a whole piece ends where its bytes go on no further
pub returns-clause-whole : goal.returns-clause-whole
returns-clause-whole c next h =
    let i = c.self.inside in
    let s : Scanning = record { seen = i.splitter; reading = i.reader; is_open = i.is_open; met = i.met } in
    let end = c.piece_end-next.result in
    (whole-ends s c.args.self.now c.kind.result c.args.bytes.now c.args.at end next c.self.view_is c.kind.ensures c.piece_end-next.ensures.goes c.piece_end-next.ensures.far h).0

pub returns-then-next-bytes-clause-whole : goal.returns-then-next-bytes-clause-whole
returns-then-next-bytes-clause-whole c next h =
    let i = c.self.inside in
    let s : Scanning = record { seen = i.splitter; reading = i.reader; is_open = i.is_open; met = i.met } in
    let end = c.piece_end-next.result in
    let w = whole-ends s c.args.self.now c.kind.result c.args.bytes.now c.args.at end next c.self.view_is c.kind.ensures c.piece_end-next.ensures.goes c.piece_end-next.ensures.far h in
    absurd (omega (arith, w.0, w.1.within, c.if-next-bytes.true))

pub returns-then-not-turn_at-clause-whole : goal.returns-then-not-turn_at-clause-whole
returns-then-not-turn_at-clause-whole c next h =
    let i = c.self.inside in
    let s : Scanning = record { seen = i.splitter; reading = i.reader; is_open = i.is_open; met = i.met } in
    let end = c.piece_end-next.result in
    let w = whole-ends s c.args.self.now c.kind.result c.args.bytes.now c.args.at end next c.self.view_is c.kind.ensures c.piece_end-next.ensures.goes c.piece_end-next.ensures.far h in
    let stays : get_or c.args.bytes.now end 0 ≢ 2 = subst (λ n. get_or c.args.bytes.now n 0 ≢ 2) (sym w.0) w.1.stays in
    let ends : is_of_kind i.reader.kind (get_or c.args.bytes.now end 0) ≡ false = subst (λ n. is_of_kind i.reader.kind (get_or c.args.bytes.now n 0) ≡ false) (sym w.0) w.1.ends in
    let turned : c.turn_at.result ≡ true = c.turn_at.ensures.whenever stays ends in
    let isnt : c.turn_at.result ≡ false = search rules in
    let bad : true ≡ false = sym turned ∙ isnt in
    absurd cc
