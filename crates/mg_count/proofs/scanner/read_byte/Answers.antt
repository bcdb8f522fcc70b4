use Rattle.std.proofs.Common.{ap, [], ◌∷◌, ◌∙◌}
use Rattle.mg_defs.specs.Pieces.{OpenPiece}
use Rattle.mg_count.specs.Meeting.{Meeting, marks_of}
use Rattle.mg_count.proofs.Scans.{met-one, met-two, read-at_once, read-one_ended, read-two_ended, turned}
use Rattle.mg_count.proofs.scanner.read_byte.Goals as goal

pub returns-in-Taken : goal.returns-in-Taken
returns-in-Taken c = record { met = ([], read-at_once _ _ _ c.in-Taken.ensures.offered, ap (λ (m : Meeting). marks_of m) c.restart.ensures) }

pub returns-in-Taken-offer : goal.returns-in-Taken-offer
returns-in-Taken-offer c =
    let old : OpenPiece = c.args.reader.now in
    let ended = c.in-Ended.ensures.offered in
    record {
      met = (
        old.piece ∷ [],
        read-one_ended old c.turn.new.self c.offer-2.new.self c.args.byte ended.0 (c.turn.ensures.turned ∙ ap turned ended.1) c.in-Taken-offer.ensures.offered,
        met-one c.args.met.now _ _ c.args.begins _ _ old _ c.restart.ensures c.tell.ensures c.kind.ensures c.piece.ensures.value ended.1,
      );
    }

pub returns : goal.returns
returns c =
    let old : OpenPiece = c.args.reader.now in
    let ended = c.in-Ended.ensures.offered in
    let again = c.in-Ended-offer.ensures.offered in
    record {
      met = (
        old.piece ∷ [] ∷ [],
        read-two_ended old c.turn.new.self c.turn-2.new.self c.offer-3.new.self c.args.byte c.offer-3.result ended.0 (c.turn.ensures.turned ∙ ap turned ended.1)
            again.0 (c.turn-2.ensures.turned ∙ ap turned again.1) c.offer-3.ensures.offered,
        met-two c.args.met.now _ _ _ c.args.begins _ _ old _ c.restart.ensures c.tell.ensures c.tell_other.ensures c.kind.ensures c.piece.ensures.value ended.1,
      );
    }
