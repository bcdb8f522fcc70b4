use Rattle.std.proofs.Common.{arith, ◌≡◌, ◌<◌, ◌∙◌, sym, ap, subst, length, take, slice_get, Some, IsSome}
use Rattle.std.proofs.lemmas.Result.{on_ok_weaker}
use Rattle.mg_dev.specs.Files.{bytes_at}
use Rattle.mg_front.specs.Fronting.{Took}
use Rattle.mg_defs.specs.CodedText.{piece_entries}
use Rattle.mg_defs.specs.Front.{front}
use Rattle.mg_defs.specs.Means.{IsStreamCode}
use Rattle.mg_model.proofs.Lists.{take-there, take-all}
use Rattle.mg_model.proofs.Entries.{entry, entries-long}
use Rattle.mg_defs.proofs.StandCodes.{entries-are}
use Rattle.mg_model.proofs.Writing.{piece-entry, entry-of-writer, is-other}
use Rattle.mg_model.proofs.stream_model.StreamModel.write_entries.Goals as goal

pub push-requires-clause-entry : goal.push-requires-clause-entry
push-requires-clause-entry g c =
    let is : IsStreamCode c.args.self.now = subst IsStreamCode c.self.view_is c.self.invariant in
    let within : c.loop-symbol.symbol < length c.self.inside.canon = omega (arith, c.count-symbol-end.ensures.count) in
    let there = piece-entry _ c.self.inside.canon c.loop-symbol.symbol c.piece-piece.result.now c.length.result c.self.invariant.each within c.piece-piece.ensures c.length.ensures.is in
    let at : slice_get (piece_entries c.args.self.now) c.loop-symbol.symbol ≡ Some (entry c.piece-piece.result.now c.length.result) =
    ap (λ it. slice_get (piece_entries it) c.loop-symbol.symbol) (sym c.self.view_is) ∙ there in
    let some : c.loop-symbol.symbol < length (piece_entries c.args.self.now) = omega (
      arith,
      entries-long c.args.self.now.pieces c.args.self.now.lengths is.each,
      ap (λ it. length it.lengths) c.self.view_is,
      is.each,
    ) in
    entry-of-writer (piece_entries c.args.self.now) c.loop-symbol.symbol c.loop-symbol.writer.width c.loop-symbol.writer.count c.loop-symbol.writer.last
    (entry c.piece-piece.result.now c.length.result) (entries-are c.args.self.now is) some at c.loop-symbol.invariant.width
    c.loop-symbol.invariant.took.count c.loop-symbol.invariant.took.last

pub loop-symbol-preserved : goal.loop-symbol-preserved
loop-symbol-preserved g c =
    let inv = c.loop-symbol.invariant in
    let push = c.in_ok-push.ensures in
    let within : c.loop-symbol.symbol < length c.self.inside.canon = omega (arith, c.count-symbol-end.ensures.count) in
    let there = piece-entry _ c.self.inside.canon c.loop-symbol.symbol c.piece-piece.result.now c.length.result c.self.invariant.each within c.piece-piece.ensures c.length.ensures.is in
    let at : slice_get (piece_entries c.args.self.now) c.loop-symbol.symbol ≡ Some (entry c.piece-piece.result.now c.length.result) =
    ap (λ it. slice_get (piece_entries it) c.loop-symbol.symbol) (sym c.self.view_is) ∙ there in
    record {
      took = subst (Took c.push.new.self (g.S.Store.files c.push.new.store))
          (sym (take-there (piece_entries c.args.self.now) c.loop-symbol.symbol (entry c.piece-piece.result.now c.length.result) at))
          (push.took (take c.loop-symbol.symbol (piece_entries c.args.self.now)) inv.took);
      name = push.name ∙ inv.name;
      alone = push.places ∙ inv.alone;
      width = push.width ∙ inv.width;
      later = omega (arith, inv.later, push.step.cause.later);
      wrote = record {
        told = push.step.told ∙ inv.wrote.told;
        others = λ n apart. push.step.others n (is-other n _ c.loop-symbol.writer.places inv.alone (λ e. apart (e ∙ inv.name))) ∙ inv.wrote.others n apart;
        reads = λ p. push.step.reads p ∙ inv.wrote.reads p;
      };
    }

pub returns-clause-bytes : goal.returns-clause-bytes
returns-clause-bytes g c =
    let inv = c.loop-symbol.invariant in
    let is : IsStreamCode c.args.self.now = subst IsStreamCode c.self.view_is c.self.invariant in
    let all : take c.loop-symbol.symbol (piece_entries c.args.self.now) ≡ piece_entries c.args.self.now =
    take-all (piece_entries c.args.self.now) c.loop-symbol.symbol
    (omega (
      arith,
      entries-long c.args.self.now.pieces c.args.self.now.lengths is.each,
      ap (λ it. length it.lengths) c.self.view_is,
      is.each,
      c.count-symbol-end.ensures.count,
    )) in
    on_ok_weaker c.finish.result
    (λ finished. λ told.
    let here : IsSome (g.S.Store.files c.loop-symbol.store) = inv.wrote.told ∙ told in
    let done = (finished (take c.loop-symbol.symbol (piece_entries c.args.self.now)) inv.took here).strings in
    ap (bytes_at (g.S.Store.files c.finish.new.store)) (sym inv.name) ∙ done ∙ ap front all)
    c.finish.ensures.finished
