use Rattle.std.proofs.Common.{◌≡◌, ◌≤◌, take, None}
use Rattle.std.specs.Option.{option_map}
use Rattle.mg_bits.specs.Writer.{WroteTo}
use Rattle.mg_front.specs.Fronting.{Took}
use Rattle.mg_defs.specs.CodedText.{piece_entries}
use Rattle.mg_model.proofs.stream_model.StreamModel.write_entries.Given as goal

abbrev pub invariant-loop-symbol : goal.invariant-loop-symbol
invariant-loop-symbol g l = record {
  took : Took l.writer (g.S.Store.files l.store) (take l.symbol (piece_entries l.self));
  name : l.writer.strings.name ≡ l.fn.writer.strings.name;
  alone : option_map (λ places. places.name) l.writer.places ≡ None;
  width : l.writer.width ≡ 1;
  later : g.S.Store.faults l.fn.store ≤ g.S.Store.faults l.store;
  wrote : WroteTo l.fn.writer.strings.name (g.S.Store.files l.fn.store) (g.S.Store.files l.store) (g.S.Store.reads l.fn.store) (g.S.Store.reads l.store);
}
