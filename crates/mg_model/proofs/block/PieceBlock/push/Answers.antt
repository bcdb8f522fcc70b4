use Rattle.std.proofs.Common.{arith, ◌∙◌, ◌++◌, ◌∷◌, ◌≡◌, [], ap, length, map}
use Rattle.mg_model.specs.Blocks.{piece_of}
use Rattle.mg_model.proofs.Blocks.{IsLong, pieces-add_long}
use Rattle.mg_model.proofs.block.PieceBlock.push.Goals as goal

pub returns-clause-ok : goal.returns-clause-ok
returns-clause-ok c =
    let entries : c.push_reserved-2.new.self.items ≡ c.self.inside.entries.items ++ c.long_entry-entry.result ∷ [] = c.push_reserved-2.ensures.items
    ∙ ap (λ es. es ++ c.long_entry-entry.result ∷ []) c.in_ok-make_room.ensures.items in
    let long : c.extend_from_slice.new.self.items ≡ c.self.inside.long.items ++ c.args.piece.now = c.in_ok-extend_from_slice.ensures.items
    ∙ ap (λ t. t ++ c.args.piece.now) c.in_ok-make_room_for.ensures.items in
    let is : IsLong (length c.self.inside.long.items) c.long_entry-entry.result c.args.piece.now = record {
      count = omega (arith, c.long_entry-entry.ensures.length);
      many = omega (arith, c.if-piece-le-SHORT.false);
      byte = c.requires.short;
      place = omega (arith, c.long_entry-entry.ensures.place, c.len.ensures, ap length c.in_ok-make_room_for.ensures.items);
    } in
    ap (λ b. map (piece_of b) c.push_reserved-2.new.self.items) long ∙ ap (map (piece_of (c.self.inside.long.items ++ c.args.piece.now))) entries
    ∙ pieces-add_long c.self.inside.long.items c.long_entry-entry.result c.args.piece.now c.self.inside.entries.items c.self.invariant.entries_are is
    ∙ ap (λ ps. ps ++ c.args.piece.now ∷ []) c.self.view_is
