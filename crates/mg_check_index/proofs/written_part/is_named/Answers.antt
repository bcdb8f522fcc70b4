use Rattle.std.proofs.Common.{◌≡◌, ◌++◌, ◌∷◌, [], ◌&&◌, ap, ◌∙◌, List, ℕ, Bool, true, false, refl, length, take, drop, rules, nat_eq}
use Rattle.std.specs.Str.{bytes_eq}
use Rattle.mg_dev.specs.Names.{full_name, ending}
use Rattle.mg_check_index.proofs.written_part.is_named.Goals as goal

and_assoc : (a b c : Bool) → (a && (b && c)) ≡ ((a && b) && c)
and_assoc true b c = refl
and_assoc false b c = refl

-- a text is compared piece by piece
by_pieces : (name base end : List ℕ) → bytes_eq name (base ++ end) ≡ (bytes_eq (take (length base) name) base && bytes_eq (drop (length base) name) end)
by_pieces name [] end = refl
by_pieces [] (b ∷ base) end = refl
by_pieces (n ∷ name) (b ∷ base) end =
    ap (λ r. nat_eq n b && r) (by_pieces name base end) ∙ and_assoc (nat_eq n b) (bytes_eq (take (length base) name) base) (bytes_eq (drop (length base) name) end)

pub returns-in-Some : goal.returns-in-Some
unfolding full_name
returns-in-Some c =
    let pieces = by_pieces c.args.name.now c.args.file.now.base.now (ending c.args.file.now.part) in
    search (rules, pieces)

pub returns-in-None : goal.returns-in-None
unfolding full_name
returns-in-None c =
    let pieces = by_pieces c.args.name.now c.args.file.now.base.now (ending c.args.file.now.part) in
    search (rules, pieces)
