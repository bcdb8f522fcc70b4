use Rattle.std.proofs.Common.{arith, ap, ◌≡◌, ◌-◌, ◌∷◌, ◌++◌, ◌∙◌, ℕ, List, length, take, drop, length-drop}
use Rattle.std.proofs.lemmas.List.{take_all}
use Rattle.mg_front.specs.Entries.{cut_bytes}
use Rattle.mg_front.proofs.WriterLaws.{puts_as, puts_then}
use Rattle.mg_front.proofs.put.put_cut.Goals as goal

cut_is : (from : ℕ) (string field : List ℕ) →
    from ∷ length (take (length string - from) (drop from string)) ∷ (take (length string - from) (drop from string) ++ field) ≡ cut_bytes from string field
cut_is from string field =
    ap (λ t. from ∷ length t ∷ (t ++ field)) (take_all (length string - from) (drop from string) (omega (arith, length-drop from string)))
    ∙ ap (λ n. from ∷ n ∷ (drop from string ++ field)) (length-drop from string)

pub returns-in-Err : goal.returns-in-Err
returns-in-Err g c =
    let e = c.in-Err.ensures in
    record { bytes = tt; wrote = e.wrote; cause = e.cause }

pub returns : goal.returns
returns g c =
    let a = c.in-Ok.ensures in
    puts_as (cut_is c.args.from c.args.string.now c.args.field.now) (puts_then _ (record { bytes = a.bytes; wrote = a.wrote; cause = a.cause }) c.put_whole.ensures)
