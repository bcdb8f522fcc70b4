use Rattle.std.proofs.Common.{arith, ◌≡◌, ℕ, ◌+◌, ◌-◌, ◌≤◌, List, ◌++◌, length, take, drop, ap, sym, ◌∙◌, Some, length-drop, length-take}
use Rattle.std.proofs.Math.Seq.{take-append_seam}
use Rattle.std.proofs.lemmas.List.{take-append-drop, drop-drop, nil_from_length}
use Rattle.std.proofs.lemmas.Grind.{common_steps}
use Rattle.mg_dev.specs.Streams.{prepended}
use Rattle.mg_mem.proofs.sure_source.SureSourceSource.read.Goals as goal

-- what was copied stands before what is left
split : (at n : ℕ) (bs got tail : List ℕ) → n ≤ length bs - at → got ≡ take n (drop at bs) → drop at bs ≡ take n (got ++ tail) ++ drop (at + n) bs
split at n bs got tail within is =
    sym (take-append-drop n (drop at bs))
    ∙ ap (λ r. r ++ drop n (drop at bs)) (sym (ap (λ g. take n (g ++ tail)) is ∙ front))
    ∙ ap (λ r. take n (got ++ tail) ++ r) (drop-drop n at bs)
  where
    long : length (take n (drop at bs)) ≡ n
    long = simp (length-take, length-drop) (omega arith)

    front : take n (take n (drop at bs) ++ tail) ≡ take n (drop at bs)
    front = ap (λ k. take k (take n (drop at bs) ++ tail)) (sym long) ∙ take-append_seam (take n (drop at bs)) tail

pub returns-clause-bytes : goal.returns-clause-bytes
unfolding prepended
returns-clause-bytes c =
    let s = c.args.self.now in
    let long : length c.rest-rest.result.now ≡ length s.bytes.items - s.at = ap length c.rest-rest.ensures ∙ length-drop s.at s.bytes.items in
    let within : c.min-count.result ≤ length s.bytes.items - s.at = grind (arith, common_steps) in (
      ap Some (split s.at c.min-count.result s.bytes.items c.copy_from_slice.new.self _ within (grind (arith, common_steps))),
      λ none room told. ap Some (nil_from_length (drop s.at s.bytes.items) (grind (arith, common_steps))),
    )
