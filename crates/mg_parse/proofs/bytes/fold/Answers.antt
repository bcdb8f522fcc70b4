use Rattle.std.proofs.Common.{◌≡◌, ℕ, List, ◌++◌, ◌+◌, ◌<◌, length, take, drop, set, get_or, arith, sym, ◌∙◌, append_assoc, length-take-le}
use Rattle.std.proofs.lemmas.List.{drop_more, map_more, set_at}
use Rattle.std.proofs.lemmas.List.{length-map}
use Rattle.mg_defs.specs.Terms.{folded, fold_byte}
use Rattle.mg_parse.proofs.bytes.fold.Goals as goal

-- the next byte written
fold_step : (word out : List ℕ) (i b : ℕ) → i < length word → i < length out → b ≡ fold_byte (get_or word i 0) →
    set (folded (take i word) ++ drop i out) i b ≡ folded (take (i + 1) word) ++ drop (i + 1) out
fold_step word out i b h k is =
    let front = folded (take i word) in
    let long : length front ≡ i = length-map (take i word) fold_byte ∙ length-take-le i word (omega arith) in
    rw (drop_more out i 0 k, set_at front (get_or out i 0) (drop (i + 1) out) b i long, map_more fold_byte word i 0 h, is) (sym (append_assoc front _ _))

pub loop-i-preserved : goal.loop-i-preserved
loop-i-preserved c = rw (c.loop-i.invariant) (fold_step _ _ _ _ c.loop-i-test.true (omega (arith, c.requires)) c.to_ascii_lowercase.ensures.value)
