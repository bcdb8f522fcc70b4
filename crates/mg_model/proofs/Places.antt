-- Where a key stands among distinct ones.
use Rattle.std.proofs.Common.{◌≡◌, ℕ, zero, suc, ◌+◌, true, false, not, cond, List, [], ◌∷◌, length, ltb, position, slice_get, Some, None, sym, ap, ◌∙◌, arith}
use Rattle.std.specs.List.{IsDistinct, position_or_len}
use Rattle.std.specs.Map.{keys_of}
use Rattle.std.proofs.lemmas.Bool.{lt-ltb}
use Rattle.std.proofs.lemmas.Cmp.{nat_list_eq_equiv}
use Rattle.std.proofs.lemmas.Map.Keys.{IsDistinct-head, IsDistinct-tail}
use Rattle.mg_model.specs.declared.piece_key.PieceKey.{PieceKey}
use Rattle.mg_model.proofs.Collections.{there-within}
use Rattle.mg_model.proofs.Counting.{same_key}
use Rattle.mg_model.proofs.Lists.{all-there}

-- the key that stands at a place of distinct ones stands at none before it
first-at : (key : PieceKey) (ks : List PieceKey) (i : ℕ) (there : PieceKey) → IsDistinct same_key ks → slice_get ks i ≡ Some there → same_key there key ≡ true →
    position_or_len (same_key key) ks ≡ i
first-at key [] i there apart at same = absurd cc
first-at key (k ∷ ks) zero there apart at same =
    let is : k ≡ there = cc in
    let found : same_key key k ≡ true = nat_list_eq_equiv.symm key.entry k.entry ∙ ap (λ (x : PieceKey). same_key x key) is ∙ same in
    ap (λ b. cond (not b) (1 + position_or_len (same_key key) ks) 0) found
first-at key (k ∷ ks) (suc i) there apart at same =
    let other : same_key k there ≡ false = all-there (λ x. same_key k x ≡ false) ks i there (IsDistinct-head same_key k ks apart) at in
    let isnt : same_key key k ≡ false = sym (nat_list_eq_equiv.congr there.entry key.entry k.entry same) ∙ nat_list_eq_equiv.symm there.entry k.entry ∙ other in
    ap (λ b. cond (not b) (1 + position_or_len (same_key key) ks) 0) isnt ∙ omega (arith, first-at key ks i there (IsDistinct-tail same_key k ks apart) at same)

key-there : (es : List (PieceKey × ℕ)) (i : ℕ) (key : PieceKey) (count : ℕ) → slice_get es i ≡ Some (key, count) → slice_get (keys_of es) i ≡ Some key
key-there [] i key count h = absurd cc
key-there (e ∷ es) zero key count h = let same : e ≡ (key, count) = cc in ap (λ (x : PieceKey × ℕ). Some x.0) same
key-there (e ∷ es) (suc i) key count h = key-there es i key count h

pub position-at : (key there : PieceKey) (es : List (PieceKey × ℕ)) (i count : ℕ) → IsDistinct same_key (keys_of es) → slice_get es i ≡ Some (there, count) → same_key there key ≡ true →
    position (same_key key) (keys_of es) ≡ Some i
position-at key there es i count apart at same =
    let at_key = key-there es i there count at in
    let first = first-at key (keys_of es) i there apart at_key same in
    ap (λ n. cond (ltb n (length (keys_of es))) (Some n) None) first ∙ ap (λ b. cond b (Some i) None) (lt-ltb i (length (keys_of es)) (there-within (keys_of es) i there at_key))
