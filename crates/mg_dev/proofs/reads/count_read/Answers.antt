use Rattle.std.proofs.Common.{arith, ◌≡◌, ◌∙◌, sym, ℕ, ◌+◌, ◌-◌, ◌^◌, ◌<◌, min, max, length, Bool, true, false, cond, refl, List, set, get_or}
use Rattle.std.proofs.lemmas.List.{get_or-set_same, get_or-set_other}
use Rattle.std.proofs.lemmas.Bool.{eqb-true, eq-eqb}
use Rattle.mg_dev.specs.declared.part.Part.{Part}
use Rattle.mg_dev.specs.Names.{number, same_part}
use Rattle.mg_dev.specs.Files.{with_read}
use Rattle.mg_dev.proofs.reads.count_read.Goals as goal

-- a count at the part's number is the part's count
counted : (l : List ℕ) (k : ℕ) (v : ℕ) (p : Part) → number p < length l → k ≡ number p → v ≡ min (get_or l k 0 + 1) (2 ^ 64 - 1) →
    ((j : ℕ) → get_or l j 0 < 2 ^ 64) → (q : Part) → get_or (set l k v) (number q) 0 ≡ with_read (λ r. get_or l (number r) 0) p q
unfolding with_read
counted l k v p within at is small q = by_test (same_part q p) refl
  where
    by_test : (b : Bool) → same_part q p ≡ b → get_or (set l k v) (number q) 0 ≡ cond b (max (get_or l (number q) 0) (min (get_or l (number q) 0 + 1) (2 ^ 64 - 1))) (get_or l (number q) 0)
    by_test true e =
        let same : number q ≡ k = eqb-true (number q) (number p) e ∙ sym at in
        rw same (get_or-set_same l k v 0 (rw at within) ∙ is ∙ omega (arith, small k))
    by_test false e = get_or-set_other l k (number q) v 0 (λ same. let t = sym e ∙ eq-eqb (number q) (number p) (same ∙ at) in cc)

pub returns : goal.returns
returns c = λ q. counted c.args.reads.now c.number-i.result c.saturating_add.result c.args.part (omega arith) c.number-i.ensures.value c.saturating_add.ensures c.fits-reads q
