-- The sizes of six parts, compared one behind the other.
use Rattle.std.proofs.Common.{arith, ◌≡◌, ◌<◌, ◌+◌, ℕ, zero, suc, List, get_or, length, sym, subst, Err, Option}
use borrow.Author.Count.{below_more}
use Rattle.mg_dev.specs.Files.{Files, part_bytes}
use Rattle.mg_dev.specs.declared.part.Part.{Part}
use Rattle.mg_dev.specs.declared.part.Part.TheVariants as part
use Rattle.mg_dev.specs.declared.part_err.PartErr.{PartErr}
use Rattle.mg_dev.specs.declared.part_err.PartErr.TheVariants.{Bad, Device, Memory}
use Rattle.mg_defs.specs.Heads.{Head}
use Rattle.mg_layout.specs.Sizes.{AnswersSize}
use Rattle.mg_migrate.specs.Sizes.{AnswersSizesOf, HasSizesOf, sizes_of}

-- a part of a base has this size
abbrev pub HasSize : Option Files → List ℕ → Part × ℕ → Type 0
HasSize files base entry = length (part_bytes base entry.0 files) ≡ entry.1

-- one of the six parts with its size, by an index
abbrev pub size_at : Head → ℕ → Part × ℕ
size_at head k = get_or (sizes_of head) k (part.Head, 0)

each_sized : (head : Head) (files : Option Files) (base : List ℕ) → HasSizesOf head files base → (k : ℕ) → k < 6 → HasSize files base (size_at head k)
each_sized head files base sizes zero h = sizes.text
each_sized head files base sizes (suc zero) h = sizes.places
each_sized head files base sizes (suc (suc zero)) h = sizes.lex_at
each_sized head files base sizes (suc (suc (suc zero))) h = sizes.post
each_sized head files base sizes (suc (suc (suc (suc zero)))) h = sizes.skip
each_sized head files base sizes (suc (suc (suc (suc (suc zero))))) h = sizes.weights
each_sized head files base sizes (suc (suc (suc (suc (suc (suc k)))))) h = absurd (omega (arith, h))

-- a part of another size
pub size_differs : (refusal : PartErr) (head : Head) (files : Option Files) (base : List ℕ) (index : ℕ) (entry : Part × ℕ) → index < 6 → entry ≡ size_at head index →
    AnswersSize entry.0 entry.1 (part_bytes base entry.0 files) (Err refusal) → AnswersSizesOf head files base (Err refusal)
size_differs Device head files base index entry within same answer = tt
size_differs Memory head files base index entry within same answer = answer
size_differs (Bad bad) head files base index entry within same answer = λ sizes. answer.0 (subst (HasSize files base) (sym same) (each_sized head files base sizes index within))

-- a part more has its size
pub size_more : (head : Head) (files : Option Files) (base : List ℕ) (index : ℕ) (entry : Part × ℕ) → entry ≡ size_at head index → HasSize files base entry →
    ((k : ℕ) → k < index → HasSize files base (size_at head k)) → (k : ℕ) → k < index + 1 → HasSize files base (size_at head k)
size_more head files base index entry same here below = below_more (λ k. HasSize files base (size_at head k)) index below (subst (HasSize files base) same here)
