-- How often the weights of documents are read.
use Rattle.std.specs.Prelude.{ℕ, ◌+◌, ◌-◌, ◌*◌, ◌≤◌, nat_lt, if◌then◌else◌, List, [], ◌∷◌, Option, Some, None}
use Rattle.mg_dev.specs.Files.{Reads}
use Rattle.mg_dev.specs.declared.part.Part.TheVariants as part
use Rattle.mg_defs.specs.PagesOf.{page_at, pages}

-- the page of Weights on which the weight of a document lies
abbrev pub weight_page : ℕ → ℕ
weight_page document = page_at (32 * (document - 1))

-- the pages on which the weights of so many documents lie
abbrev pub weight_pages : ℕ → ℕ
weight_pages all = pages 0 (32 * all)

-- 1 where a document begins an ascent: it is the first one, or not behind the one before
abbrev pub begins : Option ℕ → ℕ → ℕ
begins None document = 1
begins (Some before) document = if nat_lt before document then 0 else 1

-- in how many ascents the documents of these sums stand, behind the document before them; within one they rise
abbrev pub ascents_from : Option ℕ → List (ℕ × ℕ) → ℕ
ascents_from before [] = 0
ascents_from before (e ∷ es) = begins before e.0 + ascents_from (Some e.0) es

abbrev pub ascents_in : List (ℕ × ℕ) → ℕ
ascents_in sums = ascents_from None sums

-- the last document of these sums, or the one before them
abbrev pub last_from : Option ℕ → List (ℕ × ℕ) → Option ℕ
last_from before [] = before
last_from before (e ∷ es) = last_from (Some e.0) es

-- no more pages of Weights are read than so many
abbrev pub WeightsWithin : {X : Type 0} → (X → Reads) → X → X → ℕ → Type 0
WeightsWithin reads before now pages = reads now part.Weights ≤ reads before part.Weights + pages
