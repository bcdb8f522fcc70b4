-- Postings that are taken into a list, and why they are not.
use Rattle.std.proofs.Common.{arith, ◌≡◌, ◌≤◌, ◌++◌, ℕ, List, [], ◌∷◌, length, take, drop, Vec, Global, Option}
use Rattle.std.specs.Prelude.{Result, Err}
use Rattle.mg_dev.specs.Causes.{Rose}
use Rattle.mg_dev.specs.Faults.{ReadStops}
use Rattle.mg_dev.specs.Files.{Files, Reads}
use Rattle.mg_dev.specs.declared.fault.Fault.{Fault}
use Rattle.mg_defs.specs.declared.Posting.{Posting}
use Rattle.mg_post.specs.Writing.{Listing, SameFiles}
use Rattle.mg_runs.specs.Left.{Merging}
use Rattle.mg_index.specs.ListEnds.{TakeStep}
use Rattle.mg_index.specs.Listing.{HasRest, OfPostings}
use Rattle.mg_index.specs.Steps.{MergeStep}

-- a refusal that is passed on, where not all were taken
pub take_err : {T : Type 0} {count number : ℕ} {merge merge_now : Merging} {lists lists_now : Listing} {sums sums_now : Vec ℕ Global} {f g : Option Files} {q r : Reads} {m n : ℕ}
    (result : Result T Fault) (e : Fault) → (y : Fault) × (result ≡ Err y) × (y ≡ e) → ReadStops (Rose m n) (HasRest number count merge lists sums.items f) e → SameFiles lists lists_now →
    MergeStep OfPostings merge.base merge merge_now f g q r m n → TakeStep count number merge merge_now lists lists_now sums sums_now result f g q r m n
take_err result e p stops files step = rw (p.1, p.2) (record {
  can = tt;
  told = λ told done ps left later enough is. tt;
  pushed = tt;
  files = files;
  step = step;
  refused = stops;
})

-- the first one of those that are left
pub one_taken : (P Q : List Posting → List Posting → Type 0) (ps left : List Posting) → 1 ≤ length left →
    ((p : Posting) (rest : List Posting) → P ps (p ∷ rest) → Q (ps ++ p ∷ []) rest) → P ps left → Q (ps ++ take 1 left) (drop 1 left)
one_taken P Q ps [] enough step h = absurd (omega (arith, enough))
one_taken P Q ps (p ∷ rest) enough step h = step p rest h
