-- What the calls of this crate never answer of a Boolean line.
use Rattle.std.proofs.Common.{◌≡◌, ℕ, List, Result, Err, IfErr, IfSome}
use Rattle.std.proofs.lemmas.Result.{IfErr-at_err}
use Rattle.mg_defs.specs.Read.{boolean}
use Rattle.mg_defs.specs.Refusals.{too_many, refused}
use Rattle.mg_defs.specs.BooleanLines.{IsRefusal, at_a_token, at_the_end}
use Rattle.mg_defs.proofs.BooleanLaws.{refused-refusal}
use Rattle.mg_query.specs.RefusalOf.{refusal_of}
use Rattle.mg_query.specs.declared.query_err.QueryErr.{QueryErr}
use Rattle.mg_query.specs.declared.query_err.QueryErr.TheVariants.{TooManyTerms}

many-not-refused : (line : List ℕ) (at : ℕ) → IsRefusal line (too_many at) → ⊥
many-not-refused line at (at_a_token first) = first.refused
many-not-refused line at (at_the_end none nothing is) = cc

pub never-many : {A : Type 0} (r : Result A QueryErr) (line : List ℕ) → IfErr r (λ e. IfSome (refusal_of e) (λ why. boolean line ≡ refused why)) → (at : ℕ) → r ≡ Err (TooManyTerms at) → ⊥
never-many r line h at e = many-not-refused line at (refused-refusal line (too_many at) (IfErr-at_err (λ e. IfSome (refusal_of e) (λ why. boolean line ≡ refused why)) e h))
