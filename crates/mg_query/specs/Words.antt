-- Lines that are read by their words alone: a ranked line drops repeats, a phrase keeps them.
use Rattle.std.specs.Prelude.{◌≡◌, ◌≢◌, ℕ, List, Result, Err, IfErr, IfSome, OnOk}
use Rattle.mg_defs.specs.Phrases.{phrase_of, phrase_with}
use Rattle.mg_defs.specs.Read.{ranked, ranked_with}
use Rattle.mg_defs.specs.Refusals.{Reading, reads, refused}
use Rattle.mg_query.specs.RefusalOf.{refusal_of}
use Rattle.mg_query.specs.declared.query_err.QueryErr.{QueryErr}
use Rattle.mg_query.specs.declared.query_err.QueryErr.TheVariants.{Syntax, TooDeep}
use Rattle.mg_query.specs.declared.words.Repeats.{Repeats}
use Rattle.mg_query.specs.declared.words.Repeats.TheVariants.{Dropped, Kept}

-- the terms of a line
abbrev pub terms_of : Repeats → List ℕ → Reading (List (List ℕ))
terms_of Dropped line = ranked line
terms_of Kept line = phrase_of line

-- terms with the one of a word at a place
abbrev pub with_word : Repeats → List (List ℕ) → ℕ → List ℕ → Reading (List (List ℕ))
with_word Dropped terms at w = ranked_with terms at w
with_word Kept terms at w = phrase_with terms at w

-- These terms are what was read, or the error is its refusal; or memory lacked.
pub record ReadsWords {T : Type 0} (reading : Reading (List (List ℕ))) (terms : List (List ℕ)) (result : Result T QueryErr) : Type 0
  where
    pub reads : OnOk result (reading ≡ reads terms)
    pub refused : IfErr result (λ e. IfSome (refusal_of e) (λ why. reading ≡ refused why))
    -- signs are never wrong
    pub never_syntax : (at : ℕ) → result ≢ Err (Syntax at)
    pub never_deep : (at : ℕ) → result ≢ Err (TooDeep at)
