-- A word more of a line that is read by its words alone.
use Rattle.std.proofs.Common.{◌≡◌, ℕ, List, [], ◌∷◌, IfSome, ap, sym, ◌∙◌, refl}
use Rattle.std.proofs.lemmas.Option.{IfSome_then}
use Rattle.mg_defs.specs.Phrases.{phrase_of, phrase_from}
use Rattle.mg_defs.specs.Read.{ranked, ranked_from}
use Rattle.mg_defs.specs.Refusals.{Refusal, Reading, reads, refused}
use Rattle.mg_defs.specs.Tokens.{Token, word, PlacedToken, placed, tokens}
use Rattle.mg_defs.proofs.RankedLaws.{refused-stays}
use Rattle.mg_query.specs.RefusalOf.{refusal_of}
use Rattle.mg_query.specs.TokenOf.{sign_token}
use Rattle.mg_query.specs.Words.{terms_of, with_word}
use Rattle.mg_query.specs.declared.lexer.Sign.{Sign}
use Rattle.mg_query.specs.declared.lexer.Sign.TheVariants as sign
use Rattle.mg_query.specs.declared.query_err.QueryErr.{QueryErr}
use Rattle.mg_query.specs.declared.words.Repeats.{Repeats}
use Rattle.mg_query.specs.declared.words.Repeats.TheVariants.{Dropped, Kept}

-- what is read from so many tokens more
abbrev pub words_from : Repeats → Reading (List (List ℕ)) → List PlacedToken → Reading (List (List ℕ))
words_from Dropped so_far ts = ranked_from so_far ts
words_from Kept so_far ts = phrase_from so_far ts

phrase_stays : (why : Refusal) (ts : List PlacedToken) → phrase_from (refused why) ts ≡ refused why
phrase_stays why [] = refl
phrase_stays why (t ∷ ts) = phrase_stays why ts

refused_stays : (r : Repeats) (why : Refusal) (ts : List PlacedToken) → words_from r (refused why) ts ≡ refused why
refused_stays Dropped why ts = refused-stays why ts
refused_stays Kept why ts = phrase_stays why ts

pub words_start : (r : Repeats) (line : List ℕ) (terms : List (List ℕ)) (ts : List PlacedToken) → terms ≡ [] → ts ≡ tokens line →
    terms_of r line ≡ words_from r (reads terms) ts
unfolding ranked phrase_of
words_start Dropped line terms ts none all = ap (ranked_from (reads [])) (sym all) ∙ ap (λ (xs : List (List ℕ)). ranked_from (reads xs) ts) (sym none)
words_start Kept line terms ts none all = ap (phrase_from (reads [])) (sym all) ∙ ap (λ (xs : List (List ℕ)). phrase_from (reads xs) ts) (sym none)

-- a sign only separates
past_sign : (r : Repeats) (s : Sign) (at : ℕ) (terms : List (List ℕ)) (after : List PlacedToken) →
    words_from r (reads terms) (placed at (sign_token s) ∷ after) ≡ words_from r (reads terms) after
past_sign Dropped sign.Bar at terms after = refl
past_sign Dropped sign.Amp at terms after = refl
past_sign Dropped sign.Bang at terms after = refl
past_sign Dropped sign.Opening at terms after = refl
past_sign Dropped sign.Closing at terms after = refl
past_sign Kept sign.Bar at terms after = refl
past_sign Kept sign.Amp at terms after = refl
past_sign Kept sign.Bang at terms after = refl
past_sign Kept sign.Opening at terms after = refl
past_sign Kept sign.Closing at terms after = refl

to_word : (r : Repeats) (at : ℕ) (w : List ℕ) (terms : List (List ℕ)) (after : List PlacedToken) →
    words_from r (reads terms) (placed at (word w) ∷ after) ≡ words_from r (with_word r terms at w) after
to_word Dropped at w terms after = refl
to_word Kept at w terms after = refl

-- What is to be read of a line, where the first token is known.
module _ (r : Repeats) (line : List ℕ) (terms : List (List ℕ)) (t : PlacedToken) (before after : List PlacedToken)
    (so_far : terms_of r line ≡ words_from r (reads terms) before) (first : before ≡ t ∷ after) where
  known : (k : Token) → t.token ≡ k → terms_of r line ≡ words_from r (reads terms) (placed t.at k ∷ after)
  known k is = so_far ∙ ap (words_from r (reads terms)) (first ∙ ap (λ (u : Token). placed t.at u ∷ after) is)

  pub words_pass : (s : Sign) → t.token ≡ sign_token s → terms_of r line ≡ words_from r (reads terms) after
  words_pass s is = known (sign_token s) is ∙ past_sign r s t.at terms after

  pub words_go : (w : List ℕ) (more : List (List ℕ)) → t.token ≡ word w → with_word r terms t.at w ≡ reads more → terms_of r line ≡ words_from r (reads more) after
  words_go w more is h = known (word w) is ∙ (to_word r t.at w terms after ∙ ap (λ x. words_from r x after) h)

  pub words_stop : (w : List ℕ) (e : QueryErr) → t.token ≡ word w → IfSome (refusal_of e) (λ why. with_word r terms t.at w ≡ refused why) →
      IfSome (refusal_of e) (λ why. terms_of r line ≡ refused why)
  words_stop w e is h = IfSome_then (refusal_of e) h (λ why stop.
      known (word w) is ∙ (to_word r t.at w terms after ∙ (ap (λ x. words_from r x after) stop ∙ refused_stays r why after)))
