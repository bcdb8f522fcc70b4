-- For callers: the terms of a collection, one after the other.
use Rattle.std.proofs.Common.{arith, ◌≡◌, ◌<◌, ◌+◌, ℕ, List, [], ◌∷◌, ◌++◌, length, take, get_or, ap, ◌∙◌}
use Rattle.std.specs.List.{enumerate_from}
use Rattle.std.proofs.lemmas.List.{get_or-map, length-map, take_more}
use Rattle.std.proofs.lemmas.List.FromFn.{get_or-enumerate_from, length-enumerate_from}
use Rattle.mg_defs.specs.Lexicon.{info_of}
use Rattle.mg_defs.specs.Terms.{dictionary}
use Rattle.mg_lex.specs.Terms.{Term, terms_of}

pub terms_long : (collection : List ℕ) → length (terms_of collection) ≡ length (dictionary collection)
unfolding terms_of
terms_long collection = length-map (enumerate_from 0 (dictionary collection)) (λ (t : ℕ × List ℕ). record { string = t.1; info = info_of collection t.0 t.1 })
    ∙ length-enumerate_from 0 (dictionary collection)

term_at : (collection : List ℕ) (n : ℕ) (d : Term) → n < length (dictionary collection) →
    get_or (terms_of collection) n d ≡ record {
      string = get_or (dictionary collection) n [];
      info = info_of collection n (get_or (dictionary collection) n []);
    }
unfolding terms_of
term_at collection n d lt =
    let f : ℕ × List ℕ → Term = λ t. record { string = t.1; info = info_of collection t.0 t.1 } in
    let none : ℕ × List ℕ = (0, []) in
    let at : 0 + n ≡ n = omega arith in
    get_or-map f (enumerate_from 0 (dictionary collection)) n none d (omega (arith, lt, length-enumerate_from 0 (dictionary collection)))
    ∙ ap f (get_or-enumerate_from 0 (dictionary collection) n none lt)
    ∙ ap (λ k. f (k, get_or (dictionary collection) n [])) at

pub terms_more : (collection : List ℕ) (n : ℕ) → n < length (dictionary collection) →
    take (n + 1) (terms_of collection) ≡ take n (terms_of collection) ++ record { string = get_or (dictionary collection) n []; info = info_of collection n (get_or (dictionary collection) n []) } ∷ []
terms_more collection n lt =
    let none : Term = record { string = []; info = record { docs = 0; post_at = 0; skip_at = 0 } } in
    take_more (terms_of collection) n none (omega (arith, lt, terms_long collection)) ∙ ap (λ t. take n (terms_of collection) ++ t ∷ []) (term_at collection n none lt)
