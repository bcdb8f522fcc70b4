-- Places of the lexicon that are looked at, one call after another.
use Rattle.std.proofs.Common.{arith, ◌≡◌, ◌+◌, ◌*◌, ◌≤◌, ℕ, List, [], ◌∷◌, ◌++◌, length, append-nil, length-append, sym, ◌∙◌, ap, subst}
use Rattle.std.specs.Prelude.{flat_map}
use Rattle.std.proofs.Math.Nat.{add-mul}
use Rattle.std.proofs.lemmas.Grind.{flat_map-append}
use Rattle.std.proofs.lemmas.Nat.{mul-le}
use Rattle.mg_dev.specs.Files.{Reads}
use Rattle.mg_dev.specs.declared.part.Part.TheVariants as part
use Rattle.mg_session.specs.Parts.{ReadsLexicon}

pub looks_none : (r : Reads) (n : ℕ) → ReadsLexicon r r n
looks_none r n = record { places_read = omega arith; strings_read = omega arith }

pub looks_most : {r s : Reads} {m n : ℕ} → m ≤ n → ReadsLexicon r s m →
    ReadsLexicon r s n
looks_most le one = record {
  places_read = omega (arith, one.places_read, le);
  strings_read = omega (arith, one.strings_read, le);
}

pub looks_then : {r s t : Reads} {m n k : ℕ} → k ≡ m + n → ReadsLexicon r s m →
    ReadsLexicon s t n → ReadsLexicon r t k
looks_then is one more = record {
  places_read = omega (arith, one.places_read, more.places_read, is);
  strings_read = omega (arith, one.strings_read, more.strings_read, is);
}

-- before a call that does not read it, or behind one
pub looks_kept : {r s t : Reads} {n : ℕ} → ReadsLexicon r s n → t part.Lex ≡ s part.Lex →
    t part.LexAt ≡ s part.LexAt → ReadsLexicon r t n
looks_kept one lex lex_at = record {
  places_read = omega (arith, one.places_read, lex_at);
  strings_read = omega (arith, one.strings_read, lex);
}

pub looks_behind : {r s t : Reads} {n : ℕ} → s part.Lex ≡ r part.Lex → s part.LexAt ≡ r part.LexAt →
    ReadsLexicon s t n → ReadsLexicon r t n
looks_behind lex lex_at one = record {
  places_read = omega (arith, one.places_read, lex_at);
  strings_read = omega (arith, one.strings_read, lex);
}

-- ---- as many for each term

-- of one term more
pub one_more : (i x y : ℕ) → y ≡ x → (i + 1) * x ≡ i * x + y
one_more i x y same = omega (arith, add-mul i 1 x, same)

-- of some of the terms no more than of all
pub some_terms : (i n x : ℕ) → i ≤ n → i * x ≤ n * x
some_terms i n x le = mul-le i x n x le (omega arith)

-- of the same terms
pub looks_for : {r s : Reads} {ts us : List (List ℕ)} (x : ℕ) → ts ≡ us →
    ReadsLexicon r s (length ts * x) → ReadsLexicon r s (length us * x)
looks_for {r} {s} x same one = subst (λ ts. ReadsLexicon r s (length ts * x)) same one

module _ {A : Type 0} (f : A → List (List ℕ)) where
  -- the terms of one question
  pub terms_one : (q : A) → length (flat_map f (q ∷ [])) ≡ length (f q)
  terms_one q = ap length (append-nil (f q))

  -- those of some, and of those behind them
  terms_both : (xs ys : List A) (x : ℕ) →
      length (flat_map f (xs ++ ys)) * x ≡ length (flat_map f xs) * x + length (flat_map f ys) * x
  terms_both xs ys x =
      ap (λ n. n * x) (ap length (flat_map-append f xs ys) ∙ length-append (flat_map f xs) (flat_map f ys))
      ∙ add-mul (length (flat_map f xs)) (length (flat_map f ys)) x

  pub looks_more : (xs ys : List A) (x y : ℕ) {r s t : Reads} → y ≡ x →
      ReadsLexicon r s (length (flat_map f xs) * x) →
      ReadsLexicon s t (length (flat_map f ys) * y) →
      ReadsLexicon r t (length (flat_map f (xs ++ ys)) * x)
  looks_more xs ys x y {s = s} {t = t} same one more = looks_then (terms_both xs ys x) one
      (subst (λ n. ReadsLexicon s t (length (flat_map f ys) * n)) same more)

  -- the first of some
  pub looks_first : (whole xs ys : List A) (x y : ℕ) {r s : Reads} → whole ≡ xs ++ ys → y ≡ x →
      ReadsLexicon r s (length (flat_map f xs) * x) →
      ReadsLexicon r s (length (flat_map f whole) * y)
  looks_first whole xs ys x y {r} {s} is same one =
      subst (λ n. ReadsLexicon r s (length (flat_map f whole) * n)) (sym same)
      (looks_most (omega (arith, terms_both xs ys x, ap (λ qs. length (flat_map f qs) * x) is)) one)
