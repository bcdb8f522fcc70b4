use Rattle.std.proofs.Common.{◌≡◌, ◌≢◌, ◌<◌, ℕ, List, [], ◌∷◌, length, Option, None, Some, refl, subst, sym, ap, ◌∙◌, arith, slice_get, get_or}
use Rattle.std.proofs.lemmas.Option.{slice_get-get_or}
use Rattle.mg_defs.specs.declared.Stream.{Stream}
use Rattle.mg_defs.specs.declared.Stream.TheVariants.{Words}
use Rattle.mg_defs.specs.Marks.{code_of, term_in}
use Rattle.mg_count.specs.Plans.{Plan}
use Rattle.mg_model.specs.Terms.{HasTerm, terms_and_numbers}
use Rattle.mg_make.proofs.second.term_of.Goals as goal

-- the term of a word is one of the terms
low : (terms : List (List ℕ)) (word : List ℕ) (term : ℕ) → (word ≢ [] → HasTerm terms word) → term_in terms [] ≡ None → term_in terms word ≡ Some term → term < length terms
low terms [] term has none is = absurd cc
low terms (b ∷ bytes) term has none is =
    let it = has (λ e. cc) in
    let same : Some it.number ≡ Some term = sym it.number_is ∙ is in
    let e : it.number ≡ term = cc in
    let within = it.within in
    omega arith

abbrev NumbersHold : Type 0
NumbersHold = (words : List (List ℕ)) (symbol : ℕ) (word : List ℕ) → slice_get words symbol ≡ Some word →
    slice_get (terms_and_numbers words).numbers symbol ≡ Some (term_in (terms_and_numbers words).terms word)

abbrev TermsHold : Type 0
TermsHold = (words : List (List ℕ)) (symbol : ℕ) (word : List ℕ) → slice_get words symbol ≡ Some word → word ≢ [] → HasTerm (terms_and_numbers words).terms word

known : NumbersHold → TermsHold → (p : Plan) (stream : Stream) (symbol : ℕ) (result : Option ℕ) → stream ≡ Words →
    p.terms ≡ terms_and_numbers p.code.words.pieces → symbol < length (code_of stream p.code).pieces → slice_get p.terms.numbers symbol ≡ Some result →
    (term : ℕ) → result ≡ Some term → term < length p.terms.terms
known numbers has p stream symbol result is_words made low_symbol there term is =
    let words : List (List ℕ) = p.code.words.pieces in
    let within : symbol < length words = subst (λ (k : Stream). symbol < length (code_of k p.code).pieces) is_words low_symbol in
    let word : List ℕ = get_or words symbol [] in
    let at = slice_get-get_or words symbol [] within in
    let one : Some result ≡ Some (term_in (terms_and_numbers words).terms word) = sym there ∙ ap (λ t. slice_get t.numbers symbol) made ∙ numbers words symbol word at in
    let same : term_in (terms_and_numbers words).terms word ≡ Some term = cc in
    let few = low (terms_and_numbers words).terms word term (has words symbol word at) refl same in
    let long = ap (λ t. length t.terms) made in
    omega (arith, few, long)

pub returns-in-Words-clause-known : goal.returns-in-Words-clause-known
returns-in-Words-clause-known c =
    known c.words_have_terms.ensures.number c.words_have_terms.ensures.symbol c.args.plan.now c.args.stream c.args.symbol c.term_of.result c.in-Words.is c.requires.plan.terms c.requires.symbol
    (sym (ap (λ (p : Plan). slice_get p.terms.numbers c.args.symbol) c.plan.view_is) ∙ c.term_of.ensures)
