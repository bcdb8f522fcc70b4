-- In a collection marks follow one another in order: a start where no document is open, words and others in turn, and an end behind an other.
use Rattle.std.proofs.Common.{◌≡◌, ◌≤◌, ◌<◌, ◌+◌, ◌*◌, ◌/◌, ◌%◌, ◌-◌, ◌==◌, ◌^◌, ◌++◌, ℕ, suc, Bool, true, false, if◌then◌else◌, List, [], ◌∷◌, refl, sym, ap, ◌∙◌, subst, length, length-append, arith, get_or, append_assoc, append-nil}
use Rattle.std.specs.Prelude.{Contains, None, Some, position}
use Rattle.std.specs.List.{flat_map, list_any}
use Rattle.std.specs.Str.{bytes_eq}
use Rattle.std.proofs.lemmas.Bool.Decides.{nat_tests}
use Rattle.std.proofs.lemmas.List.{length-map}
use Rattle.std.proofs.lemmas.List.Elements.{Contains-append_right}
use Rattle.std.specs.declared.option.Option.{Option}
use Rattle.mg_defs.specs.Heads.{as_number}
use Rattle.mg_defs.specs.declared.Stream.{Stream}
use Rattle.mg_defs.specs.declared.Stream.TheVariants.{Words, Others}
use Rattle.mg_defs.specs.Marks.{Mark, start, piece, stop, marks, marks_of_document, marks_of_pairs, pieces_among, starts, pairs_from, piece_count_from, pair_counts, open_at, is_open_after, with_doc, terms_from}
use Rattle.mg_defs.specs.Parse.{Pair, parse}
use Rattle.mg_defs.specs.Sorted.{number_of}
use Rattle.mg_defs.specs.Split.{documents}
use Rattle.mg_defs.specs.Terms.{dictionary}
use Rattle.mg_defs.specs.Vocabulary.{all_pieces, sorted_pieces}
use Rattle.mg_defs.proofs.SortedLaws.{contains-from, has-from, has-sorted, number-found, same-refl}
use Rattle.mg_laws.proofs.MarkLaws.{marks_have_documents, marks_have_occurrences, marks_have_pairs, marks_have_pieces, pairs_append, pieces_append, starts_append, terms_append}
use Rattle.mg_laws.proofs.SizeLaws.{few_occurrences}
use Rattle.mg_text_writer.specs.Writing.{turn}
use Rattle.mg_make.specs.Fronts.{IsFrontOf}
use Rattle.mg_make.specs.Second.{term_at}

-- these marks may follow, where a document is open or not and so many of its pieces came
abbrev pub Follow : Bool → ℕ → List Mark → Type 0
Follow now n [] = now ≡ false
Follow now n (start ∷ rest) = (now ≡ false) × Follow true 0 rest
Follow now n (piece kind bytes ∷ rest) = (now ≡ true) × (kind ≡ turn n) × Follow now (n + 1) rest
Follow now n (stop ∷ rest) = (now ≡ true) × (n % 2 ≡ 0) × Follow false 0 rest

follow_behind : (now : Bool) (n : ℕ) (a b : List Mark) → Follow now n (a ++ b) → Follow (open_at now a) (piece_count_from n a) b
follow_behind now n [] b h = h
follow_behind now n (start ∷ a) b h = follow_behind true 0 a b h.1
follow_behind now n (piece kind x ∷ a) b h = follow_behind now (n + 1) a b h.2
follow_behind now n (stop ∷ a) b h = follow_behind false 0 a b h.2

-- each document that was begun has ended, but the open one
ended : (now : Bool) (n : ℕ) (a b : List Mark) → Follow now n (a ++ b) → length (pairs_from n a) + as_number (open_at now a) ≡ starts a + as_number now
ended now n [] b h = refl
ended now n (start ∷ a) b h =
    let rest = ended true 0 a b h.1 in
    let closed : as_number now ≡ 0 = ap as_number h.0 in
    omega arith
ended now n (piece kind x ∷ a) b h = ended now (n + 1) a b h.2
ended now n (stop ∷ a) b h =
    let rest = ended false 0 a b h.2 in
    let was_open : as_number now ≡ 1 = ap as_number h.0 in
    omega arith

-- the pieces so far are no more than those of the open document's pairs
enough : (now : Bool) (n : ℕ) (rest : List Mark) → now ≡ true → Follow now n rest → n ≤ 2 * get_or (pairs_from n rest) 0 0
enough now n [] is h = absurd cc
enough now n (start ∷ rest) is h = absurd (let no : now ≡ false = h.0 in cc)
enough now n (piece kind x ∷ rest) is h = let more = enough now (n + 1) rest is h.2 in omega arith
enough now n (stop ∷ rest) is h = let even : n % 2 ≡ 0 = h.1 in omega arith

turn_even : (n : ℕ) → n % 2 ≡ 0 → Words ≡ turn n
turn_even n e = sym (ap (λ k. if k == 0 then Words else Others) e)

turn_odd : (n : ℕ) → n % 2 ≡ 1 → Others ≡ turn n
turn_odd n e = sym (ap (λ k. if k == 0 then Words else Others) e)

of_pairs : (n : ℕ) (ps : List Pair) (rest : List Mark) → n % 2 ≡ 0 → Follow false 0 rest → Follow true n ((marks_of_pairs ps ++ stop ∷ []) ++ rest)
of_pairs n [] rest even h = (refl, even, h)
of_pairs n (p ∷ ps) rest even h =
    let odd : (n + 1) % 2 ≡ 1 = omega arith in
    let again : (n + 1 + 1) % 2 ≡ 0 = omega arith in
    (refl, turn_even n even, (refl, turn_odd (n + 1) odd, of_pairs (n + 1 + 1) ps rest again h))

of_documents : (docs : List (List ℕ)) → Follow false 0 (flat_map marks_of_document docs)
of_documents [] = refl
of_documents (doc ∷ docs) = (refl, of_pairs 0 (parse doc) (flat_map marks_of_document docs) refl (of_documents docs))

marks_follow : (collection : List ℕ) → Follow false 0 (marks collection)
marks_follow collection = of_documents (documents collection)

-- ---- the mark that comes next in a collection

pub whole_is : (met : List Mark) (m : Mark) (collection : List ℕ) (f : IsFrontOf (met ++ m ∷ []) collection) → marks collection ≡ met ++ (m ∷ f.after)
whole_is met m collection f = f.whole ∙ append_assoc met (m ∷ []) f.after

follows : (met : List Mark) (m : Mark) (collection : List ℕ) (f : IsFrontOf (met ++ m ∷ []) collection) → Follow false 0 (met ++ (m ∷ f.after))
follows met m collection f = subst (λ (ms : List Mark). Follow false 0 ms) (whole_is met m collection f) (marks_follow collection)

next : (met : List Mark) (m : Mark) (collection : List ℕ) (f : IsFrontOf (met ++ m ∷ []) collection) → Follow (is_open_after met) (piece_count_from 0 met) (m ∷ f.after)
next met m collection f = follow_behind false 0 met (m ∷ f.after) (follows met m collection f)

pub closed_at_start : (met : List Mark) (collection : List ℕ) → IsFrontOf (met ++ start ∷ []) collection → is_open_after met ≡ false
closed_at_start met collection f = (next met start collection f).0

pub open_at_piece : (met : List Mark) (kind : Stream) (x collection : List ℕ) → IsFrontOf (met ++ piece kind x ∷ []) collection → is_open_after met ≡ true
open_at_piece met kind x collection f = (next met (piece kind x) collection f).0

pub turn_at_piece : (met : List Mark) (kind : Stream) (x collection : List ℕ) → IsFrontOf (met ++ piece kind x ∷ []) collection → kind ≡ turn (piece_count_from 0 met)
turn_at_piece met kind x collection f = (next met (piece kind x) collection f).1

pub open_at_stop : (met : List Mark) (collection : List ℕ) → IsFrontOf (met ++ stop ∷ []) collection → is_open_after met ≡ true
open_at_stop met collection f = (next met stop collection f).0

-- ---- the numbers of documents and pairs

pub some_begun : (met : List Mark) (m : Mark) (collection : List ℕ) → IsFrontOf (met ++ m ∷ []) collection → is_open_after met ≡ true → 1 ≤ starts met
some_begun met m collection f is_open =
    let all = ended false 0 met (m ∷ f.after) (follows met m collection f) in
    let one : as_number (is_open_after met) ≡ 1 = ap as_number is_open in
    omega (arith, all, one)

number_ended : (met : List Mark) (m : Mark) (collection : List ℕ) → IsFrontOf (met ++ m ∷ []) collection → is_open_after met ≡ true → length (pairs_from 0 met) ≡ starts met - 1
number_ended met m collection f is_open =
    let all = ended false 0 met (m ∷ f.after) (follows met m collection f) in
    let one : as_number (is_open_after met) ≡ 1 = ap as_number is_open in
    omega (arith, all, one)

first_behind : (a b : List ℕ) → get_or (a ++ b) (length a) 0 ≡ get_or b 0 0
first_behind [] b = refl
first_behind (x ∷ a) b = first_behind a b

pairs_of_open : (met : List Mark) (m : Mark) (collection : List ℕ) (f : IsFrontOf (met ++ m ∷ []) collection) → is_open_after met ≡ true →
    get_or (pair_counts collection) (starts met - 1) 0 ≡ get_or (pairs_from (piece_count_from 0 met) (m ∷ f.after)) 0 0
pairs_of_open met m collection f is_open =
    let whole : pair_counts collection ≡ pairs_from 0 met ++ pairs_from (piece_count_from 0 met) (m ∷ f.after) = sym (marks_have_pairs collection)
    ∙ ap (pairs_from 0) (whole_is met m collection f) ∙ pairs_append 0 met (m ∷ f.after) in
    ap (λ ns. get_or ns (starts met - 1) 0) whole ∙ ap (λ k. get_or (pairs_from 0 met ++ pairs_from (piece_count_from 0 met) (m ∷ f.after)) k 0) (sym (number_ended met m collection f is_open))
    ∙ first_behind (pairs_from 0 met) (pairs_from (piece_count_from 0 met) (m ∷ f.after))

-- the open document has a piece more than came
pub more_pieces : (met : List Mark) (kind : Stream) (x collection : List ℕ) → IsFrontOf (met ++ piece kind x ∷ []) collection →
    piece_count_from 0 met < 2 * get_or (pair_counts collection) (starts met - 1) 0
more_pieces met kind x collection f =
    let is_open = open_at_piece met kind x collection f in
    let there = pairs_of_open met (piece kind x) collection f is_open in
    let behind = next met (piece kind x) collection f in
    let most = enough (is_open_after met) (piece_count_from 0 met + 1) f.after is_open behind.2 in
    omega (arith, there, most)

-- all pieces of the open document came
pub no_more_pieces : (met : List Mark) (collection : List ℕ) → IsFrontOf (met ++ stop ∷ []) collection → 2 * get_or (pair_counts collection) (starts met - 1) 0 ≤ piece_count_from 0 met
no_more_pieces met collection f =
    let there = pairs_of_open met stop collection f (open_at_stop met collection f) in
    let here : get_or (pairs_from (piece_count_from 0 met) (stop ∷ f.after)) 0 0 ≡ piece_count_from 0 met / 2 = refl in
    omega (arith, there, here)

-- it has half as many pairs
pub pairs_at_stop : (met : List Mark) (collection : List ℕ) → IsFrontOf (met ++ stop ∷ []) collection → get_or (pair_counts collection) (starts met - 1) 0 ≡ piece_count_from 0 met / 2
pairs_at_stop met collection f = pairs_of_open met stop collection f (open_at_stop met collection f)

counts_long : (collection : List ℕ) → length (pair_counts collection) ≡ starts (marks collection)
counts_long collection = length-map (documents collection) (λ doc. length (parse doc)) ∙ sym (marks_have_documents collection)

pub more_documents : (met : List Mark) (collection : List ℕ) → IsFrontOf (met ++ start ∷ []) collection → starts met < length (pair_counts collection)
more_documents met collection f =
    let all = counts_long collection in
    let whole = ap starts (whole_is met start collection f) in
    let parts = starts_append met (start ∷ f.after) in
    omega (arith, all, whole, parts)

-- no more documents were begun than there are
pub begun_documents : (met : List Mark) (m : Mark) (collection : List ℕ) → IsFrontOf (met ++ m ∷ []) collection → starts met ≤ length (pair_counts collection)
begun_documents met m collection f =
    let all = counts_long collection in
    let whole = ap starts (whole_is met m collection f) in
    let parts = starts_append met (m ∷ f.after) in
    omega (arith, all, whole, parts)

pub all_documents : (collection : List ℕ) → length (pair_counts collection) ≡ starts (marks collection)
all_documents collection = counts_long collection

-- ---- pieces

has_first : (x : List ℕ) (rest : List (List ℕ)) → list_any (bytes_eq x) (x ∷ rest) ≡ true
has_first x rest = rw (same-refl x) refl

comes : (kind : Stream) (x : List ℕ) (rest : List Mark) → list_any (bytes_eq x) (pieces_among kind (piece kind x ∷ rest)) ≡ true
comes Words x rest = has_first x (pieces_among Words rest)
comes Others x rest = has_first x (pieces_among Others rest)

-- a piece that is met is one of its stream's
is_met : (met : List Mark) (kind : Stream) (x collection : List ℕ) → IsFrontOf (met ++ piece kind x ∷ []) collection → list_any (bytes_eq x) (all_pieces kind collection) ≡ true
is_met met kind x collection f =
    let there : Contains (pieces_among kind (piece kind x ∷ f.after)) x = contains-from (pieces_among kind (piece kind x ∷ f.after)) x (comes kind x f.after) in
    let whole : all_pieces kind collection ≡ pieces_among kind met ++ pieces_among kind (piece kind x ∷ f.after) =
    sym (marks_have_pieces kind collection) ∙ ap (pieces_among kind) (whole_is met (piece kind x) collection f) ∙ pieces_append kind met (piece kind x ∷ f.after)
    in
    ap (list_any (bytes_eq x)) whole ∙ has-from (pieces_among kind met ++ pieces_among kind (piece kind x ∷ f.after)) x
    (Contains-append_right (pieces_among kind met) (pieces_among kind (piece kind x ∷ f.after)) x there)

some_place : (x : List ℕ) (strings : List (List ℕ)) → number_of strings x < length strings → position (bytes_eq x) strings ≡ None → ⊥
some_place x strings low none = grind (arith, nat_tests)

-- so it has a symbol
pub has_symbol : (met : List Mark) (kind : Stream) (x collection : List ℕ) → IsFrontOf (met ++ piece kind x ∷ []) collection → position (bytes_eq x) (sorted_pieces kind collection) ≡ None → ⊥
has_symbol met kind x collection f none =
    let found = number-found (sorted_pieces kind collection) x (has-sorted (all_pieces kind collection) x ∙ is_met met kind x collection f) in
    some_place x (sorted_pieces kind collection) found.0 none

-- ---- occurrences

pub same_number : (a b : List (List ℕ)) (doc from : ℕ) (met : List Mark) → length (terms_from a doc met) ≡ length (terms_from b from met)
same_number a b doc from [] = refl
same_number a b doc from (start ∷ met) = same_number a b (doc + 1) (from + 1) met
same_number a b doc from (piece Words [] ∷ met) = same_number a b doc from met
same_number a b doc from (piece Words (c ∷ cs) ∷ met) = ap (λ n. suc n) (same_number a b doc from met)
same_number a b doc from (piece Others x ∷ met) = same_number a b doc from met
same_number a b doc from (stop ∷ met) = same_number a b doc from met

pub few_terms : (terms : List (List ℕ)) (met : List Mark) (collection : List ℕ) → IsFrontOf met collection → length (terms_from terms 0 met) < 2 ^ 32
few_terms terms met collection f =
    let same = same_number terms (dictionary collection) 0 0 met in
    let whole = ap length (sym (marks_have_occurrences collection) ∙ ap (terms_from (dictionary collection) 0) f.whole ∙ terms_append (dictionary collection) 0 met f.after) in
    let parts = length-append (terms_from (dictionary collection) 0 met) (terms_from (dictionary collection) (0 + starts met) f.after) in
    let most = few_occurrences collection in
    let few = f.few in
    omega (arith, same, whole, parts, most, few)

one_piece : (terms : List (List ℕ)) (doc : ℕ) (kind : Stream) (x : List ℕ) → terms_from terms doc (piece kind x ∷ []) ≡ with_doc doc (term_at kind terms x)
one_piece terms doc Words x = append-nil (with_doc doc (term_at Words terms x))
one_piece terms doc Others x = refl

-- the occurrence that a piece adds
pub terms_more : (terms : List (List ℕ)) (met : List Mark) (kind : Stream) (x : List ℕ) (term : Option ℕ) → term ≡ term_at kind terms x →
    terms_from terms 0 (met ++ piece kind x ∷ []) ≡ terms_from terms 0 met ++ with_doc (starts met) term
terms_more terms met kind x term is =
    let doc : 0 + starts met ≡ starts met = omega arith in
    terms_append terms 0 met (piece kind x ∷ []) ∙ ap (λ n. terms_from terms 0 met ++ terms_from terms n (piece kind x ∷ [])) doc
    ∙ ap (λ r. terms_from terms 0 met ++ r) (one_piece terms (starts met) kind x ∙ ap (with_doc (starts met)) (sym is))

pub one_more_term : (terms : List (List ℕ)) (met : List Mark) (kind : Stream) (x : List ℕ) (term : ℕ) (collection : List ℕ) → Some term ≡ term_at kind terms x →
    IsFrontOf (met ++ piece kind x ∷ []) collection → length (terms_from terms 0 met) < 2 ^ 32 - 1
one_more_term terms met kind x term collection is f =
    let all = few_terms terms (met ++ piece kind x ∷ []) collection f in
    let parts = ap length (terms_more terms met kind x (Some term) is) ∙ length-append (terms_from terms 0 met) ((term, starts met) ∷ []) in
    omega (arith, all, parts)
