-- The documents of a collection, given one after the other with the bytes that close them.
use Rattle.std.proofs.Common.{arith, ◌≡◌, ◌+◌, ◌/◌, ◌≤◌, ◌<◌, ℕ, zero, suc, Bool, List, [], ◌∷◌, ◌++◌, length, drop, get_or, refl, sym, ◌∙◌, ap, append-nil, append_assoc, add-one, drop-cons}
use Rattle.mg_defs.specs.Join.{join}
use Rattle.mg_defs.specs.Split.{close, documents, has_open_end, is_closed, joined}
use Rattle.mg_defs.proofs.SplitLaws.{documents_split, joined_next}
use Rattle.mg_defs.specs.Terms.{document}
use Rattle.mg_defs.proofs.TermLaws.{document_behind}
use Rattle.mg_laws.proofs.JoinLaws.{second_document}
use Rattle.mg_merge.specs.Merging.{budget_of}
use Rattle.mg_merge.specs.Texts.{AreFirst, closed_document}

-- ---- documents of both collections

pub document_second : (a b : List ℕ) (n m : ℕ) → 1 ≤ m → n ≡ length (documents a) + m → document (join a b) n ≡ document b m
document_second a b n m low is = ap (document (join a b)) is ∙ second_document a b m low

-- ---- the next document

pub given_none : (collection : List ℕ) → AreFirst 0 [] collection
given_none collection = (documents_split collection).whole

-- one document more was given
pub given_next : (collection bytes held : List ℕ) (i : ℕ) → i < length (documents collection) → held ≡ closed_document (i + 1) collection →
    AreFirst i bytes collection → AreFirst (i + 1) (bytes ++ held) collection
given_next collection bytes held i more is whole = ap (λ h. (bytes ++ h) ++ joined (drop (i + 1) docs) e) is
    ∙ append_assoc bytes (closed_document (i + 1) collection) (joined rest e) ∙ ap (λ (d : List ℕ). bytes ++ ((d ++ close (is_closed (i + 1) (length docs) e)) ++ joined rest e)) (document_behind collection i)
    ∙ ap (λ t. bytes ++ t) (sym (joined_next (get_or docs i []) rest e (i + 1) (length docs) long)) ∙ ap (λ l. bytes ++ joined l e) (sym cut) ∙ whole
  where
    docs : List (List ℕ)
    docs = documents collection

    e : Bool
    e = has_open_end collection

    rest : List (List ℕ)
    rest = drop (i + 1) docs

    cut : drop i docs ≡ get_or docs i [] ∷ rest
    cut = rw (add-one) (drop-cons docs i [] more)

    drop_long : (ds : List (List ℕ)) (i : ℕ) → i < length ds → length (drop i ds) + i ≡ length ds
    drop_long [] i h = absurd (omega arith)
    drop_long (d ∷ ds) zero h = omega arith
    drop_long (d ∷ ds) (suc i) h = omega (arith, drop_long ds i (omega (arith, h)))

    long : i + 1 + length rest ≡ length docs
    long = omega (arith, ap length cut, drop_long docs i more)

-- all documents were given
pub given_all : (collection bytes : List ℕ) (i : ℕ) → length (documents collection) ≤ i → AreFirst i bytes collection → bytes ≡ collection
given_all collection bytes i all whole = sym (append-nil bytes) ∙ ap (λ l. bytes ++ joined l (has_open_end collection)) (sym (dropped (documents collection) i all)) ∙ whole
  where
    dropped : (ds : List (List ℕ)) (i : ℕ) → length ds ≤ i → drop i ds ≡ []
    dropped [] zero h = refl
    dropped [] (suc i) h = refl
    dropped (d ∷ ds) zero h = absurd (omega arith)
    dropped (d ∷ ds) (suc i) h = dropped ds i (omega (arith, h))

-- ---- the pool

pub cap_again : (cap : ℕ) → 341 ≤ cap → budget_of cap / 12 ≡ cap
cap_again cap h = omega (arith, h)
