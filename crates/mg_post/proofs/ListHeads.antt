-- What the first posting of a list from a document on tells of the documents before it.
use Rattle.std.proofs.Common.{arith, ◌≡◌, ℕ, ◌+◌, ◌<◌, ◌≤◌, ◌∙◌, false, List, [], ◌∷◌, length, Some, None, nat_eq, refl, sym, ap}
use Rattle.mg_defs.specs.declared.Posting.{Posting}
use Rattle.mg_defs.specs.Split.{documents}
use Rattle.mg_defs.specs.Terms.{document}
use Rattle.mg_defs.specs.Weights.{has_term}
use Rattle.mg_defs.specs.Lists.{postings, from_doc}
use Rattle.mg_defs.proofs.ListLaws.{from_here}
use Rattle.mg_laws.proofs.LedLists.{first_of, is_number, posting_is}
use Rattle.mg_laws.proofs.MetBlocks.{from_from}
use Rattle.mg_post.specs.Cursor.{head_of}

first_kept : (d : ℕ) (q : List Posting) (p : Posting) → head_of q ≡ Some p → d ≤ p.doc → head_of (from_doc d q) ≡ Some p
first_kept d [] p is le = absurd cc
first_kept d (h ∷ q) p is le = let same : h ≡ p = cc in ap head_of (from_here d h q (omega (arith, ap (λ (x : Posting). x.doc) same, le))) ∙ is

first_head : (q : List Posting) (p : Posting) → head_of q ≡ Some p → first_of q ≡ Some p.doc
first_head [] p is = absurd cc
first_head (h ∷ q) p is = let same : h ≡ p = cc in ap (λ (x : Posting). Some x.doc) same

no_first : (d : ℕ) (q : List Posting) → head_of q ≡ None → first_of (from_doc d q) ≡ None
unfolding from_doc
no_first d [] is = refl
no_first d (h ∷ q) is = absurd cc

-- the first posting of a list from a later document on, up to the first one
pub later : (last d : ℕ) (ps : List Posting) (p : Posting) → head_of (from_doc (last + 1) ps) ≡ Some p → last < d → d ≤ p.doc → head_of (from_doc d ps) ≡ Some p
later last d ps p is low high = ap head_of (sym (from_from (last + 1) d ps (omega (arith, low)))) ∙ first_kept d (from_doc (last + 1) ps) p is high

pub has_at : (collection t : List ℕ) (last d : ℕ) (p : Posting) → head_of (from_doc (last + 1) (postings collection t)) ≡ Some p → last < d → d ≤ p.doc →
    d ≤ length (documents collection) → has_term (document collection d) t ≡ nat_eq p.doc d
has_at collection t last d p is low high le =
    sym (posting_is collection t d (omega (arith, low)) le) ∙ ap (λ o. is_number o d) (first_head (from_doc d (postings collection t)) p (later last d (postings collection t) p is low high))

pub none_at : (collection t : List ℕ) (last d : ℕ) → head_of (from_doc (last + 1) (postings collection t)) ≡ None → last < d →
    d ≤ length (documents collection) → has_term (document collection d) t ≡ false
none_at collection t last d is low le =
    sym (posting_is collection t d (omega (arith, low)) le)
    ∙ ap (λ o. is_number o d) (ap first_of (sym (from_from (last + 1) d (postings collection t) (omega (arith, low))))
    ∙ no_first d (from_doc (last + 1) (postings collection t)) is)
