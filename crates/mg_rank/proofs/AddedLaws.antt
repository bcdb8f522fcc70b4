-- A list that is added posting by posting is added whole.
use Rattle.std.proofs.Common.{arith, suc, ◌≡◌, ◌+◌, ◌*◌, ◌<◌, ℕ, List, [], ◌∷◌, ◌++◌, length, slice_index_or, Some, refl, sym, ◌∙◌, ap, subst, length-append}
use Rattle.std.proofs.lemmas.List.{get_or_default}
use Rattle.mg_defs.specs.declared.Posting.{Posting}
use Rattle.mg_defs.specs.Lists.{last_doc}
use Rattle.mg_defs.specs.Weights.{weight_in_doc, weight_of_term}
use Rattle.mg_defs.proofs.ListLaws.{last_append}
use Rattle.mg_layout.specs.declared.term_info.TermInfo.{TermInfo}
use Rattle.mg_post.specs.Cursor.{Cursoring, GoesToNext, IsFrom, count_behind, next_doc}
use Rattle.mg_rank.specs.Added.{AddedTo, AddsWhole, AreRising, with_all}
use Rattle.mg_rank.specs.Damages.{HasSome}
use Rattle.mg_rank.specs.Sums.{with_more}

-- so many postings of the list were added, and the others are left behind the cursor's current one
pub record Adding (all : ℕ) (info : TermInfo) (last : ℕ) (old new : List (ℕ × ℕ)) (c : Cursoring) : Type 0 where
  pub list : List Posting
  pub count : length list + count_behind c ≡ info.docs
  pub rising : AreRising all 0 list
  pub last_is : last ≡ last_doc 0 list
  pub added : new ≡ with_all (weight_of_term info.docs all) list old
  pub next : last + 1 ≡ next_doc c.held

pub adding_start : (all : ℕ) (info : TermInfo) (old new : List (ℕ × ℕ)) (c : Cursoring) → new ≡ old → count_behind c ≡ info.docs → c.held ≡ [] → Adding all info 0 old new c
unfolding last_doc
adding_start all info old new c same whole before =
    record { list = []; count = omega (arith, whole); rising = tt; last_is = refl; added = same; next = sym (ap next_doc before) }

rising_more : (all d : ℕ) (ps : List Posting) (p : Posting) → AreRising all d ps → IsFrom (last_doc d ps + 1) all p → AreRising all d (ps ++ p ∷ [])
unfolding last_doc
rising_more all d [] p h f = (f, tt)
rising_more all d (q ∷ ps) p h f = (h.0, rising_more all q.doc ps p h.1 f)

all_more : (weight : ℕ) (ps : List Posting) (p : Posting) (sums : List (ℕ × ℕ)) →
    with_all weight (ps ++ p ∷ []) sums ≡ with_more p.doc (weight_in_doc p.freq * weight) (with_all weight ps sums)
all_more weight [] p sums = refl
all_more weight (q ∷ ps) p sums = all_more weight ps p (with_more q.doc (weight_in_doc q.freq * weight) sums)

one_more : (d : ℕ) (ps : List Posting) (p : Posting) → last_doc d (ps ++ p ∷ []) ≡ p.doc
unfolding last_doc
one_more d ps p = last_append d ps (p ∷ [])

pub adding_next : (all : ℕ) (info : TermInfo) (last weight : ℕ) (old sums new : List (ℕ × ℕ)) (c v : Cursoring) (p : Posting) → Adding all info last old sums c →
    GoesToNext c v (Some p) → IsFrom (last + 1) all p → weight ≡ weight_of_term info.docs all →
    new ≡ with_more p.doc (weight_in_doc p.freq * weight) sums → Adding all info p.doc old new v
adding_next all info last weight old sums new c v p a goes from is more = record {
  list = a.list ++ p ∷ [];
  count = omega (arith, length-append a.list (p ∷ []), a.count, goes.0);
  rising = rising_more all 0 a.list p a.rising (subst (λ n. IsFrom (n + 1) all p) a.last_is from);
  last_is = sym (one_more 0 a.list p);
  added = more ∙ ap (λ w. with_more p.doc (weight_in_doc p.freq * w) sums) is
      ∙ ap (with_more p.doc (weight_in_doc p.freq * weight_of_term info.docs all)) a.added ∙ sym (all_more (weight_of_term info.docs all) a.list p old);
  next = sym goes.1;
}

pub adding_end : (all : ℕ) (info : TermInfo) (last : ℕ) (old new : List (ℕ × ℕ)) (c : Cursoring) → Adding all info last old new c → count_behind c ≡ 0 → HasSome all info →
    AddsWhole all info old new
adding_end all info last old new c a none docs = record { list = a.list; count = omega (arith, a.count, none); docs = docs; rising = a.rising; added = a.added }

pub added_next : (all : ℕ) (terms : List TermInfo) (k : ℕ) (d : TermInfo) (before sums : List (ℕ × ℕ)) → k < length terms → AddedTo all terms k before →
    AddsWhole all (slice_index_or terms k d) before sums → AddedTo all terms (k + 1) sums
added_next all terms k d before sums lt added whole =
    let e : suc k ≡ k + 1 = omega arith in
    let more : AddedTo all terms (suc k) sums = (before, added, λ info is. subst (λ i. AddsWhole all i before sums) (get_or_default terms k d info lt ∙ is) whole) in
    subst (λ n. AddedTo all terms n sums) e more
