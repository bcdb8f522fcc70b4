-- How many documents have a term, after one occurrence more.
use Rattle.std.proofs.Common.{◌≡◌, ◌≢◌, ◌≤◌, ◌<◌, ◌+◌, ◌==◌, ◌⊎◌, ℕ, Bool, true, false, cond, zero, List, [], ◌∷◌, ◌++◌, map, get_or, set, nat_lt, refl, sym, ap, subst, ◌∙◌, arith, inl, inr, length-set}
use Rattle.std.specs.Prelude.{count_by}
use Rattle.std.proofs.lemmas.Bool.{cases_Bool, cases_eq, eq-eqb, eqb-true, lt-ltb, ne_eqb}
use Rattle.std.proofs.lemmas.List.{get_or-set_other, get_or-set_same, map-append, set-get_or}
use Rattle.std.proofs.lemmas.List.Sums.{sum_by-cons}
use Rattle.mg_defs.specs.declared.TermPosting.{TermPosting}
use Rattle.mg_defs.specs.DocCounts.{docs_with, last_with}
use Rattle.mg_defs.specs.Postings.{AllCount, ArePostings, IsBefore, RisingByTerm, added, once, part_at, term_postings, times, with_count}
use Rattle.mg_defs.proofs.Gathering.{AllAfter-earlier, added-cases, gathered-are, gathered-only, times-gathered, times-none}
use Rattle.mg_defs.proofs.Joining.{AllCount-once, times-append}
use Rattle.mg_count.specs.DocCounting.{AreDocCounts, DocCounting}

abbrev is_of : ℕ → TermPosting → Bool
is_of term x = x.term == term

count-cons : (term : ℕ) (x : TermPosting) (xs : List TermPosting) → count_by (is_of term) (x ∷ xs) ≡ cond (x.term == term) 1 0 + count_by (is_of term) xs
count-cons term x xs = sum_by-cons (λ y. cond (is_of term y) 1 0) x xs

times-one : (term doc : ℕ) (fed : List (ℕ × ℕ)) (o : ℕ × ℕ) → times term doc (map once (fed ++ o ∷ [])) ≡ times term doc (map once fed) + part_at term doc (once o)
times-one term doc fed o = omega (arith, ap (times term doc) (map-append once fed (o ∷ [])), times-append term doc (map once fed) (once o ∷ []))

one-added : (fed : List (ℕ × ℕ)) (o : ℕ × ℕ) → term_postings (fed ++ o ∷ []) ≡ added (once o) (term_postings fed)
one-added fed o =
    let front : ArePostings (map once (o ∷ fed)) (added (once o) (term_postings fed)) = gathered-are (map once (o ∷ fed)) (AllCount-once (o ∷ fed)) in
    sym (gathered-only (map once (fed ++ o ∷ [])) (added (once o) (term_postings fed)) (AllCount-once (fed ++ o ∷ []))
    (record {
      rising = front.rising;
      some = front.some;
      counted = λ t d. omega (arith, front.counted t d, times-one t d fed o);
    }))

-- a document is one more where the term is another's or was not in it
abbrev fresh : Bool → Bool → ℕ
fresh of_it known = cond of_it (cond known 0 1) 0

abbrev new_at : ℕ → TermPosting → List TermPosting → ℕ
new_at term e xs = fresh (e.term == term) (nat_lt 0 (times e.term e.doc xs))

new-one : (term : ℕ) (e : TermPosting) (n : ℕ) → n ≡ 0 → fresh (e.term == term) (nat_lt 0 n) ≡ cond (e.term == term) 1 0
new-one term e n none = ap (λ m. fresh (e.term == term) (nat_lt 0 m)) none

old-one : (b : Bool) (n : ℕ) → 1 ≤ n → fresh b (nat_lt 0 n) ≡ zero
old-one b n some = ap (λ t. fresh b t) (lt-ltb 0 n some) ∙ none b
  where
    none : (b : Bool) → fresh b true ≡ zero
    none true = refl
    none false = refl

apart : (x e : TermPosting) → IsBefore x e → part_at e.term e.doc x ≡ 0
apart x e h =
    elim (cases_Bool (x.term == e.term)) [
      | inl same ↦ (
          let t : x.term ≡ e.term = eqb-true x.term e.term same in
          ap (λ b. cond b (cond (x.doc == e.doc) x.count 0) 0) same ∙ ap (λ b. cond b x.count 0) (ne_eqb x.doc e.doc (λ d. let lt = h.doc t in omega (arith, d, lt))))
      | inr other ↦ ap (λ b. cond b (cond (x.doc == e.doc) x.count 0) 0) other
    ]

count-added : (term : ℕ) (e : TermPosting) (xs : List TermPosting) → RisingByTerm xs → AllCount xs → count_by (is_of term) (added e xs) ≡ count_by (is_of term) xs + new_at term e xs
count-added term e [] rising some = count-cons term e [] ∙ omega (arith, new-one term e 0 refl)
count-added term e (x ∷ xs) rising some =
    added-cases e x xs (λ l. count_by (is_of term) l ≡ count_by (is_of term) (x ∷ xs) + new_at term e (x ∷ xs))
    (λ before.
    let none : times e.term e.doc (x ∷ xs) ≡ 0 = times-none e (x ∷ xs) (before, AllAfter-earlier e x before xs rising.0) in
    count-cons term e (x ∷ xs) ∙ omega (arith, new-one term e (times e.term e.doc (x ∷ xs)) none))
    (λ behind.
    let more = count-added term e xs rising.1 some.1 in
    let same : times e.term e.doc (x ∷ xs) ≡ times e.term e.doc xs = omega (arith, apart x e behind) in
    count-cons term x (added e xs) ∙ omega (arith, more, count-cons term x xs, ap (λ n. fresh (e.term == term) (nat_lt 0 n)) same))
    (λ t d.
    let here : part_at e.term e.doc x ≡ x.count = ap (λ b. cond b (cond (x.doc == e.doc) x.count 0) 0) (eq-eqb x.term e.term (sym t)) ∙ ap (λ b. cond b x.count 0) (eq-eqb x.doc e.doc (sym d)) in
    count-cons term (with_count x (e.count + x.count)) xs
    ∙ omega (arith, count-cons term x xs, old-one (e.term == term) (times e.term e.doc (x ∷ xs)) (omega (arith, here, some.0))))

docs-more : (term : ℕ) (fed : List (ℕ × ℕ)) (o : ℕ × ℕ) → docs_with term (fed ++ o ∷ []) ≡ docs_with term fed + fresh (o.0 == term) (nat_lt 0 (times o.0 o.1 (map once fed)))
docs-more term fed o =
    let are = gathered-are (map once fed) (AllCount-once fed) in
    ap (λ l. count_by (is_of term) l) (one-added fed o) ∙ count-added term (once o) (term_postings fed) are.rising are.some
    ∙ ap (λ n. docs_with term fed + n) (ap (λ n. fresh (o.0 == term) (nat_lt 0 n)) (times-gathered o.0 o.1 (map once fed)))

-- ---- the last document

-- the law that gives the last document
abbrev pub LastMore : Type 0
LastMore = (term doc : ℕ) (fed : List (ℕ × ℕ)) (o : ℕ × ℕ) → last_with term doc (fed ++ o ∷ []) ≡ cond (o.0 == term) o.1 (last_with term doc fed)

-- the last document has the term, where there is one
last-there : (term acc : ℕ) (fed : List (ℕ × ℕ)) → (last_with term acc fed ≡ acc) ⊎ (1 ≤ times term (last_with term acc fed) (map once fed))
last-there term acc [] = inl refl
last-there term acc (o ∷ fed) = by (o.0 == term) refl (λ n. last-there term n fed)
  where
    one : (b c : Bool) → b ≡ true → c ≡ true → 1 ≤ cond b (cond c 1 0) 0
    one b c p q = subst (λ x. 1 ≤ cond x (cond c 1 0) 0) (sym p) (subst (λ x. 1 ≤ cond x 1 0) (sym q) (omega arith))

    by : (b : Bool) → (o.0 == term) ≡ b → ((n : ℕ) → (last_with term n fed ≡ n) ⊎ (1 ≤ times term (last_with term n fed) (map once fed))) →
        (last_with term (cond b o.1 acc) fed ≡ acc) ⊎ (1 ≤ times term (last_with term (cond b o.1 acc) fed) (map once (o ∷ fed)))
    by true is rest = elim (rest o.1) [
      | inl e ↦ inr (omega (arith, one (o.0 == term) (o.1 == last_with term o.1 fed) is (eq-eqb o.1 (last_with term o.1 fed) (sym e))))
      | inr more ↦ inr (omega (arith, more))
    ]
    by false is rest = elim (rest acc) [
      | inl e ↦ inl e
      | inr more ↦ inr (omega (arith, more))
    ]

known : (c : DocCounting) (terms term doc : ℕ) (fed : List (ℕ × ℕ)) → 1 ≤ doc → AreDocCounts c terms fed → last_with term 0 fed ≡ doc → nat_lt 0 (times term doc (map once fed)) ≡ true
known c terms term doc fed some h is =
    elim (last-there term 0 fed) [
      | inl none ↦ absurd (omega (arith, none, is, some))
      | inr there ↦ lt-ltb 0 (times term doc (map once fed)) (subst (λ d. 1 ≤ times term d (map once fed)) is there)
    ]

unknown : (c : DocCounting) (terms term doc : ℕ) (fed : List (ℕ × ℕ)) → AreDocCounts c terms fed → last_with term 0 fed < doc → nat_lt 0 (times term doc (map once fed)) ≡ false
unknown c terms term doc fed h later = by (times term doc (map once fed)) (λ some. h.order term doc some)
  where
    by : (n : ℕ) → (1 ≤ n → doc ≤ last_with term 0 fed) → nat_lt 0 n ≡ false
    by n f = elim (cases_eq n 0) [
      | inl none ↦ ap (nat_lt 0) none
      | inr some ↦ let le = f (omega (arith, some)) in absurd (omega (arith, le, later))
    ]

-- ---- one occurrence more

other-term : (a b : ℕ) → (a == b) ≡ false → b ≢ a
other-term a b h e = absurd (let is : (a == b) ≡ true = eq-eqb a b (sym e) in let no : true ≡ false = sym is ∙ h in cc)

order-more : (last_more : LastMore) (c : DocCounting) (terms term doc : ℕ) (fed : List (ℕ × ℕ)) → AreDocCounts c terms fed → last_with term 0 fed ≤ doc
    → (t d : ℕ) → 1 ≤ times t d (map once (fed ++ (term, doc) ∷ [])) → d ≤ last_with t 0 (fed ++ (term, doc) ∷ [])
order-more last_more c terms term doc fed h low t d some = by (term == t) (doc == d) refl refl
  where
    all : times t d (map once (fed ++ (term, doc) ∷ [])) ≡ times t d (map once fed) + part_at t d (once (term, doc))
    all = times-one t d fed (term, doc)

    last : last_with t 0 (fed ++ (term, doc) ∷ []) ≡ cond (term == t) doc (last_with t 0 fed)
    last = last_more t 0 fed (term, doc)

    part : (a b : Bool) → (term == t) ≡ a → (doc == d) ≡ b → part_at t d (once (term, doc)) ≡ cond a (cond b 1 0) 0
    part a b p q = ap (λ x. cond x (cond (doc == d) 1 0) 0) p ∙ ap (λ x. cond a (cond x 1 0) 0) q

    by : (a b : Bool) → (term == t) ≡ a → (doc == d) ≡ b → d ≤ last_with t 0 (fed ++ (term, doc) ∷ [])
    by true true p q = omega (arith, last ∙ ap (λ x. cond x doc (last_with t 0 fed)) p, eqb-true doc d q)
    by true false p q =
        let there : 1 ≤ times t d (map once fed) = omega (arith, some, all, part true false p q) in
        let same : last_with t 0 fed ≡ last_with term 0 fed = ap (λ x. last_with x 0 fed) (sym (eqb-true term t p)) in
        omega (arith, last ∙ ap (λ x. cond x doc (last_with t 0 fed)) p, h.order t d there, same, low)
    by false b p q =
        let there : 1 ≤ times t d (map once fed) = omega (arith, some, all, part false b p q) in
        omega (arith, last ∙ ap (λ x. cond x doc (last_with t 0 fed)) p, h.order t d there)

-- in a document that the term was in
doc-known : (last_more : LastMore) (c : DocCounting) (terms term doc : ℕ) (fed : List (ℕ × ℕ)) → 1 ≤ doc → AreDocCounts c terms fed →
    last_with term 0 fed ≡ doc → AreDocCounts c terms (fed ++ (term, doc) ∷ [])
doc-known last_more c terms term doc fed some h is = record {
  doc_size = h.doc_size;
  last_size = h.last_size;
  docs = λ t lt. h.docs t lt ∙ sym (docs-more t fed (term, doc) ∙ omega (arith, none (term == t)));
  last = λ t lt. h.last t lt ∙ sym (last_more t 0 fed (term, doc) ∙ same t (term == t) refl);
  few = h.few;
  order = order-more last_more c terms term doc fed h (omega (arith, is));
}
  where
    none : (b : Bool) → fresh b (nat_lt 0 (times term doc (map once fed))) ≡ zero
    none true = ap (λ k. cond k 0 1) (known c terms term doc fed some h is)
    none false = refl

    same : (t : ℕ) (b : Bool) → (term == t) ≡ b → cond b doc (last_with t 0 fed) ≡ last_with t 0 fed
    same t true e = sym is ∙ ap (λ x. last_with x 0 fed) (eqb-true term t e)
    same t false e = refl

-- in another one, which is later
doc-fresh : (last_more : LastMore) (c : DocCounting) (terms term doc : ℕ) (fed : List (ℕ × ℕ)) → term < terms → AreDocCounts c terms fed → last_with term 0 fed < doc
    → AreDocCounts (record { docs = set c.docs term (get_or c.docs term 0 + 1); last = set c.last term doc }) terms (fed ++ (term, doc) ∷ [])
doc-fresh last_more c terms term doc fed within h later = record {
  doc_size = length-set c.docs term (get_or c.docs term 0 + 1) ∙ h.doc_size;
  last_size = length-set c.last term doc ∙ h.last_size;
  docs = λ t lt. docs t lt (term == t) refl;
  last = λ t lt. last t lt (term == t) refl;
  few = λ t lt. few t lt (term == t) refl;
  order = order-more last_more c terms term doc fed h (omega (arith, later));
}
  where
    docs-here : get_or (set c.docs term (get_or c.docs term 0 + 1)) term 0 ≡ get_or c.docs term 0 + 1
    docs-here = get_or-set_same c.docs term (get_or c.docs term 0 + 1) 0 (omega (arith, within, h.doc_size))

    last-here : get_or (set c.last term doc) term 0 ≡ doc
    last-here = get_or-set_same c.last term doc 0 (omega (arith, within, h.last_size))

    docs : (t : ℕ) → t < terms → (b : Bool) → (term == t) ≡ b → get_or (set c.docs term (get_or c.docs term 0 + 1)) t 0 ≡ docs_with t (fed ++ (term, doc) ∷ [])
    docs t lt true e =
        let same : term ≡ t = eqb-true term t e in
        let more : docs_with t (fed ++ (term, doc) ∷ []) ≡ docs_with t fed + 1 = docs-more t fed (term, doc)
        ∙ ap (λ b. docs_with t fed + fresh b (nat_lt 0 (times term doc (map once fed)))) e
        ∙ ap (λ k. docs_with t fed + cond k 0 1) (unknown c terms term doc fed h later) in
        subst (λ x. get_or (set c.docs term (get_or c.docs term 0 + 1)) x 0 ≡ docs_with x fed + 1) same (docs-here ∙ ap (λ n. n + 1) (h.docs term within)) ∙ sym more
    docs t lt false e =
        let more : docs_with t (fed ++ (term, doc) ∷ []) ≡ docs_with t fed = docs-more t fed (term, doc)
        ∙ ap (λ b. docs_with t fed + fresh b (nat_lt 0 (times term doc (map once fed)))) e ∙ omega arith in
        get_or-set_other c.docs term t (get_or c.docs term 0 + 1) 0 (other-term term t e) ∙ h.docs t lt ∙ sym more

    last : (t : ℕ) → t < terms → (b : Bool) → (term == t) ≡ b → get_or (set c.last term doc) t 0 ≡ last_with t 0 (fed ++ (term, doc) ∷ [])
    last t lt true e =
        let same : term ≡ t = eqb-true term t e in
        subst (λ x. get_or (set c.last term doc) x 0 ≡ doc) same last-here ∙ sym (last_more t 0 fed (term, doc) ∙ ap (λ b. cond b doc (last_with t 0 fed)) e)
    last t lt false e =
        get_or-set_other c.last term t doc 0 (other-term term t e) ∙ h.last t lt ∙ sym (last_more t 0 fed (term, doc) ∙ ap (λ b. cond b doc (last_with t 0 fed)) e)

    few : (t : ℕ) → t < terms → (b : Bool) → (term == t) ≡ b → get_or (set c.docs term (get_or c.docs term 0 + 1)) t 0 ≤ get_or (set c.last term doc) t 0
    few t lt true e =
        let same : term ≡ t = eqb-true term t e in
        subst (λ x. get_or (set c.docs term (get_or c.docs term 0 + 1)) x 0 ≤ get_or (set c.last term doc) x 0) same (omega (arith, docs-here, last-here, h.few term within, h.last term within, later))
    few t lt false e =
        omega (arith, get_or-set_other c.docs term t (get_or c.docs term 0 + 1) 0 (other-term term t e), get_or-set_other c.last term t doc 0 (other-term term t e), h.few t lt)

-- of a term's documents one is more where the last of them is another, and as many as before else
pub doc-counted : (last_more : LastMore) (ds ls : List ℕ) (terms term doc count : ℕ) (fed : List (ℕ × ℕ)) → term < terms → 1 ≤ doc → AreDocCounts (record { docs = ds; last = ls }) terms fed →
    last_with term 0 fed ≤ doc → (get_or ls term 0 ≢ doc → count ≡ get_or ds term 0 + 1) → (get_or ls term 0 ≡ doc → count ≡ get_or ds term 0) →
    AreDocCounts (record { docs = set ds term count; last = set ls term doc }) terms (fed ++ (term, doc) ∷ [])
doc-counted last_more ds ls terms term doc count fed within some h low other same = elim (cases_eq (get_or ls term 0) doc) [
  | inl is ↦
      let docs : set ds term count ≡ ds = ap (λ n. set ds term n) (same is) ∙ set-get_or ds term 0 in
      let last : set ls term doc ≡ ls = ap (λ n. set ls term n) (sym is) ∙ set-get_or ls term 0 in
      subst (λ l. AreDocCounts (record { docs = l; last = set ls term doc }) terms (fed ++ (term, doc) ∷ [])) (sym docs)
      (subst (λ l. AreDocCounts (record { docs = ds; last = l }) terms (fed ++ (term, doc) ∷ [])) (sym last)
      (doc-known last_more (record { docs = ds; last = ls }) terms term doc fed some h (sym (h.last term within) ∙ is)))
  | inr apart ↦
      let read : get_or ls term 0 ≡ last_with term 0 fed = h.last term within in
      let differs : last_with term 0 fed ≢ doc = λ e. apart (read ∙ e) in
      let later : last_with term 0 fed < doc = omega (arith, low, differs) in
      subst (λ n. AreDocCounts (record { docs = set ds term n; last = set ls term doc }) terms (fed ++ (term, doc) ∷ [])) (sym (other apart))
      (doc-fresh last_more (record { docs = ds; last = ls }) terms term doc fed within h later)
]
