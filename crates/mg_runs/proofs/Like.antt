-- The group of like entries, step by step.
use Rattle.std.proofs.Common.{◌≡◌, ℕ, zero, suc, ◌+◌, ◌-◌, ◌<◌, ◌≤◌, ◌⊎◌, inl, inr, List, [], ◌∷◌, length, refl, sym, ap, ◌∙◌, subst, arith, get_or, drop, map}
use Rattle.std.specs.List.{AllByRecursion}
use Rattle.std.proofs.lemmas.List.{drop_all, drop_more}
use Rattle.mg_defs.specs.declared.TermPosting.{TermPosting}
use Rattle.mg_defs.specs.Postings.{IsBefore, AllAfter, with_count, added, gathered}
use Rattle.mg_runs.specs.PostingOrder.{NoLater, NotFalling, added_times}
use Rattle.mg_runs.proofs.PostingGroups.{AllAfter-no_later, AllAfter-gathered, added_times-end, group-count}
use Rattle.mg_runs.specs.Bytes.{entry_in, number_in}
use Rattle.mg_runs.specs.Groups.{IsGroup, IsLike}

abbrev one_of : ℕ → ℕ → TermPosting
one_of t d = record { term = t; doc = d; count = 1 }

same_entry : (e : List ℕ) (t d : ℕ) → number_in 0 e ≡ t → number_in 4 e ≡ d → entry_in e ≡ one_of t d
same_entry e t d p q = ap (λ a. one_of a (number_in 4 e)) p ∙ ap (λ b. one_of t b) q

step : (entries : List (List ℕ)) (i t d : ℕ) → i < length entries → number_in 0 (get_or entries i []) ≡ t → number_in 4 (get_or entries i []) ≡ d →
    gathered (map entry_in (drop i entries)) ≡ added (one_of t d) (gathered (map entry_in (drop (i + 1) entries)))
step entries i t d h p q =
    ap (λ xs. gathered (map entry_in xs)) (drop_more entries i [] h) ∙ ap (λ e. added e (gathered (map entry_in (drop (i + 1) entries)))) (same_entry (get_or entries i []) t d p q)

pub like-first : (entries : List (List ℕ)) (from t d : ℕ) → from < length entries → number_in 0 (get_or entries from []) ≡ t →
    number_in 4 (get_or entries from []) ≡ d → IsLike entries from (from + 1) t d
like-first entries from t d h p q =
    let one : from + 1 - from ≡ suc zero = omega arith in
    record {
      after = omega arith;
      added = step entries from t d h p q ∙ ap (λ n. added_times n (one_of t d) (gathered (map entry_in (drop (from + 1) entries)))) (sym one);
      within = omega arith;
    }

pub like-more : (entries : List (List ℕ)) (from next t d : ℕ) → IsLike entries from next t d → next < length entries →
    number_in 0 (get_or entries next []) ≡ t → number_in 4 (get_or entries next []) ≡ d →
    IsLike entries from (next + 1) t d
like-more entries from next t d l h p q =
    let rest : List TermPosting = gathered (map entry_in (drop (next + 1) entries)) in
    let after : from < next = l.after in
    let one : suc (next - from) ≡ next + 1 - from = omega arith in
    record {
      after = omega arith;
      added = l.added ∙ ap (λ xs. added_times (next - from) (one_of t d) xs) (step entries next t d h p q) ∙ added_times-end (next - from) (one_of t d) rest
          ∙ ap (λ n. added_times n (one_of t d) rest) one;
      within = omega arith;
    }

no_later-far : (entries : List (List ℕ)) (i j : ℕ) → i < j → j < length entries → NotFalling (map entry_in entries) → NoLater (entry_in (get_or entries i [])) (entry_in (get_or entries j []))
no_later-far [] i j h k up = absurd (omega arith)
no_later-far (x ∷ xs) zero zero h k up = absurd (omega arith)
no_later-far (x ∷ xs) zero (suc j) h k up = all_at x xs j (omega arith) up.0
  where
    all_at : (x : List ℕ) (xs : List (List ℕ)) (j : ℕ) → j < length xs → AllByRecursion (λ y. NoLater (entry_in x) y) (map entry_in xs) → NoLater (entry_in x) (entry_in (get_or xs j []))
    all_at x [] j h all = absurd (omega arith)
    all_at x (y ∷ ys) zero h all = all.0
    all_at x (y ∷ ys) (suc j) h all = all_at x ys j (omega arith) all.1
no_later-far (x ∷ xs) (suc i) zero h k up = absurd (omega arith)
no_later-far (x ∷ xs) (suc i) (suc j) h k up = no_later-far xs i j (omega arith) (omega arith) up.1

rest_in_order : (entries : List (List ℕ)) (j : ℕ) → NotFalling (map entry_in entries) → NotFalling (map entry_in (drop j entries))
rest_in_order xs zero up = up
rest_in_order [] (suc j) up = tt
rest_in_order (x ∷ xs) (suc j) up = rest_in_order xs j up.1

-- all from the next one on come after the first, where the next one is not like it
after-rest : (entries : List (List ℕ)) (from next t d : ℕ) → from < next → NotFalling (map entry_in entries) →
    number_in 0 (get_or entries from []) ≡ t → number_in 4 (get_or entries from []) ≡ d →
    (length entries ≤ next) ⊎ ((next < length entries) × ((number_in 0 (get_or entries next []) ≡ t → number_in 4 (get_or entries next []) ≡ d → ⊥))) →
    AllAfter (one_of t d) (map entry_in (drop next entries))
after-rest entries from next t d h up p q (inl over) =
    let none = drop_all next entries over in
    subst (λ xs. AllAfter (one_of t d) (map entry_in xs)) (sym none) tt
after-rest entries from next t d h up p q (inr other) =
    let k : NoLater (entry_in (get_or entries from [])) (entry_in (get_or entries next [])) = no_later-far entries from next h other.0 up in
    let y : TermPosting = entry_in (get_or entries next []) in
    let kt = k.term in
    let b : IsBefore (one_of t d) y = record {
      term = omega arith;
      doc = λ e. let s : number_in 0 (get_or entries from []) ≡ number_in 0 (get_or entries next []) = p ∙ e in let kd = k.doc s in lt_or d y.doc (omega arith) (λ same. other.1 (sym e) (sym same));
    } in
    let rest = rest_in_order entries next up in
    let more = drop_more entries next [] other.0 in
    let all = subst (λ xs. NotFalling (map entry_in xs)) more rest in
    subst (λ xs. AllAfter (one_of t d) (map entry_in xs)) (sym more) (b, AllAfter-no_later (one_of t d) y b (map entry_in (drop (next + 1) entries)) all.0)
  where
    lt_or : (m n : ℕ) → m ≤ n → (m ≡ n → ⊥) → m < n
    lt_or m n h k = omega arith

pub like-end : (entries : List (List ℕ)) (from next t d : ℕ) → IsLike entries from next t d → NotFalling (map entry_in entries) →
    number_in 0 (get_or entries from []) ≡ t → number_in 4 (get_or entries from []) ≡ d →
    (length entries ≤ next) ⊎ ((next < length entries) × ((number_in 0 (get_or entries next []) ≡ t → number_in 4 (get_or entries next []) ≡ d → ⊥))) →
    IsGroup entries from next
like-end entries from next t d l up p q end =
    let after : from < next = l.after in
    let one : next - from ≡ suc (next - from - 1) = omega arith in
    let rest : List TermPosting = gathered (map entry_in (drop next entries)) in
    let all = after-rest entries from next t d after up p q end in
    record {
      head = one_of t d;
      term = sym p;
      doc = sym q;
      one = l.added ∙ ap (λ n. added_times n (one_of t d) rest) one
          ∙ group-count (next - from - 1) (one_of t d) rest refl (AllAfter-gathered (one_of t d) (map entry_in (drop next entries)) all)
          ∙ ap (λ n. with_count (one_of t d) n ∷ rest) (sym one);
    }
