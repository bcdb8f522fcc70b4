-- The postings of two lists are the postings of each, joined; and so for runs.
use Rattle.std.proofs.Common.{◌≡◌, ℕ, zero, suc, ◌+◌, ◌-◌, ◌*◌, ◌/◌, ◌≤◌, List, [], ◌∷◌, ◌++◌, length, refl, sym, ap, ◌∙◌, arith, take, drop, map}
use Rattle.std.proofs.lemmas.Grind.{common_steps}
use Rattle.mg_defs.specs.declared.TermPosting.{TermPosting}
use Rattle.mg_defs.specs.Postings.{once, AllCount, times, merged_two, gathered, term_postings, merged}
use Rattle.mg_defs.specs.Runs.{first_runs, runs_of}
use Rattle.mg_defs.proofs.Gathering.{only_one, Rising-gathered, AllCount-gathered, times-gathered, Rising-joined, AllCount-joined, times-joined}

pub times-append : (t d : ℕ) (xs ys : List TermPosting) → times t d (xs ++ ys) ≡ times t d xs + times t d ys
times-append t d [] ys = omega arith
times-append t d (x ∷ xs) ys = let r = times-append t d xs ys in omega (arith, times-append t d xs ys)

pub AllCount-append : (xs ys : List TermPosting) → AllCount xs → AllCount ys → AllCount (xs ++ ys)
AllCount-append [] ys a b = b
AllCount-append (x ∷ xs) ys a b = (a.0, AllCount-append xs ys a.1 b)

pub gathered-append : (xs ys : List TermPosting) → AllCount xs → AllCount ys → gathered (xs ++ ys) ≡ merged_two (gathered xs) (gathered ys)
gathered-append xs ys a b =
    let ga = AllCount-gathered xs a in
    let gb = AllCount-gathered ys b in
    only_one (gathered (xs ++ ys)) (merged_two (gathered xs) (gathered ys)) (Rising-gathered (xs ++ ys))
    (Rising-joined (gathered xs) (gathered ys) (Rising-gathered ys)) (AllCount-gathered (xs ++ ys) (AllCount-append xs ys a b))
    (AllCount-joined (gathered xs) (gathered ys) ga gb)
    (λ t d. omega (arith, times-gathered t d (xs ++ ys), times-append t d xs ys, times-joined t d (gathered xs) (gathered ys), times-gathered t d xs, times-gathered t d ys))

pub AllCount-once : (s : List (ℕ × ℕ)) → AllCount (map once s)
AllCount-once [] = tt
AllCount-once (o ∷ s) = (omega arith, AllCount-once s)

map-once : (s u : List (ℕ × ℕ)) → map once (s ++ u) ≡ map once s ++ map once u
map-once [] u = refl
map-once (o ∷ s) u = ap (λ t. once o ∷ t) (map-once s u)

-- the postings of two lists, one after the other
pub postings-append : (s u : List (ℕ × ℕ)) → term_postings (s ++ u) ≡ merged_two (term_postings s) (term_postings u)
postings-append s u = ap (λ t. gathered t) (map-once s u) ∙ gathered-append (map once s) (map once u) (AllCount-once s) (AllCount-once u)

-- the runs, merged, are the postings of all
pub merged-runs : (cap count : ℕ) (s : List (ℕ × ℕ)) → length s ≤ count * cap → merged (first_runs cap count s) ≡ term_postings s
merged-runs cap zero [] h = refl
merged-runs cap zero (o ∷ s) h = absurd (omega arith)
merged-runs cap (suc count) s h =
    let rest : length (drop cap s) ≤ count * cap = grind (arith, common_steps) in
    let e : merged (first_runs cap count (drop cap s)) ≡ term_postings (drop cap s) = merged-runs cap count (drop cap s) rest in
    let whole : take cap s ++ drop cap s ≡ s = grind (arith, common_steps) in
    ap (λ t. merged_two (term_postings (take cap s)) t) e ∙ sym (postings-append (take cap s) (drop cap s)) ∙ ap (λ t. term_postings t) whole

pub merged-all : (cap : ℕ) (s : List (ℕ × ℕ)) → 1 ≤ cap → merged (runs_of cap s) ≡ term_postings s
merged-all cap s h = merged-runs cap ((length s + cap - 1) / cap) s (grind arith)
