-- The runs that are written, one more at a time.
use Rattle.std.proofs.Common.{◌≡◌, ℕ, suc, ◌+◌, ◌-◌, ◌*◌, ◌/◌, ◌<◌, ◌≤◌, List, [], ◌∷◌, ◌++◌, length, refl, ap, ◌∙◌, arith, take, drop, map}
use Rattle.std.specs.Simd.{first_chunks}
use Rattle.std.proofs.Math.Nat.{div-mul-le_self, lt-div-mul-add}
use Rattle.std.proofs.lemmas.List.{length-drop, take-append-le, take_all}
use Rattle.std.proofs.lemmas.Nat.{div_below, le-div}
use Rattle.mg_defs.specs.Postings.{term_postings}
use Rattle.mg_defs.specs.Runs.{first_runs}
use Rattle.mg_runs.specs.FinishedRuns.{finished}
use Rattle.mg_runs.proofs.Chunks.{chunks-more, chunks-same}

pub map_end : {X Y : Type 0} (f : X → Y) (xs : List X) (y : X) → map f (xs ++ y ∷ []) ≡ map f xs ++ f y ∷ []
map_end f [] y = refl
map_end f (x ∷ xs) y = ap (λ t. f x ∷ t) (map_end f xs y)

div_is : (a q cap : ℕ) → 1 ≤ cap → q * cap ≤ a → a < suc q * cap → a / cap ≡ q
div_is a q cap some low high =
    let h : a / cap < suc q = div_below a cap (suc q) some high in
    let l : q ≤ a / cap = le-div q a cap some low in
    omega arith

pub finished-low : (cap n : ℕ) → 1 ≤ cap → finished cap n * cap ≤ n - 1
finished-low cap n some = div-mul-le_self (n - 1) cap

pub none_finished : (cap : ℕ) → 1 ≤ cap → finished cap 0 ≡ 0
none_finished cap some = let h : 0 / cap < 1 = div_below 0 cap 1 some (omega arith) in omega arith

-- what is not in a finished run fits in the pool
pub rest_fits : (cap n : ℕ) → 1 ≤ cap → n - finished cap n * cap ≤ cap
rest_fits cap n some = let high = lt-div-mul-add {a = n - 1} {b = cap} some in omega (arith, high)

-- how many are finished while the pool has room, and where it is full
pub finished-room : (cap n : ℕ) → 1 ≤ cap → n - finished cap n * cap < cap → finished cap (n + 1) ≡ finished cap n
finished-room cap n some room =
    let q : ℕ = finished cap n in
    let low : q * cap ≤ n - 1 = finished-low cap n some in
    let next : suc q * cap ≡ cap + q * cap = omega arith in
    div_is (n + 1 - 1) q cap some (omega arith) (omega arith)

pub finished-full : (cap n : ℕ) → 1 ≤ cap → n - finished cap n * cap ≡ cap → finished cap (n + 1) ≡ suc (finished cap n)
finished-full cap n some full =
    let q : ℕ = finished cap n in
    let low : q * cap ≤ n - 1 = finished-low cap n some in
    let next : suc q * cap ≡ cap + q * cap = omega arith in
    let more : suc (suc q) * cap ≡ cap + (cap + q * cap) = omega arith in
    div_is (n + 1 - 1) (suc q) cap some (omega arith) (omega arith)

-- a further occurrence changes no finished run
pub first_runs-more : (cap count : ℕ) (s : List (ℕ × ℕ)) (o : ℕ × ℕ) → count * cap ≤ length s → first_runs cap count (s ++ o ∷ []) ≡ first_runs cap count s
first_runs-more cap count s o h =
    ap (λ t. map (λ x. term_postings x) t) (chunks-same cap count (s ++ o ∷ []) s (take-append-le (count * cap) s (o ∷ []) h))

-- a full pool is the next run
pub first_runs-full : (cap count : ℕ) (s : List (ℕ × ℕ)) → length s ≡ suc count * cap → first_runs cap (suc count) s ≡ first_runs cap count s ++ term_postings (drop (count * cap) s) ∷ []
first_runs-full cap count s h =
    let next : suc count * cap ≡ cap + count * cap = omega arith in
    let whole = take_all cap (drop (count * cap) s) (omega (arith, h, length-drop (count * cap) s)) in
    ap (λ t. map (λ x. term_postings x) t) (chunks-more cap count s)
    ∙ map_end (λ x. term_postings x) (first_chunks cap count s) (take cap (drop (count * cap) s))
    ∙ ap (λ t. first_runs cap count s ++ term_postings t ∷ []) whole
