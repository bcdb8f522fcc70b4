-- The entries of a part are determined by its bytes, and those of a block are read from its place on.
use Rattle.std.proofs.Common.{arith, suc, zero, ◌≡◌, ◌≢◌, ◌^◌, ◌+◌, ◌-◌, ◌*◌, ◌/◌, ◌%◌, ◌<◌, ◌==◌, ◌&&◌, ◌||◌, ◌++◌, ℕ, Bool, true, false, List, [], ◌∷◌, length, take, drop, Some, None, refl, sym, ◌∙◌, ap, subst, cond, length-append, length-take, append_assoc, append-nil, take-append-drop, nat_le, slice_get, get_or, slice_index}
use Rattle.std.specs.declared.option.Option.{Option}
use Rattle.std.proofs.lemmas.Grind.{common_steps}
use Rattle.std.proofs.lemmas.Bool.Decides.{nat_tests}
use Rattle.std.proofs.lemmas.List.{drop_at, append_cancel_left}
use Rattle.std.proofs.Math.Seq.{take-append_seam}
use Rattle.std.proofs.lemmas.Nat.{be_bytes_4, from_be_bytes-to_be_bytes_4}
use Rattle.std.specs.Int.{from_be_bytes, w32}
use Rattle.mg_defs.specs.Numbers.{four}
use Rattle.mg_defs.specs.Front.{Entry, Found, IsFront, AreEntries, entry_bytes, front, front_from, whole_at, places_from, last_string, read_entry, read_whole, read_cut, is_below, shared}
use Rattle.mg_defs.proofs.EntryLaws.{front_append, places_append, read_written}

entry_not_empty : (i : ℕ) (before : List ℕ) (e : Entry) (rest : List ℕ) → [] ≢ entry_bytes i before e ++ rest
unfolding entry_bytes
entry_not_empty i before e rest = by_test (i % 4 == 0)
  where
    by_test : (b : Bool) → [] ≢ cond b (length e.string ∷ (e.string ++ e.field)) (shared before e.string ∷ (length e.string - shared before e.string) ∷
        (drop (shared before e.string) e.string ++ e.field)) ++ rest
    by_test true h = cc
    by_test false h = cc

pub same_entry : (a b : Entry) (m n : ℕ) → ◌≡◌ {A = Option Found} (Some (record { entry = a; size = m })) (Some (record { entry = b; size = n })) → a ≡ b
same_entry a b m n h = let e : ◌≡◌ {A = Found} (record { entry = a; size = m }) (record { entry = b; size = n }) = cc in ap (λ (f : Found). f.entry) e

-- entries at the front of others are the first of them
pub prefix_of : (width i : ℕ) (before : List ℕ) (es all : List Entry) (tail : List ℕ) → AreEntries width i before es → AreEntries width i before all →
    front_from i before all ≡ front_from i before es ++ tail →
    (rest : List Entry) × (all ≡ es ++ rest) × (tail ≡ front_from (i + length es) (last_string before es) rest)
unfolding front_from
prefix_of width i before [] all tail es_are all_are h = (all, refl, sym h ∙ ap (λ n. front_from n before all) (omega arith))
prefix_of width i before (e ∷ es) [] tail es_are all_are h =
    absurd (entry_not_empty i before e (front_from (i + 1) e.string es ++ tail)
    (h ∙ append_assoc (entry_bytes i before e) (front_from (i + 1) e.string es) tail))
prefix_of width i before (e ∷ es) (a ∷ all) tail es_are all_are h =
    let g : entry_bytes i before a ++ front_from (i + 1) a.string all ≡ entry_bytes i before e ++ (front_from (i + 1) e.string es ++ tail) = h
    ∙ append_assoc (entry_bytes i before e) (front_from (i + 1) e.string es) tail in
    let same : a ≡ e = same_entry a e _ _ (sym (read_written width i before a (front_from (i + 1) a.string all) all_are.0) ∙ ap (read_entry width i before) g
    ∙ read_written width i before e (front_from (i + 1) e.string es ++ tail) es_are.0) in
    let left : entry_bytes i before e ++ front_from (i + 1) e.string all ≡ entry_bytes i before e
    ++ (front_from (i + 1) e.string es ++ tail) = ap (λ (x : Entry). entry_bytes i before x ++ front_from (i + 1) x.string all) (sym same) ∙ g in
    let more = prefix_of width (i + 1) e.string es all tail es_are.1 (subst (λ (x : Entry). AreEntries width (i + 1) x.string all) same all_are.1)
    (append_cancel_left (entry_bytes i before e) _ _ left) in
    (more.0, ap (λ t. a ∷ t) more.1 ∙ ap (λ x. x ∷ (es ++ more.0)) same, more.2 ∙ ap (λ n. front_from n (last_string e.string es) more.0) (omega arith))

pub slice_get-behind : (es fs : List Entry) → slice_get (es ++ fs) (length es) ≡ slice_get fs 0
slice_get-behind [] fs = refl
slice_get-behind (e ∷ es) fs = slice_get-behind es fs

-- entries of equal bytes are equal
pub one_front : (width : ℕ) (bytes : List ℕ) (es fs : List Entry) → IsFront width bytes es → IsFront width bytes fs → es ≡ fs
unfolding front_from
one_front width bytes es fs is other =
    let p = prefix_of width 0 [] fs es [] other.entries is.entries (sym is.bytes_are ∙ other.bytes_are ∙ sym (append-nil (front fs))) in
    p.1 ∙ ap (λ t. fs ++ t) (no_entries (0 + length fs) (last_string [] fs) p.0 p.2) ∙ append-nil fs
  where
    no_entries : (i : ℕ) (before : List ℕ) (rest : List Entry) → [] ≡ front_from i before rest → rest ≡ []
    no_entries i before [] e = refl
    no_entries i before (x ∷ rest) e = absurd (entry_not_empty i before x (front_from (i + 1) x.string rest) e)

-- ---- places

pub four_long : (n : ℕ) → length (four n) ≡ 4
unfolding four
four_long n = refl

-- four bytes for each whole entry
pub places_long : (i : ℕ) (before : List ℕ) (at : ℕ) (es : List Entry) → length (places_from i before at es) + 4 * ((i + 3) / 4) ≡ 4 * ((i + length es + 3) / 4)
unfolding places_from
places_long i before at [] = omega arith
places_long i before at (e ∷ es) = by_test (i % 4 == 0) refl (places_from (i + 1) e.string (at + length (entry_bytes i before e)) es)
    (places_long (i + 1) e.string (at + length (entry_bytes i before e)) es)
  where
    by_test : (b : Bool) → (i % 4 == 0) ≡ b → (more : List ℕ) → length more + 4 * ((i + 1 + 3) / 4) ≡ 4 * ((i + 1 + length es + 3) / 4) →
        length (cond b (four at) [] ++ more) + 4 * ((i + 3) / 4) ≡ 4 * ((i + suc (length es) + 3) / 4)
    by_test true whole more h = let w : i % 4 ≡ 0 = grind (arith, nat_tests) in omega (arith, length-append (four at) more, four_long at, h, w)
    by_test false cut more h = let w : i % 4 ≢ 0 = grind (arith, nat_tests) in omega (arith, h, w)

pub whole_long : (es : List Entry) → length (whole_at es) ≡ 4 * ((length es + 3) / 4)
whole_long es = omega (arith, places_long 0 [] 0 es)

-- the place of a whole entry stands among the places
pub place_there : (es : List Entry) (e : Entry) (fs : List Entry) (block : ℕ) → length es ≡ 4 * block → take 4 (drop (4 * block) (whole_at (es ++ e ∷ fs))) ≡ four (length (front es))
unfolding places_from
place_there es e fs block long =
    let n : 0 + length es ≡ length es = omega arith in
    let whole : (length es % 4 == 0) ≡ true = grind (arith, nat_tests) in
    let tail = places_from (length es + 1) e.string (length (front es) + length (entry_bytes (length es) (last_string [] es) e)) fs in
    let all : whole_at (es ++ e ∷ fs) ≡ whole_at es ++ (four (length (front es)) ++ places_from (length es + 1) e.string
    (length (front es) + length (entry_bytes (length es) (last_string [] es) e)) fs) =
    places_append 0 [] 0 es (e ∷ fs) ∙ ap (λ m. whole_at es ++ places_from m (last_string [] es) (0 + length (front es)) (e ∷ fs)) n
    ∙ ap (λ m. whole_at es ++ places_from (length es) (last_string [] es) m (e ∷ fs)) (omega arith)
    ∙ ap (λ b. whole_at es ++ (cond b (four (length (front es))) [] ++ tail)) whole in
    let before : length (whole_at es) ≡ 4 * block = omega (arith, places_long 0 [] 0 es, long) in
    ap (λ t. take 4 (drop (4 * block) t)) all ∙ ap (take 4) (drop_at (whole_at es) (four (length (front es)) ++ tail) (4 * block) before)
    ∙ ap (λ m. take m (four (length (front es)) ++ tail)) (sym (four_long (length (front es)))) ∙ take_front (four (length (front es))) tail
  where
    take_front : (xs ys : List ℕ) → take (length xs) (xs ++ ys) ≡ xs
    take_front xs ys = grind (arith, common_steps)

-- ---- a block's first entry needs no string before

whole_again : (width j : ℕ) (before other bytes : List ℕ) (it : Found) → read_whole width j before bytes ≡ Some it → read_whole width 0 other bytes ≡ Some it
whole_again width j before other [] it h = absurd cc
whole_again width j before other (n ∷ bytes) it h = by_tests (nat_le n 255) (nat_le (n + width) (length bytes)) (j == 0 || is_below before (take n bytes)) h
  where
    found : Found
    found = record { entry = record { string = take n bytes; field = take width (drop n bytes) }; size = n + width + 1 }

    by_tests : (a b d : Bool) → cond (a && (b && d)) (Some (record { entry = record { string = take n bytes; field = take width (drop n bytes) }; size = n + width + 1 })) None ≡ Some it →
        cond (a && (b && true)) (Some (record { entry = record { string = take n bytes; field = take width (drop n bytes) }; size = n + width + 1 })) None ≡ Some it
    by_tests true true true e = e
    by_tests true true false e = absurd cc
    by_tests true false d e = absurd cc
    by_tests false b d e = absurd cc

pub read_first : (width j : ℕ) (before other bytes : List ℕ) (it : Found) → j % 4 ≡ 0 → read_entry width j before bytes ≡ Some it → read_entry width 0 other bytes ≡ Some it
unfolding read_entry
read_first width j before other bytes it whole h =
    let t : (j % 4 == 0) ≡ true = grind (arith, nat_tests) in
    whole_again width j before other bytes it (ap (λ b. cond b (read_whole width j before bytes) (read_cut width before bytes)) (sym t) ∙ h)

pub read_later : (width j k : ℕ) (before bytes : List ℕ) (it : Found) → j % 4 ≡ k → 0 < k → read_entry width j before bytes ≡ Some it → read_entry width k before bytes ≡ Some it
unfolding read_entry
read_later width j k before bytes it same some h =
    let t : (j % 4 == 0) ≡ false = grind (arith, nat_tests) in
    let u : (k % 4 == 0) ≡ false = grind (arith, nat_tests) in
    ap (λ b. cond b (read_whole width k before bytes) (read_cut width before bytes)) u ∙ ap (λ b. cond b (read_whole width j before bytes) (read_cut width before bytes)) (sym t) ∙ h

pub some_cons : (es : List Entry) (j : ℕ) → j < length es → (e : Entry) × (fs : List Entry) × (es ≡ take j es ++ e ∷ fs) × (slice_get es j ≡ Some e) × (take (suc j) es ≡ take j es ++ e ∷ [])
some_cons [] j h = absurd (omega arith)
some_cons (e ∷ es) zero h = (e, es, refl, refl, refl)
some_cons (e ∷ es) (suc j) h =
    let more = some_cons es j (omega arith) in
    (more.0, more.1, ap (λ t. e ∷ t) more.2, more.3, ap (λ t. e ∷ t) more.4)

-- a block's place tells the bytes of the entries before it
pub place_of_block : (es : List Entry) (block : ℕ) → 4 * block < length es → take 4 (drop (4 * block) (whole_at es)) ≡ four (length (front (take (4 * block) es)))
place_of_block es block within =
    let some = some_cons es (4 * block) within in
    let long : length (take (4 * block) es) ≡ 4 * block = simp length-take (omega arith) in
    ap (λ t. take 4 (drop (4 * block) (whole_at t))) some.2 ∙ place_there (take (4 * block) es) some.0 some.1 block long

-- with which the part begins
pub front_begins : (es : List Entry) (j : ℕ) → take (length (front (take j es))) (front es) ≡ front (take j es)
front_begins es j =
    let head = take j es in
    ap (λ t. take (length (front (take j es))) (front t)) (sym (take-append-drop j es)) ∙ ap (take (length (front head))) (front_append 0 [] head (drop j es))
    ∙ take-append_seam (front head) (front_from (0 + length head) (last_string [] head) (drop j es))

pub last_taken : (before : List ℕ) (es : List Entry) (i j : ℕ) (e : Entry) → j ≡ suc i → slice_get es i ≡ Some e → last_string before (take j es) ≡ e.string
last_taken before [] i j e next h = absurd cc
last_taken before (x ∷ es) zero j e next h = let same : x ≡ e = cc in ap (λ m. last_string before (take m (x ∷ es))) next ∙ ap (λ (y : Entry). y.string) same
last_taken before (x ∷ es) (suc i) j e next h = ap (λ m. last_string before (take m (x ∷ es))) next ∙ last_taken x.string es i (suc i) e refl h

pub four_same : (n m : ℕ) → n < 2 ^ 32 → m < 2 ^ 32 → four n ≡ four m → n ≡ m
unfolding four
four_same n m small few e = sym (from_be_bytes-to_be_bytes_4 n small) ∙ ap (from_be_bytes w32) e ∙ from_be_bytes-to_be_bytes_4 m few

pub four_of : (bs : List ℕ) (n : ℕ) → length bs ≡ 4 → ((i : ℕ) → get_or bs i 0 < 256) → n
    ≡ slice_index bs 0 * 16777216 + slice_index bs 1 * 65536 + slice_index bs 2 * 256 + slice_index bs 3 → four n ≡ bs
unfolding four
four_of bs n long small e = be_bytes_4 bs n long small (e ∙ sums bs)
  where
    sums : (xs : List ℕ) → slice_index xs 0 * 16777216 + slice_index xs 1 * 65536 + slice_index xs 2 * 256 + slice_index xs 3 ≡ from_be_bytes w32 xs
    sums xs = refl
