-- Laws of front coding.
use Rattle.std.proofs.Common.{◌↔◌, arith, suc, zero, ◌≡◌, ◌≢◌, ◌+◌, ◌≤◌, ◌-◌, ◌%◌, ◌==◌, ◌&&◌, ◌||◌, ◌++◌, ℕ, Bool, false, true, List, [], ◌∷◌, length, take, drop, Some, None, refl, sym, ◌∙◌, ap, subst, length-take, length-drop, length-append, append_assoc, append-nil, cond, nat_lt, nat_le, add-one, take-append-drop, slice_get}
use Rattle.std.proofs.lemmas.List.{drop-drop}
use Rattle.std.specs.declared.option.Option.{Option}
use Rattle.std.proofs.lemmas.Grind.{common_steps}
use Rattle.std.proofs.lemmas.Bool.Decides.{nat_tests}
use Rattle.std.specs.Ordering.{nat_cmp, is_lt, ordering_then}
use Rattle.std.specs.Cmp.Lexicographic.{slice_cmp}
use Rattle.std.specs.declared.cmp.Ordering.TheVariants.{Less, Equal, Greater}
use Rattle.mg_defs.specs.Numbers.{four}
use Rattle.mg_defs.specs.Front.{Entry, Found, StandsFirst, NoEntry, is_below, shared, entry_bytes, IsEntry, AreEntries, front_from, front, last_string, places_from, whole_at, rises_after_prefix, read_whole, read_cut, read_entry}

-- ---- the shared prefix

pub shared_within : (xs ys : List ℕ) → (shared xs ys ≤ length xs) × (shared xs ys ≤ length ys)
unfolding shared
shared_within [] ys = (omega arith, omega arith)
shared_within (x ∷ xs) [] = (omega arith, omega arith)
shared_within (x ∷ xs) (y ∷ ys) = by_test (x == y) (shared xs ys) (shared_within xs ys)
  where
    by_test : (b : Bool) (n : ℕ) → (n ≤ length xs) × (n ≤ length ys) → (cond b (n + 1) 0 ≤ length (x ∷ xs)) × (cond b (n + 1) 0 ≤ length (y ∷ ys))
    by_test true n h = (omega arith, omega arith)
    by_test false n h = (omega arith, omega arith)

eq_from : (x y : ℕ) → (x == y) ≡ true → x ≡ y
eq_from x y h = grind (arith, nat_tests)

eq_itself : (x : ℕ) → (x == x) ≡ true
eq_itself x = grind (arith, nat_tests)

lt_itself : (x : ℕ) → nat_lt x x ≡ false
lt_itself x = grind (arith, nat_tests)

pub shared_same : (xs ys : List ℕ) → take (shared xs ys) xs ≡ take (shared xs ys) ys
unfolding shared
shared_same [] ys = refl
shared_same (x ∷ xs) [] = refl
shared_same (x ∷ xs) (y ∷ ys) = by_test (x == y) refl (shared xs ys) (shared_same xs ys)
  where
    by_test : (b : Bool) → (x == y) ≡ b → (n : ℕ) → take n xs ≡ take n ys → take (cond b (n + 1) 0) (x ∷ xs) ≡ take (cond b (n + 1) 0) (y ∷ ys)
    by_test true e n h = rw (add-one n, eq_from x y e) (ap (λ t. y ∷ t) h)
    by_test false e n h = refl

differ_from : (x y : ℕ) → (x == y) ≡ false → x ≢ y
differ_from x y h = grind (arith, nat_tests)

-- where both go on behind it, they differ
pub shared_differs : (xs ys : List ℕ) (x y : ℕ) → slice_get xs (shared xs ys) ≡ Some x → slice_get ys (shared xs ys) ≡ Some y → x ≢ y
unfolding shared
shared_differs [] ys x y h k = absurd cc
shared_differs (a ∷ xs) [] x y h k = absurd cc
shared_differs (a ∷ xs) (b ∷ ys) x y h k = by_test (a == b) refl (shared xs ys) (shared_differs xs ys x y) h k
  where
    by_test : (t : Bool) → (a == b) ≡ t → (n : ℕ) → (slice_get xs n ≡ Some x → slice_get ys n ≡ Some y → x ≢ y) →
        slice_get (a ∷ xs) (cond t (n + 1) 0) ≡ Some x → slice_get (b ∷ ys) (cond t (n + 1) 0) ≡ Some y → x ≢ y
    by_test true e n more h k = more (rw (add-one n) at h) (rw (add-one n) at k)
    by_test false e n more h k =
        let first : a ≡ x = cc in
        let second : b ≡ y = cc in
        rw (← first, ← second) (differ_from a b e)

below_cons : (x y : ℕ) (xs ys : List ℕ) → is_below (x ∷ xs) (y ∷ ys) ≡ (nat_lt x y || (x == y && is_below xs ys))
below_cons x y xs ys = by_tests (nat_lt x y) (x == y)
  where
    by_tests : (b c : Bool) → is_lt (ordering_then (cond b Less (cond c Equal Greater)) (slice_cmp nat_cmp xs ys)) ≡ (b || (c && is_lt (slice_cmp nat_cmp xs ys)))
    by_tests true c = refl
    by_tests false true = refl
    by_tests false false = refl

false_or : (b : Bool) → (b || false) ≡ b
false_or true = refl
false_or false = refl

-- after it the strings differ as their order says
pub shared_rises : (xs ys : List ℕ) → is_below xs ys ≡ true → rises_after_prefix (drop (shared xs ys) xs) (drop (shared xs ys) ys) ≡ true
unfolding shared
shared_rises [] [] h = absurd cc
shared_rises [] (y ∷ ys) h = refl
shared_rises (x ∷ xs) [] h = absurd cc
shared_rises (x ∷ xs) (y ∷ ys) h = by_test (x == y) refl (shared xs ys) (shared_rises xs ys)
  where
    by_test : (b : Bool) → (x == y) ≡ b → (n : ℕ) → (is_below xs ys ≡ true → rises_after_prefix (drop n xs) (drop n ys) ≡ true) →
        rises_after_prefix (drop (cond b (n + 1) 0) (x ∷ xs)) (drop (cond b (n + 1) 0) (y ∷ ys)) ≡ true
    by_test true e n more =
        let same : x ≡ y = eq_from x y e in
        let less : nat_lt x y ≡ false = rw same (lt_itself y) in
        let rest : is_below xs ys ≡ true = sym (ap (λ b. b || (x == y && is_below xs ys)) less ∙ ap (λ b. b && is_below xs ys) e) ∙ sym (below_cons x y xs ys) ∙ h in
        rw (add-one n) (more rest)
    by_test false e n more = sym (ap (λ b. nat_lt x y || (b && is_below xs ys)) e ∙ false_or (nat_lt x y)) ∙ sym (below_cons x y xs ys) ∙ h

-- a suffix that rises makes a string above the one before, with just that prefix
apart : (x y : ℕ) → nat_lt x y ≡ true → (x == y) ≡ false
apart x y h = grind (arith, nat_tests)

pub joined_shared : (k : ℕ) (before suffix : List ℕ) → k ≤ length before → rises_after_prefix (drop k before) suffix ≡ true → shared before (take k before ++ suffix) ≡ k
unfolding shared
joined_shared zero [] [] within h = refl
joined_shared zero [] (s ∷ suffix) within h = refl
joined_shared zero (b ∷ before) [] within h = refl
joined_shared zero (b ∷ before) (s ∷ suffix) within h = ap (λ t. cond t (shared before suffix + 1) 0) (apart b s h)
joined_shared (suc k) [] suffix within h = absurd (omega arith)
joined_shared (suc k) (b ∷ before) suffix within h =
    ap (λ t. cond t (shared before (take k before ++ suffix) + 1) 0) (eq_itself b) ∙ ap (λ n. n + 1) (joined_shared k before suffix (omega arith) h) ∙ add-one k

pub joined_above : (k : ℕ) (before suffix : List ℕ) → k ≤ length before → rises_after_prefix (drop k before) suffix ≡ true → is_below before (take k before ++ suffix) ≡ true
joined_above zero [] [] within h = absurd cc
joined_above zero [] (s ∷ suffix) within h = refl
joined_above zero (b ∷ before) [] within h = absurd cc
joined_above zero (b ∷ before) (s ∷ suffix) within h = below_cons b s before suffix ∙ ap (λ t. t || (b == s && is_below before suffix)) h
joined_above (suc k) [] suffix within h = absurd (omega arith)
joined_above (suc k) (b ∷ before) suffix within h =
    below_cons b b before (take k before ++ suffix) ∙ ap (λ t. t || (b == b && is_below before (take k before ++ suffix))) (lt_itself b)
    ∙ ap (λ t. t && is_below before (take k before ++ suffix)) (eq_itself b) ∙ joined_above k before suffix (omega arith) h

-- ---- reading what was written

both : (b c : Bool) → b ≡ true → c ≡ true → (b && c) ≡ true
both b c e f = ap (λ x. x && c) e ∙ f

le_true : (a b : ℕ) → a ≤ b → nat_le a b ≡ true
le_true a b h = grind (arith, nat_tests)

le_from : (a b : ℕ) → nat_le a b ≡ true → a ≤ b
le_from a b h = grind (arith, nat_tests)

take_front : (xs ys : List ℕ) → take (length xs) (xs ++ ys) ≡ xs
take_front xs ys = grind (arith, common_steps)

drop_front : (xs ys : List ℕ) → drop (length xs) (xs ++ ys) ≡ ys
drop_front xs ys = grind (arith, common_steps)

found : {A : Type 0} (b : Bool) (x y : A) → b ≡ true → cond b x y ≡ x
found b x y e = ap (λ t. cond t x y) e

same_found : (a b c d : List ℕ) (m n : ℕ) → a ≡ b → c ≡ d → m ≡ n →
    ◌≡◌ {A = Found} (record { entry = record { string = a; field = c }; size = m }) (record { entry = record { string = b; field = d }; size = n })
same_found a b c d m n p q r = λ i. record { entry = record { string = p i; field = q i }; size = r i }

fits : (s f rest : List ℕ) (width : ℕ) → length f ≡ width → nat_le (length s + width) (length (s ++ f ++ rest)) ≡ true
fits s f rest width h = le_true _ _ (simp length-append (omega arith))

string_first : (s f rest : List ℕ) → take (length s) (s ++ f ++ rest) ≡ s
string_first s f rest = rw (append_assoc s f rest) (take_front s (f ++ rest))

field_next : (s f rest : List ℕ) (width : ℕ) → length f ≡ width → take width (drop (length s) (s ++ f ++ rest)) ≡ f
field_next s f rest width h = rw (append_assoc s f rest, drop_front s (f ++ rest), ← h) (take_front f rest)

written_whole : (width i : ℕ) (before s f rest : List ℕ) → length s ≤ 255 → length f ≡ width → (i == 0 || is_below before s) ≡ true →
    read_whole width i before (length s ∷ (s ++ f ++ rest)) ≡ Some (record { entry = record { string = s; field = f }; size = suc (length (s ++ f)) })
written_whole width i before s f rest short field above =
    found _ _ _ (both _ _ (le_true _ _ short) (both _ _ (fits s f rest width field) (ap (λ t. i == 0 || is_below before t) (string_first s f rest) ∙ above)))
    ∙ ap Some (same_found _ _ _ _ _ _ (string_first s f rest) (field_next s f rest width field) (simp length-append (omega arith)))

written_cut : (width k : ℕ) (before s f rest : List ℕ) → k ≤ length before → k + length s ≤ 255 → length f ≡ width → rises_after_prefix (drop k before) s ≡ true →
    read_cut width before (k ∷ length s ∷ (s ++ f ++ rest)) ≡ Some (record { entry = record { string = take k before ++ s; field = f }; size = suc (suc (length (s ++ f))) })
written_cut width k before s f rest within short field above =
    found _ _ _ (both _ _ (le_true _ _ within) (both _ _ (le_true _ _ short) (both _ _ (fits s f rest width field) (ap (rises_after_prefix (drop k before)) (string_first s f rest) ∙ above))))
    ∙ ap Some (same_found _ _ _ _ _ _ (ap (λ t. take k before ++ t) (string_first s f rest)) (field_next s f rest width field) (simp length-append (omega arith)))

not_first : (i : ℕ) (b : Bool) → (i % 4 == 0) ≡ false → (i == 0 || b) ≡ true → b ≡ true
not_first i b cut h = grind (arith, nat_tests)

-- an entry that stands first is read
pub read_written : (width i : ℕ) (before : List ℕ) (e : Entry) (rest : List ℕ) → IsEntry width i before e →
    read_entry width i before (entry_bytes i before e ++ rest) ≡ Some (record { entry = e; size = length (entry_bytes i before e) })
unfolding read_entry entry_bytes
read_written width i before e rest is = by_test (i % 4 == 0) refl
  where
    cut_bytes : List ℕ
    cut_bytes = shared before e.string ∷ (length e.string - shared before e.string) ∷ (drop (shared before e.string) e.string ++ e.field)

    whole_bytes : List ℕ
    whole_bytes = length e.string ∷ (e.string ++ e.field)

    k : ℕ
    k = shared before e.string

    by_test : (b : Bool) → (i % 4 == 0) ≡ b →
        cond b (read_whole width i before (cond b (length e.string ∷ (e.string ++ e.field))
        (shared before e.string ∷ (length e.string - shared before e.string) ∷ (drop (shared before e.string) e.string ++ e.field)) ++ rest))
        (read_cut width before (cond b (length e.string ∷ (e.string ++ e.field)) (shared before e.string ∷ (length e.string - shared before e.string) ∷
        (drop (shared before e.string) e.string ++ e.field)) ++ rest))
        ≡ Some (record {
          entry = e;
          size = length (cond b (length e.string ∷ (e.string ++ e.field))
              (shared before e.string ∷ (length e.string - shared before e.string) ∷ (drop (shared before e.string) e.string ++ e.field)));
        })
    by_test true whole = written_whole width i before e.string e.field rest is.short is.field is.above
    by_test false cut =
        let within = shared_within before e.string in
        let above : is_below before e.string ≡ true = not_first i (is_below before e.string) cut is.above in
        let long : length (drop (shared before e.string) e.string) ≡ length e.string - shared before e.string = length-drop (shared before e.string) e.string in
        let same : take (shared before e.string) before ++ drop (shared before e.string) e.string
        ≡ e.string = ap (λ t. t ++ drop (shared before e.string) e.string) (shared_same before e.string)
        ∙ take-append-drop (shared before e.string) e.string in
        let read = written_cut width (shared before e.string) before (drop (shared before e.string) e.string) e.field rest within.0
        (omega (arith, long, within.1, is.short)) is.field (shared_rises before e.string above) in
        ap (λ n. read_cut width before (shared before e.string ∷ n ∷ (drop (shared before e.string) e.string ++ e.field ++ rest))) (sym long) ∙ read ∙ ap Some (same_found _ _ _ _ _ _ same refl refl)

left : (b c : Bool) → (b && c) ≡ true → b ≡ true
left true c h = refl
left false c h = absurd cc

right : (b c : Bool) → (b && c) ≡ true → c ≡ true
right true c h = h
right false c h = absurd cc

tested : (b : Bool) (x it : Found) → cond b (Some x) None ≡ Some it → (b ≡ true) × (x ≡ it)
tested true x it h = (refl, cc)
tested false x it h = absurd cc

split : (xs : List ℕ) (n m : ℕ) → take n xs ++ take m (drop n xs) ++ drop (n + m) xs ≡ xs
split xs n m = append_assoc (take n xs) (take m (drop n xs)) (drop (n + m) xs) ∙ ap (λ t. take n xs ++ (take m (drop n xs) ++ t)) (sym (drop-drop m n xs))
    ∙ ap (λ t. take n xs ++ t) (take-append-drop m (drop n xs)) ∙ take-append-drop n xs

field_long : (n width : ℕ) (bytes : List ℕ) → n + width ≤ length bytes → length (take width (drop n bytes)) ≡ width
field_long n width bytes h = simp (length-take, length-drop) (omega arith)

string_long : (n width : ℕ) (bytes : List ℕ) → n + width ≤ length bytes → length (take n bytes) ≡ n
string_long n width bytes h = simp length-take (omega arith)

whole_so : (width i n : ℕ) (before bytes : List ℕ) → (i % 4 == 0) ≡ true → n ≤ 255 → n + width ≤ length bytes →
    (i == 0 || is_below before (take n bytes)) ≡ true → StandsFirst width i before (n ∷ bytes)
    (record { entry = record { string = take n bytes; field = take width (drop n bytes) }; size = n + width + 1 })
unfolding entry_bytes
whole_so width i n before bytes whole short enough above =
    let s = take n bytes in
    let f = take width (drop n bytes) in
    let long : length (take n bytes) ≡ n = string_long n width bytes enough in
    let far : length (take width (drop n bytes)) ≡ width = field_long n width bytes enough in
    let cut = shared before (take n bytes) ∷ (length (take n bytes) - shared before (take n bytes)) ∷ (drop (shared before (take n bytes)) (take n bytes) ++ take width (drop n bytes)) in
    record {
      entry = record { short = omega (arith, long); field = far; above = above };
      front =
          ap (λ t. n ∷ t) (sym (split bytes n width)) ∙ ap (λ m. m ∷ (s ++ f ++ drop (n + width) bytes)) (sym long)
          ∙ ap (λ m. length s ∷ (s ++ f ++ drop m (n ∷ bytes))) (sym (add-one (n + width)))
          ∙ ap (λ b. cond b (length s ∷ (s ++ f)) cut ++ drop (n + width + 1) (n ∷ bytes)) (sym whole);
      size = sym (ap (λ b. length (cond b (length s ∷ (s ++ f)) cut)) whole ∙ ap suc (length-append s f) ∙ omega (arith, long, far));
    }

whole_stands : (width i : ℕ) (before bytes : List ℕ) (it : Found) → (i % 4 == 0) ≡ true → read_whole width i before bytes ≡ Some it → StandsFirst width i before bytes it
whole_stands width i before [] it whole h = absurd cc
whole_stands width i before (n ∷ bytes) it whole h =
    let t = tested _ _ it h in
    let u = right _ _ t.0 in
    subst (StandsFirst width i before (n ∷ bytes)) t.1 (whole_so width i n before bytes whole (le_from n 255 (left _ _ t.0)) (le_from _ _ (left _ _ u)) (right _ _ u))

or_true : (b : Bool) → (b || true) ≡ true
or_true true = refl
or_true false = refl

two_more : (m : ℕ) → suc (suc m) ≡ m + 2
two_more m = omega arith

cut_so : (width i k n : ℕ) (before bytes : List ℕ) → (i % 4 == 0) ≡ false → k ≤ length before → k + n ≤ 255 → n + width ≤ length bytes →
    rises_after_prefix (drop k before) (take n bytes) ≡ true →
    StandsFirst width i before (k ∷ n ∷ bytes) (record {
      entry = record { string = take k before ++ take n bytes; field = take width (drop n bytes) };
      size = n + width + 2;
    })
unfolding entry_bytes
cut_so width i k n before bytes cut within short enough above =
    let s = take k before ++ take n bytes in
    let f = take width (drop n bytes) in
    let long : length (take n bytes) ≡ n = string_long n width bytes enough in
    let far : length (take width (drop n bytes)) ≡ width = field_long n width bytes enough in
    let near : length (take k before) ≡ k = simp length-take (omega arith) in
    let all : length (take k before ++ take n bytes) ≡ k + n = length-append (take k before) (take n bytes) ∙ omega (arith, near, long) in
    let same : shared before (take k before ++ take n bytes) ≡ k = joined_shared k before (take n bytes) within above in
    let tail : drop k (take k before ++ take n bytes) ≡ take n bytes = ap (λ m. drop m (take k before ++ take n bytes)) (sym near) ∙ drop_front (take k before) (take n bytes) in
    let code : ◌≡◌ {A = List ℕ} (shared before s ∷ (length s - shared before s) ∷ (drop (shared before s) s ++ f)) (k ∷ n ∷ (take n bytes ++ f)) =
    ap (λ m. m ∷ (length s - m) ∷ (drop m s ++ f)) same ∙ ap (λ m. k ∷ m ∷ (drop k s ++ f)) (ap (λ m. m - k) all ∙ omega arith) ∙ ap (λ t. k ∷ n ∷ (t ++ f)) tail in
    record {
      entry = record { short = omega (arith, all); field = far; above = ap (λ b. i == 0 || b) (joined_above k before (take n bytes) within above) ∙ or_true (i == 0) };
      front =
          ap (λ t. k ∷ n ∷ t) (sym (split bytes n width)) ∙ ap (λ m. k ∷ n ∷ (take n bytes ++ f ++ drop m (k ∷ n ∷ bytes))) (two_more (n + width))
          ∙ ap (λ t. t ++ drop (n + width + 2) (k ∷ n ∷ bytes)) (sym code)
          ∙ ap (λ b. cond b (length s ∷ (s ++ f)) (shared before s ∷ (length s - shared before s) ∷ (drop (shared before s) s ++ f))
          ++ drop (n + width + 2) (k ∷ n ∷ bytes)) (sym cut);
      size = sym (ap (λ b. length (cond b (length s ∷ (s ++ f)) (shared before s ∷ (length s - shared before s) ∷ (drop (shared before s) s ++ f)))) cut
          ∙ ap length code ∙ ap (λ m. suc (suc m)) (length-append (take n bytes) f) ∙ omega (arith, long, far));
    }

cut_stands : (width i : ℕ) (before bytes : List ℕ) (it : Found) → (i % 4 == 0) ≡ false → read_cut width before bytes ≡ Some it → StandsFirst width i before bytes it
cut_stands width i before [] it cut h = absurd cc
cut_stands width i before (k ∷ []) it cut h = absurd cc
cut_stands width i before (k ∷ n ∷ bytes) it cut h =
    let t = tested _ _ it h in
    let u = right _ _ t.0 in
    let v = right _ _ u in
    subst (StandsFirst width i before (k ∷ n ∷ bytes)) t.1 (cut_so width i k n before bytes cut (le_from _ _ (left _ _ t.0)) (le_from _ _ (left _ _ u)) (le_from _ _ (left _ _ v)) (right _ _ v))

pub read_stands : (width i : ℕ) (before bytes : List ℕ) (it : Found) → read_entry width i before bytes ≡ Some it → StandsFirst width i before bytes it
unfolding read_entry
read_stands width i before bytes it h = by_test (i % 4 == 0) refl h
  where
    by_test : (b : Bool) → (i % 4 == 0) ≡ b → cond b (read_whole width i before bytes) (read_cut width before bytes) ≡ Some it → StandsFirst width i before bytes it
    by_test true whole e = whole_stands width i before bytes it whole e
    by_test false cut e = cut_stands width i before bytes it cut e

-- nothing is read exactly where no entry stands first
pub none_stands : (width i : ℕ) (before bytes : List ℕ) → read_entry width i before bytes ≡ None → NoEntry width i before bytes
none_stands width i before bytes none e rest is same = some_is_not (sym (ap (read_entry width i before) same ∙ read_written width i before e rest is) ∙ none)
  where
    some_is_not : {x : Found} → Some x ≡ None → ⊥
    some_is_not e = cc

pub none_exactly : (width i : ℕ) (before bytes : List ℕ) → (read_entry width i before bytes ≡ None) ↔ NoEntry width i before bytes
none_exactly width i before bytes = (none_stands width i before bytes, λ absent. by_case (read_entry width i before bytes) refl absent)
  where
    by_case : (o : Option Found) → read_entry width i before bytes ≡ o → NoEntry width i before bytes → o ≡ None
    by_case None e absent = refl
    by_case (Some it) e absent = let there = read_stands width i before bytes it e in absurd (absent it.entry (drop it.size bytes) there.entry there.front)

-- ---- lists of entries

pub last_append : (before : List ℕ) (es fs : List Entry) → last_string before (es ++ fs) ≡ last_string (last_string before es) fs
last_append before [] fs = refl
last_append before (e ∷ es) fs = last_append e.string es fs

step_number : (i n : ℕ) → i + suc n ≡ i + 1 + n
step_number i n = omega arith

-- what follows some entries
pub front_append : (i : ℕ) (before : List ℕ) (es fs : List Entry) → front_from i before (es ++ fs) ≡ front_from i before es ++ front_from (i + length es) (last_string before es) fs
unfolding front_from
front_append i before [] fs = ap (λ n. front_from n before fs) (omega arith)
front_append i before (e ∷ es) fs =
    ap (λ t. entry_bytes i before e ++ t) (front_append (i + 1) e.string es fs)
    ∙ sym (append_assoc (entry_bytes i before e) (front_from (i + 1) e.string es) (front_from (i + 1 + length es) (last_string e.string es) fs))
    ∙ ap (λ n. entry_bytes i before e ++ front_from (i + 1) e.string es ++ front_from n (last_string e.string es) fs) (sym (step_number i (length es)))

pub front_one : (i : ℕ) (before : List ℕ) (e : Entry) → front_from i before (e ∷ []) ≡ entry_bytes i before e
unfolding front_from
front_one i before e = append-nil (entry_bytes i before e)

-- one entry more
pub front_more : (es : List Entry) (e : Entry) → front (es ++ e ∷ []) ≡ front es ++ entry_bytes (length es) (last_string [] es) e
front_more es e =
    front_append 0 [] es (e ∷ []) ∙ ap (λ t. front es ++ t) (front_one (0 + length es) (last_string [] es) e ∙ ap (λ n. entry_bytes n (last_string [] es) e) (omega arith))

pub entries_append : (width i : ℕ) (before : List ℕ) (es fs : List Entry) → AreEntries width i before es →
    AreEntries width (i + length es) (last_string before es) fs → AreEntries width i before (es ++ fs)
entries_append width i before [] fs es_are fs_are = let e : i + 0 ≡ i = omega arith in subst (λ n. AreEntries width n before fs) e fs_are
entries_append width i before (e ∷ es) fs es_are fs_are =
    (es_are.0, entries_append width (i + 1) e.string es fs es_are.1 (subst (λ n. AreEntries width n (last_string e.string es) fs) (step_number i (length es)) fs_are))

pub entries_more : (width : ℕ) (es : List Entry) (e : Entry) → AreEntries width 0 [] es → IsEntry width (length es) (last_string [] es) e → AreEntries width 0 [] (es ++ e ∷ [])
entries_more width es e es_are is = entries_append width 0 [] es (e ∷ []) es_are (subst (λ n. IsEntry width n (last_string [] es) e) (omega arith) is, tt)

pub entries_rest : (width i : ℕ) (before : List ℕ) (es fs : List Entry) → AreEntries width i before (es ++ fs) → AreEntries width (i + length es) (last_string before es) fs
entries_rest width i before [] fs are = subst (λ n. AreEntries width n before fs) (omega arith) are
entries_rest width i before (e ∷ es) fs are = subst (λ n. AreEntries width n (last_string e.string es) fs) (sym (step_number i (length es))) (entries_rest width (i + 1) e.string es fs are.1)

pub places_append : (i : ℕ) (before : List ℕ) (at : ℕ) (es fs : List Entry) → places_from i before at (es ++ fs) ≡ places_from i before at es
    ++ places_from (i + length es) (last_string before es) (at + length (front_from i before es)) fs
unfolding places_from front_from
places_append i before at [] fs = ap (λ n. places_from n before at fs) (omega arith) ∙ ap (λ n. places_from (i + 0) before n fs) (omega arith)
places_append i before at (e ∷ es) fs =
    let here : List ℕ = cond (i % 4 == 0) (four at) [] in
    let on = at + length (entry_bytes i before e) in
    ap (λ t. here ++ t) (places_append (i + 1) e.string on es fs)
    ∙ sym (append_assoc here (places_from (i + 1) e.string on es)
    (places_from (i + 1 + length es) (last_string e.string es) (on + length (front_from (i + 1) e.string es)) fs))
    ∙ ap (λ n. here ++ places_from (i + 1) e.string on es ++ places_from n (last_string e.string es) (on + length (front_from (i + 1) e.string es)) fs) (sym (step_number i (length es)))
    ∙ ap (λ n. here ++ places_from (i + 1) e.string on es ++ places_from (i + suc (length es)) (last_string e.string es) n fs) (simp length-append (omega arith))

pub whole_more : (es : List Entry) (e : Entry) → whole_at (es ++ e ∷ []) ≡ whole_at es ++ cond (length es % 4 == 0) (four (length (front es))) []
unfolding places_from
whole_more es e =
    places_append 0 [] 0 es (e ∷ []) ∙ ap (λ t. whole_at es ++ t) (append-nil (cond ((0 + length es) % 4 == 0) (four (0 + length (front es))) []))
    ∙ ap (λ n. whole_at es ++ cond (n % 4 == 0) (four (0 + length (front es))) []) (omega arith) ∙ ap (λ n. whole_at es ++ cond (length es % 4 == 0) (four n) []) (omega arith)

-- the entry after some others is read at its place
pub read_next : (width : ℕ) (es : List Entry) (e : Entry) (fs : List Entry) → AreEntries width 0 [] (es ++ e ∷ fs) →
    read_entry width (length es) (last_string [] es) (drop (length (front es)) (front (es ++ e ∷ fs))) ≡ Some (record { entry = e; size = length (entry_bytes (length es) (last_string [] es) e) })
unfolding front_from
read_next width es e fs are =
    let n : 0 + length es ≡ length es = omega arith in
    let one : IsEntry width (length es) (last_string [] es) e = subst (λ m. IsEntry width m (last_string [] es) e) n (entries_rest width 0 [] es (e ∷ fs) are).0 in
    let tail = entry_bytes (length es) (last_string [] es) e ++ front_from (length es + 1) e.string fs in
    let there : front (es ++ e ∷ fs) ≡ front es ++ (entry_bytes (length es) (last_string [] es) e ++ front_from (length es + 1) e.string fs) =
    front_append 0 [] es (e ∷ fs) ∙ ap (λ m. front es ++ (entry_bytes m (last_string [] es) e ++ front_from (m + 1) e.string fs)) n in
    ap (λ t. read_entry width (length es) (last_string [] es) (drop (length (front es)) t)) there
    ∙ ap (read_entry width (length es) (last_string [] es)) (drop_front (front es) tail)
    ∙ read_written width (length es) (last_string [] es) e (front_from (length es + 1) e.string fs) one
