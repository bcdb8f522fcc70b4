-- Names under which every store tells the same bytes are the same.
use Rattle.std.proofs.Common.{arith, ◌≡◌, ◌≢◌, ℕ, Bool, true, false, List, [], ◌∷◌, Option, Some, None, IsSome, refl, sym, ◌∙◌, ap, get_or, unwrap_or}
use Rattle.std.specs.Str.{bytes_eq}
use Rattle.std.proofs.lemmas.Slice.Eq.{bytes_eq-Decides}
use Rattle.mg_dev.specs.Files.{Files, written, bytes_at, no_files}
use Rattle.mg_dev.specs.Laws.{file_at-written, file_at-other, told-written}
use Rattle.mg_bits.specs.Feed.{told_at}

pub is_told : (files : Option Files) (n : List ℕ) → IsSome files → told_at files n ≡ Some (bytes_at files n)
is_told None n told = absurd cc
is_told (Some f) n told = refl

told_here : (a x : List ℕ) → told_at (written (Some no_files) a x) a ≡ Some x
told_here a x = is_told (written (Some no_files) a x) a (told-written (Some no_files) a x) ∙ ap (λ o. Some (unwrap_or o [])) (file_at-written (Some no_files) a x refl)

told_there : (a b x : List ℕ) → b ≢ a → told_at (written (Some no_files) a x) b ≡ Some (bytes_at (Some no_files) b)
told_there a b x apart = is_told (written (Some no_files) a x) b (told-written (Some no_files) a x) ∙ ap (λ o. Some (unwrap_or o [])) (file_at-other (Some no_files) a x b apart)

pub same_name : (a b : List ℕ) → ((files : Option Files) → told_at files a ≡ told_at files b) → a ≡ b
same_name a b same = by_test (bytes_eq a b) refl
  where
    clash : b ≢ a → ⊥
    clash apart =
        let zero_there : Some (0 ∷ []) ≡ Some (bytes_at (Some no_files) b) = sym (told_here a (0 ∷ [])) ∙ same (written (Some no_files) a (0 ∷ [])) ∙ told_there a b (0 ∷ []) apart in
        let one_there : Some (1 ∷ []) ≡ Some (bytes_at (Some no_files) b) = sym (told_here a (1 ∷ [])) ∙ same (written (Some no_files) a (1 ∷ [])) ∙ told_there a b (1 ∷ []) apart in
        absurd (omega (arith, ap (λ o. get_or (unwrap_or o []) 0 5) (zero_there ∙ sym one_there)))

    by_test : (t : Bool) → bytes_eq a b ≡ t → a ≡ b
    by_test true e = (bytes_eq-Decides a b).0 e
    by_test false e = absurd (clash (λ is. absurd (let yes : bytes_eq a b ≡ true = (bytes_eq-Decides a b).1 (sym is) in cc)))
