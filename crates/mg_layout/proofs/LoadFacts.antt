-- What a head's size and its first bytes tell.
use Rattle.std.proofs.Common.{arith, ◌≡◌, ◌≢◌, ◌+◌, ◌-◌, ◌≤◌, ◌<◌, ◌^◌, ◌++◌, ◌∷◌, ◌∙◌, ℕ, true, List, [], length, take, drop}
use Rattle.std.proofs.Common.{Some, None, Ok, Err, Result, refl, sym, ap, subst, cond, nat_lt, min, max, unwrap_or, IsSome, find}
use Rattle.std.specs.declared.option.Option.{Option}
use Rattle.std.specs.Option.{option_map}
use Rattle.std.proofs.lemmas.Bool.Decides.{nat_tests}
use Rattle.mg_dev.specs.declared.part.Part.{Part}
use Rattle.mg_dev.specs.declared.part_err.PartErr.{PartErr}
use Rattle.mg_dev.specs.declared.part_err.PartErr.TheVariants.{Device, Memory, Bad}
use Rattle.mg_dev.specs.Files.{Files, Reads, SameReads, OneRead, with_read, bytes_at, file_at}
use Rattle.mg_dev.specs.Names.{same_part}
use Rattle.mg_dev.specs.Laws.{read_count}
use Rattle.mg_defs.specs.Heads as defs
use Rattle.mg_defs.specs.Heads.{first_damage, is_wrong, exactly, magic_checks, rest_checks, IsHead}
use Rattle.mg_defs.proofs.HeadLaws.{no_damage, one_head}
use Rattle.mg_layout.specs.declared.head.Head.{Head}
use Rattle.mg_layout.specs.HeadAnswers.{fields_of, AnswersHead, AnswersBack}

pub size_of_part : (files : Option Files) (name : List ℕ) (size : Option ℕ) (n : ℕ) → size ≡ option_map length (file_at files name) → n ≡ unwrap_or size 0 → length (bytes_at files name) ≡ n
size_of_part files name size n e d = by_case (file_at files name) size e d
  where
    by_case : (o : Option (List ℕ)) (s : Option ℕ) → s ≡ option_map length o → n ≡ unwrap_or s 0 → length (unwrap_or o []) ≡ n
    by_case o s e d = sym (d ∙ ap (λ t. unwrap_or t 0) e ∙ same o)
      where
        same : (o : Option (List ℕ)) → unwrap_or (option_map length o) 0 ≡ length (unwrap_or o [])
        same None = refl
        same (Some x) = refl

pub no_bytes : (bytes : List ℕ) (n : ℕ) → length bytes ≡ n → n ≡ 0 → bytes ≡ []
no_bytes [] n e z = refl
no_bytes (b ∷ bytes) n e z = absurd (omega arith)

pub some_bytes : (bytes : List ℕ) (n : ℕ) → length bytes ≡ n → 0 < n → bytes ≢ []
some_bytes bytes n e some none = absurd (omega (arith, ap length none, e))

pub tells_short : (low high n : ℕ) (bytes : List ℕ) → length bytes ≡ n → n < 64 → first_damage low high bytes ≡ Some (record { at = 0; low = 64; high = 64; found = n })
unfolding first_damage
tells_short low high n bytes e short = ap (λ b. cond b (Some (exactly 0 64 (length bytes))) (find is_wrong (magic_checks low high bytes ++ rest_checks bytes)))
    (yes (length bytes) (omega arith)) ∙ ap (λ m. Some (exactly 0 64 m)) e
  where
    yes : (m : ℕ) → m < 64 → nat_lt m 64 ≡ true
    yes m h = grind (arith, nat_tests)

pub read_agrees : (now files : Option Files) (name buf : List ℕ) (n size : ℕ) → now ≡ files →
    (IsSome now → take n buf ≡ take (length buf) (drop 0 (bytes_at now name))) → IsSome files → n ≤ length buf → length buf ≡ 80 →
    length (bytes_at files name) ≡ size →
    take (min 80 size) buf ≡ take 80 (bytes_at files name)
read_agrees now files name buf n size same is told within long whole =
    let count : n ≡ min (length buf) (length (bytes_at files name) - 0) = read_count now files name buf 0 n same is told within in
    let here : take n buf ≡ take (length buf) (bytes_at files name) = subst (λ f. IsSome f → take n buf ≡ take (length buf) (bytes_at f name)) same is told in
    ap (λ m. take m buf) (omega arith) ∙ here ∙ ap (λ m. take m (bytes_at files name)) long

pub one_read : (r s t : Reads) (part : Part) → SameReads r s → OneRead s t part → OneRead r t part
unfolding with_read
one_read r s t part same one p = one p ∙ ap (λ n. cond (same_part p part) (max n (min (n + 1) (2 ^ 64 - 1))) n) (same p)

pub answers_back : (low high : ℕ) (bytes : List ℕ) (h : defs.Head) (r : Result (Option Head) PartErr) → IsHead low high bytes h → AnswersHead low high bytes r → AnswersBack h r
unfolding first_damage
answers_back low high bytes h (Ok None) is empty = some_is_not (sym (no_damage low high bytes h is) ∙ ap (first_damage low high) empty)
  where
    some_is_not : {x : defs.Check} → None ≡ Some x → ⊥
    some_is_not e = cc
answers_back low high bytes h (Ok (Some head)) is answer = one_head (fields_of head) h answer.within is.within (sym answer.bytes_are ∙ is.bytes_are)
answers_back low high bytes h (Err Device) is answer = tt
answers_back low high bytes h (Err Memory) is answer = answer
answers_back low high bytes h (Err (Bad bad)) is answer = none_is_not (sym (no_damage low high bytes h is) ∙ answer.1.damage_is)
  where
    none_is_not : {x : defs.Check} → None ≡ Some x → ⊥
    none_is_not e = cc
