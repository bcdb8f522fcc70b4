-- What is read of matches, by their rows.
use Rattle.std.proofs.Common.{◌≡◌, ◌≢◌, ◌∙◌, ◌<◌, ◌^◌, ℕ, [], ◌∷◌, Option, None, Some, is_some, true, false, Ok, Err, length, arith, refl, sym, ap, unwrap_or}
use Rattle.std.specs.Prelude.{Result, option_map, slice_get}
use Rattle.std.specs.Borrow.{Bor}
use Rattle.std.specs.Str.Parse.{IsNumeral, ParsesUnsigned, digits_value, without_leading_plus}
use Rattle.clap.specs.Words.{matched_of, read_as, ReadsOne, first_of, first_value, one_of, one_text, rows_of}
use Rattle.clap.specs.declared.parser.matches.Found.{Found}
use Rattle.clap.specs.declared.parser.matches.MatchedArg.{MatchedArg}
use Rattle.clap.proofs.WalkLemmas.{first_value-rows, one_text-rows}
use Rattle.mg_args.specs.Plain.{Word}
use Rattle.mg_args.specs.Commands.{name_in, number_in, some_name}

name_is : (f : Found) (id : Word) (o : Option Word) → first_value f id ≡ o → name_in id (rows_of f) ≡ some_name (unwrap_or o [])
name_is f id o is = ap (λ (p : Option Word). some_name (unwrap_or p [])) (sym (first_value-rows f id) ∙ is)

pub no_name : (f : Found) (id : Word) → first_value f id ≡ None → None ≡ name_in id (rows_of f)
no_name f id is = sym (name_is f id None is)

nothing : (name : Word) → length name ≡ 0 → some_name name ≡ None
nothing [] empty = refl
nothing (byte ∷ bytes) empty = absurd (omega (arith, empty))

pub empty_name : (f : Found) (id name : Word) → first_value f id ≡ Some name → length name ≡ 0 → None ≡ name_in id (rows_of f)
empty_name f id name is empty = sym (name_is f id (Some name) is ∙ nothing name empty)

some : (name : Word) → name ≢ [] → Some name ≡ some_name name
some [] full = absurd (full refl)
some (byte ∷ bytes) full = refl

pub full_name : (f : Found) (id name : Word) → first_value f id ≡ Some name → name ≢ [] → Some name ≡ name_in id (rows_of f)
full_name f id name is full = some name full ∙ sym (name_is f id (Some name) is)

-- a name that is there and is read as none is empty
pub is_empty : (f : Found) (id name : Word) → first_value f id ≡ Some name → length name ≡ 0 → first_of id (rows_of f) ≡ Some []
is_empty f id [] is empty = sym (first_value-rows f id) ∙ is
is_empty f id (byte ∷ bytes) is empty = absurd (omega (arith, empty))

pub not_there : (f : Found) (id : Word) (P : Type 0) → first_value f id ≡ None → is_some (first_value f id) ≡ true → P
not_there f id P none there = let bad : false ≡ true = rw none at there in cc

no_text : (o : Option Word) → option_map (λ text. digits_value 10 (without_leading_plus text)) o ≡ None → o ≡ None
no_text None e = refl
no_text (Some t) e = cc

pub number_read : (E : Type 0) (G : Word → Result ℕ E → Type 0) (f : Found) (id : Word) (r : Option ℕ) → (one_text f id ≡ None → r ≡ None) → ((t : Word) → one_text f id ≡ Some t → ReadsOne G t r)
    → ((t : Word) (x : Result ℕ E) → G t x → ParsesUnsigned 64 10 t x)
    → ((t : Word) → one_of id (rows_of f) ≡ Some t → IsNumeral 10 (without_leading_plus t) × (digits_value 10 (without_leading_plus t) < 2 ^ 64))
    → r ≡ number_in id (rows_of f)
number_read E G f id r none value parses writes = go (one_text f id) refl
  where
    value_of : Option Word → Option ℕ
    value_of o = option_map (λ text. digits_value 10 (without_leading_plus text)) o

    read : (t : Word) (o : Option ℕ) → ReadsOne G t o → IsNumeral 10 (without_leading_plus t) → digits_value 10 (without_leading_plus t) < 2 ^ 64 → o ≡ Some (digits_value 10 (without_leading_plus t))
    read t (Some v) h numeral small = ap Some (parses t (Ok v) h).1
    read t None h numeral small = absurd (parses t (Err h.0) h.1 (numeral, small))

    go : (o : Option Word) → one_text f id ≡ o → r ≡ number_in id (rows_of f)
    go None e = none e ∙ sym (ap value_of (sym (one_text-rows f id) ∙ e))
    go (Some t) e =
        let w = writes t (sym (one_text-rows f id) ∙ e) in
        read t r (value t e) w.0 w.1 ∙ sym (ap value_of (sym (one_text-rows f id) ∙ e))

-- a value that is there is read as a number, where it writes one
pub number_there : (f : Found) (id : Word) → is_some (first_value f id) ≡ true → number_in id (rows_of f) ≡ None → ⊥
number_there f id there none = go (matched_of f id) refl
  where
    text : one_text f id ≡ None
    text = one_text-rows f id ∙ no_text (one_of id (rows_of f)) none

    first : (a : MatchedArg) (o : Option (Bor Word)) → slice_get a.vals.items 0 ≡ o → matched_of f id ≡ Some a → ⊥
    first a None e found = let bad : false ≡ true = rw (found, e) at there in cc
    first a (Some s) e found = let bad : Some (read_as a.reading s.now) ≡ None = rw (found, e) at text in cc

    go : (o : Option MatchedArg) → matched_of f id ≡ o → ⊥
    go None e = let bad : false ≡ true = rw e at there in cc
    go (Some a) e = first a (slice_get a.vals.items 0) refl e
