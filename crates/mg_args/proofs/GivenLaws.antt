-- What a command requires is there after a parse.
use Rattle.std.proofs.Common.{◌≡◌, ◌≢◌, ◌∙◌, ℕ, ◌<◌, ◌≤◌, ◌+◌, ◌==◌, ◌&&◌, Bool, true, false, not, List, [], ◌∷◌, length, is_some, Option, None, Some, refl, sym, ap, subst, inl, inr, arith, codes, length-append}
use Rattle.std.specs.List.{All, slice_index_or}
use Rattle.std.specs.Str.{bytes_eq}
use Rattle.std.proofs.lemmas.List.{get_or_append_left, get_or_at}
use Rattle.std.proofs.lemmas.List.Elements.{All-push, All-nil}
use Rattle.std.proofs.lemmas.Bool.{cases_lt}
use Rattle.std.proofs.lemmas.Slice.Eq.{bytes_eq-Decides}
use Rattle.clap.specs.Words.{Rule, args_of, rule_of, found_of, first_value, AddsArg}
use Rattle.clap.specs.Facts.{least_values}
use Rattle.clap.specs.declared.builder.ArgAction.TheVariants as action
use Rattle.clap.specs.declared.builder.arg.Arg.{Arg}
use Rattle.clap.specs.declared.builder.command.Command.{Command}
use Rattle.clap.proofs.CallerLemmas.{required_has_value}
use Rattle.mg_args.specs.Plain.{Word}
use Rattle.mg_args.specs.Commands.{IsArg, IsPlainCommand, Gives}

-- no argument has the id
abbrev pub IsNew : Command → Word → Type 0
IsNew c id = All (λ a. bytes_eq a.id.now id ≡ false) (args_of c)

abbrev pub IsTaking : Arg → Word → Type 0
IsTaking a id = (a.id.now ≡ id) × (a.required ≡ true) × (a.action ≡ Some action.Set) × (a.val_delim ≡ None) × (1 ≤ least_values a)

-- one argument alone has the id, it is required, and takes a value
pub record Wants (c : Command) (id : Word) : Type 0 where
  pub place : ℕ
  pub below : place < length (args_of c)
  pub taking : (d : Arg) → IsTaking (slice_index_or (args_of c) place d) id
  pub only : (j : ℕ) (e : Arg) → j < length (args_of c) → bytes_eq (slice_index_or (args_of c) j e).id.now id ≡ true → j ≡ place

pub new_start : (c : Command) (id : Word) → args_of c ≡ [] → IsNew c id
new_start c id args = subst (All (λ a. bytes_eq a.id.now id ≡ false)) (sym args) (All-nil _)

unlike : (a id : Word) → a ≢ id → bytes_eq a id ≡ false
unlike a id other = go (bytes_eq a id) refl
  where
    go : (b : Bool) → bytes_eq a id ≡ b → b ≡ false
    go true e = absurd (other ((bytes_eq-Decides a id).0 e))
    go false e = refl

-- the added argument's id
added_id : (old new : Command) (a : Arg) (r : Rule) (added : AddsArg old a new) → IsArg a r → added.arg.id.now ≡ r.id
added_id old new a r added arg = ap (λ i. i.now) added.rules.id ∙ ap (λ (w : Rule). w.id) arg.0

pub new_more : (old new : Command) (a : Arg) (r : Rule) (id : Word) → AddsArg old a new → IsArg a r → r.id ≢ id → IsNew old id → IsNew new id
new_more old new a r id added arg other is =
    rw added.args (All-push (λ x. bytes_eq x.id.now id ≡ false) (args_of old) added.arg is (unlike _ id (λ e. other (sym (added_id old new a r added arg) ∙ e))))

both : (a b : Bool) → (a && b) ≡ true → (a ≡ true) × (b ≡ true)
both true true e = (refl, refl)
both true false e = cc
both false b e = cc

no_some : {X : Type 0} (o : Option X) → not (is_some o) ≡ true → o ≡ None
no_some None e = refl
no_some (Some x) e = cc

fourth : (x y z w : Bool) → (x && (y && (z && w))) ≡ true → w ≡ true
fourth true true true w e = e
fourth true true false w e = cc
fourth true false z w e = cc
fourth false y z w e = cc

no_delim : (a : Arg) → (rule_of a).is_simple ≡ true → a.val_delim ≡ None
no_delim a simple =
    let rest = not (is_some a.terminator) && (not a.allow_hyphen_values && (not a.allow_negative_numbers && (not a.require_equals && (not a.last && not a.global)))) in
    no_some a.val_delim (both (not (is_some a.val_delim)) rest
    (fourth (length a.overrides.items == 0) (length a.default_vals_ifs.items == 0) (length a.groups.items == 0) (not (is_some a.val_delim) && rest) simple)).0

abbrev pub IsRequired : Rule → Type 0
IsRequired r = (r.required ≡ true) × (r.action ≡ Some action.Set) × (r.range ≡ None) × (r.is_simple ≡ true)

taking_of : (old new : Command) (a : Arg) (r : Rule) (added : AddsArg old a new) → IsArg a r → IsRequired r → IsTaking added.arg r.id
taking_of old new a r added arg wanted =
    let set : a.action ≡ Some action.Set = ap (λ (w : Rule). w.action) arg.0 ∙ wanted.1 in
    let range : a.num_vals ≡ None = ap (λ (w : Rule). w.range) arg.0 ∙ wanted.2 in
    let least : 1 ≤ least_values a = rw range (omega arith) in (
      added_id old new a r added arg,
      added.rules.required ∙ (ap (λ (w : Rule). w.required) arg.0 ∙ wanted.0),
      added.rules.action action.Set set,
      added.rules.val_delim ∙ no_delim a (ap (λ (w : Rule). w.is_simple) arg.0 ∙ wanted.3),
      added.rules.least set least,
    )

-- the argument that is added wants its value
pub wants_here : (old new : Command) (a : Arg) (r : Rule) → AddsArg old a new → IsArg a r → IsRequired r → IsNew old r.id → Wants new r.id
wants_here old new a r added arg wanted fresh = record {
  place = length (args_of old);
  below = rw added.args (omega (arith, length-append (args_of old) (added.arg ∷ [])));
  taking = λ d.
      subst (λ x. IsTaking x r.id) (sym (ap (λ l. slice_index_or l (length (args_of old)) d) added.args
      ∙ get_or_at (args_of old) added.arg [] d (length (args_of old)) refl)) (taking_of old new a r added arg wanted);
  only = λ j e low same. elim (cases_lt j (length (args_of old))) [
    | inl under ↦
        let there : bytes_eq (slice_index_or (args_of old) j e).id.now r.id ≡ true = rw (added.args, get_or_append_left (args_of old) (added.arg ∷ []) e j under) at same in
        let bad : true ≡ false = sym there ∙ fresh j e under in cc
    | inr over ↦
        let len : length (args_of new) ≡ length (args_of old) + 1 = ap length added.args ∙ length-append (args_of old) (added.arg ∷ []) in
        omega (arith, over, low, len)
  ];
}

-- and an argument of another id changes nothing
pub wants_more : (old new : Command) (a : Arg) (r : Rule) (id : Word) → AddsArg old a new → IsArg a r → r.id ≢ id → Wants old id → Wants new id
wants_more old new a r id added arg other w = record {
  place = w.place;
  below = rw added.args (omega (arith, w.below, length-append (args_of old) (added.arg ∷ [])));
  taking = λ d. subst (λ x. IsTaking x id) (sym (ap (λ l. slice_index_or l w.place d) added.args ∙ get_or_append_left (args_of old) (added.arg ∷ []) d w.place w.below)) (w.taking d);
  only = λ j e low same. elim (cases_lt j (length (args_of old))) [
    | inl under ↦ w.only j e under (rw (added.args, get_or_append_left (args_of old) (added.arg ∷ []) e j under) at same)
    | inr over ↦
        let len : length (args_of new) ≡ length (args_of old) + 1 = ap length added.args ∙ length-append (args_of old) (added.arg ∷ []) in
        let at_end : length (args_of old) ≡ j = omega (arith, over, low, len) in
        let is : slice_index_or (args_of new) j e ≡ added.arg = ap (λ l. slice_index_or l j e) added.args ∙ get_or_at (args_of old) added.arg [] e j at_end in
        absurd (other (sym (added_id old new a r added arg) ∙ (bytes_eq-Decides _ _).0 (rw is at same)))
  ];
}

-- so a parse gives it
pub given_by : (c : Command) (id : Word) → IsPlainCommand c → Wants c id → id ≢ [] → id ≢ codes "help" → id ≢ codes "version" → Gives c id
given_by c id plain w named help version m p = go (args_of c) refl
  where
    some : (d : Arg) → is_some (first_value (found_of m) id) ≡ true
    some d =
        let t = w.taking d in
        subst (λ (i : Word). is_some (first_value (found_of m) i) ≡ true) t.0
        (required_has_value c m p plain.0 plain.1 plain.2 w.place d w.below t.1 t.2 t.3 t.4
        (λ j e low same. w.only j e low (rw t.0 at same))
        (λ empty. named (sym t.0 ∙ empty))
        (λ auto. elim auto [ inl h ↦ help (sym t.0 ∙ h) | inr h ↦ version (sym t.0 ∙ h) ]))

    go : (xs : List Arg) → args_of c ≡ xs → is_some (first_value (found_of m) id) ≡ true
    go [] e = let bad : w.place < 0 = subst (λ (l : List Arg). w.place < length l) e w.below in absurd (omega (arith, bad))
    go (x ∷ xs) e = some x
