-- Words that are refused ask nothing.
use Rattle.std.proofs.Common.{◌≡◌, ◌≢◌, ◌==◌, Bool, true, false, List, [], ◌∷◌, length, Option, None, Some, codes, refl, ap, inl, inr, arith}
use Rattle.std.proofs.lemmas.Bool.{eqb-true}
use Rattle.std.specs.Prelude.{if◌then◌else◌, option_map, option_and_then, unwrap_or, IfSome}
use Rattle.std.specs.Option.{option_or}
use Rattle.std.specs.Str.{bytes_eq}
use Rattle.clap.specs.Words.{App, Kinds, Row, first_of}
use Rattle.mg_args.specs.Plain.{Word}
use Rattle.mg_args.specs.Commands.{build_app, build_names, trial_app, migrate_app, migrate_names, merge_app, merge_names, faults, rows, name_in, some_name, if_taken, HasEmpty, IsRefusedBy}
use Rattle.mg_args.specs.declared.name_tool.NameTool.{NameTool}
use Rattle.mg_args.specs.declared.name_tool.NameTool.TheVariants as named
use Rattle.mg_args.specs.Tasks.{Task, task_of, task_at, name_id, words_at, named_asked, build_in, trial_in, migrate_in, merge_in, plain_name, plain_build, plain_trial, plain_migrate, plain_merge, AreRefusedBy, IsRefused, ToolWords}

-- ---- an empty name

no_name : (id : Word) (held : List Row) → first_of id held ≡ Some [] → name_in id held ≡ None
no_name id held empty = ap (λ (o : Option Word). some_name (unwrap_or o [])) empty

then_none : {A B : Type 0} (o : Option A) → option_and_then (λ a. let none : Option B = None in none) o ≡ None
then_none None = refl
then_none (Some a) = refl

one_in : (id : Word) (held : List Row) → HasEmpty (id ∷ []) held → name_in id held ≡ None
one_in id held (inl empty) = no_name id held empty
one_in id held (inr never) = absurd never

build_none : (held : List Row) → HasEmpty build_names held → build_in held ≡ None
build_none held (inl empty) = rw (no_name _ held empty) refl
build_none held (inr (inl empty)) = rw (no_name _ held empty) (then_none (name_in (codes "collection") held))
build_none held (inr (inr never)) = absurd never

migrate_none : (held : List Row) → HasEmpty migrate_names held → migrate_in held ≡ None
migrate_none held (inl empty) = rw (no_name _ held empty) refl
migrate_none held (inr (inl empty)) = rw (no_name _ held empty) (then_none (name_in (codes "name") held))
migrate_none held (inr (inr never)) = absurd never

twice_none : {A B : Type 0} (o : Option A) (p : Option B) → option_and_then (λ a. option_and_then (λ b. let none : Option Task = None in none) p) o ≡ None
twice_none None p = refl
twice_none (Some a) None = refl
twice_none (Some a) (Some b) = refl

merge_none : (held : List Row) → HasEmpty merge_names held → merge_in held ≡ None
merge_none held (inl empty) = rw (no_name _ held empty) refl
merge_none held (inr (inl empty)) = rw (no_name _ held empty) (then_none (name_in (codes "first") held))
merge_none held (inr (inr (inl empty))) = rw (no_name _ held empty) (twice_none (name_in (codes "first") held) (name_in (codes "second") held))
merge_none held (inr (inr (inr never))) = absurd never

-- ---- a command that refuses

not_taken : {T : Type 0} (kinds : Kinds) (held : Option T) → kinds ≢ [] → (if length kinds == 0 then held else None) ≡ None
not_taken kinds held refused = go (length kinds == 0) refl
  where
    empty : (ks : Kinds) → length ks ≡ 0 → ks ≡ []
    empty [] is = refl
    empty (k ∷ ks) is = absurd (omega (arith, is))

    go : (b : Bool) → (length kinds == 0) ≡ b → (if b then held else None) ≡ None
    go true e = absurd (refused (empty kinds (eqb-true (length kinds) 0 e)))
    go false e = refl

taken_none : {T : Type 0} (b : Bool) (held : Option T) → held ≡ None → (if b then held else None) ≡ None
taken_none true held none = none
taken_none false held none = refl

untaken : {T : Type 0} (app : App) (names words : List Word) (read : List Row → Option T) → ((held : List Row) → HasEmpty names held → read held ≡ None)
    → IsRefusedBy app names words → if_taken app words read ≡ None
untaken app names words read nothing (inl refused) = not_taken (faults app words) (read (rows app words)) refused
untaken app names words read nothing (inr empty) = taken_none (length (faults app words) == 0) (read (rows app words)) (nothing (rows app words) empty)

or_none : {T : Type 0} (o p : Option T) → o ≡ None → p ≡ None → option_or o p ≡ None
or_none None p one two = two
or_none (Some value) p one two = cc

mapped_none : {A B : Type 0} (f : A → B) (o : Option A) → option_map f o ≡ None → o ≡ None
mapped_none f None e = refl
mapped_none f (Some value) e = cc

-- ---- the tools

named_none : (named : NameTool) (tool : Word) (rest : List Word) → AreRefusedBy rest (tool ∷ rest) (words_at named tool) → named_asked named tool rest ≡ None
named_none named tool rest refused =
    ap (option_map (task_at named)) (or_none (plain_name rest) _ (mapped_none (task_at named) (plain_name rest) refused.0) (untaken _ (name_id named ∷ []) _ _ (one_in (name_id named)) refused.1))

asked_none : (plain : Option Task) (app : App) (names words : List Word) (read : List Row → Option Task) → ((held : List Row) → HasEmpty names held → read held ≡ None)
    → (plain ≡ None) × IsRefusedBy app names words → option_or plain (if_taken app words read) ≡ None
asked_none plain app names words read nothing refused = or_none plain _ refused.0 (untaken app names words read nothing refused.1)

-- one tool, or the others
tool_or : (P : ToolWords → Type 0) (b : Bool) (here there : Option ToolWords) (task others : Option Task) → (IfSome here P → task ≡ None) → (IfSome there P → others ≡ None)
    → IfSome (if b then here else there) P → (if b then task else others) ≡ None
tool_or P true here there task others one two refused = one refused
tool_or P false here there task others one two refused = two refused

pub refused_none : (words : List Word) → IsRefused words → task_of words ≡ None
refused_none [] refused = refl
refused_none (tool ∷ rest) refused =
    let P : ToolWords → Type 0 = AreRefusedBy rest (tool ∷ rest) in
    tool_or P (bytes_eq tool (codes "build")) _ _ _ _ (λ r. asked_none (plain_build rest) build_app build_names (tool ∷ rest) build_in build_none r)
    (tool_or P (bytes_eq tool (codes "query")) _ _ _ _ (λ r. named_none named.Query tool rest r)
    (tool_or P (bytes_eq tool (codes "decode")) _ _ _ _ (λ r. named_none named.Decode tool rest r)
    (tool_or P (bytes_eq tool (codes "scan")) _ _ _ _ (λ r. named_none named.Scan tool rest r)
    (tool_or P (bytes_eq tool (codes "trial")) _ _ _ _ (λ r. asked_none (plain_trial rest) trial_app [] (tool ∷ rest) trial_in (λ held never. absurd never) r)
    (tool_or P (bytes_eq tool (codes "migrate")) _ _ _ _ (λ r. asked_none (plain_migrate rest) migrate_app migrate_names (tool ∷ rest) migrate_in migrate_none r)
    (tool_or P (bytes_eq tool (codes "check")) _ _ _ _ (λ r. named_none named.Check tool rest r)
    (tool_or P (bytes_eq tool (codes "wild")) _ _ _ _ (λ r. named_none named.Wild tool rest r)
    (tool_or P (bytes_eq tool (codes "phrase")) _ _ _ _ (λ r. named_none named.Phrase tool rest r)
    (tool_or P (bytes_eq tool (codes "merge")) _ _ _ _ (λ r. asked_none (plain_merge rest) merge_app merge_names (tool ∷ rest) merge_in merge_none r)
    (λ none. refl)))))))))) refused
