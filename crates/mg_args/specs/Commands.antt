-- The tools' commands, and what they make of the words, the first of which is the tool's name.
use Rattle.std.specs.Prelude.{◌≡◌, ◌≢◌, ◌⊎◌, ◌<◌, ◌^◌, ℕ, true, false, if◌then◌else◌, List, [], ◌∷◌, length, ◌==◌, codes, unwrap_or, option_map, is_some, Option, Some, None}
use Rattle.std.specs.Str.Parse.{IsNumeral, digits_value, without_leading_plus}
use Rattle.std.specs.List.{All}
use Rattle.std.specs.Str.{bytes_eq}
use Rattle.clap.specs.declared.builder.arg.Arg.{Arg}
use Rattle.clap.specs.declared.builder.command.Command.{Command}
use Rattle.clap.specs.declared.parser.matches.ArgMatches.{ArgMatches}
use Rattle.clap.specs.declared.builder.command.Command.TheViews.{out-Command}
use Rattle.clap.specs.Words.{IsPlain, IsParsedFrom, first_value, found_of, IsPlainArg, args_of, rule_of, App, Rule, Row, Kinds, new_app, new_rule, with_rule, matches_of, rows_of, first_of, one_of, fault_of}
use Rattle.clap.specs.declared.builder.value_parser.ValueParser.TheVariants as parser
use Rattle.clap.specs.declared.builder.ArgAction.TheVariants as action
use Rattle.mg_defs.specs.Limits.{least_budget, greatest_budget, trial_documents}
use Rattle.mg_args.specs.Plain.{Word}

abbrev pub name_rule : Word → Rule
name_rule id = record (new_rule id) { required = true; action = Some action.Set }

abbrev pub number_rule : Word → ℕ → ℕ → Rule
number_rule id low high = record (new_rule id) {
  required = true;
  action = Some action.Set;
  parser = Some (parser.Unsigned low high);
}

-- how the default is written
abbrev pub default_text : Word
default_text = codes "16777216"

abbrev pub budget_rule : Rule
budget_rule = record (new_rule (codes "budget")) {
  long = Some (codes "budget");
  action = Some action.Set;
  parser = Some (parser.Unsigned least_budget greatest_budget);
  defaults = default_text ∷ [];
}

-- `TOOL NAME`
abbrev pub name_app : Word → Word → App
name_app tool id = with_rule (new_app tool) (name_rule id)

-- `build COLLECTION NAME [--budget BYTES]`
abbrev pub build_app : App
build_app = with_rule (with_rule (with_rule (new_app (codes "build")) (name_rule (codes "collection")))
    (name_rule (codes "name"))) budget_rule

-- the ids of its names
abbrev pub build_names : List Word
build_names = codes "collection" ∷ codes "name" ∷ []

-- `migrate NAME NEW`
abbrev pub migrate_app : App
migrate_app = with_rule (name_app (codes "migrate") (codes "name")) (name_rule (codes "new"))

abbrev pub migrate_names : List Word
migrate_names = codes "name" ∷ codes "new" ∷ []

-- `merge A B NEW`
abbrev pub merge_app : App
merge_app = with_rule (with_rule (name_app (codes "merge") (codes "first")) (name_rule (codes "second")))
    (name_rule (codes "new"))

abbrev pub merge_names : List Word
merge_names = codes "first" ∷ codes "second" ∷ codes "new" ∷ []

-- `trial SEED DOCS`
abbrev pub trial_app : App
trial_app = with_rule (with_rule (new_app (codes "trial")) (number_rule (codes "seed") 0 18446744073709551615))
    (number_rule (codes "docs") 1 trial_documents)

-- the kinds of error that a command may give at the words, none where it takes them
unfoldable pub faults : App → List Word → Kinds
faults app words = fault_of app words

-- what a command's matches hold at the words
unfoldable pub rows : App → List Word → List Row
rows app words = matches_of app words

-- what matches hold
abbrev pub rows_in : ArgMatches → List Row
rows_in m = rows_of (found_of m)

-- matches give the id a value
abbrev pub IsGiven : ArgMatches → Word → Type 0
IsGiven m id = is_some (first_value (found_of m) id) ≡ true

-- a fact where matches give each of these ids a value
abbrev pub WhereGiven : ArgMatches → List Word → Type 0 → Type 0
WhereGiven m [] fact = fact
WhereGiven m (id ∷ ids) fact = IsGiven m id → WhereGiven m ids fact

-- a text that writes a number of eight bytes: a plus may stand before it
abbrev pub WritesNumber : Word → Type 0
WritesNumber text = IsNumeral 10 (without_leading_plus text) × (digits_value 10 (without_leading_plus text) < 2 ^ 64)

-- an empty text is no name
abbrev pub some_name : Word → Option Word
some_name [] = None
some_name (byte ∷ bytes) = Some (byte ∷ bytes)

-- the name of this id; a missing one is empty, so no name
abbrev pub name_in : Word → List Row → Option Word
name_in id held = some_name (unwrap_or (first_of id held) [])

-- the number that a command reads: a plus may stand before it, and zeros
abbrev pub number_in : Word → List Row → Option ℕ
number_in id held = option_map (λ text. digits_value 10 (without_leading_plus text)) (one_of id held)

-- what is read of the matches, where the command takes the words
abbrev pub if_taken : {T : Type 0} → App → List Word → (List Row → Option T) → Option T
if_taken app words read = if length (faults app words) == 0 then read (rows app words) else None

-- the argument has this rule, and none on another argument
abbrev pub IsArg : Arg → Rule → Type 0
IsArg arg rule = (rule_of arg ≡ rule) × IsPlainArg arg × (arg.global ≡ false)

-- each argument of this id takes numbers in this range
abbrev pub TakesNumbers : Command → Word → ℕ → ℕ → Type 0
TakesNumbers command id low high = All (λ arg. bytes_eq arg.id.now id ≡ true →
    arg.value_parser ≡ Some (parser.Unsigned low high)) (args_of command)

-- a command made by adding arguments alone, none of which excludes another
abbrev pub IsPlainCommand : Command → Type 0
IsPlainCommand command = IsPlain command × ((out-Command command).has_globals ≡ false)
    × ((out-Command command).subcommand_negates_reqs ≡ false)

-- a parse that takes the words gives the id a value
abbrev pub Gives : Command → Word → Type 0
Gives command id = (m : ArgMatches) → IsParsedFrom command m → IsGiven m id

-- an id that `clap` takes for no flag of its own
abbrev pub IsOwnId : Word → Type 0
IsOwnId id = (id ≢ []) × (id ≢ codes "help") × (id ≢ codes "version")

-- one of these names is there and empty
abbrev pub HasEmpty : List Word → List Row → Type 0
HasEmpty [] held = ⊥
HasEmpty (id ∷ ids) held = (first_of id held ≡ Some []) ⊎ HasEmpty ids held

-- the command refuses the words, or takes them with an empty name
abbrev pub IsRefusedBy : App → List Word → List Word → Type 0
IsRefusedBy app ids words = (faults app words ≢ []) ⊎ HasEmpty ids (rows app words)
