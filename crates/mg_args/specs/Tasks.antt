-- What the words after the program's name ask for.
use Rattle.std.specs.Prelude.{◌≡◌, ◌≤◌, ⊤, ℕ, ◌&&◌, if◌then◌else◌, List, [], ◌∷◌, codes, unwrap_or, Option, Some, None, option_map, option_and_then, IfSome, Ok, IfOk}
use Rattle.std.specs.Option.{option_or}
use Rattle.std.specs.declared.result.Result.{Result}
use Rattle.std.specs.Str.{bytes_eq}
use Rattle.clap.specs.Words.{App, Row}
use Rattle.clap.specs.declared.parser.matches.ArgMatches.{ArgMatches}
use Rattle.mg_defs.specs.Limits.{default_budget, trial_documents}
use Rattle.mg_args.specs.declared.name_tool.NameTool.{NameTool}
use Rattle.mg_args.specs.declared.name_tool.NameTool.TheVariants as named
use Rattle.mg_args.specs.declared.task.Task.{Task as Request}
use Rattle.mg_args.specs.declared.task.Task.TheVariants as request
use Rattle.mg_args.specs.Plain.{Word, is_plain_name, plain_number, IsBudget, budget_in_one, budget_in_two}
use Rattle.mg_args.specs.Commands.{name_app, build_app, build_names, trial_app, migrate_app, migrate_names, merge_app, merge_names, name_in, number_in, rows_in, if_taken, WhereGiven, HasEmpty, IsRefusedBy}

-- a tool, and the values of its arguments
pub data Task : Type 0 where
  build : Word → Word → ℕ → Task
  query : Word → Task
  decode : Word → Task
  scan : Word → Task
  trial : ℕ → ℕ → Task
  migrate : Word → Word → Task
  check : Word → Task
  wild : Word → Task
  phrase : Word → Task
  merge : Word → Word → Word → Task

-- ---- plain words

abbrev pub plain_name : List Word → Option Word
plain_name (name ∷ []) = if is_plain_name name then Some name else None
plain_name words = None

-- a build of two plain names, where the budget is there
abbrev pub plain_names : Word → Word → Option ℕ → Option Task
plain_names collection name budget = if is_plain_name collection && is_plain_name name
    then option_map (build collection name) budget else None

-- the names in order, and the budget before, between or after them, or nowhere
abbrev pub plain_build : List Word → Option Task
plain_build (a ∷ b ∷ []) = plain_names a b (Some default_budget)
plain_build (a ∷ b ∷ c ∷ []) =
    option_or (plain_names b c (budget_in_one a))
    (option_or (plain_names a c (budget_in_one b)) (plain_names a b (budget_in_one c)))
plain_build (a ∷ b ∷ c ∷ d ∷ []) =
    option_or (plain_names c d (budget_in_two a b))
    (option_or (plain_names a d (budget_in_two b c)) (plain_names a b (budget_in_two c d)))
plain_build words = None

abbrev pub plain_trial : List Word → Option Task
plain_trial (seed ∷ docs ∷ []) =
    option_and_then (λ s. option_map (trial s) (plain_number 1 trial_documents docs)) (plain_number 0 18446744073709551615 seed)
plain_trial words = None

abbrev pub plain_migrate : List Word → Option Task
plain_migrate (name ∷ new ∷ []) = if is_plain_name name && is_plain_name new then Some (migrate name new) else None
plain_migrate words = None

abbrev pub plain_merge : List Word → Option Task
plain_merge (first ∷ second ∷ new ∷ []) =
    if is_plain_name first && is_plain_name second && is_plain_name new then Some (merge first second new) else None
plain_merge words = None

-- ---- words that a tool's command takes

abbrev pub build_in : List Row → Option Task
build_in held = option_and_then (λ collection.
    option_map (λ name. build collection name (unwrap_or (number_in (codes "budget") held) default_budget))
    (name_in (codes "name") held)) (name_in (codes "collection") held)

abbrev pub trial_in : List Row → Option Task
trial_in held = option_and_then (λ seed. option_map (trial seed) (number_in (codes "docs") held))
    (number_in (codes "seed") held)

abbrev pub migrate_in : List Row → Option Task
migrate_in held = option_and_then (λ name. option_map (migrate name) (name_in (codes "new") held))
    (name_in (codes "name") held)

abbrev pub merge_in : List Row → Option Task
merge_in held = option_and_then (λ first. option_and_then (λ second.
    option_map (merge first second) (name_in (codes "new") held))
    (name_in (codes "second") held)) (name_in (codes "first") held)

-- ---- all words

-- the id of the one name of a tool
abbrev pub name_id : NameTool → Word
name_id named.Scan = codes "collection"
name_id other = codes "name"

-- the task of such a tool at a name
abbrev pub task_at : NameTool → Word → Task
task_at named.Query name = query name
task_at named.Decode name = decode name
task_at named.Scan name = scan name
task_at named.Check name = check name
task_at named.Wild name = wild name
task_at named.Phrase name = phrase name

-- the one name of a tool
abbrev pub name_asked : Word → Word → List Word → Option Word
name_asked id tool rest = option_or (plain_name rest) (if_taken (name_app tool id) (tool ∷ rest) (name_in id))

-- the task of a tool of one name
abbrev pub named_asked : NameTool → Word → List Word → Option Task
named_asked named tool rest = option_map (task_at named) (name_asked (name_id named) tool rest)

-- the task of a tool: by the plain words behind its name, else by what its command takes of all words
abbrev pub build_asked : List Word → List Word → Option Task
build_asked rest words = option_or (plain_build rest) (if_taken build_app words build_in)

abbrev pub trial_asked : List Word → List Word → Option Task
trial_asked rest words = option_or (plain_trial rest) (if_taken trial_app words trial_in)

abbrev pub migrate_asked : List Word → List Word → Option Task
migrate_asked rest words = option_or (plain_migrate rest) (if_taken migrate_app words migrate_in)

abbrev pub merge_asked : List Word → List Word → Option Task
merge_asked rest words = option_or (plain_merge rest) (if_taken merge_app words merge_in)

-- what the words ask; plain words by their rule, others by the tool's command
abbrev pub task_of : List Word → Option Task
task_of [] = None
task_of (tool ∷ rest) =
    if bytes_eq tool (codes "build") then build_asked rest (tool ∷ rest)
    else if bytes_eq tool (codes "query") then named_asked named.Query tool rest
    else if bytes_eq tool (codes "decode") then named_asked named.Decode tool rest
    else if bytes_eq tool (codes "scan") then named_asked named.Scan tool rest
    else if bytes_eq tool (codes "trial") then trial_asked rest (tool ∷ rest)
    else if bytes_eq tool (codes "migrate") then migrate_asked rest (tool ∷ rest)
    else if bytes_eq tool (codes "check") then named_asked named.Check tool rest
    else if bytes_eq tool (codes "wild") then named_asked named.Wild tool rest
    else if bytes_eq tool (codes "phrase") then named_asked named.Phrase tool rest
    else if bytes_eq tool (codes "merge") then merge_asked rest (tool ∷ rest)
    else None

-- a task as the clauses see it
abbrev pub as_task : Request → Task
as_task (request.Build collection name budget) = build collection.now name.now budget
as_task (request.Named tool name) = task_at tool name.now
as_task (request.Trial seed docs) = trial seed docs
as_task (request.Migrate name new) = migrate name.now new.now
as_task (request.Merge first second new) = merge first.now second.now new.now

-- the budget, and the number of documents, lie within their bounds
abbrev pub IsWithin : Task → Type 0
IsWithin (build collection name budget) = IsBudget budget
IsWithin (trial seed docs) = (1 ≤ docs) × (docs ≤ trial_documents)
IsWithin other = ⊤

-- What is asked is this, or nothing.
pub record Asks (asked : Option Request) (wanted : Option Task) : Type 0 where
  pub is : option_map as_task asked ≡ wanted
  -- where a task is asked its numbers lie within their bounds
  pub within : IfSome asked (λ q. IsWithin (as_task q))

-- What is made of a parse's matches, which hold these names.
pub record AsksIn (matches : ArgMatches) (names : List Word) (wanted : Option Task) (asked : Option Request) :
    Type 0 where
  -- nothing is asked only where one of the names is empty
  pub empty : asked ≡ None → WhereGiven matches names (HasEmpty names (rows_in matches))
  pub asks : Asks asked wanted

-- What a tool's command makes of the words, where memory does not lack.
pub record AsksBy {E : Type 0} (app : App) (names words : List Word) (wanted : Option Task)
    (result : Result (Option Request) E) : Type 0 where
  -- nothing is asked only where the command refuses the words, or takes them with an empty name
  pub refused : result ≡ Ok None → IsRefusedBy app names words
  pub asks : IfOk result (λ asked. Asks asked wanted)

-- ---- words that are refused

-- A tool's words: the ids of its names, what it asks where they are plain, and the command that reads them else.
pub record ToolWords : Type 0 where
  pub command : App
  pub names : List Word
  pub plain : List Word → Option Task

-- those of a tool of one name
abbrev pub words_at : NameTool → Word → ToolWords
words_at named tool = record {
  command = name_app tool (name_id named);
  names = name_id named ∷ [];
  plain = λ rest. option_map (task_at named) (plain_name rest);
}

-- those of the tools of several words
abbrev pub build_words : ToolWords
build_words = record { command = build_app; names = build_names; plain = plain_build }

abbrev pub trial_words : ToolWords
trial_words = record { command = trial_app; names = []; plain = plain_trial }

abbrev pub migrate_words : ToolWords
migrate_words = record { command = migrate_app; names = migrate_names; plain = plain_migrate }

abbrev pub merge_words : ToolWords
merge_words = record { command = merge_app; names = merge_names; plain = plain_merge }

abbrev pub tool_words : Word → Option ToolWords
tool_words tool =
    if bytes_eq tool (codes "build") then Some build_words
    else if bytes_eq tool (codes "query") then Some (words_at named.Query tool)
    else if bytes_eq tool (codes "decode") then Some (words_at named.Decode tool)
    else if bytes_eq tool (codes "scan") then Some (words_at named.Scan tool)
    else if bytes_eq tool (codes "trial") then Some trial_words
    else if bytes_eq tool (codes "migrate") then Some migrate_words
    else if bytes_eq tool (codes "check") then Some (words_at named.Check tool)
    else if bytes_eq tool (codes "wild") then Some (words_at named.Wild tool)
    else if bytes_eq tool (codes "phrase") then Some (words_at named.Phrase tool)
    else if bytes_eq tool (codes "merge") then Some merge_words
    else None

-- the words are not plain, and the tool's command refuses them, or takes them with an empty name
abbrev pub AreRefusedBy : List Word → List Word → ToolWords → Type 0
AreRefusedBy rest words tool = (tool.plain rest ≡ None) × IsRefusedBy tool.command tool.names words

-- What is asked of a tool, by the words behind its name and by all, where memory does not lack.
pub record AsksOf {E : Type 0} (tool : ToolWords) (rest words : List Word) (wanted : Option Task)
    (result : Result (Option Request) E) : Type 0 where
  -- nothing is asked only where the tool refuses the words
  pub refused : result ≡ Ok None → AreRefusedBy rest words tool
  pub asks : IfOk result (λ asked. Asks asked wanted)

-- the first word is no tool, or the tool refuses the words
abbrev pub IsRefused : List Word → Type 0
IsRefused [] = ⊤
IsRefused (tool ∷ rest) = IfSome (tool_words tool) (AreRefusedBy rest (tool ∷ rest))
