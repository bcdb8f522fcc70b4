-- What holds of a command to which arguments were added one by one, and of what it took.
use Rattle.std.proofs.Common.{◌≡◌, ◌≢◌, ◌∙◌, ℕ, ◌<◌, ◌||◌, true, false, List, [], ◌∷◌, length, Option, None, Some, refl, sym, ap, ap₂, subst, inl, inr, arith, codes}
use Rattle.std.specs.Prelude.{option_map, slice_get}
use Rattle.std.specs.List.{All, slice_index_or}
use Rattle.std.specs.Str.{bytes_eq}
use Rattle.std.specs.Borrow.{Bor}
use Rattle.std.proofs.lemmas.List.Elements.{All-push, All-nil, All-get_or}
use Rattle.std.proofs.lemmas.Bool.{cases_lt}
use Rattle.std.proofs.lemmas.Slice.Eq.{bytes_eq-Decides}
use Rattle.clap.specs.declared.builder.command.Command.TheViews.{out-Command}
use Rattle.clap.specs.Words.{App, Rule, Row, Text, Kinds, app_of, args_of, groups_of, rows_of, found_of, matched_of, one_text, one_of, read_as, reading_of, matches_of, fault_of, kind_of, with_rule, AddsArg, IsPlainArg, IsParsedFrom, IsUnsignedIn, HasKind, IsAmong, Accepts, SameRules}
use Rattle.clap.specs.Built.{IsAuto}
use Rattle.clap.specs.Facts.{Entry, EntryPasses, PassesArg, parser_of, parser_of_value}
use Rattle.clap.specs.declared.builder.arg.Arg.{Arg}
use Rattle.clap.specs.declared.builder.command.Command.{Command}
use Rattle.clap.specs.declared.builder.value_parser.ValueParser.{ValueParser}
use Rattle.clap.specs.declared.builder.value_parser.ValueParser.TheVariants as parser
use Rattle.clap.specs.declared.builder.value_parser.Reading.{Reading}
use Rattle.clap.specs.declared.builder.value_parser.Reading.TheVariants as reading
use Rattle.clap.specs.declared.parser.matches.ArgMatches.{ArgMatches}
use Rattle.clap.specs.declared.parser.matches.MatchedArg.{MatchedArg}
use Rattle.clap.specs.declared.error.Error.{Error}
use Rattle.clap.specs.declared.error.kind.ErrorKind.TheVariants as kind
use Rattle.clap.proofs.CallerLemmas.{entry_by_id, added_plain}
use Rattle.clap.proofs.WalkLemmas.{one_text-rows}
use Rattle.mg_args.specs.Plain.{Word}
use Rattle.mg_args.specs.Commands.{faults, rows, IsArg, TakesNumbers, IsPlainCommand}

-- ---- a command grows

pub plain_start : (c : Command) → (args_of c ≡ []) → (groups_of c ≡ []) → ((out-Command c).has_globals ≡ false) → ((out-Command c).subcommand_negates_reqs ≡ false) → IsPlainCommand c
plain_start c args groups globals negates = ((subst (All IsPlainArg) (sym args) (All-nil IsPlainArg), groups), globals, negates)

pub plain_more : (old new : Command) (a : Arg) (r : Rule) → AddsArg old a new → IsArg a r → IsPlainCommand old → IsPlainCommand new
plain_more old new a r added arg is =
    (added_plain old new a added is.0 arg.1, added.globals ∙ (ap (λ b. b || a.global) is.1 ∙ ap (λ b. false || b) arg.2), added.negates ∙ is.2)

pub app_more : (old new : Command) (a : Arg) (r : Rule) (app : App) → AddsArg old a new → IsArg a r → app_of old ≡ app → app_of new ≡ with_rule app r
app_more old new a r app added arg is = added.shape arg.2 ∙ ap₂ with_rule is arg.0

pub numbers_start : (c : Command) (id : Word) (low high : ℕ) → (args_of c ≡ []) → TakesNumbers c id low high
numbers_start c id low high args = subst (All (λ arg. bytes_eq arg.id.now id ≡ true → arg.value_parser ≡ Some (parser.Unsigned low high))) (sym args) (All-nil _)

numbers_more : (old new : Command) (a : Arg) (id : Word) (low high : ℕ) → AddsArg old a new → (bytes_eq a.id.now id ≡ true → a.value_parser ≡ Some (parser.Unsigned low high))
    → TakesNumbers old id low high → TakesNumbers new id low high
numbers_more old new a id low high added here is =
    rw added.args (All-push (λ arg. bytes_eq arg.id.now id ≡ true → arg.value_parser ≡ Some (parser.Unsigned low high)) (args_of old) added.arg is
    (λ same. added.rules.parser (parser.Unsigned low high) (here (rw (ap (λ i. i.now) added.rules.id) at same))))

-- an argument of another id, and the one that takes numbers
pub numbers_other : (old new : Command) (a : Arg) (r : Rule) (id : Word) (low high : ℕ) → AddsArg old a new → IsArg a r → r.id ≢ id → TakesNumbers old id low high → TakesNumbers new id low high
numbers_other old new a r id low high added arg other = numbers_more old new a id low high added
    (λ same. absurd (other (sym (ap (λ (w : Rule). w.id) arg.0) ∙ (bytes_eq-Decides _ _).0 same)))

pub numbers_here : (old new : Command) (a : Arg) (r : Rule) (id : Word) (low high : ℕ) → AddsArg old a new → IsArg a r →
    r.parser ≡ Some (parser.Unsigned low high) → TakesNumbers old id low high → TakesNumbers new id low high
numbers_here old new a r id low high added arg is = numbers_more old new a id low high added (λ same. ap (λ (w : Rule). w.parser) arg.0 ∙ is)

-- ---- what it took

-- the arguments that building adds aside, an argument of this id has the parser
built_numbers : (old : Command) (m : ArgMatches) (p : IsParsedFrom old m) (id : Word) (low high : ℕ) → TakesNumbers old id low high → id ≢ codes "help" → id ≢ codes "version"
    → (j : ℕ) (x : Arg) → j < length (args_of p.built) → slice_index_or (args_of p.built) j x ≡ x → bytes_eq x.id.now id ≡ true → parser_of x ≡ parser.Unsigned low high
built_numbers old m p id low high takes help version j x below at same = elim (cases_lt j (length (args_of old))) [
  | inl under ↦
      let s = subst (λ w. SameRules (slice_index_or (args_of old) j x) w) at (p.from.kept j x under).1 in
      let old_same : bytes_eq (slice_index_or (args_of old) j x).id.now id ≡ true = rw (← s.id) same in
      ap parser_of_value (s.parser (parser.Unsigned low high) (takes j x under old_same))
  | inr over ↦
      let is : x.id.now ≡ id = (bytes_eq-Decides _ _).0 same in
      absurd (elim (subst IsAuto at (p.from.extra j x over below)) [ inl h ↦ help (sym is ∙ h) | inr h ↦ version (sym is ∙ h) ])
]

accepted : (a : Arg) (low high : ℕ) (t : Word) → parser_of a ≡ parser.Unsigned low high → Accepts a.ignore_case (parser_of a) t → IsUnsignedIn low high t
accepted a low high t is passes = subst (λ (q : ValueParser). Accepts a.ignore_case q t) is passes

first_read : (P : Word → Type 0) (vs : List (Bor Word)) (t : Word) → All (λ v. P v.now) vs → option_map (λ s. read_as reading.AsWritten s.now) (slice_get vs 0) ≡ Some t → P t
first_read P [] t all is = cc
first_read P (v ∷ vs) t all is = let same : v.now ≡ t = cc in subst P same (All-get_or (λ w. P w.now) (v ∷ vs) 0 v (omega arith) all)

-- the number that a command took is in its range
pub number_taken : (old : Command) (m : ArgMatches) (id : Word) (low high : ℕ) (text : Word) → IsParsedFrom old m → IsPlainCommand old → TakesNumbers old id low high
    → id ≢ [] → id ≢ codes "help" → id ≢ codes "version" → one_of id (rows_of (found_of m)) ≡ Some text → IsUnsignedIn low high text
number_taken old m id low high text p plain takes named help version is =
    go (matched_of (found_of m) id) refl (one_text-rows (found_of m) id ∙ is)
  where
    no_groups : groups_of p.built ≡ []
    no_groups = (p.from.plain plain.0).1

    passed : (t : Word) → PassesArg p.built id t → IsUnsignedIn low high t
    passed t pass = accepted pass.1 low high t (built_numbers old m p id low high takes help version pass.0 pass.1 pass.2 pass.3 pass.4.0) pass.4.1

    read : (x : MatchedArg) (e : Entry) → e.1 ≡ x → bytes_eq e.0.now id ≡ true → EntryPasses p.built e →
        option_map (λ s. read_as x.reading s.now) (slice_get x.vals.items 0) ≡ Some text → IsUnsignedIn low high text
    read x e same key pass first =
        let key_id : e.0.now ≡ id = (bytes_eq-Decides _ _).0 key in
        let no_group : e.1.is_group ≡ true → ⊥ = λ g. elim (pass.3 g) [
          | inl empty ↦ named (sym key_id ∙ empty)
          | inr has ↦ let bad : 0 < 0 = rw no_groups at has in absurd (omega arith)
        ] in
        let all : All (λ v. PassesArg p.built id v.now) x.vals.items = elim pass.0 [
          | inl g ↦ absurd (no_group g)
          | inr vals ↦ subst (λ (w : Word). All (λ v. PassesArg p.built w v.now) x.vals.items) key_id (rw same at vals)
        ] in
        let how : e.1.reading ≡ reading.AsWritten = elim pass.4 [
          | inl g ↦ absurd (no_group g)
          | inr any ↦ sym any.4.1 ∙ ap reading_of (built_numbers old m p id low high takes help version any.0 any.1 any.2 any.3 (subst (λ (w : Word). bytes_eq any.1.id.now w ≡ true) key_id any.4.0))
        ] in
        let x_how : x.reading ≡ reading.AsWritten = ap (λ (y : MatchedArg). y.reading) (sym same) ∙ how in
        passed text (first_read (PassesArg p.built id) x.vals.items text all (subst (λ (r : Reading). option_map (λ s. read_as r s.now) (slice_get x.vals.items 0) ≡ Some text) x_how first))

    go : (o : Option MatchedArg) → matched_of (found_of m) id ≡ o → one_text (found_of m) id ≡ Some text → IsUnsignedIn low high text
    go None e first = let bad : None ≡ Some text = rw e at first in cc
    go (Some x) e first =
        let got = entry_by_id (EntryPasses p.built) (found_of m).entries.items id x (p.parsed (p.from.globals ∙ plain.1)).values e in
        read x got.0 got.1 got.2 got.3 (rw e at first)

-- ---- what is said of all words

refused_kinds : (kinds : Kinds) (e : Error) → HasKind kinds e → kind_of e ≢ kind.OutOfMemory → kinds ≡ [] → ⊥
refused_kinds kinds e (inl h) other none = other h
refused_kinds kinds e (inr h) other none = subst (IsAmong (kind_of e)) none h

pub refused_by : (app : App) (texts : List Text) (e : Error) → HasKind (fault_of app texts) e → kind_of e ≢ kind.OutOfMemory → faults app texts ≢ []
unfolding faults
refused_by app texts e has other none = refused_kinds (fault_of app texts) e has other none

pub taken_by : (app : App) (texts : List Text) → fault_of app texts ≡ [] → faults app texts ≡ []
unfolding faults
taken_by app texts none = none

pub rows_by : (app : App) (texts : List Text) (held : List Row) → held ≡ matches_of app texts → held ≡ rows app texts
unfolding rows
rows_by app texts held is = is
