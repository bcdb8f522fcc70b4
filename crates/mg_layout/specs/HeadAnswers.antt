-- What contracts see of a head, and what loading one answers.
use Rattle.std.specs.Prelude.{◌≡◌, ◌≢◌, ◌≤◌, ℕ, List, [], ◌++◌, Ok, Err, Some, None, MatchResult, find}
use Rattle.std.specs.declared.option.Option.{Option}
use Rattle.std.specs.declared.result.Result.{Result}
use Rattle.mg_dev.specs.declared.bad.Bad as dev
use Rattle.mg_dev.specs.declared.part.Part.TheVariants as part
use Rattle.mg_dev.specs.declared.part_err.PartErr.{PartErr}
use Rattle.mg_dev.specs.declared.part_err.PartErr.TheVariants.{Device, Memory, Bad}
use Rattle.mg_defs.specs.Heads as defs
use Rattle.mg_defs.specs.Limits.{limits}
use Rattle.mg_layout.specs.declared.head.Head.{Head}
use Rattle.mg_layout.specs.declared.check.Check.{Check}

abbrev pub fields_of : Head → defs.Head
fields_of h = record {
  version = h.version;
  documents = h.documents;
  words = h.words;
  others = h.others;
  terms = h.terms;
  cap = h.cap;
  open_end = h.open_end;
  collection = h.collection;
  occurrences = h.occurrences;
  runs = h.runs;
  text_bytes = h.text_bytes;
  post_bytes = h.post_bytes;
  skip_count = h.skip_count;
}

abbrev pub check_of : Check → defs.Check
check_of c = record { at = c.at; low = c.low; high = c.high; found = c.found }

-- the head's part is bad in this
pub record TellsOf (bad : dev.Bad) (damage : Option defs.Check) : Type 0 where
  pub part_is : bad.part ≡ part.Head
  pub damage_is : damage ≡ Some (record { at = bad.at; low = bad.low; high = bad.high; found = bad.found })

-- what is checked of a head of version 1, and of version 2
abbrev pub checks_of_narrow : List ℕ → List defs.Check
checks_of_narrow bytes = defs.first_checks (limits 1) bytes ++ defs.narrow_checks bytes

abbrev pub checks_of_wide : List ℕ → List defs.Check
checks_of_wide bytes = defs.first_checks (limits 2) bytes ++ defs.wide_checks bytes

-- the answer where these checks find nothing wrong, else what they find first
abbrev pub AnswersChecks : {T : Type 0} → List defs.Check → Result T dev.Bad → (T → Type 0) → Type 0
AnswersChecks checks result holds =
    MatchResult result (λ value. (find defs.is_wrong checks ≡ None) × holds value)
    (λ bad. TellsOf bad (find defs.is_wrong checks))

-- heads of a version from low to high can be read: there are two versions
pub record AreVersions (low high : ℕ) : Type 0 where
  pub first : 1 ≤ low
  pub order : low ≤ high
  pub last : high ≤ 2

-- what is answered for a part of these bytes, where heads of a version from low to high are read
abbrev pub AnswersHead : ℕ → ℕ → List ℕ → Result (Option Head) PartErr → Type 0
AnswersHead low high bytes (Ok None) = bytes ≡ []
AnswersHead low high bytes (Ok (Some head)) = defs.IsHead low high bytes (fields_of head)
AnswersHead low high bytes (Err Device) = Unit {0}
AnswersHead low high bytes (Err Memory) = ⊥
AnswersHead low high bytes (Err (Bad bad)) = (bytes ≢ []) × TellsOf bad (defs.first_damage low high bytes)

-- a head that is answered is in its ranges, whatever the store tells
abbrev pub AnswersWithin : Result (Option Head) PartErr → Type 0
AnswersWithin (Ok None) = Unit {0}
AnswersWithin (Ok (Some head)) = defs.IsWithin (fields_of head)
AnswersWithin (Err Device) = Unit {0}
AnswersWithin (Err Memory) = ⊥
AnswersWithin (Err (Bad bad)) = Unit {0}

-- what is answered for the bytes of this head
abbrev pub AnswersBack : defs.Head → Result (Option Head) PartErr → Type 0
AnswersBack h (Ok None) = ⊥
AnswersBack h (Ok (Some head)) = fields_of head ≡ h
AnswersBack h (Err Device) = Unit {0}
AnswersBack h (Err Memory) = ⊥
AnswersBack h (Err (Bad bad)) = ⊥

-- what reading those bytes answers
abbrev pub AnswersParse : ℕ → ℕ → List ℕ → Result Head dev.Bad → Type 0
AnswersParse low high bytes (Ok head) = defs.IsHead low high bytes (fields_of head)
AnswersParse low high bytes (Err bad) = TellsOf bad (defs.first_damage low high bytes)
