-- Why a session over files stops, and what it reads.
use Rattle.std.specs.Prelude.{◌≡◌, ℕ, ◌+◌, ◌*◌, ◌≤◌, true, List, IsSome, length}
use Rattle.std.specs.Option.{ForSome}
use Rattle.std.specs.declared.option.Option.{Option}
use Rattle.mg_dev.specs.Files.{Files, Reads}
use Rattle.mg_dev.specs.declared.part.Part.TheVariants as part
use Rattle.mg_dev.specs.declared.fault.Fault.{Fault}
use Rattle.mg_dev.specs.declared.fault.Fault.TheVariants.{StoreFault, ReadFault, WriteFault, NotBuilt, Damaged, Memory, InputTooLong, TooManyRotations}
use Rattle.mg_defs.specs.CodedText.{TextCode}
use Rattle.mg_defs.specs.InputLimit.{is_too_much}
use Rattle.mg_defs.specs.Limits.{input_limit}
use Rattle.mg_defs.specs.Terms.{dictionary}
use Rattle.mg_defs.specs.TextBounds.{session_text_bound}
use Rattle.mg_front.specs.Looks.{looks}
use Rattle.mg_layout.specs.Stands.{ForSetBy, HasNoHead, StandsForNone}
use Rattle.mg_layout.specs.declared.head.Head.{Head}
use Rattle.mg_session.specs.PagesAllowed.{ReadsAllowed, session_allows, session_terms}
use Rattle.mg_session.specs.Parts.{ReadsLexicon}

-- the cause of each refusal, by the faults of store, input and output, whether nothing is built, whether the files stand for none,
-- which numbers of rotations are counted and are too many, and the input
abbrev pub Stops : Type 0 → Type 0 → Type 0 → Type 0 → Type 0 → (ℕ → Type 0) → Option (List ℕ) → Fault → Type 0
Stops store_rose input_rose output_rose unbuilt damaged counted input StoreFault = store_rose
Stops store_rose input_rose output_rose unbuilt damaged counted input ReadFault = input_rose
Stops store_rose input_rose output_rose unbuilt damaged counted input WriteFault = output_rose
Stops store_rose input_rose output_rose unbuilt damaged counted input NotBuilt = unbuilt
Stops store_rose input_rose output_rose unbuilt damaged counted input (Damaged bad) = damaged
Stops store_rose input_rose output_rose unbuilt damaged counted input Memory = Unit {0}
Stops store_rose input_rose output_rose unbuilt damaged counted input InputTooLong =
    ForSome input (λ given. is_too_much input_limit given ≡ true)
Stops store_rose input_rose output_rose unbuilt damaged counted input (TooManyRotations count) = counted count
Stops store_rose input_rose output_rose unbuilt damaged counted input _ = ⊥

-- rotations are not counted
abbrev pub CountsNone : Option Files → List ℕ → ℕ → Type 0
CountsNone files base count = ⊥

-- the cause of each refusal by the files under a base
abbrev pub ServeStops : (Option Files → List ℕ → ℕ → Type 0) → List ℕ → Type 0 → Type 0 → Type 0 → Option Files →
    Option (List ℕ) → Fault → Type 0
ServeStops IsCounted base store_rose input_rose output_rose files input fault =
    Stops store_rose input_rose output_rose (IsSome files → HasNoHead files base) (StandsForNone files base)
    (IsCounted files base) input fault

-- the same where rotations are not counted
abbrev pub StopsFor : List ℕ → Type 0 → Type 0 → Type 0 → Option Files → Option (List ℕ) → Fault → Type 0
StopsFor base store_rose input_rose output_rose files input fault =
    ServeStops CountsNone base store_rose input_rose output_rose files input fault

-- a refusal before the input is read
abbrev pub IsFirst : Fault → Type 0
IsFirst NotBuilt = Unit {0}
IsFirst (TooManyRotations count) = Unit {0}
IsFirst _ = ⊥

-- the files stand for none with this head
abbrev pub StandsByNone : Head → Option Files → List ℕ → Type 0
StandsByNone head files base = ForSetBy head files base (λ code collection. ⊥)

-- no more pages are read than the query lines allow, added up
pub record ReadsWithin (code : TextCode) (collection given : List ℕ) (before now : Reads) : Type 0 where
  pub allowed : ReadsAllowed (session_allows collection given) before now
  -- of the lexicon those that the look-up of each term takes
  pub looked : ReadsLexicon before now (length (session_terms given) * looks (length (dictionary collection)))
  pub text : now part.Text ≤ before part.Text + session_text_bound code collection given
