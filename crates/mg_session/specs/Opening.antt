-- What the opening of a set does, before a line of the input is read.
use Rattle.std.specs.Prelude.{◌≡◌, ◌+◌, ◌≤◌, ℕ, List, IsSome, IfOk, IfErr}
use Rattle.std.specs.declared.result.Result.{Result}
use Rattle.mg_dev.specs.Moments.{StoreAt, StoreRose}
use Rattle.mg_dev.specs.Files.{bytes_at}
use Rattle.mg_dev.specs.Names.{full_name, number}
use Rattle.mg_dev.specs.Runs.{RefusedFor}
use Rattle.mg_dev.specs.declared.part.Part.{Part}
use Rattle.mg_dev.specs.declared.part.Part.TheVariants as part
use Rattle.mg_dev.specs.declared.fault.Fault.{Fault}
use Rattle.mg_dev.specs.declared.fault.Fault.TheVariants.{StoreFault, NotBuilt, Damaged, Memory, TooManyRotations}
use Rattle.mg_defs.specs.CodedText.{TextCode}
use Rattle.mg_defs.specs.Heads as defs
use Rattle.mg_defs.specs.Heads.{IsHead}
use Rattle.mg_layout.specs.Stands.{ForSetBy, HasHead, HasNoHead, StandsForNone}
use Rattle.mg_layout.specs.declared.head.Head.{Head}
use Rattle.mg_session.specs.Serves.{StandsByNone}

-- the cause of each refusal, by the faults of the store, whether nothing is built, whether the files stand for none, and which
-- numbers of rotations are counted and are too many
abbrev pub OpenStops : Type 0 → Type 0 → Type 0 → (ℕ → Type 0) → Fault → Type 0
OpenStops store_rose unbuilt damaged counted StoreFault = store_rose
OpenStops store_rose unbuilt damaged counted NotBuilt = unbuilt
OpenStops store_rose unbuilt damaged counted (Damaged bad) = damaged
OpenStops store_rose unbuilt damaged counted Memory = Unit {0}
OpenStops store_rose unbuilt damaged counted (TooManyRotations count) = counted count
OpenStops store_rose unbuilt damaged counted _ = ⊥

-- the cause is one of the store: it failed, or memory is wanting
abbrev pub IsLack : Fault → Type 0
IsLack StoreFault = Unit {0}
IsLack Memory = Unit {0}
IsLack _ = ⊥

-- The head of the files under a base was loaded, or is refused.
pub record HeadOpened (base : List ℕ) (before now : StoreAt) (result : Result Head Fault) : Type 0 where
  -- no file changes, no fault is forgotten, and no part is read but the head
  pub files : now.files ≡ before.files
  pub faults : before.faults ≤ now.faults
  pub unread : (p : Part) → 1 ≤ number p → now.reads p ≡ before.reads p
  -- and of the head at most one page
  pub once : now.reads part.Head ≤ before.reads part.Head + 1
  -- what is loaded is the head of the files
  pub head : IfOk result (λ head. IsSome before.files → HasHead before.files base head)
  -- the cause of each refusal
  pub cause : IfErr result (OpenStops (StoreRose before now) (IsSome before.files → HasNoHead before.files base)
      (StandsForNone before.files base) (λ count. ⊥))
  -- where there is none, that is told; where there is one, it is refused only for a failing store or want of memory
  pub not_built : IsSome before.files → HasNoHead before.files base → RefusedFor result NotBuilt
  pub built : (h : defs.Head) → IsSome before.files → IsHead 1 2 (bytes_at before.files (full_name base part.Head)) h →
      IfErr result IsLack

-- The parts of a set with this head were opened, or one of them is refused.
pub record SetOpened {T : Type 0} (IsOver : T → TextCode → List ℕ → Type 0) (IsKept : Part → Type 0)
    (counted : ℕ → Type 0) (head : Head) (base : List ℕ)
    (before now : StoreAt) (result : Result T Fault) : Type 0 where
  -- no file changes, no fault is forgotten, and these parts are not read
  pub files : now.files ≡ before.files
  pub faults : before.faults ≤ now.faults
  pub unread : (p : Part) → IsKept p → now.reads p ≡ before.reads p
  -- what is opened is over each collection for which they stand, and its codes
  pub over : IfOk result (λ opened. ForSetBy head before.files base (IsOver opened))
  -- the cause of each refusal
  pub cause : IfErr result (OpenStops (StoreRose before now) ⊥ (StandsByNone head before.files base) counted)

-- ---- the parts that an opening does not read

-- that of a session of queries or of phrases reads none: the text is opened when a document is first shown from it, or searched
abbrev pub KeptByQueries : Part → Type 0
KeptByQueries p = Unit {0}

-- that of a session of patterns reads the lexicon
abbrev pub KeptByPatterns : Part → Type 0
KeptByPatterns part.Lex = ⊥
KeptByPatterns _ = Unit {0}
