-- Sets that are made anew in version 2.
use Rattle.std.specs.Prelude.{◌≡◌, ℕ, List, [], ◌∷◌, slice_index_or, take, OnOk, Some}
use Rattle.std.specs.Option.{IsSome}
use Rattle.std.specs.declared.option.Option.{Option}
use Rattle.std.specs.declared.result.Result.{Result}
use Rattle.mg_dev.specs.Files.{Files, bytes_at, file_at}
use Rattle.mg_dev.specs.Names.{full_name}
use Rattle.mg_dev.specs.declared.fault.Fault.{Fault}
use Rattle.mg_dev.specs.declared.fault.Fault.TheVariants.{Damaged, Memory, NotBuilt, SameName, StoreFault}
use Rattle.mg_dev.specs.declared.part.Part.{Part}
use Rattle.mg_dev.specs.declared.part.Part.TheVariants.{Head, Lex, LexAt, MergeA, MergeB, Nonwords, Places, Post, Run, Skip, Text, Weights, Words}
use Rattle.mg_defs.specs.CodedText.{TextCode, places_part}
use Rattle.mg_defs.specs.Heads as defs
use Rattle.mg_defs.specs.Heads.{head_bytes}
use Rattle.mg_layout.specs.Stands.{HasNoHead, StandsForNone}
use Rattle.mg_make.specs.Putting.{LacksOnlyHead}

-- the parts that are the same in both versions, by an index
abbrev pub copied_part : ℕ → Part
copied_part index = slice_index_or (Words ∷ Nonwords ∷ Text ∷ Lex ∷ LexAt ∷ Post ∷ Skip ∷ Weights ∷ Run ∷ []) index Head

-- the other parts of a set: the head, the places, and the working parts
abbrev pub IsMadeAnew : Part → Type 0
IsMadeAnew Head = Unit {0}
IsMadeAnew Places = Unit {0}
IsMadeAnew MergeA = Unit {0}
IsMadeAnew MergeB = Unit {0}
IsMadeAnew p = ⊥

-- a part of one base is as that of another was
abbrev pub IsCopied : List ℕ → List ℕ → Option Files → Option Files → Part → Type 0
IsCopied name new before now p = bytes_at now (full_name new p) ≡ bytes_at before (full_name name p)

-- the parts that are the same in both versions
pub record AreCopied (name new : List ℕ) (before now : Option Files) : Type 0 where
  pub words : IsCopied name new before now Words
  pub nonwords : IsCopied name new before now Nonwords
  pub text : IsCopied name new before now Text
  pub lex : IsCopied name new before now Lex
  pub lex_at : IsCopied name new before now LexAt
  pub post : IsCopied name new before now Post
  pub skip : IsCopied name new before now Skip
  pub weights : IsCopied name new before now Weights
  pub run : IsCopied name new before now Run

-- the fields of a head, in version 2
abbrev pub wide_of : defs.Head → defs.Head
wide_of h = record {
  version = 2;
  documents = h.documents;
  words = h.words;
  others = h.others;
  terms = h.terms;
  cap = h.cap;
  open_end = h.open_end;
  collection = h.collection;
  occurrences = h.occurrences;
  runs = h.runs;
  text_bytes = h.text_bytes;
  post_bytes = h.post_bytes;
  skip_count = h.skip_count;
}

-- Whatever its bytes mean, the set with this head was made anew: the new head is the same in version 2, and each part that is the same in both versions is copied, in version 2 the places too.
pub record IsTakenOver (head : defs.Head) (name new : List ℕ) (before now : Option Files) : Type 0 where
  pub wide : file_at now (full_name new Head) ≡ Some (head_bytes (wide_of head))
  pub copied : AreCopied name new before now
  pub places : head.version ≡ 2 → IsCopied name new before now Places

-- All that is taken over but the head, which is there and empty.
pub record LacksHead (head : defs.Head) (name new : List ℕ) (before now : Option Files) : Type 0 where
  pub gone : file_at now (full_name new Head) ≡ Some []
  pub copied : AreCopied name new before now
  pub places : head.version ≡ 2 → IsCopied name new before now Places

-- The head's part of a base is there, with so many of the first bytes of this head in version 2: none, some or all.
pub record HasBegun (head : defs.Head) (files : Option Files) (base : List ℕ) : Type 0 where
  pub count : ℕ
  pub first : file_at files (full_name base Head) ≡ Some (take count (head_bytes (wide_of head)))

-- head and working parts of a base are there and empty
pub record AreEmptied (files : Option Files) (base : List ℕ) : Type 0 where
  pub head : file_at files (full_name base Head) ≡ Some []
  pub merge_a : file_at files (full_name base MergeA) ≡ Some []
  pub merge_b : file_at files (full_name base MergeB) ≡ Some []

-- the cause of each refusal, by the files as the call began
abbrev pub MigrateStops : Type 0 → Option Files → List ℕ → List ℕ → Fault → Type 0
MigrateStops store_rose files name new StoreFault = store_rose
MigrateStops store_rose files name new NotBuilt = IsSome files → HasNoHead files name
MigrateStops store_rose files name new (Damaged bad) = StandsForNone files name
MigrateStops store_rose files name new Memory = Unit {0}
MigrateStops store_rose files name new SameName = new ≡ name
MigrateStops store_rose files name new _ = ⊥

-- a refusal before the first write
abbrev pub ComesFirst : Fault → Type 0
ComesFirst SameName = Unit {0}
ComesFirst NotBuilt = Unit {0}
ComesFirst _ = ⊥

-- ---- words for contracts

-- when it is done, only the head of a base is to come
abbrev pub ReadyForHead : {T E : Type 0} → List ℕ → ℕ → Option Files → Result T E → TextCode → List ℕ → Type 0
ReadyForHead base cap files result code collection = OnOk result (LacksOnlyHead base collection cap code files)

-- the places of a base are those of a collection in version 2
abbrev pub HasWidePlaces : Option Files → List ℕ → TextCode → List ℕ → Type 0
HasWidePlaces files base code collection = bytes_at files (full_name base Places) ≡ places_part 2 code collection
