-- Documents one after the other, with the bytes that close them.
use Rattle.std.specs.Prelude.{◌≡◌, ◌≤◌, ℕ, Bool, List, ◌++◌, drop, length}
use Rattle.std.specs.declared.option.Option.{Option}
use Rattle.std.specs.declared.result.Result.{Result}
use Rattle.mg_dev.specs.Files.{Files}
use Rattle.mg_dev.specs.declared.show_err.ShowErr.{ShowErr}
use Rattle.mg_defs.specs.Split.{close, documents, has_open_end, joined}
use Rattle.mg_defs.specs.Terms.{document}
use Rattle.mg_text.specs.Decoding.{Gathering, Gathers, Shown}
use Rattle.mg_text.specs.Reading.{ShowIsNotBad, TextReading, TextStands}

-- The first documents of a collection were shown or are held: the others follow.
pub record ShownFirst (count : ℕ) (before now : Option (List ℕ)) (b : Gathering) (collection : List ℕ) (most : ℕ) :
    Type 0 where
  pub bytes : List ℕ
  pub shown : Shown before now b bytes most
  pub whole : bytes ++ joined (drop count (documents collection)) (has_open_end collection) ≡ collection

-- this is so of the collection of a text, and of bytes, of so many at most, that were shown or are held before
abbrev pub IfShown : TextReading → Option Files → Option (List ℕ) → Gathering →
    (List ℕ → Option (List ℕ) → List ℕ → ℕ → Type 0) → Type 0
IfShown reader files written b holds =
    (collection : List ℕ) (before : Option (List ℕ)) (bytes : List ℕ) (most : ℕ) → TextStands reader files collection →
    Shown before written b bytes most
    → holds collection before bytes most

-- behind these bytes a document of the collection is gathered, with the byte that closes it where it is closed
-- it is not bad, where all of it may come
abbrev pub GathersClosed : ℕ → Bool → Option (List ℕ) → Gathering → Result (Unit {0}) ShowErr → List ℕ →
    Option (List ℕ) → List ℕ → ℕ → Type 0
GathersClosed number closed written b result collection before bytes most =
    length (bytes ++ (document collection number ++ close closed)) ≤ most →
    Gathers result before written b (bytes ++ (document collection number ++ close closed)) most
    × ShowIsNotBad result

-- this is so of the collection of a text, if its end is open as told and it has as many bytes as told
abbrev pub ForTextEnding : TextReading → Option Files → Bool → ℕ → (List ℕ → Type 0) → Type 0
ForTextEnding reader files open_end size holds = (collection : List ℕ) → TextStands reader files collection →
    has_open_end collection ≡ open_end → length collection ≡ size → holds collection
