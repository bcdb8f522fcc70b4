-- For each collection that parts of a session are of.
use Rattle.std.specs.Prelude.{ℕ, List}
use Rattle.std.specs.declared.option.Option.{Option}
use Rattle.mg_dev.specs.Files.{Files}
use Rattle.mg_defs.specs.CodedText.{TextCode}
use Rattle.mg_defs.specs.WithinLimits.{IsWithinLimits}
use Rattle.mg_front.specs.Reading.{Fronted}
use Rattle.mg_lex.specs.Reading.{LexStands}
use Rattle.mg_session.specs.Searching.{Opened, OpenedOver}
use Rattle.mg_session.specs.Texts.{Texting, TextsStand}

-- ---- for each collection, and the codes of its text

-- that the open parts are of
abbrev pub ForOpened : Option Files → Opened → (TextCode → List ℕ → Type 0) → Type 0
ForOpened files opened holds = (code : TextCode) (collection : List ℕ) → OpenedOver files opened code collection →
    holds code collection

-- whose text this is
abbrev pub ForText : Texting → Option Files → (TextCode → List ℕ → Type 0) → Type 0
ForText texts files holds = (code : TextCode) (collection : List ℕ) → TextsStand texts files code collection →
    holds code collection

-- whose lexicon this is, and which is within the limits of some version
abbrev pub ForLexicon : Fronted → Option Files → (List ℕ → Type 0) → Type 0
ForLexicon lex files holds = (version : ℕ) (collection : List ℕ) → IsWithinLimits version collection →
    LexStands lex files collection → holds collection
