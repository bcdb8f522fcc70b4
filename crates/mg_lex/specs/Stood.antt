-- What stands in the parts of a lexicon for what it told of a term, whatever else they hold.
use Rattle.std.specs.Prelude.{◌≡◌, ◌<◌, ◌/◌, ◌%◌, ℕ, List, Some, None}
use Rattle.std.specs.declared.option.Option.{Option}
use Rattle.mg_dev.specs.Files.{Files}
use Rattle.mg_defs.specs.Front.{Entry}
use Rattle.mg_defs.specs.Lexicon.{info_bytes}
use Rattle.mg_front.specs.Reading.{Fronted}
use Rattle.mg_front.specs.Stood.{AbsentStands, EntryStands}
use Rattle.mg_layout.specs.Infos.{info_of}
use Rattle.mg_layout.specs.declared.term_info.TermInfo.{TermInfo}

-- The entry of a number stands; its string is the term, and its field has what is told of it.
pub record TermStands (r : Fronted) (files : Option Files) (term : List ℕ) (info : TermInfo) : Type 0 where
  pub among : info.number < r.count
  pub entry : Entry
  pub stands : EntryStands r files (info.number / 4) (info.number % 4) entry
  pub string : entry.string ≡ term
  pub field : entry.field ≡ info_bytes (info_of info)

-- what is told of a term: its entry stands, or those around the term show that it has none
abbrev pub TermTold : Fronted → Option Files → List ℕ → Option TermInfo → Type 0
TermTold r files term (Some info) = TermStands r files term info
TermTold r files term None = AbsentStands r files term
