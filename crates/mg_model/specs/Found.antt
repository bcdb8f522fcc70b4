-- Symbols that were found, each beside the key of its piece.
use Rattle.std.specs.Prelude.{◌≡◌, ℕ, ◌≤◌, All, List, Some, length, position}
use Rattle.std.specs.Str.{bytes_eq}
use Rattle.mg_model.specs.declared.found_symbols.FoundSymbols.{FoundSymbols}
use Rattle.mg_model.specs.declared.found_symbols.KeptSymbol.{KeptSymbol}
use Rattle.mg_model.specs.Keys.{short_key}

-- Where a key is that of a piece of at most fifteen bytes, the piece stands at this place among these.
abbrev pub IsFound : List (List ℕ) → List ℕ → ℕ → Type 0
IsFound pieces key symbol = (piece : List ℕ) → length piece ≤ 15 → key ≡ short_key piece → position (bytes_eq piece) pieces ≡ Some symbol

-- each symbol that is kept is the place of its key's piece among these
pub record AreFound (found : FoundSymbols) (pieces : List (List ℕ)) : Type 0 where
  pub each : All (λ (kept : KeptSymbol). IsFound pieces kept.key.entry kept.symbol) found.kept.items
