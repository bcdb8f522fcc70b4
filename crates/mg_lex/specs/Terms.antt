-- Terms with what the lexicon tells of them, and their entries.
use Rattle.std.specs.Prelude.{◌≡◌, ◌<◌, ◌^◌, ℕ, List, map, slice_get, Some}
use Rattle.std.specs.List.{enumerate_from}
use Rattle.mg_defs.specs.Front.{Entry}
use Rattle.mg_defs.specs.Lexicon.{TermInfo, info_bytes, info_of}
use Rattle.mg_defs.specs.Terms.{dictionary}

pub record Term : Type 0 where
  pub string : List ℕ
  pub info : TermInfo

abbrev pub entry_of_term : Term → Entry
entry_of_term t = record { string = t.string; field = info_bytes t.info }

-- their entries, in order
abbrev pub entries_of : List Term → List Entry
entries_of ts = map entry_of_term ts

-- the terms of a collection, in the order of their bytes
unfoldable pub terms_of : List ℕ → List Term
terms_of collection = map (λ (t : ℕ × List ℕ). record { string = t.1; info = info_of collection t.0 t.1 })
    (enumerate_from 0 (dictionary collection))

-- each number fits in its bytes of a field
pub record FitsField (info : TermInfo) : Type 0 where
  pub docs : info.docs < 2 ^ 32
  pub post_at : info.post_at < 2 ^ 64
  pub skip_at : info.skip_at < 2 ^ 32

-- what stands of a term that has this number in a collection fits in its field
abbrev pub TermFits : List ℕ → ℕ → List ℕ → Type 0
TermFits collection number term = slice_get (dictionary collection) number ≡ Some term →
    FitsField (info_of collection number term)
