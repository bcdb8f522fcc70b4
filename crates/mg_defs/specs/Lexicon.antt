-- The lexicon of a collection: where each term's list stands.
use Rattle.std.specs.Prelude.{◌≡◌, ℕ, ◌++◌, List, map, slice_get, Some}
use Rattle.std.specs.List.{enumerate_from}
use Rattle.mg_defs.specs.Numbers.{four, eight}
use Rattle.mg_defs.specs.Front.{Entry, front, whole_at}
use Rattle.mg_defs.specs.Terms.{docs, dictionary}
use Rattle.mg_defs.specs.Lists.{list_byte, first_entry}

-- what the lexicon tells of a term: how many documents have it, the byte of Post where its list begins, and the number of its first skip entry
pub record TermInfo : Type 0 where
  pub docs : ℕ
  pub post_at : ℕ
  pub skip_at : ℕ

-- in sixteen bytes
abbrev pub info_bytes : TermInfo → List ℕ
info_bytes info = four info.docs ++ eight info.post_at ++ four info.skip_at

-- of the term with this number
abbrev pub info_of : List ℕ → ℕ → List ℕ → TermInfo
info_of collection number t = record {
  docs = docs collection t;
  post_at = list_byte collection number;
  skip_at = first_entry collection number;
}

-- the entry of the term with this number: its string, and what the lexicon tells of it
abbrev pub term_entry : List ℕ → ℕ → List ℕ → Entry
term_entry collection number t = record { string = t; field = info_bytes (info_of collection number t) }

-- one entry for each distinct term, in the order of the terms
unfoldable pub lexicon : List ℕ → List Entry
lexicon collection = map (λ (t : ℕ × List ℕ). term_entry collection t.0 t.1) (enumerate_from 0 (dictionary collection))

-- the term has this number
abbrev pub IsTermAt : List ℕ → ℕ → List ℕ → Type 0
IsTermAt collection number t = slice_get (dictionary collection) number ≡ Some t

-- the lexicon has the entry at this place
abbrev pub IsEntryAt : List ℕ → ℕ → Entry → Type 0
IsEntryAt collection number e = slice_get (lexicon collection) number ≡ Some e

-- the bytes of Lex, and those of LexAt
abbrev pub lex_part : List ℕ → List ℕ
lex_part collection = front (lexicon collection)

abbrev pub lex_at_part : List ℕ → List ℕ
lex_at_part collection = whole_at (lexicon collection)
