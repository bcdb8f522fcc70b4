-- What contracts see of what the lexicon tells of a term.
use Rattle.std.specs.Prelude.{◌≡◌, ℕ, List, slice_get, Some}
use Rattle.mg_defs.specs.Lexicon as defs
use Rattle.mg_defs.specs.Terms.{dictionary}
use Rattle.mg_layout.specs.declared.term_info.TermInfo.{TermInfo}

abbrev pub info_of : TermInfo → defs.TermInfo
info_of info = record { docs = info.docs; post_at = info.post_at; skip_at = info.skip_at }

-- what stands of a term of the collection: its number, how many documents have it, where its list begins, and its first skip entry
pub record IsInfoOf (collection t : List ℕ) (info : TermInfo) : Type 0 where
  pub number : slice_get (dictionary collection) info.number ≡ Some t
  pub is : info_of info ≡ defs.info_of collection info.number t
