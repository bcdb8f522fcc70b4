-- Whole lists that are added to sums, whatever the parts have.
use Rattle.std.specs.Prelude.{◌≡◌, ℕ, ◌+◌, ◌*◌, List, [], ◌∷◌, length, slice_index_or, suc, zero}
use Rattle.mg_defs.specs.declared.Posting.{Posting}
use Rattle.mg_defs.specs.Weights.{weight_in_doc, weight_of_term}
use Rattle.mg_layout.specs.declared.term_info.TermInfo.{TermInfo}
use Rattle.mg_post.specs.Cursor.{IsFrom}
use Rattle.mg_rank.specs.Damages.{HasSome}
use Rattle.mg_rank.specs.Ranked.{Ranking}
use Rattle.mg_rank.specs.Sums.{with_more}

-- the sums with what each of these postings of a term of this weight adds
abbrev pub with_all : ℕ → List Posting → List (ℕ × ℕ) → List (ℕ × ℕ)
with_all weight [] sums = sums
with_all weight (p ∷ ps) sums = with_all weight ps (with_more p.doc (weight_in_doc p.freq * weight) sums)

-- each posting is of a document behind the one before, among so many documents
abbrev pub AreRising : ℕ → ℕ → List Posting → Type 0
AreRising all before [] = Unit {0}
AreRising all before (p ∷ ps) = IsFrom (before + 1) all p × AreRising all p.doc ps

-- a list was added that has as many postings as the lexicon tells of its term, which are of 1 to so many documents
pub record AddsWhole (all : ℕ) (info : TermInfo) (old new : List (ℕ × ℕ)) : Type 0 where
  pub list : List Posting
  pub count : length list ≡ info.docs
  pub docs : HasSome all info
  pub rising : AreRising all 0 list
  pub added : new ≡ with_all (weight_of_term info.docs all) list old

-- to no sums, the lists of the first so many terms were added, each of them whole
abbrev pub AddedTo : ℕ → List TermInfo → ℕ → List (ℕ × ℕ) → Type 0
AddedTo all terms zero sums = sums ≡ []
AddedTo all terms (suc n) sums = (before : List (ℕ × ℕ)) × AddedTo all terms n before
    × ((info : TermInfo) → slice_index_or terms n info ≡ info → AddsWhole all info before sums)

-- the documents were counted to whose sums the list of each term was added whole
pub record CountsWhole (all : ℕ) (terms : List TermInfo) (r : Ranking) : Type 0 where
  pub sums : List (ℕ × ℕ)
  pub added : AddedTo all terms (length terms) sums
  pub total : r.total ≡ length sums
