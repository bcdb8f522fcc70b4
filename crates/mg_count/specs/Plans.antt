-- What the first pass hands on to the second.
use Rattle.std.specs.Prelude.{◌≡◌, ◌≤◌, ◌<◌, ◌-◌, ◌^◌, ℕ, Bool, List, [], length, replicate, sum}
use Rattle.mg_defs.specs.CodedText.{IsTextCode, TextCode}
use Rattle.mg_defs.specs.WithinLimits.{IsWithinLimits}
use Rattle.mg_defs.specs.Marks.{pair_counts}
use Rattle.mg_defs.specs.Means.{IsModel}
use Rattle.mg_defs.specs.Split.{has_open_end}
use Rattle.mg_defs.specs.Vocabulary.{counts_of, piece_counts, sorted_of, sorted_pieces}
use Rattle.mg_defs.specs.declared.Stream.TheVariants.{Words, Others}
use Rattle.mg_defs.specs.Terms.{dictionary}
use Rattle.mg_model.specs.Terms.{TermNumbers, terms_and_numbers}
use Rattle.mg_runs.specs.Pooled.{Pooled}
use Rattle.mg_count.specs.DocCounting.{AreDocCounts, DocCounting}

-- the code, the numbers of pairs and the terms by which the second pass writes, and whether the collection has an open end
pub record Plan : Type 0 where
  pub code : TextCode
  pub pairs : List ℕ
  pub terms : TermNumbers
  pub open_end : Bool

-- the plan by this code, whose terms are those of its words
abbrev pub plan_by : TextCode → List ℕ → Bool → Plan
plan_by code pairs open_end = record {
  code = code;
  pairs = pairs;
  terms = terms_and_numbers code.words.pieces;
  open_end = open_end;
}

-- what every plan keeps
pub record IsPlan (p : Plan) : Type 0 where
  pub model : IsModel p.code
  pub terms : p.terms ≡ terms_and_numbers p.code.words.pieces
  pub pairs : length p.pairs ≤ 2 ^ 24
  pub small : sum p.pairs ≤ 2 ^ 32 - 1

-- The plan is that of a collection, which is within the limits.
pub record IsPlanOf (p : Plan) (collection : List ℕ) : Type 0 where
  pub limits : IsWithinLimits 2 collection
  pub code : IsTextCode collection p.code
  pub pairs : p.pairs ≡ pair_counts collection
  pub terms : p.terms.terms ≡ dictionary collection
  pub open_end : p.open_end ≡ has_open_end collection

-- These are the words and the others of a collection of fewer than 2^32 bytes, in any order, each with how often it comes, and the pairs of each document.
pub record AreCountsOf (words others : List (List ℕ × ℕ)) (pairs : List ℕ) (open_end : Bool) (collection : List ℕ) : Type 0 where
  pub few : length collection < 2 ^ 32
  pub words_are : sorted_of words ≡ sorted_pieces Words collection
  pub others_are : sorted_of others ≡ sorted_pieces Others collection
  pub word_counts : counts_of words ≡ piece_counts Words collection
  pub other_counts : counts_of others ≡ piece_counts Others collection
  pub pairs_are : pairs ≡ pair_counts collection
  pub end : open_end ≡ has_open_end collection

-- room for what the second pass counts: the pool of the runs, how many documents have each term, and the sum of squared weights of each document
pub record Rooming : Type 0 where
  pub pool : Pooled
  pub counts : DocCounting
  pub sums : List ℕ

-- nothing was counted yet, for this plan and a pool of so many bytes
pub record IsRoomFor (room : Rooming) (p : Plan) (budget : ℕ) : Type 0 where
  pub pool : room.pool ≡ record { entries = []; slots = []; peak = 0; limit = budget }
  pub counts : AreDocCounts room.counts (length p.terms.terms) []
  pub sums : room.sums ≡ replicate (length p.pairs) 0
