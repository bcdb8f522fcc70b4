-- The first rows of a ranked answer: what is handed in, and what is answered.
use Rattle.std.specs.Prelude.{◌≡◌, ◌≢◌, ℕ, ◌+◌, ◌-◌, ◌*◌, ◌^◌, ◌≤◌, ◌<◌, List, [], ◌∷◌, ◌++◌, length, take, drop, get_or, slice_index_or, Ok, Err, Some, None, sum_by, filter, nat_eq, if◌then◌else◌}
use Rattle.std.specs.List.{list_any, IsDistinct}
use Rattle.std.specs.Str.{bytes_eq}
use Rattle.std.specs.declared.option.Option.{Option}
use Rattle.std.specs.declared.result.Result.{Result}
use Rattle.mg_dev.specs.Files.{Files, Reads, bytes_at}
use Rattle.mg_dev.specs.Names.{full_name}
use Rattle.mg_dev.specs.declared.part.Part.{Part}
use Rattle.mg_dev.specs.declared.part.Part.TheVariants as part
use Rattle.mg_dev.specs.declared.part_err.PartErr.{PartErr}
use Rattle.mg_dev.specs.declared.part_err.PartErr.TheVariants.{Device, Memory, Bad}
use Rattle.mg_bits.specs.Pages.{Paging}
use Rattle.mg_defs.specs.Numbers.{four}
use Rattle.mg_defs.specs.Split.{documents}
use Rattle.mg_defs.specs.Terms.{document}
use Rattle.mg_defs.specs.Weights.{Hit, has_term, wd, wt, hits, by_score}
use Rattle.mg_layout.specs.Infos.{IsInfoOf}
use Rattle.mg_layout.specs.declared.term_info.TermInfo.{TermInfo}
use Rattle.mg_defs.specs.Stands.{weights_part}
use Rattle.std.specs.Map.{lookup}
use Rattle.mg_defs.specs.Lists.{block_count}
use Rattle.mg_post.specs.Cursor.{Cursoring}
use Rattle.mg_post.specs.Finding.{entries_pages}
use Rattle.mg_post.specs.TermLists.{ListsStand, PostRises}
pub use Rattle.mg_post.specs.WholeLists.{AnswersBehind, ForList, ListFor}
use Rattle.mg_rank.specs.Sums.{AreApart}

-- what is told of these distinct terms, each of them of the collection
pub record AreTold (collection : List ℕ) (ts : List (List ℕ)) (infos : List TermInfo) : Type 0 where
  pub size : length infos ≡ length ts
  pub each : (k : ℕ) (info : TermInfo) → k < length ts → slice_index_or infos k info ≡ info →
      IsInfoOf collection (get_or ts k []) info
  pub apart : IsDistinct bytes_eq ts

pub record WeightsStand (base : List ℕ) (files : Option Files) (collection : List ℕ) : Type 0 where
  pub lists : ListsStand base files collection
  pub weights : bytes_at files (full_name base part.Weights) ≡ weights_part collection

-- rows as they are seen, and how many documents there are before the cut
pub record Ranking : Type 0 where
  pub rows : List Hit
  pub total : ℕ

-- a document from 1 to so many
abbrev pub IsNumbered : ℕ → Hit → Type 0
IsNumbered all h = (1 ≤ h.number) × (h.number ≤ all)

-- where the parts stand: the first of the documents with a term, by score and number, and how many there are; or want of memory or a device's failure
abbrev pub AnswersTop : Result Ranking PartErr → List ℕ → List (List ℕ) → ℕ → Type 0
AnswersTop (Ok r) collection ts most = (r.rows ≡ take most (by_score (hits collection ts)))
    × (r.total ≡ length (hits collection ts))
AnswersTop (Err Device) collection ts most = Unit {0}
AnswersTop (Err Memory) collection ts most = Unit {0}
AnswersTop (Err (Bad bad)) collection ts most = ⊥

-- no count falls, and none rises but those of Post, Skip and Weights
pub record ReadsRanked (before now : Reads) : Type 0 where
  pub later : (p : Part) → before p ≤ now p
  pub others : (p : Part) → p ≢ part.Post → p ≢ part.Skip → p ≢ part.Weights → now p ≡ before p

-- ---- private: the sums, while the lists of some of the terms were gone through

-- where the parts stand: this fact on the answer; or want of memory or a device's failure
abbrev pub AnswersOr : {T : Type 0} → Result T PartErr → (T → Type 0) → Type 0
AnswersOr (Ok value) fact = fact value
AnswersOr (Err Device) fact = Unit {0}
AnswersOr (Err Memory) fact = Unit {0}
AnswersOr (Err (Bad bad)) fact = ⊥

-- what these terms add to a document
abbrev pub part_sum : List ℕ → List (List ℕ) → ℕ → ℕ
part_sum collection done doc = sum_by (λ t. wd (document collection doc) t * wt collection t)
    (filter (has_term (document collection doc)) done)

-- the sum of a document, where it has one of these terms
abbrev pub so_far : List ℕ → List (List ℕ) → ℕ → Option ℕ
so_far collection done doc = if list_any (has_term (document collection doc)) done
    then Some (part_sum collection done doc) else None

-- the sums of all documents for these terms
pub record SumsFor (collection : List ℕ) (done : List (List ℕ)) (sums : List (ℕ × ℕ)) : Type 0 where
  pub each : (doc : ℕ) → 1 ≤ doc → lookup (nat_eq doc) sums ≡ so_far collection done doc
  pub apart : AreApart sums

-- no count falls, and none rises but that of Weights
pub record ReadsWeights (before now : Reads) : Type 0 where
  pub later : (p : Part) → before p ≤ now p
  pub others : (p : Part) → p ≢ part.Weights → now p ≡ before p

-- ---- what calls promise of the lists, where these stand

-- no more pages of Post are read than so many
abbrev pub PostWithin : {X : Type 0} → (X → Reads) → X → X → ℕ → Type 0
PostWithin reads before now pages = reads now part.Post ≤ reads before part.Post + pages

-- no more pages of Skip are read than so many
abbrev pub SkipWithin : {X : Type 0} → (X → Reads) → X → X → ℕ → Type 0
SkipWithin reads before now pages = reads now part.Skip ≤ reads before part.Skip + pages

-- the pages of Skip on which the entries of a list lie of which this is told
abbrev pub list_entries : TermInfo → ℕ
list_entries info = entries_pages info.skip_at (block_count info.docs)

-- no more pages of Post are read than the cursor has read since
abbrev pub PostRoseWith : {X : Type 0} → (X → Reads) → X → X → Cursoring → Cursoring → Type 0
PostRoseWith reads before now old new = PostRises old new (reads before) (reads now)

-- for each term of which this is told
abbrev pub ForTerm : List ℕ → Option Files → TermInfo → ℕ → (List ℕ → List ℕ → Type 0) → Type 0
ForTerm base files info all claim = (collection t : List ℕ) → ListsStand base files collection →
    IsInfoOf collection t info → all ≡ length (documents collection) → claim collection t

-- to the sums of some terms, what the term adds of which this is told
abbrev pub AddsTerm : {T : Type 0} → List ℕ → Option Files → TermInfo → ℕ → List (ℕ × ℕ) → List (ℕ × ℕ) →
    Result T PartErr → Type 0
AddsTerm base files info all old new result = (collection t : List ℕ) (done : List (List ℕ)) →
    ListsStand base files collection → IsInfoOf collection t info → all ≡ length (documents collection) →
    SumsFor collection done old → AnswersOr result (λ _. SumsFor collection (done ++ t ∷ []) new)

-- for all terms of which these are told
abbrev pub ForTerms : List ℕ → Option Files → List TermInfo → ℕ → (List ℕ → List (List ℕ) → Type 0) → Type 0
ForTerms base files infos all claim = (collection : List ℕ) (ts : List (List ℕ)) → ListsStand base files collection →
    AreTold collection ts infos → all ≡ length (documents collection) → claim collection ts

-- the same, where the weights stand too
abbrev pub ForRanked : List ℕ → Option Files → List TermInfo → ℕ → (List ℕ → List (List ℕ) → Type 0) → Type 0
ForRanked base files infos all claim = (collection : List ℕ) (ts : List (List ℕ)) → WeightsStand base files collection →
    AreTold collection ts infos → all ≡ length (documents collection) → claim collection ts

-- for all terms whose sums these are
abbrev pub ForSums : List ℕ → Option Files → ℕ → List (ℕ × ℕ) → (List ℕ → List (List ℕ) → Type 0) → Type 0
ForSums base files all sums claim = (collection : List ℕ) (ts : List (List ℕ)) → WeightsStand base files collection →
    all ≡ length (documents collection) → SumsFor collection ts sums → claim collection ts

-- ---- weights in four bytes each

-- for each number that the file may have from this byte on
abbrev pub ForFour : Paging → Option Files → ℕ → (ℕ → Type 0) → Type 0
ForFour weights files at claim = (w : ℕ) → w < 2 ^ 32 → take 4 (drop at (bytes_at files weights.name)) ≡ four w →
    claim w

-- for each weight that it may have for a document
abbrev pub ForWeight : Paging → Option Files → ℕ → (ℕ → Type 0) → Type 0
ForWeight weights files doc claim = (w : ℕ) → 1 ≤ w → w < 2 ^ 32 →
    take 4 (drop (4 * (doc - 1)) (bytes_at files weights.name)) ≡ four w → claim w
