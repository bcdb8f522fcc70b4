-- What the calls promise that make a ranked answer, told of the two moments before and after.
use Rattle.std.specs.Prelude.{◌≡◌, ℕ, ◌+◌, ◌*◌, ◌^◌, ◌≤◌, ◌<◌, List, [], length, sum_by, take, Vec, IfErr, IfOk, OnOk}
use Rattle.std.specs.List.{All}
use Rattle.std.specs.declared.option.Option.{Option}
use Rattle.std.specs.declared.result.Result.{Result}
use Rattle.std.proofs.Common.{Global}
use Rattle.mg_dev.specs.Files.{Files, Reads}
use Rattle.mg_dev.specs.Moments.{StoreStep}
use Rattle.mg_dev.specs.Names.{full_name}
use Rattle.mg_dev.specs.PartCauses.{HasPartCause}
use Rattle.mg_dev.specs.declared.part.Part.TheVariants as part
use Rattle.mg_dev.specs.declared.part_err.PartErr.{PartErr}
use Rattle.mg_defs.specs.PageBounds.{list_pages, ranked_bound}
use Rattle.mg_defs.specs.Weights.{by_score, hits_over, weight_of_term}
use Rattle.mg_layout.specs.declared.term_info.TermInfo.{TermInfo}
use Rattle.mg_post.specs.Cursor.{Cursoring, count_behind, post_pages, skip_pages}
use Rattle.mg_post.specs.PagesOnce.{span_pages}
use Rattle.mg_post.specs.TermLists.{CursorForInfo, IsOverInfo, ReadsLists}
use Rattle.mg_rank.specs.Added.{AddedTo, AddsWhole, CountsWhole}
use Rattle.mg_rank.specs.Damages.{HasSome, IsNotOfLex, TellsFirstOf, TellsTerm}
use Rattle.mg_rank.specs.Ranked.{AddsTerm, AnswersOr, AnswersTop, ForRanked, ForSums, ForTerm, ForTerms, IsNumbered, Ranking, ReadsRanked, ReadsWeights, SumsFor, list_entries}
use Rattle.mg_rank.specs.Rows.{AreFirst, AreNumbered}
use Rattle.mg_rank.specs.Sums.{AreApart, AreWithin, sum_of}
use Rattle.mg_rank.specs.WeightReads.{ascents_in, weight_pages}
use Rattle.mg_rank.specs.declared.best.Kept.{Kept}

-- sums of the documents of a collection of so many
pub record AreSums (all : ℕ) (sums : List (ℕ × ℕ)) : Type 0 where
  -- each is of a document from 1 on
  pub within : AreWithin all sums
  -- no document has two
  pub apart : AreApart sums
  -- each is small enough for a score
  pub small : (d : ℕ) → sum_of d sums < 2 ^ 56

-- the list of a term is gone over, and what it adds to each of its documents is added to the sums
pub record AddsList (base : List ℕ) (info : TermInfo) (all : ℕ) (old new : List (ℕ × ℕ)) (result : Result (Unit {0}) PartErr)
    (files_before files_now : Option Files) (reads_before reads_now : Reads) (faults_before faults_now : ℕ) : Type 0 where
  -- where the parts stand, these are the sums with the term
  pub answer : AddsTerm base files_before info all old new result
  -- whatever the parts have, the whole list was added
  pub whole : OnOk result (AddsWhole all info old new)
  -- whatever the parts have, no sum grows by more than 2^29, and the documents stay within bounds and apart
  pub small : (n : ℕ) → ((d : ℕ) → sum_of d old ≤ n) → (d : ℕ) → sum_of d new ≤ n + 2 ^ 29
  pub within : AreWithin all old → AreWithin all new
  pub apart : AreApart old → AreApart new
  -- the documents that had no sum yet make at most one ascent more
  pub ascents : ascents_in new ≤ ascents_in old + 1
  -- where the parts stand, no more pages of Post are read than the list has, and none of them twice
  pub pages : ForTerm base files_before info all (λ collection t. reads_now part.Post ≤ reads_before part.Post + list_pages collection t)
  pub once : ForTerm base files_before info all (λ collection t. reads_now part.Post ≤ reads_before part.Post + span_pages collection t)
  -- whatever the parts have, no more pages of Skip are read than the list's entries lie on
  pub skips : reads_now part.Skip ≤ reads_before part.Skip + list_entries info
  -- no other part is read
  pub reads : ReadsLists reads_before reads_now
  -- nothing is written
  pub files : files_now ≡ files_before
  -- a device's failure has a cause
  pub cause : HasPartCause faults_before faults_now result
  -- a damage of the lexicon is that of the term, and is told at its number
  pub lexicon : IfErr result (TellsTerm all info)

-- a cursor stands before the list of which the lexicon tells this, and has read nothing
pub record IsBefore (base : List ℕ) (info : TermInfo) (all : ℕ) (c : Cursoring) : Type 0 where
  pub over : IsOverInfo c base info all
  pub term : CursorForInfo base info all c
  -- all postings are left
  pub held : c.held ≡ []
  pub whole : count_behind c ≡ info.docs
  -- they are of 1 to so many documents
  pub docs : HasSome all info
  pub post : post_pages c ≡ 0
  pub skip : skip_pages c ≡ 0

-- the list before which a cursor stands is gone over, by the weight of its term
abbrev pub AddsBehind : Cursoring → ℕ → List (ℕ × ℕ) → List (ℕ × ℕ) → Result (Unit {0}) PartErr → StoreStep
AddsBehind c weight old new result files_before files_now reads_before reads_now faults_before faults_now =
    (base : List ℕ) (info : TermInfo) → IsBefore base info c.all c → weight ≡ weight_of_term info.docs c.all →
    AddsList base info c.all old new result files_before files_now reads_before reads_now faults_before faults_now

-- the lists of all terms are gone over, and the documents have their sums
pub record SumsTerms (base : List ℕ) (terms : List TermInfo) (all : ℕ) (result : Result (List (ℕ × ℕ)) PartErr)
    (files_before files_now : Option Files) (reads_before reads_now : Reads) (faults_before faults_now : ℕ) : Type 0 where
  -- where the parts stand, these are the sums for the terms
  pub answer : ForTerms base files_before terms all (λ collection ts. AnswersOr result (λ sums. SumsFor collection ts sums))
  -- whatever the parts have, they are sums of documents, and the list of each term was added whole
  pub sums : IfOk result (AreSums all)
  pub whole : IfOk result (AddedTo all terms (length terms))
  -- the documents stand in at most one ascent for each term
  pub ascents : IfOk result (λ sums. ascents_in sums ≤ length terms)
  -- where the parts stand, no more pages of Post are read than the lists have, and none of a list twice
  pub pages : ForTerms base files_before terms all (λ collection ts. reads_now part.Post ≤ reads_before part.Post + ranked_bound collection ts)
  pub once : ForTerms base files_before terms all (λ collection ts.
      reads_now part.Post ≤ reads_before part.Post + sum_by (span_pages collection) ts)
  -- whatever the parts have, no more pages of Skip are read than the lists' entries lie on
  pub skips : reads_now part.Skip ≤ reads_before part.Skip + sum_by list_entries terms
  -- no other part is read
  pub reads : ReadsLists reads_before reads_now
  -- nothing is written
  pub files : files_now ≡ files_before
  -- a device's failure has a cause
  pub cause : HasPartCause faults_before faults_now result
  -- a damage of the lexicon is that of the first term that has one, and is told at its number
  pub lexicon : IfErr result (TellsFirstOf all terms)

-- the first rows of the documents with these sums are found, at most so many
pub record FindsFirst (base : List ℕ) (sums : List (ℕ × ℕ)) (all most : ℕ) (result : Result (Vec Kept Global) PartErr)
    (files_before files_now : Option Files) (reads_before reads_now : Reads) (faults_before faults_now : ℕ) : Type 0 where
  -- where the parts stand, they are the first of the documents with a term
  pub answer : ForSums base files_before all sums (λ collection ts.
      AnswersOr result (λ rows. AreFirst collection ts most rows.items))
  -- whatever the parts have, they are rows of documents
  pub range : IfOk result (λ rows. AreNumbered all rows.items)
  -- the pages of Weights are read at most once in each ascent of the documents
  pub weights : reads_now part.Weights ≤ reads_before part.Weights + ascents_in sums * weight_pages all
  -- no other part is read
  pub reads : ReadsWeights reads_before reads_now
  -- nothing is written
  pub files : files_now ≡ files_before
  -- a device's failure has a cause
  pub cause : HasPartCause faults_before faults_now result
  -- no damage of the lexicon is told
  pub lexicon : IfErr result IsNotOfLex

-- they are found by the weights in a file of this name
abbrev pub FindsIn : List ℕ → List (ℕ × ℕ) → ℕ → ℕ → Result (Vec Kept Global) PartErr → StoreStep
FindsIn name sums all most result files_before files_now reads_before reads_now faults_before faults_now =
    (base : List ℕ) → name ≡ full_name base part.Weights →
    FindsFirst base sums all most result files_before files_now reads_before reads_now faults_before faults_now

-- the first documents with these sums are found, at most so many, and all with a sum are counted
pub record RanksSums (base : List ℕ) (sums : List (ℕ × ℕ)) (all most : ℕ) (result : Result Ranking PartErr)
    (files_before files_now : Option Files) (reads_before reads_now : Reads) (faults_before faults_now : ℕ) : Type 0 where
  -- where the parts stand, they are the first of the documents with a term, and all of these are counted
  pub answer : ForSums base files_before all sums (λ collection ts. AnswersOr result (λ r.
      (r.rows ≡ take most (by_score (hits_over collection ts))) × (r.total ≡ length (hits_over collection ts))))
  -- whatever the parts have, they are rows of documents, and the sums were counted
  pub range : IfOk result (λ r. All (IsNumbered all) r.rows)
  pub total : IfOk result (λ r. r.total ≡ length sums)
  -- the pages of Weights are read at most once in each ascent of the documents, and none where no row is wanted
  pub weights : reads_now part.Weights ≤ reads_before part.Weights + ascents_in sums * weight_pages all
  pub none : most ≡ 0 → reads_now part.Weights ≡ reads_before part.Weights
  -- no other part is read
  pub reads : ReadsWeights reads_before reads_now
  -- nothing is written
  pub files : files_now ≡ files_before
  -- a device's failure has a cause
  pub cause : HasPartCause faults_before faults_now result
  -- no damage of the lexicon is told
  pub lexicon : IfErr result IsNotOfLex

-- the first documents with one of the terms are found, at most so many
pub record RanksTerms (base : List ℕ) (terms : List TermInfo) (all most : ℕ) (result : Result Ranking PartErr)
    (files_before files_now : Option Files) (reads_before reads_now : Reads) (faults_before faults_now : ℕ) : Type 0 where
  -- where the parts stand, they are the first of the defined order, and all documents with a term are counted
  pub answer : ForRanked base files_before terms all (λ collection ts. AnswersTop result collection ts most)
  -- whatever the parts have, they are rows of documents, and whole lists were counted
  pub range : IfOk result (λ r. All (IsNumbered all) r.rows)
  pub whole : IfOk result (CountsWhole all terms)
  -- where the parts stand, no more pages of Post are read than the lists have, and none of a list twice
  pub pages : ForTerms base files_before terms all (λ collection ts. reads_now part.Post ≤ reads_before part.Post + ranked_bound collection ts)
  pub once : ForTerms base files_before terms all (λ collection ts.
      reads_now part.Post ≤ reads_before part.Post + sum_by (span_pages collection) ts)
  -- whatever the parts have, no more pages of Skip are read than the lists' entries lie on
  pub skips : reads_now part.Skip ≤ reads_before part.Skip + sum_by list_entries terms
  -- the pages of Weights are read at most once for each term, and none where no row is wanted
  pub weights : reads_now part.Weights ≤ reads_before part.Weights + length terms * weight_pages all
  pub none : most ≡ 0 → reads_now part.Weights ≡ reads_before part.Weights
  -- no other part is read
  pub reads : ReadsRanked reads_before reads_now
  -- nothing is written
  pub files : files_now ≡ files_before
  -- a device's failure has a cause
  pub cause : HasPartCause faults_before faults_now result
  -- a damage of the lexicon is that of the first term that has one, and is told at its number
  pub lexicon : IfErr result (TellsFirstOf all terms)
