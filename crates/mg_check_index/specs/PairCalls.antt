-- Calls that write lists, or a lexicon, into two files which are compared: what they start from, and what they promise.
--
-- They promise it over a store of two files and over the set's store alike, told of the moments before and after.
use Rattle.std.specs.Prelude.{◌≡◌, ◌≤◌, ◌<◌, ◌+◌, ◌^◌, ◌==◌, ◌||◌, ℕ, List, [], IfErr, IfOk, OnOk, codes, length, true}
use Rattle.std.specs.Option.{IsSome}
use Rattle.std.specs.declared.option.Option.{Option}
use Rattle.std.specs.declared.result.Result.{Result}
use Rattle.mg_dev.specs.Bads.{IsNotBad}
use Rattle.mg_dev.specs.Files.{Files, Reads}
use Rattle.mg_dev.specs.Names.{full_name}
use Rattle.mg_dev.specs.declared.part.Part.TheVariants as part
use Rattle.mg_dev.specs.declared.part_err.PartErr.{PartErr}
use Rattle.mg_defs.specs.Front.{is_below}
use Rattle.mg_defs.specs.Lists.{Rises}
use Rattle.mg_defs.specs.declared.Posting.{Posting}
use Rattle.mg_layout.specs.declared.term_info.TermInfo.{TermInfo}
use Rattle.mg_lex.specs.Terms.{Term}
use Rattle.mg_lex.specs.Writing.{LexWriting, TookTermMore, TookTerms, told_term}
use Rattle.mg_post.specs.Writing.{Listing, SameFiles, Took}
use Rattle.mg_check_parts.specs.Looks.{LooksAtSet}
use Rattle.mg_check_index.specs.Anew.{AreBetween, AreEndsOf, ForWritten, GoesToPair, HoldsTerms, HoldsWritten, TookWhole}
use Rattle.mg_check_index.specs.InPair.{PutsPair, pair_files}
use Rattle.mg_check_index.specs.declared.pair_store.WrittenPair.{WrittenPair}

-- ---- any of them

-- a store of two files is made of the same two references, by their names before and after
pub record SameReferences (store_is pair_is store_now pair_now : ℕ) : Type 0 where
  pub store : store_now ≡ store_is
  pub pair : pair_now ≡ pair_is

-- a call that tells no damage
pub record LooksOnly {T : Type 0} (result : Result T PartErr) (files_before files_now : Option Files)
    (reads_before reads_now : Reads) (faults_before faults_now : ℕ) : Type 0 where
  pub never_bad : IfErr result IsNotBad
  -- only parts of the set were read
  pub looks : LooksAtSet result files_before files_now reads_before reads_now faults_before faults_now

-- ---- a lexicon

-- a term may be pushed
pub record CanPushTerm (writer : LexWriting) (files : Option Files) (term : List ℕ) : Type 0 where
  -- the writer took terms
  pub before : List Term
  pub took : TookTerms writer files before
  -- they are fewer than a lexicon has
  pub few : writer.front.count < 2 ^ 22
  -- the term is no longer than one is
  pub short : length term ≤ 255
  -- it is above them
  pub above : (writer.front.count == 0 || is_below writer.front.last term) ≡ true

-- a lexicon may be finished
pub record CanFinishTerms (writer : LexWriting) (files : Option Files) (pair : WrittenPair) : Type 0 where
  -- the writer took terms
  pub before : List Term
  pub took : TookTerms writer files before
  -- its files are the two that are compared
  pub lex : full_name writer.base part.Lex ≡ pair.one.own.now
  pub lex_at : full_name writer.base part.LexAt ≡ pair.other.own.now

-- a lexicon is started
pub record StartsTerms (old new : WrittenPair) (result : Result LexWriting PartErr) (files_before files_now : Option Files)
    (reads_before reads_now : Reads) (faults_before faults_now : ℕ) : Type 0 where
  -- the writer took no term
  pub took : IfOk result (λ w. TookTerms w (pair_files files_before new) [])
  -- its files are of this base
  pub base : IfOk result (λ w. w.base ≡ codes "w")
  -- no damage is told
  pub never_bad : IfErr result IsNotBad
  -- only the two files were written, and only parts of the set were read
  pub puts : PutsPair old new result files_before files_now reads_before reads_now faults_before faults_now

-- what stands of one term more is written
pub record WritesTerm {T : Type 0} (term : List ℕ) (info : TermInfo) (writer writer_now : LexWriting)
    (old new : WrittenPair) (result : Result T PartErr) (files_before files_now : Option Files)
    (reads_before reads_now : Reads) (faults_before faults_now : ℕ) : Type 0 where
  -- the writer took it behind those before
  pub took : OnOk result (TookTermMore writer writer_now (pair_files files_before old) (pair_files files_before new)
      (told_term term info))
  pub count : OnOk result (writer_now.front.count ≡ writer.front.count + 1)
  pub last : OnOk result (writer_now.front.last ≡ term)
  -- its files are those of before
  pub base : writer_now.base ≡ writer.base
  -- no damage is told
  pub never_bad : IfErr result IsNotBad
  -- only the two files were written, and only parts of the set were read
  pub puts : PutsPair old new result files_before files_now reads_before reads_now faults_before faults_now

-- what a writer of a lexicon holds is written
pub record FinishesTerms {T : Type 0} (writer : LexWriting) (old new : WrittenPair) (result : Result T PartErr)
    (files_before files_now : Option Files) (reads_before reads_now : Reads) (faults_before faults_now : ℕ) : Type 0 where
  -- where the store tells its files, both parts were written as those of the terms that were taken
  pub holds : IsSome files_before → (ts : List Term) → TookTerms writer (pair_files files_before old) ts →
      OnOk result (HoldsTerms files_before new ts)
  -- no damage is told
  pub never_bad : IfErr result IsNotBad
  -- only the two files were written, and only parts of the set were read
  pub puts : PutsPair old new result files_before files_now reads_before reads_now faults_before faults_now

-- ---- lists

-- the two files that lists are written to
pub record AreListFiles (pair : WrittenPair) : Type 0 where
  pub post : pair.one.own.now ≡ codes "w.post"
  pub skip : pair.other.own.now ≡ codes "w.skip"

-- a list of so many postings may be written
pub record CanWriteList (writer : Listing) (files : Option Files) (count all : ℕ) : Type 0 where
  -- no list is begun
  pub between : AreBetween writer files all
  pub some : 1 ≤ count
  pub within : count ≤ all
  -- no collection has more postings
  pub total : writer.total + count ≤ 2 ^ 32

-- lists are started among so many documents
pub record StartsLists (all : ℕ) (old new : WrittenPair) (result : Result Listing PartErr)
    (files_before files_now : Option Files) (reads_before reads_now : Reads) (faults_before faults_now : ℕ) : Type 0 where
  -- the writer took no list
  pub took : IfOk result (λ w. Took w (pair_files files_before new) [] [])
  pub nothing : IfOk result (λ w. w.total ≡ 0)
  -- its lists are to be of so many documents
  pub all_are : IfOk result (λ w. w.all ≡ all)
  -- its files are the two that are compared
  pub goes : IfOk result (λ w. GoesToPair w new)
  -- no damage is told
  pub never_bad : IfErr result IsNotBad
  -- only the two files were written, and only parts of the set were read
  pub puts : PutsPair old new result files_before files_now reads_before reads_now faults_before faults_now

-- a list of so many postings is written, told of the writer and of the files that its store tells
pub record WritesList (postings : List Posting) (count all : ℕ) (writer writer_now : Listing) (before now : Option Files)
    (result : Result (ℕ × ℕ) PartErr) : Type 0 where
  -- the writer took it behind those before
  pub took : OnOk result (TookWhole writer writer_now before now postings)
  pub between : OnOk result (writer_now.pushed ≡ 0)
  pub total : OnOk result (writer_now.total ≡ writer.total + count)
  -- the answer is where it begins
  pub answer : IfOk result (AreEndsOf writer before all)
  -- where it may be a list of so many postings, no damage is told
  pub never_bad : Rises all 0 postings → length postings ≡ count → IfErr result IsNotBad

-- it is written into two files that are compared
pub record ComparesList (postings : List Posting) (count all : ℕ) (writer writer_now : Listing) (old new : WrittenPair)
    (result : Result (ℕ × ℕ) PartErr) (files_before files_now : Option Files) (reads_before reads_now : Reads)
    (faults_before faults_now : ℕ) : Type 0 where
  pub written : WritesList postings count all writer writer_now (pair_files files_before old)
      (pair_files files_before new) result
  -- the writer writes the same files, of lists among as many documents
  pub same : SameFiles writer writer_now
  -- only the two files were written, and only parts of the set were read
  pub puts : PutsPair old new result files_before files_now reads_before reads_now faults_before faults_now

-- what a writer of lists holds is written
pub record FinishesLists {T : Type 0} (writer writer_now : Listing) (old new : WrittenPair) (result : Result T PartErr)
    (files_before files_now : Option Files) (reads_before reads_now : Reads) (faults_before faults_now : ℕ) : Type 0 where
  -- where the store tells its files, both parts were written as those of the lists that were taken
  pub holds : IsSome files_before → ForWritten writer (pair_files files_before old)
      (λ done. OnOk result (HoldsWritten files_before new writer.all done))
  -- no damage is told
  pub never_bad : IfErr result IsNotBad
  -- the writer writes the same files, of lists among as many documents
  pub same : SameFiles writer writer_now
  -- only the two files were written, and only parts of the set were read
  pub puts : PutsPair old new result files_before files_now reads_before reads_now faults_before faults_now
