-- What writing a list, terms, all of them and their ends does, told of the moments before it and after it.
use Rattle.std.specs.Prelude.{◌≡◌, ◌+◌, ◌≤◌, ◌++◌, ◌∷◌, ℕ, List, [], Vec, length, take, drop, IfErr, IfOk, OnOk, sum}
use Rattle.std.proofs.Common.{Global}
use Rattle.std.specs.Option.{IsSome}
use Rattle.std.specs.declared.option.Option.{Option}
use Rattle.std.specs.declared.result.Result.{Result}
use Rattle.mg_dev.specs.Causes.{Rose}
use Rattle.mg_dev.specs.Each.{ForEach}
use Rattle.mg_dev.specs.Files.{Files, Reads}
use Rattle.mg_dev.specs.Faults.{ReadStops}
use Rattle.mg_dev.specs.Names.{full_name}
use Rattle.mg_dev.specs.declared.device.PutErr.{PutErr}
use Rattle.mg_dev.specs.declared.fault.Fault.{Fault}
use Rattle.mg_dev.specs.declared.part.Part.TheVariants.{Post, Skip}
use Rattle.mg_defs.specs.declared.Posting.{Posting}
use Rattle.mg_defs.specs.declared.TermPosting.{TermPosting}
use Rattle.mg_defs.specs.Lists.{inverted}
use Rattle.mg_defs.specs.Split.{documents}
use Rattle.mg_lex.specs.Terms.{Term, terms_of}
use Rattle.mg_lex.specs.Writing.{TookTerms}
use Rattle.mg_post.specs.Writing.{Listing, PushedMore, SameFiles, Took}
use Rattle.mg_runs.specs.Left.{Merging}
use Rattle.mg_index.specs.Listed.{BeginsInPost, BeginsInSkip, CanIndexTo, ForListLeft, HasPostBytes, HasSkipCount, IndexedTo, SumsAreSquares, WhereAllTaken}
use Rattle.mg_index.specs.Listing.{CanList, HasList, HasRest, HasTermOfNone, IsAtList, IsInList, ListStops, ListedMore, ListsStand, OfPostings}
use Rattle.mg_index.specs.Listing.{TellsTermOfNone}
use Rattle.mg_index.specs.Steps.{MergeStep, PutStep}
use Rattle.mg_index.specs.Written.{OfLists}
use Rattle.mg_index.specs.declared.lists.IndexWriter.{IndexWriter}
use Rattle.mg_index.specs.declared.lists.Sizes.{Sizes}
use Rattle.mg_index.specs.declared.lists.Terms.{Terms}

-- writers of the lists among so many documents and of their lexicon are begun
pub record AreBegun (base : List ℕ) (all : ℕ) (files : Option Files) (writer : IndexWriter) : Type 0 where
  -- no list and no term was taken
  pub lists : Took writer.lists files [] []
  pub lex : TookTerms writer.lex files []
  pub nothing : writer.lists.total ≡ 0
  -- the parts are those of the base
  pub post : writer.lists.post.name ≡ full_name base Post
  pub skip : writer.lists.skip.name ≡ full_name base Skip
  pub base_is : writer.lex.base ≡ base
  -- so many documents there are
  pub all_are : writer.lists.all ≡ all

-- so many postings that are left of the list of a number are taken into it, or why they are not
pub record TakeStep {T : Type 0} (count number : ℕ) (merge merge_now : Merging) (lists lists_now : Listing)
    (sums sums_now : Vec ℕ Global) (result : Result T Fault)
    (files_before files_now : Option Files)
    (reads_before reads_now : Reads) (faults_before faults_now : ℕ) : Type 0 where
  -- over any store: what is left can be listed
  pub can : OnOk result (CanList merge_now lists_now sums_now.items files_now)
  -- where the store tells its files and so many are left, they are taken
  pub told : IsSome files_before → (done : List (List Posting)) (ps left : List Posting) (later : List TermPosting) →
      count ≤ length left → IsInList number merge lists sums.items files_before done ps left later →
      OnOk result (IsInList number merge_now lists_now sums_now.items files_now done (ps ++ take count left)
      (drop count left) later)
  -- the writer counts them
  pub pushed : OnOk result (PushedMore lists lists_now count)
  -- the names of the parts and the number of documents stay
  pub files : SameFiles lists lists_now
  -- which files are written, and what is read
  pub step : MergeStep OfPostings merge.base merge merge_now files_before files_now reads_before reads_now faults_before
      faults_now
  -- why it stops
  pub refused : IfErr result (ReadStops (Rose faults_before faults_now)
      (HasRest number count merge lists sums.items files_before))

-- what both writers took can be ended
pub record CanEnd (writer : IndexWriter) (files : Option Files) : Type 0 where
  pub lists : (done : List (List Posting)) × Took writer.lists files done []
  pub lex : (terms : List Term) × TookTerms writer.lex files terms
  pub post : writer.lists.post.name ≡ full_name writer.lex.base Post
  pub skip : writer.lists.skip.name ≡ full_name writer.lex.base Skip

-- what both writers hold is written, or why it is not
pub record EndsWriters (writer : IndexWriter) (result : Result Sizes PutErr)
    (files_before files_now : Option Files)
    (reads_before reads_now : Reads) (faults_before faults_now : ℕ) : Type 0 where
  -- the parts are those of each collection all of whose lists and terms the writers took
  pub stand : (collection : List ℕ) → IsSome files_before → writer.lists.all ≡ length (documents collection) →
      Took writer.lists files_before (inverted collection) [] →
      TookTerms writer.lex files_before (terms_of collection) →
      OnOk result (ListsStand files_now writer.lex.base collection)
  -- Post has as many bytes as its lists take
  pub post_bytes : WhereAllTaken writer.lists files_before (HasPostBytes result)
  -- there are as many skip entries as its lists have
  pub skip_count : WhereAllTaken writer.lists files_before (HasSkipCount result)
  -- over any store: there are no more of them than postings were taken
  pub few : IfOk result (λ sizes. sizes.skip_count ≤ writer.lists.total)
  -- which files are written, and why it stops
  pub step : PutStep OfLists writer.lex.base result files_before files_now reads_before reads_now faults_before faults_now

-- the list of a term, which so many documents have, is written, or why it is not
pub record ListStep (docs number : ℕ) (merge merge_now : Merging) (lists lists_now : Listing)
    (sums sums_now : Vec ℕ Global) (result : Result (ℕ × ℕ) Fault)
    (files_before files_now : Option Files)
    (reads_before reads_now : Reads) (faults_before faults_now : ℕ) : Type 0 where
  -- over any store: another list can be written
  pub can : OnOk result (CanList merge_now lists_now sums_now.items files_now)
  -- where the list is left, it is done
  pub told : ForListLeft docs number merge lists sums files_before
      (λ done ps more. OnOk result (IsAtList (number + 1) merge_now lists_now sums_now.items files_now
      (done ++ ps ∷ []) more))
  -- the byte of Post where it begins
  pub post_at : ForListLeft docs number merge lists sums files_before (BeginsInPost lists.all result)
  -- the number of its first skip entry
  pub skip_at : ForListLeft docs number merge lists sums files_before (BeginsInSkip lists.all result)
  -- so many postings more were taken, and no list is begun
  pub listed : OnOk result (ListedMore lists lists_now docs)
  -- the names of the parts and the number of documents stay
  pub files : SameFiles lists lists_now
  -- which files are written, and what is read
  pub step : MergeStep OfPostings merge.base merge merge_now files_before files_now reads_before reads_now faults_before
      faults_now
  -- why it stops
  pub refused : IfErr result (ListStops (Rose faults_before faults_now)
      (HasList number docs merge lists sums.items files_before))
  -- a change is told exactly: no document has the term
  pub tells : IfErr result (TellsTermOfNone (docs ≡ 0))

-- the terms from one number up to another are indexed, or why they are not
pub record TermsStep (from to : ℕ) (terms : Terms) (merge merge_now : Merging) (writer writer_now : IndexWriter)
    (sums sums_now : Vec ℕ Global) (result : Result (Unit {0}) Fault)
    (files_before files_now : Option Files)
    (reads_before reads_now : Reads) (faults_before faults_now : ℕ) : Type 0 where
  -- over any store: the lists of the terms below the last number are done, and the lexicon has so many terms
  pub can : OnOk result (CanIndexTo to terms merge_now writer_now sums_now files_now)
  -- what was indexed of a collection as far as the first number is indexed as far as the last
  pub indexed : (collection : List ℕ) → IndexedTo from terms merge writer sums files_before collection →
      OnOk result (IndexedTo to terms merge_now writer_now sums_now files_now collection)
  -- the number of documents stays
  pub all : writer_now.lists.all ≡ writer.lists.all
  -- which files are written, and what is read
  pub step : MergeStep OfLists merge.base merge merge_now files_before files_now reads_before reads_now faults_before
      faults_now
  -- why it stops
  pub refused : IfErr result (λ fault. (collection : List ℕ) →
      ListStops (Rose faults_before faults_now) (IndexedTo from terms merge writer sums files_before collection) fault)
  -- a change is told exactly: no document has one of the terms
  pub tells : IfErr result (TellsTermOfNone (HasTermOfNone terms.docs.now))

-- all lists and the lexicon are written, of each collection for which this is given, or why they are not
pub record IndexStep (given : List ℕ → Type 0) (docs base : List ℕ) (merge merge_now : Merging)
    (sums_now : Vec ℕ Global) (result : Result Sizes Fault) (files_before files_now : Option Files)
    (reads_before reads_now : Reads) (faults_before faults_now : ℕ) : Type 0 where
  -- the parts of lists and of the lexicon are those of the collection
  pub stand : ForEach given (λ collection. OnOk result (ListsStand files_now base collection))
  -- the sums are those of its squared weights
  pub sums : ForEach given (SumsAreSquares sums_now result)
  -- Post has as many bytes as its lists take
  pub post_bytes : ForEach given (HasPostBytes result)
  -- there are as many skip entries as its lists have
  pub skip_count : ForEach given (HasSkipCount result)
  -- over any store: there are no more of them than postings were counted
  pub few : IfOk result (λ sizes. sizes.skip_count ≤ sum docs)
  -- which files are written, and what is read
  pub step : MergeStep OfLists base merge merge_now files_before files_now reads_before reads_now faults_before faults_now
  -- why it stops
  pub refused : IfErr result (λ fault. (collection : List ℕ) →
      ListStops (Rose faults_before faults_now) (given collection) fault)
  -- a change is told exactly: no document has one of the terms
  pub tells : IfErr result (TellsTermOfNone (HasTermOfNone docs))
