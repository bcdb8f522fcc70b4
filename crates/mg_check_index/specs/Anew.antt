-- Lists and a lexicon that are written anew and compared, some of a range at a time.
use Rattle.std.specs.Prelude.{◌≡◌, ◌≤◌, ◌+◌, ◌/◌, ◌^◌, ℕ, List, [], ◌∷◌, ◌++◌, IfErr, IfOk, OnOk, length, slice_get, Some}
use Rattle.std.specs.List.{flat_map}
use Rattle.std.specs.Option.{IsSome, is_some}
use Rattle.std.specs.declared.option.Option.{Option}
use Rattle.std.specs.declared.result.Result.{Result}
use Rattle.mg_dev.specs.Bads.{IsNotBad}
use Rattle.mg_dev.specs.Files.{Files, Reads, SameReads}
use Rattle.mg_dev.specs.Names.{full_name}
use Rattle.mg_dev.specs.PartCauses.{HasPartCause}
use Rattle.mg_dev.specs.declared.part.Part.TheVariants as part
use Rattle.mg_dev.specs.declared.part_err.PartErr.{PartErr}
use Rattle.mg_defs.specs.Limits.{version_2}
use Rattle.mg_defs.specs.declared.Posting.{Posting}
use Rattle.mg_defs.specs.Bits.{as_bytes}
use Rattle.mg_defs.specs.Lists.{entry_bits, lists_bits, lists_entries}
use Rattle.mg_layout.specs.declared.term_info.TermInfo.{TermInfo}
use Rattle.mg_defs.specs.Front.{front, whole_at}
use Rattle.mg_lex.specs.Terms.{Term, entries_of, terms_of}
use Rattle.mg_lex.specs.Writing.{TookTerms}
use Rattle.mg_model.specs.Terms.{TermNumbers}
use Rattle.mg_post.specs.Writing.{Listing, SameFiles, Took}
use Rattle.mg_check_parts.specs.Looks.{LooksAtSet}
use Rattle.mg_check_parts.specs.Refusals.{Refutes}
use Rattle.mg_check_index.specs.InPair.{SamePlaces, bytes_of, pair_files, set_name}
use Rattle.mg_check_index.specs.Listing.{AreBehind, CanList, CanPush, HasListed, IsRange, LexiconStands, ListsFollow, Ranged, term_of}
use Rattle.mg_check_index.specs.declared.indexed.Indexed.{Indexed}
use Rattle.mg_check_index.specs.declared.lexicon.Lexicon.{Lexicon}
use Rattle.mg_check_index.specs.declared.lists.Places.{Places}
use Rattle.mg_check_index.specs.declared.new_lists.NewLists.{NewLists}
use Rattle.mg_check_index.specs.declared.pair_store.WrittenPair.{WrittenPair}

-- ---- lists in a store that told its files so

-- these postings of the list that was begun were taken
abbrev pub TookPostings : Listing → Listing → Option Files → Option Files → List Posting → Type 0
TookPostings old new before now ps = (done : List (List Posting)) → Took old before done [] → Took new now done ps

-- one list more was taken
abbrev pub TookWhole : Listing → Listing → Option Files → Option Files → List Posting → Type 0
TookWhole old new before now ps = (done : List (List Posting)) → Took old before done [] →
    Took new now (done ++ ps ∷ []) []

-- for all lists that were taken
abbrev pub ForWritten : Listing → Option Files → (List (List Posting) → Type 0) → Type 0
ForWritten w files claim = (done : List (List Posting)) → Took w files done [] → claim done

-- the bytes and the skip entries of the lists that were taken end here
abbrev pub AreEndsOf : Listing → Option Files → ℕ → ℕ × ℕ → Type 0
AreEndsOf w files all at = ForWritten w files (λ done. (at.0 ≡ length (lists_bits all done) / 8)
    × (at.1 ≡ length (lists_entries all done)))

-- lists among so many documents were written, and none is begun
pub record AreBetween (w : Listing) (files : Option Files) (all : ℕ) : Type 0 where
  pub done : List (List Posting)
  pub took : Took w files done []
  pub all_are : w.all ≡ all
  -- no collection has more
  pub few : all ≤ version_2.documents

-- lists are written into a store, told of the moments before and after
pub record PutsLists {T : Type 0} (old new : Listing) (result : Result T PartErr) (files_before files_now : Option Files)
    (reads_before reads_now : Reads) (faults_before faults_now : ℕ) : Type 0 where
  -- the writer writes the same files, of lists among as many documents
  pub same : SameFiles old new
  -- files are told where they were
  pub told : is_some files_now ≡ is_some files_before
  -- nothing was read
  pub reads : SameReads reads_before reads_now
  -- why it stops
  pub cause : HasPartCause faults_before faults_now result

-- ---- lists that are compared as they are written

-- what was written of the two parts is those of these lists
pub record HoldsWritten (files : Option Files) (pair : WrittenPair) (all : ℕ) (lists : List (List Posting)) : Type 0 where
  pub post : bytes_of files pair.one ≡ as_bytes (lists_bits all lists)
  pub skip : bytes_of files pair.other ≡ as_bytes (flat_map entry_bits (lists_entries all lists))

-- a writer's two files are those that are compared
pub record GoesToPair (w : Listing) (pair : WrittenPair) : Type 0 where
  pub post : w.post.name ≡ pair.one.own.now
  pub skip : w.skip.name ≡ pair.other.own.now

-- these are Post and Skip, from two places on
pub record FollowsPlaces (pair : WrittenPair) (base : List ℕ) (before : Places) : Type 0 where
  pub post : set_name pair.one ≡ full_name base part.Post
  pub skip : set_name pair.other ≡ full_name base part.Skip
  pub post_from : pair.one.from ≡ before.post
  pub skip_from : pair.other.from ≡ before.skip

-- these lists stand in Post and Skip from two places on, where the store tells its files
abbrev pub FindsFollowing : {T : Type 0} → Option Files → List ℕ → ℕ → Places → Result T PartErr →
    List (List Posting) → Type 0
FindsFollowing files base all before result done = IsSome files → OnOk result (ListsFollow files base all done before)

-- a refusal tells that they do not
abbrev pub RefutesFollowing : {T : Type 0} → Option Files → List ℕ → ℕ → Places → Result T PartErr →
    List (List Posting) → Type 0
RefutesFollowing files base all before result done = IsSome files →
    IfErr result (Refutes (ListsFollow files base all done before))

-- two places are behind them
abbrev pub EndsFollowing : Option Files → ℕ → Places → Result Places PartErr → List (List Posting) → Type 0
EndsFollowing files all before result done = IsSome files → IfOk result (AreBehind all done before)

-- ---- a lexicon that is compared with the files of a set

-- it has the terms below a number
abbrev pub CanPushIn : Option Files → List (List ℕ) → ℕ → Lexicon → Type 0
CanPushIn files terms number lexicon = CanPush terms number lexicon.writer (pair_files files lexicon.pair)

-- it takes the term of a table of which this is told
abbrev pub TakesTerm : {T E : Type 0} → Option Files → List (List ℕ) → TermInfo → Lexicon → Lexicon →
    Result T E → Type 0
TakesTerm files terms info old new result =
    (ts : List Term) (t : List ℕ) → slice_get terms info.number ≡ Some t → TookTerms old.writer (pair_files files old.pair) ts →
    OnOk result (TookTerms new.writer (pair_files files new.pair) (ts ++ term_of t info ∷ []))

-- where it has the terms of a collection, Lex and LexAt are its lexicon
abbrev pub FindsLexicon : {T : Type 0} → Lexicon → Option Files → List ℕ →
    Result T PartErr → Type 0
FindsLexicon lexicon files base result = (collection : List ℕ) → IsSome files →
    TookTerms lexicon.writer (pair_files files lexicon.pair) (terms_of collection) →
    OnOk result (LexiconStands files base collection)

-- where it has them, a refusal tells that they are not
abbrev pub RefusesLexicon : {T : Type 0} → Lexicon → Option Files → List ℕ →
    Result T PartErr → Type 0
RefusesLexicon lexicon files base result = (collection : List ℕ) → IsSome files →
    TookTerms lexicon.writer (pair_files files lexicon.pair) (terms_of collection) →
    IfErr result (Refutes (LexiconStands files base collection))

-- what was written of its parts is that of these terms
pub record HoldsTerms (files : Option Files) (pair : WrittenPair) (ts : List Term) : Type 0 where
  pub strings : bytes_of files pair.one ≡ front (entries_of ts)
  pub places : bytes_of files pair.other ≡ whole_at (entries_of ts)

-- ---- both

-- the first lists of a range of a collection were written, and the lexicon as far as they go
abbrev pub ListedIn : Option Files → Ranged → TermNumbers → Places → ℕ →
    NewLists → Lexicon → List ℕ → Type 0
ListedIn files w table before index lists lexicon collection = HasListed w table.terms before index collection
    lists.writer (pair_files files lists.pair) lexicon.writer (pair_files files lexicon.pair)

-- a claim where the range is one of some collection and was written so far
abbrev pub ForListed : Option Files → Ranged → TermNumbers → Places → ℕ →
    NewLists → Lexicon → Type 0 → Type 0
ForListed files w table before index lists lexicon claim = (collection : List ℕ) →
    ListedIn files w table before index lists lexicon collection → claim

-- a range that was written from its start on is written further
abbrev pub ListsOn : {T : Type 0} → Option Files → Ranged → TermNumbers →
    Places → ℕ → ℕ → NewLists → NewLists → Lexicon → Lexicon → Result T PartErr → Type 0
ListsOn files w table before index end old new lexicon lexicon_now result =
    (collection : List ℕ) → ListedIn files w table before index old lexicon collection →
    OnOk result (ListedIn files w table before end new lexicon_now collection)

-- ---- what writing starts from, and what it does

-- no list was written
pub record IsNewLists (files : Option Files) (all : ℕ) (base : List ℕ) (before : Places) (lists : NewLists) :
    Type 0 where
  pub took : Took lists.writer (pair_files files lists.pair) [] []
  pub nothing : lists.writer.total ≡ 0
  pub between : lists.writer.pushed ≡ 0
  -- they are to be of so many documents
  pub all_are : lists.writer.all ≡ all
  -- where they go
  pub goes : GoesToPair lists.writer lists.pair
  -- with what they are compared
  pub follows : FollowsPlaces lists.pair base before

-- lists are written and compared, told of the moments before and after
pub record WritesOn {T : Type 0} (old new : NewLists) (result : Result T PartErr) (files_before files_now : Option Files)
    (reads_before reads_now : Reads) (faults_before faults_now : ℕ) : Type 0 where
  -- the writer writes the same files, of lists among as many documents
  pub same : SameFiles old.writer new.writer
  -- they are compared with the same parts, from the same places on
  pub places : SamePlaces old.pair new.pair
  -- only parts of the set were read
  pub looks : LooksAtSet result files_before files_now reads_before reads_now faults_before faults_now

-- a lexicon goes where it went, and is compared with the same parts
pub record SameLexicon (old new : Lexicon) : Type 0 where
  pub base : new.writer.base ≡ old.writer.base
  pub places : SamePlaces old.pair new.pair

-- lists are written, and the lexicon of their terms
pub record WritesTerms {T : Type 0} (old new : NewLists) (lexicon lexicon_now : Lexicon) (result : Result T PartErr)
    (files_before files_now : Option Files) (reads_before reads_now : Reads) (faults_before faults_now : ℕ) : Type 0 where
  pub lists : WritesOn old new result files_before files_now reads_before reads_now faults_before faults_now
  pub lexicon_is : SameLexicon lexicon lexicon_now

-- lists of a range may be written behind others of Post and Skip
pub record CanWrite (lists : NewLists) (w : Ranged) (of : Indexed) (before : Places) : Type 0 where
  -- it is one of the table's terms
  pub range : IsRange w of
  -- they are to be of so many documents
  pub all_are : lists.writer.all ≡ of.documents
  -- no part has a byte behind
  pub place : before.post ≤ 2 ^ 63

-- the lists of a range may be written from one on, and the lexicon of their terms
pub record CanListTerms (files : Option Files) (lists : NewLists)
    (w : Ranged) (of : Indexed) (before : Places) (index : ℕ) (lexicon : Lexicon) : Type 0 where
  -- they go behind others of Post and Skip
  pub write : CanWrite lists w of before
  -- those before it were written
  pub can : CanList w index lists.writer (pair_files files lists.pair)
  -- the lexicon has the terms before it
  pub push : CanPushIn files of.table.now.terms (w.first + index) lexicon

-- the lists of a range are written from one on to before another, told of the moments before and after
pub record ListsTerms {T : Type 0} (w : Ranged)
    (of : Indexed) (before : Places) (index end : ℕ) (old new : NewLists) (lexicon lexicon_now : Lexicon)
    (result : Result T PartErr) (files_before files_now : Option Files) (reads_before reads_now : Reads)
    (faults_before faults_now : ℕ) : Type 0 where
  -- the next one may be written
  pub can : OnOk result (CanList w end new.writer (pair_files files_before new.pair))
  -- the lexicon has the terms before that
  pub push : OnOk result (CanPushIn files_before of.table.now.terms (w.first + end) lexicon_now)
  -- where the range is one of a collection and was written so far, it is written further
  pub listed : ListsOn files_before w of.table.now before index end old new lexicon lexicon_now result
  -- then no refusal tells damage
  pub never_bad : ForListed files_before w of.table.now before index old lexicon (IfErr result IsNotBad)
  -- the writers write the same files, and only parts of the set were read
  pub step : WritesTerms old new lexicon lexicon_now result files_before files_now reads_before reads_now faults_before faults_now
