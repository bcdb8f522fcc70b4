-- What writing lists, lexicon and sums does: words for the contracts of its steps.
use Rattle.std.specs.Prelude.{◌≡◌, ◌≢◌, ◌/◌, ◌++◌, ◌∷◌, ℕ, List, [], Vec, length, IfOk, OnOk}
use Rattle.std.proofs.Common.{Global}
use Rattle.std.specs.Option.{IsSome}
use Rattle.std.specs.declared.option.Option.{Option}
use Rattle.std.specs.declared.result.Result.{Result}
use Rattle.mg_dev.specs.Files.{Files, file_at}
use Rattle.mg_dev.specs.Names.{full_name}
use Rattle.mg_dev.specs.declared.part.Part.TheVariants.{MergeA, MergeB}
use Rattle.mg_defs.specs.declared.Posting.{Posting}
use Rattle.mg_defs.specs.declared.TermPosting.{TermPosting}
use Rattle.mg_defs.specs.Lists.{inverted, lists_bits, lists_entries, post_bits}
use Rattle.mg_defs.specs.Split.{documents}
use Rattle.mg_defs.specs.Squares.{squares_to}
use Rattle.mg_post.specs.Writing.{Listing, Took}
use Rattle.mg_runs.specs.Left.{IsMerging, Merging}
use Rattle.mg_index.specs.Listing.{AreSquares, CanIndex, HasIndexed, HasLists, IsAtList, SquaresFit}
use Rattle.mg_index.specs.declared.lists.IndexWriter.{IndexWriter}
use Rattle.mg_index.specs.declared.lists.Sizes.{Sizes}
use Rattle.mg_index.specs.declared.lists.Terms.{Terms}

-- ---- within a list

-- where the store tells its files, this is so of the posting that is left first
abbrev pub ForFirstLeft : Merging → Option Files → (TermPosting → Type 0) → Type 0
ForFirstLeft merge files holds = IsSome files → (p : TermPosting) (left : List TermPosting) →
    IsMerging merge files (p ∷ left) → holds p

-- if the sums were those of some lists, they are those of the lists with this posting behind the last
abbrev pub SumsTake : Vec ℕ Global → Vec ℕ Global → Posting → Type 0
SumsTake sums sums_now posting =
    (done : List (List Posting)) (ps : List Posting) → SquaresFit (done ++ (ps ++ posting ∷ []) ∷ []) →
    AreSquares sums.items (done ++ ps ∷ [])
    → AreSquares sums_now.items (done ++ (ps ++ posting ∷ []) ∷ [])

-- whatever the writer of lists took, this posting is taken behind it
abbrev pub ListTakes : Listing → Listing → Option Files → Option Files → Posting → Type 0
ListTakes lists lists_now files files_now posting =
    (done : List (List Posting)) (ps : List Posting) → Took lists files done ps →
    Took lists_now files_now done (ps ++ posting ∷ [])

-- ---- between lists

-- where the store tells its files, this is so of the lists that are done, the next one, of so many postings, and those that follow
abbrev pub ForListLeft : ℕ → ℕ → Merging → Listing → Vec ℕ Global → Option Files →
    (List (List Posting) → List Posting → List (List Posting) → Type 0) → Type 0
ForListLeft docs number merge lists sums files holds =
    IsSome files → (done : List (List Posting)) (ps : List Posting) (more : List (List Posting)) → length ps ≡ docs
    → IsAtList number merge lists sums.items files done (ps ∷ more) → holds done ps more

-- the list begins in Post behind those that are done
abbrev pub BeginsInPost : {E : Type 0} → ℕ → Result (ℕ × ℕ) E → List (List Posting) → List Posting →
    List (List Posting) → Type 0
BeginsInPost all result done ps more = IfOk result (λ at. at.0 ≡ length (lists_bits all done) / 8)

-- its skip entries begin behind those of the lists that are done
abbrev pub BeginsInSkip : {E : Type 0} → ℕ → Result (ℕ × ℕ) E → List (List Posting) → List Posting →
    List (List Posting) → Type 0
BeginsInSkip all result done ps more = IfOk result (λ at. at.1 ≡ length (lists_entries all done))

-- ---- between terms

-- the store tells its files, and lists and lexicon are those of a collection as far as the terms below a number
abbrev pub IndexedTo : ℕ → Terms → Merging → IndexWriter → Vec ℕ Global → Option Files → List ℕ → Type 0
IndexedTo number terms merge writer sums files collection = HasIndexed terms.table.now.terms terms.docs.now
    collection number merge writer.lists writer.lex sums.items files

-- the same, of all terms to be indexed
abbrev pub ToIndex : Terms → Merging → IndexWriter → Vec ℕ Global → Option Files → List ℕ → Type 0
ToIndex terms merge writer sums files collection = IndexedTo 0 terms merge writer sums files collection

-- over any store: the lists of the terms below a number are done, and the lexicon has so many terms
abbrev pub CanIndexTo : ℕ → Terms → Merging → IndexWriter → Vec ℕ Global → Option Files → Type 0
CanIndexTo number terms merge writer sums files = CanIndex terms.table.now.terms terms.docs.now number merge
    writer.lists writer.lex sums.items files

-- ---- what is written

-- the store tells its files, and no posting is left
abbrev pub NothingLeft : Merging → Option Files → Type 0
NothingLeft merge files = IsSome files × IsMerging merge files []

-- the store tells its files, what was counted is of a collection, and its postings are left
abbrev pub ListsAreLeft : Terms → Vec ℕ Global → Merging → Option Files → List ℕ → Type 0
ListsAreLeft terms sums merge files collection = HasLists terms.table.now.terms terms.docs.now
    (length sums.items) collection merge files

-- this is so of each collection all of whose lists the writer took
abbrev pub WhereAllTaken : Listing → Option Files → (List ℕ → Type 0) → Type 0
WhereAllTaken lists files holds = (collection : List ℕ) → lists.all ≡ length (documents collection) →
    Took lists files (inverted collection) [] → holds collection

-- the sums are those of the squared weights of a collection's lists
abbrev pub SumsAreSquares : {T E : Type 0} → Vec ℕ Global → Result T E → List ℕ → Type 0
SumsAreSquares sums result collection = OnOk result
    (sums.items ≡ squares_to (length (documents collection)) (inverted collection))

-- Post has as many bytes as the lists of a collection take
abbrev pub HasPostBytes : {E : Type 0} → Result Sizes E → List ℕ → Type 0
HasPostBytes result collection = IfOk result (λ (sizes : Sizes). sizes.post_bytes ≡ length (post_bits collection) / 8)

-- there are as many skip entries as the lists of a collection have
abbrev pub HasSkipCount : {E : Type 0} → Result Sizes E → List ℕ → Type 0
HasSkipCount result collection = IfOk result (λ (sizes : Sizes). sizes.skip_count
    ≡ length (lists_entries (length (documents collection)) (inverted collection)))

-- no file changes but the working parts of merging
abbrev pub OnlyMergesChange : List ℕ → Option Files → Option Files → Type 0
OnlyMergesChange base files files_now = (n : List ℕ) → n ≢ full_name base MergeA → n ≢ full_name base MergeB →
    file_at files_now n ≡ file_at files n
