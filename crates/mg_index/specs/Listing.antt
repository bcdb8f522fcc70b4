-- Lists, lexicon and sums of weights from merged postings: what was taken so far, what is left, and why it stops.
use Rattle.std.specs.Prelude.{◌≡◌, ◌≢◌, ◌≤◌, ◌<◌, ◌+◌, ◌^◌, ◌++◌, ◌∷◌, ℕ, List, [], length, map, sum, take, drop, slice_get, slice_index, Some}
use Rattle.std.specs.List.{AllByRecursion}
use Rattle.std.specs.Option.{IsSome}
use Rattle.std.specs.declared.option.Option.{Option}
use Rattle.mg_dev.specs.declared.part.Part.{Part as AnyPart}
use Rattle.mg_dev.specs.declared.part.Part.TheVariants.{Lex, LexAt, Post, Skip}
use Rattle.mg_dev.specs.declared.fault.Fault.{Fault}
use Rattle.mg_dev.specs.declared.fault.Fault.TheVariants.{Changed, Damaged, Memory, StoreFault}
use Rattle.mg_dev.specs.declared.what.What.TheVariants as what
use Rattle.mg_dev.specs.Files.{Files, bytes_at}
use Rattle.mg_dev.specs.Names.{full_name}
use Rattle.mg_defs.specs.declared.Posting.{Posting}
use Rattle.mg_defs.specs.declared.TermPosting.{TermPosting}
use Rattle.mg_defs.specs.Bits.{as_bytes}
use Rattle.mg_defs.specs.Lexicon.{lex_at_part, lex_part}
use Rattle.mg_defs.specs.Lists.{Follows, Rises, inverted, post_bits, skip_bits}
use Rattle.mg_defs.specs.PostingLists.{by_terms, term_list}
use Rattle.mg_defs.specs.Split.{documents}
use Rattle.mg_defs.specs.Squares.{squares}
use Rattle.mg_defs.specs.Terms.{dictionary}
use Rattle.mg_lex.specs.Terms.{Term, terms_of}
use Rattle.mg_lex.specs.Writing.{LexWriting, TookTerms}
use Rattle.mg_post.specs.Writing.{Listing, Took}
use Rattle.mg_runs.specs.Left.{IsMerging, Merging}

-- ---- what was counted

-- each term has a number of documents, at most that of all; together they are fewer than 2^32
pub record AreListSizes (docs : List ℕ) (terms all : ℕ) : Type 0 where
  pub each : length docs ≡ terms
  pub within : (k : ℕ) → k < terms → slice_index docs k ≤ all
  pub total : sum docs < 2 ^ 32
  pub documents : all ≤ 2 ^ 24

-- the terms, the lengths of their lists and the number of documents are those of a collection
pub record AreOfCollection (terms : List (List ℕ)) (docs : List ℕ) (all : ℕ) (collection : List ℕ) : Type 0 where
  pub terms_are : terms ≡ dictionary collection
  pub docs_are : docs ≡ map length (inverted collection)
  pub all_are : all ≡ length (documents collection)
  pub few : length collection < 2 ^ 32

-- ---- sums

-- the sum of each document is that of the squared weights of these lists
pub record AreSquares (sums : List ℕ) (lists : List (List Posting)) : Type 0 where
  pub each : (k : ℕ) → k < length sums → slice_index sums k ≡ squares (k + 1) lists

-- no document's sum over these lists passes 64 bits
abbrev pub SquaresFit : List (List Posting) → Type 0
SquaresFit lists = (doc : ℕ) → squares doc lists < 2 ^ 64

-- ---- within a list

-- the parts of lists alone
abbrev pub OfPostings : AnyPart → Type 0
OfPostings Post = Unit {0}
OfPostings Skip = Unit {0}
OfPostings p = ⊥

-- Over any store: some postings are left, some lists and the first postings of one more were taken, and there is a sum for each document.
pub record CanList (merge : Merging) (lists : Listing) (sums : List ℕ) (files : Option Files) : Type 0 where
  pub left : List TermPosting
  pub merging : IsMerging merge files left
  pub done : List (List Posting)
  pub begun : List Posting
  pub took : Took lists files done begun
  pub each : length sums ≡ lists.all
  pub within : lists.last ≤ lists.all
  pub post : lists.post.name ≡ full_name merge.base Post
  pub skip : lists.skip.name ≡ full_name merge.base Skip

-- The store tells its files, and the next posting is one of the term of a number that may follow a document.
pub record HasNext (number all last : ℕ) (merge : Merging) (files : Option Files) : Type 0 where
  pub told : IsSome files
  pub posting : Posting
  pub left : List Posting
  pub later : List TermPosting
  pub merging : IsMerging merge files (term_list number (posting ∷ left) ++ later)
  pub follows : Follows all last posting

-- Behind the lists that are done, these postings of the list of a term's number were taken. The others of the list are left, and those of later terms.
pub record IsInList (number : ℕ) (merge : Merging) (lists : Listing) (sums : List ℕ) (files : Option Files)
    (done : List (List Posting)) (ps left : List Posting) (later : List TermPosting) : Type 0 where
  pub merging : IsMerging merge files (term_list number left ++ later)
  pub took : Took lists files done ps
  pub rises : Rises lists.all lists.last left
  pub fit : SquaresFit (done ++ (ps ++ left) ∷ [])
  pub summed : AreSquares sums (done ++ ps ∷ [])

-- the store tells its files, and at least so many postings of the list are left
pub record HasRest (number count : ℕ) (merge : Merging) (lists : Listing) (sums : List ℕ) (files : Option Files) : Type
    0 where
  pub told : IsSome files
  pub done : List (List Posting)
  pub ps : List Posting
  pub left : List Posting
  pub later : List TermPosting
  pub enough : count ≤ length left
  pub is : IsInList number merge lists sums files done ps left later

-- the merge goes on: its base and its numbers stay
pub record SameMerge (old new : Merging) : Type 0 where
  pub base : new.base ≡ old.base
  pub runs : new.runs ≡ old.runs
  pub peak : new.peak ≡ old.peak

-- ---- between lists

-- These lists are done. The others are left, the first of them of a term's number.
pub record IsAtList (number : ℕ) (merge : Merging) (lists : Listing) (sums : List ℕ) (files : Option Files)
    (done more : List (List Posting)) : Type 0 where
  pub merging : IsMerging merge files (by_terms number more)
  pub took : Took lists files done []
  pub rise : AllByRecursion (λ ps. Rises lists.all 0 ps) more
  pub fit : SquaresFit (done ++ more)
  pub summed : AreSquares sums done

-- the store tells its files, and the next list has so many postings, and some
pub record HasList (number docs : ℕ) (merge : Merging) (lists : Listing) (sums : List ℕ) (files : Option Files) : Type 0
  where
    pub told : IsSome files
    pub done : List (List Posting)
    pub ps : List Posting
    pub more : List (List Posting)
    pub size : length ps ≡ docs
    pub some : 1 ≤ docs
    pub is : IsAtList number merge lists sums files done (ps ∷ more)

-- one list more of so many postings is done
pub record ListedMore (old new : Listing) (docs : ℕ) : Type 0 where
  pub pushed : new.pushed ≡ 0
  pub total : new.total ≡ old.total + docs

-- ---- between terms

-- Over any store: the lists of the terms below a number are done, and the lexicon has so many terms.
pub record CanIndex (terms : List (List ℕ)) (docs : List ℕ) (number : ℕ) (merge : Merging) (lists : Listing)
    (lex : LexWriting) (sums : List ℕ) (files : Option Files) : Type 0 where
  pub list : CanList merge lists sums files
  pub between : lists.pushed ≡ 0
  pub total : lists.total ≡ sum (take number docs)
  pub base : lex.base ≡ merge.base
  pub before : List Term
  pub took : TookTerms lex files before
  pub count : lex.front.count ≡ number
  pub last : (k : ℕ) → k + 1 ≡ number → slice_get terms k ≡ Some lex.front.last

-- The store tells its files, and lists and lexicon are those of a collection as far as the terms below a number.
pub record HasIndexed (terms : List (List ℕ)) (docs : List ℕ) (collection : List ℕ) (number : ℕ) (merge : Merging)
    (lists : Listing) (lex : LexWriting) (sums : List ℕ) (files : Option Files) : Type 0 where
  pub told : IsSome files
  pub of : AreOfCollection terms docs lists.all collection
  pub list : IsAtList number merge lists sums files (take number (inverted collection))
      (drop number (inverted collection))
  pub took : TookTerms lex files (take number (terms_of collection))

-- ---- what stands

-- The store tells its files, what was counted is of a collection, and its postings are left.
pub record HasLists (terms : List (List ℕ)) (docs : List ℕ) (all : ℕ) (collection : List ℕ) (merge : Merging)
    (files : Option Files) : Type 0 where
  pub told : IsSome files
  pub of : AreOfCollection terms docs all collection
  pub merging : IsMerging merge files (by_terms 0 (inverted collection))

-- the parts of lists and of the lexicon are those of a collection
pub record ListsStand (files : Option Files) (base collection : List ℕ) : Type 0 where
  pub post : bytes_at files (full_name base Post) ≡ as_bytes (post_bits collection)
  pub skip : bytes_at files (full_name base Skip) ≡ as_bytes (skip_bits collection)
  pub lex : bytes_at files (full_name base Lex) ≡ lex_part collection
  pub lex_at : bytes_at files (full_name base LexAt) ≡ lex_at_part collection

-- why lists are not written; where the postings of a collection are left, only for the store or for want of memory
abbrev pub ListStops : Type 0 → Type 0 → Fault → Type 0
ListStops store_rose same StoreFault = store_rose
ListStops store_rose same Memory = Unit {0}
ListStops store_rose same (Damaged bad) = ¬ same
ListStops store_rose same (Changed what first second) = (first ≢ second) × ¬ same
ListStops store_rose same _ = ⊥

-- no document has one of the terms
pub record HasTermOfNone (docs : List ℕ) : Type 0 where
  pub number : ℕ
  pub within : number < length docs
  pub none : slice_index docs number ≡ 0

-- a change is told only where a term is in no document, as a word that was there once and is not there now
abbrev pub TellsTermOfNone : Type 0 → Fault → Type 0
TellsTermOfNone none (Changed what.Words first second) = (first ≡ 1) × (second ≡ 0) × none
TellsTermOfNone none (Changed _ first second) = ⊥
TellsTermOfNone none _ = Unit {0}
