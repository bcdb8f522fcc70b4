-- What a refusal of `Changed` tells: which number of the plan is another one in the collection, and both.
use Rattle.std.specs.Prelude.{◌≡◌, ◌≢◌, ◌<◌, ◌+◌, ◌-◌, ◌*◌, ◌⊎◌, ◌++◌, ◌∷◌, ℕ, List, Contains, length, get_or, None, position}
use Rattle.std.specs.Str.{bytes_eq}
use Rattle.mg_dev.specs.declared.fault.Fault.{Fault}
use Rattle.mg_dev.specs.declared.fault.Fault.TheVariants.{Changed}
use Rattle.mg_dev.specs.declared.what.What.TheVariants as what
use Rattle.mg_defs.specs.declared.Stream.{Stream}
use Rattle.mg_defs.specs.declared.Stream.TheVariants.{Others, Words}
use Rattle.mg_defs.specs.Marks.{Mark, code_of, marks, pair_counts, piece, piece_count_from, starts}
use Rattle.mg_defs.specs.Terms.{dictionary}
use Rattle.mg_defs.specs.Vocabulary.{sorted_pieces}
use Rattle.mg_count.specs.Plans.{Plan}

-- Of what was planned so often, the collection has another number. The second number is one more where it is passed, and else all there are.
abbrev pub AreOther : ℕ → ℕ → ℕ → Type 0
AreOther there first second = ((second ≡ first + 1) × (first < there)) ⊎ ((second ≡ there) × (there < first))

-- a document has another number of pairs than by the plan, and these are both
pub record OtherPairs (p : Plan) (collection : List ℕ) (first second : ℕ) : Type 0 where
  pub doc : ℕ
  pub planned : doc < length p.pairs
  pub there : doc < length (pair_counts collection)
  pub number : first ≡ get_or p.pairs doc 0
  pub other : AreOther (get_or (pair_counts collection) doc 0) first second

-- A stream has a piece that the plan lacks: it has none there, and one here. Its document has more pieces by the plan than came before it.
pub record OtherPiece (kind : Stream) (p : Plan) (collection : List ℕ) (first second : ℕ) : Type 0 where
  pub bytes : List ℕ
  pub before : List Mark
  pub after : List Mark
  pub met : marks collection ≡ before ++ piece kind bytes ∷ after
  pub room : piece_count_from 0 before < 2 * get_or p.pairs (starts before - 1) 0
  pub lacking : position (bytes_eq bytes) (code_of kind p.code).pieces ≡ None
  pub there : position (bytes_eq bytes) (sorted_pieces kind collection) ≢ None
  pub none : first ≡ 0
  pub one : second ≡ 1

-- a change is told by its kind and both numbers, if the fault tells one
abbrev pub TellsChange : Plan → List ℕ → Fault → Type 0
TellsChange p collection (Changed what.Documents first second) =
    (first ≡ length p.pairs) × AreOther (length (pair_counts collection)) first second
TellsChange p collection (Changed what.Pairs first second) = OtherPairs p collection first second
TellsChange p collection (Changed what.Words first second) = OtherPiece Words p collection first second
TellsChange p collection (Changed what.Others first second) = OtherPiece Others p collection first second
TellsChange p collection (Changed _ first second) = ⊥
TellsChange p collection _ = Unit {0}

-- a term of the plan is none of the collection's: it has a word there, and none here
pub record LostTerm (p : Plan) (collection : List ℕ) (first second : ℕ) : Type 0 where
  pub term : List ℕ
  pub planned : Contains p.terms.terms term
  pub lost : ¬ Contains (dictionary collection) term
  pub one : first ≡ 1
  pub none : second ≡ 0

-- a change is told as that of such a term
abbrev pub TellsLostTerm : Plan → List ℕ → Fault → Type 0
TellsLostTerm p collection (Changed what.Words first second) = LostTerm p collection first second
TellsLostTerm p collection _ = ⊥

-- behind the last byte a change is told exactly, as before it or as that of such a term
abbrev pub TellsAtEnd : Plan → List ℕ → Fault → Type 0
TellsAtEnd p collection fault = TellsChange p collection fault ⊎ TellsLostTerm p collection fault

-- the fault of a piece that was not counted
abbrev pub unknown_of : Stream → Fault
unknown_of Words = Changed what.Words 0 1
unknown_of Others = Changed what.Others 0 1
