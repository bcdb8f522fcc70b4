-- Limits that are passed, and what the heads tell of them.
use Rattle.std.proofs.Common.{arith, ◌≡◌, ◌≤◌, ◌<◌, ◌+◌, ◌∙◌, ◌++◌, ℕ, List, length, Option, Ok, Err, IsSome, sym, ap, subst, inl, inr}
use Rattle.std.proofs.lemmas.List.{length-append}
use Rattle.std.specs.Prelude.{IfErr, Result}
use Rattle.mg_dev.specs.Files.{Files}
use Rattle.mg_dev.specs.declared.fault.Fault.{Fault}
use Rattle.mg_dev.specs.declared.fault.Fault.TheVariants as cause
use Rattle.mg_defs.specs.declared.Stream.{Stream}
use Rattle.mg_defs.specs.declared.Stream.TheVariants.{Others, Words}
use Rattle.mg_defs.specs.Heads as defs
use Rattle.mg_defs.specs.Join.{join}
use Rattle.mg_defs.specs.Limits.{version_2}
use Rattle.mg_defs.specs.Marks.{PassesFirst, piece, start}
use Rattle.mg_defs.specs.Vocabulary.{sorted_pieces}
use Rattle.mg_defs.proofs.SortedLaws.{distinct_short}
use Rattle.mg_laws.proofs.FirstMarks.{piece_passes, start_passes}
use Rattle.mg_laws.proofs.JoinLaws.{count_joined, sorted_pieces_joined}
use Rattle.mg_layout.specs.HeadAnswers.{fields_of}
use Rattle.mg_layout.specs.declared.head.Head as layout
use Rattle.mg_make.specs.Outcomes.{IsEarly}
use Rattle.mg_merge.specs.Merging.{BothStand, MergeStops}
use Rattle.mg_merge.specs.Stops.{AreBeyond, AreHeads, CountingStops, IsAnswerByHeads, pieces_told}
use Rattle.mg_merge.specs.Texts.{AreSetsBy}
use Rattle.mg_merge.proofs.PassLaws.{damage_stops}
use Rattle.mg_merge.proofs.StopLaws.{counting_cause, read_cause, read_late}

-- ---- what passes a limit is told by the heads

-- both collections in one have no more distinct pieces than both have
few_joined : (kind : Stream) (a b : List ℕ) → length (sorted_pieces kind (join a b)) ≤ length (sorted_pieces kind a) + length (sorted_pieces kind b)
few_joined kind a b =
    omega (arith, ap length (sorted_pieces_joined kind a b), distinct_short (sorted_pieces kind a ++ sorted_pieces kind b), length-append (sorted_pieces kind a) (sorted_pieces kind b))

module _ (files : Option Files) (first second a b : List ℕ) (one other : layout.Head) (sets : AreSetsBy one other files first second a b) where
  documents_beyond : PassesFirst version_2 (join a b) start → version_2.documents < (fields_of one).documents + (fields_of other).documents
  documents_beyond passes =
      omega (
        arith,
        start_passes version_2 (join a b) passes,
        count_joined a b,
        ap (λ (h : defs.Head). h.documents) sets.first_stands.head_is,
        ap (λ (h : defs.Head). h.documents) sets.second_stands.head_is,
      )

  pieces_beyond : (kind : Stream) (x : List ℕ) → PassesFirst version_2 (join a b) (piece kind x) →
      version_2.pieces < pieces_told kind (fields_of one) + pieces_told kind (fields_of other)
  pieces_beyond Words x passes =
      omega (
        arith,
        piece_passes version_2 (join a b) Words x passes,
        few_joined Words a b,
        ap (λ (h : defs.Head). h.words) sets.first_stands.head_is,
        ap (λ (h : defs.Head). h.words) sets.second_stands.head_is,
      )
  pieces_beyond Others x passes =
      omega (
        arith,
        piece_passes version_2 (join a b) Others x passes,
        few_joined Others a b,
        ap (λ (h : defs.Head). h.others) sets.first_stands.head_is,
        ap (λ (h : defs.Head). h.others) sets.second_stands.head_is,
      )

  -- so where both sets stand, the heads tell each limit that is told as passed
  beyond : (rose : Type 0) (stands : List ℕ → Type 0) (fault : Fault) → stands (join a b) → CountingStops rose stands fault → AreBeyond (fields_of one) (fields_of other) fault
  beyond rose stands cause.Usage stand stop = tt
  beyond rose stands cause.StoreFault stand stop = tt
  beyond rose stands cause.ReadFault stand stop = tt
  beyond rose stands cause.WriteFault stand stop = tt
  beyond rose stands cause.NotBuilt stand stop = tt
  beyond rose stands (cause.Damaged bad) stand stop = tt
  beyond rose stands cause.NoCollection stand stop = tt
  beyond rose stands (cause.TooLarge bytes most) stand stop = tt
  beyond rose stands cause.TooManyDocuments stand stop = documents_beyond (stop (join a b) stand)
  beyond rose stands (cause.TooManyPieces kind) stand stop = let found = stop (join a b) stand in pieces_beyond kind found.0 found.1
  beyond rose stands (cause.Changed what one two) stand stop = tt
  beyond rose stands cause.Memory stand stop = tt
  beyond rose stands (cause.NameClash part) stand stop = tt
  beyond rose stands cause.InputTooLong stand stop = tt
  beyond rose stands cause.SameName stand stop = tt
  beyond rose stands (cause.TooManyRotations count) stand stop = tt

  -- and what was answered is told as it is
  pub same_by_heads : {T : Type 0} (answer told : Result T Fault) (rose : Type 0) (stands : List ℕ → Type 0) → stands (join a b) → IfErr answer (CountingStops rose stands) →
      IsAnswerByHeads (fields_of one) (fields_of other) answer told → told ≡ answer
  same_by_heads (Ok value) told rose stands stand stop is = is
  same_by_heads (Err fault) told rose stands stand stop is =
      elim is.2 [
        | inl same ↦ is.1 ∙ ap Err same.1
        | inr other ↦ absurd (other.0 (beyond rose stands fault stand stop))
      ]

-- ---- what is told of the refusal

-- a refusal before the first write is told as it is
pub early_by_heads : {T : Type 0} (a b : defs.Head) (answer told : Result T Fault) (kept : Type 0) → IsAnswerByHeads a b answer told →
    IfErr answer (λ fault. IsEarly fault → kept) → IfErr told (λ fault. IsEarly fault → kept)
early_by_heads a b (Ok value) told kept is early = subst (λ r. IfErr r (λ fault. IsEarly fault → kept)) (sym is) tt
early_by_heads a b (Err fault) told kept is early = subst (λ r. IfErr r (λ f. IsEarly f → kept)) (sym is.1) (elim is.2 [
  | inl same ↦ subst (λ f. IsEarly f → kept) (sym same.1) early
  | inr other ↦ λ soon. absurd (read_late (Unit {0}) ⊥ is.0 (damage_stops (Unit {0}) ⊥ is.0 other.1 (λ none. none)) soon)
])

-- each refusal has its cause, with limits by the heads
pub cause_by_heads : {T : Type 0} (answer told : Result T Fault) (rose now : Type 0) (stands : List ℕ → Type 0) (files loaded : Option Files) (first second new : List ℕ)
    (one other : layout.Head) → (rose → now) → ((a b : List ℕ) → BothStand files first second a b → stands (join a b)) →
    ((a b : List ℕ) → BothStand files first second a b → AreSetsBy one other loaded first second a b) →
    (IsSome files → AreHeads files first second (fields_of one) (fields_of other)) →
    IfErr answer (CountingStops rose stands) → IsAnswerByHeads (fields_of one) (fields_of other) answer told → IfErr told (MergeStops now files first second new)
cause_by_heads (Ok value) told rose now stands files loaded first second new one other grows all sets are stop is =
    subst (λ r. IfErr r (MergeStops now files first second new)) (sym is) tt
cause_by_heads (Err fault) told rose now stands files loaded first second new one other grows all sets are stop is =
    subst (λ r. IfErr r (MergeStops now files first second new)) (sym is.1) (elim is.2 [
      | inl same ↦ subst (MergeStops now files first second new) (sym same.1) (counting_cause rose now stands files first second new fault grows all
          (λ given. record { a = fields_of one; b = fields_of other; are = are given; beyond = same.0 }) stop)
      | inr damaged ↦ read_cause now now ((a : List ℕ) × (b : List ℕ) × BothStand files first second a b) files first second new is.0 (λ rises. rises)
          (λ a b both. (a, b, both)) (damage_stops now ((a : List ℕ) × (b : List ℕ) × BothStand files first second a b) is.0 damaged.1
          (λ some. damaged.0 (beyond loaded first second some.0 some.1 one other (sets some.0 some.1 some.2) rose stands fault (all some.0 some.1 some.2) stop)))
    ])
