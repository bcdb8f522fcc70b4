-- Pieces that end within the bytes in which they began, and what is met in these.
use Rattle.std.proofs.Common.{◌≡◌, ◌≢◌, ◌+◌, ◌-◌, ◌<◌, ◌≤◌, ℕ, zero, suc, true, false, not, List, [], ◌∷◌, ◌++◌, length, take, drop, get_or, refl, sym, ap, subst, ◌∙◌, arith, ◌⊎◌, inl, inr, append_assoc, length-append, length-drop, length-take-le, take-add}
use Rattle.std.specs.List.{AllByRecursion, flat_map}
use Rattle.std.proofs.lemmas.Bool.{cases_Bool, cases_lt}
use Rattle.std.proofs.lemmas.List.{drop_more, drop-drop, get_or-drop, get_or-take, take_more}
use Rattle.mg_defs.specs.declared.Stream.{Stream}
use Rattle.mg_defs.specs.declared.Stream.TheVariants.{Words, Others}
use Rattle.mg_defs.specs.Marks.{Mark, piece, marks_of_document}
use Rattle.mg_defs.specs.Parse.{is_of_kind}
use Rattle.mg_defs.specs.Pieces.{OpenPiece, other_kind}
use Rattle.mg_defs.specs.Split.{IsDocument, closed_documents}
use Rattle.mg_parse.specs.Offered.{Offered}
use Rattle.mg_parse.specs.Seen.{StandsFor}
use Rattle.mg_parse.specs.declared.reader.Offer.{Offer}
use Rattle.mg_parse.specs.declared.reader.Offer.TheVariants.{Taken, Ended}
use Rattle.mg_count.specs.Meeting.{Meeting, marks_of, restarted, with_piece}
use Rattle.mg_count.specs.Scanning.{HasMet, HasRead, HasReadOn, Scanning, joined_marks, marks_of_open}
use Rattle.mg_count.specs.Whole.{EndsPiece, GoesOnNoFurther, GoesOnTo, IsWholePiece, TurnsAt, between}
use Rattle.mg_count.proofs.ReadingOn.{goes-on, met-read_on}
use Rattle.mg_count.proofs.Scans.{met-byte, read-one_ended, turned}

-- ---- bytes between two places

pub between-none : (at : ℕ) (bytes : List ℕ) → between at at bytes ≡ []
between-none at bytes = ap (λ n. take n (drop at bytes)) none
  where
    none : at - at ≡ 0
    none = omega arith

pub between-more : (from at : ℕ) (bytes : List ℕ) → from ≤ at → at < length bytes → between from (at + 1) bytes ≡ between from at bytes ++ get_or bytes at 0 ∷ []
between-more from at bytes after below =
    let count : at + 1 - from ≡ (at - from) + 1 = omega (arith, after) in
    let within : at - from < length (drop from bytes) = omega (arith, after, below, length-drop from bytes) in
    let place : from + (at - from) ≡ at = omega (arith, after) in
    ap (λ n. take n (drop from bytes)) count ∙ take_more (drop from bytes) (at - from) 0 within
    ∙ ap (λ b. between from at bytes ++ b ∷ []) (get_or-drop from bytes (at - from) 0 ∙ ap (λ i. get_or bytes i 0) place)

pub between-first : (at next : ℕ) (bytes : List ℕ) → at < next → at < length bytes → between at next bytes ≡ get_or bytes at 0 ∷ between (at + 1) next bytes
between-first at next bytes after below =
    let count : next - at ≡ 1 + (next - (at + 1)) = omega (arith, after) in
    ap (λ l. take (next - at) l) (drop_more bytes at 0 below) ∙ ap (λ n. take n (get_or bytes at 0 ∷ drop (at + 1) bytes)) count
    ∙ take-add 1 (next - (at + 1)) (get_or bytes at 0 ∷ drop (at + 1) bytes)

pub between-joins : (from at next : ℕ) (bytes : List ℕ) → from ≤ at → at ≤ next → between from at bytes ++ between at next bytes ≡ between from next bytes
between-joins from at next bytes after then =
    let count : next - from ≡ (at - from) + (next - at) = omega (arith, after, then) in
    let place : from + (at - from) ≡ at = omega (arith, after) in
    ap (λ l. between from at bytes ++ take (next - at) l) (sym (drop-drop (at - from) from bytes ∙ ap (λ n. drop n bytes) place))
    ∙ sym (take-add (at - from) (next - at) (drop from bytes)) ∙ ap (λ n. take n (drop from bytes)) (sym count)

pub between-length : (from at : ℕ) (bytes : List ℕ) → at ≤ length bytes → length (between from at bytes) ≡ at - from
between-length from at bytes within = length-take-le (at - from) (drop from bytes) (omega (arith, within, length-drop from bytes))

-- ---- bytes of a kind

pub goes-none : (kind : Stream) (bytes : List ℕ) (from : ℕ) → from ≤ length bytes → GoesOnTo kind bytes from from
goes-none kind bytes from within = record {
  after = omega arith;
  within = within;
  short = omega arith;
  of_kind = subst (λ run. AllByRecursion (λ b. is_of_kind kind b ≡ true) run) (sym (between-none from bytes)) tt;
  is_open = subst IsDocument (sym (between-none from bytes)) tt;
}

all-more : (P : ℕ → Type 0) (run : List ℕ) (b : ℕ) → AllByRecursion P run → P b → AllByRecursion P (run ++ b ∷ [])
all-more P [] b h is = (is, tt)
all-more P (c ∷ run) b h is = (h.0, all-more P run b h.1 is)

pub goes-more : (kind : Stream) (bytes : List ℕ) (from at : ℕ) → GoesOnTo kind bytes from at → at < length bytes → at < from + 254 → is_of_kind kind (get_or bytes at 0) ≡ true →
    get_or bytes at 0 ≢ 2 → GoesOnTo kind bytes from (at + 1)
goes-more kind bytes from at h below room is other =
    let more = sym (between-more from at bytes h.after below) in
    record {
      after = omega (arith, h.after);
      within = omega (arith, below);
      short = omega (arith, room);
      of_kind = subst (λ run. AllByRecursion (λ b. is_of_kind kind b ≡ true) run) more (all-more (λ b. is_of_kind kind b ≡ true) (between from at bytes) (get_or bytes at 0) h.of_kind is);
      is_open = subst IsDocument more (all-more (λ b. b ≢ 2) (between from at bytes) (get_or bytes at 0) h.is_open other);
    }

-- ---- as far as they go

all-at : (P : ℕ → Type 0) (run : List ℕ) (i : ℕ) → AllByRecursion P run → i < length run → P (get_or run i 0)
all-at P [] i all low = absurd (omega (arith, low))
all-at P (b ∷ run) zero all low = all.0
all-at P (b ∷ run) (suc i) all low = all-at P run i all.1 (omega (arith, low))

-- what is so of the bytes between two places is so of the byte at a place there
between-at : (P : ℕ → Type 0) (bytes : List ℕ) (from at to : ℕ) → AllByRecursion P (between from to bytes) → from ≤ at → at < to → to ≤ length bytes → P (get_or bytes at 0)
between-at P bytes from at to all after below within =
    let i : ℕ = at - from in
    let low : i < length (between from to bytes) = omega (arith, after, below, between-length from to bytes within) in
    let place : from + i ≡ at = omega (arith, after) in
    let is : get_or (between from to bytes) i 0 ≡ get_or bytes at 0
    = get_or-take (to - from) (drop from bytes) i 0 (omega (arith, after, below)) ∙ get_or-drop from bytes i 0 ∙ ap (λ n. get_or bytes n 0) place in
    subst P is (all-at P (between from to bytes) i all low)

-- where the byte at a place is not of the kind, or closes a document, they go on to no place behind it
pub no-further : (kind : Stream) (bytes : List ℕ) (from at : ℕ) → from ≤ at → (is_of_kind kind (get_or bytes at 0) ≡ false) ⊎ (get_or bytes at 0 ≡ 2) → GoesOnNoFurther kind bytes from at
no-further kind bytes from at after ends further goes = elim (cases_lt at further) [
  | inl behind ↦ absurd (met behind ends)
  | inr within ↦ within
]
  where
    met : at < further → (is_of_kind kind (get_or bytes at 0) ≡ false) ⊎ (get_or bytes at 0 ≡ 2) → ⊥
    met behind (inl other) =
        let is = between-at (λ b. is_of_kind kind b ≡ true) bytes from at further goes.of_kind after behind goes.within in
        let bad : true ≡ false = sym is ∙ other in absurd cc
    met behind (inr closes) = between-at (λ b. b ≢ 2) bytes from at further goes.is_open after behind goes.within closes

-- where the bytes of the piece that is read go on as far as they can, a whole piece ends
pub whole-ends : (s v : Scanning) (kind : Stream) (bytes : List ℕ) (at to next : ℕ) → s ≡ v → kind ≡ s.reading.kind → GoesOnTo kind bytes (at + 1) to →
    GoesOnNoFurther kind bytes (at + 1) to → IsWholePiece v bytes at next → (to ≡ next) × IsWholePiece s bytes at next
whole-ends s v kind bytes at to next view is goes far h =
    let whole : IsWholePiece s bytes at next = subst (λ (u : Scanning). IsWholePiece u bytes at next) (sym view) h in
    let same-goes : GoesOnTo s.reading.kind bytes (at + 1) to = subst (λ (k : Stream). GoesOnTo k bytes (at + 1) to) is goes in
    let same-far : GoesOnNoFurther s.reading.kind bytes (at + 1) to = subst (λ (k : Stream). GoesOnNoFurther k bytes (at + 1) to) is far in
    let above : next ≤ to = same-far next whole.goes_on in
    let below : to ≤ next = no-further s.reading.kind bytes (at + 1) next whole.goes_on.after (inl whole.ends) to same-goes in
    (omega (arith, above, below), whole)

-- a word byte closes nothing
pub word-open : (b : ℕ) → is_of_kind Words b ≡ true → b ≢ 2
word-open b is two = let bad : is_of_kind Words 2 ≡ true = subst (λ c. is_of_kind Words c ≡ true) two is in absurd cc

pub one-byte : (run : List ℕ) (b : ℕ) → length run ≡ 1 → get_or run 0 0 ≡ b → run ≡ b ∷ []
one-byte [] b one is = absurd (omega (arith, one))
one-byte (c ∷ []) b one is = ap (λ x. x ∷ []) is
one-byte (c ∷ d ∷ run) b one is = absurd (omega (arith, one))

-- ---- the piece ends

other-is : (kind : Stream) (b : ℕ) → is_of_kind kind b ≡ false → is_of_kind (other_kind kind) b ≡ true
other-is Words b isnt = ap not isnt
other-is Others b isnt = elim (cases_Bool (is_of_kind Words b)) [
  | inl is ↦ is
  | inr none ↦ let bad : true ≡ false = sym (ap not none) ∙ isnt in absurd cc
]

pub turns-at : (old next new : OpenPiece) (byte : ℕ) (answer : Offer) → byte ≢ 2 → is_of_kind old.kind byte ≡ false → next ≡ turned old → Offered next byte answer new → TurnsAt old new byte
turns-at old next new byte Taken stays ends is o = record {
  is_open = stays;
  ends = ends;
  begins = o.1 ∙ ap (λ (r : OpenPiece). record { kind = r.kind; piece = r.piece ++ byte ∷ [] }) is;
}
turns-at old next new byte Ended stays ends is o = absurd (fits (o.0))
  where
    fits : (is_of_kind next.kind byte ≡ false) ⊎ (255 ≤ length next.piece) → ⊥
    fits e = elim e [
      | inl none ↦ let bad : true ≡ false = sym (other-is old.kind byte ends) ∙ sym (ap (λ (r : OpenPiece). is_of_kind r.kind byte) is) ∙ none in absurd cc
      | inr full ↦ absurd (omega (arith, full, ap (λ (r : OpenPiece). length r.piece) is))
    ]

-- the piece with these bytes
abbrev grown : OpenPiece → List ℕ → OpenPiece
grown r run = record { kind = r.kind; piece = r.piece ++ run }

all-both : (P : ℕ → Type 0) (xs ys : List ℕ) → AllByRecursion P xs → AllByRecursion P ys → AllByRecursion P (xs ++ ys)
all-both P [] ys h k = k
all-both P (x ∷ xs) ys h k = (h.0, all-both P xs ys h.1 k)

reads-grown : (r : OpenPiece) (run : List ℕ) → AllByRecursion (λ b. is_of_kind r.kind b ≡ true) run → IsDocument run → length r.piece + length run ≤ 255 → HasReadOn r (grown r run) run
reads-grown r run of_kind stays short = record {
  kind = refl;
  within = stays;
  reads = λ told doc h. record {
    goes_on = λ more. rw (append_assoc doc run more, append_assoc r.piece run more) (h.goes_on (run ++ more));
    of_kind = all-both (λ b. is_of_kind r.kind b ≡ true) r.piece run h.of_kind of_kind;
    short = omega (arith, short, length-append r.piece run);
  };
}

-- the byte of the other kind ends it
reads-turned : (r new : OpenPiece) (byte : ℕ) → TurnsAt r new byte → HasRead r new byte (r.piece ∷ [])
reads-turned r new byte t = read-one_ended r (turned r) new byte (inl t.ends) refl
    (record { kind = other-is r.kind byte t.ends; room = omega arith }, t.begins)

-- the scanner whose piece it is
abbrev ended : Scanning → OpenPiece → Scanning
ended s new = record { seen = s.seen; reading = new; is_open = s.is_open; met = s.met }

-- what is met with it
module _ (s : Scanning) (new : OpenPiece) (byte : ℕ) (is_open : s.is_open ≡ true) (t : TurnsAt s.reading new byte) where
  met-turned : (fed : List ℕ) (met : List Mark) → HasMet s fed met → HasMet (ended s new) (fed ++ byte ∷ []) (met ++ piece s.reading.kind s.reading.piece ∷ [])
  met-turned fed met h =
      let on = goes-on fed (byte ∷ []) (t.is_open, tt) (sym h.same ∙ is_open) in
      let stands : StandsFor s.seen (fed ++ byte ∷ []) = record { closed = h.seen.closed ∙ sym on.count; end = h.seen.end ∙ sym h.same ∙ is_open ∙ sym on.end } in
      let m : Meeting = with_piece s.reading.kind s.reading.piece (restarted false s.met) in
      let told : List (List ℕ) = s.reading.piece ∷ [] in
      let is : marks_of m ≡ joined_marks (not s.is_open) s.reading.kind told = ap (λ b. joined_marks (not b) s.reading.kind told) (sym is_open) in
      let all = met-byte s s.seen new m fed met byte told t.is_open stands (reads-turned s.reading new byte t) is h in
      record {
        seen = all.seen;
        same = is_open ∙ all.same;
        told = all.told;
        none = λ e. let bad : true ≡ false = sym is_open ∙ e in absurd cc;
        kind = all.kind;
        reads = all.reads;
        marks_are = all.marks_are ∙ ap (λ b. flat_map marks_of_document (closed_documents (fed ++ byte ∷ [])) ++ marks_of_open b all.told) (sym is_open);
      }

-- the piece that began at a place ends before another
pub ends-piece : (s : Scanning) (new : OpenPiece) (bytes : List ℕ) (at next : ℕ) → s.is_open ≡ true → at < length bytes → s.reading.piece ≡ get_or bytes at 0 ∷ [] →
    GoesOnTo s.reading.kind bytes (at + 1) next → next < length bytes → TurnsAt s.reading new (get_or bytes next 0) →
    EndsPiece s (record { seen = s.seen; reading = new; is_open = s.is_open; met = s.met }) bytes at next
ends-piece s new bytes at next is_open below first goes within t =
    let run : List ℕ = between (at + 1) next bytes in
    let read : OpenPiece = grown s.reading run in
    let long = between-length (at + 1) next bytes goes.within in
    let one : length s.reading.piece ≡ 1 = ap length first in
    let whole : read.piece ≡ between at next bytes = ap (λ (p : List ℕ). p ++ run) first ∙ sym (between-first at next bytes (omega (arith, goes.after)) below) in
    let on = reads-grown s.reading run goes.of_kind goes.is_open (omega (arith, long, one, goes.short, goes.after)) in
    let middle : Scanning = record { seen = s.seen; reading = read; is_open = s.is_open; met = s.met } in
    let turns : TurnsAt read new (get_or bytes next 0) = record { is_open = t.is_open; ends = t.ends; begins = t.begins } in
    let more = between-more (at + 1) next bytes goes.after within in
    record {
      after = omega (arith, goes.after);
      within = within;
      short = omega (arith, goes.short);
      middle = middle;
      read = λ fed met h. met-read_on s read fed run met is_open on h;
      met = λ fed met h.
          let mid = met-read_on s read fed run met is_open on h in
          let all = met-turned middle new (get_or bytes next 0) is_open turns (fed ++ run) met mid in
          let joined : (fed ++ run) ++ get_or bytes next 0 ∷ [] ≡ fed ++ between (at + 1) (next + 1) bytes
          = append_assoc fed run (get_or bytes next 0 ∷ []) ∙ ap (λ x. fed ++ x) (sym more) in
          subst (λ x. HasMet (ended middle new) x (met ++ piece s.reading.kind (between at next bytes) ∷ [])) joined
          (subst (λ p. HasMet (ended middle new) ((fed ++ run) ++ get_or bytes next 0 ∷ []) (met ++ piece s.reading.kind p ∷ [])) whole all);
    }
