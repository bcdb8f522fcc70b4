-- What is met in bytes, one after the other, and that it is what is met first of all bytes that follow.
use Rattle.std.proofs.Common.{◌≡◌, ◌≢◌, ℕ, Bool, true, false, not, cond, List, [], ◌∷◌, ◌++◌, refl, sym, ap, subst, ◌∙◌, arith, inl, inr, append_assoc, append-nil}
use Rattle.std.specs.List.{flat_map}
use Rattle.std.proofs.lemmas.Bool.{cases_eq, ne_eqb}
use Rattle.mg_defs.specs.declared.Stream.{Stream}
use Rattle.mg_defs.specs.declared.Stream.TheVariants.{Words, Others}
use Rattle.mg_defs.specs.Marks.{Mark, start, piece, stop, marks, marks_of_document, marks_of_pairs}
use Rattle.mg_defs.specs.Parse.{Pair, parse, is_of_kind}
use Rattle.mg_defs.specs.Pieces.{OpenPiece, Reads, left_at_end, other_kind, pieces, pieces_from}
use Rattle.mg_defs.specs.Split.{closed_documents, documents, has_open_end, open_part}
use Rattle.mg_defs.proofs.ClosedLaws.{closed-byte, closed-close, documents-are, open-byte, open-close}
use Rattle.mg_defs.proofs.PieceLaws.{reads_end, reads_new, reads_next, reads_taken, reads_turned}
use Rattle.mg_defs.proofs.SplitLaws.{has_open_end-push}
use Rattle.mg_parse.specs.Offered.{Ends, Fits, Offered}
use Rattle.mg_parse.specs.Seen.{Seen, StandsFor}
use Rattle.mg_parse.specs.declared.reader.Offer.{Offer}
use Rattle.mg_parse.specs.declared.reader.Offer.TheVariants.{Taken, Ended}
use Rattle.mg_count.specs.Meeting.{Meeting, marks_of, only_if, restarted, with_other, with_piece}
use Rattle.mg_count.specs.Scanning.{HasMet, HasRead, Scanning, closing_marks, joined_marks, kind_after, marks_of_open, marks_of_pieces}

-- ---- pieces in turn

marks-append : (kind : Stream) (xs ys : List (List ℕ)) → marks_of_pieces kind (xs ++ ys) ≡ marks_of_pieces kind xs ++ marks_of_pieces (kind_after kind xs) ys
marks-append kind [] ys = refl
marks-append kind (x ∷ xs) ys = ap (λ r. piece kind x ∷ r) (marks-append (other_kind kind) xs ys)

kind-append : (kind : Stream) (xs ys : List (List ℕ)) → kind_after kind (xs ++ ys) ≡ kind_after (kind_after kind xs) ys
kind-append kind [] ys = refl
kind-append kind (x ∷ xs) ys = kind-append (other_kind kind) xs ys

marks-of_pairs : (ps : List Pair) → marks_of_pairs ps ≡ marks_of_pieces Words (flat_map (λ (p : Pair). p.word ∷ p.other ∷ []) ps)
marks-of_pairs [] = refl
marks-of_pairs (p ∷ ps) = ap (λ r. piece Words p.word ∷ piece Others p.other ∷ r) (marks-of_pairs ps)

-- a document's marks, where its pieces are those told and others
marks-of_document : (doc : List ℕ) (told rest : List (List ℕ)) → pieces doc ≡ told ++ rest →
    marks_of_document doc ≡ start ∷ (marks_of_pieces Words told ++ (marks_of_pieces (kind_after Words told) rest ++ stop ∷ []))
marks-of_document doc told rest h =
    let all : marks_of_pairs (parse doc) ≡ marks_of_pieces Words told ++ marks_of_pieces (kind_after Words told) rest = marks-of_pairs (parse doc)
    ∙ ap (marks_of_pieces Words) h ∙ marks-append Words told rest in
    ap (λ r. start ∷ (r ++ stop ∷ [])) all ∙ ap (λ r. start ∷ r) (append_assoc (marks_of_pieces Words told) (marks_of_pieces (kind_after Words told) rest) (stop ∷ []))

-- ---- a byte of a document

pub read-taken : (old new : OpenPiece) (byte : ℕ) (told : List (List ℕ)) (doc : List ℕ) → Fits old byte →
    new ≡ record { kind = old.kind; piece = old.piece ++ byte ∷ [] } → Reads old told doc (byte ∷ []) → Reads new told (doc ++ byte ∷ []) []
read-taken old new byte told doc fits is h = subst (λ (r : OpenPiece). Reads r told (doc ++ byte ∷ []) []) (sym is) (reads_taken old told doc byte fits.kind fits.room h)

abbrev pub turned : OpenPiece → OpenPiece
turned r = record { kind = other_kind r.kind; piece = [] }

-- no piece ends before it
pub read-at_once : (old new : OpenPiece) (byte : ℕ) → Offered old byte Taken new → HasRead old new byte []
read-at_once old new byte o = record {
  kind = ap (λ (r : OpenPiece). r.kind) o.1;
  reads = λ told doc h. rw (append-nil told) (read-taken old new byte told doc o.0 o.1 (reads_next old told doc byte h));
}

reads-turned : (old next : OpenPiece) (byte : ℕ) (told : List (List ℕ)) (doc : List ℕ) → Ends old byte → next ≡ turned old → Reads old told doc (byte ∷ []) →
    Reads next (told ++ old.piece ∷ []) doc (byte ∷ [])
reads-turned old next byte told doc ends is h = subst (λ (r : OpenPiece). Reads r (told ++ old.piece ∷ []) doc (byte ∷ [])) (sym is) (reads_turned old told doc byte ends h)

-- one piece ends before it
pub read-one_ended : (old next new : OpenPiece) (byte : ℕ) → Ends old byte → next ≡ turned old → Offered next byte Taken new → HasRead old new byte (old.piece ∷ [])
read-one_ended old next new byte ends is o = record {
  kind = ap (λ (r : OpenPiece). r.kind) o.1 ∙ ap (λ (r : OpenPiece). r.kind) is;
  reads = λ told doc h. read-taken next new byte (told ++ old.piece ∷ []) doc o.0 o.1 (reads-turned old next byte told doc ends is (reads_next old told doc byte h));
}

of-no_kind : (kind : Stream) (byte : ℕ) → is_of_kind (other_kind kind) byte ≡ false → is_of_kind (other_kind (other_kind kind)) byte ≡ false → ⊥
of-no_kind Words byte a b = let e : not (is_of_kind Words byte) ≡ true = ap not b in absurd cc
of-no_kind Others byte a b = let e : not (is_of_kind Words byte) ≡ true = ap not a in absurd cc

ends-empty : (kind : Stream) (byte : ℕ) → Ends (record { kind = kind; piece = [] }) byte → is_of_kind kind byte ≡ false
ends-empty kind byte h = elim h [ inl is ↦ is | inr full ↦ absurd (omega (arith, full)) ]

ends-once : (old next last : OpenPiece) (byte : ℕ) → next ≡ turned old → last ≡ turned next → Ends next byte → Ends last byte → ⊥
ends-once old next last byte is then a b =
    let last_is : last ≡ turned (turned old) = then ∙ ap turned is in
    of-no_kind old.kind byte (ends-empty (other_kind old.kind) byte (subst (λ (r : OpenPiece). Ends r byte) is a))
    (ends-empty (other_kind (other_kind old.kind)) byte (subst (λ (r : OpenPiece). Ends r byte) last_is b))

-- two pieces end before it, the second of which is empty
pub read-two_ended : (old next last new : OpenPiece) (byte : ℕ) (answer : Offer) → Ends old byte → next ≡ turned old → Ends next byte → last ≡ turned next →
    Offered last byte answer new → HasRead old new byte (old.piece ∷ [] ∷ [])
read-two_ended old next last new byte Ended ends is again then o = absurd (ends-once old next last byte is then again o.0)
read-two_ended old next last new byte Taken ends is again then o = record {
  kind = ap (λ (r : OpenPiece). r.kind) o.1 ∙ (ap (λ (r : OpenPiece). r.kind) then ∙ ap (λ (r : OpenPiece). other_kind r.kind) is);
  reads = λ told doc h.
      let one = reads-turned old next byte told doc ends is (reads_next old told doc byte h) in
      let two = reads-turned next last byte (told ++ old.piece ∷ []) doc again then one in
      let empty : next.piece ≡ [] = ap (λ (r : OpenPiece). r.piece) is in
      let joined : (told ++ old.piece ∷ []) ++ next.piece ∷ [] ≡ told ++ (old.piece ∷ [] ∷ []) = append_assoc told (old.piece ∷ []) (next.piece ∷ [])
      ∙ ap (λ (p : List ℕ). told ++ (old.piece ∷ p ∷ [])) empty in
      subst (λ (t : List (List ℕ)). Reads new t (doc ++ byte ∷ []) []) joined (read-taken last new byte ((told ++ old.piece ∷ []) ++ next.piece ∷ []) doc o.0 o.1 two);
}

-- ---- what is met

-- a piece of a reader was told, and maybe an empty one
pub met-one : (m0 m1 m2 : Meeting) (begins : Bool) (kind : Stream) (bytes : List ℕ) (old now : OpenPiece) → m1 ≡ restarted begins m0 →
    m2 ≡ with_piece kind bytes m1 → kind ≡ now.kind → bytes ≡ now.piece → now ≡ old → marks_of m2 ≡ joined_marks begins old.kind (old.piece ∷ [])
met-one m0 m1 m2 begins kind bytes old now is one k p same =
    ap (λ (m : Meeting). marks_of m) one ∙ ap (λ (m : Meeting). marks_of (with_piece kind bytes m)) is
    ∙ ap (λ (x : Stream). joined_marks begins x (bytes ∷ [])) k ∙ ap (λ (x : List ℕ). joined_marks begins now.kind (x ∷ [])) p ∙ ap (λ (r : OpenPiece). joined_marks begins r.kind (r.piece ∷ [])) same

pub met-two : (m0 m1 m2 m3 : Meeting) (begins : Bool) (kind : Stream) (bytes : List ℕ) (old now : OpenPiece) → m1 ≡ restarted begins m0 →
    m2 ≡ with_piece kind bytes m1 → m3 ≡ with_other m2 → kind ≡ now.kind → bytes ≡ now.piece → now ≡ old →
    marks_of m3 ≡ joined_marks begins old.kind (old.piece ∷ [] ∷ [])
met-two m0 m1 m2 m3 begins kind bytes old now is one two k p same =
    ap (λ (m : Meeting). marks_of m) two ∙ ap (λ (m : Meeting). marks_of (with_other m)) one ∙ ap (λ (m : Meeting). marks_of (with_other (with_piece kind bytes m))) is
    ∙ ap (λ (x : Stream). joined_marks begins x (bytes ∷ [] ∷ [])) k ∙ ap (λ (x : List ℕ). joined_marks begins now.kind (x ∷ [] ∷ [])) p
    ∙ ap (λ (r : OpenPiece). joined_marks begins r.kind (r.piece ∷ [] ∷ [])) same

-- ---- the pieces that are left at a document's end

-- ---- a byte more

abbrev docs_marks : List (List ℕ) → List Mark
docs_marks docs = flat_map marks_of_document docs

opened : (is_open : Bool) (told : List (List ℕ)) (xs : List Mark) → (is_open ≡ false → told ≡ []) →
    marks_of_open is_open told ++ (only_if (not is_open) start ++ xs) ≡ start ∷ (marks_of_pieces Words told ++ xs)
opened true told xs none = refl
opened false told xs none = sym (ap (λ (t : List (List ℕ)). start ∷ (marks_of_pieces Words t ++ xs)) (none refl))

-- the marks met, and what is met with a byte
met-more : (s : Scanning) (fed : List ℕ) (met new : List Mark) (h : HasMet s fed met) (xs : List Mark) → new ≡ only_if (not s.is_open) start ++ xs →
    met ++ new ≡ docs_marks (closed_documents fed) ++ (start ∷ (marks_of_pieces Words h.told ++ xs))
met-more s fed met new h xs is =
    let before : List Mark = docs_marks (closed_documents fed) in
    ap (λ (a : List Mark). a ++ new) h.marks_are ∙ ap (λ (b : List Mark). (before ++ marks_of_open s.is_open h.told) ++ b) is
    ∙ append_assoc before (marks_of_open s.is_open h.told) (only_if (not s.is_open) start ++ xs) ∙ ap (λ (r : List Mark). before ++ r) (opened s.is_open h.told xs h.none)

-- after a byte of a document
pub met-byte : (s : Scanning) (seen : Seen) (reading : OpenPiece) (m : Meeting) (fed : List ℕ) (met : List Mark) (byte : ℕ) (ended : List (List ℕ)) → byte ≢ 2 →
    StandsFor seen (fed ++ byte ∷ []) → HasRead s.reading reading byte ended → marks_of m ≡ joined_marks (not s.is_open) s.reading.kind ended → HasMet s fed met
    → HasMet (record { seen = seen; reading = reading; is_open = true; met = m }) (fed ++ byte ∷ []) (met ++ marks_of m)
met-byte s seen reading m fed met byte ended ne stands read is h =
    let kinds : marks_of_pieces Words h.told ++ marks_of_pieces s.reading.kind ended ≡ marks_of_pieces Words (h.told ++ ended) =
    ap (λ k. marks_of_pieces Words h.told ++ marks_of_pieces k ended) h.kind ∙ sym (marks-append Words h.told ended) in
    record {
      seen = stands;
      same = sym (has_open_end-push fed byte ∙ ap not (ne_eqb byte 2 ne));
      told = h.told ++ ended;
      none = λ e. absurd cc;
      kind = read.kind ∙ ap (λ k. kind_after k ended) h.kind ∙ sym (kind-append Words h.told ended);
      reads = subst (λ (o : List ℕ). Reads reading (h.told ++ ended) o []) (sym (open-byte fed byte ne)) (read.reads h.told (open_part fed) h.reads);
      marks_are = met-more s fed met (marks_of m) h (marks_of_pieces s.reading.kind ended) is
          ∙ ap (λ (r : List Mark). docs_marks (closed_documents fed) ++ (start ∷ r)) kinds
          ∙ sym (ap (λ (d : List (List ℕ)). docs_marks d ++ (start ∷ marks_of_pieces Words (h.told ++ ended))) (closed-byte fed byte ne));
    }

-- it goes on the piece that is read, and nothing is met with it
pub met-went_on : (s : Scanning) (seen : Seen) (reading : OpenPiece) (fed : List ℕ) (met : List Mark) (byte : ℕ) → s.is_open ≡ true → byte ≢ 2 →
    StandsFor seen (fed ++ byte ∷ []) → HasRead s.reading reading byte [] → HasMet s fed met
    → HasMet (record { seen = seen; reading = reading; is_open = s.is_open; met = s.met }) (fed ++ byte ∷ []) met
met-went_on s seen reading fed met byte is_open ne stands read h =
    let m : Meeting = restarted false s.met in
    let none : marks_of m ≡ joined_marks (not s.is_open) s.reading.kind [] = ap (λ b. joined_marks (not b) s.reading.kind []) (sym is_open) in
    let all = met-byte s seen reading m fed met byte [] ne stands read none h in
    record {
      seen = all.seen;
      same = is_open ∙ all.same;
      told = all.told;
      none = λ e. let bad : true ≡ false = sym is_open ∙ e in absurd cc;
      kind = all.kind;
      reads = all.reads;
      marks_are = sym (append-nil met) ∙ all.marks_are ∙ ap (λ b. docs_marks (closed_documents (fed ++ byte ∷ [])) ++ marks_of_open b all.told) (sym is_open);
    }

-- the marks of the open document at its end
closing : (s : Scanning) (fed : List ℕ) (met : List Mark) (h : HasMet s fed met) → start ∷
    (marks_of_pieces Words h.told ++ (marks_of_pieces s.reading.kind (left_at_end s.reading.kind s.reading.piece) ++ stop ∷ []))
    ≡ marks_of_document (open_part fed)
closing s fed met h =
    let left : List (List ℕ) = left_at_end s.reading.kind s.reading.piece in
    ap (λ k. start ∷ (marks_of_pieces Words h.told ++ (marks_of_pieces k left ++ stop ∷ []))) h.kind
    ∙ sym (marks-of_document (open_part fed) h.told left (reads_end s.reading h.told (open_part fed) h.reads))

one-more : (docs : List (List ℕ)) (doc : List ℕ) → docs_marks (docs ++ doc ∷ []) ≡ docs_marks docs ++ marks_of_document doc
one-more [] doc = append-nil (marks_of_document doc)
one-more (d ∷ docs) doc = ap (λ (r : List Mark). marks_of_document d ++ r) (one-more docs doc) ∙ sym (append_assoc (marks_of_document d) (docs_marks docs) (marks_of_document doc))

-- after the byte that closes a document
pub met-close : (s : Scanning) (seen : Seen) (m : Meeting) (fed : List ℕ) (met : List Mark) → StandsFor seen (fed ++ 2 ∷ []) → marks_of m ≡ closing_marks (not s.is_open) s.reading → HasMet s fed met
    → HasMet (record { seen = seen; reading = record { kind = Words; piece = [] }; is_open = false; met = m }) (fed ++ 2 ∷ []) (met ++ marks_of m)
met-close s seen m fed met stands is h = record {
  seen = stands;
  same = sym (has_open_end-push fed 2);
  told = [];
  none = λ e. refl;
  kind = refl;
  reads = subst (λ (o : List ℕ). Reads (record { kind = Words; piece = [] }) [] o []) (sym (open-close fed)) reads_new;
  marks_are =
      met-more s fed met (marks_of m) h (marks_of_pieces s.reading.kind (left_at_end s.reading.kind s.reading.piece) ++ stop ∷ []) is
      ∙ ap (λ (r : List Mark). docs_marks (closed_documents fed) ++ r) (closing s fed met h) ∙ sym (one-more (closed_documents fed) (open_part fed))
      ∙ sym (ap docs_marks (closed-close fed)) ∙ sym (append-nil (docs_marks (closed_documents (fed ++ 2 ∷ []))));
}

pub met-closed : (s : Scanning) (seen : Seen) (reading : OpenPiece) (m : Meeting) (fed : List ℕ) (met : List Mark) (byte : ℕ) → byte ≡ 2 →
    reading ≡ record { kind = Words; piece = [] } → StandsFor seen (fed ++ byte ∷ []) → marks_of m ≡ closing_marks (not s.is_open) s.reading → HasMet s fed met
    → HasMet (record { seen = seen; reading = reading; is_open = false; met = m }) (fed ++ byte ∷ []) (met ++ marks_of m)
met-closed s seen reading m fed met byte is empty stands closes h =
    let two = met-close s seen m fed met (subst (λ b. StandsFor seen (fed ++ b ∷ [])) is stands) closes h in
    subst (λ (r : OpenPiece). HasMet (record { seen = seen; reading = r; is_open = false; met = m }) (fed ++ byte ∷ []) (met ++ marks_of m)) (sym empty)
    (subst (λ b. HasMet (record { seen = seen; reading = record { kind = Words; piece = [] }; is_open = false; met = m }) (fed ++ b ∷ []) (met ++ marks_of m)) (sym is) two)

-- ---- the end

pub end-open : (s : Scanning) (m : Meeting) (fed : List ℕ) (met : List Mark) → s.is_open ≡ true → marks_of m ≡ closing_marks false s.reading → HasMet s fed met → marks fed ≡ met ++ marks_of m
end-open s m fed met is closes h =
    let none : not s.is_open ≡ false = ap not is in
    let with_start : marks_of m ≡ closing_marks (not s.is_open) s.reading = closes ∙ sym (ap (λ b. closing_marks b s.reading) none) in
    let docs : documents fed ≡ closed_documents fed ++ open_part fed ∷ [] = documents-are fed ∙ ap (λ b. closed_documents fed ++ cond b (open_part fed ∷ []) []) (sym h.same ∙ is) in
    ap docs_marks docs ∙ one-more (closed_documents fed) (open_part fed)
    ∙ sym (met-more s fed met (marks_of m) h (marks_of_pieces s.reading.kind (left_at_end s.reading.kind s.reading.piece) ++ stop ∷ []) with_start
    ∙ ap (λ (r : List Mark). docs_marks (closed_documents fed) ++ r) (closing s fed met h))

pub end-closed : (s : Scanning) (m : Meeting) (fed : List ℕ) (met : List Mark) → s.is_open ≡ false → marks_of m ≡ [] → HasMet s fed met → marks fed ≡ met ++ marks_of m
end-closed s m fed met is none h =
    let docs : documents fed ≡ closed_documents fed = documents-are fed ∙ ap (λ b. closed_documents fed ++ cond b (open_part fed ∷ []) []) (sym h.same ∙ is) ∙ append-nil (closed_documents fed) in
    ap docs_marks docs ∙ sym (ap (λ (x : List Mark). met ++ x) none ∙ append-nil met ∙ h.marks_are
    ∙ ap (λ b. docs_marks (closed_documents fed) ++ marks_of_open b h.told) is ∙ append-nil (docs_marks (closed_documents fed)))

-- ---- whatever follows

-- the documents of bytes and more: the closed ones, and then, where one is open, one that begins with it
record GoOn (fed more : List ℕ) : Type 0 where
  rest : List (List ℕ)
  whole : documents (fed ++ more) ≡ closed_documents fed ++ rest
  first : has_open_end fed ≡ true → (tail : List ℕ) × (docs : List (List ℕ)) × (rest ≡ (open_part fed ++ tail) ∷ docs)

go-on : (fed more : List ℕ) → GoOn fed more
go-on fed [] = record {
  rest = cond (has_open_end fed) (open_part fed ∷ []) [];
  whole = ap documents (append-nil fed) ∙ documents-are fed;
  first = λ is. ([], [], ap (λ b. cond b (open_part fed ∷ []) []) is ∙ ap (λ (o : List ℕ). o ∷ []) (sym (append-nil (open_part fed))));
}
go-on fed (b ∷ more) =
    let next = go-on (fed ++ b ∷ []) more in
    let all : documents (fed ++ (b ∷ more)) ≡ closed_documents (fed ++ b ∷ []) ++ next.rest = ap documents (sym (append_assoc fed (b ∷ []) more)) ∙ next.whole in
    elim (cases_eq b 2) [
      | inl is ↦
          let closed : closed_documents (fed ++ b ∷ []) ≡ closed_documents fed ++ open_part fed ∷ [] = ap (λ x. closed_documents (fed ++ x ∷ [])) is ∙ closed-close fed in
          record {
            rest = open_part fed ∷ next.rest;
            whole = all ∙ ap (λ (d : List (List ℕ)). d ++ next.rest) closed ∙ append_assoc (closed_documents fed) (open_part fed ∷ []) next.rest;
            first = λ e. ([], next.rest, ap (λ (o : List ℕ). o ∷ next.rest) (sym (append-nil (open_part fed))));
          }
      | inr ne ↦
          let open_now : has_open_end (fed ++ b ∷ []) ≡ true = has_open_end-push fed b ∙ ap not (ne_eqb b 2 ne) in
          let f = next.first open_now in
          record {
            rest = next.rest;
            whole = all ∙ ap (λ (d : List (List ℕ)). d ++ next.rest) (closed-byte fed b ne);
            first = λ e. (b ∷ f.0, f.1, f.2 ∙ ap (λ (o : List ℕ). o ∷ f.1) (ap (λ (o : List ℕ). o ++ f.0) (open-byte fed b ne) ∙ append_assoc (open_part fed) (b ∷ []) f.0));
          }
    ]

docs-append : (a b : List (List ℕ)) → docs_marks (a ++ b) ≡ docs_marks a ++ docs_marks b
docs-append [] b = refl
docs-append (d ∷ a) b = ap (λ (r : List Mark). marks_of_document d ++ r) (docs-append a b) ∙ sym (append_assoc (marks_of_document d) (docs_marks a) (docs_marks b))

-- the marks of bytes and more begin with those that were met in the bytes
pub marks-go_on : (s : Scanning) (fed : List ℕ) (met : List Mark) → HasMet s fed met → (more : List ℕ) → (rest : List Mark) × (marks (fed ++ more) ≡ met ++ rest)
marks-go_on s fed met h more = by s.is_open refl
  where
    before : List Mark
    before = docs_marks (closed_documents fed)

    by : (b : Bool) → s.is_open ≡ b → (rest : List Mark) × (marks (fed ++ more) ≡ met ++ rest)
    by false is =
        let g = go-on fed more in
        let all : met ≡ before = h.marks_are ∙ ap (λ b. before ++ marks_of_open b h.told) is ∙ append-nil before in
        (docs_marks g.rest, ap docs_marks g.whole ∙ docs-append (closed_documents fed) g.rest ∙ sym (ap (λ (a : List Mark). a ++ docs_marks g.rest) all))
    by true is =
        let g = go-on fed more in
        let f = g.first (sym h.same ∙ is) in
        let after : List Mark = marks_of_pieces (kind_after Words h.told) (pieces_from s.reading.kind (s.reading.piece ++ f.0)) ++ stop ∷ [] in
        let doc : marks_of_document (open_part fed ++ f.0) ≡ start ∷ (marks_of_pieces Words h.told ++ after) =
        marks-of_document (open_part fed ++ f.0) h.told (pieces_from s.reading.kind (s.reading.piece ++ f.0)) (h.reads.goes_on f.0) in
        let all : met ≡ before ++ (start ∷ marks_of_pieces Words h.told) = h.marks_are ∙ ap (λ b. before ++ marks_of_open b h.told) is in
        let others : List Mark = docs_marks f.1 in
        let first : docs_marks g.rest ≡ (start ∷ marks_of_pieces Words h.told) ++ (after ++ others) = ap docs_marks f.2
        ∙ ap (λ (r : List Mark). r ++ others) doc ∙ append_assoc (start ∷ marks_of_pieces Words h.told) after others in (
          after ++ others,
          ap docs_marks g.whole ∙ docs-append (closed_documents fed) g.rest ∙ ap (λ (r : List Mark). before ++ r) first
              ∙ sym (append_assoc before (start ∷ marks_of_pieces Words h.told) (after ++ others)) ∙ sym (ap (λ (a : List Mark). a ++ (after ++ others)) all),
        )
