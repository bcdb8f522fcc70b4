-- Marks that are counted, one after the other, and the one with which a limit is passed.
use Rattle.std.proofs.Common.{◌≡◌, ◌≤◌, ◌<◌, ◌+◌, ◌/◌, ◌^◌, ℕ, Bool, true, false, List, [], ◌∷◌, ◌++◌, length, refl, sym, ap, subst, ◌∙◌, arith, append_assoc, append-nil, length-append, cond}
use Rattle.std.specs.Result.{IfErr, IsErrAnd, OnOk}
use Rattle.std.specs.Str.{bytes_eq}
use Rattle.std.specs.declared.result.Result.{Result}
use Rattle.std.specs.declared.result.Result.TheVariants.{Ok, Err}
use Rattle.std.proofs.lemmas.Bool.{or_parts}
use Rattle.mg_dev.specs.declared.fault.Fault.{Fault}
use Rattle.mg_dev.specs.declared.fault.Fault.TheVariants.{Memory, TooManyDocuments, TooManyPieces}
use Rattle.mg_defs.specs.declared.Stream.{Stream}
use Rattle.mg_defs.specs.declared.Stream.TheVariants.{Words, Others}
use Rattle.mg_defs.specs.Limits.{version_2}
use Rattle.mg_defs.specs.Marks.{AreWithinLimits, Mark, start, piece, stop, pairs_from, pieces_among, piece_count_from, starts}
use Rattle.mg_defs.specs.Pieces.{other_kind}
use Rattle.mg_defs.specs.Sorted.{sorted_distinct}
use Rattle.mg_defs.specs.Vocabulary.{counted, has_piece, total, vocabulary}
use Rattle.mg_defs.proofs.VocabularyLaws.{length-of_vocabulary, total-of_vocabulary, vocabulary-push}
use Rattle.mg_count.specs.Counting.{AreFew, Counting, IsCounted, PassesAfter, PieceStops, StopsAt}
use Rattle.mg_count.specs.Meeting.{Meeting, marks_of, only_if}

-- what more marks add
pub record AddUp : Type 0 where
  pub documents : (a b : List Mark) → starts (a ++ b) ≡ starts a + starts b
  pub pieces : (kind : Stream) (a b : List Mark) → pieces_among kind (a ++ b) ≡ pieces_among kind a ++ pieces_among kind b
  pub pairs : (n : ℕ) (a b : List Mark) → pairs_from n (a ++ b) ≡ pairs_from n a ++ pairs_from (piece_count_from n a) b
  pub last : (n : ℕ) (a b : List Mark) → piece_count_from n (a ++ b) ≡ piece_count_from (piece_count_from n a) b

-- ---- marks that are no pieces

no-piece : (laws : AddUp) (kind : Stream) (met : List Mark) (mark : Mark) → pieces_among kind (mark ∷ []) ≡ [] → pieces_among kind (met ++ mark ∷ []) ≡ pieces_among kind met
no-piece laws kind met mark none = laws.pieces kind met (mark ∷ []) ∙ ap (λ (p : List (List ℕ)). pieces_among kind met ++ p) none ∙ append-nil (pieces_among kind met)

same-few : (a b : List (List ℕ)) → a ≡ b → length (sorted_distinct b) ≤ version_2.pieces → length (sorted_distinct a) ≤ version_2.pieces
same-few a b is h = subst (λ (l : List (List ℕ)). length (sorted_distinct l) ≤ version_2.pieces) (sym is) h

pub start-counted : (laws : AddUp) (c : Counting) (met : List Mark) → c.documents < 2 ^ 24 → IsCounted c met
    → IsCounted (record { words = c.words; others = c.others; pairs = c.pairs; pieces = 0; documents = c.documents + 1 }) (met ++ start ∷ [])
start-counted laws c met room h =
    let words = no-piece laws Words met start refl in
    let others = no-piece laws Others met start refl in
    record {
      words = h.words ∙ ap vocabulary (sym words);
      others = h.others ∙ ap vocabulary (sym others);
      pairs = h.pairs ∙ sym (laws.pairs 0 met (start ∷ []) ∙ append-nil (pairs_from 0 met));
      pieces = sym (laws.last 0 met (start ∷ []));
      documents = omega (arith, laws.documents met (start ∷ []), h.documents);
      within = record {
        documents = omega (arith, laws.documents met (start ∷ []), h.documents, room);
        words = same-few (pieces_among Words (met ++ start ∷ [])) (pieces_among Words met) words h.within.words;
        others = same-few (pieces_among Others (met ++ start ∷ [])) (pieces_among Others met) others h.within.others;
      };
    }

pub stop-counted : (laws : AddUp) (c : Counting) (met : List Mark) → IsCounted c met
    → IsCounted (record { words = c.words; others = c.others; pairs = c.pairs ++ c.pieces / 2 ∷ []; pieces = 0; documents = c.documents }) (met ++ stop ∷ [])
stop-counted laws c met h =
    let words = no-piece laws Words met stop refl in
    let others = no-piece laws Others met stop refl in
    record {
      words = h.words ∙ ap vocabulary (sym words);
      others = h.others ∙ ap vocabulary (sym others);
      pairs = ap (λ (l : List ℕ). l ++ c.pieces / 2 ∷ []) h.pairs ∙ ap (λ n. pairs_from 0 met ++ n / 2 ∷ []) h.pieces ∙ sym (laws.pairs 0 met (stop ∷ []));
      pieces = sym (laws.last 0 met (stop ∷ []));
      documents = omega (arith, laws.documents met (stop ∷ []), h.documents);
      within = record {
        documents = omega (arith, laws.documents met (stop ∷ []), h.within.documents);
        words = same-few (pieces_among Words (met ++ stop ∷ [])) (pieces_among Words met) words h.within.words;
        others = same-few (pieces_among Others (met ++ stop ∷ [])) (pieces_among Others met) others h.within.others;
      };
    }

-- ---- a piece

entries-more : (laws : AddUp) (kind : Stream) (old new : List (List ℕ × ℕ)) (met : List Mark) (bytes : List ℕ) →
    pieces_among kind (piece kind bytes ∷ []) ≡ bytes ∷ [] → new ≡ counted bytes old → old ≡ vocabulary (pieces_among kind met) →
    new ≡ vocabulary (pieces_among kind (met ++ piece kind bytes ∷ []))
entries-more laws kind old new met bytes one is h =
    is ∙ ap (counted bytes) h ∙ sym (vocabulary-push (pieces_among kind met) bytes) ∙ ap vocabulary
    (sym (laws.pieces kind met (piece kind bytes ∷ []) ∙ ap (λ (p : List (List ℕ)). pieces_among kind met ++ p) one))

few-entries : (new : List (List ℕ × ℕ)) (pieces : List (List ℕ)) → new ≡ vocabulary pieces → length new ≤ 2 ^ 22 → length (sorted_distinct pieces) ≤ version_2.pieces
few-entries new pieces is few = omega (arith, few, ap length is, length-of_vocabulary pieces)

pub word-counted : (laws : AddUp) (c : Counting) (new : List (List ℕ × ℕ)) (met : List Mark) (bytes : List ℕ) → new ≡ counted bytes c.words → length new ≤ 2 ^ 22 → IsCounted c met
    → IsCounted (record { words = new; others = c.others; pairs = c.pairs; pieces = c.pieces + 1; documents = c.documents }) (met ++ piece Words bytes ∷ [])
word-counted laws c new met bytes is few h =
    let mark : Mark = piece Words bytes in
    let words = entries-more laws Words c.words new met bytes refl is h.words in
    let others = no-piece laws Others met mark refl in
    record {
      words = words;
      others = h.others ∙ ap vocabulary (sym others);
      pairs = h.pairs ∙ sym (laws.pairs 0 met (mark ∷ []) ∙ append-nil (pairs_from 0 met));
      pieces = ap (λ n. n + 1) h.pieces ∙ sym (laws.last 0 met (mark ∷ []));
      documents = omega (arith, laws.documents met (mark ∷ []), h.documents);
      within = record {
        documents = omega (arith, laws.documents met (mark ∷ []), h.within.documents);
        words = few-entries new (pieces_among Words (met ++ mark ∷ [])) words few;
        others = same-few (pieces_among Others (met ++ mark ∷ [])) (pieces_among Others met) others h.within.others;
      };
    }

pub other-counted : (laws : AddUp) (c : Counting) (new : List (List ℕ × ℕ)) (met : List Mark) (bytes : List ℕ) → new ≡ counted bytes c.others → length new ≤ 2 ^ 22 → IsCounted c met
    → IsCounted (record { words = c.words; others = new; pairs = c.pairs; pieces = c.pieces + 1; documents = c.documents }) (met ++ piece Others bytes ∷ [])
other-counted laws c new met bytes is few h =
    let mark : Mark = piece Others bytes in
    let others = entries-more laws Others c.others new met bytes refl is h.others in
    let words = no-piece laws Words met mark refl in
    record {
      words = h.words ∙ ap vocabulary (sym words);
      others = others;
      pairs = h.pairs ∙ sym (laws.pairs 0 met (mark ∷ []) ∙ append-nil (pairs_from 0 met));
      pieces = ap (λ n. n + 1) h.pieces ∙ sym (laws.last 0 met (mark ∷ []));
      documents = omega (arith, laws.documents met (mark ∷ []), h.documents);
      within = record {
        documents = omega (arith, laws.documents met (mark ∷ []), h.within.documents);
        words = same-few (pieces_among Words (met ++ mark ∷ [])) (pieces_among Words met) words h.within.words;
        others = few-entries new (pieces_among Others (met ++ mark ∷ [])) others few;
      };
    }

-- ---- a limit is passed

pub start-passes : (laws : AddUp) (c : Counting) (met : List Mark) → 2 ^ 24 ≤ c.documents → IsCounted c met → PassesAfter met (start ∷ []) start
start-passes laws c met full h = record {
  before = [];
  after = [];
  whole = refl;
  within = subst (AreWithinLimits version_2) (sym (append-nil met)) h.within;
  beyond = λ w. omega (arith, full, h.documents, laws.documents met (start ∷ []), w.documents);
}

one-new : (bytes : List ℕ) (entries : List (List ℕ × ℕ)) → has_piece entries bytes ≡ false → length (counted bytes entries) ≡ length entries + 1
one-new bytes [] none = refl
one-new bytes (e ∷ entries) none =
    let parts = or_parts (bytes_eq bytes e.0) (has_piece entries bytes) none in
    let more = one-new bytes entries parts.1 in
    ap (λ b. length (cond b ((e.0, e.1 + 1) ∷ entries) (e ∷ counted bytes entries))) parts.0 ∙ omega (arith, more)

past-entries : (laws : AddUp) (kind : Stream) (entries : List (List ℕ × ℕ)) (met : List Mark) (bytes : List ℕ) →
    pieces_among kind (piece kind bytes ∷ []) ≡ bytes ∷ [] → has_piece entries bytes ≡ false → length entries ≡ 2 ^ 22 →
    entries ≡ vocabulary (pieces_among kind met)
    → length (sorted_distinct (pieces_among kind (met ++ piece kind bytes ∷ []))) ≡ 2 ^ 22 + 1
past-entries laws kind entries met bytes one new full h =
    let all = entries-more laws kind entries (counted bytes entries) met bytes one refl h in
    omega (arith, full, one-new bytes entries new, ap length all, length-of_vocabulary (pieces_among kind (met ++ piece kind bytes ∷ [])))

pub word-passes : (laws : AddUp) (c : Counting) (met : List Mark) (bytes : List ℕ) → has_piece c.words bytes ≡ false → length c.words ≡ 2 ^ 22 →
    IsCounted c met → PassesAfter met (piece Words bytes ∷ []) (piece Words bytes)
word-passes laws c met bytes new full h = record {
  before = [];
  after = [];
  whole = refl;
  within = subst (AreWithinLimits version_2) (sym (append-nil met)) h.within;
  beyond = λ w. omega (arith, past-entries laws Words c.words met bytes refl new full h.words, w.words);
}

pub other-passes : (laws : AddUp) (c : Counting) (met : List Mark) (bytes : List ℕ) → has_piece c.others bytes ≡ false → length c.others ≡ 2 ^ 22 →
    IsCounted c met → PassesAfter met (piece Others bytes ∷ []) (piece Others bytes)
other-passes laws c met bytes new full h = record {
  before = [];
  after = [];
  whole = refl;
  within = subst (AreWithinLimits version_2) (sym (append-nil met)) h.within;
  beyond = λ w. omega (arith, past-entries laws Others c.others met bytes refl new full h.others, w.others);
}

-- ---- numbers fit

pub few-pieces : (n : ℕ) (met : List Mark) → piece_count_from n met ≤ n + length (pieces_among Words met) + length (pieces_among Others met)
few-pieces n [] = omega arith
few-pieces n (start ∷ met) = omega (arith, few-pieces 0 met)
few-pieces n (stop ∷ met) = omega (arith, few-pieces 0 met)
few-pieces n (piece Words x ∷ met) = omega (arith, few-pieces (n + 1) met)
few-pieces n (piece Others x ∷ met) = omega (arith, few-pieces (n + 1) met)

pub few-front : (laws : AddUp) (a b : List Mark) → AreFew (a ++ b) → AreFew a
few-front laws a b h = record {
  words = omega (arith, h.words, ap length (laws.pieces Words a b), length-append (pieces_among Words a) (pieces_among Words b));
  others = omega (arith, h.others, ap length (laws.pieces Others a b), length-append (pieces_among Others a) (pieces_among Others b));
}

pub few-now : (c : Counting) (met : List Mark) → IsCounted c met → AreFew met → c.pieces < 2 ^ 33
few-now c met h few = omega (arith, h.pieces, few-pieces 0 met, few.words, few.others)

one-piece : (laws : AddUp) (kind : Stream) (entries : List (List ℕ × ℕ)) (met : List Mark) (bytes : List ℕ) →
    pieces_among kind (piece kind bytes ∷ []) ≡ bytes ∷ [] → entries ≡ vocabulary (pieces_among kind met) →
    length (pieces_among kind (met ++ piece kind bytes ∷ [])) ≡ total entries + 1
one-piece laws kind entries met bytes one h =
    omega (
      arith,
      ap length (laws.pieces kind met (piece kind bytes ∷ []) ∙ ap (λ (p : List (List ℕ)). pieces_among kind met ++ p) one),
      length-append (pieces_among kind met) (bytes ∷ []),
      ap total h,
      total-of_vocabulary (pieces_among kind met),
    )

pub word-fits : (laws : AddUp) (c : Counting) (met : List Mark) (bytes : List ℕ) → IsCounted c met → AreFew (met ++ piece Words bytes ∷ []) → total c.words + 1 < 2 ^ 32
word-fits laws c met bytes h few = omega (arith, few.words, one-piece laws Words c.words met bytes refl h.words)

pub other-fits : (laws : AddUp) (c : Counting) (met : List Mark) (bytes : List ℕ) → IsCounted c met → AreFew (met ++ piece Others bytes ∷ []) → total c.others + 1 < 2 ^ 32
other-fits laws c met bytes h few = omega (arith, few.others, one-piece laws Others c.others met bytes refl h.others)

-- ---- marks one after the other

passes-later : (met a b : List Mark) (mark : Mark) → PassesAfter (met ++ a) b mark → PassesAfter met (a ++ b) mark
passes-later met a b mark p = record {
  before = a ++ p.before;
  after = p.after;
  whole = ap (λ (x : List Mark). a ++ x) p.whole ∙ sym (append_assoc a p.before (mark ∷ p.after));
  within = subst (AreWithinLimits version_2) (append_assoc met a p.before) p.within;
  beyond = λ w. p.beyond (subst (AreWithinLimits version_2) (sym (append_assoc met a (p.before ++ mark ∷ []) ∙ ap (λ (x : List Mark). met ++ x) (sym (append_assoc a p.before (mark ∷ []))))) w);
}

passes-sooner : (met a b : List Mark) (mark : Mark) → PassesAfter met a mark → PassesAfter met (a ++ b) mark
passes-sooner met a b mark p = record {
  before = p.before;
  after = p.after ++ b;
  whole = ap (λ (x : List Mark). x ++ b) p.whole ∙ append_assoc p.before (mark ∷ p.after) b;
  within = p.within;
  beyond = p.beyond;
}

pub stops-later : (met a b : List Mark) (fault : Fault) → StopsAt (met ++ a) b fault → StopsAt met (a ++ b) fault
stops-later met a b TooManyDocuments h = passes-later met a b start h
stops-later met a b (TooManyPieces stream) h = (h.0, passes-later met a b (piece stream h.0) h.1)
stops-later met a b Memory h = tt
stops-later met a b fault h = absurd h

pub stops-sooner : (met a b : List Mark) (fault : Fault) → StopsAt met a fault → StopsAt met (a ++ b) fault
stops-sooner met a b TooManyDocuments h = passes-sooner met a b start h
stops-sooner met a b (TooManyPieces stream) h = (h.0, passes-sooner met a b (piece stream h.0) h.1)
stops-sooner met a b Memory h = tt
stops-sooner met a b fault h = absurd h

-- ---- answers of calls

pub ok-both : {T E : Type 0} (r : Result T E) (A B C : Type 0) → OnOk r A → OnOk r B → (A → B → C) → OnOk r C
ok-both (Ok x) A B C a b f = f a b
ok-both (Err e) A B C a b f = tt

-- a refusal is passed on
pub passed-on : {T E : Type 0} (r : Result T E) (refusal : E) (Q : E → Type 0) → IsErrAnd r (λ e. e ≡ refusal) → Q refusal → IfErr r Q
passed-on (Ok x) refusal Q h q = tt
passed-on (Err e) refusal Q h q = subst Q (sym h) q

-- a mark that is met
pub met-mark : (is_met : Bool) (mark : Mark) → is_met ≡ true → only_if is_met mark ≡ mark ∷ []
met-mark is_met mark is = ap (λ b. only_if b mark) is

pub met-piece : (is_met : Bool) (stream kind : Stream) (bytes : List ℕ) → is_met ≡ true → stream ≡ kind → only_if is_met (piece stream bytes) ≡ piece kind bytes ∷ []
met-piece is_met stream kind bytes is same = ap (λ b. only_if b (piece stream bytes)) is ∙ ap (λ k. piece k bytes ∷ []) same

pub word-stops : (laws : AddUp) (c : Counting) (met : List Mark) (bytes : List ℕ) (fault : Fault) → IsCounted c met → PieceStops Words c.words bytes fault → StopsAt met (piece Words bytes ∷ []) fault
word-stops laws c met bytes (TooManyPieces stream) counted h = (bytes, subst (λ k. PassesAfter met (piece Words bytes ∷ []) (piece k bytes)) (sym h.0) (word-passes laws c met bytes h.1 h.2 counted))
word-stops laws c met bytes Memory counted h = tt
word-stops laws c met bytes fault counted h = absurd h

pub other-stops : (laws : AddUp) (c : Counting) (met : List Mark) (bytes : List ℕ) (fault : Fault) → IsCounted c met → PieceStops Others c.others bytes fault →
    StopsAt met (piece Others bytes ∷ []) fault
other-stops laws c met bytes (TooManyPieces stream) counted h =
    (bytes, subst (λ k. PassesAfter met (piece Others bytes ∷ []) (piece k bytes)) (sym h.0) (other-passes laws c met bytes h.1 h.2 counted))
other-stops laws c met bytes Memory counted h = tt
other-stops laws c met bytes fault counted h = absurd h

-- ---- what is met with one byte

abbrev pub begin_of : Meeting → List Mark
begin_of m = only_if m.begins start

abbrev pub piece_of : Meeting → List Mark
piece_of m = only_if m.has_piece (piece m.kind m.bytes)

abbrev pub other_of : Meeting → List Mark
other_of m = only_if m.has_other (piece (other_kind m.kind) [])

abbrev pub end_of : Meeting → List Mark
end_of m = only_if m.ends stop

pub piece-is : (m : Meeting) (has_piece : Bool) (kind : Stream) (bytes : List ℕ) → has_piece ≡ m.has_piece → kind ≡ m.kind → bytes ≡ m.bytes → only_if has_piece (piece kind bytes) ≡ piece_of m
piece-is m has_piece kind bytes p k x =
    ap (λ b. only_if b (piece kind bytes)) p ∙ ap (λ s. only_if m.has_piece (piece s bytes)) k ∙ ap (λ (y : List ℕ). only_if m.has_piece (piece m.kind y)) x

pub other-is : (m : Meeting) (has_other : Bool) (other : Stream) → has_other ≡ m.has_other → other ≡ other_kind m.kind → only_if has_other (piece other []) ≡ other_of m
other-is m has_other other o k = ap (λ b. only_if b (piece other [])) o ∙ ap (λ s. only_if m.has_other (piece s [])) k

-- in turn, they are all of them
in-turn : (before a b c d : List Mark) → before ++ (a ++ (b ++ (c ++ d))) ≡ (((before ++ a) ++ b) ++ c) ++ d
in-turn before a b c d = sym (append_assoc ((before ++ a) ++ b) c d ∙ append_assoc (before ++ a) b (c ++ d) ∙ append_assoc before a (b ++ (c ++ d)))

pub in-all : (c : Counting) (m : Meeting) (before : List Mark) → IsCounted c ((((before ++ begin_of m) ++ piece_of m) ++ other_of m) ++ end_of m) → IsCounted c (before ++ marks_of m)
in-all c m before h = subst (IsCounted c) (sym (in-turn before (begin_of m) (piece_of m) (other_of m) (end_of m))) h

pub few-other : (laws : AddUp) (m : Meeting) (before : List Mark) → AreFew (before ++ marks_of m) → AreFew (((before ++ begin_of m) ++ piece_of m) ++ other_of m)
few-other laws m before h = few-front laws (((before ++ begin_of m) ++ piece_of m) ++ other_of m) (end_of m) (subst AreFew (in-turn before (begin_of m) (piece_of m) (other_of m) (end_of m)) h)

pub few-piece : (laws : AddUp) (m : Meeting) (before : List Mark) → AreFew (before ++ marks_of m) → AreFew ((before ++ begin_of m) ++ piece_of m)
few-piece laws m before h = few-front laws ((before ++ begin_of m) ++ piece_of m) (other_of m) (few-other laws m before h)

pub stops-begin : (m : Meeting) (before : List Mark) (fault : Fault) → StopsAt before (begin_of m) fault → StopsAt before (marks_of m) fault
stops-begin m before fault h = stops-sooner before (begin_of m) (piece_of m ++ (other_of m ++ end_of m)) fault h

pub stops-piece : (m : Meeting) (before : List Mark) (fault : Fault) → StopsAt (before ++ begin_of m) (piece_of m) fault → StopsAt before (marks_of m) fault
stops-piece m before fault h = stops-later before (begin_of m) (piece_of m ++ (other_of m ++ end_of m)) fault (stops-sooner (before ++ begin_of m) (piece_of m) (other_of m ++ end_of m) fault h)

pub stops-other : (m : Meeting) (before : List Mark) (fault : Fault) → StopsAt ((before ++ begin_of m) ++ piece_of m) (other_of m) fault → StopsAt before (marks_of m) fault
stops-other m before fault h =
    stops-later before (begin_of m) (piece_of m ++ (other_of m ++ end_of m)) fault
    (stops-later (before ++ begin_of m) (piece_of m) (other_of m ++ end_of m) fault (stops-sooner ((before ++ begin_of m) ++ piece_of m) (other_of m) (end_of m) fault h))
