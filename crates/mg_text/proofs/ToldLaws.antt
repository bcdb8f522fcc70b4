-- What Text and Places tell of a document, by what stood where it was read.
use Rattle.std.proofs.Common.{◌≡◌, ◌-◌, ◌*◌, ◌≤◌, ◌++◌, ℕ, List, [], drop, Option, IsSome, None, Some, Result, OnOk, Ok, Err, sym, ◌∙◌, ap, subst}
use Rattle.std.specs.Prelude.{slice_get}
use Rattle.std.proofs.lemmas.Option.{get_or_from_slice_get, slice_get_within}
use Rattle.mg_dev.specs.Files.{Files, bytes_at}
use Rattle.mg_dev.specs.declared.show_err.ShowErr.{ShowErr}
use Rattle.mg_bits.specs.Feed.{Device as Seen, Feeding, told_at}
use Rattle.mg_bits.specs.Pages.{Paging, feeding_of}
use Rattle.mg_bits.proofs.CallerLemmas.{calm_none}
use Rattle.mg_defs.specs.Bits.{Begins, Bits, FromPlace, bits_of}
use Rattle.mg_defs.specs.Canon.{codeword}
use Rattle.mg_defs.specs.CodedText.{StreamCode, TextCode, codeword_of}
use Rattle.mg_defs.specs.Means.{IsStreamCode}
use Rattle.mg_defs.specs.Parse.{Pair}
use Rattle.mg_defs.specs.Sorted.{number_of}
use Rattle.mg_defs.proofs.SortedLaws.{number-at}
use Rattle.mg_dev.specs.Moments.{SinkAt}
use Rattle.mg_text.specs.Decoding.{Came, DocumentCame, DocumentSent, ForShown, Gathering, Gathers, IsIn, Keeps, Moment, PairCame, PairsIn, PieceCame, PieceStood, Stood, numbered_pairs}
use Rattle.mg_text.specs.Places.{NumberStands, place_width}
use Rattle.mg_text.specs.Reading.{GatheredAll, TellsDocument, TellsPairs, TextReading, WroteAll}
use Rattle.mg_text.proofs.CameLaws.{stood_both}
use Rattle.mg_text.proofs.Shows.{shown_held}

-- ---- a piece

-- a code that was answered stood there
pub from_code : (told : Option (List ℕ)) (place : ℕ) (taken : Type 0) (code : Bits) → FromPlace told place (λ bits. taken × Begins code bits) → FromPlace told place (Begins code)
from_code None place taken code h = tt
from_code (Some bytes) place taken code h = h.1

-- the piece of a symbol has that symbol
pub symbol_is : (code : StreamCode) (symbol : ℕ) (piece : List ℕ) → IsStreamCode code → slice_get code.pieces symbol ≡ Some piece → number_of code.pieces piece ≡ symbol
symbol_is code symbol piece is there =
    subst (λ p. number_of code.pieces p ≡ symbol) (get_or_from_slice_get code.pieces symbol piece [] there)
    (number-at code.pieces symbol [] is.rising (slice_get_within code.pieces symbol piece there))

-- the codeword of a symbol is that of its piece
pub piece_stood : (code : StreamCode) (symbol : ℕ) (piece : List ℕ) {fact : Bits → List ℕ → Type 0} → IsStreamCode code → slice_get code.pieces symbol ≡ Some piece →
    fact (codeword code.lengths symbol) piece → PieceStood code fact
piece_stood code symbol piece {fact} is there h =
    let same = symbol_is code symbol piece is there in
    record { piece = piece; there = ap (slice_get code.pieces) same ∙ there; came = subst (λ n. fact (codeword code.lengths n) piece) (sym same) h }

-- the piece that was read was put
pub piece_came : (code : StreamCode) (symbol : ℕ) (piece : List ℕ) (r : Result (Unit {0}) ShowErr) (a c : Moment) → IsStreamCode code → slice_get code.pieces symbol ≡ Some piece →
    Stood (codeword code.lengths symbol) a.feed a.device a.place c.place →
    ForShown a.sink.written a.held (λ before first most. Gathers r before c.sink.written c.held (first ++ piece) most) → OnOk r (PieceCame code a c)
piece_came code symbol piece (Ok done) a c is there stood put = piece_stood code symbol piece {fact = λ bits found. Came bits found a c} is there (record { stood = stood; shown = put })
piece_came code symbol piece (Err refusal) a c is there stood put = tt

-- both pieces of a pair were read and are held
pub held_came : (code : TextCode) {f0 f1 : Feeding} (f2 : Feeding) (d : Seen) (sink : SinkAt) {p q s : ℕ} {b b_now : Gathering} (found1 found2 one two : List ℕ) → f1 ≡ f0 →
    IsIn code.words one → IsIn code.others two → one ≡ found1 → two ≡ found2 → Stood (codeword_of code.words one) f0 d p q → Stood (codeword_of code.others two) f1 d q s →
    Keeps b b_now (found1 ++ found2) →
    PairCame code (record { feed = f0; place = p; device = d; held = b; sink = sink }) (record { feed = f2; place = s; device = d; held = b_now; sink = sink })
held_came code {f0} {f1} f2 d sink {p} {q} {s} {b} {b_now} found1 found2 one two feed in_words in_others is1 is2 first second keeps = record {
  pair = record { word = one; other = two };
  there = record { word = in_words; other = in_others };
  came = record {
    stood = stood_both (codeword_of code.words one) (codeword_of code.others two) (calm_none f0 d) first (subst (λ f. Stood (codeword_of code.others two) f d q s) feed second);
    shown = λ before sofar most shown. shown_held before sink.written b b_now sofar (one ++ two) shown
        (subst (Keeps b b_now) (ap (λ l. l ++ found2) (sym is1) ∙ ap (λ l. one ++ l) (sym is2)) keeps);
  };
}

-- ---- a document

from_told : (files : Option Files) (name : List ℕ) (place from : ℕ) (bits : Bits) → IsSome files → place ≡ 8 * from → FromPlace (told_at files name) place (Begins bits) →
    Begins bits (drop (8 * from) (bits_of (bytes_at files name)))
from_told None name place from bits told at h = absurd cc
from_told (Some files) name place from bits told at h = rw (← at) h

-- the pairs that stood at the place of a document
pub pairs_told : (r : TextReading) {files : Option Files} {number from place next : ℕ} {feed : Paging} (d : Seen) → IsSome files → d.files ≡ files → place ≡ 8 * from → feed ≡ r.text →
    NumberStands (place_width r.version) (number - 1) from (bytes_at files r.places.name) → from ≤ r.size → (pairs : List Pair) → PairsIn r.code pairs →
    Stood (numbered_pairs r.code pairs) (feeding_of 4096 feed) d place next → TellsPairs r files number pairs
pairs_told r {files} {number} {from} {place} {next} {feed} d told same at fed stands within pairs all stood =
    let bits = numbered_pairs r.code pairs in
    let here : FromPlace (told_at files r.text.name) place (Begins bits) = subst (λ (f : Paging). FromPlace (told_at files f.name) place (Begins bits)) fed
    (subst (λ (f : Option Files). FromPlace (told_at f feed.name) place (Begins bits)) same stood.bits_are) in
    record { place = from; place_stands = stands; within = within; there = all; bits_are = from_told files r.text.name place from bits told at here }

-- they went to the sink
pub sent_told : (result : Result (Unit {0}) ShowErr) (r : TextReading) (files : Option Files) (number : ℕ) (a b : Moment) →
    ((pairs : List Pair) → PairsIn r.code pairs → Stood (numbered_pairs r.code pairs) a.feed a.device a.place b.place → TellsPairs r files number pairs) →
    OnOk result (DocumentSent r.code a b) → OnOk result (TellsDocument r files number (WroteAll a.sink.written b.sink.written))
sent_told (Ok done) r files number a b tells came = record { pairs = came.pairs; told = tells came.pairs came.there came.came.stood; is = came.came.told }
sent_told (Err refusal) r files number a b tells came = tt

-- they were shown or are held
pub kept_told : (result : Result (Unit {0}) ShowErr) (r : TextReading) (files : Option Files) (number : ℕ) (a b : Moment) →
    ((pairs : List Pair) → PairsIn r.code pairs → Stood (numbered_pairs r.code pairs) a.feed a.device a.place b.place → TellsPairs r files number pairs) →
    OnOk result (DocumentCame r.code a b) → OnOk result (TellsDocument r files number (GatheredAll a.sink.written b.sink.written a.held b.held))
kept_told (Ok done) r files number a b tells came = record { pairs = came.pairs; told = tells came.pairs came.there came.came.stood; is = came.came.shown }
kept_told (Err refusal) r files number a b tells came = tt
