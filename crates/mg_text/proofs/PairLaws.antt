-- Pieces and pairs, one after the other.
use Rattle.std.proofs.Common.{arith, ◌≡◌, ◌+◌, ◌^◌, ◌≤◌, ◌<◌, ℕ, suc, zero, List, [], ◌∷◌, ◌++◌, length, take, drop}
use Rattle.std.proofs.Common.{get_or, Option, Result, Ok, Err, refl, sym, ◌∙◌, ap, subst, length-append, append-nil, append_assoc, add-one, drop-cons, take-append-drop}
use Rattle.std.proofs.lemmas.Option.{slice_get_within}
use Rattle.std.proofs.lemmas.List.{take_more}
use Rattle.std.proofs.lemmas.Grind.{flat_map-append}
use Rattle.mg_dev.specs.StreamLaws.{grew_first}
use Rattle.mg_dev.specs.Faults.{show_of_put}
use Rattle.mg_dev.specs.declared.device.PutErr.{PutErr}
use Rattle.mg_dev.specs.declared.device.PutErr.TheVariants as put
use Rattle.mg_dev.specs.declared.part_err.PartErr.TheVariants as part
use Rattle.mg_dev.specs.declared.show_err.ShowErr.TheVariants as show
use Rattle.mg_bits.specs.Feed.{Feeding, Device as Seen, Read, ReadsWithin, Calm}
use Rattle.mg_bits.proofs.CallerLemmas.{read_more, read_none, same_told}
use Rattle.mg_defs.specs.Bits.{Bits, Shows}
use Rattle.mg_defs.specs.Codes.{gamma}
use Rattle.mg_defs.specs.CodedText.{StreamCode, TextCode, coded_doc, coded_pair}
use Rattle.mg_defs.specs.Parse.{Pair, parse, text}
use Rattle.mg_defs.specs.Sorted.{number_of}
use Rattle.mg_defs.proofs.FrontLaws.{shows_left, shows_right}
use Rattle.mg_defs.proofs.ParseLaws.{parse-is}
use Rattle.mg_dev.specs.declared.show_err.ShowErr.{ShowErr}
use Rattle.mg_text.specs.Decoding.{Decoded, Ends, Gathering, Gathers, IsIn, IsPutCaused, Keeps, PairIn, PairsIn, Shown, Stopped, coded_pairs}
use Rattle.mg_text.proofs.Shows.{shown_held, shown_prefix}
use Rattle.mg_text.proofs.Steps.{decoded_more, stopped_more, stopped_wider}

-- ---- a piece

pub piece_number : (code : StreamCode) (piece : List ℕ) → IsIn code piece → number_of code.pieces piece < length code.pieces
piece_number code piece is = slice_get_within code.pieces (number_of code.pieces piece) piece is

-- a piece was refused before it was read
pub piece_stopped : {f0 f1 : Feeding} {d0 d1 : Seen} {from to : ℕ} {w0 w1 : Option (List ℕ)} {b : Gathering} (bytes piece : List ℕ) {most : ℕ} → Shown w0 w1 b bytes most →
    ReadsWithin f0 f1 d0 d1 from to → Stopped f0 f1 d0 d1 from to w0 w1 (bytes ++ piece)
piece_stopped bytes piece shown pages = record { pages = pages; grew = grew_first _ _ bytes piece (shown_prefix _ _ _ bytes shown) }

-- a refused put
pub put_refused : (refusal : PutErr) (all part : Type 0) → part → Ends (Err (show_of_put refusal)) all part
put_refused put.Failed all p h = h
put_refused put.Memory all p h = h

-- the piece that was read is put: it may come, so it is not bad
pub piece_put : (r : Result (Unit {0}) ShowErr) {f0 f1 : Feeding} {d0 d1 : Seen} {from to place : ℕ} (f g l m : ℕ) (w0 w1 w2 : Option (List ℕ)) (b b_now : Gathering)
    (bytes piece : List ℕ) {most : ℕ} → place ≡ to → Read f0 f1 d0 d1 from to → Shown w0 w1 b bytes most → length (bytes ++ piece) ≤ most →
    IsPutCaused r b.left (length piece) f g l m → Gathers r w0 w2 b_now (bytes ++ piece) most →
    Ends r (Decoded f0 f1 d0 d1 from to place w0 w2 b_now (bytes ++ piece) most) (Stopped f0 f1 d0 d1 from to w0 w2 (bytes ++ piece))
piece_put (Ok done) {f0} {f1} {d0} {d1} {from} {to} {place} f g l m w0 w1 w2 b b_now bytes piece {most} at read shown fits cause gathers =
    record { at_end = at; read = read; shown = gathers }
piece_put (Err (show.Part part.Device)) {f0} {f1} {d0} {d1} {from} {to} {place} f g l m w0 w1 w2 b b_now bytes piece {most} at read shown fits cause gathers = absurd cause
piece_put (Err (show.Part part.Memory)) {f0} {f1} {d0} {d1} {from} {to} {place} f g l m w0 w1 w2 b b_now bytes piece {most} at read shown fits cause gathers = absurd cause
piece_put (Err (show.Part (part.Bad bad))) {f0} {f1} {d0} {d1} {from} {to} {place} f g l m w0 w1 w2 b b_now bytes piece {most} at read shown fits cause gathers =
    absurd (omega (arith, length-append bytes piece, shown.rest, fits, cause))
piece_put (Err show.Write) {f0} {f1} {d0} {d1} {from} {to} {place} f g l m w0 w1 w2 b b_now bytes piece {most} at read shown fits cause gathers =
    record { pages = read.pages; grew = gathers }
piece_put (Err show.Memory) {f0} {f1} {d0} {d1} {from} {to} {place} f g l m w0 w1 w2 b b_now bytes piece {most} at read shown fits cause gathers =
    record { pages = read.pages; grew = gathers }

-- ---- one step behind another

pub shows_next : (old new : Feeding) (before now : Seen) (place next : ℕ) (x y : Bits) → Calm old new before now → next ≡ place + length x →
    Shows (old.source before.files) place (x ++ y) → Shows (new.source now.files) next y
shows_next old new before now place next x y calm at shows = subst (λ t. Shows t next y) (sym (same_told old new before now calm)) (shows_right (old.source before.files) place next x y at shows)

pub both_decoded : (f0 f1 f2 : Feeding) (d0 d1 d2 : Seen) (a p q : ℕ) (x y : Bits) (w0 w1 w2 : Option (List ℕ)) (b1 b2 : Gathering) (bytes one two : List ℕ) {most : ℕ} → 0 < f0.page →
    Decoded f0 f1 d0 d1 a (a + length x) p w0 w1 b1 (bytes ++ one) most → Decoded f1 f2 d1 d2 p (p + length y) q w0 w2 b2 (bytes ++ one ++ two) most →
    Decoded f0 f2 d0 d2 a (a + length (x ++ y)) q w0 w2 b2 (bytes ++ (one ++ two)) most
both_decoded f0 f1 f2 d0 d1 d2 a p q x y w0 w1 w2 b1 b2 bytes one two {most} some first second =
    let at : p + length y ≡ a + length (x ++ y) = omega (arith, first.at_end, length-append x y) in
    let moved : Decoded f1 f2 d1 d2 (a + length x) (a + length (x ++ y)) q w0 w2 b2 (bytes ++ (one ++ two)) most =
    subst (λ b. Decoded f1 f2 d1 d2 (a + length x) (a + length (x ++ y)) q w0 w2 b2 b most) (append_assoc bytes one two)
    (subst (λ n. Decoded f1 f2 d1 d2 n (a + length (x ++ y)) q w0 w2 b2 (bytes ++ one ++ two) most) first.at_end
    (subst (λ n. Decoded f1 f2 d1 d2 p n q w0 w2 b2 (bytes ++ one ++ two) most) at second)) in
    decoded_more f0 f1 f2 d0 d1 d2 a (a + length x) (a + length (x ++ y)) p q w0 w1 w2 b1 b2 (bytes ++ one) (bytes ++ (one ++ two)) some (omega arith)
    (omega (arith, length-append x y)) first moved

pub second_stopped : (f0 f1 f2 : Feeding) (d0 d1 d2 : Seen) (a p : ℕ) (x y : Bits) (w0 w1 w2 : Option (List ℕ)) (b1 : Gathering) (bytes one two : List ℕ) {most : ℕ} → 0 < f0.page →
    Decoded f0 f1 d0 d1 a (a + length x) p w0 w1 b1 (bytes ++ one) most → Stopped f1 f2 d1 d2 p (p + length y) w0 w2 (bytes ++ one ++ two) →
    Stopped f0 f2 d0 d2 a (a + length (x ++ y)) w0 w2 (bytes ++ (one ++ two))
second_stopped f0 f1 f2 d0 d1 d2 a p x y w0 w1 w2 b1 bytes one two {most} some first second =
    let at : p + length y ≡ a + length (x ++ y) = omega (arith, first.at_end, length-append x y) in
    let moved : Stopped f1 f2 d1 d2 (a + length x) (a + length (x ++ y)) w0 w2 (bytes ++ (one ++ two)) =
    subst (λ b. Stopped f1 f2 d1 d2 (a + length x) (a + length (x ++ y)) w0 w2 b) (append_assoc bytes one two)
    (subst (λ n. Stopped f1 f2 d1 d2 n (a + length (x ++ y)) w0 w2 (bytes ++ one ++ two)) first.at_end
    (subst (λ n. Stopped f1 f2 d1 d2 p n w0 w2 (bytes ++ one ++ two)) at second)) in
    stopped_more f0 f1 f2 d0 d1 d2 a (a + length x) (a + length (x ++ y)) p w0 w1 w2 b1 (bytes ++ one) (bytes ++ (one ++ two)) some (omega arith) (omega (arith, length-append x y)) first moved

-- of two pieces that may come the first may, and the second behind it
pub first_fits : (bytes one two : List ℕ) (most : ℕ) → length (bytes ++ (one ++ two)) ≤ most → length (bytes ++ one) ≤ most
first_fits bytes one two most fits = omega (arith, length-append bytes (one ++ two), length-append one two, length-append bytes one, fits)

pub second_fits : (bytes one two : List ℕ) (most : ℕ) → length (bytes ++ (one ++ two)) ≤ most → length (bytes ++ one ++ two) ≤ most
second_fits bytes one two most fits = omega (arith, ap length (append_assoc bytes one two), fits)

pub first_stopped : (f0 f1 : Feeding) (d0 d1 : Seen) (a : ℕ) (x y : Bits) (w0 w1 : Option (List ℕ)) (bytes one two : List ℕ) → 0 < f0.page →
    Stopped f0 f1 d0 d1 a (a + length x) w0 w1 (bytes ++ one) → Stopped f0 f1 d0 d1 a (a + length (x ++ y)) w0 w1 (bytes ++ (one ++ two))
first_stopped f0 f1 d0 d1 a x y w0 w1 bytes one two some stopped =
    subst (Stopped f0 f1 d0 d1 a (a + length (x ++ y)) w0 w1) (append_assoc bytes one two)
    (stopped_wider f0 f1 d0 d1 a (a + length x) (a + length (x ++ y)) w0 w1 (bytes ++ one) two some (omega arith) (omega (arith, length-append x y)) stopped)

-- both pieces of a pair were read and are held
pub held_decoded : (f0 f1 f2 : Feeding) (d : Seen) (a p q : ℕ) (x y : Bits) (before sink : Option (List ℕ)) (b b_now : Gathering) (bytes found1 found2 one two : List ℕ) {most : ℕ} → 0 < f0.page →
    p ≡ a + length x → Read f0 f1 d d a (a + length x) → q ≡ p + length y → Read f1 f2 d d p (p + length y) → found1 ≡ one → found2 ≡ two →
    Keeps b b_now (found1 ++ found2) → Shown before sink b bytes most →
    Decoded f0 f2 d d a (a + length (x ++ y)) q before sink b_now (bytes ++ (one ++ two)) most
held_decoded f0 f1 f2 d a p q x y before sink b b_now bytes found1 found2 one two {most} some at1 read1 at2 read2 is1 is2 keeps shown =
    let to : p + length y ≡ a + length (x ++ y) = omega (arith, at1, length-append x y) in
    let moved : Read f1 f2 d d (a + length x) (a + length (x ++ y)) = subst (λ n. Read f1 f2 d d n (a + length (x ++ y))) at1 (subst (λ n. Read f1 f2 d d p n) to read2) in
    record {
      at_end = omega (arith, at1, at2, length-append x y);
      read = read_more f0 f1 f2 d d d a (a + length x) (a + length (x ++ y)) some (omega arith) (omega (arith, length-append x y)) read1 moved;
      shown = shown_held before sink b b_now bytes (one ++ two) shown (subst (Keeps b b_now) (ap (λ l. l ++ found2) is1 ∙ ap (λ l. one ++ l) is2) keeps);
    }

-- ---- pairs in a list

pub text_append : (ps qs : List Pair) → text (ps ++ qs) ≡ text ps ++ text qs
text_append [] qs = refl
text_append (p ∷ ps) qs = ap (λ t. p.word ++ (p.other ++ t)) (text_append ps qs) ∙ ap (λ t. p.word ++ t) (sym (append_assoc p.other (text ps) (text qs)))
    ∙ sym (append_assoc p.word (p.other ++ text ps) (text qs))

-- the pair that stands next
pub record NextPair (code : TextCode) (ps : List Pair) (i : ℕ) : Type 0 where
  pub pair : Pair
  pub there : PairIn code pair
  pub rest : List Pair
  pub whole : ps ≡ take i ps ++ pair ∷ rest
  pub more : take (i + 1) ps ≡ take i ps ++ pair ∷ []

no_pair : Pair
no_pair = record { word = []; other = [] }

pair_there : (code : TextCode) (ps : List Pair) (i : ℕ) → PairsIn code ps → i < length ps → PairIn code (get_or ps i no_pair)
pair_there code [] i all lt = absurd (omega arith)
pair_there code (p ∷ ps) zero all lt = all.0
pair_there code (p ∷ ps) (suc i) all lt = pair_there code ps i all.1 (omega (arith, lt))

pub next_pair : (code : TextCode) (ps : List Pair) (i : ℕ) → PairsIn code ps → i < length ps → NextPair code ps i
next_pair code ps i all lt = record {
  pair = get_or ps i no_pair;
  there = pair_there code ps i all lt;
  rest = drop (i + 1) ps;
  whole = sym (take-append-drop i ps) ∙ ap (λ l. take i ps ++ l) (rw (add-one) (drop-cons ps i no_pair lt));
  more = take_more ps i no_pair lt;
}

pub bits_whole : (code : TextCode) (ps : List Pair) (i : ℕ) → (next : NextPair code ps i) →
    coded_pairs code ps ≡ coded_pairs code (take i ps) ++ (coded_pair code next.pair ++ coded_pairs code next.rest)
bits_whole code ps i next = ap (coded_pairs code) next.whole ∙ flat_map-append (coded_pair code) (take i ps) (next.pair ∷ next.rest)

pub bits_more : (code : TextCode) (ps : List Pair) (i : ℕ) → (next : NextPair code ps i) → coded_pairs code (take (i + 1) ps) ≡ coded_pairs code (take i ps) ++ coded_pair code next.pair
bits_more code ps i next = ap (coded_pairs code) next.more ∙ flat_map-append (coded_pair code) (take i ps) (next.pair ∷ [])
    ∙ ap (λ b. coded_pairs code (take i ps) ++ b) (append-nil (coded_pair code next.pair))

pub text_whole : (code : TextCode) (ps : List Pair) (i : ℕ) → (next : NextPair code ps i) → text ps ≡ text (take i ps) ++ ((next.pair.word ++ next.pair.other) ++ text next.rest)
text_whole code ps i next = ap text next.whole ∙ text_append (take i ps) (next.pair ∷ next.rest) ∙ ap (λ t. text (take i ps) ++ t) (sym (append_assoc next.pair.word next.pair.other (text next.rest)))

pub text_more : (code : TextCode) (ps : List Pair) (i : ℕ) → (next : NextPair code ps i) → text (take (i + 1) ps) ≡ text (take i ps) ++ (next.pair.word ++ next.pair.other)
text_more code ps i next = ap text next.more ∙ text_append (take i ps) (next.pair ∷ []) ∙ ap (λ t. text (take i ps) ++ (next.pair.word ++ t)) (append-nil next.pair.other)

-- the next pair's bits stand at the reader's place, within those of all pairs
pub pair_shows : (f0 f1 : Feeding) (d0 d1 : Seen) (a place : ℕ) (code : TextCode) (ps : List Pair) (i : ℕ) → (next : NextPair code ps i) → Calm f0 f1 d0 d1 →
    place ≡ a + length (coded_pairs code (take i ps)) →
    Shows (f0.source d0.files) a (coded_pairs code ps) → Shows (f1.source d1.files) place (coded_pair code next.pair)
pair_shows f0 f1 d0 d1 a place code ps i next calm at shows =
    shows_left (f1.source d1.files) place (coded_pair code next.pair) (coded_pairs code next.rest)
    (shows_next f0 f1 d0 d1 a place (coded_pairs code (take i ps)) (coded_pair code next.pair ++ coded_pairs code next.rest) calm at
    (subst (Shows (f0.source d0.files) a) (bits_whole code ps i next) shows))

pub pair_small : (a place : ℕ) (code : TextCode) (ps : List Pair) (i : ℕ) → (next : NextPair code ps i) → place ≡ a + length (coded_pairs code (take i ps)) →
    a + length (coded_pairs code ps) ≤ 2 ^ 63 → place + length (coded_pair code next.pair) ≤ 2 ^ 63
pair_small a place code ps i next at small =
    let long : length (coded_pairs code ps) ≡ length (coded_pairs code (take i ps)) + (length (coded_pair code next.pair) + length (coded_pairs code next.rest)) =
    ap length (bits_whole code ps i next) ∙ length-append (coded_pairs code (take i ps)) (coded_pair code next.pair ++ coded_pairs code next.rest)
    ∙ ap (λ n. length (coded_pairs code (take i ps)) + n) (length-append (coded_pair code next.pair) (coded_pairs code next.rest)) in
    omega (arith, long, at, small)

-- one pair more was decoded
pub pairs_more : (f0 f1 f2 : Feeding) (d0 d1 d2 : Seen) (a p q : ℕ) (code : TextCode) (ps : List Pair) (i : ℕ) (w0 w1 w2 : Option (List ℕ))
    (b1 b2 : Gathering) (bytes : List ℕ) {most : ℕ} → 0 < f0.page → (next : NextPair code ps i) →
    Decoded f0 f1 d0 d1 a (a + length (coded_pairs code (take i ps))) p w0 w1 b1 (bytes ++ text (take i ps)) most →
    Decoded f1 f2 d1 d2 p (p + length (coded_pair code next.pair)) q w0 w2 b2 (bytes ++ text (take i ps) ++ (next.pair.word ++ next.pair.other)) most →
    Decoded f0 f2 d0 d2 a (a + length (coded_pairs code (take (i + 1) ps))) q w0 w2 b2 (bytes ++ text (take (i + 1) ps)) most
pairs_more f0 f1 f2 d0 d1 d2 a p q code ps i w0 w1 w2 b1 b2 bytes {most} some next first second =
    let both = both_decoded f0 f1 f2 d0 d1 d2 a p q (coded_pairs code (take i ps)) (coded_pair code next.pair) w0 w1 w2 b1 b2 bytes (text (take i ps))
    (next.pair.word ++ next.pair.other) some first second in
    subst (λ t. Decoded f0 f2 d0 d2 a (a + length (coded_pairs code (take (i + 1) ps))) q w0 w2 b2 (bytes ++ t) most) (sym (text_more code ps i next))
    (subst (λ b. Decoded f0 f2 d0 d2 a (a + length b) q w0 w2 b2 (bytes ++ (text (take i ps) ++ (next.pair.word ++ next.pair.other))) most) (sym (bits_more code ps i next)) both)

-- the next pair may come where all pairs may
pub pair_fits : (code : TextCode) (ps : List Pair) (i : ℕ) (bytes : List ℕ) (most : ℕ) → (next : NextPair code ps i) → length (bytes ++ text ps) ≤ most →
    length (bytes ++ text (take i ps) ++ (next.pair.word ++ next.pair.other)) ≤ most
pair_fits code ps i bytes most next fits =
    let pair = next.pair.word ++ next.pair.other in
    omega (
      arith,
      ap length (text_whole code ps i next),
      length-append (text (take i ps)) (pair ++ text next.rest),
      length-append pair (text next.rest),
      length-append bytes (text ps),
      length-append bytes (text (take i ps)),
      length-append (bytes ++ text (take i ps)) pair,
      fits,
    )

-- a pair was refused
pub pairs_stopped : (f0 f1 f2 : Feeding) (d0 d1 d2 : Seen) (a p : ℕ) (code : TextCode) (ps : List Pair) (i : ℕ) (w0 w1 w2 : Option (List ℕ))
    (b1 : Gathering) (bytes : List ℕ) {most : ℕ} → 0 < f0.page → (next : NextPair code ps i) →
    Decoded f0 f1 d0 d1 a (a + length (coded_pairs code (take i ps))) p w0 w1 b1 (bytes ++ text (take i ps)) most →
    Stopped f1 f2 d1 d2 p (p + length (coded_pair code next.pair)) w0 w2 (bytes ++ text (take i ps) ++ (next.pair.word ++ next.pair.other)) →
    Stopped f0 f2 d0 d2 a (a + length (coded_pairs code ps)) w0 w2 (bytes ++ text ps)
pairs_stopped f0 f1 f2 d0 d1 d2 a p code ps i w0 w1 w2 b1 bytes {most} some next first second =
    let one = text (take i ps) in
    let two = next.pair.word ++ next.pair.other in
    let both : Stopped f0 f2 d0 d2 a (a + length (coded_pairs code (take i ps) ++ coded_pair code next.pair)) w0 w2 (bytes ++ (one ++ two)) =
    second_stopped f0 f1 f2 d0 d1 d2 a p (coded_pairs code (take i ps)) (coded_pair code next.pair) w0 w1 w2 b1 bytes one two some first second in
    let wide : Stopped f0 f2 d0 d2 a (a + length ((coded_pairs code (take i ps) ++ coded_pair code next.pair) ++ coded_pairs code next.rest)) w0 w2 (bytes ++ ((one ++ two) ++ text next.rest)) =
    first_stopped f0 f2 d0 d2 a (coded_pairs code (take i ps) ++ coded_pair code next.pair) (coded_pairs code next.rest) w0 w2 bytes (one ++ two) (text next.rest) some both in
    subst (λ t. Stopped f0 f2 d0 d2 a (a + length (coded_pairs code ps)) w0 w2 (bytes ++ t)) (append_assoc one two (text next.rest) ∙ sym (text_whole code ps i next))
    (subst (λ b. Stopped f0 f2 d0 d2 a (a + length b) w0 w2 (bytes ++ ((one ++ two) ++ text next.rest)))
    (append_assoc (coded_pairs code (take i ps)) (coded_pair code next.pair) (coded_pairs code next.rest) ∙ sym (bits_whole code ps i next)) wide)

pub no_pairs : (f : Feeding) (d : Seen) (a : ℕ) (w0 w1 : Option (List ℕ)) (b : Gathering) (bytes : List ℕ) {most : ℕ} → Shown w0 w1 b bytes most →
    Decoded f f d d a (a + 0) a w0 w1 b (bytes ++ []) most
no_pairs f d a w0 w1 b bytes {most} shown = record {
  at_end = omega arith;
  read = subst (λ n. Read f f d d a n) (omega arith) (read_none f d a);
  shown = subst (λ l. Shown w0 w1 b l most) (sym (append-nil bytes)) shown;
}

-- ---- a document

pub parse_text : (doc : List ℕ) → text (parse doc) ≡ doc
parse_text doc = (parse-is doc).whole

-- its head was read and its pairs decoded
pub doc_decoded : (f0 f1 f2 : Feeding) (d0 d1 d2 : Seen) (a p q : ℕ) (code : TextCode) (doc : List ℕ) (w0 w1 w2 : Option (List ℕ))
    (b1 b2 : Gathering) (bytes : List ℕ) {most : ℕ} → 0 < f0.page → p ≡ a + length (gamma (length (parse doc) + 1)) →
    Shown w0 w1 b1 bytes most → Read f0 f1 d0 d1 a (a + length (gamma (length (parse doc) + 1))) →
    Decoded f1 f2 d1 d2 p (p + length (coded_pairs code (parse doc))) q w0 w2 b2 (bytes ++ text (parse doc)) most →
    Decoded f0 f2 d0 d2 a (a + length (coded_doc code doc)) q w0 w2 b2 (bytes ++ doc) most
doc_decoded f0 f1 f2 d0 d1 d2 a p q code doc w0 w1 w2 b1 b2 bytes {most} some at shown head pairs =
    let first : Decoded f0 f1 d0 d1 a (a + length (gamma (length (parse doc) + 1))) p w0 w1 b1 bytes most = record { at_end = at; read = head; shown = shown } in
    subst (λ t. Decoded f0 f2 d0 d2 a (a + length (coded_doc code doc)) q w0 w2 b2 (bytes ++ t) most) (parse_text doc)
    (both_decoded f0 f1 f2 d0 d1 d2 a p q (gamma (length (parse doc) + 1)) (coded_pairs code (parse doc)) w0 w1 w2 b1 b2 [] bytes (text (parse doc)) some first pairs)

-- its head was read, and its pairs were refused
pub doc_stopped : (f0 f1 f2 : Feeding) (d0 d1 d2 : Seen) (a p : ℕ) (code : TextCode) (doc : List ℕ) (w0 w1 w2 : Option (List ℕ)) (b1 : Gathering) (bytes : List ℕ) {most : ℕ} →
    0 < f0.page → p ≡ a + length (gamma (length (parse doc) + 1)) →
    Shown w0 w1 b1 bytes most → Read f0 f1 d0 d1 a (a + length (gamma (length (parse doc) + 1))) → Stopped f1 f2 d1 d2 p (p + length (coded_pairs code (parse doc))) w0 w2 (bytes ++ text (parse doc)) →
    Stopped f0 f2 d0 d2 a (a + length (coded_doc code doc)) w0 w2 (bytes ++ doc)
doc_stopped f0 f1 f2 d0 d1 d2 a p code doc w0 w1 w2 b1 bytes {most} some at shown head pairs =
    let first : Decoded f0 f1 d0 d1 a (a + length (gamma (length (parse doc) + 1))) p w0 w1 b1 bytes most = record { at_end = at; read = head; shown = shown } in
    subst (λ t. Stopped f0 f2 d0 d2 a (a + length (coded_doc code doc)) w0 w2 (bytes ++ t)) (parse_text doc)
    (second_stopped f0 f1 f2 d0 d1 d2 a p (gamma (length (parse doc) + 1)) (coded_pairs code (parse doc)) w0 w1 w2 b1 [] bytes (text (parse doc)) some first pairs)

-- its head was refused
pub head_stopped : (f0 f1 : Feeding) (d0 d1 : Seen) (a : ℕ) (code : TextCode) (doc : List ℕ) (w0 w1 : Option (List ℕ)) (b : Gathering) (bytes : List ℕ) {most : ℕ} → 0 < f0.page →
    Shown w0 w1 b bytes most → ReadsWithin f0 f1 d0 d1 a (a + length (gamma (length (parse doc) + 1))) → Stopped f0 f1 d0 d1 a (a + length (coded_doc code doc)) w0 w1 (bytes ++ doc)
head_stopped f0 f1 d0 d1 a code doc w0 w1 b bytes {most} some shown pages =
    let first : Stopped f0 f1 d0 d1 a (a + length (gamma (length (parse doc) + 1))) w0 w1 bytes = record { pages = pages; grew = shown_prefix w0 w1 b bytes shown } in
    first_stopped f0 f1 d0 d1 a (gamma (length (parse doc) + 1)) (coded_pairs code (parse doc)) w0 w1 [] bytes doc some first
