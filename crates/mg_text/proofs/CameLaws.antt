-- What stood for the bytes and symbols that came, one step behind another.
use Rattle.std.proofs.Common.{arith, ◌≡◌, ◌+◌, ◌++◌, ℕ, List, [], ◌∷◌, length, drop, Option, None, Some, Result, Ok, Err, refl, sym, ◌∙◌, ap, subst, length-append, append-nil, append_assoc, drop-drop}
use Rattle.std.specs.Prelude.{OnOk}
use Rattle.std.proofs.lemmas.Grind.{flat_map-append}
use Rattle.mg_dev.specs.Streams.{AfterPut}
use Rattle.mg_dev.specs.declared.device.PutErr.{PutErr}
use Rattle.mg_bits.specs.Feed.{Calm, Feeding, Device as Seen}
use Rattle.mg_bits.proofs.CallerLemmas.{same_told}
use Rattle.mg_defs.specs.Bits.{Begins, Bits, FromPlace, bits_of}
use Rattle.mg_defs.specs.Codes.{gamma}
use Rattle.mg_defs.specs.CodedText.{TextCode, codeword_of, coded_pair}
use Rattle.mg_defs.specs.Parse.{Pair, text}
use Rattle.mg_defs.proofs.FrontLaws.{begins_both}
use Rattle.mg_text.specs.Decoding.{Came, DocumentCame, DocumentSent, ForShown, Moment, PairCame, PairIn, PairsCame, PairsIn, PieceCame, Shown, Stood, coded_pairs}
use Rattle.mg_text.proofs.PairLaws.{text_append}
use Rattle.mg_text.proofs.Shows.{shown_none}

-- what an answer says of `Ok`
pub on_ok : {E : Type 0} (r : Result (Unit {0}) E) (p : Type 0) → p → OnOk r p
on_ok (Ok done) p h = h
on_ok (Err refusal) p h = tt

pub on_ok_map : {E : Type 0} (r : Result (Unit {0}) E) (p q : Type 0) → (p → q) → OnOk r p → OnOk r q
on_ok_map (Ok done) p q f h = f h
on_ok_map (Err refusal) p q f h = tt

-- ---- bits

from_none : (told : Option (List ℕ)) (place : ℕ) → FromPlace told place (Begins [])
from_none None place = tt
from_none (Some bytes) place = refl

from_both : (told : Option (List ℕ)) (a p : ℕ) (x y : Bits) → p ≡ a + length x → FromPlace told a (Begins x) → FromPlace told p (Begins y) → FromPlace told a (Begins (x ++ y))
from_both None a p x y at one two = tt
from_both (Some bytes) a p x y at one two =
    let behind : Begins y (drop (length x) (drop a (bits_of bytes))) = rw drop-drop (rw at at two) in
    begins_both x y (drop a (bits_of bytes)) one behind

-- one code stood behind another
pub stood_both : {f0 f1 : Feeding} {d0 d1 : Seen} {a p q : ℕ} (x y : Bits) → Calm f0 f1 d0 d1 → Stood x f0 d0 a p → Stood y f1 d1 p q → Stood (x ++ y) f0 d0 a q
stood_both {f0} {f1} {d0} {d1} {a} {p} {q} x y calm one two = record {
  bits_are = from_both (f0.source d0.files) a p x y one.behind one.bits_are (subst (λ t. FromPlace t p (Begins y)) (same_told f0 f1 d0 d1 calm) two.bits_are);
  behind = omega (arith, one.behind, two.behind, length-append x y);
}

-- no bit was asked for
pub stood_none : (f : Feeding) (d : Seen) (place : ℕ) → Stood [] f d place place
stood_none f d place = record { bits_are = from_none (f.source d.files) place; behind = omega arith }

-- ---- pairs

pub coded_more : (code : TextCode) (ps : List Pair) (p : Pair) → coded_pairs code (ps ++ p ∷ []) ≡ coded_pairs code ps ++ coded_pair code p
coded_more code ps p = flat_map-append (coded_pair code) ps (p ∷ []) ∙ ap (λ b. coded_pairs code ps ++ b) (append-nil (coded_pair code p))

pub joined_more : (ps : List Pair) (p : Pair) → text (ps ++ p ∷ []) ≡ text ps ++ (p.word ++ p.other)
joined_more ps p = text_append ps (p ∷ []) ∙ ap (λ t. text ps ++ (p.word ++ t)) (append-nil p.other)

pub pairs_there : (code : TextCode) (ps : List Pair) (p : Pair) → PairsIn code ps → PairIn code p → PairsIn code (ps ++ p ∷ [])
pairs_there code [] p all there = (there, tt)
pairs_there code (q ∷ ps) p all there = (all.0, pairs_there code ps p all.1 there)

-- ---- bytes that came

came_both : (x y : Bits) (one two : List ℕ) {a b c : Moment} → Calm a.feed b.feed a.device b.device → Came x one a b → Came y two b c → Came (x ++ y) (one ++ two) a c
came_both x y one two {a} {b} {c} calm first second = record {
  stood = stood_both x y calm first.stood second.stood;
  shown = λ before sofar most shown. subst (λ l. Shown before c.sink.written c.held l most) (append_assoc sofar one two)
      (second.shown before (sofar ++ one) most (first.shown before sofar most shown));
}

-- the word and then the other
pub pair_came : (code : TextCode) {a b c : Moment} → Calm a.feed b.feed a.device b.device → PieceCame code.words a b → PieceCame code.others b c → PairCame code a c
pair_came code {a} {b} {c} calm word other = record {
  pair = record { word = word.piece; other = other.piece };
  there = record { word = word.there; other = other.there };
  came = came_both (codeword_of code.words word.piece) (codeword_of code.others other.piece) word.piece other.piece calm word.came other.came;
}

pub no_pair_came : (code : TextCode) (a : Moment) → PairsCame code 0 a a
no_pair_came code a = record {
  pairs = [];
  there = tt;
  count_is = refl;
  came = record {
    stood = stood_none a.feed a.device a.place;
    shown = λ before sofar most shown. subst (λ l. Shown before a.sink.written a.held l most) (sym (append-nil sofar)) shown;
  };
}

-- one pair more
pub pairs_came : (code : TextCode) {i : ℕ} {a b c : Moment} → Calm a.feed b.feed a.device b.device → PairsCame code i a b → PairCame code b c → PairsCame code (i + 1) a c
pairs_came code {i} {a} {b} {c} calm first next =
    let ps = first.pairs in
    let p = next.pair in
    let both = came_both (coded_pairs code ps) (coded_pair code p) (text ps) (p.word ++ p.other) calm first.came next.came in
    record {
      pairs = ps ++ p ∷ [];
      there = pairs_there code ps p first.there next.there;
      count_is = omega (arith, first.count_is, length-append ps (p ∷ []));
      came = subst (λ bits. Came bits (text (ps ++ p ∷ [])) a c) (sym (coded_more code ps p))
          (subst (λ l. Came (coded_pairs code ps ++ coded_pair code p) l a c) (sym (joined_more ps p)) both);
    }

-- their number, and then the pairs
pub document_came : (code : TextCode) {count : ℕ} {a b c : Moment} → Calm a.feed b.feed a.device b.device → b.held ≡ a.held → b.sink ≡ a.sink →
    Stood (gamma (count + 1)) a.feed a.device a.place b.place → PairsCame code count b c → DocumentCame code a c
document_came code {count} {a} {b} {c} calm held sink head pairs =
    let ps = pairs.pairs in
    let first : Came (gamma (count + 1)) [] a b = record {
      stood = head;
      shown = λ before sofar most shown. rw (held, sink) (subst (λ l. Shown before a.sink.written a.held l most) (sym (append-nil sofar)) shown);
    } in
    record {
      pairs = ps;
      there = pairs.there;
      came = subst (λ n. Came (gamma (n + 1) ++ coded_pairs code ps) (text ps) a c) pairs.count_is
          (came_both (gamma (count + 1)) (coded_pairs code ps) [] (text ps) calm first pairs.came);
    }

-- what came into an empty buffer went to the sink
pub document_sent : (code : TextCode) {a b c : Moment} → a.held.held ≡ [] → DocumentCame code a b → c.place ≡ b.place →
    ForShown b.sink.written b.held (λ was bytes _. AfterPut {T = Unit {0}} {E = PutErr} was c.sink.written bytes (Ok tt)) → DocumentSent code a c
document_sent code {a} {b} {c} empty first place put = record {
  pairs = first.pairs;
  there = first.there;
  came = record {
    stood = rw place first.came.stood;
    told = put _ _ _ (first.came.shown _ [] a.held.left (shown_none a.sink.written a.held empty));
  };
}
