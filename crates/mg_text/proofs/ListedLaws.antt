-- What stood for the symbols that were listed, one step behind another.
use Rattle.std.proofs.Common.{arith, ◌≡◌, ◌+◌, ◌++◌, ℕ, List, [], ◌∷◌, length, Option, Some, Result, OnOk, Ok, Err, refl, sym, ◌∙◌, ap, subst, length-append, append-nil, append_assoc}
use Rattle.std.specs.Prelude.{slice_get}
use Rattle.std.proofs.lemmas.Grind.{flat_map-append}
use Rattle.mg_dev.specs.Files.{Files}
use Rattle.mg_dev.specs.declared.part_err.PartErr.{PartErr}
use Rattle.mg_bits.specs.Feed.{Calm, Device as Seen, Feeding}
use Rattle.mg_bits.proofs.CallerLemmas.{calm_none}
use Rattle.mg_defs.specs.Bits.{Bits}
use Rattle.mg_defs.specs.Canon.{codeword}
use Rattle.mg_defs.specs.Codes.{gamma}
use Rattle.mg_defs.specs.CodedText.{TextCode, codeword_of, coded_pair}
use Rattle.mg_defs.specs.Means.{IsStreamCode}
use Rattle.mg_defs.specs.Parse.{Pair, text}
use Rattle.mg_defs.specs.Sorted.{number_of}
use Rattle.mg_text.specs.Decoding.{IsIn, PairsIn, Stood, coded_pairs, numbered_pairs}
use Rattle.mg_text.specs.Listing.{Adds, AddsTo, DocumentListed, ListCame, ListMoment, Listing, OtherPassed, PairListed, PairsListed, WordCame, WordsStood, symbol_if, word_symbol, word_symbols}
use Rattle.mg_text.specs.Reading.{TellsPairs, TextReading}
use Rattle.mg_text.proofs.CameLaws.{coded_more, joined_more, pairs_there, stood_both, stood_none}
use Rattle.mg_text.proofs.ToldLaws.{piece_stood, symbol_is}

-- symbols are added behind others
pub adds_both : (one two : List ℕ) (k l : ℕ) (a b c : Listing) → Adds one k a b → Adds two l b c → Adds (one ++ two) (k + l) a c
adds_both one two k l a b c first second = record {
  symbols_are = second.symbols_are ∙ ap (λ s. s ++ two) first.symbols_are ∙ append_assoc a.symbols one two;
  left = omega (arith, first.left, second.left);
}

-- ---- a piece

-- the word that was read was added
pub word_came : (code : TextCode) (symbol : ℕ) (piece : List ℕ) (r : Result (Unit {0}) PartErr) (a c : ListMoment) → IsStreamCode code.words → slice_get code.words.pieces symbol ≡ Some piece →
    Stood (codeword code.words.lengths symbol) a.feed a.device a.place c.place → AddsTo (symbol_if symbol (length piece)) (length piece) r a.list c.list → OnOk r (WordCame code a c)
word_came code symbol piece (Ok done) a c is there stood adds =
    let same = symbol_is code.words symbol piece is there in
    piece_stood code.words symbol piece {fact = λ bits found. ListCame bits (word_symbol code found) (length found) a c} is there
    (record { stood = stood; adds = subst (λ n. Adds (symbol_if n (length piece)) (length piece) a.list c.list) (sym same) adds.done })
word_came code symbol piece (Err refusal) a c is there stood adds = tt

-- the other that was read was counted
pub other_came : (code : TextCode) (symbol : ℕ) (piece : List ℕ) (r : Result (Unit {0}) PartErr) (a c : ListMoment) → IsStreamCode code.others → slice_get code.others.pieces symbol ≡ Some piece →
    Stood (codeword code.others.lengths symbol) a.feed a.device a.place c.place → AddsTo [] (length piece) r a.list c.list → OnOk r (OtherPassed code a c)
other_came code symbol piece (Ok done) a c is there stood adds =
    piece_stood code.others symbol piece {fact = λ bits found. ListCame bits [] (length found) a c} is there (record { stood = stood; adds = adds.done })
other_came code symbol piece (Err refusal) a c is there stood adds = tt

-- ---- pairs

came_both : (x y : Bits) (one two : List ℕ) (k l : ℕ) {a b c : ListMoment} → Calm a.feed b.feed a.device b.device → ListCame x one k a b → ListCame y two l b c →
    ListCame (x ++ y) (one ++ two) (k + l) a c
came_both x y one two k l {a} {b} {c} calm first second = record { stood = stood_both x y calm first.stood second.stood; adds = adds_both one two k l a.list b.list c.list first.adds second.adds }

-- the word and then the other
pub pair_came : (code : TextCode) {a b c : ListMoment} → Calm a.feed b.feed a.device b.device → WordCame code a b → OtherPassed code b c → PairListed code a c
pair_came code {a} {b} {c} calm word other =
    let x = codeword_of code.words word.piece in
    let y = codeword_of code.others other.piece in
    record {
      pair = record { word = word.piece; other = other.piece };
      there = record { word = word.there; other = other.there };
      came = subst (λ s. ListCame (x ++ y) s (length word.piece + length other.piece) a c) (append-nil (word_symbol code word.piece))
          (came_both x y (word_symbol code word.piece) [] (length word.piece) (length other.piece) calm word.came other.came);
    }

-- the reader held the bits of both pieces
pub held_came : (code : TextCode) {f0 f1 : Feeding} (f2 : Feeding) (d : Seen) {p q s : ℕ} {list list_now : Listing} (symbol word other : ℕ) (one two : List ℕ) → f1 ≡ f0 →
    IsIn code.words one → IsIn code.others two → number_of code.words.pieces one ≡ symbol → length one ≡ word → length two ≡ other →
    Stood (codeword_of code.words one) f0 d p q → Stood (codeword_of code.others two) f1 d q s → Adds (symbol_if symbol word) (word + other) list list_now →
    PairListed code (record { feed = f0; place = p; device = d; list = list }) (record { feed = f2; place = s; device = d; list = list_now })
held_came code {f0} {f1} f2 d {p} {q} {s} {list} {list_now} symbol word other one two feed in_words in_others number size size_other first second adds = record {
  pair = record { word = one; other = two };
  there = record { word = in_words; other = in_others };
  came = record {
    stood = stood_both (codeword_of code.words one) (codeword_of code.others two) (calm_none f0 d) first (subst (λ f. Stood (codeword_of code.others two) f d q s) feed second);
    adds = rw (number, size, size_other) adds;
  };
}

pub no_pair_came : (code : TextCode) (a : ListMoment) → PairsListed code 0 a a
no_pair_came code a = record {
  pairs = [];
  there = tt;
  count_is = refl;
  came = record { stood = stood_none a.feed a.device a.place; adds = record { symbols_are = sym (append-nil a.list.symbols); left = omega arith } };
}

symbols_more : (code : TextCode) (ps : List Pair) (p : Pair) → word_symbols code (ps ++ p ∷ []) ≡ word_symbols code ps ++ word_symbol code p.word
symbols_more code ps p = flat_map-append (λ (q : Pair). word_symbol code q.word) ps (p ∷ []) ∙ ap (λ s. word_symbols code ps ++ s) (append-nil (word_symbol code p.word))

size_more : (ps : List Pair) (p : Pair) → length (text (ps ++ p ∷ [])) ≡ length (text ps) + (length p.word + length p.other)
size_more ps p = ap length (joined_more ps p) ∙ length-append (text ps) (p.word ++ p.other) ∙ ap (λ n. length (text ps) + n) (length-append p.word p.other)

-- one pair more
pub pairs_came : (code : TextCode) {i : ℕ} {a b c : ListMoment} → Calm a.feed b.feed a.device b.device → PairsListed code i a b → PairListed code b c → PairsListed code (i + 1) a c
pairs_came code {i} {a} {b} {c} calm first next =
    let ps = first.pairs in
    let p = next.pair in
    let both = came_both (coded_pairs code ps) (coded_pair code p) (word_symbols code ps) (word_symbol code p.word) (length (text ps)) (length p.word + length p.other) calm first.came next.came in
    record {
      pairs = ps ++ p ∷ [];
      there = pairs_there code ps p first.there next.there;
      count_is = omega (arith, first.count_is, length-append ps (p ∷ []));
      came = subst (λ bits. ListCame bits (word_symbols code (ps ++ p ∷ [])) (length (text (ps ++ p ∷ []))) a c) (sym (coded_more code ps p))
          (subst (λ s. ListCame (coded_pairs code ps ++ coded_pair code p) s (length (text (ps ++ p ∷ []))) a c) (sym (symbols_more code ps p))
          (subst (λ n. ListCame (coded_pairs code ps ++ coded_pair code p) (word_symbols code ps ++ word_symbol code p.word) n a c) (sym (size_more ps p)) both));
    }

-- their number, and then the pairs
pub document_came : (code : TextCode) {count : ℕ} {a b c : ListMoment} → Calm a.feed b.feed a.device b.device → b.list ≡ a.list →
    Stood (gamma (count + 1)) a.feed a.device a.place b.place → PairsListed code count b c → DocumentListed code a c
document_came code {count} {a} {b} {c} calm list head pairs =
    let ps = pairs.pairs in
    let first : ListCame (gamma (count + 1)) [] 0 a b = record { stood = head; adds = rw list (record { symbols_are = sym (append-nil a.list.symbols); left = omega arith }) } in
    let both : ListCame (gamma (count + 1) ++ coded_pairs code ps) (word_symbols code ps) (length (text ps)) a c =
    subst (λ n. ListCame (gamma (count + 1) ++ coded_pairs code ps) (word_symbols code ps) n a c) (let e : 0 + length (text ps) ≡ length (text ps) = omega arith in e)
    (came_both (gamma (count + 1)) (coded_pairs code ps) [] (word_symbols code ps) 0 (length (text ps)) calm first pairs.came) in
    record { pairs = ps; there = pairs.there; came = subst (λ n. ListCame (gamma (n + 1) ++ coded_pairs code ps) (word_symbols code ps) (length (text ps)) a c) pairs.count_is both }

-- the symbols are those of the words of pairs of which Text tells
pub words_stood : (result : Result (Unit {0}) PartErr) (r : TextReading) (files : Option Files) (number : ℕ) {most : ℕ} (a b : ListMoment) →
    ((pairs : List Pair) → PairsIn r.code pairs → Stood (numbered_pairs r.code pairs) a.feed a.device a.place b.place → TellsPairs r files number pairs) →
    a.list.symbols ≡ [] → a.list.left ≡ most → OnOk result (DocumentListed r.code a b) → OnOk result (WordsStood r files number most b.list.symbols)
words_stood (Ok done) r files number a b tells empty left came = record {
  pairs = came.pairs;
  told = tells came.pairs came.there came.came.stood;
  short = omega (arith, came.came.adds.left, left);
  symbols_are = came.came.adds.symbols_are ∙ ap (λ s. s ++ word_symbols r.code came.pairs) empty;
}
words_stood (Err refusal) r files number a b tells empty left came = tt
