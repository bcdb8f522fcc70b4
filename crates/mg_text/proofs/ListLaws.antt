-- Steps of reading words, one behind another, by what each of them promises.
use Rattle.std.proofs.Common.{arith, ◌≡◌, ◌≢◌, ◌+◌, ◌++◌, ◌^◌, ◌≤◌, ◌<◌, ℕ, zero, suc, not, List, [], ◌∷◌, length, map, filter, take, get_or, Result, Ok, Err, refl, sym, ◌∙◌, ap, subst, zero-add, length-append, append-nil, append_assoc}
use Rattle.std.specs.Prelude.{OnOk, IfErr}
use Rattle.std.proofs.Math.Seq.{take-length}
use Rattle.std.proofs.lemmas.Grind.{flat_map-append}
use Rattle.std.proofs.lemmas.Option.{get_or_from_slice_get}
use Rattle.mg_dev.specs.Bads.{IsNotBad}
use Rattle.mg_dev.specs.PartCauses.{IsCaused}
use Rattle.mg_dev.specs.declared.part_err.PartErr.{PartErr}
use Rattle.mg_dev.specs.declared.part_err.PartErr.TheVariants.{Device, Memory, Bad}
use Rattle.mg_bits.specs.Feed.{Calm, Feeding, Device as Seen, Read, ReadsWithin}
use Rattle.mg_bits.proofs.CallerLemmas.{calm_more, calm_none, read_more, read_none, within_more, within_wider}
use Rattle.mg_defs.specs.Bits.{Bits, Shows}
use Rattle.mg_defs.specs.Codes.{gamma}
use Rattle.mg_defs.specs.CodedText.{TextCode, codeword_of, coded_doc, coded_pair}
use Rattle.mg_defs.specs.Parse.{Pair, parse, text}
use Rattle.mg_defs.specs.Sorted.{number_of}
use Rattle.mg_defs.specs.Terms.{is_empty}
use Rattle.mg_defs.proofs.FrontLaws.{shows_left}
use Rattle.mg_text.specs.Decoding.{IsIn, IsReadCaused, PairsIn, ReadsNumber, Stood, Takes, coded_pairs}
use Rattle.mg_text.specs.Listing.{Adds, AddsTo, AreOfWords, IsAddRefused, ListEnds, ListMoment, ListStep, ListSteps, Listed, Listing, Lists, ReadsOf, symbol_if, word_symbol, word_symbols}
use Rattle.mg_text.specs.Listing.{DocumentListed, OtherPassed, PairListed, PairsListed, WordCame}
use Rattle.mg_text.specs.Listing.{ListsDoc, ListsFirst, ListsPair, ListsPairs, ListsWord, PassesOther}
use Rattle.mg_text.proofs.CameLaws.{on_ok_map}
use Rattle.mg_text.proofs.ListedLaws.{adds_both, document_came, no_pair_came, pair_came, pairs_came}
use Rattle.mg_text.proofs.PairLaws.{NextPair, bits_more, bits_whole, next_pair, pair_shows, pair_small, parse_text, shows_next, text_more, text_whole}

-- ---- ends

pub list_ends_more : (refusal : PartErr) (a b p q : Type 0) → (p → q) → ListEnds (Err refusal) a p → ListEnds (Err refusal) b q
list_ends_more Device a b p q f h = f h
list_ends_more Memory a b p q f h = f h
list_ends_more (Bad bad) a b p q f h = h

pub list_ends_map : (r : Result (Unit {0}) PartErr) (a b p q : Type 0) → (a → b) → (p → q) → ListEnds r a p → ListEnds r b q
list_ends_map (Ok done) a b p q f g h = f h
list_ends_map (Err refusal) a b p q f g h = list_ends_more refusal a b p q g h

-- a number was refused
pub list_ends_read : {T : Type 0} (refusal : PartErr) (whole : T → Type 0) (part all now : Type 0) → (part → now) → Takes {T = T} (Err refusal) whole part → ListEnds (Err refusal) all now
list_ends_read Device whole part all now f takes = f takes
list_ends_read Memory whole part all now f takes = absurd takes
list_ends_read (Bad bad) whole part all now f takes = takes

pub list_ends_first : (r : Result (Unit {0}) PartErr) (a p : Type 0) → ListEnds r a p → OnOk r a
list_ends_first (Ok done) a p h = h
list_ends_first (Err refusal) a p h = tt

pub list_ends_good : (r : Result (Unit {0}) PartErr) (a p : Type 0) → ListEnds r a p → IfErr r IsNotBad
list_ends_good (Ok done) a p h = tt
list_ends_good (Err Device) a p h = tt
list_ends_good (Err Memory) a p h = tt
list_ends_good (Err (Bad bad)) a p h = h

pub list_ends_either : (r : Result (Unit {0}) PartErr) (p : Type 0) → ListEnds r p p → p
list_ends_either (Ok done) p h = h
list_ends_either (Err Device) p h = h
list_ends_either (Err Memory) p h = h
list_ends_either (Err (Bad bad)) p h = absurd h

-- ---- causes

pub cause_more : (r : Result (Unit {0}) PartErr) (a b c : ℕ) → a ≤ b → IsCaused b c r → IsCaused a c r
cause_more (Ok done) a b c le cause = tt
cause_more (Err Device) a b c le cause = omega (arith, le, cause)
cause_more (Err Memory) a b c le cause = tt
cause_more (Err (Bad bad)) a b c le cause = tt

pub number_cause : (T : Type 0) (refusal : PartErr) (s t : ℕ) → IsReadCaused {T = T} (Err refusal) s t → IsCaused {T = Unit {0}} s t (Err refusal)
number_cause T Device s t cause = cause
number_cause T Memory s t cause = tt
number_cause T (Bad bad) s t cause = tt

add_cause : (r : Result (Unit {0}) PartErr) (over : Type 0) (s t : ℕ) → IsAddRefused r over → IsCaused s t r
add_cause (Ok done) over s t refused = tt
add_cause (Err Device) over s t refused = absurd refused
add_cause (Err Memory) over s t refused = tt
add_cause (Err (Bad bad)) over s t refused = tt

-- ---- symbols of words

words_more : (code : TextCode) (one two : List ℕ) → AreOfWords code one → AreOfWords code two → AreOfWords code (one ++ two)
words_more code [] two first second = second
words_more code (s ∷ one) two first second = (first.0, words_more code one two first.1 second)

pub words_added : (code : TextCode) (symbols : List ℕ) {size : ℕ} (r : Result (Unit {0}) PartErr) {old new : Listing} → AddsTo symbols size r old new → AreOfWords code symbols →
    AreOfWords code old.symbols → AreOfWords code new.symbols
words_added code symbols (Ok done) {old} {new} adds own before = subst (AreOfWords code) (sym adds.done.symbols_are) (words_more code old.symbols symbols before own)
words_added code symbols (Err refusal) {old} {new} adds own before = subst (AreOfWords code) (sym adds.kept) before

pub symbol_of_word : (code : TextCode) (symbol size : ℕ) → symbol < length code.words.pieces → AreOfWords code (symbol_if symbol size)
symbol_of_word code symbol zero lt = tt
symbol_of_word code symbol (suc size) lt = (lt, tt)

-- what is listed of an empty word, and of another one
pub none_listed : (symbol size : ℕ) → size ≡ 0 → symbol_if symbol size ≡ []
none_listed symbol zero none = refl
none_listed symbol (suc size) none = absurd (omega (arith, none))

pub one_listed_if : (symbol size : ℕ) → size ≢ 0 → symbol_if symbol size ≡ symbol ∷ []
one_listed_if symbol zero some = absurd (some refl)
one_listed_if symbol (suc size) some = refl

-- the words of the symbols of pairs are the pairs' words that aren't empty
word_listed : (code : TextCode) (word : List ℕ) (symbols : List ℕ) (words : List (List ℕ)) → IsIn code.words word →
    map (λ (s : ℕ). get_or code.words.pieces s []) symbols ≡ filter (λ (w : List ℕ). not (is_empty w)) words →
    map (λ (s : ℕ). get_or code.words.pieces s []) (word_symbol code word ++ symbols) ≡ filter (λ (w : List ℕ). not (is_empty w)) (word ∷ words)
word_listed code [] symbols words is rest = rest
word_listed code (b ∷ word) symbols words is rest =
    ap (λ w. w ∷ map (λ (s : ℕ). get_or code.words.pieces s []) symbols) (get_or_from_slice_get code.words.pieces (number_of code.words.pieces (b ∷ word)) (b ∷ word) [] is)
    ∙ ap (λ ws. (b ∷ word) ∷ ws) rest

pub words_of_symbols : (code : TextCode) (ps : List Pair) → PairsIn code ps →
    map (λ (s : ℕ). get_or code.words.pieces s []) (word_symbols code ps) ≡ filter (λ (w : List ℕ). not (is_empty w)) (map (λ (p : Pair). p.word) ps)
words_of_symbols code [] all = refl
words_of_symbols code (p ∷ ps) all = word_listed code p.word (word_symbols code ps) (map (λ (p : Pair). p.word) ps) all.0.word (words_of_symbols code ps all.1)

-- ---- one step behind another

listed_both : (x y : Bits) (one two : List ℕ) (k l : ℕ) (a b c : ListMoment) → 0 < a.feed.page → Listed x one k a b → Listed y two l b c → Listed (x ++ y) (one ++ two) (k + l) a c
listed_both x y one two k l a b c some first second =
    let to : b.place + length y ≡ a.place + length (x ++ y) = omega (arith, first.at_end, length-append x y) in
    let moved : Read b.feed c.feed b.device c.device (a.place + length x) (a.place + length (x ++ y)) =
    subst (λ n. Read b.feed c.feed b.device c.device n (a.place + length (x ++ y))) first.at_end (subst (λ n. Read b.feed c.feed b.device c.device b.place n) to second.read) in
    record {
      at_end = omega (arith, first.at_end, second.at_end, length-append x y);
      read = read_more a.feed b.feed c.feed a.device b.device c.device a.place (a.place + length x) (a.place + length (x ++ y)) some (omega arith) (omega (arith, length-append x y)) first.read moved;
      adds = adds_both one two k l a.list b.list c.list first.adds second.adds;
    }

reads_second : (x y : Bits) (one : List ℕ) (k : ℕ) (a b c : ListMoment) → 0 < a.feed.page → Listed x one k a b → ReadsOf y b c → ReadsOf (x ++ y) a c
reads_second x y one k a b c some first second =
    let to : b.place + length y ≡ a.place + length (x ++ y) = omega (arith, first.at_end, length-append x y) in
    let moved : ReadsWithin b.feed c.feed b.device c.device (a.place + length x) (a.place + length (x ++ y)) =
    subst (λ n. ReadsWithin b.feed c.feed b.device c.device n (a.place + length (x ++ y))) first.at_end (subst (λ n. ReadsWithin b.feed c.feed b.device c.device b.place n) to second) in
    within_more a.feed b.feed c.feed a.device b.device c.device a.place (a.place + length x) (a.place + length (x ++ y)) some (omega arith) (omega (arith, length-append x y))
    first.read.calm.part first.read.calm.page first.read.held first.read.pages moved

reads_first : (x y : Bits) (a b : ListMoment) → 0 < a.feed.page → ReadsOf x a b → ReadsOf (x ++ y) a b
reads_first x y a b some first = within_wider a.feed b.feed a.device b.device a.place (a.place + length x) (a.place + length (x ++ y)) some (omega arith) (omega (arith, length-append x y)) first

lists_both : (x y : Bits) (one two : List ℕ) (k l : ℕ) (r : Result (Unit {0}) PartErr) (a b c : ListMoment) → 0 < a.feed.page → Calm a.feed b.feed a.device b.device →
    Lists x one k (Ok tt) a b → Lists y two l r b c → Lists (x ++ y) (one ++ two) (k + l) r a c
lists_both x y one two k l r a b c some calm first second = λ few small shows.
    let head = first (omega (arith, few)) (omega (arith, small, length-append x y)) (shows_left _ a.place x y shows) in
    list_ends_map r _ _ _ _ (λ whole. listed_both x y one two k l a b c some head whole) (λ part. reads_second x y one k a b c some head part)
    (second (omega (arith, few, head.adds.left)) (omega (arith, small, length-append x y, head.at_end)) (shows_next _ _ _ _ a.place b.place x y calm head.at_end shows))

lists_first : (x y : Bits) (one two : List ℕ) (k l : ℕ) (refusal : PartErr) (a b : ListMoment) → 0 < a.feed.page → Lists x one k (Err refusal) a b →
    Lists (x ++ y) (one ++ two) (k + l) (Err refusal) a b
lists_first x y one two k l refusal a b some first = λ few small shows.
    list_ends_more refusal _ _ _ _ (λ part. reads_first x y a b some part)
    (first (omega (arith, few)) (omega (arith, small, length-append x y)) (shows_left _ a.place x y shows))

-- ---- any steps

-- nothing was done
steps_none : {agrees : Type 0} {code : TextCode} {tells comes : ListStep} {a : ListMoment} → agrees → tells a a → comes a a → ListSteps agrees code tells comes (Ok tt) a a
steps_none fits told came = record { fits = fits; calm = calm_none _ _; told = told; stood = came; of_words = λ before. before; cause = tt }

-- the same step, of which more is told
steps_tell : {agrees : Type 0} {code : TextCode} {one came other comes : ListStep} {r : Result (Unit {0}) PartErr} {a b : ListMoment} → ListSteps agrees code one came r a b → other a b →
    OnOk r (comes a b) → ListSteps agrees code other comes r a b
steps_tell step told stood = record { fits = step.fits; calm = step.calm; told = told; stood = stood; of_words = step.of_words; cause = step.cause }

-- a step behind another one
steps_more : {before agrees : Type 0} {code : TextCode} {one came two then both comes : ListStep} (r : Result (Unit {0}) PartErr) {a b c : ListMoment} →
    ListSteps before code one came (Ok tt) a b → ListSteps agrees code two then r b c → both a c → OnOk r (comes a c) → ListSteps agrees code both comes r a c
steps_more r {a} {b} {c} first second told stood = record {
  fits = second.fits;
  calm = calm_more _ _ _ _ _ _ first.calm second.calm;
  told = told;
  stood = stood;
  of_words = λ before. second.of_words (first.of_words before);
  cause = cause_more r _ _ _ first.calm.faults second.cause;
}

-- ---- a piece

-- a number was refused
pub number_refused : {T agrees : Type 0} {code : TextCode} {tells comes : ListStep} (refusal : PartErr) {a b : ListMoment} → ReadsNumber {T = T} agrees (Err refusal) a.feed b.feed a.device b.device →
    b.list ≡ a.list → tells a b → ListSteps agrees code tells comes (Err refusal) a b
number_refused {T} refusal {a} {b} read list told = record {
  fits = read.fits;
  calm = read.calm;
  told = told;
  stood = tt;
  of_words = λ before. rw list before;
  cause = number_cause T refusal _ _ read.cause;
}

-- a number was read, and a piece was added
pub piece_added : {T agrees : Type 0} {code : TextCode} {tells comes : ListStep} (value : T) (symbols : List ℕ) {size : ℕ} (r : Result (Unit {0}) PartErr) {a c : ListMoment} →
    ReadsNumber agrees (Ok value) a.feed c.feed a.device c.device → AreOfWords code symbols → AddsTo symbols size r a.list c.list →
    tells a c → OnOk r (comes a c) → ListSteps agrees code tells comes r a c
piece_added {code = code} value symbols r {a} {c} read own adds told stood = record {
  fits = read.fits;
  calm = read.calm;
  told = told;
  stood = stood;
  of_words = words_added code symbols r adds own;
  cause = add_cause r _ _ _ adds.refused;
}

-- the piece whose bits were read may come, so it is not bad
pub piece_listed : (r : Result (Unit {0}) PartErr) (bits : Bits) (symbols one : List ℕ) (size k : ℕ) (a c : ListMoment) → c.place ≡ a.place + length bits →
    Read a.feed c.feed a.device c.device a.place (a.place + length bits) → AddsTo symbols size r a.list c.list → symbols ≡ one → size ≡ k → k ≤ a.list.left →
    ListEnds r (Listed bits one k a c) (ReadsOf bits a c)
piece_listed (Ok done) bits symbols one size k a c at read adds is as_long few = record { at_end = at; read = read; adds = rw (← is) (rw (← as_long) adds.done) }
piece_listed (Err Device) bits symbols one size k a c at read adds is as_long few = absurd adds.refused
piece_listed (Err Memory) bits symbols one size k a c at read adds is as_long few = read.pages
piece_listed (Err (Bad bad)) bits symbols one size k a c at read adds is as_long few = absurd (omega (arith, adds.refused, as_long, few))

-- ---- a pair

-- the word was refused
pub word_refused : {agrees : Type 0} (code : TextCode) (refusal : PartErr) {a b : ListMoment} → 0 < a.feed.page →
    ListSteps agrees code (ListsWord code (Err refusal)) (WordCame code) (Err refusal) a b → ListSteps agrees code (ListsPair code (Err refusal)) (PairListed code) (Err refusal) a b
word_refused code refusal {a} {b} some step = steps_tell step (λ p is.
    subst (λ s. Lists (coded_pair code p) s (length p.word + length p.other) (Err refusal) a b) (append-nil (word_symbol code p.word))
    (lists_first (codeword_of code.words p.word) (codeword_of code.others p.other) (word_symbol code p.word) [] (length p.word) (length p.other) refusal a b some (step.told p.word is.word))) tt

-- the other came behind the word
pub pair_listed : {before agrees : Type 0} (code : TextCode) (r : Result (Unit {0}) PartErr) {a b c : ListMoment} → 0 < a.feed.page →
    ListSteps before code (ListsWord code (Ok tt)) (WordCame code) (Ok tt) a b → ListSteps agrees code (PassesOther code r) (OtherPassed code) r b c →
    ListSteps agrees code (ListsPair code r) (PairListed code) r a c
pair_listed code r {a} {b} {c} some first second = steps_more r first second (λ p is.
    subst (λ s. Lists (coded_pair code p) s (length p.word + length p.other) r a c) (append-nil (word_symbol code p.word))
    (lists_both (codeword_of code.words p.word) (codeword_of code.others p.other) (word_symbol code p.word) [] (length p.word) (length p.other) r a b c some first.calm
    (first.told p.word is.word) (second.told p.other is.other))) (on_ok_map r _ _ (pair_came code first.calm first.stood) second.stood)

-- the reader held the bits of both pieces
pub held_listed : (f0 f1 f2 : Feeding) (d : Seen) (a p q : ℕ) (x y : Bits) (list list_now : Listing) (symbol number word other j k : ℕ) → 0 < f0.page → p ≡ a + length x → Read f0 f1 d d a (a + length x) →
    q ≡ p + length y → Read f1 f2 d d p (p + length y) → symbol ≡ number → word ≡ j → other ≡ k →
    Adds (symbol_if symbol word) (word + other) list list_now → Listed (x ++ y) (symbol_if number j) (j + k) (record { feed = f0; place = a; device = d; list = list }) (record { feed = f2; place = q; device = d; list = list_now })
held_listed f0 f1 f2 d a p q x y list list_now symbol number word other j k some at1 read1 at2 read2 is long long_other adds =
    let to : p + length y ≡ a + length (x ++ y) = omega (arith, at1, length-append x y) in
    let moved : Read f1 f2 d d (a + length x) (a + length (x ++ y)) = subst (λ n. Read f1 f2 d d n (a + length (x ++ y))) at1 (subst (λ n. Read f1 f2 d d p n) to read2) in
    record {
      at_end = omega (arith, at1, at2, length-append x y);
      read = read_more f0 f1 f2 d d d a (a + length x) (a + length (x ++ y)) some (omega arith) (omega (arith, length-append x y)) read1 moved;
      adds = rw (← is, ← long, ← long_other) adds;
    }

-- ---- pairs

-- no pair was listed yet
pub first_none : {agrees : Type 0} (code : TextCode) (count : ℕ) {a : ListMoment} → agrees → ListSteps agrees code (ListsFirst code count 0) (PairsListed code 0) (Ok tt) a a
first_none code count {a} fits = steps_none fits (λ ps all is few small shows. record {
  at_end = omega arith;
  read = subst (λ n. Read a.feed a.feed a.device a.device a.place n) (omega arith) (read_none a.feed a.device a.place);
  adds = record { symbols_are = sym (append-nil a.list.symbols); left = omega arith };
}) (no_pair_came code a)

-- no pair was listed: what the reader of bits and the list are is as before
pub still_there : {agrees : Type 0} {code : TextCode} {tells comes : ListStep} {r : Result (Unit {0}) PartErr} {a : ListMoment} {f f_now : Feeding} {p p_now : ℕ} {d : Seen} {l l_now : Listing} →
    ListSteps agrees code tells comes r a (record { feed = f; place = p; device = d; list = l }) → f_now ≡ f → p_now ≡ p → l_now ≡ l →
    ListSteps agrees code tells comes r a (record { feed = f_now; place = p_now; device = d; list = l_now })
still_there step feed place list = rw (feed, place, list) step

size_more : (code : TextCode) (ps : List Pair) (i : ℕ) (next : NextPair code ps i) → length (text (take (i + 1) ps)) ≡ length (text (take i ps)) + (length next.pair.word + length next.pair.other)
size_more code ps i next = ap length (text_more code ps i next) ∙ length-append (text (take i ps)) (next.pair.word ++ next.pair.other)
    ∙ ap (λ n. length (text (take i ps)) + n) (length-append next.pair.word next.pair.other)

size_whole : (code : TextCode) (ps : List Pair) (i : ℕ) (next : NextPair code ps i) →
    length (text ps) ≡ length (text (take i ps)) + ((length next.pair.word + length next.pair.other) + length (text next.rest))
size_whole code ps i next = ap length (text_whole code ps i next) ∙ length-append (text (take i ps)) ((next.pair.word ++ next.pair.other) ++ text next.rest)
    ∙ ap (λ n. length (text (take i ps)) + n) (length-append (next.pair.word ++ next.pair.other) (text next.rest) ∙ ap (λ n. n + length (text next.rest)) (length-append next.pair.word next.pair.other))

-- one pair more was listed
pairs_more : (code : TextCode) (ps : List Pair) (i : ℕ) (a b c : ListMoment) → 0 < a.feed.page → (next : NextPair code ps i) →
    Listed (coded_pairs code (take i ps)) (word_symbols code (take i ps)) (length (text (take i ps))) a b →
    Listed (coded_pair code next.pair) (word_symbol code next.pair.word) (length next.pair.word + length next.pair.other) b c →
    Listed (coded_pairs code (take (i + 1) ps)) (word_symbols code (take (i + 1) ps)) (length (text (take (i + 1) ps))) a c
pairs_more code ps i a b c some next first second =
    let one = word_symbols code (take i ps) in
    let symbol = word_symbol code next.pair.word in
    let symbols : word_symbols code (take (i + 1) ps) ≡ one ++ symbol = ap (word_symbols code) next.more
    ∙ flat_map-append (λ (p : Pair). word_symbol code p.word) (take i ps) (next.pair ∷ []) ∙ ap (λ s. one ++ s) (append-nil symbol) in
    let both = listed_both (coded_pairs code (take i ps)) (coded_pair code next.pair) one symbol (length (text (take i ps))) (length next.pair.word + length next.pair.other) a b c some first second in
    subst (λ bits. Listed bits (word_symbols code (take (i + 1) ps)) (length (text (take (i + 1) ps))) a c) (sym (bits_more code ps i next))
    (subst (λ s. Listed (coded_pairs code (take i ps) ++ coded_pair code next.pair) s (length (text (take (i + 1) ps))) a c) (sym symbols)
    (subst (λ n. Listed (coded_pairs code (take i ps) ++ coded_pair code next.pair) (one ++ symbol) n a c) (sym (size_more code ps i next)) both))

one_more : (code : TextCode) (count i : ℕ) (a b c : ListMoment) → 0 < a.feed.page → i < count → Calm a.feed b.feed a.device b.device → ListsFirst code count i a b → ListsPair code (Ok tt) b c →
    ListsFirst code count (i + 1) a c
one_more code count i a b c some lt calm first pair = λ ps all is few small shows.
    let here = first ps all is few small shows in
    let next = next_pair code ps i all (omega (arith, is, lt)) in
    pairs_more code ps i a b c some next here
    (pair next.pair next.there (omega (arith, few, here.adds.left, size_whole code ps i next)) (pair_small a.place b.place code ps i next here.at_end small)
    (pair_shows _ _ _ _ a.place b.place code ps i next calm here.at_end shows))

-- one pair more was listed, and no device was asked
pub one_held : {before agrees : Type 0} (code : TextCode) {count i : ℕ} {a b c : ListMoment} → 0 < a.feed.page → i < count →
    ListSteps before code (ListsFirst code count i) (PairsListed code i) (Ok tt) a b → agrees →
    c.feed ≡ b.feed → c.device ≡ b.device → (AreOfWords code b.list.symbols → AreOfWords code c.list.symbols) → ListsPair code (Ok tt) b c → PairListed code b c →
    ListSteps agrees code (ListsFirst code count (i + 1)) (PairsListed code (i + 1)) (Ok tt) a c
one_held code {count} {i} {a} {b} {c} some lt step fits feed device words pair came = record {
  fits = fits;
  calm = rw (feed, device) step.calm;
  told = one_more code count i a b c some lt step.calm step.told pair;
  stood = pairs_came code step.calm step.stood came;
  of_words = λ before. words (step.of_words before);
  cause = tt;
}

-- one pair more was listed
pub one_listed : {before agrees : Type 0} (code : TextCode) {count i : ℕ} {a b c : ListMoment} → 0 < a.feed.page → i < count →
    ListSteps before code (ListsFirst code count i) (PairsListed code i) (Ok tt) a b → ListSteps agrees code (ListsPair code (Ok tt)) (PairListed code) (Ok tt) b c →
    ListSteps agrees code (ListsFirst code count (i + 1)) (PairsListed code (i + 1)) (Ok tt) a c
one_listed code {count} {i} {a} {b} {c} some lt first pair = steps_more (Ok tt) first pair (one_more code count i a b c some lt first.calm first.told pair.told)
    (pairs_came code first.calm first.stood pair.stood)

-- the pages of a pair and of those before it are among those of all pairs
pairs_read : (code : TextCode) (ps : List Pair) (i : ℕ) (a b c : ListMoment) → 0 < a.feed.page → (next : NextPair code ps i) →
    Listed (coded_pairs code (take i ps)) (word_symbols code (take i ps)) (length (text (take i ps))) a b → ReadsOf (coded_pair code next.pair) b c → ReadsOf (coded_pairs code ps) a c
pairs_read code ps i a b c some next first part =
    let x = coded_pairs code (take i ps) in
    let y = coded_pair code next.pair in
    let z = coded_pairs code next.rest in
    let wide : ReadsOf ((x ++ y) ++ z) a c = reads_first (x ++ y) z a c some (reads_second x y (word_symbols code (take i ps)) (length (text (take i ps))) a b c some first part) in
    subst (λ bits. ReadsOf bits a c) (append_assoc x y z ∙ sym (bits_whole code ps i next)) wide

-- a pair was refused
pub pair_refused : {before agrees : Type 0} (code : TextCode) {count i : ℕ} (refusal : PartErr) {a b c : ListMoment} → 0 < a.feed.page → i < count →
    ListSteps before code (ListsFirst code count i) (PairsListed code i) (Ok tt) a b → ListSteps agrees code (ListsPair code (Err refusal)) (PairListed code) (Err refusal) b c →
    ListSteps agrees code (ListsPairs code count (Err refusal)) (PairsListed code count) (Err refusal) a c
pair_refused code {count} {i} refusal {a} {b} {c} some lt first pair = steps_more (Err refusal) first pair (λ ps all is few small shows.
    let here = first.told ps all is few small shows in
    let next = next_pair code ps i all (omega (arith, is, lt)) in
    list_ends_more refusal _ _ _ _ (λ part. pairs_read code ps i a b c some next here part)
    (pair.told next.pair next.there (omega (arith, few, here.adds.left, size_whole code ps i next)) (pair_small a.place b.place code ps i next here.at_end small)
    (pair_shows _ _ _ _ a.place b.place code ps i next first.calm here.at_end shows))) tt

-- all pairs were listed
pub all_listed : {agrees : Type 0} {code : TextCode} {count i : ℕ} {a b : ListMoment} → i ≡ count → ListSteps agrees code (ListsFirst code count i) (PairsListed code i) (Ok tt) a b →
    ListSteps agrees code (ListsPairs code count (Ok tt)) (PairsListed code count) (Ok tt) a b
all_listed {code = code} {i = i} {a = a} {b = b} done step = steps_tell step (λ ps all is few small shows.
    let whole : take i ps ≡ ps = ap (λ n. take n ps) (omega (arith, is, done)) ∙ take-length ps in
    rw whole at (step.told ps all is few small shows)) (subst (λ n. PairsListed code n a b) done step.stood)

-- ---- a document

-- the number of pairs is this one, where the code of a number stands at the place
abbrev pub CountIs : ℕ → ListStep
CountIs count old new = (n : ℕ) → n < 2 ^ 32 → old.place + length (gamma (n + 1)) ≤ 2 ^ 63 → Shows (old.feed.source old.device.files) old.place (gamma (n + 1)) →
    (count ≡ n) × (new.place ≡ old.place + length (gamma (n + 1))) × Read old.feed new.feed old.device new.device old.place (old.place + length (gamma (n + 1)))

-- and its code stood there
abbrev pub CountStood : ℕ → ListStep
CountStood count old new = Stood (gamma (count + 1)) old.feed old.device old.place new.place

-- their number was read
pub count_read : {T agrees : Type 0} {code : TextCode} {tells comes : ListStep} (value : T) {a b : ListMoment} → ReadsNumber agrees (Ok value) a.feed b.feed a.device b.device → b.list ≡ a.list →
    tells a b → comes a b → ListSteps agrees code tells comes (Ok tt) a b
count_read value {a} {b} read list told came = record { fits = read.fits; calm = read.calm; told = told; stood = came; of_words = λ before. rw list before; cause = tt }

-- the pages of their number are among those of the document
pub head_reads : (f0 f1 : Feeding) (d0 d1 : Seen) (place : ℕ) (code : TextCode) (doc : List ℕ) → 0 < f0.page →
    ReadsWithin f0 f1 d0 d1 place (place + length (gamma (length (parse doc) + 1))) → ReadsWithin f0 f1 d0 d1 place (place + length (coded_doc code doc))
head_reads f0 f1 d0 d1 place code doc some part =
    let x = gamma (length (parse doc) + 1) in
    let y = coded_pairs code (parse doc) in
    within_wider f0 f1 d0 d1 place (place + length x) (place + length (x ++ y)) some (omega arith) (omega (arith, length-append x y)) part

-- its pairs came behind their number
pub doc_listed : {before agrees : Type 0} (code : TextCode) {count : ℕ} (r : Result (Unit {0}) PartErr) {a b c : ListMoment} → 0 < a.feed.page → b.list ≡ a.list →
    ListSteps before code (CountIs count) (CountStood count) (Ok tt) a b → ListSteps agrees code (ListsPairs code count r) (PairsListed code count) r b c →
    ListSteps agrees code (ListsDoc code r) (DocumentListed code) r a c
doc_listed code r {a} {b} {c} some list head pairs = steps_more r head pairs (λ doc all few short small shows.
    let x = gamma (length (parse doc) + 1) in
    let y = coded_pairs code (parse doc) in
    let size : length (text (parse doc)) ≡ length doc = ap length (parse_text doc) in
    let read = head.told (length (parse doc)) few (omega (arith, small, length-append x y)) (shows_left _ a.place x y shows) in
    let first : Listed x [] 0 a b = record { at_end = read.1; read = read.2; adds = rw list (record { symbols_are = sym (append-nil a.list.symbols); left = omega arith }) } in
    subst (λ n. ListEnds r (Listed (x ++ y) (word_symbols code (parse doc)) n a c) (ReadsOf (x ++ y) a c)) (zero-add (length (text (parse doc))) ∙ size)
    (list_ends_map r _ _ _ _ (λ whole. listed_both x y [] (word_symbols code (parse doc)) 0 (length (text (parse doc))) a b c some first whole)
    (λ part. reads_second x y [] 0 a b c some first part)
    (pairs.told (parse doc) all read.0 (omega (arith, short, size, first.adds.left)) (omega (arith, small, length-append x y, read.1))
    (shows_next _ _ _ _ a.place b.place x y head.calm read.1 shows)))) (on_ok_map r _ _ (document_came code head.calm list head.stood) pairs.stood)

-- only a symbol of a word is added where a pair is held
pub words_held : (code : TextCode) (symbol word size : ℕ) (old new : Listing) → symbol < length code.words.pieces → Adds (symbol_if symbol word) size old new →
    AreOfWords code old.symbols → AreOfWords code new.symbols
words_held code symbol word size old new lt held before =
    subst (AreOfWords code) (sym held.symbols_are) (words_more code old.symbols (symbol_if symbol word) before (symbol_of_word code symbol word lt))
