-- What is met in a whole collection.
use Rattle.std.proofs.Common.{◌≡◌, ◌+◌, ◌*◌, ◌/◌, ◌++◌, ◌∷◌, ℕ, zero, suc, Bool, true, false, List, [], refl, sym, ap, ◌∙◌, map, length, append-nil, append_assoc, arith, drop, get_or, cond}
use Rattle.std.specs.Prelude.{filter, not, Some, None}
use Rattle.std.specs.List.{flat_map}
use Rattle.mg_defs.specs.declared.Stream.{Stream}
use Rattle.mg_defs.specs.declared.Stream.TheVariants.{Words, Others}
use Rattle.mg_defs.specs.Bits.{Bits}
use Rattle.mg_defs.specs.Codes.{gamma}
use Rattle.mg_defs.specs.CodedText.{TextCode, codeword_of, coded_pair, coded_doc}
use Rattle.mg_defs.specs.Occurrences.{occurrences}
use Rattle.mg_defs.specs.Sorted.{number_of}
use Rattle.mg_defs.specs.Terms.{dictionary, folded, is_empty, terms, terms_of_words}
use Rattle.mg_defs.specs.Parse.{Pair, parse}
use Rattle.mg_defs.specs.Split.{documents}
use Rattle.mg_defs.specs.Vocabulary.{all_pieces, piece_of_pair, pieces_in}
use Rattle.mg_defs.specs.Marks.{Mark, start, piece, stop, marks, marks_of_document, marks_of_pairs, pieces_among, starts, pairs_from, piece_count_from, pair_counts, open_at, is_open_after, piece_bits, coded_from, open_from, term_in, with_doc, terms_from}
use Rattle.mg_laws.proofs.InOrderLaws.{met_from}

pub pieces_append : (kind : Stream) (a b : List Mark) → pieces_among kind (a ++ b) ≡ pieces_among kind a ++ pieces_among kind b
pieces_append kind [] b = refl
pieces_append kind (start ∷ a) b = pieces_append kind a b
pieces_append kind (stop ∷ a) b = pieces_append kind a b
pieces_append Words (piece Words x ∷ a) b = ap (λ r. x ∷ r) (pieces_append Words a b)
pieces_append Words (piece Others x ∷ a) b = pieces_append Words a b
pieces_append Others (piece Words x ∷ a) b = pieces_append Others a b
pieces_append Others (piece Others x ∷ a) b = ap (λ r. x ∷ r) (pieces_append Others a b)

pieces_of_pairs : (kind : Stream) (ps : List Pair) → pieces_among kind (marks_of_pairs ps) ≡ map (piece_of_pair kind) ps
pieces_of_pairs Words [] = refl
pieces_of_pairs Others [] = refl
pieces_of_pairs Words (p ∷ ps) = ap (λ r. p.word ∷ r) (pieces_of_pairs Words ps)
pieces_of_pairs Others (p ∷ ps) = ap (λ r. p.other ∷ r) (pieces_of_pairs Others ps)

none_at_stop : (kind : Stream) → pieces_among kind (stop ∷ []) ≡ []
none_at_stop Words = refl
none_at_stop Others = refl

pub pieces_of_document : (kind : Stream) (doc : List ℕ) → pieces_among kind (marks_of_document doc) ≡ pieces_in kind doc
pieces_of_document kind doc =
    pieces_append kind (marks_of_pairs (parse doc)) (stop ∷ []) ∙ ap (λ r. pieces_among kind (marks_of_pairs (parse doc)) ++ r) (none_at_stop kind)
    ∙ append-nil (pieces_among kind (marks_of_pairs (parse doc))) ∙ pieces_of_pairs kind (parse doc)

pub pieces_of_documents : (kind : Stream) (docs : List (List ℕ)) → pieces_among kind (flat_map marks_of_document docs) ≡ flat_map (pieces_in kind) docs
pieces_of_documents Words [] = refl
pieces_of_documents Others [] = refl
pieces_of_documents kind (doc ∷ docs) =
    pieces_append kind (marks_of_document doc) (flat_map marks_of_document docs)
    ∙ ap (λ r. r ++ pieces_among kind (flat_map marks_of_document docs)) (pieces_of_document kind doc) ∙ ap (λ r. pieces_in kind doc ++ r) (pieces_of_documents kind docs)

pub marks_have_pieces : (kind : Stream) (collection : List ℕ) → pieces_among kind (marks collection) ≡ all_pieces kind collection
marks_have_pieces kind collection = pieces_of_documents kind (documents collection)

pub starts_append : (a b : List Mark) → starts (a ++ b) ≡ starts a + starts b
starts_append [] b = omega arith
starts_append (start ∷ a) b = let e = starts_append a b in omega arith
starts_append (piece kind x ∷ a) b = starts_append a b
starts_append (stop ∷ a) b = starts_append a b

starts_of_pairs : (ps : List Pair) → starts (marks_of_pairs ps ++ stop ∷ []) ≡ 0
starts_of_pairs [] = refl
starts_of_pairs (p ∷ ps) = starts_of_pairs ps

starts_of_documents : (docs : List (List ℕ)) → starts (flat_map marks_of_document docs) ≡ length docs
starts_of_documents [] = refl
starts_of_documents (doc ∷ docs) =
    let e = starts_append (marks_of_document doc) (flat_map marks_of_document docs) in
    let one = starts_of_pairs (parse doc) in
    let rest = starts_of_documents docs in
    omega arith

pub marks_have_documents : (collection : List ℕ) → starts (marks collection) ≡ length (documents collection)
marks_have_documents collection = starts_of_documents (documents collection)

-- ---- one list of marks after another

pub pieces_from_append : (n : ℕ) (a b : List Mark) → piece_count_from n (a ++ b) ≡ piece_count_from (piece_count_from n a) b
pieces_from_append n [] b = refl
pieces_from_append n (start ∷ a) b = pieces_from_append 0 a b
pieces_from_append n (piece kind x ∷ a) b = pieces_from_append (n + 1) a b
pieces_from_append n (stop ∷ a) b = pieces_from_append 0 a b

pub pairs_append : (n : ℕ) (a b : List Mark) → pairs_from n (a ++ b) ≡ pairs_from n a ++ pairs_from (piece_count_from n a) b
pairs_append n [] b = refl
pairs_append n (start ∷ a) b = pairs_append 0 a b
pairs_append n (piece kind x ∷ a) b = pairs_append (n + 1) a b
pairs_append n (stop ∷ a) b = ap (λ r. n / 2 ∷ r) (pairs_append 0 a b)

pub open_at_append : (now : Bool) (a b : List Mark) → open_at now (a ++ b) ≡ open_at (open_at now a) b
open_at_append now [] b = refl
open_at_append now (start ∷ a) b = open_at_append true a b
open_at_append now (piece kind x ∷ a) b = open_at_append now a b
open_at_append now (stop ∷ a) b = open_at_append false a b

abbrev no_pairs : List ℕ
no_pairs = []

drop_none : (n : ℕ) → drop n no_pairs ≡ no_pairs
drop_none zero = refl
drop_none (suc n) = refl

drop_more : (n : ℕ) (ns : List ℕ) → drop n (drop 1 ns) ≡ drop (1 + n) ns
drop_more n [] = drop_none n ∙ sym (drop_none (1 + n))
drop_more n (m ∷ ns) = let e : 1 + n ≡ suc n = omega arith in sym (ap (λ k. drop k (m ∷ ns)) e)

pub open_append : (code : TextCode) (pairs : List ℕ) (bits : Bits) (a b : List Mark) → open_from code pairs bits (a ++ b) ≡ open_from code (drop (starts a) pairs) (open_from code pairs bits a) b
open_append code pairs bits [] b = refl
open_append code pairs bits (start ∷ a) b =
    open_append code (drop 1 pairs) (gamma (get_or pairs 0 0 + 1)) a b ∙ ap (λ ns. open_from code ns (open_from code (drop 1 pairs) (gamma (get_or pairs 0 0 + 1)) a) b) (drop_more (starts a) pairs)
open_append code pairs bits (piece kind x ∷ a) b = open_append code pairs (bits ++ piece_bits code kind x) a b
open_append code pairs bits (stop ∷ a) b = open_append code pairs [] a b

pub coded_append : (code : TextCode) (pairs : List ℕ) (bits : Bits) (a b : List Mark) → coded_from code pairs bits (a ++ b) ≡ coded_from code pairs bits a
    ++ coded_from code (drop (starts a) pairs) (open_from code pairs bits a) b
coded_append code pairs bits [] b = refl
coded_append code pairs bits (start ∷ a) b =
    let first : Bits = gamma (get_or pairs 0 0 + 1) in
    coded_append code (drop 1 pairs) first a b ∙ ap (λ ns. coded_from code (drop 1 pairs) first a ++ coded_from code ns (open_from code (drop 1 pairs) first a) b) (drop_more (starts a) pairs)
coded_append code pairs bits (piece kind x ∷ a) b = coded_append code pairs (bits ++ piece_bits code kind x) a b
coded_append code pairs bits (stop ∷ a) b = ap (λ r. bits ∷ r) (coded_append code pairs [] a b)

pub terms_append : (strings : List (List ℕ)) (doc : ℕ) (a b : List Mark) → terms_from strings doc (a ++ b) ≡ terms_from strings doc a ++ terms_from strings (doc + starts a) b
terms_append strings doc [] b = let e : doc + 0 ≡ doc = omega arith in sym (ap (λ n. terms_from strings n b) e)
terms_append strings doc (start ∷ a) b =
    let e : doc + 1 + starts a ≡ doc + (1 + starts a) = omega arith in
    terms_append strings (doc + 1) a b ∙ ap (λ n. terms_from strings (doc + 1) a ++ terms_from strings n b) e
terms_append strings doc (piece Words x ∷ a) b =
    let first : List (ℕ × ℕ) = with_doc doc (term_in strings x) in
    ap (λ r. first ++ r) (terms_append strings doc a b) ∙ sym (append_assoc first (terms_from strings doc a) (terms_from strings (doc + starts a) b))
terms_append strings doc (piece Others x ∷ a) b = terms_append strings doc a b
terms_append strings doc (stop ∷ a) b = terms_append strings doc a b

-- ---- pairs

pairs_of_pairs : (n : ℕ) (ps : List Pair) (rest : List Mark) → pairs_from n ((marks_of_pairs ps ++ stop ∷ []) ++ rest) ≡ (n + 2 * length ps) / 2 ∷ pairs_from 0 rest
pairs_of_pairs n [] rest = let e : n ≡ n + 2 * 0 = omega arith in ap (λ m. m / 2 ∷ pairs_from 0 rest) e
pairs_of_pairs n (p ∷ ps) rest =
    let e : n + 1 + 1 + 2 * length ps ≡ n + 2 * length (p ∷ ps) = omega arith in
    pairs_of_pairs (n + 1 + 1) ps rest ∙ ap (λ m. m / 2 ∷ pairs_from 0 rest) e

pairs_of_documents : (docs : List (List ℕ)) → pairs_from 0 (flat_map marks_of_document docs) ≡ map (λ doc. length (parse doc)) docs
pairs_of_documents [] = refl
pairs_of_documents (doc ∷ docs) =
    let half : (0 + 2 * length (parse doc)) / 2 ≡ length (parse doc) = omega arith in
    pairs_of_pairs 0 (parse doc) (flat_map marks_of_document docs) ∙ ap (λ n. n ∷ pairs_from 0 (flat_map marks_of_document docs)) half ∙ ap (λ r. length (parse doc) ∷ r) (pairs_of_documents docs)

pub marks_have_pairs : (collection : List ℕ) → pairs_from 0 (marks collection) ≡ pair_counts collection
marks_have_pairs collection = pairs_of_documents (documents collection)

-- every document that was begun is ended
closed_of_pairs : (now : Bool) (ps : List Pair) (rest : List Mark) → open_at now ((marks_of_pairs ps ++ stop ∷ []) ++ rest) ≡ open_at false rest
closed_of_pairs now [] rest = refl
closed_of_pairs now (p ∷ ps) rest = closed_of_pairs now ps rest

closed_of_documents : (docs : List (List ℕ)) → open_at false (flat_map marks_of_document docs) ≡ false
closed_of_documents [] = refl
closed_of_documents (doc ∷ docs) = closed_of_pairs true (parse doc) (flat_map marks_of_document docs) ∙ closed_of_documents docs

pub marks_are_closed : (collection : List ℕ) → is_open_after (marks collection) ≡ false
marks_are_closed collection = closed_of_documents (documents collection)

-- ---- text

coded_of_pairs : (code : TextCode) (pairs : List ℕ) (bits : Bits) (ps : List Pair) (rest : List Mark) →
    coded_from code pairs bits ((marks_of_pairs ps ++ stop ∷ []) ++ rest) ≡ (bits ++ flat_map (coded_pair code) ps) ∷ coded_from code pairs [] rest
coded_of_pairs code pairs bits [] rest = ap (λ b. b ∷ coded_from code pairs [] rest) (sym (append-nil bits))
coded_of_pairs code pairs bits (p ∷ ps) rest =
    let word : Bits = codeword_of code.words p.word in
    let other : Bits = codeword_of code.others p.other in
    let joined : ((bits ++ word) ++ other) ++ flat_map (coded_pair code) ps ≡ bits ++ flat_map (coded_pair code) (p ∷ ps) =
    ap (λ b. b ++ flat_map (coded_pair code) ps) (append_assoc bits word other) ∙ append_assoc bits (word ++ other) (flat_map (coded_pair code) ps) in
    coded_of_pairs code pairs ((bits ++ word) ++ other) ps rest ∙ ap (λ b. b ∷ coded_from code pairs [] rest) joined

coded_of_documents : (code : TextCode) (docs : List (List ℕ)) → coded_from code (map (λ doc. length (parse doc)) docs) [] (flat_map marks_of_document docs) ≡ map (coded_doc code) docs
coded_of_documents code [] = refl
coded_of_documents code (doc ∷ docs) =
    coded_of_pairs code (map (λ d. length (parse d)) docs) (gamma (length (parse doc) + 1)) (parse doc) (flat_map marks_of_document docs)
    ∙ ap (λ r. coded_doc code doc ∷ r) (coded_of_documents code docs)

pub marks_have_text : (code : TextCode) (collection : List ℕ) → coded_from code (pair_counts collection) [] (marks collection) ≡ map (coded_doc code) (documents collection)
marks_have_text code collection = coded_of_documents code (documents collection)

nothing_of_pairs : (code : TextCode) (pairs : List ℕ) (bits : Bits) (ps : List Pair) (rest : List Mark) →
    open_from code pairs bits ((marks_of_pairs ps ++ stop ∷ []) ++ rest) ≡ open_from code pairs [] rest
nothing_of_pairs code pairs bits [] rest = refl
nothing_of_pairs code pairs bits (p ∷ ps) rest = nothing_of_pairs code pairs ((bits ++ codeword_of code.words p.word) ++ codeword_of code.others p.other) ps rest

nothing_of_documents : (code : TextCode) (pairs : List ℕ) (docs : List (List ℕ)) → open_from code pairs [] (flat_map marks_of_document docs) ≡ []
nothing_of_documents code pairs [] = refl
nothing_of_documents code pairs (doc ∷ docs) = nothing_of_pairs code (drop 1 pairs) (gamma (get_or pairs 0 0 + 1)) (parse doc) (flat_map marks_of_document docs)
    ∙ nothing_of_documents code (drop 1 pairs) docs

pub nothing_is_open : (code : TextCode) (pairs collection : List ℕ) → open_from code pairs [] (marks collection) ≡ []
nothing_is_open code pairs collection = nothing_of_documents code pairs (documents collection)

-- ---- occurrences

abbrev placed : List (List ℕ) → ℕ → List (List ℕ) → List (ℕ × ℕ)
placed strings doc ts = map (λ t. (number_of strings t, doc)) ts

terms_of_pairs : (strings : List (List ℕ)) (doc : ℕ) (ps : List Pair) (rest : List Mark) →
    terms_from strings doc ((marks_of_pairs ps ++ stop ∷ []) ++ rest) ≡ placed strings doc (terms_of_words (map (λ (p : Pair). p.word) ps))
    ++ terms_from strings doc rest
terms_of_pairs strings doc [] rest = refl
terms_of_pairs strings doc (p ∷ ps) rest =
    ap (λ r. with_doc doc (term_in strings p.word) ++ r) (terms_of_pairs strings doc ps rest) ∙ by_test (is_empty p.word)
  where
    ws : List (List ℕ)
    ws = filter (λ w. not (is_empty w)) (map (λ (q : Pair). q.word) ps)

    by_test : (b : Bool) → with_doc doc (cond b None (Some (number_of strings (folded p.word)))) ++ (placed strings doc (map folded ws) ++ terms_from strings doc rest)
        ≡ placed strings doc (map folded (cond (not b) (p.word ∷ ws) ws)) ++ terms_from strings doc rest
    by_test true = refl
    by_test false = refl

terms_of_documents : (strings : List (List ℕ)) (n : ℕ) (docs : List (List ℕ)) → terms_from strings n (flat_map marks_of_document docs) ≡ met_from (number_of strings) (n + 1) docs
terms_of_documents strings n [] = refl
terms_of_documents strings n (doc ∷ docs) =
    terms_of_pairs strings (n + 1) (parse doc) (flat_map marks_of_document docs) ∙ ap (λ r. placed strings (n + 1) (terms doc) ++ r) (terms_of_documents strings (n + 1) docs)

pub marks_have_occurrences : (collection : List ℕ) → terms_from (dictionary collection) 0 (marks collection) ≡ occurrences collection
marks_have_occurrences collection = terms_of_documents (dictionary collection) 0 (documents collection)
