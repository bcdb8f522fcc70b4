-- What a tally tells of the pieces of documents, and what is counted where it is put into vocabularies.
use Rattle.std.proofs.Common.{arith, ◌≡◌, ◌<◌, ◌+◌, ◌++◌, ◌∙◌, ℕ, zero, suc, Bool, true, false, cond, if◌then◌else◌, List, [], ◌∷◌, length, map, take, get_or, replicate, Some, Result, Ok, Err, is_ok, refl, sym, ap, subst}
use Rattle.std.specs.Prelude.{OnOk, slice_get}
use Rattle.std.specs.Bool.{OnTrue}
use Rattle.std.specs.List.{AllByRecursion, flat_map}
use Rattle.std.specs.Str.{bytes_eq}
use Rattle.std.proofs.lemmas.Cmp.{nat_list_eq_equiv}
use Rattle.std.proofs.lemmas.List.{length-replicate, length-set, map-append}
use Rattle.std.proofs.lemmas.Option.{slice_get_within}
use Rattle.std.proofs.lemmas.List.Sums.{sum_by-cons}
use Rattle.mg_defs.specs.CodedText.{TextCode}
use Rattle.mg_defs.specs.Parse.{Pair, parse}
use Rattle.mg_defs.specs.Sorted.{number_of}
use Rattle.mg_defs.specs.Vocabulary.{count_in, entry_count, piece_of_pair, pieces_in}
use Rattle.mg_defs.specs.declared.Stream.{Stream}
use Rattle.mg_defs.specs.declared.Stream.TheVariants.{Others, Words}
use Rattle.mg_defs.proofs.SortedLaws.{same-is}
use Rattle.mg_model.specs.Vocabularies.{counted_times}
use Rattle.mg_text.specs.CountedText.{ComeMore, ComesMore, tallied}
use Rattle.mg_text.specs.Decoding.{PairsIn}
use Rattle.mg_text.specs.PieceCounts.{IsNoTally, PieceTally, one_more, with_pair, with_pairs}

-- so many where it is so, and else none
abbrev if_so : Bool → ℕ → ℕ
if_so b n = if b then n else 0

-- ---- one symbol more

one_if : (b : Bool) (n rest : ℕ) → if_so b (n + 1) + rest ≡ (if_so b n + rest) + if_so b 1
one_if true n rest = omega arith
one_if false n rest = omega arith

tallied_one : (pieces : List (List ℕ)) (numbers : List ℕ) (place : ℕ) (piece q : List ℕ) → slice_get pieces place ≡ Some piece → place < length numbers →
    tallied pieces (one_more place numbers) q ≡ tallied pieces numbers q + if_so (bytes_eq q piece) 1
tallied_one [] numbers place piece q at low = absurd cc
tallied_one (p ∷ pieces) [] place piece q at low = absurd (omega (arith, low))
tallied_one (p ∷ pieces) (n ∷ numbers) zero piece q at low =
    let same : p ≡ piece = cc in
    subst (λ x. if_so (bytes_eq q p) (n + 1) + tallied pieces numbers q ≡ (if_so (bytes_eq q p) n + tallied pieces numbers q) + if_so (bytes_eq q x) 1) same
    (one_if (bytes_eq q p) n (tallied pieces numbers q))
tallied_one (p ∷ pieces) (n ∷ numbers) (suc place) piece q at low =
    let rest = tallied_one pieces numbers place piece q at (omega (arith, low)) in
    omega (arith, rest)

-- ---- pieces

-- these pieces more
abbrev with_all : List (List ℕ) → List (List ℕ) → List ℕ → List ℕ
with_all pieces [] numbers = numbers
with_all pieces (x ∷ xs) numbers = with_all pieces xs (one_more (number_of pieces x) numbers)

-- each stands among them at its number
abbrev AreIn : List (List ℕ) → List (List ℕ) → Type 0
AreIn pieces xs = AllByRecursion (λ x. slice_get pieces (number_of pieces x) ≡ Some x) xs

all_tallied : (pieces xs : List (List ℕ)) (numbers : List ℕ) (q : List ℕ) → AreIn pieces xs → length numbers ≡ length pieces →
    tallied pieces (with_all pieces xs numbers) q ≡ tallied pieces numbers q + count_in xs q
all_tallied pieces [] numbers q all long =
    let none : count_in [] q ≡ 0 = refl in
    omega (arith, none)
all_tallied pieces (x ∷ xs) numbers q all long =
    let place = number_of pieces x in
    let low : place < length numbers = omega (arith, slice_get_within pieces place x all.0, long) in
    let one : tallied pieces (one_more place numbers) q ≡ tallied pieces numbers q + cond (bytes_eq q x) 1 0 = tallied_one pieces numbers place x q all.0 low in
    let rest = all_tallied pieces xs (one_more place numbers) q all.1 (length-set numbers place _ ∙ long) in
    let count : count_in (x ∷ xs) q ≡ cond (bytes_eq q x) 1 0 + count_in xs q = sum_by-cons (λ r. cond (bytes_eq q r) 1 0) x xs in
    omega (arith, one, rest, count)

zero_if : (b : Bool) → if_so b 0 ≡ 0
zero_if true = refl
zero_if false = refl

none_tallied : (pieces : List (List ℕ)) (n : ℕ) (q : List ℕ) → tallied pieces (replicate n 0) q ≡ 0
none_tallied [] n q = refl
none_tallied (p ∷ pieces) zero q = refl
none_tallied (p ∷ pieces) (suc n) q = omega (arith, zero_if (bytes_eq q p), none_tallied pieces n q)

stream_tallied : (pieces xs : List (List ℕ)) (before : List ℕ) (q : List ℕ) → AreIn pieces xs → before ≡ replicate (length pieces) 0 →
    tallied pieces (with_all pieces xs before) q ≡ count_in xs q
stream_tallied pieces xs before q all none =
    let start : tallied pieces before q ≡ 0 = ap (λ l. tallied pieces l q) none ∙ none_tallied pieces (length pieces) q in
    omega (arith, start, all_tallied pieces xs before q all (ap length none ∙ length-replicate (length pieces) 0))

-- ---- pairs

words_are : (code : TextCode) (ps : List Pair) (t : PieceTally) → (with_pairs code ps t).words ≡ with_all code.words.pieces (map (piece_of_pair Words) ps) t.words
words_are code [] t = refl
words_are code (p ∷ ps) t = words_are code ps (with_pair code p t)

others_are : (code : TextCode) (ps : List Pair) (t : PieceTally) → (with_pairs code ps t).others ≡ with_all code.others.pieces (map (piece_of_pair Others) ps) t.others
others_are code [] t = refl
others_are code (p ∷ ps) t = others_are code ps (with_pair code p t)

words_in : (code : TextCode) (ps : List Pair) → PairsIn code ps → AreIn code.words.pieces (map (piece_of_pair Words) ps)
words_in code [] all = tt
words_in code (p ∷ ps) all = (all.0.word, words_in code ps all.1)

others_in : (code : TextCode) (ps : List Pair) → PairsIn code ps → AreIn code.others.pieces (map (piece_of_pair Others) ps)
others_in code [] all = tt
others_in code (p ∷ ps) all = (all.0.other, others_in code ps all.1)

-- ---- documents

pieces_of_docs : (kind : Stream) (docs : List (List ℕ)) → map (piece_of_pair kind) (flat_map parse docs) ≡ flat_map (pieces_in kind) docs
pieces_of_docs kind [] = refl
pieces_of_docs kind (d ∷ docs) = map-append (piece_of_pair kind) (parse d) (flat_map parse docs) ∙ ap (λ l. pieces_in kind d ++ l) (pieces_of_docs kind docs)

-- the tally of their pairs tells how often each word comes in documents, and each other
pub words_tallied : (code : TextCode) (docs : List (List ℕ)) (before t : PieceTally) → IsNoTally code before → PairsIn code (flat_map parse docs) →
    t ≡ with_pairs code (flat_map parse docs) before → (q : List ℕ) → tallied code.words.pieces t.words q ≡ count_in (flat_map (pieces_in Words) docs) q
words_tallied code docs before t none all is q =
    ap (λ (x : PieceTally). tallied code.words.pieces x.words q) is ∙ ap (λ l. tallied code.words.pieces l q) (words_are code (flat_map parse docs) before)
    ∙ stream_tallied code.words.pieces _ before.words q (words_in code (flat_map parse docs) all) none.0 ∙ ap (λ l. count_in l q) (pieces_of_docs Words docs)

pub others_tallied : (code : TextCode) (docs : List (List ℕ)) (before t : PieceTally) → IsNoTally code before → PairsIn code (flat_map parse docs) →
    t ≡ with_pairs code (flat_map parse docs) before → (q : List ℕ) → tallied code.others.pieces t.others q ≡ count_in (flat_map (pieces_in Others) docs) q
others_tallied code docs before t none all is q =
    ap (λ (x : PieceTally). tallied code.others.pieces x.others q) is ∙ ap (λ l. tallied code.others.pieces l q) (others_are code (flat_map parse docs) before)
    ∙ stream_tallied code.others.pieces _ before.others q (others_in code (flat_map parse docs) all) none.1 ∙ ap (λ l. count_in l q) (pieces_of_docs Others docs)

both_in : (code : TextCode) (one two : List Pair) → PairsIn code one → PairsIn code two → PairsIn code (one ++ two)
both_in code [] two all more = more
both_in code (p ∷ one) two all more = (all.0, both_in code one two all.1 more)

pub docs_in : (code : TextCode) (docs : List (List ℕ)) → ((i : ℕ) → i < length docs → PairsIn code (parse (get_or docs i []))) → PairsIn code (flat_map parse docs)
docs_in code [] each = tt
docs_in code (d ∷ docs) each = both_in code (parse d) (flat_map parse docs) (each 0 (omega arith)) (docs_in code docs (λ i lt. each (suc i) (omega (arith, lt))))

-- ---- a vocabulary

more_if : (here there : Bool) (n m rest : ℕ) → here ≡ there → (if here then m + n else rest) ≡ (if here then m else rest) + if_so there n
more_if true true n m rest same = refl
more_if false false n m rest same = omega arith
more_if true false n m rest same = absurd cc
more_if false true n m rest same = absurd cc

other_if : (here there : Bool) (n m rest rest_now : ℕ) → (here ≡ true → there ≡ false) → rest_now ≡ rest + if_so there n →
    (if here then m else rest_now) ≡ (if here then m else rest) + if_so there n
other_if true true n m rest rest_now other is = let no : true ≡ false = other refl in absurd cc
other_if true false n m rest rest_now other is = omega arith
other_if false there n m rest rest_now other is = is

-- a piece that was counted so many times more
entry_counted : (piece : List ℕ) (times : ℕ) (es : List (List ℕ × ℕ)) → ComesMore piece times es (counted_times piece times es)
entry_counted piece times [] q = omega arith
entry_counted piece times (e ∷ es) q = by (bytes_eq piece e.0) refl (entry_counted piece times es q)
  where
    by : (b : Bool) → bytes_eq piece e.0 ≡ b → entry_count (counted_times piece times es) q ≡ entry_count es q + if_so (bytes_eq q piece) times →
        entry_count (if b then (e.0, e.1 + times) ∷ es else e ∷ counted_times piece times es) q ≡ entry_count (e ∷ es) q + if_so (bytes_eq q piece) times
    by true is rest = more_if (bytes_eq q e.0) (bytes_eq q piece) times e.1 (entry_count es q) (ap (bytes_eq q) (sym (same-is piece e.0 is)))
    by false isnt rest = other_if (bytes_eq q e.0) (bytes_eq q piece) times e.1 (entry_count es q) (entry_count (counted_times piece times es) q)
        (λ here. ap (λ x. bytes_eq x piece) (same-is q e.0 here) ∙ nat_list_eq_equiv.symm e.0 piece ∙ isnt) rest

-- it was counted where there was room for it
pub put_counted : {E : Type 0} (r : Result (Unit {0}) E) (put : Bool) (piece : List ℕ) (times : ℕ) (es before now : List (List ℕ × ℕ)) → put ≡ is_ok r → es ≡ before →
    OnOk r (now ≡ counted_times piece times es) → OnTrue put (ComesMore piece times before now)
put_counted (Ok done) true piece times es before now is same counted =
    subst (λ v. ComesMore piece times v now) same (subst (ComesMore piece times es) (sym counted) (entry_counted piece times es))
put_counted (Ok done) false piece times es before now is same counted = tt
put_counted (Err refusal) true piece times es before now is same counted = absurd cc
put_counted (Err refusal) false piece times es before now is same counted = tt

-- ---- symbol by symbol

tallied_more : (pieces : List (List ℕ)) (numbers : List ℕ) (i n : ℕ) (piece q : List ℕ) → slice_get pieces i ≡ Some piece → i < length numbers → n ≡ get_or numbers i 0 →
    tallied (take (suc i) pieces) (take (suc i) numbers) q ≡ tallied (take i pieces) (take i numbers) q + if_so (bytes_eq q piece) n
tallied_more [] numbers i n piece q at low is = absurd cc
tallied_more (p ∷ pieces) [] i n piece q at low is = absurd (omega (arith, low))
tallied_more (p ∷ pieces) (m ∷ numbers) zero n piece q at low is =
    let same : p ≡ piece = cc in
    let one : if_so (bytes_eq q p) m ≡ if_so (bytes_eq q piece) n = ap (λ x. if_so (bytes_eq q x) m) same ∙ ap (if_so (bytes_eq q piece)) (sym is) in
    omega (arith, one)
tallied_more (p ∷ pieces) (m ∷ numbers) (suc i) n piece q at low is =
    let rest = tallied_more pieces numbers i n piece q at (omega (arith, low)) is in
    omega (arith, rest)

pub put_more : (pieces : List (List ℕ)) (numbers : List ℕ) (i n : ℕ) (piece : List ℕ) (old mid new : List (List ℕ × ℕ)) → slice_get pieces i ≡ Some piece → i < length numbers →
    n ≡ get_or numbers i 0 → ComeMore (take i pieces) (take i numbers) old mid → ComesMore piece n mid new → ComeMore (take (i + 1) pieces) (take (i + 1) numbers) old new
put_more pieces numbers i n piece old mid new at low is before one =
    let next : suc i ≡ i + 1 = omega arith in
    subst (λ k. ComeMore (take k pieces) (take k numbers) old new) next
    (λ q. omega (arith, before q, one q, tallied_more pieces numbers i n piece q at low is))
