-- Each collection within the limits has codes of Huffman's cost, and so it has parts.
use Rattle.std.proofs.Common.{◌≡◌, ◌⊎◌, inl, inr, ℕ, ◌<◌, ◌≤◌, ◌^◌, true, cond, List, [], ◌∷◌, length, sum, map}
use Rattle.std.proofs.Common.{refl, sym, ap, ◌∙◌, subst, arith, get_or, replicate}
use Rattle.std.specs.Prelude.{All, Contains, sum_by}
use Rattle.std.specs.List.{AllByRecursion, list_any}
use Rattle.std.proofs.Math.ListN.{length-replicate}
use Rattle.std.proofs.lemmas.List.{get_or-replicate, length-map}
use Rattle.std.proofs.lemmas.List.Concat.{length-flat_map}
use Rattle.std.proofs.lemmas.List.Elements.{All-map, All-weaker, recursion_from_All}
use Rattle.std.proofs.lemmas.List.Sums.{get_or-le-sum_by, sum-map, sum_by-cons}
use Rattle.std.specs.Str.{bytes_eq}
use Rattle.mg_defs.specs.declared.Stream.{Stream}
use Rattle.mg_defs.specs.declared.Stream.TheVariants.{Words, Others}
use Rattle.mg_defs.specs.Bits.{as_bytes}
use Rattle.mg_defs.specs.CodedText.{IsCodeOf, IsHuffman, StreamCode, TextCode, pieces_part, places_part, text_part}
use Rattle.mg_defs.specs.Cost.{cost_of}
use Rattle.mg_defs.specs.Heads.{head_bytes}
use Rattle.mg_defs.specs.Lexicon.{lex_at_part, lex_part}
use Rattle.mg_defs.specs.Limits.{greatest_cap, least_cap, limits}
use Rattle.mg_defs.specs.Lists.{skip_bits}
use Rattle.mg_defs.specs.Occurrences.{occurrences}
use Rattle.mg_defs.specs.Parse.{parse}
use Rattle.mg_defs.specs.RunBits.{run_part_bits}
use Rattle.mg_defs.specs.Sorted.{number_of, sorted_distinct}
use Rattle.mg_defs.specs.Split.{documents}
use Rattle.mg_defs.specs.Stands.{AreParts, Parts, head_of, post_part, weights_part}
use Rattle.mg_defs.specs.Vocabulary.{all_pieces, count_in, piece_counts, piece_of_pair, pieces_in, sorted_pieces}
use Rattle.mg_defs.specs.WithinLimits.{IsWithinLimits}
use Rattle.mg_defs.proofs.SortedLaws.{all-from, has-from, has-sorted, number-found, same-refl}
use Rattle.mg_defs.proofs.TextBitsLaws.{cost-of_pieces}
use Rattle.mg_defs.proofs.VocabularyLaws.{distinct-sorted}
use Rattle.mg_laws.proofs.SizeLaws.{few_pairs}

-- What is so of codes in mg_huff.
abbrev pub HaveCodes : Type 0
HaveCodes = (counts : List ℕ) → All (λ c. 1 ≤ c) counts → sum counts < 2 ^ 32 → (lengths : List ℕ) × IsHuffman counts lengths

-- ---- each piece comes once or more

some_count : (pieces : List (List ℕ)) (piece : List ℕ) → Contains pieces piece → 1 ≤ count_in pieces piece
some_count pieces piece c =
    subst (λ b. cond b 1 0 ≤ count_in pieces piece) (ap (λ q. bytes_eq piece q) c.2 ∙ same-refl piece)
    (get_or-le-sum_by (λ q. cond (bytes_eq piece q) 1 0) pieces c.0 piece c.1)

counts_some : (pieces : List (List ℕ)) → All (λ c. 1 ≤ c) (map (count_in pieces) (sorted_distinct pieces))
counts_some pieces =
    let there = all-from (sorted_distinct pieces) pieces (λ s i. sym (has-sorted pieces s) ∙ i) in
    All-map (λ c. 1 ≤ c) (count_in pieces) (sorted_distinct pieces)
    (All-weaker (Contains pieces) (λ s. 1 ≤ count_in pieces s) (λ s c. some_count pieces s c) (sorted_distinct pieces) there)

-- ---- all counts together are the pieces, by a code that gives each piece one bit

cost_of_ones : (counts : List ℕ) → cost_of counts (replicate (length counts) 1) ≡ sum counts
cost_of_ones [] = refl
cost_of_ones (c ∷ counts) = omega (arith, cost_of_ones counts, sum_by-cons (λ x. x) c counts)

each_one : (sorted pieces : List (List ℕ)) → AllByRecursion (λ p. list_any (bytes_eq p) sorted ≡ true) pieces →
    sum_by (λ p. get_or (replicate (length sorted) 1) (number_of sorted p) 0) pieces ≡ length pieces
each_one sorted [] there = refl
each_one sorted (p ∷ pieces) there =
    let bits : List ℕ → ℕ = λ q. get_or (replicate (length sorted) 1) (number_of sorted q) 0 in
    sum_by-cons bits p pieces ∙ omega (arith, get_or-replicate {A = ℕ} (length sorted) (number_of sorted p) 1 0 (number-found sorted p there.0).0, each_one sorted pieces there.1)

all_counts : (pieces : List (List ℕ)) → sum (map (count_in pieces) (sorted_distinct pieces)) ≡ length pieces
all_counts pieces =
    let sorted : List (List ℕ) = sorted_distinct pieces in
    let counts : List ℕ = map (count_in pieces) sorted in
    let there = recursion_from_All (λ p. list_any (bytes_eq p) sorted ≡ true) pieces
    (All-weaker (Contains sorted) (λ p. list_any (bytes_eq p) sorted ≡ true) (λ p c. has-from sorted p c) pieces (all-from pieces sorted (λ s i. has-sorted pieces s ∙ i))) in
    let cost = cost-of_pieces sorted pieces (replicate (length sorted) 1) (length-replicate (length sorted) 1) (distinct-sorted pieces) there in
    let ones : cost_of counts (replicate (length sorted) 1) ≡ sum counts =
    subst (λ n. cost_of counts (replicate n 1) ≡ sum counts) (length-map sorted (count_in pieces)) (cost_of_ones counts) in
    sym ones ∙ sym cost ∙ each_one sorted pieces there

few_pieces : (kind : Stream) (ds : List (List ℕ)) → sum_by (λ doc. length (pieces_in kind doc)) ds ≡ sum (map (λ doc. length (parse doc)) ds)
few_pieces kind [] = refl
few_pieces kind (doc ∷ ds) =
    sum_by-cons (λ d. length (pieces_in kind d)) doc ds ∙ omega (
      arith,
      length-map (parse doc) (piece_of_pair kind),
      few_pieces kind ds,
      sum_by-cons (λ n. n) (length (parse doc)) (map (λ d. length (parse d)) ds),
    )

pieces_within : (kind : Stream) (collection : List ℕ) → length (all_pieces kind collection) ≤ length collection
pieces_within kind collection =
    omega (arith, length-flat_map (pieces_in kind) (documents collection), few_pieces kind (documents collection), few_pairs collection)

-- ---- the codes and the parts

small : (version : ℕ) (collection : List ℕ) → (version ≡ 1) ⊎ (version ≡ 2) → IsWithinLimits version collection → length collection < 2 ^ 32
small version collection (inl one) within = let h = subst (λ v. length collection ≤ (limits v).collection) one within.bytes in omega arith
small version collection (inr two) within = let h = subst (λ v. length collection ≤ (limits v).collection) two within.bytes in omega arith

code_of : HaveCodes → (kind : Stream) (collection : List ℕ) → length collection < 2 ^ 32 → (code : StreamCode) × IsCodeOf kind collection code
code_of codes kind collection few =
    let pieces : List (List ℕ) = all_pieces kind collection in
    let some = codes (piece_counts kind collection) (counts_some pieces) (omega (arith, all_counts pieces, pieces_within kind collection)) in
    (record { pieces = sorted_pieces kind collection; lengths = some.0 }, record { pieces = refl; lengths = some.1 })

-- the parts of a collection with these codes
abbrev pub parts_of : ℕ → ℕ → TextCode → List ℕ → Parts
parts_of version cap code collection = record {
  head = head_bytes (head_of version cap code collection);
  words = pieces_part code.words;
  nonwords = pieces_part code.others;
  text = text_part code collection;
  places = places_part version code collection;
  lex = lex_part collection;
  lex_at = lex_at_part collection;
  post = post_part collection;
  skip = as_bytes (skip_bits collection);
  weights = weights_part collection;
  run = as_bytes (run_part_bits cap (occurrences collection));
}

pub parts : HaveCodes → (version cap : ℕ) (collection : List ℕ) → (version ≡ 1) ⊎ (version ≡ 2) → least_cap ≤ cap → cap ≤ greatest_cap →
    IsWithinLimits version collection → (code : TextCode) × (it : Parts) × AreParts version cap code it collection
parts codes version cap collection is low high within =
    let few = small version collection is within in
    let words = code_of codes Words collection few in
    let others = code_of codes Others collection few in
    let code : TextCode = record { words = words.0; others = others.0 } in (
      code,
      parts_of version cap code collection,
      record {
        version_is = is;
        limits = within;
        cap_low = low;
        cap_high = high;
        code_is = (words.1, others.1);
        head = refl;
        words = refl;
        nonwords = refl;
        text = refl;
        places = refl;
        lex = refl;
        lex_at = refl;
        post = refl;
        skip = refl;
        weights = refl;
        run = refl;
      },
    )
