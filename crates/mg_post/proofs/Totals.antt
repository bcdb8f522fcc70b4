-- What the lexicon tells of a list of a collection fits in its field.
use Rattle.std.proofs.Common.{arith, ◌^◌, ◌≤◌, ◌<◌, ℕ, List, length, take}
use Rattle.std.specs.List.{list_any}
use Rattle.std.proofs.lemmas.List.Concat.{length-flat_map}
use Rattle.std.proofs.lemmas.List.Sums.{count_by-le-length, sum_by-take-le}
use Rattle.mg_defs.specs.declared.Posting.{Posting}
use Rattle.mg_defs.specs.Bits.{filled}
use Rattle.mg_defs.specs.Split.{documents}
use Rattle.mg_defs.specs.Terms.{dictionary, docs, same_term, terms}
use Rattle.mg_defs.specs.Lists.{bits_of_list, inverted, list_byte, lists_bits}
pub use Rattle.mg_defs.proofs.StandLists.{entry_fits}
use Rattle.mg_defs.proofs.StandLists.{post_short}

pub byte_fits : (collection : List ℕ) (n : ℕ) → length collection < 2 ^ 32 → length (documents collection) ≤ 2 ^ 24 → length (dictionary collection) ≤ 2 ^ 22 → list_byte collection n < 2 ^ 64
unfolding lists_bits
byte_fits collection n short small few =
    let all = length (documents collection) in
    let f : List Posting → ℕ = λ ps. length (filled (bits_of_list all ps)) in
    omega (
      arith,
      length-flat_map (λ ps. filled (bits_of_list all ps)) (take n (inverted collection)),
      length-flat_map (λ ps. filled (bits_of_list all ps)) (inverted collection),
      sum_by-take-le f (inverted collection) n,
      post_short collection short small few,
    )

pub docs_fit : (collection t : List ℕ) → length (documents collection) ≤ 2 ^ 24 → docs collection t < 2 ^ 32
docs_fit collection t small = omega (arith, count_by-le-length (λ doc. list_any (same_term t) (terms doc)) (documents collection), small)
