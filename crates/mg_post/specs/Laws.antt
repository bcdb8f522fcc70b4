-- Parts that hold lists, and lists of them that stand where the lists before them end.
use Rattle.std.specs.Prelude.{◌≡◌, ℕ, ◌-◌, ◌*◌, ◌/◌, ◌^◌, ◌<◌, ◌≤◌, List, length, take, slice_get, flat_map, Some}
use Rattle.mg_defs.specs.declared.Posting.{Posting}
use Rattle.mg_defs.specs.Bits.{bits_of}
use Rattle.mg_defs.specs.Codes.{golomb_parameter}
use Rattle.mg_defs.specs.Split.{documents}
use Rattle.mg_defs.specs.Terms.{dictionary}
use Rattle.mg_defs.specs.Lists.{Rises, block_count, entry_bits, lists_bits, lists_entries, postings, post_bits, skip_bits, list_byte, first_entry}
use Rattle.mg_post.specs.Stands.{ListStands}

-- a fact on lists, the list of a number among them, and two parts that hold them and their skip entries
abbrev pub ForHeld : (ℕ → List (List Posting) → ℕ → List Posting → List ℕ → List ℕ → Type 0) → Type 0
ForHeld fact = (all n : ℕ) (lists : List (List Posting)) (ps : List Posting) (post skip : List ℕ) →
    bits_of post ≡ lists_bits all lists → bits_of skip ≡ flat_map entry_bits (lists_entries all lists) →
    slice_get lists n ≡ Some ps → Rises all 0 ps → all < 2 ^ 32 - 1 → length (lists_bits all lists) ≤ 2 ^ 63 →
    fact all lists n ps post skip

-- the list of a number among these lists stands behind those before it
abbrev pub StandsAmong : ℕ → List (List Posting) → ℕ → List Posting → List ℕ → List ℕ → Type 0
StandsAmong all lists n ps post skip = ListStands all (golomb_parameter all (length ps)) (Some post) (Some skip)
    (8 * (length (lists_bits all (take n lists)) / 8)) (length (lists_entries all (take n lists))) (length ps)
    (block_count (length ps)) ps

-- a fact on the term of a number, where two parts hold the lists of its collection
abbrev pub WhereListsHeld : List ℕ → ℕ → List ℕ → List ℕ → List ℕ → Type 0 → Type 0
WhereListsHeld collection n t post skip fact = length collection < 2 ^ 32 → length (documents collection) < 2 ^ 32 - 1 →
    bits_of post ≡ post_bits collection → bits_of skip ≡ skip_bits collection →
    slice_get (dictionary collection) n ≡ Some t → length (post_bits collection) ≤ 2 ^ 63 → fact

-- the list of a term stands where the lexicon says
abbrev pub TermListStands : List ℕ → ℕ → List ℕ → List ℕ → List ℕ → Type 0
TermListStands collection n t post skip =
    ListStands (length (documents collection))
    (golomb_parameter (length (documents collection)) (length (postings collection t))) (Some post) (Some skip)
    (8 * list_byte collection n) (first_entry collection n) (length (postings collection t))
    (block_count (length (postings collection t))) (postings collection t)

-- a fact where a collection is within the limits
abbrev pub WhereFew : List ℕ → Type 0 → Type 0
WhereFew collection fact = length collection < 2 ^ 32 → length (documents collection) ≤ 2 ^ 24 →
    length (dictionary collection) ≤ 2 ^ 22 → fact
