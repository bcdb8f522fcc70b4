-- Laws of lists of postings.
use Rattle.std.proofs.Common.{arith, ◌≡◌, ◌+◌, ◌*◌, ◌≤◌, ◌<◌, ◌-◌, ℕ, zero, suc, subst, Bool, true, false, List, [], ◌∷◌, ◌++◌, length, take, drop, refl, sym, ◌∙◌, ap, ◌⊎◌, inl, inr, append_assoc, nat_lt, nat_le}
use Rattle.std.proofs.lemmas.List.{take-append-drop, take_all}
use Rattle.std.proofs.Math.Seq.{take-add}
use Rattle.std.proofs.lemmas.Bool.{cases_lt, cond_both, ltb-true}
use Rattle.std.proofs.lemmas.List.Sums.{count_by-le-length}
use Rattle.std.proofs.lemmas.List.{length-map}
use Rattle.std.proofs.lemmas.List.Elements.{filter-append}
use Rattle.std.proofs.lemmas.List.FromFn.{length-map-range_with_len, map-range_with_len_more}
use Rattle.mg_defs.specs.Parse.{Pair, parse}
use Rattle.mg_defs.proofs.ParseLaws.{parse_short}
use Rattle.std.specs.Prelude.{map, filter, ◌==◌, ◌^◌}
use Rattle.std.specs.List.{AllByRecursion, enumerate_from, onto_first}
use Rattle.mg_defs.specs.Split.{documents}
use Rattle.mg_defs.specs.Terms.{freq_in, same_term, terms}
use Rattle.mg_defs.specs.declared.Posting.{Posting}
use Rattle.mg_defs.specs.Bits.{Bits, Begins}
use Rattle.mg_defs.specs.Lists.{posting_bits, bits_after, last_doc, doc_before, bits_before, block_of, block_count, InRange, Rises, entries_to, entry_of, from_doc, postings}
use Rattle.mg_defs.proofs.FrontLaws.{begins_first, begins_second}
use Rattle.mg_defs.proofs.TermLaws.{words_short}

pub bits_append : (b d : ℕ) (us vs : List Posting) → bits_after b d (us ++ vs) ≡ bits_after b d us ++ bits_after b (last_doc d us) vs
unfolding bits_after last_doc
bits_append b d [] vs = refl
bits_append b d (p ∷ us) vs = rw (bits_append b p.doc us vs) (sym (append_assoc (posting_bits b d p) (bits_after b p.doc us) (bits_after b (last_doc p.doc us) vs)))

pub last_append : (d : ℕ) (a b : List Posting) → last_doc d (a ++ b) ≡ last_doc (last_doc d a) b
unfolding last_doc
last_append d [] b = refl
last_append d (p ∷ a) b = last_append p.doc a b

pub rises_left : (all d : ℕ) (a b : List Posting) → Rises all d (a ++ b) → Rises all d a
unfolding Rises
rises_left all d [] b h = tt
rises_left all d (p ∷ a) b h = (h.0, rises_left all p.doc a b h.1)

pub rises_right : (all d : ℕ) (a b : List Posting) → Rises all d (a ++ b) → Rises all (last_doc d a) b
unfolding Rises last_doc
rises_right all d [] b h = h
rises_right all d (p ∷ a) b h = rises_right all p.doc a b h.1

pub last_above : (all d : ℕ) (a : List Posting) → Rises all d a → d ≤ last_doc d a
unfolding Rises last_doc
last_above all d [] h = omega arith
last_above all d (p ∷ a) h = omega (arith, last_above all p.doc a h.1, h.0.after)

pub last_within : (all d : ℕ) (a : List Posting) → d ≤ all → Rises all d a → last_doc d a ≤ all
unfolding Rises last_doc
last_within all d [] le h = le
last_within all d (p ∷ a) le h = last_within all p.doc a h.0.within h.1

-- from after n postings stands the rest
pub rest_stands : (b n : ℕ) (ps : List Posting) (s : Bits) → Begins (bits_after b 0 ps) s → Begins (bits_after b (doc_before n ps) (drop n ps)) (drop (bits_before b n ps) s)
unfolding doc_before bits_before
rest_stands b n ps s h =
    let e : bits_after b 0 ps ≡ bits_after b 0 (take n ps) ++ bits_after b (last_doc 0 (take n ps)) (drop n ps) =
    ap (bits_after b 0) (sym (take-append-drop n ps)) ∙ bits_append b 0 (take n ps) (drop n ps) in
    begins_second (bits_after b 0 (take n ps)) _ s (rw e at h)

pub front_stands : (b m d : ℕ) (qs : List Posting) (s : Bits) → Begins (bits_after b d qs) s → Begins (bits_after b d (take m qs)) s
front_stands b m d qs s h =
    let e : bits_after b d qs ≡ bits_after b d (take m qs) ++ bits_after b (last_doc d (take m qs)) (drop m qs) =
    ap (bits_after b d) (sym (take-append-drop m qs)) ∙ bits_append b d (take m qs) (drop m qs) in
    begins_first (bits_after b d (take m qs)) _ s (rw e at h)

pub block_stands : (b : ℕ) (ps : List Posting) (k : ℕ) (bits : Bits) → Begins (bits_after b 0 ps) bits →
    Begins (bits_after b (doc_before (64 * k) ps) (block_of k ps)) (drop (bits_before b (64 * k) ps) bits)
unfolding block_of
block_stands b ps k bits h = front_stands b 64 _ (drop (64 * k) ps) _ (rest_stands b (64 * k) ps bits h)

-- what is left, from a document on
pub from_past : (all d doc : ℕ) (a b : List Posting) → Rises all d a → last_doc d a < doc → from_doc doc (a ++ b) ≡ from_doc doc b
unfolding Rises last_doc from_doc
from_past all d doc [] b h lt = refl
from_past all d doc (p ∷ a) b h lt =
    let low : p.doc ≤ last_doc p.doc a = last_above all p.doc a h.1 in
    let t : nat_le doc p.doc ≡ false = grind arith in
    rw t (from_past all p.doc doc a b h.1 lt)

pub from_here : (doc : ℕ) (p : Posting) (ps : List Posting) → doc ≤ p.doc → from_doc doc (p ∷ ps) ≡ p ∷ from_doc doc ps
unfolding from_doc
from_here doc p ps le =
    let t : nat_le doc p.doc ≡ true = grind arith in
    rw t refl

pub from_next : (doc : ℕ) (p : Posting) (ps : List Posting) → p.doc < doc → from_doc doc (p ∷ ps) ≡ from_doc doc ps
unfolding from_doc
from_next doc p ps lt =
    let t : nat_le doc p.doc ≡ false = grind arith in
    rw t refl

-- rising documents of which the first is not before the one asked for
pub from_above : (all d doc : ℕ) (ps : List Posting) → Rises all d ps → doc ≤ d + 1 → from_doc doc ps ≡ ps
unfolding Rises from_doc
from_above all d doc [] h le = refl
from_above all d doc (p ∷ ps) h le =
    let above : doc ≤ p.doc = omega (arith, h.0.after, le) in
    from_here doc p ps above ∙ ap (λ l. p ∷ l) (from_above all p.doc doc ps h.1 (omega (arith, above)))

-- the document asked for is at most the last one of the front: it stands there
pub from_within : (all d doc : ℕ) (a b : List Posting) → Rises all d (a ++ b) → doc ≤ last_doc d a → from_doc doc (a ++ b) ≡ from_doc doc a ++ b
unfolding from_doc
from_within all d doc a b h le =
    filter-append (λ (p : Posting). nat_le doc p.doc) a b ∙ ap (λ l. from_doc doc a ++ l) (from_above all (last_doc d a) doc b (rises_right all d a b h) (omega (arith, le)))

pub from_some : (all d doc : ℕ) (a : List Posting) → Rises all d a → d < doc → doc ≤ last_doc d a → 0 < length (from_doc doc a)
unfolding Rises last_doc
from_some all d doc [] h lt le = absurd (omega arith)
from_some all d doc (p ∷ a) h lt le =
    elim (order p.doc doc) [
      | inl below ↦ rw (from_next doc p a below) (from_some all p.doc doc a h.1 below le)
      | inr above ↦ rw (from_here doc p a above) (omega arith)
    ]
  where
    order : (a b : ℕ) → (a < b) ⊎ (b ≤ a)
    order a b = grind arith

-- ---- the skip entries of the first blocks

pub length_entries_to : (b n : ℕ) (ps : List Posting) → length (entries_to b n ps) ≡ n
unfolding entries_to
length_entries_to b n ps = length-map-range_with_len (λ k. entry_of b k ps) 0 n

pub entries_next : (b n : ℕ) (ps : List Posting) → entries_to b (n + 1) ps ≡ entries_to b n ps ++ entry_of b n ps ∷ []
unfolding entries_to
entries_next b n ps = map-range_with_len_more (λ k. entry_of b k ps) 0 n n (omega arith)

-- ---- the range that holds a document

pub doc_rises : (all : ℕ) (ps : List Posting) (m n : ℕ) → Rises all 0 ps → m ≤ n → doc_before m ps ≤ doc_before n ps
unfolding doc_before
doc_rises all ps m n h le =
    let two : take n ps ≡ take m ps ++ take (n - m) (drop m ps) = let e : n ≡ m + (n - m) = omega arith in ap (λ k. take k ps) e ∙ take-add m (n - m) ps in
    let whole : Rises all 0 (take m ps ++ drop m ps) = subst (Rises all 0) (sym (take-append-drop m ps)) h in
    let rest : Rises all (last_doc 0 (take m ps)) (drop m ps) = rises_right all 0 (take m ps) (drop m ps) whole in
    let more : Rises all (last_doc 0 (take m ps)) (take (n - m) (drop m ps)) =
    rises_left all (last_doc 0 (take m ps)) (take (n - m) (drop m ps)) (drop (n - m) (drop m ps))
    (subst (Rises all (last_doc 0 (take m ps))) (sym (take-append-drop (n - m) (drop m ps))) rest) in
    let e : last_doc 0 (take n ps) ≡ last_doc (last_doc 0 (take m ps)) (take (n - m) (drop m ps)) = ap (last_doc 0) two ∙ last_append 0 (take m ps) (take (n - m) (drop m ps)) in
    omega (arith, e, last_above all (last_doc 0 (take m ps)) (take (n - m) (drop m ps)) more)

some_range_to : (n : ℕ) (ps : List Posting) (doc : ℕ) → 0 < doc → doc ≤ doc_before (64 * n) ps → (k : ℕ) × (k < n) × InRange k ps doc
unfolding doc_before last_doc
some_range_to zero ps doc lt le = absurd (omega (arith, lt, le))
some_range_to (suc n) ps doc lt le =
    elim (cases_lt (doc_before (64 * n) ps) doc) [
      | inl past ↦ (n, omega arith, record { after = past; within = let e : suc n ≡ n + 1 = omega arith in rw e at le })
      | inr within ↦ (let found = some_range_to n ps doc lt within in (found.0, omega (arith, found.1), found.2))
    ]

all_blocks : (ps : List Posting) → doc_before (64 * block_count (length ps)) ps ≡ last_doc 0 ps
unfolding doc_before
all_blocks ps = let e : take (64 * block_count (length ps)) ps ≡ ps = take_all (64 * block_count (length ps)) ps (omega arith) in ap (last_doc 0) e

-- the range of some block holds each document up to the last
pub some_range : (ps : List Posting) (doc : ℕ) → 0 < doc → doc ≤ last_doc 0 ps → (k : ℕ) × (k < block_count (length ps)) × InRange k ps doc
some_range ps doc lt le = some_range_to (block_count (length ps)) ps doc lt (omega (arith, all_blocks ps, le))

-- and of one alone
pub one_range : (all : ℕ) (ps : List Posting) (doc j k : ℕ) → Rises all 0 ps → InRange j ps doc → InRange k ps doc → j ≡ k
one_range all ps doc j k h p q =
    elim (cases_lt j k) [
      | inl lt ↦ absurd (omega (arith, doc_rises all ps (64 * (j + 1)) (64 * k) h (omega arith), p.within, q.after))
      | inr ge ↦ elim (cases_lt k j) [
        | inl lt ↦ absurd (omega (arith, doc_rises all ps (64 * (k + 1)) (64 * j) h (omega arith), q.within, p.after))
        | inr le ↦ omega arith
      ]
    ]

-- the last document of a block is the one after which the next block is read
pub block_last : (k : ℕ) (ps : List Posting) → last_doc (doc_before (64 * k) ps) (block_of k ps) ≡ doc_before (64 * (k + 1)) ps
unfolding doc_before block_of
block_last k ps =
    let e : 64 * (k + 1) ≡ 64 * k + 64 = omega arith in
    let two : take (64 * (k + 1)) ps ≡ take (64 * k) ps ++ take 64 (drop (64 * k) ps) = ap (λ n. take n ps) e ∙ take-add (64 * k) 64 ps in
    sym (ap (last_doc 0) two ∙ last_append 0 (take (64 * k) ps) (take 64 (drop (64 * k) ps)))

-- ---- the list of a term

abbrev posting_in : List ℕ → ℕ × List ℕ → Posting
posting_in t d = record { doc = d.0; freq = freq_in d.1 t }

abbrev is_there : Posting → Bool
is_there p = nat_lt 0 p.freq

rises_from : (t : List ℕ) (all before n : ℕ) (docs : List (List ℕ)) → before < n → n + length docs ≤ all + 1 → AllByRecursion (λ doc. freq_in doc t < 2 ^ 32) docs →
    Rises all before (filter is_there (map (posting_in t) (enumerate_from n docs)))
unfolding Rises
rises_from t all before n [] lt le fits = tt
rises_from t all before n (doc ∷ docs) lt le fits =
    let rest = filter is_there (map (posting_in t) (enumerate_from (n + 1) docs)) in
    cond_both (is_there (posting_in t (n, doc))) (posting_in t (n, doc) ∷ rest) rest (Rises all before)
    (λ here. (
      record { after = lt; within = omega (arith, le); some = ltb-true 0 (freq_in doc t) here; fits = fits.0 },
      rises_from t all n (n + 1) docs (omega arith) (omega (arith, le)) fits.1,
    ))
    (λ _. rises_from t all before (n + 1) docs (omega (arith, lt)) (omega (arith, le)) fits.1)

pub postings_rise : (collection t : List ℕ) → AllByRecursion (λ doc. freq_in doc t < 2 ^ 32) (documents collection) →
    Rises (length (documents collection)) 0 (postings collection t)
postings_rise collection t fits = rises_from t (length (documents collection)) 0 1 (documents collection) (omega arith) (omega arith) fits

-- a document has no more terms than bytes, and no more bytes than its collection

pub terms_short : (doc : List ℕ) → length (terms doc) ≤ length doc
terms_short doc =
    let words : List (List ℕ) = map (λ (p : Pair). p.word) (parse doc) in
    omega (
      arith,
      words_short words,
      length-map (parse doc) (λ (p : Pair). p.word),
      parse_short doc,
    )

freq_short : (doc t : List ℕ) → freq_in doc t ≤ length doc
freq_short doc t = omega (arith, count_by-le-length (same_term t) (terms doc), terms_short doc)

abbrev AreShort : ℕ → List (List ℕ) → Type 0
AreShort n docs = AllByRecursion (λ (doc : List ℕ). length doc ≤ n) docs

more_short : (m n : ℕ) (docs : List (List ℕ)) → m ≤ n → AreShort m docs → AreShort n docs
more_short m n [] le h = tt
more_short m n (doc ∷ docs) le h = (omega (arith, le, h.0), more_short m n docs le h.1)

short_front : (b n : ℕ) (docs : List (List ℕ)) → AreShort n docs → AreShort (n + 1) (onto_first b docs)
short_front b n [] h = (omega arith, tt)
short_front b n (doc ∷ docs) h = (omega (arith, h.0), more_short n (n + 1) docs (omega arith) h.1)

pub documents_short : (bytes : List ℕ) → AreShort (length bytes) (documents bytes)
documents_short [] = tt
documents_short (b ∷ bytes) =
    let rest = documents_short bytes in
    let e : length bytes + 1 ≡ length (b ∷ bytes) = omega arith in
    cond_both (b == 2) ([] ∷ documents bytes) (onto_first b (documents bytes)) (AreShort (length (b ∷ bytes)))
    (λ _. (omega arith, more_short (length bytes) (length (b ∷ bytes)) (documents bytes) (omega arith) rest))
    (λ _. subst (λ n. AreShort n (onto_first b (documents bytes))) e (short_front b (length bytes) (documents bytes) rest))

fits_each : (n : ℕ) (t : List ℕ) (docs : List (List ℕ)) → n < 2 ^ 32 → AreShort n docs → AllByRecursion (λ doc. freq_in doc t < 2 ^ 32) docs
fits_each n t [] lt h = tt
fits_each n t (doc ∷ docs) lt h = (omega (arith, freq_short doc t, h.0, lt), fits_each n t docs lt h.1)

pub list_rises : (collection t : List ℕ) → length collection < 2 ^ 32 → Rises (length (documents collection)) 0 (postings collection t)
list_rises collection t small = postings_rise collection t (fits_each (length collection) t (documents collection) small (documents_short collection))
