-- The documents of two texts, given one after the other.
use Rattle.std.proofs.Common.{arith, ◌≡◌, ◌≤◌, ◌<◌, ◌+◌, ◌-◌, ◌++◌, ◌∙◌, ℕ, List, [], length, take, drop, Option, refl, sym, ap}
use Rattle.std.proofs.lemmas.List.{append_assoc, length-append, take-append-drop}
use Rattle.mg_dev.specs.Files.{Files}
use Rattle.mg_defs.specs.Split.{close, documents, has_open_end, is_closed, joined}
use Rattle.mg_defs.specs.Terms.{document}
use Rattle.mg_merge.specs.Passes.{AreAllGiven, AreGiven}
use Rattle.mg_merge.specs.Texts.{AreFirst, TextsFit, TextsStand, TwoTexts, closed_document}
use Rattle.mg_merge.proofs.JoinedLaws.{given_all, given_next, given_none}
use Rattle.mg_merge.proofs.TextLaws.{documents_of_texts}

-- ---- the bytes of one document

-- the first of them, the others and what is behind these
pub all_behind : (fed held rest : List ℕ) (k : ℕ) → fed ++ (take k held ++ (drop k held ++ rest)) ≡ fed ++ (held ++ rest)
all_behind fed held rest k = ap (λ t. fed ++ t) (sym (append_assoc (take k held) (drop k held) rest) ∙ ap (λ t. t ++ rest) (take-append-drop k held))

pub first_behind : (fed held rest : List ℕ) (k : ℕ) → (fed ++ take k held) ++ (drop k held ++ rest) ≡ (fed ++ held) ++ rest
first_behind fed held rest k = append_assoc fed (take k held) (drop k held ++ rest) ∙ all_behind fed held rest k ∙ sym (append_assoc fed held rest)

-- ---- documents

pub given_nothing : (t : TwoTexts) (files : Option Files) (left : ℕ) → left ≡ t.size → AreGiven t files 0 left []
given_nothing t files left is = record { size = omega (arith, is); told = λ collection stand. given_none collection }

pub first_next : (t : TwoTexts) (files : Option Files) (collection fed held : List ℕ) (i left : ℕ) → TextsFit t files → i < t.all →
    AreGiven t files i left fed → TextsStand t files collection → held ≡ closed_document (i + 1) collection → AreFirst (i + 1) (fed ++ held) collection
first_next t files collection fed held i left fits more given stand is =
    let count = documents_of_texts t files collection fits stand in
    given_next collection fed held i (omega (arith, more, count)) is (given.told collection stand)

-- one document more was given
pub given_one_more : (t : TwoTexts) (files : Option Files) (fed held : List ℕ) (i left found : ℕ) → TextsFit t files → i < t.all → AreGiven t files i left fed →
    ((collection : List ℕ) → TextsStand t files collection → held ≡ closed_document (i + 1) collection) → found ≡ length held → found ≤ left
    → AreGiven t files (i + 1) (left - found) (fed ++ held)
given_one_more t files fed held i left found fits more given is count within = record {
  size = omega (arith, given.size, length-append fed held, count, within);
  told = λ collection stand. first_next t files collection fed held i left fits more given stand (is collection stand);
}

-- a document has no more bytes than are left
pub short_next : (t : TwoTexts) (files : Option Files) (collection fed : List ℕ) (i left : ℕ) → TextsFit t files → i < t.all → AreGiven t files i left fed →
    TextsStand t files collection → length (document collection (i + 1)) ≤ left
short_next t files collection fed i left fits more given stand =
    let doc = document collection (i + 1) in
    let closing = close (is_closed (i + 1) (length (documents collection)) (has_open_end collection)) in
    let rest = joined (drop (i + 1) (documents collection)) (has_open_end collection) in
    let whole : length ((fed ++ (doc ++ closing)) ++ rest) ≡ length collection = ap length (first_next t files collection fed (doc ++ closing) i left fits more given stand refl) in
    omega (arith, whole, length-append (fed ++ (doc ++ closing)) rest, length-append fed (doc ++ closing), length-append doc closing, given.size, stand.size)

-- a document is no longer than what is left
pub too_much : (t : TwoTexts) (files : Option Files) (collection fed held : List ℕ) (i left : ℕ) → TextsFit t files → i < t.all → AreGiven t files i left fed →
    TextsStand t files collection → held ≡ closed_document (i + 1) collection → left < length held → ⊥
too_much t files collection fed held i left fits more given stand is long =
    let rest = joined (drop (i + 1) (documents collection)) (has_open_end collection) in
    let whole : length ((fed ++ held) ++ rest) ≡ length collection = ap length (first_next t files collection fed held i left fits more given stand is) in
    omega (arith, whole, length-append (fed ++ held) rest, length-append fed held, given.size, stand.size, long)

-- all documents were given
pub given_each : (t : TwoTexts) (files : Option Files) (fed : List ℕ) (i left : ℕ) → TextsFit t files → t.all ≤ i → AreGiven t files i left fed → AreAllGiven t files fed
given_each t files fed i left fits all given = record {
  size = omega (arith, given.size);
  told = λ collection stand. let count = documents_of_texts t files collection fits stand in given_all collection fed i (omega (arith, all, count)) (given.told collection stand);
}

-- and then nothing is left
pub too_little : (t : TwoTexts) (files : Option Files) (collection fed : List ℕ) (i left : ℕ) → TextsFit t files → t.all ≤ i → AreGiven t files i left fed →
    TextsStand t files collection → 0 < left → ⊥
too_little t files collection fed i left fits all given stand some =
    let whole = ap length ((given_each t files fed i left fits all given).told collection stand) in
    omega (arith, whole, given.size, stand.size, some)
