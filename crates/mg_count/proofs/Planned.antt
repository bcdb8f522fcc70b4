-- The plan of a collection from its counts.
use Rattle.std.proofs.Common.{◌≡◌, ◌≤◌, ◌<◌, ◌^◌, ℕ, Bool, true, false, List, length, ap, subst, sym, ◌∙◌, arith, Ok, Err}
use Rattle.std.specs.Prelude.{IfOk, Result, sum}
use Rattle.std.proofs.lemmas.List.{length-map}
use Rattle.mg_defs.specs.declared.Stream.{Stream}
use Rattle.mg_defs.specs.declared.Stream.TheVariants.{Words, Others}
use Rattle.mg_defs.specs.CodedText.{IsCodeOf, IsHuffman, StreamCode}
use Rattle.mg_defs.specs.Limits.{limits}
use Rattle.mg_defs.specs.WithinLimits.{IsWithinLimits}
use Rattle.mg_defs.specs.Marks.{AreWithinLimits, marks, pair_counts, pairs_from, pieces_among}
use Rattle.mg_defs.specs.Means.{IsStreamCode}
use Rattle.mg_defs.specs.Parse.{parse}
use Rattle.mg_defs.specs.Split.{documents}
use Rattle.mg_defs.specs.Terms.{dictionary}
use Rattle.mg_defs.specs.Vocabulary.{all_pieces, counts_of, piece_counts, sorted_of, sorted_pieces, vocabulary}
use Rattle.mg_defs.proofs.VocabularyLaws.{collection-symbols}
use Rattle.mg_model.specs.Terms.{TermNumbers, terms_and_numbers}
use Rattle.mg_count.specs.Counting.{Counting, IsCountOf}
use Rattle.mg_count.specs.Pairs.{paired}
use Rattle.mg_count.specs.Plans.{AreCountsOf, IsPlan, IsPlanOf, IsRoomFor, Plan, Rooming}

-- the laws of lower crates that a plan stands on
pub record PlanLaws : Type 0 where
  pub limits : (version : ℕ) (collection : List ℕ) → length collection ≤ (limits version).collection → AreWithinLimits (limits version) (marks collection) → IsWithinLimits version collection
  pub pieces : (kind : Stream) (collection : List ℕ) → pieces_among kind (marks collection) ≡ all_pieces kind collection
  pub pairs : (collection : List ℕ) → pairs_from 0 (marks collection) ≡ pair_counts collection
  pub few_pairs : (collection : List ℕ) → sum (pair_counts collection) ≤ length collection
  pub models : (kind : Stream) (collection : List ℕ) (it : StreamCode) → IsCodeOf kind collection it → length it.pieces ≤ 2 ^ 22 → IsStreamCode it
  pub terms : (collection : List ℕ) → (terms_and_numbers (sorted_pieces Words collection)).terms ≡ dictionary collection

code-is : (laws : PlanLaws) (kind : Stream) (collection : List ℕ) (entries : List (List ℕ × ℕ)) (code : StreamCode) →
    entries ≡ vocabulary (pieces_among kind (marks collection)) → code.pieces ≡ sorted_of entries → IsHuffman (counts_of entries) code.lengths →
    IsCodeOf kind collection code
code-is laws kind collection entries code is pieces lengths =
    let all : entries ≡ vocabulary (all_pieces kind collection) = is ∙ ap vocabulary (laws.pieces kind collection) in
    let symbols = collection-symbols kind collection in
    record {
      pieces = pieces ∙ ap sorted_of all ∙ symbols.0;
      lengths = subst (λ (counts : List ℕ). IsHuffman counts code.lengths) (ap counts_of all ∙ symbols.1) lengths;
    }

pub plan-of : (laws : PlanLaws) (counts : Counting) (words others : List (List ℕ × ℕ)) (p : Plan) (collection : List ℕ) →
    IsCountOf counts p.open_end collection → words ≡ counts.words → others ≡ counts.others → p.pairs ≡ counts.pairs
    → p.code.words.pieces ≡ sorted_of words → p.code.others.pieces ≡ sorted_of others → IsHuffman (counts_of words) p.code.words.lengths →
    IsHuffman (counts_of others) p.code.others.lengths → p.terms ≡ terms_and_numbers p.code.words.pieces → IsPlanOf p collection
plan-of laws counts words others p collection h words_are others_are pairs word_pieces other_pieces word_lengths other_lengths table =
    let word_code = code-is laws Words collection words p.code.words (words_are ∙ h.counted.words) word_pieces word_lengths in
    let other_code = code-is laws Others collection others p.code.others (others_are ∙ h.counted.others) other_pieces other_lengths in
    record {
      limits = laws.limits 2 collection (omega (arith, h.few)) h.counted.within;
      code = (word_code, other_code);
      pairs = pairs ∙ h.counted.pairs ∙ laws.pairs collection;
      terms = ap (λ (t : TermNumbers). t.terms) table ∙ ap (λ (words : List (List ℕ)). (terms_and_numbers words).terms) word_code.pieces ∙ laws.terms collection;
      open_end = h.end;
    }

pub plan-is : (laws : PlanLaws) (p : Plan) (collection : List ℕ) → length collection < 2 ^ 32 → IsPlanOf p collection → p.terms ≡ terms_and_numbers p.code.words.pieces → IsPlan p
plan-is laws p collection few h table =
    let words : length p.code.words.pieces ≤ 2 ^ 22 = omega (arith, ap length h.code.0.pieces, h.limits.words) in
    let others : length p.code.others.pieces ≤ 2 ^ 22 = omega (arith, ap length h.code.1.pieces, h.limits.others) in
    record {
      model = record { words = laws.models Words collection p.code.words h.code.0 words; others = laws.models Others collection p.code.others h.code.1 others };
      terms = table;
      pairs = omega (arith, ap length h.pairs, length-map (documents collection) (λ (doc : List ℕ). length (parse doc)), h.limits.documents);
      small = omega (arith, ap sum h.pairs, laws.few_pairs collection, few);
    }

-- ---- what was counted otherwise

counted-code : (kind : Stream) (collection : List ℕ) (entries : List (List ℕ × ℕ)) (code : StreamCode) → sorted_of entries ≡ sorted_pieces kind collection →
    counts_of entries ≡ piece_counts kind collection → code.pieces ≡ sorted_of entries → IsHuffman (counts_of entries) code.lengths → IsCodeOf kind collection code
counted-code kind collection entries code are counts pieces lengths = record {
  pieces = pieces ∙ are;
  lengths = subst (λ (found : List ℕ). IsHuffman found code.lengths) counts lengths;
}

pub plan-of-counts : ((collection : List ℕ) → (terms_and_numbers (sorted_pieces Words collection)).terms ≡ dictionary collection) →
    (words others : List (List ℕ × ℕ)) (p : Plan) (collection : List ℕ) → length p.pairs ≤ 2 ^ 24 → IsStreamCode p.code.words → IsStreamCode p.code.others →
    AreCountsOf words others p.pairs p.open_end collection → p.code.words.pieces ≡ sorted_of words → p.code.others.pieces ≡ sorted_of others →
    IsHuffman (counts_of words) p.code.words.lengths → IsHuffman (counts_of others) p.code.others.lengths → p.terms ≡ terms_and_numbers p.code.words.pieces →
    IsPlanOf p collection
plan-of-counts terms words others p collection few word_code other_code h word_pieces other_pieces word_lengths other_lengths table =
    let of_words = counted-code Words collection words p.code.words h.words_are h.word_counts word_pieces word_lengths in
    let of_others = counted-code Others collection others p.code.others h.others_are h.other_counts other_pieces other_lengths in
    record {
      limits = record {
        bytes = omega (arith, h.few);
        documents = omega (arith, few, ap length h.pairs_are, length-map (documents collection) (λ (doc : List ℕ). length (parse doc)));
        words = omega (arith, ap length of_words.pieces, word_code.few);
        others = omega (arith, ap length of_others.pieces, other_code.few);
      };
      code = (of_words, of_others);
      pairs = h.pairs_are;
      terms = ap (λ (t : TermNumbers). t.terms) table ∙ ap (λ (words : List (List ℕ)). (terms_and_numbers words).terms) of_words.pieces ∙ terms collection;
      open_end = h.end;
    }

-- ---- a plan with its room

abbrev value_of : {T E : Type 0} → Result T E → T → T
value_of (Ok value) other = value
value_of (Err refusal) other = other

abbrev is_done : {T E : Type 0} → Result T E → Bool
is_done (Ok value) = true
is_done (Err refusal) = false

-- the two values that stand beside each other
pub pair_parts : {A B E : Type 0} (first : A) (second : Result B E) (both : A × B) → Ok both ≡ paired first second → (both.0 ≡ first) × (second ≡ Ok both.1)
pair_parts {A} {B} first (Ok behind) both is =
    let same : both ≡ (first, behind) = ap (λ r. value_of r both) is in
    (ap (λ (x : A × B). x.0) same, ap (λ (x : A × B). Ok x.1) (sym same))
pair_parts first (Err refusal) both is =
    let no : true ≡ false = ap is_done is in
    absurd cc

-- what is so of a value is so of it beside another
pub still_planned : {A B E : Type 0} {first : A} (P : A → Type 0) (r : Result B E) → P first → IfOk (paired first r) (λ both. P both.0)
still_planned P (Ok second) is = is
still_planned P (Err refusal) is = tt

pub room_paired : {E : Type 0} (plan : Plan) (budget : ℕ) (r : Result Rooming E) → IfOk r (λ room. IsRoomFor room plan budget) →
    IfOk (paired plan r) (λ both. IsRoomFor both.1 both.0 budget)
room_paired plan budget (Ok room) is = is
room_paired plan budget (Err refusal) is = tt
