-- What callers may cite of the text: readers that stay, documents that were read, and the collection that is meant.
use Rattle.std.proofs.Common.{arith, ◌≡◌, ◌<◌, ◌≤◌, ◌+◌, ◌-◌, ℕ, zero, suc, true, false, Bool, List, []}
use Rattle.std.proofs.Common.{◌∷◌, length, get_or, sym, ap, subst, ◌∙◌, inl, inr, is_some, ◌⊎◌, ◌^◌, ◌==◌, if◌then◌else◌, Contains}
use Rattle.std.specs.List.{AllByRecursion, flat_map}
use Rattle.std.specs.declared.option.Option.{Option}
use Rattle.std.proofs.lemmas.List.{get_or_past}
use Rattle.std.proofs.lemmas.List.Sums.{sum_by_more_le}
use Rattle.std.proofs.lemmas.Bool.{cases_lt}
use Rattle.mg_defs.specs.Split.{documents, joined}
use Rattle.mg_defs.specs.Terms.{dictionary, docs, document}
use Rattle.mg_defs.proofs.SplitLaws.{docs_within, split_unique}
use Rattle.mg_defs.proofs.StandDocs.{docs-codable, most}
use Rattle.mg_defs.proofs.TermLaws.{dictionary-of_words, document_behind}
use Rattle.mg_defs.specs.CodedText.{TextCode, IsTextCode, places_part, text_part}
use Rattle.mg_defs.specs.Means.{IsCodable, docs_bytes}
use Rattle.mg_dev.specs.Files.{Files, file_at, bytes_at}
use Rattle.mg_text.proofs.CallerLemmas.{text_stays}
use Rattle.mg_model.specs.Terms.{TermNumbers, terms_and_numbers}
use Rattle.mg_text.specs.Reading.{SameText, TextReading, TextStands}
use Rattle.mg_defs.specs.declared.Stream.TheVariants.{Words, Others}
use Rattle.mg_defs.specs.Bits.{bits_of}
use Rattle.mg_defs.specs.Heads as defs
use Rattle.mg_defs.specs.WithinLimits.{IsWithinLimits}
use Rattle.mg_defs.specs.Stands.{Parts}
use Rattle.mg_defs.specs.Vocabulary.{all_pieces, pieces_in}
use Rattle.mg_defs.proofs.StandSizes.{text-room}
use Rattle.mg_defs.proofs.StandUse.{code-of}
use Rattle.mg_layout.specs.HeadAnswers.{fields_of}
use Rattle.mg_layout.specs.Stands.{parts_at}
use Rattle.mg_layout.specs.declared.head.Head.{Head}
use Rattle.mg_text.specs.Places.{most_text}
use Rattle.mg_check_text.specs.Checking.{IsLoaded, IsMeant}
use Rattle.mg_check_text.proofs.TextLaws.{all-get, all-others, all-words}
use Rattle.mg_check_text.proofs.NextLaws as next
-- readers of the same text
pub use Rattle.mg_check_text.proofs.ReadLaws.{same_text, text_more, terms_here, terms_stay}
pub use Rattle.mg_check_text.proofs.NextLaws.{reads_on}
-- calls one behind another, and with another answer
pub use Rattle.mg_check_text.proofs.ReadLaws.{text_none, text_own, text_ok, text_err, text_bad, text_pure, text_then, text_looks}

-- ---- a text that stands

all_at : {X : Type 0} (P : X → Type 0) (xs : List X) (n : ℕ) (d : X) → n < length xs → AllByRecursion P xs → P (get_or xs n d)
all_at P [] n d lt all = absurd (omega (arith, lt))
all_at P (x ∷ xs) zero d lt all = all.0
all_at P (x ∷ xs) (suc n) d lt all = all_at P xs n d (omega (arith, lt)) all.1

pub table_terms : (table : TermNumbers) (r : TextReading) (files : Option Files) (collection : List ℕ) → table ≡ terms_and_numbers r.code.words.pieces →
    TextStands r files collection → table.terms ≡ dictionary collection
table_terms table r files collection is stand =
    ap (λ (t : TermNumbers). t.terms) is ∙ ap (λ pieces. (terms_and_numbers pieces).terms) stand.code.0.pieces ∙ sym (dictionary-of_words collection)

pub doc_codable : (r : TextReading) (files : Option Files) (collection : List ℕ) (n : ℕ) → n < length (documents collection) → TextStands r files collection →
    IsCodable r.code (get_or (documents collection) n [])
doc_codable r files collection n lt stand = all_at (IsCodable r.code) (documents collection) n [] lt (docs-codable r.code collection stand.code stand.few)

place_short : (collection : List ℕ) (n : ℕ) → length collection < 2 ^ 32 → length (get_or (documents collection) n []) ≤ 2 ^ 32 - 1
place_short collection n few = by_place (cases_lt n (length (documents collection)))
  where
    by_place : (n < length (documents collection)) ⊎ (length (documents collection) ≤ n) → length (get_or (documents collection) n []) ≤ 2 ^ 32 - 1
    by_place (inl lt) = omega (arith, few, docs_within collection, sum_by_more_le (λ (d : List ℕ). length d) (documents collection) n [] lt)
    by_place (inr past) = omega (arith, ap (λ (d : List ℕ). length d) (get_or_past (documents collection) n [] past))

pub doc_short : (collection : List ℕ) (number : ℕ) → length collection < 2 ^ 32 → length (document collection number) ≤ 2 ^ 32 - 1
doc_short collection zero few = omega arith
doc_short collection (suc n) few = place_short collection n few

-- what stands for a reader does so for what the reader became, while no file changes
pub stands_on : (r now : TextReading) (files files_now : Option Files) (collection : List ℕ) → SameText r now → files_now ≡ files → TextStands r files collection → TextStands now files_now collection
stands_on r now files files_now collection same stay stands = text_stays r now files files_now collection same (ap is_some stay)
    (ap (λ f. file_at f r.text.name) stay) (ap (λ f. file_at f r.places.name) stay) stands

-- ---- a document that was read

pub doc_of_reader : (collection : List ℕ) (before : ℕ) (held bytes : List ℕ) → held ≡ document collection (before + 1) → bytes ≡ held → bytes ≡ get_or (documents collection) before []
doc_of_reader collection before held bytes is same = same ∙ is ∙ document_behind collection before

-- ---- the collection that is meant

pub own-docs : (parts : Parts) (h : defs.Head) (code : TextCode) (docs : List (List ℕ)) → IsMeant parts h code docs → docs ≡ documents (joined docs h.open_end)
own-docs parts h code docs meant = (split_unique (joined docs h.open_end) docs h.open_end meant.split).0

pub code-meant : (parts : Parts) (h : defs.Head) (code : TextCode) (docs : List (List ℕ)) → IsMeant parts h code docs → IsTextCode (joined docs h.open_end) code
code-meant parts h code docs meant =
    let own = own-docs parts h code docs meant in (
      code-of Words (joined docs h.open_end) code.words meant.mean.tell.model.words (λ k d within.
          all-get (Contains code.words.pieces) (all_pieces Words (joined docs h.open_end)) k d
          (subst (λ (ds : List (List ℕ)). AllByRecursion (Contains code.words.pieces) (flat_map (pieces_in Words) ds)) own
          (all-words code docs meant.mean.each)) within) meant.words,
      code-of Others (joined docs h.open_end) code.others meant.mean.tell.model.others (λ k d within.
          all-get (Contains code.others.pieces) (all_pieces Others (joined docs h.open_end)) k d
          (subst (λ (ds : List (List ℕ)). AllByRecursion (Contains code.others.pieces) (flat_map (pieces_in Others) ds)) own
          (all-others code docs meant.mean.each)) within) meant.others,
    )

text-meant : (parts : Parts) (h : defs.Head) (code : TextCode) (docs : List (List ℕ)) → IsMeant parts h code docs → parts.text ≡ text_part code (joined docs h.open_end)
text-meant parts h code docs meant = meant.mean.text ∙ ap (docs_bytes code) (own-docs parts h code docs meant)

room : (narrow : Bool) (n : ℕ) → n < (if narrow then 2 ^ 32 else 2 ^ 60) → n ≤ (if narrow then 2 ^ 32 - 1 else 2 ^ 60)
room true n h = omega (arith, h)
room false n h = omega (arith, h)

small-text : (version : ℕ) (code : TextCode) (collection : List ℕ) → IsTextCode collection code → IsWithinLimits version collection → length (text_part code collection) ≤ most_text version
small-text version code collection is within = room (version == 1) (length (text_part code collection)) (text-room version collection code within is)

-- the reader reads its text
pub meant-stands : (files : Option Files) (base : List ℕ) (head : Head) (r : TextReading) (docs : List (List ℕ)) → IsLoaded files base head r →
    IsMeant (parts_at files base) (fields_of head) r.code docs → TextStands r files (joined docs head.open_end)
meant-stands files base head r docs loaded meant =
    let parts = parts_at files base in
    let own = own-docs (parts_at files base) (fields_of head) r.code docs meant in
    let code = code-meant (parts_at files base) (fields_of head) r.code docs meant in
    let text = text-meant (parts_at files base) (fields_of head) r.code docs meant in
    let size : r.size ≡ length (text_part r.code (joined docs head.open_end)) = loaded.reader.size_is ∙ sym loaded.text ∙ ap length text in
    record {
      told = loaded.told;
      model = loaded.tell.model;
      code = code;
      text = ap (λ (name : List ℕ). bits_of (bytes_at files name)) loaded.reader.text_is ∙ ap bits_of text;
      places = ap (bytes_at files) loaded.reader.places_is ∙ meant.places ∙ ap (λ (v : ℕ). places_part v r.code (joined docs head.open_end)) (sym loaded.reader.version_is);
      size = size;
      documents = loaded.reader.documents_are ∙ sym meant.mean.count ∙ ap length own;
      few = (most head.version (joined docs head.open_end) meant.limits).0;
      small = subst (λ (v : ℕ). r.size ≤ most_text v) (sym loaded.reader.version_is)
          (subst (λ (n : ℕ). n ≤ most_text head.version) (sym size) (small-text head.version r.code (joined docs head.open_end) code meant.limits));
    }

-- ---- ranges

-- the most of any version
pub head-few : (head : Head) → defs.IsWithin (fields_of head) → (head.collection < 2 ^ 32) × (head.documents ≤ 2 ^ 24)
head-few head within = next.head-few head within
