-- One document more, and what follows the last one: ranges of the numbers, and what a refusal shows.
use Rattle.std.proofs.Common.{arith, ◌≡◌, ◌≤◌, ◌<◌, ◌+◌, ◌*◌, ◌^◌, ◌==◌, ℕ, suc, Bool, true, false, if◌then◌else◌}
use Rattle.std.proofs.Common.{List, [], ◌∷◌, ◌++◌, length, get_or, IsSome, OnOk, IfErr, sym, ap, subst, ◌∙◌, Ok, Err}
use Rattle.std.proofs.lemmas.List.{length-map}
use Rattle.std.specs.declared.option.Option.{Option}
use Rattle.std.specs.declared.result.Result.{Result}
use Rattle.mg_dev.specs.Bads.{IsNotBad}
use Rattle.mg_dev.specs.Files.{Files}
use Rattle.mg_dev.specs.declared.part_err.PartErr.{PartErr}
use Rattle.mg_dev.specs.declared.part_err.PartErr.TheVariants.{Device, Memory, Bad}
use Rattle.mg_defs.specs.declared.Stream.TheVariants.{Words, Others}
use Rattle.mg_defs.specs.CodedText.{TextCode, coded_size}
use Rattle.mg_defs.specs.Heads as defs
use Rattle.mg_defs.specs.Limits.{limits}
use Rattle.mg_defs.specs.Means.{IsModel, StandForNone, Tell}
use Rattle.mg_defs.specs.Parse.{parse}
use Rattle.mg_defs.specs.Split.{IsDocument, documents}
use Rattle.mg_defs.specs.Stands.{Parts}
use Rattle.mg_defs.specs.Vocabulary.{piece_of_pair, pieces_in}
use Rattle.mg_defs.proofs.ParseLaws.{parse_short}
use Rattle.mg_defs.proofs.SplitLaws.{documents_split}
use Rattle.mg_defs.specs.Terms.{document}
use Rattle.mg_layout.specs.HeadAnswers.{fields_of}
use Rattle.mg_layout.specs.Stands.{parts_at}
use Rattle.mg_layout.specs.declared.head.Head.{Head}
use Rattle.mg_text.specs.Reading.{SameText, TextFits, TextReading, TextStands}
use Rattle.mg_check_text.specs.Reads.{ReadsBy}
use Rattle.mg_check_text.specs.Checking.{FoundDocs, FoundNext, FoundText, HasAdded, HasRead, IsAtEnd, IsInRange, IsLoaded, IsNextDoc}
use Rattle.mg_check_parts.specs.Refusals.{IfBad, OnBad, Refutes}
use Rattle.mg_check_text.specs.declared.progress.Progress.{Progress}
use Rattle.mg_check_text.proofs.TextLaws.{all-get, end-means, end-of, next-of, read-more, reader-stands}

-- ---- answers

-- a refusal that refutes what follows from a claim refutes the claim
pub refutes-less : (P Q : Type 0) (refusal : PartErr) → (Q → P) → Refutes P refusal → IfBad refusal (Q → ⊥)
refutes-less P Q Device so other = tt
refutes-less P Q Memory so other = tt
refutes-less P Q (Bad bad) so other = λ q. other (so q)

pub on-bad : (P Q : Type 0) (r : Result (Unit {0}) PartErr) → (Q → P) → OnBad r (P → ⊥) → OnBad r (Q → ⊥)
on-bad P Q (Ok done) so other = tt
on-bad P Q (Err Device) so other = tt
on-bad P Q (Err Memory) so other = tt
on-bad P Q (Err (Bad bad)) so other = λ q. other (so q)

pub both-ok : (A B C : Type 0) (r : Result (Unit {0}) PartErr) → (A → B → C) → OnOk r A → OnOk r B → OnOk r C
both-ok A B C (Ok done) so a b = so a b
both-ok A B C (Err refusal) so a b = tt

pub ok-so : (P : Type 0) (r : Result (Unit {0}) PartErr) → P → OnOk r P
ok-so P (Ok done) so = so
ok-so P (Err refusal) so = tt

-- ---- a document that was decoded

-- the most bytes are enough for the next document
pub room-for : (collection : List ℕ) (n left most : ℕ) → length (document collection (suc n)) ≤ left → most ≡ left → length (document collection (n + 1)) ≤ most
room-for collection n left most short is =
    let same : n + 1 ≡ suc n = omega arith in
    subst (λ (m : ℕ). length (document collection m) ≤ most) (sym same) (omega (arith, short, is))

-- what is decoded of a collection closes nothing within
pub doc-fine : (collection : List ℕ) (n : ℕ) (doc : List ℕ) (r : Result (Unit {0}) PartErr) → doc ≡ get_or (documents collection) n [] →
    n < length (documents collection) → OnBad r (IsDocument doc → ⊥) → IfErr r (λ refusal. IsNotBad refusal)
doc-fine collection n doc (Ok done) is within other = tt
doc-fine collection n doc (Err Device) is within other = tt
doc-fine collection n doc (Err Memory) is within other = tt
doc-fine collection n doc (Err (Bad bad)) is within other = other (subst IsDocument (sym is) (all-get IsDocument (documents collection) n [] (documents_split collection).each within))

-- ---- the reader

pub still-loaded : (files : Option Files) (base : List ℕ) (head : Head) (r now : TextReading) → SameText r now → IsLoaded files base head r → IsLoaded files base head now
still-loaded files base head r now same loaded = record {
  told = loaded.told;
  reader = record {
    text_is = same.text ∙ loaded.reader.text_is;
    places_is = same.places ∙ loaded.reader.places_is;
    version_is = same.version ∙ loaded.reader.version_is;
    documents_are = same.documents ∙ loaded.reader.documents_are;
    size_is = same.size ∙ loaded.reader.size_is;
  };
  tell = subst (λ (code : TextCode). Tell (parts_at files base) (fields_of head) code) (sym same.code) loaded.tell;
  words = loaded.words ∙ ap (λ (code : TextCode). length code.words.pieces) (sym same.code);
  others = loaded.others ∙ ap (λ (code : TextCode). length code.others.pieces) (sym same.code);
  text = loaded.text;
  places = loaded.places;
}

-- ---- ranges

few-by : (narrow : Bool) (bytes documents : ℕ) → bytes ≤ (if narrow then limits 1 else limits 2).collection →
    documents ≤ (if narrow then limits 1 else limits 2).documents → (bytes < 2 ^ 32) × (documents ≤ 2 ^ 24)
few-by true bytes documents p q = (omega (arith, p), omega (arith, q))
few-by false bytes documents p q = (omega (arith, p), omega (arith, q))

-- the most of any version
pub head-few : (head : Head) → defs.IsWithin (fields_of head) → (head.collection < 2 ^ 32) × (head.documents ≤ 2 ^ 24)
head-few head within = few-by (head.version == 1) head.collection head.documents within.collection within.documents

-- places of version 1 fit in four bytes
pub narrow-place : (code : TextCode) (head : Head) (p : Progress) → defs.IsWithin (fields_of head) → IsInRange code head p → head.version ≡ 1 → p.place < 2 ^ 32
narrow-place code head p within range is =
    let collection : head.collection ≤ 2 ^ 28 = subst (λ (v : ℕ). head.collection ≤ (limits v).collection) is within.collection in
    let count : head.documents ≤ 2 ^ 20 = subst (λ (v : ℕ). head.documents ≤ (limits v).documents) is within.documents in
    omega (arith, range.place, range.bytes, range.documents, collection, count)

pieces-few : (doc : List ℕ) → (length (pieces_in Words doc) ≤ length doc) × (length (pieces_in Others doc) ≤ length doc)
pieces-few doc = (omega (arith, length-map (parse doc) (piece_of_pair Words), parse_short doc), omega (arith, length-map (parse doc) (piece_of_pair Others), parse_short doc))

pub range-next : {code : TextCode} {head : Head} {doc : List ℕ} {p q : Progress} → IsInRange code head p → HasAdded code doc p q →
    coded_size code doc ≤ 12 * length doc + 13 → p.bytes + length doc ≤ head.collection → p.documents < head.documents → IsInRange code head q
range-next {doc = doc} range added short left fewer =
    let few = pieces-few doc in record {
      documents = omega (arith, added.documents, fewer);
      bytes = omega (arith, added.bytes, left);
      last = omega (arith, added.last, added.bytes);
      place = omega (arith, added.place, added.bytes, added.documents, range.place, short);
      word_places = added.words.size ∙ range.word_places;
      other_places = added.others.size ∙ range.other_places;
      words = omega (arith, added.words.sum_is, added.bytes, range.words, few.0);
      others = omega (arith, added.others.sum_is, added.bytes, range.others, few.1);
    }

-- ---- where a document does not stand

-- text that no collection has
pub refused-next : {files : Option Files} {base : List ℕ} {head : Head} {r : TextReading} {docs : List (List ℕ)} {p : Progress} (refusal : PartErr) →
    IsLoaded files base head r → HasRead (parts_at files base) head.version r.code docs p → p.documents < head.documents →
    ((collection : List ℕ) → TextStands r files collection → p.bytes + length (get_or (documents collection) p.documents []) ≤ head.collection →
    IsNotBad refusal) → IfBad refusal (StandForNone (parts_at files base))
refused-next Device loaded so fewer fine = tt
refused-next Memory loaded so fewer fine = tt
refused-next {files} {base} {head} {r} {docs} {p} (Bad bad) loaded so fewer fine = λ collection stand.
    fine collection (reader-stands files base head r collection loaded stand) (next-of files base head r docs p collection loaded so fewer stand).1

-- a document that is the collection's own, wherever there is one, and yet does not stand next
pub other-next : {files : Option Files} {base : List ℕ} {head : Head} {r : TextReading} {docs : List (List ℕ)} {p : Progress} (doc : List ℕ)
    (result : Result (Unit {0}) PartErr) → IsLoaded files base head r → HasRead (parts_at files base) head.version r.code docs p →
    p.documents < head.documents →
    ((collection : List ℕ) → TextStands r files collection → p.bytes + length (get_or (documents collection) p.documents []) ≤ head.collection → doc ≡ get_or (documents collection) p.documents []) →
    OnBad result (IsNextDoc (parts_at files base) head.version r.code doc p → ⊥) → OnBad result (StandForNone (parts_at files base))
other-next doc (Ok done) loaded so fewer own other = tt
other-next doc (Err Device) loaded so fewer own other = tt
other-next doc (Err Memory) loaded so fewer own other = tt
other-next {files} {base} {head} {r} {docs} {p} doc (Err (Bad bad)) loaded so fewer own other = λ collection stand.
    let next = next-of files base head r docs p collection loaded so fewer stand in
    let is = own collection (reader-stands files base head r collection loaded stand) next.1 in
    other (subst (λ (d : List ℕ). IsNextDoc (parts_at files base) head.version r.code d p) (sym is) next.0)

-- it stands next in the same files, by the same code
pub next-there : (files now : Option Files) (base : List ℕ) (version : ℕ) (code other : TextCode) (doc : List ℕ) (p : Progress) → now ≡ files → other ≡ code →
    IsNextDoc (parts_at files base) version code doc p → IsNextDoc (parts_at now base) version other doc p
next-there files now base version code other doc p same_files same_code next =
    subst (λ (f : Option Files). IsNextDoc (parts_at f base) version other doc p) (sym same_files) (subst (λ (c : TextCode). IsNextDoc (parts_at files base) version c doc p) (sym same_code) next)

pub told-there : {files now : Option Files} → now ≡ files → IsSome files → IsSome now
told-there same told = subst (λ (f : Option Files). IsSome f) (sym same) told

-- ---- documents so far

pub code-range : {code now : TextCode} {head : Head} {p : Progress} → now ≡ code → IsInRange code head p → IsInRange now head p
code-range {head = head} {p = p} same range = subst (λ (c : TextCode). IsInRange c head p) (sym same) range

pub none-yet : {parts : Parts} {version : ℕ} {code now : TextCode} {p : Progress} → now ≡ code → HasRead parts version now [] p → FoundDocs parts version code p
none-yet {parts} {version} {p = p} same so = record { docs = []; so = subst (λ (c : TextCode). HasRead parts version c [] p) same so }

pub docs-more : {files files_now : Option Files} (base : List ℕ) {version : ℕ} {code now : TextCode} {p q : Progress} → files_now ≡ files → now ≡ code →
    FoundDocs (parts_at files base) version code p → FoundNext (parts_at files_now base) version now p q → FoundDocs (parts_at files base) version code q
docs-more {files} base {version} {code} {now} {p} {q} same_files same found there =
    let next = subst (λ (f : Option Files). FoundNext (parts_at f base) version now p q) same_files there in record {
      docs = found.docs ++ next.doc ∷ [];
      so =
          read-more (parts_at files base) version code found.docs next.doc p q found.so (subst (λ (c : TextCode). IsNextDoc (parts_at files base) version c next.doc p) same next.next)
          (subst (λ (c : TextCode). HasAdded c next.doc p q) same next.added);
    }

-- where a document is refused, and others were found before it
abbrev pub ShowsNone : Option Files → List ℕ → Head → TextReading → Progress → PartErr → Type 0
ShowsNone files base head r p refusal = IsLoaded files base head r → (docs : List (List ℕ)) → HasRead (parts_at files base) head.version r.code docs p →
    IfBad refusal (StandForNone (parts_at files base))

pub docs-none : {files files_now : Option Files} {base : List ℕ} {head : Head} {r now : TextReading} {p : Progress} (refusal : PartErr) → files_now ≡ files →
    SameText r now → IsLoaded files base head r → FoundDocs (parts_at files base) head.version r.code p →
    ShowsNone files_now base head now p refusal → IfBad refusal (StandForNone (parts_at files base))
docs-none {files} {base = base} {head = head} {r = r} {now = now} {p = p} refusal same_files same loaded found none =
    let there : ShowsNone files base head now p refusal = subst (λ (f : Option Files). ShowsNone f base head now p refusal) same_files none in
    there (still-loaded files base head r now same loaded) found.docs (subst (λ (c : TextCode). HasRead (parts_at files base) head.version c found.docs p) (sym same.code) found.so)

-- ---- at the end

-- the same end, in the same files and by the same code
pub end-here : (files now : Option Files) (base : List ℕ) (head : Head) (code other : TextCode) (p : Progress) → now ≡ files → other ≡ code →
    IsAtEnd (parts_at now base) head other p → IsAtEnd (parts_at files base) head code p
end-here files now base head code other p same_files same_code ends =
    subst (λ (f : Option Files). IsAtEnd (parts_at f base) head code p) same_files (subst (λ (c : TextCode). IsAtEnd (parts_at now base) head c p) same_code ends)

pub text-found : {files : Option Files} {base : List ℕ} {head : Head} {r : TextReading} {p : Progress} → IsLoaded files base head r →
    FoundDocs (parts_at files base) head.version r.code p → p.documents ≡ head.documents → IsAtEnd (parts_at files base) head r.code p →
    FoundText (parts_at files base) (fields_of head) r.code
text-found {files} {base} {head} {r} {p} loaded found all ends = record { docs = found.docs; meant = end-means files base head r found.docs p loaded found.so all ends }

pub text-none : {files : Option Files} {base : List ℕ} {head : Head} {r : TextReading} {p : Progress} (refusal : PartErr) → IsLoaded files base head r →
    FoundDocs (parts_at files base) head.version r.code p → p.documents ≡ head.documents → IfBad refusal (IsAtEnd (parts_at files base) head r.code p → ⊥) →
    IfBad refusal (StandForNone (parts_at files base))
text-none Device loaded found all other = tt
text-none Memory loaded found all other = tt
text-none {files} {base} {head} {r} {p} (Bad bad) loaded found all other = λ collection stand. other (end-of files base head r found.docs p collection loaded found.so all stand)

-- a reader of the set that has read on
pub reads_on : {r now : TextReading} {files files_now : Option Files} {head : Head} → ReadsBy r files head → TextFits now files_now → SameText r now → ReadsBy now files_now head
reads_on {head = head} reads fits same = record {
  within = reads.within;
  fits = fits;
  documents = same.documents ∙ reads.documents;
  model = subst (λ (code : TextCode). IsModel code) (sym same.code) reads.model;
}
