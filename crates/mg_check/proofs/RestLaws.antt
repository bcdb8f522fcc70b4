-- Where the text of a set means documents: what the other parts and the head's numbers are to be.
use Rattle.std.proofs.Common.{arith, ◌≡◌, ◌≤◌, ◌<◌, ◌*◌, ◌⊎◌, inl, inr, ℕ, List, length, map, IfErr, OnOk, Ok, Err, sym, ap, subst, ◌∙◌}
use Rattle.std.specs.declared.option.Option.{Option}
use Rattle.std.specs.declared.result.Result.{Result}
use Rattle.std.proofs.Math.Nat.{eq-or-lt_of_le}
use Rattle.mg_dev.specs.Files.{Files}
use Rattle.mg_defs.specs.declared.Stream.TheVariants.{Words, Others}
use Rattle.mg_defs.specs.declared.TermPosting.{TermPosting}
use Rattle.mg_defs.specs.Bits.{as_bytes}
use Rattle.mg_defs.specs.CodedText.{text_part}
use Rattle.mg_defs.specs.Heads as defs
use Rattle.mg_defs.specs.Heads.{run_count}
use Rattle.mg_defs.specs.Means.{StandForNone, docs_bytes}
use Rattle.mg_defs.specs.Occurrences.{occurrences}
use Rattle.mg_defs.specs.RunBits.{run_part_bits, runs_bits}
use Rattle.mg_defs.specs.Split.{documents, has_open_end, joined}
use Rattle.mg_defs.specs.Lists.{inverted, lists_entries}
use Rattle.mg_defs.specs.Stands.{Stand, head_of, skip_count}
use Rattle.mg_defs.specs.Terms.{dictionary, docs}
use Rattle.mg_defs.specs.Vocabulary.{sorted_pieces}
use Rattle.mg_defs.proofs.SplitLaws.{split_unique}
use Rattle.mg_defs.proofs.StandDocs.{most}
use Rattle.mg_defs.proofs.StandLaws.{stands-only, told-stands}
use Rattle.mg_defs.proofs.StandWhole.{whole-set}
use Rattle.mg_laws.proofs.WholeBytes.{entries_sized}
use Rattle.mg_dev.specs.declared.part.Part.{Part}
use Rattle.mg_dev.specs.declared.part_err.PartErr.{PartErr}
use Rattle.mg_dev.specs.declared.part_err.PartErr.TheVariants.{Device, Memory, Bad}
use Rattle.mg_layout.specs.HeadAnswers.{fields_of}
use Rattle.mg_layout.specs.Sizes.{AnswersSize}
use Rattle.mg_layout.specs.Stands.{parts_at}
use Rattle.mg_layout.specs.declared.head.Head.{Head}
use Rattle.mg_model.specs.Terms.{TermNumbers, terms_and_numbers}
use Rattle.mg_text.specs.Reading.{SameText, TextReading, TextStands}
use Rattle.mg_check_text.specs.Checking.{FoundText, IsLoaded, IsMeant}
use Rattle.mg_check_parts.specs.Refusals.{IfBad, OnBad, Refutes}
use Rattle.mg_check_index.specs.Counting.{TermsStand}
use Rattle.mg_check.specs.Found.{StandsWith}
use Rattle.mg_check_index.specs.Listing.{IndexStands}
use Rattle.mg_check.specs.IndexedText.{IsIndexOf}
use Rattle.mg_check.specs.Rest.{AreNumbers, Compares, HaveSizes, IsTold, PartsStand, RestStands}
use Rattle.mg_check_text.proofs.CallerLemmas.{code-meant, meant-stands, own-docs, stands_on, table_terms, head-few}
use Rattle.mg_check_index.proofs.CallerLemmas.{same_runs}

-- ---- all parts

head-meant : (files : Option Files) (base : List ℕ) (head : Head) (r : TextReading) (docs : List (List ℕ)) → IsLoaded files base head r →
    IsMeant (parts_at files base) (fields_of head) r.code docs → AreNumbers head (joined docs head.open_end) →
    fields_of head ≡ head_of head.version head.cap r.code (joined docs head.open_end)
head-meant files base head r docs loaded meant numbers =
    let code = code-meant (parts_at files base) (fields_of head) r.code docs meant in
    let end : head.open_end ≡ has_open_end (joined docs head.open_end) = (split_unique (joined docs head.open_end) docs head.open_end meant.split).1 in
    let count : head.documents ≡ length (documents (joined docs head.open_end)) = sym meant.mean.count ∙ ap length (own-docs (parts_at files base) (fields_of head) r.code docs meant) in
    let words : head.words ≡ length (sorted_pieces Words (joined docs head.open_end)) = loaded.words ∙ ap length code.0.pieces in
    let others : head.others ≡ length (sorted_pieces Others (joined docs head.open_end)) = loaded.others ∙ ap length code.1.pieces in
    let runs : head.runs ≡ run_count (length (occurrences (joined docs head.open_end))) head.cap = loaded.tell.head.within.runs ∙ ap (λ (n : ℕ). run_count n head.cap) numbers.occurrences in
    let text : head.text_bytes ≡ length (text_part r.code (joined docs head.open_end)) = sym loaded.text
    ∙ ap length (meant.mean.text ∙ ap (docs_bytes r.code) (own-docs (parts_at files base) (fields_of head) r.code docs meant)) in
    let size : head.collection ≡ length (joined docs head.open_end) = meant.bytes in
    let terms = numbers.terms in
    let occurrences_are = numbers.occurrences in
    let post = numbers.post_bytes in
    let skip = numbers.skip_count in
    cc

-- where the other parts are those of the collection that is meant, the set stands for it
pub rest-stands : (files : Option Files) (base : List ℕ) (head : Head) (r : TextReading) (docs : List (List ℕ)) → IsLoaded files base head r →
    IsMeant (parts_at files base) (fields_of head) r.code docs → RestStands files base head (joined docs head.open_end) →
    Stand (parts_at files base) (joined docs head.open_end)
rest-stands files base head r docs loaded meant rest = record {
  version = head.version;
  cap = head.cap;
  code = r.code;
  are =
      whole-set (parts_at files base) (fields_of head) r.code docs meant.mean meant.split meant.words meant.others (head-meant files base head r docs loaded meant rest.numbers)
      (record {
        places = meant.places;
        lex = rest.index.lexicon.lex;
        lex_at = rest.index.lexicon.lex_at;
        post = rest.index.lists.post;
        skip = rest.index.lists.skip;
        weights = rest.terms.weights;
        run = rest.terms.run;
      });
}

-- and where the set stands for any collection, they are
pub stands-rest : (files : Option Files) (base : List ℕ) (head : Head) (r : TextReading) (docs : List (List ℕ)) (collection : List ℕ) →
    IsMeant (parts_at files base) (fields_of head) r.code docs → Stand (parts_at files base) collection → RestStands files base head (joined docs head.open_end)
stands-rest files base head r docs collection meant stand =
    let only = stands-only (parts_at files base) (fields_of head) r.code docs collection meant.mean stand in
    let are = only.2 in
    let told = told-stands (parts_at files base) (fields_of head) r.code (joined docs head.open_end) meant.mean.tell (record { version = head.version; cap = head.cap; code = r.code; are = only.2 }) in
    record {
      numbers = record {
        terms = ap (λ (h : defs.Head). h.terms) told.0;
        occurrences = ap (λ (h : defs.Head). h.occurrences) told.0;
        post_bytes = ap (λ (h : defs.Head). h.post_bytes) told.0;
        skip_count = ap (λ (h : defs.Head). h.skip_count) told.0;
      };
      terms = record { weights = are.weights; run = are.run };
      index = record { lists = record { post = are.post; skip = are.skip }; lexicon = record { lex = are.lex; lex_at = are.lex_at } };
    }

-- so a refusal of one of them shows that the set stands for none
pub refuted-none : (files : Option Files) (base : List ℕ) (head : Head) (r : TextReading) (docs : List (List ℕ)) (refusal : PartErr) →
    IsMeant (parts_at files base) (fields_of head) r.code docs → Refutes (RestStands files base head (joined docs head.open_end)) refusal →
    IfBad refusal (StandForNone (parts_at files base))
refuted-none files base head r docs Device meant other = tt
refuted-none files base head r docs Memory meant other = tt
refuted-none files base head r docs (Bad bad) meant other = λ collection stand. other (stands-rest files base head r docs collection meant stand)

-- ---- the head's numbers

-- where the other parts are those of a collection, Post and Skip have the sizes that the head tells
pub sizes-of : (files : Option Files) (base : List ℕ) (head : Head) (collection : List ℕ) → RestStands files base head collection → HaveSizes (parts_at files base) head
sizes-of files base head collection rest = record {
  post = ap length rest.index.lists.post ∙ sym rest.numbers.post_bytes;
  skip = ap length rest.index.lists.skip ∙ entries_sized (lists_entries (length (documents collection)) (inverted collection)) ∙ ap (λ (n : ℕ). 16 * n) (sym rest.numbers.skip_count);
}

-- and these sizes, where Post and Skip are a collection's own, are the numbers that the head is to have
pub numbers-of : (files : Option Files) (base : List ℕ) (head : Head) (collection : List ℕ) → head.terms ≡ length (dictionary collection) →
    head.occurrences ≡ length (occurrences collection) → HaveSizes (parts_at files base) head → IndexStands files base collection → AreNumbers head collection
numbers-of files base head collection terms occurrences_are sizes index =
    let entries : length (parts_at files base).skip ≡ 16 * skip_count collection = ap length index.lists.skip ∙ entries_sized (lists_entries (length (documents collection)) (inverted collection)) in
    record {
      terms = terms;
      occurrences = occurrences_are;
      post_bytes = sym sizes.post ∙ ap length index.lists.post;
      skip_count = omega (arith, entries, sizes.skip);
    }

-- ---- runs

runs-same : (size cap : ℕ) (s : List (ℕ × ℕ)) → 1 ≤ size → (size ≡ cap) ⊎ (size < cap) → (size < cap → length s ≤ size) → as_bytes (run_part_bits size s) ≡ as_bytes (run_part_bits cap s)
runs-same size cap s some (inl same) enough = ap (λ (k : ℕ). as_bytes (run_part_bits k s)) same
runs-same size cap s some (inr below) enough = ap (λ (rs : List (List TermPosting)). as_bytes (runs_bits rs)) (same_runs size cap s some (enough below) (omega (arith, below)))

-- where a head's occurrences go into runs of another size, which is its own or takes them all, the runs are the same
pub head-runs : (head : Head) (size : ℕ) (collection : List ℕ) → 341 ≤ size → size ≤ head.cap → (size < head.cap → head.occurrences ≤ size) → head.occurrences ≡ length (occurrences collection)
    → as_bytes (run_part_bits size (occurrences collection)) ≡ as_bytes (run_part_bits head.cap (occurrences collection))
head-runs head size collection least most enough count =
    runs-same size head.cap (occurrences collection) (omega arith) (eq-or-lt_of_le most) (λ below. omega (arith, enough below, count))

pub terms-of-size : (files : Option Files) (base : List ℕ) (head : Head) (size : ℕ) (collection : List ℕ) →
    as_bytes (run_part_bits size (occurrences collection)) ≡ as_bytes (run_part_bits head.cap (occurrences collection))
    → TermsStand base files head.cap collection → TermsStand base files size collection
terms-of-size files base head size collection runs terms = record { weights = terms.weights; run = terms.run ∙ sym runs }

pub terms-of-head : (files : Option Files) (base : List ℕ) (head : Head) (size : ℕ) (collection : List ℕ) →
    as_bytes (run_part_bits size (occurrences collection)) ≡ as_bytes (run_part_bits head.cap (occurrences collection))
    → TermsStand base files size collection → TermsStand base files head.cap collection
terms-of-head files base head size collection runs terms = record { weights = terms.weights; run = terms.run ∙ runs }

-- ---- answers

refutes-so : (P Q : Type 0) (refusal : PartErr) → (Q → P) → Refutes P refusal → Refutes Q refusal
refutes-so P Q Device so other = tt
refutes-so P Q Memory so other = tt
refutes-so P Q (Bad bad) so other = λ q. other (so q)

other-so : (P Q : Type 0) (r : Result (Unit {0}) PartErr) → (Q → P) → IfErr r (Refutes P) → IfErr r (Refutes Q)
other-so P Q (Ok done) so other = tt
other-so P Q (Err refusal) so other = refutes-so P Q refusal so other

ok-so : (P Q : Type 0) (r : Result (Unit {0}) PartErr) → (P → Q) → OnOk r P → OnOk r Q
ok-so P Q (Ok done) so p = so p
ok-so P Q (Err refusal) so p = tt

-- what was compared tells something else that is so exactly where it is
pub compares-so : (P Q : Type 0) (r : Result (Unit {0}) PartErr) → (P → Q) → (Q → P) → Compares P r → Compares Q r
compares-so P Q r so back is = record { stand = ok-so P Q r so is.stand; other = other-so P Q r back is.other }

-- a refusal tells of what is so only where that is which it refutes
pub refuted : (P Q : Type 0) (refusal : PartErr) → (Q → P) → Refutes P refusal → Compares {T = Unit {0}} Q (Err refusal)
refuted P Q refusal back other = record { stand = tt; other = refutes-so P Q refusal back other }

-- the size of a part
pub size-refuted : (P : Type 0) (part : Part) (wanted : ℕ) (bytes : List ℕ) (refusal : PartErr) → AnswersSize part wanted bytes (Err refusal) →
    (P → length bytes ≡ wanted) → Compares {T = Unit {0}} P (Err refusal)
size-refuted P part wanted bytes Device answer of = record { stand = tt; other = tt }
size-refuted P part wanted bytes Memory answer of = record { stand = tt; other = tt }
size-refuted P part wanted bytes (Bad bad) answer of = record { stand = tt; other = λ p. answer.0 (of p) }

pub size-compared : (P : Type 0) (part : Part) (wanted : ℕ) (bytes : List ℕ) (result : Result (Unit {0}) PartErr) → AnswersSize part wanted bytes result →
    (length bytes ≡ wanted → P) → (P → length bytes ≡ wanted) → Compares P result
size-compared P part wanted bytes (Ok value) answer so of = record { stand = so answer; other = tt }
size-compared P part wanted bytes (Err refusal) answer so of = size-refuted P part wanted bytes refusal answer of

-- what was compared of a head and of the parts is all
pub rest-of : (files : Option Files) (base : List ℕ) (head : Head) (terms : ℕ) (collection : List ℕ) → terms ≡ length (dictionary collection) →
    IsTold (parts_at files base) head terms → PartsStand files base head collection → RestStands files base head collection
rest-of files base head terms collection count told parts = record {
  numbers = numbers-of files base head collection (told.terms_are ∙ count) parts.occurrences_are told.sizes parts.index;
  terms = parts.terms;
  index = parts.index;
}

-- ---- a set whose text was read

pub stands-here : (files now : Option Files) (base : List ℕ) (head : Head) (r : TextReading) (result : Result (Unit {0}) PartErr) → now ≡ files →
    (IsLoaded now base head r → OnOk result (StandsWith now base head.documents head.collection))
    → IsLoaded files base head r → OnOk result (StandsWith files base head.documents head.collection)
stands-here files now base head r result same so = subst (λ (f : Option Files). IsLoaded f base head r → OnOk result (StandsWith f base head.documents head.collection)) same so

pub none-here : (files now : Option Files) (base : List ℕ) (head : Head) (r : TextReading) (result : Result (Unit {0}) PartErr) → now ≡ files →
    (IsLoaded now base head r → OnBad result (StandForNone (parts_at now base)))
    → IsLoaded files base head r → OnBad result (StandForNone (parts_at files base))
none-here files now base head r result same none = subst (λ (f : Option Files). IsLoaded f base head r → OnBad result (StandForNone (parts_at f base))) same none

pub set-stands : (files now : Option Files) (base : List ℕ) (head : Head) (r next : TextReading) (result : Result (Unit {0}) PartErr) → now ≡ files →
    SameText r next → IsLoaded files base head r → FoundText (parts_at files base) (fields_of head) r.code →
    ((collection : List ℕ) → TextStands next now collection → OnOk result (RestStands now base head collection)) → OnOk result (StandsWith files base head.documents head.collection)
set-stands files now base head r next (Ok done) same_files same loaded found stand =
    let c : List ℕ = joined found.docs head.open_end in
    let there = stands_on r next files now (joined found.docs head.open_end) same same_files (meant-stands files base head r found.docs loaded found.meant) in
    let rest = subst (λ (f : Option Files). RestStands f base head (joined found.docs head.open_end)) same_files (stand (joined found.docs head.open_end) there) in
    record {
      collection = joined found.docs head.open_end;
      stands = record { told = loaded.told; stand = rest-stands files base head r found.docs loaded found.meant rest };
      documents_are = sym found.meant.mean.count ∙ ap length (own-docs (parts_at files base) (fields_of head) r.code found.docs found.meant);
      bytes_are = found.meant.bytes;
    }
set-stands files now base head r next (Err refusal) same_files same loaded found stand = tt

pub set-none : (files now : Option Files) (base : List ℕ) (head : Head) (r next : TextReading) (result : Result (Unit {0}) PartErr) → now ≡ files →
    SameText r next → IsLoaded files base head r → FoundText (parts_at files base) (fields_of head) r.code →
    ((collection : List ℕ) → TextStands next now collection → IfErr result (Refutes (RestStands now base head collection))) → OnBad result (StandForNone (parts_at files base))
set-none files now base head r next (Ok done) same_files same loaded found other = tt
set-none files now base head r next (Err refusal) same_files same loaded found other =
    let there = stands_on r next files now (joined found.docs head.open_end) same same_files (meant-stands files base head r found.docs loaded found.meant) in
    let refuted = subst (λ (f : Option Files). Refutes (RestStands f base head (joined found.docs head.open_end)) refusal) same_files (other (joined found.docs head.open_end) there) in
    refuted-none files base head r found.docs refusal found.meant refuted

-- ---- the terms of the text

-- what is told to who compares the lists and the lexicon
pub index-of : (files now : Option Files) (head : Head) (r next : TextReading) (table : TermNumbers) (docs_of : List ℕ) (all : ℕ) (collection : List ℕ) → now ≡ files →
    SameText r next → table ≡ terms_and_numbers r.code.words.pieces → docs_of ≡ map (docs collection) (dictionary collection) → all ≡ length (occurrences collection) →
    r.documents ≡ head.documents → defs.IsWithin (fields_of head) → TextStands r files collection → IsIndexOf next now table.terms docs_of all collection
index-of files now head r next table docs_of all collection same_files same table_is docs_are all_are documents_are within stand = record {
  stands = stands_on r next files now collection same same_files stand;
  terms_are = table_terms table r files collection table_is stand;
  docs_are = docs_are;
  occurrences_are = all_are;
  few = omega (arith, (head-few head within).1, documents_are, stand.documents);
}
