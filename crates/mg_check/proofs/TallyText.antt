-- The documents of a text, and what they amount to.
use Rattle.std.proofs.Common.{arith, ◌≡◌, ◌+◌, ◌/◌, ◌<◌, ◌≤◌, ℕ, suc, List, [], ◌∷◌, ◌++◌, length, map, take, drop, get_or, Ok, Err, refl, sym, ap, subst, ◌∙◌, take-append-drop, length-take}
use Rattle.std.specs.Prelude.{flat_map, IfErr, OnOk}
use Rattle.std.specs.declared.option.Option.{Option}
use Rattle.std.specs.declared.result.Result.{Result}
use Rattle.std.proofs.lemmas.Grind.{common_steps}
use Rattle.std.proofs.lemmas.List.{take_more}
use Rattle.std.proofs.Math.Seq.{drop-cons}
use Rattle.mg_dev.specs.Bads.{IsNotBad}
use Rattle.mg_dev.specs.Files.{Files, bytes_at}
use Rattle.mg_dev.specs.Names.{full_name}
use Rattle.mg_dev.specs.declared.part.Part.TheVariants as part
use Rattle.mg_dev.specs.declared.part_err.PartErr.{PartErr}
use Rattle.mg_dev.specs.declared.part_err.PartErr.TheVariants.{Device, Memory, Bad}
use Rattle.mg_defs.specs.Bits.{as_bytes}
use Rattle.mg_defs.specs.Numbers.{four}
use Rattle.mg_defs.specs.Occurrences.{occurrences}
use Rattle.mg_defs.specs.RunBits.{run_part_bits}
use Rattle.mg_defs.specs.Split.{documents}
use Rattle.mg_defs.specs.Terms.{dictionary}
use Rattle.mg_defs.specs.Weights.{weight}
use Rattle.mg_model.specs.Terms.{TermNumbers, terms_and_numbers}
use Rattle.mg_runs.specs.Fed.{cap_of}
use Rattle.mg_text.specs.Reading.{SameText, TextReading, TextStands}
use Rattle.mg_check_index.specs.Counting.{AreOwn, AreTallied, CanAdd, GoesOn, HasTallied, HaveTallied, NoneGoesOn, NotTallied, SameParts, Tallying, TermsStand, docs_among, occurrences_from}
use Rattle.mg_check.specs.CountedText.{IsTallyOf, TalliedText}
use Rattle.mg_check_parts.specs.TermsRead.{AreTermsOf, TermsRead}
use Rattle.mg_check_parts.specs.Refusals.{WhereBad, Refutes}
use Rattle.mg_check_index.proofs.CallerLemmas.{where_bad, occ_is}
use Rattle.mg_check_text.proofs.CallerLemmas.{doc_codable, stands_on, table_terms}

-- ---- the same text

pub same_back : (a b : TextReading) → SameText a b → SameText b a
same_back a b same = record {
  text = sym same.text;
  places = sym same.places;
  code = sym same.code;
  version = sym same.version;
  documents = sym same.documents;
  size = sym same.size;
}

pub parts_same : (t : Tallying) → SameParts t t
parts_same t = record { weights = refl; run = refl; limit = refl }

pub parts_more : (a b c : Tallying) → SameParts a b → SameParts b c → SameParts a c
parts_more a b c one two = record { weights = two.weights ∙ one.weights; run = two.run ∙ one.run; limit = two.limit ∙ one.limit }

-- the parts of a tally are a collection's, whichever documents it has taken
pub own_stays : (a b : Tallying) (f g : Option Files) (collection : List ℕ) → SameParts a b → g ≡ f → AreOwn a f collection → AreOwn b g collection
own_stays a b f g collection same stay own = record {
  weights = ap (λ (h : Option Files). bytes_at h b.weights.part.name) stay ∙ ap (bytes_at f) same.weights ∙ own.weights;
  run = ap (λ (h : Option Files). bytes_at h b.runs.part.name) stay ∙ ap (bytes_at f) same.run ∙ own.run ∙ ap (λ l. as_bytes (run_part_bits (l / 12) (occurrences collection))) (sym same.limit);
}

-- ---- a document more

pub text_none : (t : Tallying) (files : Option Files) (words : List (List ℕ)) (r : TextReading) → HasTallied t files words [] → TalliedText t files words 0 r
text_none t files words r it = record { docs = []; tallied = it; count = refl; own = λ collection stand. it }

pub text_same : (t : Tallying) (files : Option Files) (words : List (List ℕ)) (n : ℕ) (a b : TextReading) → SameText a b → TalliedText t files words n a → TalliedText t files words n b
text_same t files words n a b same it = record {
  docs = it.docs;
  tallied = it.tallied;
  count = it.count;
  own = λ collection stand. it.own collection (stands_on b a files files collection (same_back a b same) refl stand);
}

pub text_next : (t u : Tallying) (f g : Option Files) (words : List (List ℕ)) (n : ℕ) (r : TextReading) (doc : List ℕ) (it : TalliedText t f words n r)
    → HasTallied u g words (it.docs ++ doc ∷ [])
    → n < r.documents
    → ((collection : List ℕ) → TextStands r f collection → HasTallied u g words (take n (documents collection) ++ get_or (documents collection) n [] ∷ []))
    → g ≡ f
    → TalliedText u g words (n + 1) r
text_next t u f g words n r doc it tallied low own stay = record {
  docs = it.docs ++ doc ∷ [];
  tallied = tallied;
  count = omega (arith, it.count, one_more it.docs);
  own = λ collection stand.
      let there : TextStands r f collection = subst (λ h. TextStands r h collection) stay stand in
      subst (λ ds. HasTallied u g words ds) (sym (take_more (documents collection) n [] (omega (arith, low, there.documents)))) (own collection there);
}
  where
    one_more : (ds : List (List ℕ)) → length (ds ++ doc ∷ []) ≡ length ds + 1
    one_more ds = grind (arith, common_steps)

-- so many documents of a text that stands
pub taken_long : (n : ℕ) (r : TextReading) (f : Option Files) (collection : List ℕ) → n < r.documents → TextStands r f collection → length (take n (documents collection)) ≡ n
taken_long n r f collection low stand = omega (arith, low, stand.documents, length-take n (documents collection))

-- where the text stands for a collection, it goes on with its next document
pub goes_on : (f : Option Files) (table : TermNumbers) (n : ℕ) (r : TextReading) (collection : List ℕ)
    → table ≡ terms_and_numbers r.code.words.pieces
    → n < r.documents
    → TextStands r f collection
    → GoesOn r.code table.terms collection (take n (documents collection)) (get_or (documents collection) n [])
goes_on f table n r collection made low stand =
    let within : n < length (documents collection) = omega (arith, low, stand.documents) in
    record {
      more = drop (suc n) (documents collection);
      documents_are = sym (take-append-drop n (documents collection)) ∙ ap (λ ds. take n (documents collection) ++ ds) (drop-cons (documents collection) n [] within);
      codable = doc_codable r f collection n within stand;
      few = stand.few;
      dictionary_is = table_terms table r f collection made stand;
    }

-- ---- the terms of the next document

pub can_add : (t : Tallying) (f f1 : Option Files) (words : List (List ℕ)) (n : ℕ) (r : TextReading) (it : TalliedText t f words n r) (doc : List ℕ)
    (read : TermsRead) → f1 ≡ f → AreTermsOf words doc read → CanAdd t f1 (n + 1) read
can_add t f f1 words n r it doc read stay are = record {
  words = words;
  docs = it.docs;
  doc = doc;
  number_is = omega (arith, it.count);
  terms_are = are;
  tallied = subst (λ h. HasTallied t h words it.docs) (sym stay) it.tallied;
}

-- ---- refusals

-- parts that the next document refutes are no collection's
pub next_bad : {T : Type 0} (x : Result T PartErr) (t : Tallying) (f f1 : Option Files) (table : TermNumbers) (n : ℕ) (r : TextReading)
    (it : TalliedText t f table.terms n r) (read : TermsRead) (collection : List ℕ)
    → f1 ≡ f
    → table ≡ terms_and_numbers r.code.words.pieces
    → n < r.documents
    → TextStands r f collection
    → AreTermsOf table.terms (get_or (documents collection) n []) read
    → WhereBad (NoneGoesOn t f1 (n + 1) read) x
    → WhereBad (AreOwn t f collection → ⊥) x
next_bad x t f f1 table n r it read collection stay made low stand are =
    where_bad (NoneGoesOn t f1 (n + 1) read) (AreOwn t f collection → ⊥) x
    (λ none own. none r.code table.terms (get_or (documents collection) n []) collection (take n (documents collection)) are
    (omega (arith, taken_long n r f collection low stand)) (goes_on f table n r collection made low stand)
    (subst (λ h. HasTallied t h table.terms (take n (documents collection))) (sym stay) (it.own collection stand)) (own_stays t t f f1 collection (parts_same t) stay own))

pub not_bad : {T : Type 0} (claim : Type 0) (r : Result T PartErr) → IfErr r (λ refusal. IsNotBad refusal) → WhereBad claim r
not_bad claim (Ok value) h = tt
not_bad claim (Err Device) h = tt
not_bad claim (Err Memory) h = tt
not_bad claim (Err (Bad bad)) h = absurd h

-- ---- the end

-- what the documents of a text that stands amount to, once all were taken
pub all_taken : (t : Tallying) (f : Option Files) (words : List (List ℕ)) (n : ℕ) (r : TextReading) (it : TalliedText t f words n r) (collection : List ℕ) →
    n ≡ r.documents → TextStands r f collection → HasTallied t f words (documents collection)
all_taken t f words n r it collection all stand =
    subst (λ ds. HasTallied t f words ds) (take_whole n (documents collection) (omega (arith, all, stand.documents))) (it.own collection stand)
  where
    take_whole : (k : ℕ) (ds : List (List ℕ)) → length ds ≤ k → take k ds ≡ ds
    take_whole k ds h = grind (arith, common_steps)

-- weights and runs of all documents are the collection's
pub have_own : (t : Tallying) (f : Option Files) (words seen : List (List ℕ)) (collection : List ℕ) → words ≡ dictionary collection →
    seen ≡ documents collection → HaveTallied t f words seen → AreOwn t f collection
have_own t f words seen collection all_words all have = record {
  weights = have.weights ∙ ap (λ ds. flat_map four (map weight ds)) all;
  run = have.run ∙ ap (λ o. as_bytes (run_part_bits (cap_of t.runs.pool) o)) (ap (λ ws. occurrences_from ws 1 seen) all_words
      ∙ ap (occurrences_from (dictionary collection) 1) all ∙ occ_is collection);
}

pub own_have : (t : Tallying) (f : Option Files) (words seen : List (List ℕ)) (collection : List ℕ) → words ≡ dictionary collection →
    seen ≡ documents collection → AreOwn t f collection → HaveTallied t f words seen
own_have t f words seen collection all_words all own = record {
  weights = own.weights ∙ ap (λ ds. flat_map four (map weight ds)) (sym all);
  run = own.run ∙ ap (λ o. as_bytes (run_part_bits (cap_of t.runs.pool) o))
      (sym (ap (λ ws. occurrences_from ws 1 seen) all_words ∙ ap (occurrences_from (dictionary collection) 1) all ∙ occ_is collection));
}

-- a tally of a base, by runs of so many
pub record IsOf (t : Tallying) (base : List ℕ) (cap : ℕ) : Type 0 where
  pub weights : t.weights.part.name ≡ full_name base part.Weights
  pub run : t.runs.part.name ≡ full_name base part.Run
  pub cap_is : cap_of t.runs.pool ≡ cap

pub own_stand : (t : Tallying) (f : Option Files) (base : List ℕ) (cap : ℕ) (collection : List ℕ) → IsOf t base cap → AreOwn t f collection → TermsStand base f cap collection
own_stand t f base cap collection is own = record {
  weights = ap (bytes_at f) (sym is.weights) ∙ own.weights;
  run = ap (bytes_at f) (sym is.run) ∙ own.run ∙ ap (λ k. as_bytes (run_part_bits k (occurrences collection))) is.cap_is;
}

pub stand_own : (t : Tallying) (f : Option Files) (base : List ℕ) (cap : ℕ) (collection : List ℕ) → IsOf t base cap → TermsStand base f cap collection → AreOwn t f collection
stand_own t f base cap collection is stand = record {
  weights = ap (bytes_at f) is.weights ∙ stand.weights;
  run = ap (bytes_at f) is.run ∙ stand.run ∙ ap (λ k. as_bytes (run_part_bits k (occurrences collection))) (sym is.cap_is);
}

pub of_same : (a b : Tallying) (base : List ℕ) (cap : ℕ) → SameParts a b → IsOf a base cap → IsOf b base cap
of_same a b base cap same is = record { weights = same.weights ∙ is.weights; run = same.run ∙ is.run; cap_is = ap (λ l. l / 12) same.limit ∙ is.cap_is }

-- where damage is told that a collection's parts would not have
pub refuted : (P Q : Type 0) {T : Type 0} (r : Result T PartErr) → (Q → P) → WhereBad (P → ⊥) r → IfErr r (Refutes Q)
refuted P Q (Ok value) f h = tt
refuted P Q (Err Device) f h = tt
refuted P Q (Err Memory) f h = tt
refuted P Q (Err (Bad bad)) f h = λ q. h (f q)

-- ---- all documents of a text

pub parts_back : (a b : Tallying) → SameParts a b → SameParts b a
parts_back a b same = record { weights = sym same.weights; run = sym same.run; limit = sym same.limit }

pub tally_done : (result : Result (Unit {0}) PartErr) (old mid new : Tallying) (f f1 : Option Files) (table : TermNumbers) (n : ℕ) (r : TextReading)
    (it : TalliedText mid f1 table.terms n r) (collection : List ℕ)
    → f1 ≡ f
    → SameParts old mid
    → n ≡ r.documents
    → table ≡ terms_and_numbers r.code.words.pieces
    → TextStands r f collection
    → new.docs ≡ mid.docs
    → new.occurrences ≡ mid.occurrences
    → OnOk result (AreTallied mid f1)
    → OnOk result (IsTallyOf old new f collection)
tally_done (Err refusal) old mid new f f1 table n r it collection stay parts all made stand docs occurrences_are done = tt
tally_done (Ok value) old mid new f f1 table n r it collection stay parts all made stand docs occurrences_are done =
    let words : List (List ℕ) = table.terms in
    let words_are : words ≡ dictionary collection = table_terms table r f collection made stand in
    let all_docs : List (List ℕ) = documents collection in
    let has : HasTallied mid f1 words (documents collection) = all_taken mid f1 words n r it collection all (subst (λ (h : Option Files). TextStands r h collection) (sym stay) stand) in
    record {
      own = own_stays mid old f1 f collection (parts_back old mid parts) (sym stay) (have_own mid f1 words all_docs collection words_are refl (done words all_docs has));
      docs = docs ∙ has.counts ∙ ap (map (docs_among (documents collection))) words_are;
      occurrences =
          occurrences_are ∙ has.count
          ∙ ap (λ (o : List (ℕ × ℕ)). length o) (ap (λ (ws : List (List ℕ)). occurrences_from ws 1 (documents collection)) words_are ∙ occ_is collection);
    }

pub tally_other : (result : Result (Unit {0}) PartErr) (old mid : Tallying) (f f1 : Option Files) (table : TermNumbers) (n : ℕ) (r : TextReading)
    (it : TalliedText mid f1 table.terms n r) (collection : List ℕ)
    → f1 ≡ f
    → SameParts old mid
    → n ≡ r.documents
    → table ≡ terms_and_numbers r.code.words.pieces
    → TextStands r f collection
    → WhereBad (NotTallied mid f1) result
    → WhereBad (AreOwn old f collection → ⊥) result
tally_other result old mid f f1 table n r it collection stay parts all made stand =
    let words : List (List ℕ) = table.terms in
    let words_are : words ≡ dictionary collection = table_terms table r f collection made stand in
    let has : HasTallied mid f1 words (documents collection) = all_taken mid f1 words n r it collection all (subst (λ (h : Option Files). TextStands r h collection) (sym stay) stand) in
    where_bad (NotTallied mid f1) (AreOwn old f collection → ⊥) result
    (λ none own. none words (documents collection) has (own_have mid f1 words (documents collection) collection words_are refl (own_stays old mid f f1 collection parts stay own)))
