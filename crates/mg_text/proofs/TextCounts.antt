-- Documents of a text that are tallied one after the other, and then counted.
use Rattle.std.proofs.Common.{arith, ◌≡◌, ◌≤◌, ◌<◌, ◌+◌, ◌++◌, ◌∙◌, ℕ, Bool, true, false, List, [], ◌∷◌, length, take, get_or, Option, Some, Result, Ok, Err, is_some, refl, sym, ap, subst, append_assoc, append-nil}
use Rattle.std.specs.Prelude.{IfSome}
use Rattle.std.specs.Bool.{OnTrue}
use Rattle.std.specs.List.{flat_map}
use Rattle.std.proofs.Math.Seq.{take-length}
use Rattle.std.proofs.lemmas.Grind.{flat_map-append}
use Rattle.std.proofs.lemmas.List.{map-append, take_more}
use Rattle.mg_dev.specs.Files.{Files, Reads, file_at}
use Rattle.mg_dev.specs.declared.device.Failed.{Failed}
use Rattle.mg_defs.specs.CodedText.{TextCode}
use Rattle.mg_defs.specs.Parse.{parse}
use Rattle.mg_defs.specs.Split.{documents}
use Rattle.mg_defs.specs.Terms.{document}
use Rattle.mg_defs.specs.Vocabulary.{entry_count}
use Rattle.mg_defs.proofs.TermLaws.{document_behind}
use Rattle.mg_text.specs.CountedText.{Counted, CountsDocuments, CountsText, PutsTally, ReadsText, TalliesAll, TalliesDocument, TalliesOne, TalliesText, pairs_of, with_pairs_of}
use Rattle.mg_text.specs.Decoding.{PairsIn}
use Rattle.mg_text.specs.PieceCounts.{CountsDocument, CountsPieces, IsNoTally, PieceTally, with_pairs}
use Rattle.mg_text.specs.Reading.{SameText, TextFits, TextReading, TextStands, WhereTextStands}
use Rattle.mg_text.proofs.CountLaws.{failed_more, on_true_is, on_true_map, with_pairs_more}
use Rattle.mg_text.proofs.ReaderLaws.{text_stays}
use Rattle.mg_text.proofs.StandLaws.{doc_pieces}
use Rattle.mg_text.proofs.TallyLaws.{docs_in, others_tallied, words_tallied}

-- ---- a text that is read

stands_on : {r now : TextReading} {f g : Option Files} (collection : List ℕ) → SameText r now → g ≡ f → TextStands r f collection → TextStands now g collection
stands_on {r} {now} {f} {g} collection same stay stands = text_stays r now f g collection same (ap is_some stay)
    (ap (λ x. file_at x r.text.name) stay) (ap (λ x. file_at x r.places.name) stay) stands

pub reads_none : {T : Type 0} (value : T) {old : TextReading} {f : Option Files} {r : Reads} {k : ℕ} → TextFits old f → ReadsText (Ok value) old old f f r r k k
reads_none value fits = record {
  fits = fits;
  same = record { text = refl; places = refl; code = refl; version = refl; documents = refl; size = refl };
  looked = record { files = refl; faults = omega arith; later = λ p. omega arith; others = λ p one other. refl };
  cause = record { later = omega arith; failed = tt };
}

-- one read behind another
reads_more : {S T : Type 0} {value : S} (result : Result T Failed) {old mid new : TextReading} {f g h : Option Files} {r s t : Reads} {k m n : ℕ} →
    ReadsText (Ok value) old mid f g r s k m → ReadsText result mid new g h s t m n → ReadsText result old new f h r t k n
reads_more result one two = record {
  fits = two.fits;
  same = record {
    text = two.same.text ∙ one.same.text;
    places = two.same.places ∙ one.same.places;
    code = two.same.code ∙ one.same.code;
    version = two.same.version ∙ one.same.version;
    documents = two.same.documents ∙ one.same.documents;
    size = two.same.size ∙ one.same.size;
  };
  looked = record {
    files = two.looked.files ∙ one.looked.files;
    faults = omega (arith, one.looked.faults, two.looked.faults);
    later = λ p. omega (arith, one.looked.later p, two.looked.later p);
    others = λ p no other. two.looked.others p no other ∙ one.looked.others p no other;
  };
  cause = record { later = omega (arith, one.cause.later, two.cause.later); failed = failed_more result _ _ _ one.cause.later two.cause.failed };
}

-- what was read, with another answer
pub reads_so_far : {S T : Type 0} {answer : Result S Failed} (value : T) {old new : TextReading} {f g : Option Files} {r s : Reads} {k m : ℕ} →
    ReadsText answer old new f g r s k m → ReadsText (Ok value) old new f g r s k m
reads_so_far value read = record { fits = read.fits; same = read.same; looked = read.looked; cause = record { later = read.cause.later; failed = tt } }

-- ---- a document

-- it could not be read
pub document_failed : {number : ℕ} (failed : Failed) {old new : TextReading} {t t_now : PieceTally} {c c_now : Counted} {f g : Option Files} {r s : Reads} {k m : ℕ} →
    CountsPieces number (Err failed) old new t t_now f g r s k m → TalliesDocument number (Err failed) old new t t_now c c_now f g r s k m
document_failed failed step = record {
  reads = record { fits = step.fits; same = step.same; looked = step.looked; cause = record { later = step.cause.later; failed = step.cause.failed } };
  told = λ collection stands. tt;
}

-- it was not tallied
pub document_refused : {number : ℕ} {old new : TextReading} {t t_now : PieceTally} {c c_now : Counted} {f g : Option Files} {r s : Reads} {k m : ℕ} →
    {found : Option ℕ} → CountsPieces number (Ok found) old new t t_now f g r s k m → TalliesDocument number (Ok false) old new t t_now c c_now f g r s k m
document_refused step = record {
  reads = record { fits = step.fits; same = step.same; looked = step.looked; cause = record { later = step.cause.later; failed = tt } };
  told = λ collection stands. tt;
}

counted_one : (found : Option ℕ) (n : ℕ) (P : ℕ → Type 0) → found ≡ Some n → IfSome found P → P n
counted_one found n P is h = subst (λ o. IfSome o P) is h

-- it was, and its pairs were kept or not
pub document_kept : {number : ℕ} (found : Option ℕ) (n : ℕ) (kept : Bool) {old new : TextReading} {t t_now : PieceTally} {c c_now : Counted} {f g : Option Files} {r s : Reads} {k m : ℕ} →
    found ≡ Some n → OnTrue kept (c_now ≡ with_pairs_of (n ∷ []) c) → CountsPieces number (Ok found) old new t t_now f g r s k m → TalliesDocument number (Ok kept) old new t t_now c c_now f g r s k m
document_kept {number} found n kept {old} {t = t} {t_now = t_now} {c = c} found_is keeps step = record {
  reads = record { fits = step.fits; same = step.same; looked = step.looked; cause = record { later = step.cause.later; failed = tt } };
  told = λ collection stands. on_true_map kept (λ is.
      let counted = counted_one found n (λ m. CountsDocument old.code number collection m t t_now) found_is (step.counted collection stands) in
      (counted.1, is ∙ ap (λ m. with_pairs_of (m ∷ []) c) counted.0)) keeps;
}

-- ---- documents

-- the first documents of a text were tallied
pub record TalliesFirst (i : ℕ) (old new : TextReading) (t t_now : PieceTally) (c c_now : Counted) (f g : Option Files) (r s : Reads) (k m : ℕ) : Type 0 where
  pub reads : ReadsText {T = Bool} (Ok true) old new f g r s k m
  pub told : WhereTextStands old f (λ collection. TalliesAll old.code (take i (documents collection)) t t_now c c_now)

counted_none : (c : Counted) → c ≡ with_pairs_of [] c
counted_none c = λ i. record { words = c.words; others = c.others; pairs = sym (append-nil c.pairs) i }

pub first_none : {old : TextReading} {t : PieceTally} {c : Counted} {f : Option Files} {r : Reads} {k : ℕ} → TextFits old f → TalliesFirst 0 old old t t c c f f r r k k
first_none {c = c} fits = record { reads = reads_none true fits; told = λ collection stands. (refl, counted_none c) }

tallied_next : (code : TextCode) (docs : List (List ℕ)) (i : ℕ) (t t_mid t_now : PieceTally) (c c_mid c_now : Counted) → i < length docs → TalliesAll code (take i docs) t t_mid c c_mid →
    TalliesOne code (get_or docs i []) t_mid t_now c_mid c_now → TalliesAll code (take (i + 1) docs) t t_now c c_now
tallied_next code docs i t t_mid t_now c c_mid c_now lt before one =
    let d = get_or docs i [] in
    let firsts = take i docs in
    let pairs : flat_map parse firsts ++ parse d ≡ flat_map parse (firsts ++ d ∷ []) =
    sym (flat_map-append parse firsts (d ∷ []) ∙ ap (λ l. flat_map parse firsts ++ l) (append-nil (parse d))) in
    let numbers : pairs_of firsts ++ length (parse d) ∷ [] ≡ pairs_of (firsts ++ d ∷ []) = sym (map-append (λ doc. length (parse doc)) firsts (d ∷ [])) in
    subst (λ l. TalliesAll code l t t_now c c_now) (sym (take_more docs i [] lt)) (
      one.0 ∙ ap (with_pairs code (parse d)) before.0 ∙ sym (with_pairs_more code (flat_map parse firsts) (parse d) t) ∙ ap (λ l. with_pairs code l t) pairs,
      one.1 ∙ ap (with_pairs_of (length (parse d) ∷ [])) before.1
          ∙ ap (λ l. record { words = c.words; others = c.others; pairs = l }) (append_assoc c.pairs (pairs_of firsts) (length (parse d) ∷ []) ∙ ap (λ l. c.pairs ++ l) numbers),
    )

-- one document more was tallied
pub first_more : (i : ℕ) (done : Bool) {old mid new : TextReading} {t t_mid t_now : PieceTally} {c c_mid c_now : Counted} {f g h : Option Files} {r s u : Reads} {k m n : ℕ} →
    i < old.documents → done ≡ true → TalliesFirst i old mid t t_mid c c_mid f g r s k m → TalliesDocument (i + 1) (Ok done) mid new t_mid t_now c_mid c_now g h s u m n →
    TalliesFirst (i + 1) old new t t_now c c_now f h r u k n
first_more i done {old} {mid} {new} {t} {t_mid} {t_now} {c} {c_mid} {c_now} lt is first next = record {
  reads = reads_so_far true (reads_more (Ok done) first.reads next.reads);
  told = λ collection stands.
      let docs = documents collection in
      let there = stands_on collection first.reads.same first.reads.looked.files stands in
      let one : TalliesOne mid.code (document collection (i + 1)) t_mid t_now c_mid c_now = on_true_is done _ is (next.told collection there) in
      let same : TalliesOne old.code (get_or docs i []) t_mid t_now c_mid c_now =
      subst (λ code. TalliesOne code (get_or docs i []) t_mid t_now c_mid c_now) first.reads.same.code
      (subst (λ doc. TalliesOne mid.code doc t_mid t_now c_mid c_now) (document_behind collection i) one) in
      tallied_next old.code docs i t t_mid t_now c c_mid c_now (omega (arith, lt, stands.documents)) (first.told collection stands) same;
}

-- one was not
pub first_stopped : (i : ℕ) {number : ℕ} {done : Bool} {old mid new : TextReading} {t t_mid t_now : PieceTally} {c c_mid c_now : Counted} {f g h : Option Files} {r s u : Reads} {k m n : ℕ} →
    TalliesFirst i old mid t t_mid c c_mid f g r s k m → TalliesDocument number (Ok done) mid new t_mid t_now c_mid c_now g h s u m n →
    TalliesText (Ok false) old new t t_now c c_now f h r u k n
first_stopped i {done = done} first next = record { reads = reads_so_far false (reads_more (Ok done) first.reads next.reads); told = λ collection stands. tt }

pub first_failed : (i : ℕ) {number : ℕ} (failed : Failed) {old mid new : TextReading} {t t_mid t_now : PieceTally} {c c_mid c_now : Counted} {f g h : Option Files} {r s u : Reads} {k m n : ℕ} →
    TalliesFirst i old mid t t_mid c c_mid f g r s k m → TalliesDocument number (Err failed) mid new t_mid t_now c_mid c_now g h s u m n →
    TalliesText (Err failed) old new t t_now c c_now f h r u k n
first_failed i failed first next = record { reads = reads_more (Err failed) first.reads next.reads; told = λ collection stands. tt }

-- all were tallied
pub first_all : (i : ℕ) {old new : TextReading} {t t_now : PieceTally} {c c_now : Counted} {f g : Option Files} {r s : Reads} {k m : ℕ} → old.documents ≤ i → i ≤ old.documents →
    TalliesFirst i old new t t_now c c_now f g r s k m → TalliesText (Ok true) old new t t_now c c_now f g r s k m
first_all i {old} {t = t} {t_now = t_now} {c = c} {c_now = c_now} low high first = record {
  reads = first.reads;
  told = λ collection stands.
      subst (λ l. TalliesAll old.code l t t_now c c_now) (ap (λ n. take n (documents collection)) (omega (arith, low, high, stands.documents)) ∙ take-length (documents collection))
      (first.told collection stands);
}

-- ---- a text

docs_counted : (code : TextCode) (collection : List ℕ) {before t : PieceTally} {c c_mid c_now : Counted} → IsNoTally code before →
    PairsIn code (flat_map parse (documents collection)) → TalliesAll code (documents collection) before t c c_mid → PutsTally code t c_mid c_now →
    CountsDocuments (documents collection) c c_now
docs_counted code collection {before} {t} {c} {c_mid} {c_now} none all told puts = record {
  words = λ q. puts.words q ∙ omega (arith, ap (λ (x : Counted). entry_count x.words q) told.1, words_tallied code (documents collection) before t none all told.0 q);
  others = λ q. puts.others q ∙ omega (arith, ap (λ (x : Counted). entry_count x.others q) told.1, others_tallied code (documents collection) before t none all told.0 q);
  pairs = puts.pairs ∙ ap (λ (x : Counted). x.pairs) told.1;
}

pub text_refused : {old new : TextReading} {c c_now : Counted} {f g : Option Files} {r s : Reads} {k m : ℕ} →
    ReadsText (Ok false) old new f g r s k m → CountsText (Ok false) old new c c_now f g r s k m
text_refused read = record { reads = read; counted = λ collection stands. tt }

pub text_failed : (failed : Failed) {old new : TextReading} {c c_now : Counted} {f g : Option Files} {r s : Reads} {k m : ℕ} →
    ReadsText {T = Bool} (Err failed) old new f g r s k m → CountsText (Err failed) old new c c_now f g r s k m
text_failed failed read = record { reads = read; counted = λ collection stands. tt }

-- its pieces were counted, or not
pub text_counted : (put : Bool) {done : Bool} {old new : TextReading} {code : TextCode} {t0 t : PieceTally} {c c_mid c_now : Counted} {f g : Option Files} {r s : Reads} {k m : ℕ} →
    IsNoTally old.code t0 → done ≡ true → TalliesText (Ok done) old new t0 t c c_mid f g r s k m → code ≡ new.code → OnTrue put (PutsTally code t c_mid c_now) →
    CountsText (Ok put) old new c c_now f g r s k m
text_counted put {done} {old} {new} {code} {t0} {t} {c} {c_mid} {c_now} none is step here puts = record {
  reads = reads_so_far put step.reads;
  counted = λ collection stands. on_true_map put (λ all.
      let told : TalliesAll old.code (documents collection) t0 t c c_mid = on_true_is done _ is (step.told collection stands) in
      let pieces = docs_in old.code (documents collection) (λ i lt. doc_pieces old.code collection i stands.code lt) in
      docs_counted old.code collection none pieces told (subst (λ x. PutsTally x t c_mid c_now) (here ∙ step.reads.same.code) all)) puts;
}
