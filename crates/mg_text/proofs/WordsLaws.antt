-- What listing the words of a document promises, by the calls that it makes.
use Rattle.std.proofs.Common.{arith, ◌≡◌, ◌+◌, ◌*◌, ◌-◌, ◌^◌, ◌++◌, ◌≤◌, ℕ, false, List, [], length, map, get_or, Option, IsSome, Some, Result, Ok, Err, refl, sym, ◌∙◌, ap, subst}
use Rattle.std.specs.Prelude.{OnOk}
use Rattle.mg_dev.specs.Bads.{IsNotBad}
use Rattle.mg_dev.specs.Files.{Files, Reads}
use Rattle.mg_dev.specs.Names.{same_part}
use Rattle.mg_dev.specs.declared.part.Part.TheVariants as part
use Rattle.mg_dev.specs.declared.part_err.PartErr.{PartErr}
use Rattle.mg_dev.specs.declared.part_err.PartErr.TheVariants.{Device, Memory, Bad}
use Rattle.mg_bits.specs.Feed.{of_store}
use Rattle.mg_bits.specs.Pages.{Fits, Paging, feeding_of}
use Rattle.mg_defs.specs.CodedText.{TextCode, coded_doc, place_after}
use Rattle.mg_defs.specs.PagesOf.{pages}
use Rattle.mg_defs.specs.Parse.{parse}
use Rattle.mg_defs.specs.Terms.{document}
use Rattle.mg_text.specs.Decoding.{IsReadCaused, PairsIn, Takes}
use Rattle.mg_text.specs.Held.{HasShortDocument}
use Rattle.mg_text.specs.Listing.{Adds, AreOfWords, AreWordsOf, ListEnds, ListMoment, ListStep, ListSteps, Listed, Listing, ListsDoc, ReadsOf, ReadsWords, WordsStood, word_symbols}
use Rattle.mg_text.specs.Places.{ReadsPlace}
use Rattle.mg_text.specs.Reading.{TextFits, TextReading, TextStands, document_pages}
use Rattle.mg_text.proofs.CameLaws.{on_ok}
use Rattle.mg_text.proofs.DocumentLaws.{not_text, with_feeds}
use Rattle.mg_text.proofs.ListLaws.{cause_more, list_ends_either, list_ends_first, list_ends_good, list_ends_map, number_cause, words_of_symbols}
use Rattle.mg_text.proofs.ReaderLaws.{doc_at, text_reads}
use Rattle.mg_text.proofs.SameFiles.{same_file}

-- what stands at a place is told, so it is not bad
pub takes_good : {T : Type 0} (refusal : PartErr) (whole : T → Type 0) → Takes {T = T} (Err refusal) whole (Unit {0}) → IsNotBad refusal
takes_good Device whole takes = tt
takes_good Memory whole takes = tt
takes_good (Bad bad) whole takes = takes

-- the symbols are those of the document's words, and of Text no more pages were read than so many
abbrev pub AnswersWords : TextCode → Result (Unit {0}) PartErr → Listing → List ℕ → ℕ → ℕ → ℕ → Type 0
AnswersWords code result list doc before now most = ListEnds result (AreWordsOf code list.symbols doc × (now ≤ before + most)) (now ≤ before + most)

-- symbols that were added to none
listed_words : (code : TextCode) (doc : List ℕ) (size : ℕ) (old new : Listing) → old.symbols ≡ [] → PairsIn code (parse doc) → Adds (word_symbols code (parse doc)) size old new →
    AreWordsOf code new.symbols doc
listed_words code doc size old new empty all adds =
    ap (map (λ (s : ℕ). get_or code.words.pieces s [])) (adds.symbols_are ∙ ap (λ s. s ++ word_symbols code (parse doc)) empty) ∙ words_of_symbols code (parse doc) all

-- what is listed from the place of a document
pub words_told : (result : Result (Unit {0}) PartErr) (r : TextReading) (files : Option Files) (collection : List ℕ) (number from place : ℕ) (feed : Paging)
    (a c : ListMoment) (before : ℕ) →
    TextStands r files collection → 1 ≤ number → number ≤ r.documents → a.device.files ≡ files → from ≡ place_after r.code collection (number - 1) → place ≡ 8 * from →
    feed ≡ r.text → r.text.part ≡ part.Text → a.feed ≡ feeding_of 4096 feed → a.place ≡ place → a.device.reads part.Text ≡ before → a.list.symbols ≡ [] →
    length (document collection number) ≤ a.list.left → ListsDoc r.code result a c →
    AnswersWords r.code result c.list (document collection number) before (c.device.reads part.Text) (document_pages r.code collection number)
words_told result r files collection number from place feed a c before stands some within same at place_is fed own feed_is there e empty short step =
    let doc = document collection number in
    let stood = doc_at r files a.device.files collection number from place feed stands some within same at place_is fed in
    let here : a.place ≡ 8 * place_after r.code collection (number - 1) = omega (arith, at, place_is, there) in
    let page : a.feed.page ≡ 4096 = ap (λ f. f.page) feed_is in
    let part_is : a.feed.part ≡ Some part.Text = ap (λ f. f.part) feed_is ∙ ap (λ (f : Paging). Some f.part) fed ∙ ap Some own in
    let ends : a.place + length (coded_doc r.code doc) ≤ 8 * place_after r.code collection number = omega (arith, stood.ends, there) in
    let small : a.place + length (coded_doc r.code doc) ≤ 2 ^ 63 = omega (arith, stood.small, there) in
    subst (λ n. AnswersWords r.code result c.list doc before (c.device.reads part.Text) (pages n (8 * place_after r.code collection number))) here
    (list_ends_map result _ _ _ _
    (λ (h : Listed (coded_doc r.code doc) (word_symbols r.code (parse doc)) (length doc) a c). (
      listed_words r.code doc (length doc) a.list c.list empty stood.pairs h.adds,
      rw (← e) (text_reads a.feed c.feed a.device c.device a.place (a.place + length (coded_doc r.code doc)) (8 * place_after r.code collection number) page part_is ends h.read.pages),
    ))
    (λ (h : ReadsOf (coded_doc r.code doc) a c).
    rw (← e) (text_reads a.feed c.feed a.device c.device a.place (a.place + length (coded_doc r.code doc)) (8 * place_after r.code collection number) page part_is ends h))
    (step doc stood.pairs stood.few short small (rw (feed_is, there) stood.shows)))

-- the place was refused
pub words_refused : (refusal : PartErr) {old : TextReading} {places : Paging} {number most : ℕ} {list : Listing} {claim : Type 0}
    {f g : Option Files} {r s : Reads} {k m : ℕ} → TextFits old f → old.places.part ≡ part.Places →
    ReadsPlace claim (IsReadCaused {T = ℕ} (Err refusal)) old.places places f g r s k m → s part.Text ≡ r part.Text →
    ((collection : List ℕ) → HasShortDocument old f number most collection → IsNotBad refusal) →
    ReadsWords number most (Err refusal) old (with_feeds old old.text places) list f g r s k m
words_refused refusal {old} {r = r} {s = s} fits own read unread good = record {
  fits = record { text = subst (Fits old.text) (sym read.looked.files) fits.text; places = read.fits };
  same = record { text = refl; places = read.file.name; code = refl; version = refl; documents = refl; size = refl };
  looked = record {
    files = read.looked.files;
    faults = read.looked.faults;
    later = read.looked.later;
    others = λ p one other. read.looked.others p (subst (λ q. same_part p q ≡ false) (sym own) other);
  };
  content = λ collection has. tt;
  stood = λ told. tt;
  of_words = tt;
  never_bad = good;
  pages = λ collection has. omega (arith, unread);
  places = subst (λ p. s p ≤ r p + 1) own read.page;
  cause = record { later = read.looked.faults; device = number_cause ℕ refusal _ _ read.cause };
}

-- its place was read, and then its words were listed
pub words_read : (result : Result (Unit {0}) PartErr) {tells came : ListStep} {old : TextReading} (from : ℕ) {text0 text places : Paging} {number most p q : ℕ}
    {claim : Type 0} {list0 list : Listing} {f g h : Option Files} {r s t : Reads} {k m n : ℕ} →
    old.text.part ≡ part.Text → old.places.part ≡ part.Places →
    ReadsPlace claim (IsReadCaused {T = ℕ} (Ok from)) old.places places f g r s k m → text0 ≡ old.text →
    ListSteps (Fits text h) old.code tells came result (record { feed = feeding_of 4096 text0; place = p; device = of_store g m s; list = list0 })
    (record { feed = feeding_of 4096 text; place = q; device = of_store h n t; list = list }) → list0.symbols ≡ [] →
    ((collection : List ℕ) → HasShortDocument old f number most collection →
    AnswersWords old.code result list (document collection number) (r part.Text) (t part.Text) (document_pages old.code collection number)) →
    (IsSome f → OnOk result (WordsStood old f number most list.symbols)) → ReadsWords number most result old (with_feeds old text places) list f h r t k n
words_read result {old = old} from {text0 = text0} {text = text} {places = places} {list = list} {r = r} {s = s} {t = t} text_own own read same step empty told stands =
    let text_is : text0.part ≡ part.Text = ap (λ (feed : Paging). feed.part) same ∙ text_own in
    let untouched : t part.Places ≡ s part.Places = step.calm.reads.others part.Places (not_text text0.part part.Places text_is refl) in
    record {
      fits = record { text = step.fits; places = subst (Fits places) (sym step.calm.files) read.fits };
      same = record { text = same_file text0 text _ _ step.calm ∙ ap (λ (feed : Paging). feed.name) same; places = read.file.name; code = refl; version = refl; documents = refl; size = refl };
      looked = record {
        files = step.calm.files ∙ read.looked.files;
        faults = omega (arith, read.looked.faults, step.calm.faults);
        later = λ p. omega (arith, read.looked.later p, step.calm.reads.later p);
        others = λ p one other. step.calm.reads.others p (not_text text0.part p text_is one) ∙ read.looked.others p (subst (λ q. same_part p q ≡ false) (sym own) other);
      };
      content = λ collection has. list_ends_first result _ _ (list_ends_map result _ _ _ _ (λ both. both.0) (λ part. part) (told collection has));
      stood = stands;
      of_words = on_ok result _ (step.of_words (subst (AreOfWords old.code) (sym empty) tt));
      never_bad = λ collection has. list_ends_good result _ _ (told collection has);
      pages = λ collection has. list_ends_either result _ (list_ends_map result _ _ _ _ (λ both. both.1) (λ part. part) (told collection has));
      places = omega (arith, untouched, subst (λ p. s p ≤ r p + 1) own read.page);
      cause = record { later = omega (arith, read.looked.faults, step.calm.faults); device = cause_more result _ _ _ read.looked.faults step.cause };
    }
