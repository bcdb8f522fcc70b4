-- Two texts that are read: what stands of them, and what their documents are.
use Rattle.std.proofs.Common.{arith, ◌≡◌, ◌+◌, ◌-◌, ◌≤◌, ◌<◌, ℕ, Bool, true, false, List, [], ◌∷◌, ◌++◌, length, Option, Ok, Err, is_some, refl, sym, ◌∙◌, ap, subst, append-nil}
use Rattle.std.specs.Prelude.{OnOk, Result}
use Rattle.mg_dev.specs.Faults.{ReadStops, fault_of_part}
use Rattle.mg_dev.specs.Files.{Files, file_at}
use Rattle.mg_dev.specs.PartCauses.{HasPartCause}
use Rattle.mg_dev.specs.Causes.{Rose}
use Rattle.mg_dev.specs.declared.part_err.PartErr.{PartErr}
use Rattle.mg_dev.specs.declared.part_err.PartErr.TheVariants.{Bad, Device, Memory}
use Rattle.mg_dev.specs.Bads.{IsNotBad}
use Rattle.mg_defs.specs.Join.{join}
use Rattle.mg_defs.specs.Split.{close, documents, has_open_end, is_closed}
use Rattle.mg_laws.proofs.JoinLaws.{count_joined, end_joined, first_document, size_joined}
use Rattle.mg_layout.specs.HeadAnswers.{fields_of}
use Rattle.mg_layout.specs.declared.head.Head as layout
use Rattle.mg_defs.specs.Stands.{head_of}
use Rattle.mg_defs.specs.Terms.{document}
use Rattle.mg_text.specs.Held.{HasShortDocument}
use Rattle.mg_text.specs.Reading.{SameText, TextFits, TextReading, TextStands}
use Rattle.mg_text.proofs.CallerLemmas.{text_stays}
use Rattle.mg_merge.specs.Merging.{joined_size}
use Rattle.mg_merge.specs.Texts.{AreSetsBy, HaveShort, SameTexts, TextsFit, TextsStand, TwoTexts, closed_document}
use Rattle.mg_merge.proofs.JoinedLaws.{document_second}

-- ---- one text

pub same_text : (r : TextReading) → SameText r r
same_text r = record { text = refl; places = refl; code = refl; version = refl; documents = refl; size = refl }

text_more : (a b c : TextReading) → SameText a b → SameText b c → SameText a c
text_more a b c one two = record {
  text = two.text ∙ one.text;
  places = two.places ∙ one.places;
  code = two.code ∙ one.code;
  version = two.version ∙ one.version;
  documents = two.documents ∙ one.documents;
  size = two.size ∙ one.size;
}

-- what stands for a reader does so for what the reader became, while no file changes
pub stands_on : (r now : TextReading) (files files_now : Option Files) (collection : List ℕ) → SameText r now → files_now ≡ files → TextStands r files collection → TextStands now files_now collection
stands_on r now files files_now collection same stay stands = text_stays r now files files_now collection same (ap is_some stay)
    (ap (λ f. file_at f r.text.name) stay) (ap (λ f. file_at f r.places.name) stay) stands

pub fits_on : (r : TextReading) (files files_now : Option Files) → files_now ≡ files → TextFits r files → TextFits r files_now
fits_on r files files_now stay fits = subst (TextFits r) (sym stay) fits

-- ---- both

-- the first text was read
pub fits_first : (t : TwoTexts) (r : TextReading) (files now : Option Files) → TextsFit t files → TextFits r now → now ≡ files → r.documents ≡ t.first.documents →
    TextsFit (record { first = r; second = t.second; ahead = t.ahead; all = t.all; open_end = t.open_end; size = t.size; held = t.held }) now
fits_first t r files now fits read stay count = record {
  first = read;
  second = fits_on t.second files now stay fits.second;
  ahead = count ∙ fits.ahead;
  all = fits.all;
  few = fits.few;
}

pub same_first : (t : TwoTexts) (r : TextReading) → SameText t.first r →
    SameTexts t (record { first = r; second = t.second; ahead = t.ahead; all = t.all; open_end = t.open_end; size = t.size; held = t.held })
same_first t r same = record { first = same; second = same_text t.second; ahead = refl; all = refl; open_end = refl; size = refl }

pub texts_none : (t : TwoTexts) → SameTexts t t
texts_none t = record { first = same_text t.first; second = same_text t.second; ahead = refl; all = refl; open_end = refl; size = refl }

pub texts_more : (s t u : TwoTexts) → SameTexts s t → SameTexts t u → SameTexts s u
texts_more s t u one two = record {
  first = text_more s.first t.first u.first one.first two.first;
  second = text_more s.second t.second u.second one.second two.second;
  ahead = two.ahead ∙ one.ahead;
  all = two.all ∙ one.all;
  open_end = two.open_end ∙ one.open_end;
  size = two.size ∙ one.size;
}

-- both texts stand, and so do they later, while no file changes
pub texts_stand_on : (t now : TwoTexts) (files files_now : Option Files) (collection : List ℕ) → SameTexts t now → files_now ≡ files →
    TextsStand t files collection → TextsStand now files_now collection
texts_stand_on t now files files_now collection same stay stand = record {
  a = stand.a;
  b = stand.b;
  first = stands_on t.first now.first files files_now stand.a same.first stay stand.first;
  second = stands_on t.second now.second files files_now stand.b same.second stay stand.second;
  open_end = same.open_end ∙ stand.open_end;
  joins = stand.joins;
  size = same.size ∙ stand.size;
}

-- how many documents there are
pub documents_of_texts : (t : TwoTexts) (files : Option Files) (collection : List ℕ) → TextsFit t files → TextsStand t files collection → t.all ≡ length (documents collection)
documents_of_texts t files collection fits stand =
    let count = count_joined stand.a stand.b in
    omega (arith, fits.ahead, fits.all, stand.first.documents, stand.second.documents, count, ap (λ (c : List ℕ). length (documents c)) stand.joins)

pub end_of_texts : (t : TwoTexts) (files : Option Files) (collection : List ℕ) → TextsStand t files collection → t.open_end ≡ has_open_end collection
end_of_texts t files collection stand = stand.open_end ∙ sym (ap has_open_end stand.joins ∙ end_joined stand.a stand.b)

-- ---- a document

-- the document of a number that is one of the first text, and of one that is behind them
pub document_ahead : (t : TwoTexts) (files : Option Files) (collection : List ℕ) (number : ℕ) → TextsFit t files → 1 ≤ number → number ≤ t.ahead →
    (stand : TextsStand t files collection) → document stand.a number ≡ document collection number
document_ahead t files collection number fits low high stand =
    let few : number ≤ length (documents stand.a) = omega (arith, high, fits.ahead, stand.first.documents) in
    sym (ap (λ (c : List ℕ). document c number) stand.joins ∙ first_document stand.a stand.b number low few)

pub document_behind : (t : TwoTexts) (files : Option Files) (collection : List ℕ) (number : ℕ) → TextsFit t files → t.ahead < number →
    (stand : TextsStand t files collection) → document stand.b (number - t.ahead) ≡ document collection number
document_behind t files collection number fits high stand =
    let low : 1 ≤ number - t.ahead = omega (arith, high) in
    let place : number ≡ length (documents stand.a) + (number - t.ahead) = omega (arith, high, fits.ahead, stand.first.documents) in
    sym (ap (λ (c : List ℕ). document c number) stand.joins ∙ document_second stand.a stand.b number (number - t.ahead) low place)

-- it has at most so many bytes
pub short_ahead : (t : TwoTexts) (files : Option Files) (collection : List ℕ) (number most now : ℕ) → TextsFit t files →
    1 ≤ number → number ≤ t.ahead → now ≡ most → (has : HaveShort t files number most collection) →
    HasShortDocument t.first files number now has.stands.a
short_ahead t files collection number most now fits low high same has =
    let is = document_ahead t files collection number fits low high has.stands in
    record { stands = has.stands.first; short = omega (arith, ap (λ (d : List ℕ). length d) is, has.short, same) }

pub short_behind : (t : TwoTexts) (files : Option Files) (collection : List ℕ) (number most now : ℕ) → TextsFit t files →
    t.ahead < number → now ≡ most → (has : HaveShort t files number most collection) →
    HasShortDocument t.second files (number - t.ahead) now has.stands.b
short_behind t files collection number most now fits high same has =
    let is = document_behind t files collection number fits high has.stands in
    record { stands = has.stands.second; short = omega (arith, ap (λ (d : List ℕ). length d) is, has.short, same) }

-- it is no longer than the bound
pub held_short : {E : Type 0} (r : Result (Unit {0}) E) (held bound most : ℕ) → bound ≡ most → OnOk r (held ≤ bound) → OnOk r (held ≤ most)
held_short r held bound most is short = subst (λ n. OnOk r (held ≤ n)) is short

-- what is held is the document
pub held_is : {E : Type 0} (r : Result (Unit {0}) E) (now doc wanted : List ℕ) → doc ≡ wanted → OnOk r (now ≡ doc) → OnOk r (now ≡ wanted)
held_is (Ok done) now doc wanted is held = held ∙ is
held_is (Err refusal) now doc wanted is held = tt

-- with the byte that closes it
pub with_close : (closed : Bool) (doc : List ℕ) → closed ≡ true → doc ++ 2 ∷ [] ≡ doc ++ close closed
with_close closed doc is = ap (λ c. doc ++ close c) (sym is)

pub without_close : (closed : Bool) (doc : List ℕ) → closed ≡ false → doc ≡ doc ++ close closed
without_close closed doc is = sym (append-nil doc) ∙ ap (λ c. doc ++ close c) (sym is)

pub closes : (t : TwoTexts) (files : Option Files) (collection held now : List ℕ) (closed : Bool) (number : ℕ) → TextsFit t files →
    closed ≡ is_closed number t.all t.open_end → held ≡ document collection number → now ≡ held ++ close closed → TextsStand t files collection →
    now ≡ closed_document number collection
closes t files collection held now closed number fits is held_is now_is stand =
    now_is ∙ ap (λ h. h ++ close closed) held_is ∙ ap (λ c. document collection number ++ close c)
    (is ∙ ap (λ n. is_closed number n t.open_end) (documents_of_texts t files collection fits stand) ∙ ap (is_closed number (length (documents collection))) (end_of_texts t files collection stand))

-- ---- heads

-- their heads tell the bytes of both in one
pub size_of_sets : (files : Option Files) (first second a b : List ℕ) (one other : layout.Head) → AreSetsBy one other files first second a b →
    joined_size (fields_of one) (fields_of other) ≡ length (join a b)
size_of_sets files first second a b one other sets =
    let left : fields_of one ≡ head_of one.version one.cap sets.first_code a = sets.first_stands.head_is in
    let right : fields_of other ≡ head_of other.version other.cap sets.second_code b = sets.second_stands.head_is in
    ap (λ h. joined_size h (fields_of other)) left ∙ ap (joined_size (head_of one.version one.cap sets.first_code a)) right ∙ sym (size_joined a b)

-- ---- causes

pub part_stops : {T : Type 0} (refusal : PartErr) (s t : ℕ) (whole : Type 0) → (whole → IsNotBad refusal) → HasPartCause {T = T} s t (Err refusal) → ReadStops (Rose s t) whole (fault_of_part refusal)
part_stops Device s t whole good cause = cause.device
part_stops Memory s t whole good cause = tt
part_stops (Bad bad) s t whole good cause = good
