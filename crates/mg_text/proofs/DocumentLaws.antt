-- What reading a document promises, by the calls that it makes.
use Rattle.std.proofs.Common.{arith, ◌≡◌, ◌≢◌, ◌+◌, ◌++◌, ◌≤◌, ℕ, List, length, true, false, Option, IsSome, Some, Result, OnOk, Ok, Err, refl, sym, ◌∙◌, ap, subst}
use Rattle.mg_dev.specs.Files.{Files, Reads}
use Rattle.mg_dev.specs.Moments.{SinkAt}
use Rattle.mg_dev.specs.Names.{same_part}
use Rattle.mg_dev.specs.Streams.{AfterPut}
use Rattle.mg_dev.specs.declared.part.Part.{Part}
use Rattle.mg_dev.specs.declared.part.Part.TheVariants as part
use Rattle.mg_dev.specs.declared.part_err.PartErr.{PartErr}
use Rattle.mg_dev.specs.declared.show_err.ShowErr.{ShowErr}
use Rattle.mg_dev.specs.declared.show_err.ShowErr.TheVariants as show
use Rattle.mg_bits.specs.Feed.{of_store}
use Rattle.mg_bits.specs.Pages.{Fits, Paging, feeding_of}
use Rattle.mg_defs.specs.Terms.{document}
use Rattle.mg_text.specs.Decoding.{AddedOf, DecodingStep, Gathering, IsReadCaused, Shown, Steps, bytes_to_come}
use Rattle.mg_text.specs.Held.{ForShortDocument, HasShortDocument, WhereShort}
use Rattle.mg_text.specs.Places.{ReadsPlace}
use Rattle.mg_text.specs.Reading.{AnswersDoc, AnswersGathered, GathersDoc, PagesOfDocument, ReadsDocument, ShowIsNotBad, TellsDocument, TextFits, TextReading, TextStands, document_pages}
use Rattle.mg_text.proofs.SameFiles.{same_file}
use Rattle.mg_text.proofs.Shows.{adds_none, gather_fits, shown_from}
use Rattle.mg_text.proofs.StepLaws.{read_caused}
use Rattle.mg_text.proofs.Steps.{caused_more, ends_first, ends_good, ends_second}

-- a reader with these feeds
abbrev pub with_feeds : TextReading → Paging → Paging → TextReading
with_feeds r text places = record { text = text; places = places; code = r.code; version = r.version; documents = r.documents; size = r.size }

never_true : true ≡ false → ⊥
never_true e = absurd cc

-- a part that is not Text is not that of a feed of Text
pub not_text : (own p : Part) → own ≡ part.Text → same_part p part.Text ≡ false → Some own ≢ Some p
not_text own p is other same =
    let p_is : p ≡ part.Text = cc (same, is) in
    never_true (subst (λ q. same_part q part.Text ≡ false) p_is other)

-- more may come, or less is said to be left
adds_between : {a b most most_now : ℕ} {out now : SinkAt} → AddedOf a b out now → a ≤ most → most_now ≤ b → AddedOf most most_now out now
adds_between added more less = record { faults = added.faults; lacks = added.lacks; bytes = added.bytes; told = added.told; few = omega (arith, added.few, more, less) }

-- ---- what is told where the parts stand

-- what is told of a document's bytes, and facts wherever its reader's parts stand
pub record Told (r : TextReading) (number : ℕ) (wherever : (List ℕ → Type 0) → Type 0) (told : Type 0) (result : Result (Unit {0}) ShowErr)
    (reads_before reads_now : Reads) : Type 0 where
  pub content : told
  pub never_bad : wherever (λ _. ShowIsNotBad result)
  pub pages : wherever (PagesOfDocument r number reads_before reads_now)

module _ (result : Result (Unit {0}) ShowErr) {r : TextReading} {f : Option Files} {number : ℕ} {s t : Reads} (w w_now : Option (List ℕ)) where
  -- of a document that has so many bytes at most
  pub short_told : (most : ℕ) → ((collection : List ℕ) → HasShortDocument r f number most collection →
      AnswersDoc result w w_now (document collection number) (s part.Text) (t part.Text) (document_pages r.code collection number)) →
      Told r number (WhereShort r f number most) (ForShortDocument r f number most (λ doc. AfterPut w w_now doc result)) result s t
  short_told most told = record {
    content = λ collection has. ends_first result _ _ _ _ (told collection has);
    never_bad = λ collection has. ends_good result _ _ (told collection has);
    pages = λ collection has. ends_second result _ _ _ (told collection has);
  }

  -- of a document that comes behind what a buffer holds
  pub gathered_told : (b b_now : Gathering) → ((collection : List ℕ) (before : Option (List ℕ)) (bytes : List ℕ) (most : ℕ) → TextStands r f collection → Shown before w b bytes most →
      length (bytes ++ document collection number) ≤ most →
      AnswersGathered result before w_now b_now (bytes ++ document collection number) most (s part.Text) (t part.Text) (document_pages r.code collection number)) →
      Told r number (WhereShort r f number b.left) (GathersDoc r f w w_now b b_now number result) result s t
  gathered_told b b_now told =
      let held : (collection : List ℕ) → HasShortDocument r f number b.left collection →
      AnswersGathered result w w_now b_now (b.held ++ document collection number) (bytes_to_come b) (s part.Text) (t part.Text) (document_pages r.code collection number) =
      λ collection has. told collection w b.held (bytes_to_come b) has.stands (shown_from w b) (gather_fits b (document collection number) has.short) in
      record {
        content = λ collection before bytes most stands shown fits. ends_first result _ _ _ _ (told collection before bytes most stands shown fits);
        never_bad = λ collection has. ends_good result _ _ (held collection has);
        pages = λ collection has. ends_second result _ _ _ (held collection has);
      }

-- ---- the calls

-- the place was refused
pub document_refused : (refusal : PartErr) {old : TextReading} {places : Paging} {number most most_now : ℕ}
    {wherever : (List ℕ → Type 0) → Type 0} {claim told : Type 0} {comes : List ℕ → Type 0} {out : SinkAt}
    {f g : Option Files} {r s : Reads} {k m : ℕ} → TextFits old f → old.places.part ≡ part.Places → most_now ≤ most →
    ReadsPlace claim (IsReadCaused {T = ℕ} (Err refusal)) old.places places f g r s k m → Told old number wherever told (Err (show.Part refusal)) r s →
    ReadsDocument old (with_feeds old old.text places) number wherever told comes most most_now out out (Err (show.Part refusal)) f g r s k m
document_refused refusal {old} {r = r} {s = s} fits own le read tells = record {
  content = tells.content;
  stood = λ told. tt;
  never_bad = tells.never_bad;
  pages = tells.pages;
  fits = record { text = subst (Fits old.text) (sym read.looked.files) fits.text; places = read.fits };
  same = record { text = refl; places = read.file.name; code = refl; version = refl; documents = refl; size = refl };
  looked = record {
    files = read.looked.files;
    faults = read.looked.faults;
    later = read.looked.later;
    others = λ p one other. read.looked.others p (subst (λ q. same_part p q ≡ false) (sym own) other);
  };
  places = subst (λ p. s p ≤ r p + 1) own read.page;
  added = adds_none le;
  cause = read_caused ℕ refusal _ _ _ _ _ _ read.cause;
}

-- its place was read, and then it was decoded
pub document_read : (result : Result (Unit {0}) ShowErr) {tells came : DecodingStep} {old : TextReading} (from : ℕ) {text0 text places : Paging} {number most most_now p q : ℕ}
    {wherever : (List ℕ → Type 0) → Type 0} {claim told : Type 0} {comes : List ℕ → Type 0} {b b_now : Gathering} {out now : SinkAt} {f g h : Option Files} {r s t : Reads} {k m n : ℕ} →
    old.text.part ≡ part.Text → old.places.part ≡ part.Places →
    ReadsPlace claim (IsReadCaused {T = ℕ} (Ok from)) old.places places f g r s k m → text0 ≡ old.text →
    Steps (Fits text h) tells came result (record { feed = feeding_of 4096 text0; place = p; device = of_store g m s; held = b; sink = out })
    (record { feed = feeding_of 4096 text; place = q; device = of_store h n t; held = b_now; sink = now }) → bytes_to_come b ≤ most → most_now ≤ bytes_to_come b_now →
    Told old number wherever told result r t → (IsSome f → OnOk result (TellsDocument old f number comes)) →
    ReadsDocument old (with_feeds old text places) number wherever told comes most most_now out now result f h r t k n
document_read result {old = old} from {text0 = text0} {text = text} {places = places} {out = out} {now = now} {r = r} {s = s} {t = t} text_own own read same step more less tells stands =
    let text_is : text0.part ≡ part.Text = ap (λ (feed : Paging). feed.part) same ∙ text_own in
    let untouched : t part.Places ≡ s part.Places = step.calm.reads.others part.Places (not_text text0.part part.Places text_is refl) in
    record {
      content = tells.content;
      stood = stands;
      never_bad = tells.never_bad;
      pages = tells.pages;
      fits = record { text = step.fits; places = subst (Fits places) (sym step.calm.files) read.fits };
      same = record { text = same_file text0 text _ _ step.calm ∙ ap (λ (feed : Paging). feed.name) same; places = read.file.name; code = refl; version = refl; documents = refl; size = refl };
      looked = record {
        files = step.calm.files ∙ read.looked.files;
        faults = omega (arith, read.looked.faults, step.calm.faults);
        later = λ p. omega (arith, read.looked.later p, step.calm.reads.later p);
        others = λ p one other. step.calm.reads.others p (not_text text0.part p text_is one) ∙ read.looked.others p (subst (λ q. same_part p q ≡ false) (sym own) other);
      };
      places = omega (arith, untouched, subst (λ p. s p ≤ r p + 1) own read.page);
      added = adds_between step.added more less;
      cause = caused_more result _ _ _ out out now read.looked.faults (omega arith) (omega arith) step.cause;
    }
