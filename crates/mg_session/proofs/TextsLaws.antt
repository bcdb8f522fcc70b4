-- The text of a base: its reader, before and after it is loaded.
use Rattle.std.proofs.Common.{arith, ◌≡◌, ◌+◌, ◌≤◌, ℕ, zero, suc, List, [], ◌∷◌, length, get_or, IsSome, Some, None, Ok, Err, sym, ◌∙◌, ap, subst, is_some}
use Rattle.std.specs.Prelude.{IfSome}
use Rattle.std.specs.List.{AllByRecursion}
use Rattle.std.specs.declared.option.Option.{Option}
use Rattle.std.specs.declared.result.Result.{Result}
use Rattle.mg_dev.specs.Files.{Files, file_at}
use Rattle.mg_dev.specs.Moments.{SinkAt, StoreAt}
use Rattle.mg_dev.specs.declared.part.Part.TheVariants as part
use Rattle.mg_dev.specs.declared.part_err.PartErr.{PartErr}
use Rattle.mg_dev.specs.declared.part_err.PartErr.TheVariants.{Device, Memory, Bad}
use Rattle.mg_dev.specs.declared.show_err.ShowErr.{ShowErr}
use Rattle.mg_dev.specs.declared.show_err.ShowErr.TheVariants as show
use Rattle.mg_defs.specs.CodedText.{TextCode, doc_range}
use Rattle.mg_defs.specs.PagesOf.{pages}
use Rattle.mg_defs.specs.Split.{documents}
use Rattle.mg_defs.specs.TextBounds.{doc_pages}
use Rattle.mg_defs.proofs.ListLaws.{documents_short}
use Rattle.mg_defs.specs.declared.session.Mode.TheVariants as mode
use Rattle.mg_front.specs.Reading.{IsNotBad, LookedAt}
use Rattle.mg_layout.specs.declared.head.Head.{Head}
use Rattle.mg_text.specs.Decoding.{IsShowCaused}
use Rattle.mg_text.specs.Held.{HasShortDocument}
use Rattle.mg_text.specs.Reading.{IsText, IsTextReader, SameText, ShowIsNotBad, TextFits, TextReading, TextStands}
use Rattle.mg_text.proofs.CallerLemmas.{text_stays}
use Rattle.mg_reply.specs.Printed.{at_score}
use Rattle.mg_session.specs.Answering.{HasShowCause, HasShowLack}
use Rattle.mg_session.specs.Calls.{TextShown}
use Rattle.mg_session.specs.Parts.{ShownIn}
use Rattle.mg_session.specs.Texts.{IsLoaded, ModelsAre, Texting, TextsFit, TextsStand}
use Rattle.mg_session.proofs.StepLaws.{cause_after, looked_shown, shown_then}

-- the same reader, over the same files
pub loaded_later : (base : List ℕ) (head : Head) (files now : Option Files) (r s : TextReading) → SameText r s → TextFits s now → now ≡ files → IsLoaded base head files r → IsLoaded base head now s
loaded_later base head files now r s same fits e o = record {
  fits = fits;
  reader = record {
    text_is = same.text ∙ o.reader.text_is;
    places_is = same.places ∙ o.reader.places_is;
    version_is = same.version ∙ o.reader.version_is;
    documents_are = same.documents ∙ o.reader.documents_are;
    size_is = same.size ∙ o.reader.size_is;
  };
  stands = λ code collection is.
      text_stays r s files now collection same (ap is_some e) (ap (λ (f : Option Files). file_at f r.text.name) e)
      (ap (λ (f : Option Files). file_at f r.places.name) e) (o.stands code collection (before code collection is));
  code = λ code collection is. same.code ∙ o.code code collection (before code collection is);
  models = λ told. subst (ModelsAre base now head) (sym same.code) (subst (λ (f : Option Files). ModelsAre base f head r.code) (sym e) (o.models (subst IsSome e told)));
}
  where
    before : (code : TextCode) (collection : List ℕ) → IsText base now head code collection → IsText base files head code collection
    before code collection is = subst (λ (f : Option Files). IsText base f head code collection) e is

-- a reader that was loaded
pub loaded_now : (base : List ℕ) (head : Head) (files now : Option Files) (r : TextReading) → now ≡ files → TextFits r now → IsTextReader r base head →
    ((code : TextCode) (collection : List ℕ) → IsText base files head code collection → TextStands r now collection) →
    ((code : TextCode) (collection : List ℕ) → IsText base files head code collection → r.code ≡ code) → (IsSome files → ModelsAre base files head r.code) → IsLoaded base head now r
loaded_now base head files now r e fits reader stands code models = record {
  fits = fits;
  reader = reader;
  stands = λ c collection is. stands c collection (before c collection is);
  code = λ c collection is. code c collection (before c collection is);
  models = λ told. subst (λ (f : Option Files). ModelsAre base f head r.code) (sym e) (models (subst IsSome e told));
}
  where
    before : (c : TextCode) (collection : List ℕ) → IsText base now head c collection → IsText base files head c collection
    before c collection is = subst (λ (f : Option Files). IsText base f head c collection) e is

-- the reader of a text that agrees with the files, where there is one
pub texts_reader : (files : Option Files) (t : Texting) (r : TextReading) → TextsFit files t → t.reader ≡ Some r → IsLoaded t.base t.head files r
texts_reader files t r fit is = subst (λ (o : Option TextReading). IfSome o (IsLoaded t.base t.head files)) is fit.reader

-- a reader that was not loaded shows nothing, and says that no part is bad where loading does not
pub load_sound : (refusal : PartErr) → IsNotBad refusal → ShowIsNotBad (Err (show.Part refusal))
load_sound Device is = tt
load_sound Memory is = tt
load_sound (Bad bad) is = absurd is

-- the pages that a reader reads are those of the collection's codes
pub same_pages : (r : TextReading) (code : TextCode) (collection : List ℕ) (number before now : ℕ) → r.code ≡ code →
    now ≤ before + pages (doc_range r.code collection number).from (doc_range r.code collection number).to → now ≤ before + doc_pages code collection (at_score number None)
same_pages r code collection number before now same read = subst (λ (c : TextCode). now ≤ before + doc_pages c collection (at_score number None)) same read

-- ---- a document of bounded length

-- a document of a collection is no longer than the collection
short_at : (n : ℕ) (docs : List (List ℕ)) (i : ℕ) → AllByRecursion (λ (doc : List ℕ). length doc ≤ n) docs → length (get_or docs i []) ≤ n
short_at n [] i all = omega arith
short_at n (d ∷ docs) zero all = all.0
short_at n (d ∷ docs) (suc i) all = short_at n docs i all.1

pub short_document : (r : TextReading) (files : Option Files) (number most : ℕ) (collection : List ℕ) → TextStands r files collection →
    length collection ≤ most → HasShortDocument r files number most collection
short_document r files number most collection stands short = record {
  stands = stands;
  short = omega (arith, short_at (length collection) ([] ∷ documents collection) number (omega arith, documents_short collection), short);
}

-- ---- a document is shown

pub read_cause : (result : Result (Unit {0}) ShowErr) (s t f g l m : ℕ) → s ≤ t → f ≤ g → IsShowCaused result s t f g l m → HasShowCause result s t f g
read_cause (Ok done) s t f g l m store output is = record { store = store; output = output; caused = tt }
read_cause (Err (show.Part Device)) s t f g l m store output is = record { store = store; output = output; caused = is }
read_cause (Err (show.Part Memory)) s t f g l m store output is = record { store = store; output = output; caused = tt }
read_cause (Err (show.Part (Bad bad))) s t f g l m store output is = record { store = store; output = output; caused = tt }
read_cause (Err show.Write) s t f g l m store output is = record { store = store; output = output; caused = is }
read_cause (Err show.Memory) s t f g l m store output is = record { store = store; output = output; caused = tt }

pub read_lack : (result : Result (Unit {0}) ShowErr) (s t f g l m : ℕ) → l ≤ m → IsShowCaused result s t f g l m → HasShowLack l m result
read_lack (Ok done) s t f g l m later is = record { later = later; lacked = tt }
read_lack (Err (show.Part refusal)) s t f g l m later is = record { later = later; lacked = tt }
read_lack (Err show.Write) s t f g l m later is = record { later = later; lacked = tt }
read_lack (Err show.Memory) s t f g l m later is = record { later = later; lacked = is }

module _ {base : List ℕ} {head : Head} {reader : Option TextReading} {texts : Texting} {at next : StoreAt} (own : record { base = base; head = head; reader = reader } ≡ texts)
    (fits : TextsFit at.files texts) (before : ShownIn mode.Text at.files next.files at.reads next.reads at.faults next.faults) where
  own_fits : TextsFit at.files (record { base = base; head = head; reader = reader })
  own_fits = subst (λ (t : Texting). TextsFit at.files t) (sym own) fits

  -- a reader that is loaded shows it
  pub read_shown : {reader_now : Option TextReading} {r r_now : TextReading} {now : StoreAt} {out out_now : SinkAt} {result : Result (Unit {0}) ShowErr} {IsPrinted : List ℕ → Type 0}
      {most : TextCode → List ℕ → ℕ} → reader_now ≡ Some r_now → IsLoaded base head next.files r → SameText r r_now → TextFits r_now now.files →
      LookedAt part.Text part.Places next.files now.files next.reads now.reads next.faults now.faults →
      out.faults ≤ out_now.faults → out.lacks ≤ out_now.lacks →
      IsShowCaused result next.faults now.faults out.faults out_now.faults out.lacks out_now.lacks →
      ((code : TextCode) (collection : List ℕ) → TextsStand texts at.files code collection → IsPrinted collection) →
      ((code : TextCode) (collection : List ℕ) → TextsStand texts at.files code collection → now.reads part.Text ≤ at.reads part.Text + most code collection) →
      ((code : TextCode) (collection : List ℕ) → TextsStand texts at.files code collection → ShowIsNotBad result) →
      TextShown texts (record { base = base; head = head; reader = reader_now }) at now out out_now result mode.Text IsPrinted most
  read_shown {r = r} {r_now = r_now} {now = now} {result = result} is loaded same fits_now looked later lacks cause content pages sound = record {
    fits = record {
      words = own_fits.words;
      others = own_fits.others;
      reader = subst (λ (o : Option TextReading). IfSome o (IsLoaded base head now.files)) (sym is) (loaded_later base head _ _ r r_now same fits_now looked.files loaded);
    };
    same = record { base = ap (λ (t : Texting). t.base) own; head = ap (λ (t : Texting). t.head) own };
    content = content;
    pages = pages;
    sound = sound;
    looked = shown_then before (looked_shown part.Text part.Places _ _ _ _ _ _ (omega arith) (omega arith) (omega arith) (omega arith) looked);
    cause = cause_after _ _ _ _ _ _ _ before.faults (omega arith) (read_cause result _ _ _ _ _ _ looked.faults later cause);
    lack = read_lack result _ _ _ _ _ _ lacks cause;
  }
