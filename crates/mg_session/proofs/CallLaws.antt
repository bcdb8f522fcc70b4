-- What a call does to its parts and devices, put together from what the calls in it do.
use Rattle.std.proofs.Common.{arith, ◌≡◌, ◌*◌, ◌≤◌, ℕ, List, Ok, Err, refl, sym, ◌∙◌, ap, subst}
use Rattle.std.specs.Prelude.{IfErr}
use Rattle.std.specs.declared.option.Option.{Option}
use Rattle.std.specs.declared.result.Result.{Result}
use Rattle.mg_dev.specs.Causes.{HasLack, HasPutCause, Rose}
use Rattle.mg_dev.specs.Faults.{show_of_put}
use Rattle.mg_dev.specs.Files.{Files}
use Rattle.mg_dev.specs.Moments.{SinkAt, StoreAt}
use Rattle.mg_dev.specs.PartCauses.{HasPartCause}
use Rattle.mg_dev.specs.declared.part.Part.TheVariants as part
use Rattle.mg_dev.specs.declared.device.PutErr.{PutErr}
use Rattle.mg_dev.specs.declared.device.PutErr.TheVariants as put
use Rattle.mg_dev.specs.declared.part_err.PartErr.{PartErr}
use Rattle.mg_dev.specs.declared.part_err.PartErr.TheVariants.{Device, Memory, Bad}
use Rattle.mg_dev.specs.declared.show_err.ShowErr.{ShowErr}
use Rattle.mg_dev.specs.declared.show_err.ShowErr.TheVariants as show
use Rattle.mg_defs.specs.CodedText.{TextCode}
use Rattle.mg_defs.specs.declared.session.Mode.{Mode}
use Rattle.mg_front.specs.Looks.{looks}
use Rattle.mg_front.specs.Reading.{Fronted, FrontFits, LookedAt, SameParts}
use Rattle.mg_layout.specs.declared.head.Head.{Head}
use Rattle.mg_reply.specs.Refusals.{AnswerStops}
use Rattle.mg_session.specs.Answering.{HasShowCause, HasShowLack}
use Rattle.mg_session.specs.Calls.{AreShowable, OpenedStep, OutputStep, PutStep, TextShown, TextStep}
use Rattle.mg_session.specs.Parts.{ShownIn, Stepped, LineStepped, ReadsLexicon}
use Rattle.mg_session.specs.SearchLaws.{same_opened, same_texts, texts_then}
use Rattle.mg_session.specs.Searching.{Opened, SearchFits}
use Rattle.mg_session.specs.Texts.{Texting, TextsFit, TextsStand}
use Rattle.mg_session.proofs.ReplyLaws.{refused_cause, refused_lack, refused_sound}
use Rattle.mg_session.proofs.StepLaws.{cause_after, line_looked, line_none, line_then, shown_none, shown_step, stepped_none, stepped_then}
use Rattle.mg_session.proofs.TotalLaws.{lack_after}

-- ---- the output alone

-- bytes were put after others
pub put_behind : {out now : SinkAt} {f l : ℕ} {result : Result (Unit {0}) PutErr} → HasPutCause f now.faults result → HasLack l now.lacks result →
    out.faults ≤ f → out.lacks ≤ l → PutStep out now result
put_behind cause lack later lacks = record {
  cause = record { later = omega (arith, later, cause.later); failed = λ is. omega (arith, later, cause.failed is) };
  lack = record { later = omega (arith, lacks, lack.later); lacked = λ is. omega (arith, lacks, lack.lacked is) };
}

pub put_all_done : {out now : SinkAt} → out.faults ≤ now.faults → out.lacks ≤ now.lacks → PutStep out now (Ok tt)
put_all_done later lacks = record {
  cause = record { later = later; failed = λ is. absurd cc };
  lack = record { later = lacks; lacked = λ is. absurd cc };
}

pub put_done : {out now : SinkAt} → out.faults ≤ now.faults → out.lacks ≤ now.lacks → OutputStep out now (Ok tt)
put_done later lacks = record {
  sound = tt;
  cause = λ s. record { store = omega arith; output = later; caused = tt };
  lack = record { later = lacks; lacked = tt };
}

-- a put was refused, after others
pub put_refused : {out now : SinkAt} {f l : ℕ} (refusal : PutErr) {error : ShowErr} → error ≡ show_of_put refusal → HasPutCause {T = Unit {0}} f now.faults (Err refusal) →
    HasLack {T = Unit {0}} l now.lacks (Err refusal) → out.faults ≤ f → out.lacks ≤ l → OutputStep out now (Err error)
put_refused {out} {now} put.Failed is cause lack later lacks = subst (λ e. OutputStep out now (Err e)) (sym is) (record {
  sound = tt;
  cause = λ s. record { store = omega arith; output = omega (arith, later, cause.later); caused = omega (arith, later, cause.failed refl) };
  lack = record { later = omega (arith, lacks, lack.later); lacked = tt };
})
put_refused {out} {now} put.Memory is cause lack later lacks = subst (λ e. OutputStep out now (Err e)) (sym is) (record {
  sound = tt;
  cause = λ s. record { store = omega arith; output = omega (arith, later, cause.later); caused = tt };
  lack = record { later = omega (arith, lacks, lack.later); lacked = omega (arith, lacks, lack.lacked refl) };
})

-- nothing was written: memory is wanting
pub output_lacked : {at : SinkAt} → OutputStep at at (Err (show.Part Memory))
output_lacked = record {
  sound = tt;
  cause = λ s. record { store = omega arith; output = omega arith; caused = tt };
  lack = record { later = omega arith; lacked = tt };
}

-- it was written why a line is not answered
pub line_told : {out now : SinkAt} (result : Result (Unit {0}) ShowErr) → out.faults ≤ now.faults → out.lacks ≤ now.lacks →
    IfErr result (AnswerStops (Rose out.faults now.faults) (Rose out.lacks now.lacks)) → OutputStep out now result
line_told result later lacks stops = record {
  sound = refused_sound _ _ result stops;
  cause = λ s. refused_cause _ result s _ _ later stops;
  lack = refused_lack _ result _ _ lacks stops;
}

-- ---- a part is refused, and nothing is written

pub part_cause : {T : Type 0} (refusal : PartErr) {error : ShowErr} {s t f : ℕ} → error ≡ show.Part refusal → HasPartCause {T = T} s t (Err refusal) →
    HasShowCause (Err error) s t f f
part_cause Device {error} {s} {t} {f} is cause =
    subst (λ e. HasShowCause (Err e) s t f f) (sym is) (record { store = cause.later; output = omega arith; caused = cause.device })
part_cause Memory {error} {s} {t} {f} is cause =
    subst (λ e. HasShowCause (Err e) s t f f) (sym is) (record { store = cause.later; output = omega arith; caused = tt })
part_cause (Bad bad) {error} {s} {t} {f} is cause =
    subst (λ e. HasShowCause (Err e) s t f f) (sym is) (record { store = cause.later; output = omega arith; caused = tt })

pub part_lack : (refusal : PartErr) {error : ShowErr} {l : ℕ} → error ≡ show.Part refusal → HasShowLack l l (Err error)
part_lack refusal {error} {l} is = subst (λ e. HasShowLack l l (Err e)) (sym is) (record { later = omega arith; lacked = tt })

-- ---- documents are shown

-- the text was not read
pub shown_unread : {texts : Texting} {at : StoreAt} {out now : SinkAt} {result : Result (Unit {0}) ShowErr} {m : Mode} {IsPrinted : List ℕ → Type 0}
    {pages : TextCode → List ℕ → ℕ} → TextsFit at.files texts → OutputStep out now result →
    ((code : TextCode) (collection : List ℕ) → TextsStand texts at.files code collection → IsPrinted collection) →
    TextShown texts texts at at out now result m IsPrinted pages
shown_unread {texts} {at} {m = m} fits output content = record {
  fits = fits;
  same = same_texts texts;
  content = content;
  pages = λ code collection is. omega arith;
  sound = λ code collection is. output.sound;
  looked = shown_none m at.files at.reads at.faults;
  cause = output.cause at.faults;
  lack = output.lack;
}

-- what was shown after other bytes
pub shown_behind : {texts texts_now : Texting} {at next : StoreAt} {out mid now : SinkAt} {result : Result (Unit {0}) ShowErr} {m : Mode}
    {IsOne IsWhole : List ℕ → Type 0} {pages : TextCode → List ℕ → ℕ} → TextShown texts texts_now at next mid now result m IsOne pages →
    out.faults ≤ mid.faults → out.lacks ≤ mid.lacks →
    ((code : TextCode) (collection : List ℕ) → TextsStand texts at.files code collection → IsOne collection → IsWhole collection) →
    TextShown texts texts_now at next out now result m IsWhole pages
shown_behind one later lacks content = record {
  fits = one.fits;
  same = one.same;
  content = λ code collection is. content code collection is (one.content code collection is);
  pages = one.pages;
  sound = one.sound;
  looked = one.looked;
  cause = cause_after _ _ _ _ _ _ _ (omega arith) later one.cause;
  lack = lack_after _ _ _ _ lacks one.lack;
}

-- and before others
pub shown_around : {texts texts_now : Texting} {at next : StoreAt} {out mid end now : SinkAt} {one_result result : Result (Unit {0}) ShowErr} {m : Mode}
    {IsOne IsWhole : List ℕ → Type 0} {pages : TextCode → List ℕ → ℕ} → TextShown texts texts_now at next mid end one_result m IsOne pages →
    OutputStep end now result → out.faults ≤ mid.faults → out.lacks ≤ mid.lacks →
    ((code : TextCode) (collection : List ℕ) → TextsStand texts at.files code collection → IsOne collection → IsWhole collection) →
    TextShown texts texts_now at next out now result m IsWhole pages
shown_around {next = next} one output later lacks content = record {
  fits = one.fits;
  same = one.same;
  content = λ code collection is. content code collection is (one.content code collection is);
  pages = one.pages;
  sound = λ code collection is. output.sound;
  looked = one.looked;
  cause = cause_after _ _ _ _ _ _ _ one.looked.faults (omega (arith, later, one.cause.output)) (output.cause next.faults);
  lack = lack_after _ _ _ _ (omega (arith, lacks, one.lack.later)) output.lack;
}

pub shown_text : {texts texts_now : Texting} {at next : StoreAt} {out now : SinkAt} {result : Result (Unit {0}) ShowErr} {m : Mode} {IsPrinted : List ℕ → Type 0}
    {pages : TextCode → List ℕ → ℕ} → TextShown texts texts_now at next out now result m IsPrinted pages →
    TextStep texts texts_now at next out now result (ShownIn m)
shown_text shown = record { fits = shown.fits; same = shown.same; step = shown.looked; cause = shown.cause; lack = shown.lack }

-- ---- a text is read, and the output written to

pub text_start : {texts : Texting} {at : StoreAt} {out : SinkAt} {m : Mode} → TextsFit at.files texts → TextStep texts texts at at out out (Ok tt) (Stepped m)
text_start {texts} {at} {m = m} fits = record {
  fits = fits;
  same = same_texts texts;
  step = stepped_none m at.files at.reads at.faults;
  cause = record { store = omega arith; output = omega arith; caused = tt };
  lack = record { later = omega arith; lacked = tt };
}

-- memory was wanting at the start
pub text_lacked : {texts : Texting} {at : StoreAt} {out : SinkAt} {m : Mode} → TextsFit at.files texts →
    TextStep texts texts at at out out (Err (show.Part Memory)) (Stepped m)
text_lacked {texts} {at} {m = m} fits = record {
  fits = fits;
  same = same_texts texts;
  step = stepped_none m at.files at.reads at.faults;
  cause = record { store = omega arith; output = omega arith; caused = tt };
  lack = record { later = omega arith; lacked = tt };
}

module _ {texts between : Texting} {at next now : StoreAt} {out passed : SinkAt} {m : Mode}
    (so_far : TextStep texts between at next out passed (Ok tt) (Stepped m))
    (step : Stepped m next.files now.files next.reads now.reads next.faults now.faults) where
  fits_now : TextsFit now.files between
  fits_now = subst (λ (f : Option Files). TextsFit f between) (sym step.files) so_far.fits

  stepped_now : Stepped m at.files now.files at.reads now.reads at.faults now.faults
  stepped_now = stepped_then so_far.step step

  -- then a part of the lists was refused
  pub text_refused : {T : Type 0} (refusal : PartErr) {error : ShowErr} → error ≡ show.Part refusal → HasPartCause {T = T} next.faults now.faults (Err refusal) →
      TextStep texts between at now out passed (Err error) (Stepped m)
  text_refused {T} refusal is cause = record {
    fits = fits_now;
    same = so_far.same;
    step = stepped_now;
    cause = cause_after _ _ _ _ _ _ _ so_far.cause.store so_far.cause.output (part_cause {T = T} refusal is cause);
    lack = lack_after _ _ _ _ so_far.lack.later (part_lack refusal is);
  }

  -- then the output was written to
  pub text_written : {written : SinkAt} {result : Result (Unit {0}) ShowErr} → OutputStep passed written result → TextStep texts between at now out written result (Stepped m)
  text_written output = record {
    fits = fits_now;
    same = so_far.same;
    step = stepped_now;
    cause = cause_after _ _ _ _ _ _ _ stepped_now.faults so_far.cause.output (output.cause now.faults);
    lack = lack_after _ _ _ _ so_far.lack.later output.lack;
  }

  -- then the text was read
  pub text_shown : {texts_now : Texting} {end : StoreAt} {written : SinkAt} {result : Result (Unit {0}) ShowErr} →
      TextStep between texts_now now end passed written result (ShownIn m) → TextStep texts texts_now at end out written result (Stepped m)
  text_shown shown = record {
    fits = shown.fits;
    same = texts_then _ _ _ so_far.same shown.same;
    step = stepped_then stepped_now (shown_step m _ _ _ _ _ _ shown.step);
    cause = cause_after _ _ _ _ _ _ _ stepped_now.faults so_far.cause.output shown.cause;
    lack = lack_after _ _ _ _ so_far.lack.later shown.lack;
  }

-- ---- a line is answered

-- nothing was read
pub opened_unread : {opened : Opened} {at : StoreAt} {out now : SinkAt} {result : Result (Unit {0}) ShowErr} {m : Mode} {terms : ℕ} → SearchFits at.files opened →
    OutputStep out now result → OpenedStep opened opened at at out now result m terms
opened_unread {opened} {at} {m = m} fits output = record {
  fits = fits;
  same = same_opened opened;
  step = line_none m _ at.files at.reads at.faults;
  cause = output.cause at.faults;
  lack = output.lack;
}

-- nor was anything written: memory is wanting
pub opened_lacked : {opened : Opened} {at : StoreAt} {out : SinkAt} {m : Mode} {terms : ℕ} → SearchFits at.files opened →
    OpenedStep opened opened at at out out (Err (show.Part Memory)) m terms
opened_lacked fits = opened_unread fits output_lacked

-- of as many terms
pub opened_terms : {opened opened_now : Opened} {at now : StoreAt} {out out_now : SinkAt} {result : Result (Unit {0}) ShowErr} {m : Mode} {k n : ℕ} → k ≡ n →
    OpenedStep opened opened_now at now out out_now result m k → OpenedStep opened opened_now at now out out_now result m n
opened_terms {opened} {opened_now} {at} {now} {out} {out_now} {result} {m} same step = subst (OpenedStep opened opened_now at now out out_now result m) same step

-- the lexicon was asked for these terms
module _ {base : List ℕ} {lex lex_now : Fronted} {texts : Texting} {all : ℕ} {opened : Opened} {at next : StoreAt} (terms : ℕ)
    (own : record { base = base; lex = lex; texts = texts; all = all } ≡ opened) (fits : SearchFits at.files opened)
    (fits_now : FrontFits lex_now next.files) (same : SameParts lex lex_now) (looked : LookedAt part.Lex part.LexAt at.files next.files at.reads next.reads at.faults next.faults)
    (reads : ReadsLexicon at.reads next.reads (terms * looks lex.count)) where
  own_fits : SearchFits at.files (record { base = base; lex = lex; texts = texts; all = all })
  own_fits = subst (λ (o : Opened). SearchFits at.files o) (sym own) fits

  asked_step : (m : Mode) → LineStepped m (terms * looks lex.count) at.files next.files at.reads next.reads at.faults next.faults
  asked_step m = line_looked m looked reads

  -- documents can be shown then
  pub opened_showable : AreShowable next.files texts all
  opened_showable = record { fits = subst (λ (f : Option Files). TextsFit f texts) (sym looked.files) own_fits.texts; all = own_fits.all }

  -- it is refused
  pub opened_refused : {T : Type 0} {m : Mode} {out : SinkAt} (refusal : PartErr) {error : ShowErr} → error ≡ show.Part refusal →
      HasPartCause {T = T} at.faults next.faults (Err refusal) →
      OpenedStep opened (record { base = base; lex = lex_now; texts = texts; all = all }) at next out out (Err error) m terms
  opened_refused {T} {m} {out} refusal {error} is cause =
      subst (λ (o : Opened). OpenedStep o (record { base = base; lex = lex_now; texts = texts; all = all }) at next out out (Err error) m terms) own (record {
        fits = record { lex = fits_now; texts = opened_showable.fits; all = own_fits.all };
        same = record { base = refl; lex = same; texts = same_texts texts; all = refl };
        step = asked_step m;
        cause = part_cause {T = T} refusal is cause;
        lack = part_lack refusal is;
      })

  -- then the text was read
  pub opened_answered : {m : Mode} {texts_now : Texting} {end : StoreAt} {out now : SinkAt} {result : Result (Unit {0}) ShowErr} →
      TextStep texts texts_now next end out now result (Stepped m) →
      OpenedStep opened (record { base = base; lex = lex_now; texts = texts_now; all = all }) at end out now result m terms
  opened_answered {m} {texts_now} {end} {out} {now} {result} step =
      subst (λ (o : Opened). OpenedStep o (record { base = base; lex = lex_now; texts = texts_now; all = all }) at end out now result m terms) own (record {
        fits = record {
          lex = subst (λ (f : Option Files). FrontFits lex_now f) (sym step.step.files) fits_now;
          texts = step.fits;
          all = ap (λ (h : Head). h.documents) step.same.head ∙ own_fits.all;
        };
        same = record { base = refl; lex = same; texts = step.same; all = refl };
        step = line_then (asked_step m) step.step;
        cause = cause_after _ _ _ _ _ _ _ looked.faults (omega arith) step.cause;
        lack = step.lack;
      })
