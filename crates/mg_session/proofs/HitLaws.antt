-- A document for which there is room, or none.
use Rattle.std.proofs.Common.{◌≡◌, ℕ, ◌+◌, ◌≤◌, false, true, List, [], None, Ok, Err, sym, subst}
use Rattle.std.specs.Prelude.{OnOk}
use Rattle.std.specs.Bool.{OnTrue}
use Rattle.std.specs.declared.option.Option.{Option}
use Rattle.std.specs.declared.result.Result.{Result}
use Rattle.std.proofs.lemmas.Bool.{cond-false, cond-true}
use Rattle.mg_dev.specs.Moments.{SinkAt, StoreAt}
use Rattle.mg_dev.specs.declared.part.Part.TheVariants as part
use Rattle.mg_dev.specs.declared.show_err.ShowErr.{ShowErr}
use Rattle.mg_defs.specs.Replies.{hit_text, shows}
use Rattle.mg_defs.specs.ShownAnswers.{Shown, shown, shown_as}
use Rattle.mg_defs.specs.Terms.{document}
use Rattle.mg_defs.specs.declared.session.Mode.{Mode}
use Rattle.mg_defs.specs.declared.session.Settings.{Settings}
use Rattle.mg_reply.specs.Pending.{AfterPass, Passed}
use Rattle.mg_reply.specs.Printed.{at_score, hit_by}
use Rattle.mg_reply.proofs.CallerLemmas.{pass_nothing}
use Rattle.mg_session.specs.Answering.{mode_pages}
use Rattle.mg_session.specs.Calls.{TextShown}
use Rattle.mg_session.specs.Showing.{found_pages, shown_pages}
use Rattle.mg_session.specs.Texts.{Texting}
use Rattle.mg_session.proofs.DocStandsLaws.{is_true}

pub hidden : (w : Option (List ℕ)) (waiting doc : List ℕ) (mode : Mode) (most : Option ℕ) (total : ℕ) (hit : Shown) → shows most total ≡ false →
    Passed w w waiting waiting (hit_text doc mode most total hit)
unfolding hit_text
hidden w waiting doc mode most total hit full = subst (Passed w w waiting waiting) (sym (cond-false (shows most total) (shown_as doc mode hit) [] full)) (pass_nothing w waiting)

pub hit_passed : (w0 w1 : Option (List ℕ)) (p0 p1 : List ℕ) (mode : Mode) (most : Option ℕ) (total : ℕ) (hit : Shown) (r : Result (Unit {0}) ShowErr) (IsSuch : List ℕ → Type 0) →
    shows most total ≡ true → OnOk r ((doc : List ℕ) × IsSuch doc × Passed w0 w1 p0 p1 (shown_as doc mode hit)) →
    OnOk r ((doc : List ℕ) × OnTrue (shows most total) (IsSuch doc) × Passed w0 w1 p0 p1 (hit_text doc mode most total hit))
unfolding hit_text
hit_passed w0 w1 p0 p1 mode most total hit (Ok done) IsSuch room passed =
    (passed.0, is_true _ _ passed.1, subst (Passed w0 w1 p0 p1) (sym (cond-true (shows most total) (shown_as passed.0 mode hit) [] room)) passed.2)
hit_passed w0 w1 p0 p1 mode most total hit (Err error) IsSuch room passed = tt

-- what is shown of it where there is room
pub hit_shown : {texts texts_now : Texting} {before later : StoreAt} {out out_now : SinkAt} {result : Result (Unit {0}) ShowErr} (w0 w1 : Option (List ℕ)) (p0 p1 : List ℕ)
    (now : Settings) (total number : ℕ) → shows now.most total ≡ true →
    TextShown texts texts_now before later out out_now result now.mode
    (λ collection. AfterPass w0 w1 p0 p1 (shown collection now.mode (at_score number None)) result) (shown_pages now.mode number None) →
    TextShown texts texts_now before later out out_now result now.mode
    (λ collection. AfterPass w0 w1 p0 p1 (hit_by now (document collection number) total (at_score number None)) result) (found_pages now total number)
unfolding hit_text
hit_shown {before = before} {later = later} {result = result} w0 w1 p0 p1 now total number room told = record {
  fits = told.fits;
  same = told.same;
  content = λ code collection is. subst (λ text. AfterPass w0 w1 p0 p1 text result)
      (sym (cond-true (shows now.most total) (shown_as (document collection number) now.mode (at_score number None)) [] room)) (told.content code collection is);
  pages = λ code collection is. subst (λ n. later.reads part.Text ≤ before.reads part.Text + n)
      (sym (cond-true (shows now.most total) (mode_pages code collection now.mode (at_score number None)) 0 room)) (told.pages code collection is);
  sound = told.sound;
  looked = told.looked;
  cause = told.cause;
  lack = told.lack;
}
