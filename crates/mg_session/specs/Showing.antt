-- What is printed and read where documents of an answer are shown, by the functions that tell what the store and the output hold and count.
use Rattle.std.specs.Prelude.{ℕ, ◌+◌, ◌≤◌, ◌++◌, List, None}
use Rattle.std.specs.declared.option.Option.{Option}
use Rattle.std.specs.declared.result.Result.{Result}
use Rattle.mg_dev.specs.Files.{Reads}
use Rattle.mg_dev.specs.declared.part.Part.TheVariants as part
use Rattle.mg_dev.specs.declared.show_err.ShowErr.{ShowErr}
use Rattle.mg_dev.specs.declared.sink.Sink as sinks
use Rattle.mg_dev.specs.declared.store.Store as stores
use Rattle.mg_defs.specs.CodedText.{TextCode}
use Rattle.mg_defs.specs.ShownAnswers.{shown}
use Rattle.mg_defs.specs.Terms.{document}
use Rattle.mg_defs.specs.Texts.{count}
use Rattle.mg_defs.specs.Weights.{Hit}
use Rattle.mg_defs.specs.declared.session.Mode.{Mode}
use Rattle.mg_defs.specs.declared.session.Settings.{Settings}
use Rattle.mg_rank.specs.Ranked.{Ranking}
use Rattle.mg_reply.specs.Printed.{Passes, Puts, at_score, hit_by}
use Rattle.mg_reply.specs.declared.hit.Shown.{Shown}
use Rattle.mg_session.specs.Answering.{hit_pages, mode_pages, rows_pages, rows_text}
use Rattle.mg_session.specs.Calls.{ShowsText}
use Rattle.mg_session.specs.Decided.{PassesSome, hit_of, shown_of}
use Rattle.mg_session.specs.DocStands.{AreRowsOf, IfShown, IfText, IsDocOf}
use Rattle.mg_session.specs.Texts.{Texting}
use Rattle.mg_session.specs.declared.rows.Rows.{Rows}

-- ---- a document

-- what this mode shows of it is passed on
abbrev pub PassesShown : {Y : Type 0} → (Y → Option (List ℕ)) → Y → Y → List ℕ → List ℕ → Result (Unit {0}) ShowErr →
    Mode → ℕ → Option ℕ → List ℕ → Type 0
PassesShown written out out_now waited waiting result mode number score collection =
    Passes written out out_now waited waiting result (shown collection mode (at_score number score))

-- the pages of Text on which it lies, where this mode shows its text
abbrev pub shown_pages : Mode → ℕ → Option ℕ → TextCode → List ℕ → ℕ
shown_pages mode number score code collection = mode_pages code collection mode (at_score number score)

-- and no pages of the text are read but these
abbrev pub ReadsShown : {X : Type 0} → (X → Reads) → X → X → Mode → ℕ → Option ℕ → TextCode → List ℕ → Type 0
ReadsShown reads store store_now mode number score code collection = reads store_now part.Text
    ≤ reads store part.Text + shown_pages mode number score code collection

-- ---- a document of a Boolean answer, after so many of them

abbrev pub PassesHit : {Y : Type 0} → (Y → Option (List ℕ)) → Y → Y → List ℕ → List ℕ → Result (Unit {0}) ShowErr →
    Settings → ℕ → ℕ → List ℕ → Type 0
PassesHit written out out_now waited waiting result now total number collection =
    Passes written out out_now waited waiting result
    (hit_by now (document collection number) total (at_score number None))

-- the pages of Text on which it lies, where it is shown with its text
abbrev pub found_pages : Settings → ℕ → ℕ → TextCode → List ℕ → ℕ
found_pages now total number code collection = hit_pages code collection now total (at_score number None)

-- ---- rows of a ranked answer

abbrev pub PassesRows : {Y : Type 0} → (Y → Option (List ℕ)) → Y → Y → List ℕ → List ℕ → Result (Unit {0}) ShowErr →
    Mode → List Hit → List ℕ → Type 0
PassesRows written out out_now waited waiting result mode rows collection =
    Passes written out out_now waited waiting result (rows_text collection mode rows)

-- the pages of Text on which they lie, where this mode shows their texts
abbrev pub ranked_pages : Mode → List Hit → TextCode → List ℕ → ℕ
ranked_pages mode rows code collection = rows_pages code collection mode rows

-- and behind them how many documents there are
abbrev pub PutsRanking : {Y : Type 0} → (Y → Option (List ℕ)) → Y → Y → Result (Unit {0}) ShowErr → Mode → Ranking →
    List ℕ → Type 0
PutsRanking written out out_now result mode ranking collection = Puts written out out_now result
    (rows_text collection mode ranking.rows ++ count ranking.total)

-- ---- what is promised where documents of an answer are shown

-- Documents of an answer were shown.
pub record ShownOver (IsShown IsPassed : Type 0) : Type 0 where
  -- where the text is that of a collection, this is printed of it and read
  pub shown : IsShown
  -- whatever the text has, this was passed on
  pub passed : IsPassed

-- a document, as this mode shows it
abbrev pub ShowsDoc : {X Y : Type 0} → stores.Ghosts X → sinks.Ghosts Y → X → X → Y → Y → Result (Unit {0}) ShowErr →
    Texting → Texting → List ℕ → List ℕ → Mode → Shown → Type 0
ShowsDoc of_store of_out store store_now out out_now result texts texts_now waited waiting mode hit = ShownOver
    (ShowsText of_store of_out store store_now out out_now result texts texts_now mode
    (PassesShown of_out.written out out_now waited waiting result mode hit.number hit.score)
    (shown_pages mode hit.number hit.score))
    (PassesSome (of_out.written out) (of_out.written out_now) waited waiting result
    (λ doc. IfText mode (IsDocOf texts (of_store.files store) hit.number doc)) (shown_of mode hit.number hit.score))

-- a document of a Boolean answer, if there is room for it after those that were counted
abbrev pub ShowsHit : {X Y : Type 0} → stores.Ghosts X → sinks.Ghosts Y → X → X → Y → Y → Result (Unit {0}) ShowErr →
    Texting → Texting → Rows → Rows → Settings → ℕ → Type 0
ShowsHit of_store of_out store store_now out out_now result texts texts_now rows rows_now now number = ShownOver
    (ShowsText of_store of_out store store_now out out_now result texts texts_now now.mode
    (PassesHit of_out.written out out_now rows.pending rows_now.pending result now rows.total number)
    (found_pages now rows.total number))
    (PassesSome (of_out.written out) (of_out.written out_now) rows.pending rows_now.pending result
    (λ doc. IfShown now rows.total (IsDocOf texts (of_store.files store) number doc)) (hit_of now rows.total number))

-- rows of a ranked answer, as this mode shows them
abbrev pub ShowsRows : {X Y : Type 0} → stores.Ghosts X → sinks.Ghosts Y → X → X → Y → Y → Result (Unit {0}) ShowErr →
    Texting → Texting → List ℕ → List ℕ → Mode → List Hit → Type 0
ShowsRows of_store of_out store store_now out out_now result texts texts_now waited waiting mode hits = ShownOver
    (ShowsText of_store of_out store store_now out out_now result texts texts_now mode
    (PassesRows of_out.written out out_now waited waiting result mode hits) (ranked_pages mode hits))
    (PassesSome (of_out.written out) (of_out.written out_now) waited waiting result
    (AreRowsOf (IsDocOf texts (of_store.files store)) mode hits) (λ rows. rows))
