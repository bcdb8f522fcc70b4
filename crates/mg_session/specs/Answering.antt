-- An answer to a query line, as it is shown: what is printed, what is read, and why it stops.
use Rattle.std.specs.Prelude.{◌≡◌, ℕ, ◌+◌, ◌<◌, ◌≤◌, Bool, if◌then◌else◌, List, [], ◌∷◌, ◌++◌, length, get_or, take, slice_index_or, flat_map, map, sum_by, Option, Some, None, Ok, Err}
use Rattle.std.specs.declared.result.Result.{Result}
use Rattle.mg_dev.specs.Causes.{Rose}
use Rattle.mg_dev.specs.Files.{Files, Reads}
use Rattle.mg_dev.specs.Streams.{AfterPut}
use Rattle.mg_dev.specs.declared.part.Part.TheVariants as part
use Rattle.mg_dev.specs.declared.part_err.PartErr.TheVariants.{Device, Memory, Bad}
use Rattle.mg_dev.specs.declared.show_err.ShowErr.{ShowErr}
use Rattle.mg_dev.specs.declared.show_err.ShowErr.TheVariants as show
use Rattle.mg_defs.specs.CodedText.{TextCode}
use Rattle.mg_defs.specs.Replies.{reply_as, shows}
use Rattle.mg_defs.specs.ShownAnswers.{Shown, answer_text, satisfying, shown}
use Rattle.mg_defs.specs.Sat.{Query}
use Rattle.mg_defs.specs.Split.{documents}
use Rattle.mg_defs.specs.TextBounds.{answer_by, doc_pages, texts_in}
use Rattle.mg_defs.specs.Weights.{Hit, limited_to}
use Rattle.mg_defs.specs.declared.session.Mode.{Mode}
use Rattle.mg_defs.specs.declared.session.Mode.TheVariants.{Docnums, Text, Count}
use Rattle.mg_defs.specs.declared.session.Settings.{Settings}
use Rattle.mg_bool.specs.Matches.{Matching, MatchesFit, MatchesOver, left_of}
use Rattle.mg_bool.specs.Calls.{SkipsWithin, skips_read}
use Rattle.mg_bool.specs.Places.{IsToldOf, pages_read}
use Rattle.mg_bool.specs.Shown.{MatchesStand}
use Rattle.mg_layout.specs.declared.term_info.TermInfo.{TermInfo}
use Rattle.mg_rank.specs.Ranked.{WeightsStand}
use Rattle.mg_reply.specs.Pending.{Passed}
use Rattle.mg_text.specs.Reading.{ShowIsNotBad}
use Rattle.mg_session.specs.PagesAllowed.{PartPages, ReadsAllowed, allowed_by}
use Rattle.mg_session.specs.Texts.{Texting, TextsStand}

-- ---- causes

-- where a device's failure is answered, it has a cause
abbrev pub IsFailureCaused : Result (Unit {0}) ShowErr → ℕ → ℕ → ℕ → ℕ → Type 0
IsFailureCaused (Ok done) s t f g = Unit {0}
IsFailureCaused (Err (show.Part Device)) s t f g = Rose s t
IsFailureCaused (Err (show.Part Memory)) s t f g = Unit {0}
IsFailureCaused (Err (show.Part (Bad bad))) s t f g = Unit {0}
IsFailureCaused (Err show.Write) s t f g = Rose f g
IsFailureCaused (Err show.Memory) s t f g = Unit {0}

-- the store's failure and the output's each have a cause, and no fault is forgotten
pub record HasShowCause (result : Result (Unit {0}) ShowErr) (store_before store_now output_before output_now : ℕ) :
    Type 0 where
  pub store : store_before ≤ store_now
  pub output : output_before ≤ output_now
  pub caused : IsFailureCaused result store_before store_now output_before output_now

abbrev pub IsShowLacked : Result (Unit {0}) ShowErr → ℕ → ℕ → Type 0
IsShowLacked (Ok done) before now = Unit {0}
IsShowLacked (Err (show.Part refusal)) before now = Unit {0}
IsShowLacked (Err show.Write) before now = Unit {0}
IsShowLacked (Err show.Memory) before now = Rose before now

-- the output's own want of memory has a cause, and no lack is forgotten; the allocator's want of memory is a part's
pub record HasShowLack (lacks_before lacks_now : ℕ) (result : Result (Unit {0}) ShowErr) : Type 0 where
  pub later : lacks_before ≤ lacks_now
  pub lacked : IsShowLacked result lacks_before lacks_now

-- ---- one document

-- the pages of Text on which a document lies, where its text is shown
abbrev pub mode_pages : TextCode → List ℕ → Mode → Shown → ℕ
mode_pages code collection Docnums hit = 0
mode_pages code collection Text hit = doc_pages code collection hit
mode_pages code collection Count hit = 0

-- the same, where so many stand before it
abbrev pub hit_pages : TextCode → List ℕ → Settings → ℕ → Shown → ℕ
hit_pages code collection now total hit = if shows now.most total then mode_pages code collection now.mode hit else 0

-- ---- an answer

-- the pages of Text on which the documents of an answer lie whose text is shown
abbrev pub answer_pages : TextCode → List ℕ → Settings → List Shown → ℕ
answer_pages code collection now answer = sum_by (doc_pages code collection) (texts_in now.mode now.most answer)

-- the lists, weights and text are those of this collection, which has so many documents, its text under these codes
pub record AnswersFor (base : List ℕ) (files : Option Files) (texts : Texting) (all : ℕ) (code : TextCode)
    (collection : List ℕ) : Type 0 where
  pub weights : WeightsStand base files collection
  pub texts_are : TextsStand texts files code collection
  pub all_is : all ≡ length (documents collection)

-- An answer was printed, or a part of its text; no part is bad, and no pages were read but so many of Post, Skip and Weights, and those of the documents that are shown.
pub record Answered (code : TextCode) (collection : List ℕ) (now : Settings) (answer : List Shown) (most : PartPages)
    (before after : Option (List ℕ)) (reads_before reads_now : Reads) (result : Result (Unit {0}) ShowErr) : Type 0
  where
    pub put : AfterPut before after (answer_text collection now answer) result
    pub sound : ShowIsNotBad result
    pub allowed : ReadsAllowed most reads_before reads_now
    pub text : reads_now part.Text ≤ reads_before part.Text + answer_pages code collection now answer

-- A query line was replied to, or a part of the reply was printed; no part is bad, and no more pages were read than the line allows.
pub record Replied (code : TextCode) (collection : List ℕ) (ranked : Bool) (now : Settings) (line : List ℕ)
    (before after : Option (List ℕ)) (reads_before reads_now : Reads) (result : Result (Unit {0}) ShowErr) : Type 0
  where
    pub put : AfterPut before after (reply_as ranked collection now line) result
    pub sound : ShowIsNotBad result
    pub allowed : ReadsAllowed (allowed_by ranked collection now line) reads_before reads_now
    pub text : reads_now part.Text ≤ reads_before part.Text + answer_pages code collection now
        (answer_by ranked collection line)

-- ---- while the lists of a query are asked for its documents

-- The places of the terms have read no more pages of Post and Skip than their cursors count, and none of Weights was read.
pub record ListsWalked (base collection : List ℕ) (m : Matching) (reads_before reads_now : Reads) : Type 0 where
  pub over : MatchesOver base collection m
  pub post : reads_now part.Post ≤ reads_before part.Post + pages_read m.places
  pub skip : reads_now part.Skip ≤ reads_before part.Skip + skips_read m.places
  pub skips_within : SkipsWithin m.places
  pub weights : reads_now part.Weights ≡ reads_before part.Weights

-- ---- while the documents of a Boolean answer are shown

-- None of the documents that satisfy a query was asked for yet.
pub record AreUnasked (files : Option Files) (m : Matching) : Type 0 where
  -- its places are those of lists of some base, and what they keep agrees with the files
  pub on : (base : List ℕ) × MatchesFit base files m
  -- and stands there
  pub stands : MatchesStand files m
  -- each has read no more of Skip than the entries of its list lie on
  pub within : SkipsWithin m.places
  -- no document was decided
  pub first : m.decided ≡ 0

-- So many were found, and the first of them shown.
pub record Walked (base : List ℕ) (code : TextCode) (collection : List ℕ) (q : Query) (now : Settings)
    (before after : Option (List ℕ)) (waiting : List ℕ) (total : ℕ) (m : Matching) (reads_before reads_now : Reads) :
    Type 0 where
  pub so_far : List Shown
  pub split : satisfying collection q ≡ so_far ++ left_of collection m
  pub total_is : length so_far ≡ total
  pub passed : Passed before after [] waiting (flat_map (shown collection now.mode) (limited_to now.most so_far))
  pub over : MatchesOver base collection m
  pub post : reads_now part.Post ≤ reads_before part.Post + pages_read m.places
  pub skip : reads_now part.Skip ≤ reads_before part.Skip + skips_read m.places
  pub skips_within : SkipsWithin m.places
  pub weights : reads_now part.Weights ≡ reads_before part.Weights
  pub text : reads_now part.Text ≤ reads_before part.Text + answer_pages code collection now so_far

-- ---- a ranked answer

abbrev pub shown_hit : Hit → Shown
shown_hit h = record { number = h.number; score = Some h.score }

abbrev pub shown_hits : List Hit → List Shown
shown_hits hits = map shown_hit hits

-- what is printed for these documents
unfoldable pub rows_text : List ℕ → Mode → List Hit → List ℕ
rows_text collection mode hits = flat_map (shown collection mode) (shown_hits hits)

-- the pages of Text that are read for them
unfoldable pub rows_pages : TextCode → List ℕ → Mode → List Hit → ℕ
rows_pages code collection mode hits = sum_by (mode_pages code collection mode) (shown_hits hits)

-- ---- the terms of a ranked line that some document has

abbrev pub known_terms : List (List ℕ) → List (Option TermInfo) → List (List ℕ)
known_terms [] infos = []
known_terms (t ∷ ts) [] = []
known_terms (t ∷ ts) (None ∷ infos) = known_terms ts infos
known_terms (t ∷ ts) (Some info ∷ infos) = t ∷ known_terms ts infos

abbrev pub known_infos : List (Option TermInfo) → List TermInfo
known_infos [] = []
known_infos (None ∷ infos) = known_infos infos
known_infos (Some info ∷ infos) = info ∷ known_infos infos

-- what was told of the first of some terms
pub record FirstInfos (collection : List ℕ) (ts : List (List ℕ)) (count : ℕ) (infos : List (Option TermInfo)) : Type 0
  where
    pub each : (k : ℕ) → k < count → IsToldOf collection (get_or ts k []) (slice_index_or infos k None)

-- ---- while rows are shown

-- so many of them were passed on
pub record RowsShown (code : TextCode) (collection : List ℕ) (mode : Mode) (rows : List Hit) (count : ℕ)
    (before after : Option (List ℕ)) (waited waiting : List ℕ) (reads_before reads_now : Reads) : Type 0 where
  pub passed : Passed before after waited waiting (rows_text collection mode (take count rows))
  pub text : reads_now part.Text ≤ reads_before part.Text + rows_pages code collection mode (take count rows)
