-- What lines that are phrases do to a search over built files.
use Rattle.std.specs.Prelude.{◌≡◌, ℕ, ◌+◌, ◌≤◌, List, length, sum_by, ◌*◌, flat_map}
use Rattle.std.specs.declared.option.Option.{Option}
use Rattle.mg_dev.specs.Files.{Files}
use Rattle.mg_dev.specs.declared.part.Part.TheVariants as part
use Rattle.mg_defs.specs.CodedText.{TextCode}
use Rattle.mg_defs.specs.PhraseSession.{phrase_reply}
use Rattle.mg_defs.specs.Session.{Question}
use Rattle.mg_defs.specs.declared.session.Mode.TheVariants as mode
use Rattle.mg_defs.specs.declared.session.Settings.{Settings}
use Rattle.mg_session.specs.Parts.{LineStepped}
use Rattle.mg_front.specs.Looks.{looks}
use Rattle.mg_session.specs.PagesAllowed.{ReadsAllowed, sum_allows}
use Rattle.mg_session.specs.PhraseAnswers.{line_pages}
use Rattle.mg_session.specs.PhrasesAllowed.{phrase_line_allows, phrase_terms}
use Rattle.mg_session.specs.Searching.{Opened, Over, SameOpened, SearchFits, Searching}

-- it answers as a session of phrases over a collection does, whatever the settings are
pub record PhrasesBy (s : Searching) (by : Settings → List ℕ → List ℕ) : Type 0 where
  pub code : TextCode
  pub collection : List ℕ
  pub over : Over s code collection
  pub by_is : by ≡ (λ now. phrase_reply collection)

-- A phrase of these words can be sought in the open parts.
pub record CanSeek (files : Option Files) (o : Opened) (words : List (List ℕ)) : Type 0 where
  -- it has no more words than a line may have terms
  pub few : length words ≤ 64
  -- what the readers keep agrees with the files
  pub fits : SearchFits files o

-- these lines were answered in between
pub record PhrasesAsked (s t : Searching) (questions : List Question) : Type 0 where
  -- no file changed, no fault was forgotten, no part was read that a line never reads, and of the lexicon what the terms take
  pub step : LineStepped mode.Text (length (flat_map (λ (q : Question). phrase_terms q.line) questions) * looks s.opened.lex.count)
      s.files t.files s.reads t.reads s.faults t.faults
  -- the same parts are open
  pub same : SameOpened s.opened t.opened
  -- no more pages of the lists were read than the lines allow
  pub allowed : (code : TextCode) (collection : List ℕ) → Over s code collection →
      ReadsAllowed (sum_allows (λ (q : Question). phrase_line_allows collection q.line) questions) s.reads t.reads
  -- nor of Text
  pub text : (code : TextCode) (collection : List ℕ) → Over s code collection → t.reads part.Text
      ≤ s.reads part.Text + sum_by (λ (q : Question). line_pages code collection q.line) questions
