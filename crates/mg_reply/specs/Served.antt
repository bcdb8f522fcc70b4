-- A session that is under way, and one that is over.
use Rattle.std.specs.Prelude.{◌≡◌, ◌⊎◌, ℕ, ◌+◌, ◌<◌, ◌≤◌, false, List, [], ◌∷◌, ◌++◌, length, Some}
use Rattle.std.specs.List.{list_any}
use Rattle.std.specs.declared.option.Option.{Option}
use Rattle.mg_dev.specs.Faults.{fault_of_show}
use Rattle.mg_dev.specs.Streams.{appended, prepended, GrewByPrefix}
use Rattle.mg_dev.specs.declared.fault.Fault.{Fault}
use Rattle.mg_dev.specs.declared.fault.Fault.TheVariants.{InputTooLong, ReadFault}
use Rattle.mg_dev.specs.declared.part_err.PartErr.{PartErr}
use Rattle.mg_dev.specs.declared.show_err.ShowErr.{ShowErr}
use Rattle.mg_dev.specs.declared.show_err.ShowErr.TheVariants as show
use Rattle.mg_defs.specs.declared.session.Settings.{Settings}
use Rattle.mg_defs.specs.Commands.{first_settings}
use Rattle.mg_defs.specs.Lines.{HasNoEnd, lines}
use Rattle.mg_defs.specs.declared.session.Hearing.{Hearing}
use Rattle.mg_defs.specs.Session.{replies, Question, questions, heard_questions, asked, line_text}
use Rattle.mg_defs.specs.InputLimit.{is_quit, ended_lines, IsReadEnough}
use Rattle.mg_reply.specs.Reading.{buffer_bytes}
use Rattle.mg_reply.specs.declared.serve.ServeErr.{ServeErr}
use Rattle.mg_reply.specs.declared.serve.ServeErr.TheVariants as serve

-- ---- what is said of a session

-- Some query lines were answered between two states; they are the first of those of the input, where it is told.
pub record AnsweredSome {A : Type 0} (hearing : Hearing) (After : A → A → List Question → Type 0) (old new : A)
    (input : Option (List ℕ)) : Type 0 where
  pub answered : List Question
  pub after : After old new answered
  pub first : (all : List ℕ) → input ≡ Some all → (more : List Question)
      × (heard_questions hearing all ≡ answered ++ more)

-- What is left of a told input after a session.
abbrev pub LeftEnough : List ℕ → Option (List ℕ) → Type 0
LeftEnough all left = (rest : List ℕ) × (left ≡ Some rest) × IsReadEnough all rest

-- a part's refusal has this cause
abbrev pub PartStops : (PartErr → Type 0) → ShowErr → Type 0
PartStops Stops (show.Part error) = Stops error
PartStops Stops show.Write = Unit {0}
PartStops Stops show.Memory = Unit {0}

-- the cause of each refusal of a session
abbrev pub EndsFor : Type 0 → Type 0 → Type 0 → (PartErr → Type 0) → ServeErr → Type 0
EndsFor Read Write TooMuch Stops serve.Read = Read
EndsFor Read Write TooMuch Stops serve.TooMuch = TooMuch
EndsFor Read Write TooMuch Stops (serve.Show (show.Part error)) = Stops error
EndsFor Read Write TooMuch Stops (serve.Show show.Write) = Write
EndsFor Read Write TooMuch Stops (serve.Show show.Memory) = Unit {0}

-- ---- what holds from line to line

-- The lines of a front of what was told were taken up, and the rest is left. Unless none is left, a line begins there.
pub record LinesTaken (all : List ℕ) (left : Option (List ℕ)) : Type 0 where
  pub front : List ℕ
  pub rest : List ℕ
  pub told : left ≡ Some rest
  pub whole : all ≡ front ++ rest
  pub closed : 0 < length rest → (more : List ℕ) → lines (front ++ more) ≡ lines front ++ lines more

-- The lines that were taken up print what was printed and ask what was answered, and the session goes on with these settings.
pub record Rests (hearing : Hearing) (reply : Settings → List ℕ → List ℕ) (now : Settings) (done : List ℕ)
    (answered : List Question) (all : List ℕ) (left : Option (List ℕ)) : Type 0 where
  pub taken : LinesTaken all left
  pub goes_on : (more : List (List ℕ)) → replies hearing reply first_settings (lines taken.front ++ more)
      ≡ done ++ replies hearing reply now more
  pub asks : (more : List (List ℕ)) → questions hearing first_settings (lines taken.front ++ more)
      ≡ answered ++ questions hearing now more

-- So much was printed and answered, whatever was told.
pub record Served {A : Type 0} (hearing : Hearing) (After : A → A → List Question → Type 0) (old new : A)
    (reply : Settings → List ℕ → List ℕ) (before left written_old written : Option (List ℕ)) (now : Settings) : Type 0
  where
    pub done : List ℕ
    pub answered : List Question
    pub given : written ≡ appended written_old done
    pub after : After old new answered
    pub goes_on : (all : List ℕ) → before ≡ Some all → Rests hearing reply now done answered all left

-- A line was taken up: it is the next one of what was told to be left, its query alone was answered, and of what it prints a front was written.
pub record TookUp {A : Type 0} (hearing : Hearing) (After : A → A → List Question → Type 0) (old new : A)
    (reply : Settings → List ℕ → List ℕ) (now : Settings) (left written_old written : Option (List ℕ)) : Type 0 where
  pub line : List ℕ
  pub next : (rest : List ℕ) → left ≡ Some rest → (more : List (List ℕ)) × (lines rest ≡ line ∷ more)
  pub answered : After old new (asked hearing now line)
  pub front : GrewByPrefix written_old written (line_text hearing reply now line)

-- Of an input that had this left no more was taken than a line, its end, and a buffer behind it.
pub record TakenAhead (left now : Option (List ℕ)) : Type 0 where
  pub line : List ℕ
  pub behind : List ℕ
  pub plain : HasNoEnd line
  pub few : length behind ≤ buffer_bytes + 1
  pub taken : left ≡ prepended (line ++ behind) now

-- No reply is held back: those to the first lines were written whole when a line more was taken up, or none was; no more
-- of the input was taken by then than that line and a buffer behind it.
pub record RepliedInTurn {A : Type 0} (hearing : Hearing) (After : A → A → List Question → Type 0) (old new : A)
    (reply : Settings → List ℕ → List ℕ) (input input_now written_old written : Option (List ℕ)) : Type 0 where
  -- the moment at which that line was taken up
  pub then : A
  pub now : Settings
  pub left : Option (List ℕ)
  pub printed : Option (List ℕ)
  pub whole : Served hearing After old then reply input left written_old printed now
  pub last : TookUp hearing After then new reply now left printed written ⊎ (After then new [] × (written ≡ printed))
  pub ahead : TakenAhead left input_now

-- The same of an input and an output alone: the replies were written to all but what was left of a told input at a moment,
-- and no more was taken since than a line and a buffer behind it.
pub record PrintedInTurn (hearing : Hearing) (reply : Settings → List ℕ → List ℕ)
    (input input_now written_old written : Option (List ℕ)) : Type 0 where
  pub now : Settings
  pub left : Option (List ℕ)
  pub done : List ℕ
  pub some : List ℕ
  pub goes_on : (all : List ℕ) → input ≡ Some all → (rest : List ℕ) × (left ≡ Some rest)
      × (replies hearing reply first_settings (lines all) ≡ done ++ replies hearing reply now (lines rest))
  pub printed : written ≡ appended written_old (done ++ some)
  pub ahead : TakenAhead left input_now

-- So many bytes were used of what was told, the rest is left, and no line among the first ended the session.
pub record Used (left : Option (List ℕ)) (used : ℕ) (all : List ℕ) : Type 0 where
  pub front : List ℕ
  pub rest : List ℕ
  pub told : left ≡ Some rest
  pub whole : all ≡ front ++ rest
  pub size : length front ≡ used
  pub passed : List (List ℕ)
  pub no_quit : list_any is_quit passed ≡ false
  pub ended : 0 < length rest → (more : List ℕ) → ended_lines (front ++ more) ≡ passed ++ ended_lines more

pub record Counted (before left : Option (List ℕ)) (used : ℕ) : Type 0 where
  pub goes_on : (all : List ℕ) → before ≡ Some all → Used left used all

-- the fault of a session that stopped
abbrev pub fault_of_serve : ServeErr → Fault
fault_of_serve serve.Read = ReadFault
fault_of_serve serve.TooMuch = InputTooLong
fault_of_serve (serve.Show error) = fault_of_show error
