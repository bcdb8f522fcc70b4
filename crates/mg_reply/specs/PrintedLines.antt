-- What lines print whose query lines were answered, whatever there is to answer from.
use Rattle.std.specs.Prelude.{◌≡◌, ◌⊎◌, ℕ, true, false, List, [], ◌∷◌, ◌++◌, Some}
use Rattle.std.specs.declared.option.Option.{Option}
use Rattle.mg_dev.specs.Streams.{appended}
use Rattle.mg_defs.specs.Commands.{first_settings}
use Rattle.mg_defs.specs.Lines.{HasNoEnd, lines, without_return}
use Rattle.mg_defs.specs.Session.{Question, after_line, ends, heard_session, hears, is_long, questions, read}
use Rattle.mg_defs.specs.Texts.{bad_command, line_too_long}
use Rattle.mg_defs.specs.declared.session.Command.{Command}
use Rattle.mg_defs.specs.declared.session.Command.TheVariants.{Skip, Ask, Quit, Wrong, Set}
use Rattle.mg_defs.specs.declared.session.Hearing.{Hearing}
use Rattle.mg_defs.specs.declared.session.Settings.{Settings}
use Rattle.mg_reply.specs.Served.{LinesTaken}

-- what is told of an output before a query line and after it, where the line was answered
abbrev pub PrintRule : Type 1
PrintRule = Question → (before after : Option (List ℕ)) → Type 0

-- what a line prints that is this, where query lines print by a rule
abbrev pub CommandPrints : PrintRule → Settings → List ℕ → Command → Option (List ℕ) → Option (List ℕ) → Type 0
CommandPrints IsPrinted now line Skip before after = after ≡ before
CommandPrints IsPrinted now line Ask before after = IsPrinted (record { now = now; line = line }) before after
CommandPrints IsPrinted now line Quit before after = after ≡ before
CommandPrints IsPrinted now line Wrong before after = after ≡ appended before bad_command
CommandPrints IsPrinted now line (Set changed) before after = after ≡ before

abbrev pub LinePrints : Hearing → PrintRule → Settings → List ℕ → Option (List ℕ) → Option (List ℕ) → Type 0
LinePrints hearing IsPrinted now line before after =
    ((is_long line ≡ true) × (after ≡ appended before line_too_long))
    ⊎ ((is_long line ≡ false)
    × CommandPrints IsPrinted now (without_return line) (hears hearing (read now line)) before after)

-- these lines were answered in turn, up to one that ends the session
abbrev pub LinesPrint : Hearing → PrintRule → Settings → List (List ℕ) → Option (List ℕ) → Option (List ℕ) → Type 0
LinesPrint hearing IsPrinted now [] before after = after ≡ before
LinesPrint hearing IsPrinted now (line ∷ more) before after =
    ((ends now line ≡ true) × (after ≡ before))
    ⊎ ((ends now line ≡ false) × ((between : Option (List ℕ)) × LinePrints hearing IsPrinted now line before between
    × LinesPrint hearing IsPrinted (after_line hearing now line) more between after))

-- the lines of an input were answered
abbrev pub InputPrints : Hearing → PrintRule → Option (List ℕ) → Option (List ℕ) → List ℕ → Type 0
InputPrints hearing IsPrinted before after input = LinesPrint hearing IsPrinted first_settings (lines input) before after

-- ---- an input that failed

-- Of a told input a front was taken, of which this is so, and behind it no more than a part of a line.
pub record TakenWhole (IsSo : List ℕ → Type 0) (input : List ℕ) (left : Option (List ℕ)) : Type 0 where
  pub front : List ℕ
  pub part : List ℕ
  pub rest : List ℕ
  pub whole : input ≡ front ++ (part ++ rest)
  pub plain : HasNoEnd part
  pub told : left ≡ Some rest
  pub so : IsSo front

-- the session of that front was printed, by this reply
abbrev pub RepliedBroken : Hearing → (Settings → List ℕ → List ℕ) → Option (List ℕ) → Option (List ℕ) →
    Option (List ℕ) → List ℕ → Type 0
RepliedBroken hearing reply before now left input =
    TakenWhole (λ front. now ≡ appended before (heard_session hearing reply front)) input left

-- its lines were answered, by a rule
abbrev pub AnsweredBroken : Hearing → PrintRule → Option (List ℕ) → Option (List ℕ) → Option (List ℕ) → List ℕ →
    Type 0
AnsweredBroken hearing IsPrinted before now left input = TakenWhole (InputPrints hearing IsPrinted before now) input
    left

-- ---- while lines are answered

-- The lines that were taken up printed what was printed and asked what was answered; these settings hold behind them.
pub record LinesOn (hearing : Hearing) (IsPrinted : PrintRule) (now : Settings) (answered : List Question)
    (all : List ℕ) (left written_old written : Option (List ℕ)) : Type 0 where
  pub taken : LinesTaken all left
  pub prints : (more : List (List ℕ)) (end : Option (List ℕ)) → LinesPrint hearing IsPrinted now more written end →
      LinesPrint hearing IsPrinted first_settings (lines taken.front ++ more) written_old end
  pub asks : (more : List (List ℕ)) → questions hearing first_settings (lines taken.front ++ more)
      ≡ answered ++ questions hearing now more

-- Whatever was told, lines were answered by a rule.
pub record AnsweredLines {A : Type 0} (hearing : Hearing) (After : A → A → List Question → Type 0)
    (IsPrinted : PrintRule) (old new : A) (before left written_old written : Option (List ℕ)) (now : Settings) : Type 0
  where
    pub answered : List Question
    pub after : After old new answered
    pub goes_on : (all : List ℕ) → before ≡ Some all →
        LinesOn hearing IsPrinted now answered all left written_old written
