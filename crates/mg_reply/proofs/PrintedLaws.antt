-- Laws of lines that were answered, whatever there is to answer from, and of an input that failed.
use Rattle.std.proofs.Common.{◌≡◌, ℕ, ◌<◌, ◌≤◌, inl, inr, true, false, List, [], ◌∷◌, ◌++◌, length, refl, sym, ◌∙◌, ap, subst, Some, Err, append_assoc, append-nil}
use Rattle.std.specs.declared.option.Option.{Option}
use Rattle.std.specs.declared.result.Result.{Result}
use Rattle.std.proofs.lemmas.Bool.{cases_Bool, false≢true, lt-ltb, le-ltb}
use Rattle.mg_dev.specs.Streams.{appended, prepended, IsAtEnd}
use Rattle.mg_dev.specs.StreamLaws.{appended-nil}
use Rattle.mg_dev.specs.declared.fault.Fault.{Fault}
use Rattle.mg_dev.specs.declared.fault.Fault.TheVariants as fault
use Rattle.mg_dev.specs.declared.part_err.PartErr.TheVariants as part
use Rattle.mg_dev.specs.declared.show_err.ShowErr.TheVariants as show
use Rattle.mg_defs.specs.Commands.{command, first_settings, settings_after, stops}
use Rattle.mg_defs.specs.Lines.{HasNoEnd, lines, without_return}
use Rattle.mg_defs.specs.Session.{Question, after_line, asked, asked_by, ends, heard_questions, heard_session, hears, questions, read, replies}
use Rattle.mg_defs.specs.Texts.{line_too_long}
use Rattle.mg_defs.specs.declared.session.Command.{Command}
use Rattle.mg_defs.specs.declared.session.Command.TheVariants.{Skip, Ask, Quit, Wrong, Set}
use Rattle.mg_defs.specs.declared.session.Hearing.{Hearing}
use Rattle.mg_defs.specs.declared.session.Settings.{Settings}
use Rattle.mg_defs.proofs.SessionLaws.{ends_long, ends_short, gives_line, gives_long}
use Rattle.mg_reply.specs.PrintedLines.{AnsweredBroken, AnsweredLines, CommandPrints, InputPrints, LinePrints, LinesPrint, PrintRule, RepliedBroken, TakenWhole}
use Rattle.mg_reply.specs.Reading.{IsFirst}
use Rattle.mg_reply.specs.Served.{AnsweredSome, fault_of_serve}
use Rattle.mg_reply.specs.declared.serve.ServeErr.{ServeErr}
use Rattle.mg_reply.specs.declared.serve.ServeErr.TheVariants as serve
use Rattle.mg_reply.proofs.ReadingLaws.{first_line}
use Rattle.mg_reply.proofs.ServedLaws.{Joins, broken_taken, heard, none_asked, nothing, stops_heard, taken_line, taken_lines, taken_none}

-- the replies of one who says nothing: what is asked is known whatever is printed
silent : Settings → List ℕ → List ℕ
silent now line = []

-- ---- a line

-- what a query line prints by one rule it prints by another that follows from it
pub rule_back : {IsPrinted IsToo : PrintRule} (now : Settings) (line : List ℕ) (c : Command) (before after : Option (List ℕ)) →
    ((question : Question) (w v : Option (List ℕ)) → IsPrinted question w v → IsToo question w v) →
    CommandPrints IsPrinted now line c before after → CommandPrints IsToo now line c before after
rule_back now line Skip before after too is = is
rule_back now line Ask before after too is = too (record { now = now; line = line }) before after is
rule_back now line Quit before after too is = is
rule_back now line Wrong before after too is = is
rule_back now line (Set changed) before after too is = is

-- and so do lines
pub rule_of_lines : {IsPrinted IsToo : PrintRule} (hearing : Hearing) (now : Settings) (lines : List (List ℕ)) (before after : Option (List ℕ)) →
    ((question : Question) (w v : Option (List ℕ)) → IsPrinted question w v → IsToo question w v) →
    LinesPrint hearing IsPrinted now lines before after → LinesPrint hearing IsToo now lines before after
rule_of_lines hearing now [] before after too is = is
rule_of_lines hearing now (line ∷ more) before after too (inl ends) = inl ends
rule_of_lines {IsPrinted} {IsToo} hearing now (line ∷ more) before after too (inr on) =
    inr (on.0, (on.1.0, line_too on.1.0 on.1.1, rule_of_lines hearing (after_line hearing now line) more on.1.0 after too on.1.2))
  where
    line_too : (between : Option (List ℕ)) → LinePrints hearing IsPrinted now line before between → LinePrints hearing IsToo now line before between
    line_too between (inl long) = inl long
    line_too between (inr short) = inr (short.0, rule_back now (without_return line) (hears hearing (read now line)) before between too short.1)

-- A line prints this and asks some queries, and the lines behind it go on from there with these settings.
pub record Goes (hearing : Hearing) (IsPrinted : PrintRule) (now : Settings) (line : List ℕ) (asking : List Question) (after : Settings)
    (w v : Option (List ℕ)) : Type 0 where
  pub prints : (more : List (List ℕ)) (end : Option (List ℕ)) → LinesPrint hearing IsPrinted after more v end → LinesPrint hearing IsPrinted now (line ∷ more) w end
  pub asks : (more : List (List ℕ)) → questions hearing now (line ∷ more) ≡ asking ++ questions hearing after more

after_long : (hearing : Hearing) (now : Settings) (line : List ℕ) → 1024 < length line → after_line hearing now line ≡ now
unfolding after_line
after_long hearing now line long = rw (lt-ltb 1024 (length line) long)

after_short : (hearing : Hearing) (now : Settings) (line : List ℕ) → length line ≤ 1024 → after_line hearing now line ≡ settings_after now (hears hearing (read now line))
unfolding after_line
after_short hearing now line short = rw (le-ltb 1024 (length line) short)

pub goes_long : {IsPrinted : PrintRule} (hearing : Hearing) (now : Settings) (line : List ℕ) {w v : Option (List ℕ)} → 1024 < length line →
    v ≡ appended w line_too_long → Goes hearing IsPrinted now line [] now w v
goes_long {IsPrinted} hearing now line {w} {v} long given = record {
  prints = λ more end on. inr (
    ends_long now line long,
    (
      v,
      inl (lt-ltb 1024 (length line) long, given),
      subst (λ (s : Settings). LinesPrint hearing IsPrinted s more v end) (sym (after_long hearing now line long)) on,
    ),
  );
  asks = (gives_long hearing silent now line long).asks;
}

pub goes_short : {IsPrinted : PrintRule} (hearing : Hearing) (now : Settings) (line cut : List ℕ) {w v : Option (List ℕ)} → length line ≤ 1024 →
    cut ≡ without_return line → stops (command cut now) ≡ false → CommandPrints IsPrinted now cut (heard hearing now cut) w v →
    Goes hearing IsPrinted now line (asked_by now cut (heard hearing now cut)) (settings_after now (heard hearing now cut)) w v
goes_short {IsPrinted} hearing now line cut {w} {v} short cut_is goes printed =
    subst (λ l. CommandPrints IsPrinted now l (heard hearing now l) w v → stops (command l now) ≡ false →
    Goes hearing IsPrinted now line (asked_by now l (heard hearing now l)) (settings_after now (heard hearing now l)) w v) (sym cut_is)
    (λ is stay. record {
      prints = λ more end on. inr (
        ends_short now line short ∙ stay,
        (
          v,
          inr (le-ltb 1024 (length line) short, is),
          subst (λ (s : Settings). LinesPrint hearing IsPrinted s more v end) (sym (after_short hearing now line short)) on,
        ),
      );
      asks = (gives_line hearing silent now line short stay).asks;
    }) printed goes

-- ---- line after line

pub lines_start : {A : Type 0} (hearing : Hearing) (After : A → A → List Question → Type 0) (IsPrinted : PrintRule) (a : A) (left written : Option (List ℕ)) →
    After a a [] → AnsweredLines hearing After IsPrinted a a left left written written first_settings
lines_start hearing After IsPrinted a left written none = record {
  answered = [];
  after = none;
  goes_on = λ all told. record { taken = taken_none all left told; prints = λ more end on. on; asks = λ more. refl };
}

pub lines_line : {A : Type 0} {hearing : Hearing} {After : A → A → List Question → Type 0} {IsPrinted : PrintRule} {old new next : A}
    {before left left2 w0 w1 w2 : Option (List ℕ)} {now after : Settings} {line : List ℕ} {asking : List Question} {size : ℕ} → Joins After →
    AnsweredLines hearing After IsPrinted old new before left w0 w1 now → IsFirst line size left left2 → Goes hearing IsPrinted now line asking after w1 w2 →
    After new next asking → AnsweredLines hearing After IsPrinted old next before left2 w0 w2 after
lines_line {hearing} {IsPrinted} {old} {new} {next} {w0} {after} {line} {asking} joins s first goes step = record {
  answered = s.answered ++ asking;
  after = joins old new next s.answered asking s.after step;
  goes_on = λ all told.
      let r = s.goes_on all told in
      let t = taken_line r.taken first in
      let split : (more : List (List ℕ)) → lines t.0.front ++ more ≡ lines r.taken.front ++ (line ∷ more) =
      λ more. ap (λ ls. ls ++ more) t.1 ∙ append_assoc (lines r.taken.front) (line ∷ []) more in
      record {
        taken = t.0;
        prints = λ more end on. subst (λ ls. LinesPrint hearing IsPrinted first_settings ls w0 end) (sym (split more)) (r.prints (line ∷ more) end (goes.prints more end on));
        asks = λ more. ap (questions hearing first_settings) (split more) ∙ r.asks (line ∷ more) ∙ ap (λ x. s.answered ++ x) (goes.asks more)
            ∙ sym (append_assoc s.answered asking (questions hearing after more));
      };
}

-- ---- what is said of them

-- the input is at its end
pub lines_all : {A : Type 0} {hearing : Hearing} {After : A → A → List Question → Type 0} {IsPrinted : PrintRule} {old new : A}
    {before left w0 w1 : Option (List ℕ)} {now : Settings} → AnsweredLines hearing After IsPrinted old new before left w0 w1 now → IsAtEnd left →
    (all : List ℕ) → before ≡ Some all → InputPrints hearing IsPrinted w0 w1 all
lines_all {hearing} {IsPrinted} {left} {w0} {w1} s end all told =
    let r = s.goes_on all told in
    let none = nothing left r.taken.rest r.taken.told end in
    subst (λ ls. LinesPrint hearing IsPrinted first_settings ls w0 w1) (sym (taken_lines r.taken ∙ ap (λ x. lines r.taken.front ++ lines x) none)) (r.prints [] w1 refl)

-- a line ends the session
pub lines_quit : {A : Type 0} {hearing : Hearing} {After : A → A → List Question → Type 0} {IsPrinted : PrintRule} {old new : A}
    {before left next w0 w1 : Option (List ℕ)} {now : Settings} {line cut : List ℕ} {size : ℕ} (w2 : Option (List ℕ)) →
    AnsweredLines hearing After IsPrinted old new before left w0 w1 now → IsFirst line size left next → length line ≤ 1024 → cut ≡ without_return line → stops (command cut now) ≡ true →
    CommandPrints IsPrinted now cut (heard hearing now cut) w1 w2 → (all : List ℕ) → before ≡ Some all → InputPrints hearing IsPrinted w0 w2 all
lines_quit {hearing} {IsPrinted} {left} {next} {w0} {w1} {now} {line} {cut} {size} w2 s first short cut_is quits printed all told =
    let r = s.goes_on all told in
    let f = first_line line r.taken.rest size left next first r.taken.told in
    let same : w2 ≡ w1 = none_printed IsPrinted now cut (heard hearing now cut) (stops_heard hearing (command cut now) ∙ quits) printed in
    let last : ends now line ≡ true = ends_short now line short ∙ ap (λ l. stops (command l now)) (sym cut_is) ∙ quits in
    subst (λ ls. LinesPrint hearing IsPrinted first_settings ls w0 w2) (sym (taken_lines r.taken ∙ ap (λ ls. lines r.taken.front ++ ls) f.2))
    (r.prints (line ∷ lines f.0) w2 (inl (last, same)))
  where
    none_printed : (IsPrinted : PrintRule) (now : Settings) (line : List ℕ) (c : Command) {w v : Option (List ℕ)} → stops c ≡ true →
        CommandPrints IsPrinted now line c w v → v ≡ w
    none_printed IsPrinted now line Skip h is = is
    none_printed IsPrinted now line Ask h is = absurd (false≢true h)
    none_printed IsPrinted now line Quit h is = is
    none_printed IsPrinted now line Wrong h is = absurd (false≢true h)
    none_printed IsPrinted now line (Set changed) h is = is

-- a line in which the input failed
pub lines_broken : {A : Type 0} {hearing : Hearing} {After : A → A → List Question → Type 0} {IsPrinted : PrintRule} {old new : A}
    {before left w0 w1 : Option (List ℕ)} {now : Settings} (held : List ℕ) (input : Option (List ℕ)) → AnsweredLines hearing After IsPrinted old new before left w0 w1 now →
    ((part : List ℕ) × HasNoEnd part × (left ≡ prepended part (prepended held input))) → held ≡ [] → (all : List ℕ) → before ≡ Some all →
    TakenWhole (InputPrints hearing IsPrinted w0 w1) all input
lines_broken {hearing} {IsPrinted} {w0} {w1} held input s broken none all told =
    let r = s.goes_on all told in
    broken_taken (InputPrints hearing IsPrinted w0 w1) held input r.taken broken none
    (subst (λ ls. LinesPrint hearing IsPrinted first_settings ls w0 w1) (append-nil (lines r.taken.front)) (r.prints [] w1 refl))

-- the queries answered so far
pub lines_asked : {A : Type 0} {hearing : Hearing} {After : A → A → List Question → Type 0} {IsPrinted : PrintRule} {old new : A}
    {before left w0 w1 : Option (List ℕ)} {now : Settings} → AnsweredLines hearing After IsPrinted old new before left w0 w1 now → AnsweredSome hearing After old new before
unfolding heard_questions
lines_asked {hearing} {now} s = record {
  answered = s.answered;
  after = s.after;
  first = λ all told.
      let r = s.goes_on all told in
      (questions hearing now (lines r.taken.rest), ap (questions hearing first_settings) (taken_lines r.taken) ∙ r.asks (lines r.taken.rest));
}

-- and those of the line that was answered last, in part or whole
pub last_asked : {A : Type 0} {hearing : Hearing} {After : A → A → List Question → Type 0} {IsPrinted : PrintRule} {old new next : A}
    {before left left2 w0 w1 : Option (List ℕ)} {now : Settings} {line cut : List ℕ} {size : ℕ} → Joins After →
    AnsweredLines hearing After IsPrinted old new before left w0 w1 now → IsFirst line size left left2 → length line ≤ 1024 → cut ≡ without_return line →
    After new next (asked_by now cut (heard hearing now cut)) → AnsweredSome hearing After old next before
unfolding heard_questions
last_asked {hearing} {old} {new} {next} {left} {left2} {now} {line} {cut} {size} joins s first short cut_is step = record {
  answered = s.answered ++ asked_by now cut (heard hearing now cut);
  after = joins old new next s.answered (asked_by now cut (heard hearing now cut)) s.after step;
  first = λ all told.
      let r = s.goes_on all told in
      let f = first_line line r.taken.rest size left left2 first r.taken.told in
      let whole : questions hearing first_settings (lines all) ≡ s.answered ++ questions hearing now (line ∷ lines f.0) =
      ap (questions hearing first_settings) (taken_lines r.taken) ∙ r.asks (lines r.taken.rest) ∙ ap (λ ls. s.answered ++ questions hearing now ls) f.2 in
      elim (cases_Bool (stops (command cut now))) [
        | inl quits ↦
            let none : asked_by now cut (heard hearing now cut) ≡ [] = none_asked now cut (heard hearing now cut) (stops_heard hearing (command cut now) ∙ quits) in
            (questions hearing now (line ∷ lines f.0), whole ∙ ap (λ x. x ++ questions hearing now (line ∷ lines f.0)) (sym (append-nil s.answered) ∙ ap (λ x. s.answered ++ x) (sym none)))
        | inr goes ↦
            let stay : stops (read now line) ≡ false = ap (λ l. stops (command l now)) (sym cut_is) ∙ goes in
            let gives = gives_line hearing silent now line short stay in
            let same : asked_by now (without_return line) (hears hearing (read now line)) ≡ asked_by now cut (heard hearing now cut) =
            ap (λ l. asked_by now l (heard hearing now l)) (sym cut_is) in (
              questions hearing (settings_after now (hears hearing (read now line))) (lines f.0),
              whole ∙ ap (λ x. s.answered ++ x) (gives.asks (lines f.0) ∙ ap (λ x. x ++ questions hearing (settings_after now (hears hearing (read now line))) (lines f.0)) same)
                  ∙ sym (append_assoc s.answered (asked_by now cut (heard hearing now cut)) (questions hearing (settings_after now (hears hearing (read now line))) (lines f.0))),
            )
      ];
}

-- ---- an input that failed

-- only a failed input is told as one
pub read_failed : (e : ServeErr) → ◌≡◌ {A = Result (Unit {0}) Fault} (Err (fault_of_serve e)) (Err fault.ReadFault) →
    ◌≡◌ {A = Result (Unit {0}) ServeErr} (Err e) (Err serve.Read)
read_failed serve.Read is = refl
read_failed serve.TooMuch is = cc
read_failed (serve.Show (show.Part part.Device)) is = cc
read_failed (serve.Show (show.Part part.Memory)) is = cc
read_failed (serve.Show (show.Part (part.Bad bad))) is = cc
read_failed (serve.Show show.Write) is = cc
read_failed (serve.Show show.Memory) is = cc

-- what is so of the front that was taken
pub taken_too : {IsSo IsToo : List ℕ → Type 0} {input : List ℕ} {left : Option (List ℕ)} → ((front : List ℕ) → IsSo front → IsToo front) →
    TakenWhole IsSo input left → TakenWhole IsToo input left
taken_too too t = record {
  front = t.front;
  part = t.part;
  rest = t.rest;
  whole = t.whole;
  plain = t.plain;
  told = t.told;
  so = too t.front t.so;
}

-- nothing was taken, and nothing was printed
pub none_broken : (hearing : Hearing) (reply : Settings → List ℕ → List ℕ) {before end w0 w1 : Option (List ℕ)} (given : List ℕ) → end ≡ before → w1 ≡ w0 →
    before ≡ Some given → RepliedBroken hearing reply w0 w1 end given
unfolding heard_session replies
none_broken hearing reply {before} {end} {w0} {w1} given untouched quiet told = record {
  front = [];
  part = [];
  rest = given;
  whole = refl;
  plain = tt;
  told = untouched ∙ told;
  so = quiet ∙ sym (appended-nil w0);
}

pub none_answered : (hearing : Hearing) (IsPrinted : PrintRule) {before end w0 w1 : Option (List ℕ)} (given : List ℕ) → end ≡ before → w1 ≡ w0 →
    before ≡ Some given → AnsweredBroken hearing IsPrinted w0 w1 end given
none_answered hearing IsPrinted {before} {end} {w0} {w1} given untouched quiet told = record {
  front = [];
  part = [];
  rest = given;
  whole = refl;
  plain = tt;
  told = untouched ∙ told;
  so = quiet;
}
