-- Laws of a session that is under way.
use Rattle.std.proofs.Common.{◌≡◌, ◌==◌, ℕ, zero, suc, ◌+◌, ◌-◌, ◌<◌, ◌≤◌, inl, inr, Bool, true, false, not, ◌||◌, List, [], ◌∷◌, ◌++◌, length, take, refl, sym, ◌∙◌, ap, subst, arith, Some, None, IsSome, append_assoc, append-nil, length-append}
use Rattle.std.specs.List.{list_any}
use Rattle.std.specs.declared.option.Option.{Option}
use Rattle.std.proofs.Math.Seq.{take-length, take-append-add}
use Rattle.std.proofs.lemmas.List.{take-append-le}
use Rattle.std.proofs.lemmas.List.Folds.{list_any-append}
use Rattle.std.proofs.lemmas.Bool.{cases_Bool, false≢true, lt-ltb, le-ltb, and_from, and_left, and_right, or_left, or_right, cond_both}
use Rattle.mg_dev.specs.Streams.{appended, prepended, GrewByPrefix, IsAtEnd}
use Rattle.mg_dev.specs.StreamLaws.{appended-nil, appended-appended, prepended-nil, prepended-prepended, grew_first, grew_second, grew_nothing}
use Rattle.mg_defs.specs.declared.session.Settings.{Settings}
use Rattle.mg_defs.specs.declared.session.Command.{Command}
use Rattle.mg_defs.specs.declared.session.Command.TheVariants.{Skip, Ask, Quit, Wrong, Set}
use Rattle.mg_defs.specs.Commands.{first_settings, command, command_text, settings_after, stops}
use Rattle.mg_defs.specs.Texts.{bad_command, line_too_long}
use Rattle.mg_defs.specs.Lines.{lines, HasNoEnd, without_return}
use Rattle.mg_defs.specs.declared.session.Hearing.{Hearing}
use Rattle.mg_defs.specs.declared.session.Hearing.TheVariants.{Commands, Questions}
use Rattle.mg_defs.specs.Session.{hears, replies, heard_session, read, Question, questions, asked, asked_by, line_text}
use Rattle.mg_defs.specs.InputLimit.{is_quit, ended_lines, has_quit, is_too_much}
use Rattle.mg_defs.specs.Limits.{input_limit}
use Rattle.mg_defs.proofs.SessionLaws.{Gives, gives_end, gives_line, ends_long, ends_short}
use Rattle.mg_defs.proofs.LinesLaws.{lines-closed}
use Rattle.mg_defs.proofs.LimitLaws.{ends_always, ended-line, ended-none}
use Rattle.mg_reply.specs.Reading.{IsFirst, RunsOn, buffer_bytes}
use Rattle.mg_reply.specs.PrintedLines.{TakenWhole}
use Rattle.mg_reply.specs.Served.{Counted, LeftEnough, LinesTaken, PrintedInTurn, RepliedInTurn, Rests, Served, TakenAhead}
use Rattle.mg_reply.proofs.ReadingLaws.{alone, first_line, left_now, empty}

-- ---- the lines that were taken up

abbrev pub taken_none : (all : List ℕ) (left : Option (List ℕ)) → left ≡ Some all → LinesTaken all left
taken_none all left told = record { front = []; rest = all; told = told; whole = refl; closed = λ some more. refl }

-- the lines are those of the front and those of the rest
pub taken_lines : {all : List ℕ} {left : Option (List ℕ)} (t : LinesTaken all left) → lines all ≡ lines t.front ++ lines t.rest
taken_lines t = ap lines t.whole ∙ behind t.front t.rest t.closed
  where
    behind : (front rest : List ℕ) → (0 < length rest → (more : List ℕ) → lines (front ++ more) ≡ lines front ++ lines more) →
        lines (front ++ rest) ≡ lines front ++ lines rest
    behind front [] closed = ap lines (append-nil front) ∙ sym (append-nil (lines front))
    behind front (b ∷ rest) closed = closed (omega arith) (b ∷ rest)

-- nothing is left of a told input at its end
pub nothing : (left : Option (List ℕ)) (rest : List ℕ) → left ≡ Some rest → IsAtEnd left → rest ≡ []
nothing left rest told end =
    let is_told : IsSome left = rw told in
    let e = sym told ∙ end is_told in cc

-- something is left where a line is
some_left : (line rest all : List ℕ) → all ≡ (line ++ 10 ∷ []) ++ rest → 0 < length all
some_left line rest all e = omega (arith, ap length e, length-append (line ++ 10 ∷ []) rest, length-append line (10 ∷ []))

more_lines : (front line more : List ℕ) → HasNoEnd line → ((more : List ℕ) → lines (front ++ more) ≡ lines front ++ lines more) →
    lines ((front ++ (line ++ 10 ∷ [])) ++ more) ≡ lines front ++ (line ∷ lines more)
more_lines front line more plain closed =
    ap lines (append_assoc front (line ++ 10 ∷ []) more ∙ ap (λ t. front ++ t) (append_assoc line (10 ∷ []) more))
    ∙ closed (line ++ (10 ∷ more)) ∙ ap (λ ls. lines front ++ ls) (lines-closed line more plain)

-- a line more
pub taken_line : {all line : List ℕ} {size : ℕ} {left left2 : Option (List ℕ)} (t : LinesTaken all left) → IsFirst line size left left2 →
    (t2 : LinesTaken all left2) × (lines t2.front ≡ lines t.front ++ line ∷ [])
taken_line {line} {left2} t first =
    elim first.ends [
      | inl f ↦
          let now = left_now left2 (line ++ 10 ∷ []) t.rest (sym t.told ∙ f.1) in
          let front = t.front ++ (line ++ 10 ∷ []) in
          let on : (more : List ℕ) → lines (front ++ more) ≡ lines t.front ++ (line ∷ lines more) =
          λ more. more_lines t.front line more first.plain (t.closed (some_left line now.0 t.rest now.2)) in
          let last : lines front ≡ lines t.front ++ line ∷ [] = ap lines (sym (append-nil front)) ∙ on [] in (
            record {
              front = front;
              rest = now.0;
              told = now.1;
              whole = t.whole ∙ ap (λ x. t.front ++ x) now.2 ∙ sym (append_assoc t.front (line ++ 10 ∷ []) now.0);
              closed = λ some more. on more ∙ sym (append_assoc (lines t.front) (line ∷ []) (lines more)) ∙ ap (λ ls. ls ++ lines more) (sym last);
            },
            last,
          )
      | inr f ↦
          let now = left_now left2 line t.rest (sym t.told ∙ f.2) in
          let none : now.0 ≡ [] = nothing left2 now.0 now.1 f.3 in
          let some : 0 < length t.rest = omega (arith, f.1, ap length now.2, length-append line now.0) in (
            record {
              front = t.front ++ line;
              rest = now.0;
              told = now.1;
              whole = t.whole ∙ ap (λ x. t.front ++ x) now.2 ∙ sym (append_assoc t.front line now.0);
              closed = λ some more. absurd (omega (arith, some, ap length none));
            },
            t.closed some line ∙ ap (λ ls. lines t.front ++ ls) (alone line f.1 first.plain),
          )
    ]

-- a line in which the input failed, and nothing was held
pub broken_taken : (IsSo : List ℕ → Type 0) {all : List ℕ} {left : Option (List ℕ)} (held : List ℕ) (input : Option (List ℕ)) (t : LinesTaken all left) →
    ((part : List ℕ) × HasNoEnd part × (left ≡ prepended part (prepended held input))) → held ≡ [] → IsSo t.front → TakenWhole IsSo all input
broken_taken IsSo {all} {left} held input t broken none so =
    let is : left ≡ prepended broken.0 input = broken.2 ∙ ap (λ h. prepended broken.0 (prepended h input)) none ∙ ap (prepended broken.0) (prepended-nil input) in
    let now = left_now input broken.0 t.rest (sym t.told ∙ is) in
    record {
      front = t.front;
      part = broken.0;
      rest = now.0;
      whole = t.whole ∙ ap (λ x. t.front ++ x) now.2;
      plain = broken.1;
      told = now.1;
      so = so;
    }

-- ---- what was printed and answered

-- what was told prints this, and the rest of it goes on
rests_on : {hearing : Hearing} {reply : Settings → List ℕ → List ℕ} {now : Settings} {done all : List ℕ} {answered : List Question} {left : Option (List ℕ)}
    (r : Rests hearing reply now done answered all left) → replies hearing reply first_settings (lines all) ≡ done ++ replies hearing reply now (lines r.taken.rest)
rests_on {hearing} {reply} r = ap (replies hearing reply first_settings) (taken_lines r.taken) ∙ r.goes_on (lines r.taken.rest)

rests_line : {hearing : Hearing} {reply : Settings → List ℕ → List ℕ} {now after : Settings} {done line text all : List ℕ} {answered asking : List Question}
    {left left2 : Option (List ℕ)} {size : ℕ} → Rests hearing reply now done answered all left → IsFirst line size left left2 →
    Gives hearing reply now line text asking after → Rests hearing reply after (done ++ text) (answered ++ asking) all left2
rests_line {hearing} {reply} {after} {done} {line} {text} {answered} {asking} r first gives =
    let t = taken_line r.taken first in
    let split : (more : List (List ℕ)) → lines t.0.front ++ more ≡ lines r.taken.front ++ (line ∷ more) =
    λ more. ap (λ ls. ls ++ more) t.1 ∙ append_assoc (lines r.taken.front) (line ∷ []) more in
    record {
      taken = t.0;
      goes_on = λ more. ap (replies hearing reply first_settings) (split more) ∙ r.goes_on (line ∷ more) ∙ ap (λ x. done ++ x) (gives.goes_on more)
          ∙ sym (append_assoc done text (replies hearing reply after more));
      asks = λ more. ap (questions hearing first_settings) (split more) ∙ r.asks (line ∷ more) ∙ ap (λ x. answered ++ x) (gives.asks more)
          ∙ sym (append_assoc answered asking (questions hearing after more));
    }

pub served_start : {A : Type 0} (hearing : Hearing) (After : A → A → List Question → Type 0) (a : A) (reply : Settings → List ℕ → List ℕ)
    (left written : Option (List ℕ)) → After a a [] → Served hearing After a a reply left left written written first_settings
served_start hearing After a reply left written none = record {
  done = [];
  answered = [];
  given = sym (appended-nil written);
  after = none;
  goes_on = λ all told. record { taken = taken_none all left told; goes_on = λ more. refl; asks = λ more. refl };
}

-- answers between two states, and then between the second and a third
abbrev pub Joins : {A : Type 0} → (A → A → List Question → Type 0) → Type 0
Joins {A} After = (s t u : A) (xs ys : List Question) → After s t xs → After t u ys → After s u (xs ++ ys)

-- a line more
pub served_line : {A : Type 0} {hearing : Hearing} {After : A → A → List Question → Type 0} {old new next : A} {reply : Settings → List ℕ → List ℕ}
    {before left left2 w0 w1 w2 : Option (List ℕ)} {now after : Settings} {line text : List ℕ} {asking : List Question} {size : ℕ} → Joins After →
    Served hearing After old new reply before left w0 w1 now → IsFirst line size left left2 → Gives hearing reply now line text asking after →
    After new next asking → w2 ≡ appended w1 text → Served hearing After old next reply before left2 w0 w2 after
served_line {hearing} {old} {new} {next} {reply} {left} {left2} {w0} {now} {after} {line} {text} {asking} {size} joins s first gives step given = record {
  done = s.done ++ text;
  answered = s.answered ++ asking;
  given = given ∙ ap (λ w. appended w text) s.given ∙ appended-appended w0 s.done text;
  after = joins old new next s.answered asking s.after step;
  goes_on = λ all told. rests_line (s.goes_on all told) first gives;
}

-- a part of a line's text
pub served_part : {A : Type 0} {hearing : Hearing} {After : A → A → List Question → Type 0} {old new : A} {reply : Settings → List ℕ → List ℕ}
    {before left next w0 w1 w2 : Option (List ℕ)} {now after : Settings} {line text : List ℕ} {asking : List Question} {size : ℕ} →
    Served hearing After old new reply before left w0 w1 now → IsFirst line size left next → Gives hearing reply now line text asking after →
    GrewByPrefix w1 w2 text → (all : List ℕ) → before ≡ Some all → GrewByPrefix w0 w2 (heard_session hearing reply all)
unfolding heard_session
served_part {hearing} {reply} {left} {next} {w0} {w1} {w2} {now} {after} {line} {text} {size} s first gives grew all told =
    let r = s.goes_on all told in
    let f = first_line line r.taken.rest size left next first r.taken.told in
    let e : replies hearing reply first_settings (lines all) ≡ s.done ++ (text ++ replies hearing reply after (lines f.0)) =
    rests_on r ∙ ap (λ ls. s.done ++ replies hearing reply now ls) f.2 ∙ ap (λ t. s.done ++ t) (gives.goes_on (lines f.0)) in
    subst (GrewByPrefix w0 w2) (sym e) (grew_second w0 w1 w2 s.done (text ++ replies hearing reply after (lines f.0)) s.given (grew_first w1 w2 text (replies hearing reply after (lines f.0)) grew))

-- what was printed so far
pub served_some : {A : Type 0} {hearing : Hearing} {After : A → A → List Question → Type 0} {old new : A} {reply : Settings → List ℕ → List ℕ}
    {before left w0 w1 : Option (List ℕ)} {now : Settings} → Served hearing After old new reply before left w0 w1 now → (all : List ℕ) → before ≡ Some all →
    GrewByPrefix w0 w1 (heard_session hearing reply all)
unfolding heard_session
served_some {hearing} {reply} {w0} {w1} {now} s all told =
    let r = s.goes_on all told in
    subst (GrewByPrefix w0 w1) (sym (rests_on r))
    (grew_second w0 w1 w1 s.done (replies hearing reply now (lines r.taken.rest)) s.given (grew_nothing w1 (replies hearing reply now (lines r.taken.rest))))

-- the input is at its end
pub served_all : {A : Type 0} {hearing : Hearing} {After : A → A → List Question → Type 0} {old new : A} {reply : Settings → List ℕ → List ℕ}
    {before left w0 w1 : Option (List ℕ)} {now : Settings} → Served hearing After old new reply before left w0 w1 now → IsAtEnd left → (all : List ℕ) →
    before ≡ Some all → w1 ≡ appended w0 (heard_session hearing reply all)
unfolding heard_session replies
served_all {hearing} {reply} {left} {w0} {now} s end all told =
    let r = s.goes_on all told in
    let none = nothing left r.taken.rest r.taken.told end in
    s.given ∙ ap (appended w0) (sym (rests_on r ∙ ap (λ x. s.done ++ replies hearing reply now (lines x)) none ∙ append-nil s.done))

-- a line ends it
pub served_quit : {A : Type 0} {hearing : Hearing} {After : A → A → List Question → Type 0} {old new : A} {reply : Settings → List ℕ → List ℕ}
    {before left next w0 w1 : Option (List ℕ)} {now : Settings} {line : List ℕ} {size : ℕ} → Served hearing After old new reply before left w0 w1 now →
    IsFirst line size left next → length line ≤ 1024 → stops (read now line) ≡ true → (all : List ℕ) → before ≡ Some all →
    w1 ≡ appended w0 (heard_session hearing reply all)
unfolding heard_session
served_quit {hearing} {reply} {left} {next} {w0} {now} {line} {size} s first short quits all told =
    let r = s.goes_on all told in
    let f = first_line line r.taken.rest size left next first r.taken.told in
    let none = gives_end hearing reply now line (lines f.0) short quits in
    s.given ∙ ap (appended w0) (sym (rests_on r ∙ ap (λ ls. s.done ++ replies hearing reply now ls) f.2 ∙ ap (λ t. s.done ++ t) none.0 ∙ append-nil s.done))

-- ---- what is said of a line's answer

no_text : (reply : Settings → List ℕ → List ℕ) (wrong : List ℕ) (now : Settings) (line : List ℕ) (c : Command) → stops c ≡ true → command_text reply wrong now line c ≡ []
no_text reply wrong now line Skip h = refl
no_text reply wrong now line Ask h = absurd (false≢true h)
no_text reply wrong now line Quit h = refl
no_text reply wrong now line Wrong h = absurd (false≢true h)
no_text reply wrong now line (Set changed) h = refl

pub none_asked : (now : Settings) (line : List ℕ) (c : Command) → stops c ≡ true → asked_by now line c ≡ []
none_asked now line Skip h = refl
none_asked now line Ask h = absurd (false≢true h)
none_asked now line Quit h = refl
none_asked now line Wrong h = refl
none_asked now line (Set changed) h = refl

-- how lines are heard does not change which of them ends the session
pub stops_heard : (hearing : Hearing) (c : Command) → stops (hears hearing c) ≡ stops c
stops_heard Commands c = refl
stops_heard Questions Skip = refl
stops_heard Questions Ask = refl
stops_heard Questions Quit = refl
stops_heard Questions Wrong = refl
stops_heard Questions (Set changed) = refl

-- A line of an input, without a last carriage return, is answered by a state with this reply.
pub record Answered (reply answering : Settings → List ℕ → List ℕ) (now : Settings) (line cut : List ℕ) : Type 0 where
  pub same : answering ≡ reply
  pub cut_is : cut ≡ without_return line
  pub short : length line ≤ 1024

-- the text of a line's answer
abbrev pub heard : Hearing → Settings → List ℕ → Command
heard hearing now cut = hears hearing (command cut now)

abbrev pub answer : Hearing → (Settings → List ℕ → List ℕ) → Settings → List ℕ → List ℕ
answer hearing answering now cut = command_text answering bad_command now cut (heard hearing now cut)

pub answered_gives : (hearing : Hearing) (reply answering : Settings → List ℕ → List ℕ) (now : Settings) (line cut : List ℕ) →
    Answered reply answering now line cut → stops (command cut now) ≡ false →
    Gives hearing reply now line (answer hearing answering now cut) (asked_by now cut (heard hearing now cut)) (settings_after now (heard hearing now cut))
answered_gives hearing reply answering now line cut a goes =
    let P : (Settings → List ℕ → List ℕ) → List ℕ → Type 0 = λ r l.
    Gives hearing reply now line (answer hearing r now l) (asked_by now l (heard hearing now l)) (settings_after now (heard hearing now l)) in
    let goes2 : stops (read now line) ≡ false = ap (λ l. stops (command l now)) (sym a.cut_is) ∙ goes in
    subst (λ r. P r cut) (sym a.same) (subst (λ l. P reply l) (sym a.cut_is) (gives_line hearing reply now line a.short goes2))

pub answered_quits : {A : Type 0} {hearing : Hearing} {After : A → A → List Question → Type 0} {old new : A} {reply answering : Settings → List ℕ → List ℕ}
    {before left next w0 w1 w2 : Option (List ℕ)} {now : Settings} {line cut : List ℕ} {size : ℕ} →
    Served hearing After old new reply before left w0 w1 now → IsFirst line size left next → Answered reply answering now line cut →
    stops (command cut now) ≡ true → w2 ≡ appended w1 (answer hearing answering now cut) → (all : List ℕ) → before ≡ Some all →
    w2 ≡ appended w0 (heard_session hearing reply all)
answered_quits {hearing} {answering} {w1} {now} {line} {cut} s first a quits given all told =
    let quits2 : stops (read now line) ≡ true = ap (λ l. stops (command l now)) (sym a.cut_is) ∙ quits in
    given ∙ ap (appended w1) (no_text answering bad_command now cut (heard hearing now cut) (stops_heard hearing (command cut now) ∙ quits))
    ∙ appended-nil w1 ∙ served_quit s first a.short quits2 all told

-- all of it is a prefix of it
pub all_grew : (w0 w1 : Option (List ℕ)) (text : List ℕ) → w1 ≡ appended w0 text → GrewByPrefix w0 w1 text
all_grew w0 w1 text e = record { count = length text; within = omega arith; is = e ∙ ap (appended w0) (sym (take-length text)) }

-- a refused answer: it printed a part of its text, whatever the line was to do
pub answered_part : {A : Type 0} {hearing : Hearing} {After : A → A → List Question → Type 0} {old new : A} {reply answering : Settings → List ℕ → List ℕ}
    {before left next w0 w1 w2 : Option (List ℕ)} {now : Settings} {line cut : List ℕ} {size : ℕ} →
    Served hearing After old new reply before left w0 w1 now → IsFirst line size left next → Answered reply answering now line cut →
    GrewByPrefix w1 w2 (answer hearing answering now cut) → (all : List ℕ) → before ≡ Some all → GrewByPrefix w0 w2 (heard_session hearing reply all)
answered_part {hearing} {reply} {answering} {w0} {w1} {w2} {now} {line} {cut} s first a grew all told =
    elim (cases_Bool (stops (command cut now))) [
      | inl quits ↦
          let none : answer hearing answering now cut ≡ [] = no_text answering bad_command now cut (heard hearing now cut) (stops_heard hearing (command cut now) ∙ quits) in
          let g : GrewByPrefix w1 w2 [] = subst (GrewByPrefix w1 w2) none grew in
          let same : w2 ≡ w1 = g.is ∙ ap (appended w1) (take-none g.count) ∙ appended-nil w1 in
          subst (λ w. GrewByPrefix w0 w (heard_session hearing reply all)) (sym same) (served_some s all told)
      | inr goes ↦ served_part s first
          (answered_gives hearing reply answering now line cut a goes) grew all told
    ]
  where
    take-none : (n : ℕ) → take {A = ℕ} n [] ≡ []
    take-none zero = refl
    take-none (suc n) = refl

-- a line in which the input failed: the session of the lines before it was printed whole
pub served_broken : {A : Type 0} {hearing : Hearing} {After : A → A → List Question → Type 0} {old new : A} {reply : Settings → List ℕ → List ℕ}
    {before left w0 w1 : Option (List ℕ)} {now : Settings} (held : List ℕ) (input : Option (List ℕ)) → Served hearing After old new reply before left w0 w1 now →
    ((part : List ℕ) × HasNoEnd part × (left ≡ prepended part (prepended held input))) → held ≡ [] → (all : List ℕ) → before ≡ Some all →
    TakenWhole (λ front. w1 ≡ appended w0 (heard_session hearing reply front)) all input
unfolding heard_session replies
served_broken {hearing} {reply} {w0} {w1} held input s broken none all told =
    let r = s.goes_on all told in
    let is : replies hearing reply first_settings (lines r.taken.front) ≡ s.done =
    ap (replies hearing reply first_settings) (sym (append-nil (lines r.taken.front))) ∙ r.goes_on [] ∙ append-nil s.done in
    broken_taken (λ front. w1 ≡ appended w0 (replies hearing reply first_settings (lines front))) held input r.taken broken none
    (s.given ∙ ap (appended w0) (sym is))

-- ---- replies are written in turn

-- the line that was taken last, with what was taken behind it
pub ahead_line : (held : List ℕ) {line : List ℕ} {size : ℕ} {left now : Option (List ℕ)} → IsFirst line size left (prepended held now) →
    length held ≤ buffer_bytes → TakenAhead left now
ahead_line held {line} {left} {now} first few =
    elim first.ends [
      | inl e ↦ record {
        line = line;
        behind = 10 ∷ held;
        plain = first.plain;
        few = omega (arith, few);
        taken = e.1 ∙ prepended-prepended now (line ++ 10 ∷ []) held ∙ ap (λ x. prepended x now) (append_assoc line (10 ∷ []) held);
      }
      | inr e ↦ record {
        line = line;
        behind = held;
        plain = first.plain;
        few = omega (arith, few);
        taken = e.2 ∙ prepended-prepended now line held;
      }
    ]

-- a line that went on to the limit
pub ahead_past : (held : List ℕ) {size : ℕ} {left now : Option (List ℕ)} → RunsOn size left (prepended held now) →
    length held ≤ buffer_bytes → TakenAhead left now
ahead_past held {left} {now} on few = record {
  line = on.front;
  behind = on.byte ∷ held;
  plain = on.plain;
  few = omega (arith, few);
  taken = on.taken ∙ prepended-prepended now (on.front ++ on.byte ∷ []) held
      ∙ ap (λ x. prepended x now) (append_assoc on.front (on.byte ∷ []) held);
}

-- a line in which the input failed
pub ahead_broken : (held : List ℕ) {left now : Option (List ℕ)} →
    ((front : List ℕ) × HasNoEnd front × (left ≡ prepended front (prepended held now))) → length held ≤ buffer_bytes → TakenAhead left now
ahead_broken held {left} {now} broken few = record {
  line = broken.0;
  behind = held;
  plain = broken.1;
  few = omega (arith, few);
  taken = broken.2 ∙ prepended-prepended now broken.0 held;
}

-- no line
pub ahead_none : (held : List ℕ) {left now : Option (List ℕ)} → prepended held now ≡ left → length held ≤ buffer_bytes → TakenAhead left now
ahead_none held {left} {now} same few = record { line = []; behind = held; plain = tt; few = omega (arith, few); taken = sym same }

-- no line was taken up since
pub turn_rests : {A : Type 0} {hearing : Hearing} {After : A → A → List Question → Type 0} {old new : A}
    {reply : Settings → List ℕ → List ℕ} {before left end w0 w1 : Option (List ℕ)} {now : Settings} →
    After new new [] → Served hearing After old new reply before left w0 w1 now → TakenAhead left end →
    RepliedInTurn hearing After old new reply before end w0 w1
turn_rests {new} {left} {w1} {now} none s ahead = record {
  then = new;
  now = now;
  left = left;
  printed = w1;
  whole = s;
  last = inr (none, refl);
  ahead = ahead;
}

line_next : (line : List ℕ) (size : ℕ) (left after : Option (List ℕ)) → IsFirst line size left after →
    (rest : List ℕ) → left ≡ Some rest → (more : List (List ℕ)) × (lines rest ≡ line ∷ more)
line_next line size left after first rest told =
    let f = first_line line rest size left after first told in
    (lines f.0, f.2)

-- a line that is too long
pub turn_long : (held : List ℕ) {A : Type 0} {hearing : Hearing} {After : A → A → List Question → Type 0} {old new : A}
    {reply : Settings → List ℕ → List ℕ} {before left end w0 w1 w2 : Option (List ℕ)} {now : Settings} {line : List ℕ} {size : ℕ} →
    After new new [] → Served hearing After old new reply before left w0 w1 now → IsFirst line size left (prepended held end) →
    length held ≤ buffer_bytes → 1024 < length line → GrewByPrefix w1 w2 line_too_long → RepliedInTurn hearing After old new reply before end w0 w2
unfolding asked line_text
turn_long held {new} {left} {end} {w1} {now} {line} {size} none s first few long grew = record {
  then = new;
  now = now;
  left = left;
  printed = w1;
  whole = s;
  last = inl (record {
    line = line;
    next = line_next line size left (prepended held end) first;
    answered = rw (lt-ltb 1024 (length line) long) none;
    front = rw (lt-ltb 1024 (length line) long) grew;
  });
  ahead = ahead_line held first few;
}

-- a line that was answered, in part or whole
pub turn_answers : (held : List ℕ) {A : Type 0} {hearing : Hearing} {After : A → A → List Question → Type 0} {old then new : A}
    {reply answering : Settings → List ℕ → List ℕ} {before left end w0 w1 w2 : Option (List ℕ)} {now : Settings} {line cut : List ℕ} {size : ℕ} →
    Served hearing After old then reply before left w0 w1 now → IsFirst line size left (prepended held end) → length held ≤ buffer_bytes →
    Answered reply answering now line cut → After then new (asked_by now cut (heard hearing now cut)) →
    GrewByPrefix w1 w2 (answer hearing answering now cut) → RepliedInTurn hearing After old new reply before end w0 w2
unfolding asked line_text
turn_answers held {hearing} {After} {then} {new} {reply} {answering} {left} {end} {w1} {w2} {now} {line} {cut} {size} s first few a step grew = record {
  then = then;
  now = now;
  left = left;
  printed = w1;
  whole = s;
  last = inl (record {
    line = line;
    next = line_next line size left (prepended held end) first;
    answered = rw (le-ltb 1024 (length line) a.short) (subst (λ l. After then new (asked_by now l (heard hearing now l))) a.cut_is step);
    front = rw (le-ltb 1024 (length line) a.short) (subst (λ l. GrewByPrefix w1 w2 (answer hearing reply now l)) a.cut_is
        (subst (λ r. GrewByPrefix w1 w2 (answer hearing r now cut)) a.same grew));
  });
  ahead = ahead_line held first few;
}

-- what is told of the input and the output alone
pub printed_in_turn : {A : Type 0} {hearing : Hearing} {After : A → A → List Question → Type 0} {old new : A}
    {reply : Settings → List ℕ → List ℕ} {before end w0 w1 : Option (List ℕ)} → RepliedInTurn hearing After old new reply before end w0 w1 →
    PrintedInTurn hearing reply before end w0 w1
printed_in_turn {hearing} {reply} {w0} {w1} turn =
    let done = turn.whole.done in
    let some : (some : List ℕ) × (w1 ≡ appended w0 (done ++ some)) = elim turn.last [
      | inl took ↦
          let grew = took.front in
          let text = line_text hearing reply turn.now took.line in
          (take grew.count text, grew.is ∙ ap (λ w. appended w (take grew.count text)) turn.whole.given ∙ appended-appended w0 done (take grew.count text))
      | inr rests ↦ ([], rests.1 ∙ turn.whole.given ∙ ap (appended w0) (sym (append-nil done)))
    ] in
    record {
      now = turn.now;
      left = turn.left;
      done = done;
      some = some.0;
      goes_on = λ all told. let r = turn.whole.goes_on all told in (r.taken.rest, r.taken.told, rests_on r);
      printed = some.1;
      ahead = turn.ahead;
    }

-- nothing was taken, and nothing was printed
pub none_in_turn : (hearing : Hearing) (reply : Settings → List ℕ → List ℕ) {before end w0 w1 : Option (List ℕ)} → end ≡ before → w1 ≡ w0 →
    PrintedInTurn hearing reply before end w0 w1
none_in_turn hearing reply {before} {end} {w0} {w1} untouched silent = record {
  now = first_settings;
  left = before;
  done = [];
  some = [];
  goes_on = λ all told. (all, told, refl);
  printed = silent ∙ sym (appended-nil w0);
  ahead = ahead_none [] (prepended-nil end ∙ untouched) (omega arith);
}

-- ---- how many bytes were used

pub counted_start : (left : Option (List ℕ)) → Counted left left 0
counted_start left = record {
  goes_on = λ all told. record {
    front = [];
    rest = all;
    told = told;
    whole = refl;
    size = refl;
    passed = [];
    no_quit = refl;
    ended = λ some more. refl;
  };
}

more_ended : (front line more : List ℕ) (passed : List (List ℕ)) → HasNoEnd line →
    ((more : List ℕ) → ended_lines (front ++ more) ≡ passed ++ ended_lines more) → ended_lines ((front ++ (line ++ 10 ∷ [])) ++ more) ≡ passed
    ++ (line ∷ ended_lines more)
more_ended front line more passed plain ended =
    ap ended_lines (append_assoc front (line ++ 10 ∷ []) more ∙ ap (λ t. front ++ t) (append_assoc line (10 ∷ []) more))
    ∙ ended (line ++ (10 ∷ more))
    ∙ ap (λ t. passed ++ t) (ended-line line more plain)

pub counted_line : (before left next : Option (List ℕ)) (line : List ℕ) (size used used2 : ℕ) → Counted before left used → IsFirst line size left next →
    is_quit line ≡ false → used2 ≡ used + size → Counted before next used2
counted_line before left next line size used used2 c first goes e = record {
  goes_on = λ all told.
      let u = c.goes_on all told in
      elim first.ends [
        | inl f ↦
            let now = left_now next (line ++ 10 ∷ []) u.rest (sym u.told ∙ f.1) in
            record {
              front = u.front ++ (line ++ 10 ∷ []);
              rest = now.0;
              told = now.1;
              whole = u.whole ∙ ap (λ t. u.front ++ t) now.2 ∙ sym (append_assoc u.front (line ++ 10 ∷ []) now.0);
              size = omega (arith, u.size, e, f.0, length-append u.front (line ++ 10 ∷ []), length-append line (10 ∷ []));
              passed = u.passed ++ line ∷ [];
              no_quit = list_any-append is_quit u.passed (line ∷ []) ∙ ap (λ b. b || (is_quit line || false)) u.no_quit ∙ ap (λ b. b || false) goes;
              ended = λ some more. more_ended u.front line more u.passed first.plain (u.ended (some_left line now.0 u.rest now.2)) ∙ sym (append_assoc u.passed (line ∷ []) (ended_lines more));
            }
        | inr f ↦
            let now = left_now next line u.rest (sym u.told ∙ f.2) in
            let none : now.0 ≡ [] = nothing next now.0 now.1 f.3 in
            record {
              front = u.front ++ line;
              rest = now.0;
              told = now.1;
              whole = u.whole ∙ ap (λ t. u.front ++ t) now.2 ∙ sym (append_assoc u.front line now.0);
              size = omega (arith, u.size, e, f.0, length-append u.front line);
              passed = u.passed;
              no_quit = u.no_quit;
              ended = λ some more. absurd (omega (arith, some, ap length none));
            }
      ];
}

quit_ends : (front line more : List ℕ) (passed : List (List ℕ)) → HasNoEnd line → is_quit line ≡ true →
    ((more : List ℕ) → ended_lines (front ++ more) ≡ passed ++ ended_lines more) → list_any is_quit (ended_lines ((front ++ (line ++ 10 ∷ [])) ++ more)) ≡ true
quit_ends front line more passed plain quits ended =
    ap (list_any is_quit) (more_ended front line more passed plain ended) ∙ list_any-append is_quit passed (line ∷ ended_lines more)
    ∙ or_right _ _ (or_left _ _ quits)

take_front : (n : ℕ) (front rest : List ℕ) → length front ≤ n → take n (front ++ rest) ≡ front ++ take (n - length front) rest
take_front n front rest le =
    let e : n ≡ length front + (n - length front) = omega (arith, le) in
    ap (λ k. take k (front ++ rest)) e ∙ take-append-add front rest (n - length front)

-- the input is too long: a line runs on past the limit
pub counted_past : (before left next : Option (List ℕ)) (size used : ℕ) → Counted before left used → RunsOn size left next → used + size ≡ input_limit →
    (all : List ℕ) → before ≡ Some all → is_too_much input_limit all ≡ true
unfolding is_too_much has_quit
counted_past before left next size used c runs full all told =
    let u = c.goes_on all told in
    let now = left_now next (runs.front ++ runs.byte ∷ []) u.rest (sym u.told ∙ runs.taken) in
    let within = u.front ++ runs.front in
    let tail = runs.byte ∷ now.0 in
    let long : length within ≡ input_limit = omega (arith, length-append u.front runs.front, u.size, runs.count, full) in
    let split : all ≡ within ++ tail =
    u.whole ∙ ap (λ t. u.front ++ t) (now.2 ∙ append_assoc runs.front (runs.byte ∷ []) now.0) ∙ sym (append_assoc u.front runs.front tail) in
    let first : take input_limit all ≡ within =
    ap (take input_limit) split ∙ take-append-le input_limit within tail (omega (arith, long)) ∙ ap (λ n. take n within) (sym long) ∙ take-length within in
    let some : 0 < length u.rest = omega (arith, ap length now.2, length-append (runs.front ++ runs.byte ∷ []) now.0, length-append runs.front (runs.byte ∷ [])) in
    let none : list_any is_quit (ended_lines (take input_limit all)) ≡ false =
    ap (λ bytes. list_any is_quit (ended_lines bytes)) first
    ∙ ap (list_any is_quit) (u.ended some runs.front ∙ ap (λ t. u.passed ++ t) (ended-none runs.front runs.plain) ∙ append-nil u.passed) ∙ u.no_quit in
    and_from _ _ (lt-ltb input_limit (length all) (omega (arith, ap length split, length-append within tail, long))) (ap not none)

-- it is not: all of it was used
pub counted_all : (before left : Option (List ℕ)) (used : ℕ) → Counted before left used → IsAtEnd left → used ≤ input_limit → (all : List ℕ) → before ≡ Some all → is_too_much input_limit all ≡ false
unfolding is_too_much
counted_all before left used c end within all told =
    let u = c.goes_on all told in
    let none = nothing left u.rest u.told end in
    and_left _ _ (le-ltb input_limit (length all) (omega (arith, ap length u.whole, length-append u.front u.rest, ap length none, u.size, within)))

-- it is not: a line that ends the session ended
pub counted_quit : (before left next : Option (List ℕ)) (line : List ℕ) (size used used2 : ℕ) → Counted before left used → IsFirst line size left next →
    is_quit line ≡ true → used2 ≡ used + size → used2 ≤ input_limit → (all : List ℕ) → before ≡ Some all → is_too_much input_limit all ≡ false
unfolding is_too_much has_quit
counted_quit before left next line size used used2 c first quits e within all told =
    let u = c.goes_on all told in
    elim first.ends [
      | inl f ↦
          let now = left_now next (line ++ 10 ∷ []) u.rest (sym u.told ∙ f.1) in
          let front = u.front ++ (line ++ 10 ∷ []) in
          let split : all ≡ front ++ now.0 = u.whole ∙ ap (λ t. u.front ++ t) now.2 ∙ sym (append_assoc u.front (line ++ 10 ∷ []) now.0) in
          let size_is : length front ≤ input_limit = omega (arith, u.size, e, f.0, within, length-append u.front (line ++ 10 ∷ []), length-append line (10 ∷ [])) in
          let more = take (input_limit - length front) now.0 in
          let some : list_any is_quit (ended_lines (take input_limit all)) ≡ true =
          ap (λ bytes. list_any is_quit (ended_lines bytes)) (ap (take input_limit) split ∙ take_front input_limit front now.0 size_is)
          ∙ quit_ends u.front line more u.passed first.plain quits (u.ended (some_left line now.0 u.rest now.2)) in
          and_right _ _ (ap not some)
      | inr f ↦
          let now = left_now next line u.rest (sym u.told ∙ f.2) in
          let none : now.0 ≡ [] = nothing next now.0 now.1 f.3 in
          and_left _ _
          (le-ltb input_limit (length all) (omega (
            arith,
            ap length u.whole,
            length-append u.front u.rest,
            ap length now.2,
            length-append line now.0,
            ap length none,
            u.size,
            e,
            f.0,
            within,
          )))
    ]

-- ---- how much of the input was read

pub left_at_end : (before input : Option (List ℕ)) (held : List ℕ) (used : ℕ) → Counted before (prepended held input) used → IsAtEnd (prepended held input) →
    (all : List ℕ) → before ≡ Some all → LeftEnough all input
left_at_end before input held used c end all told =
    let u = c.goes_on all told in
    let none = nothing (prepended held input) u.rest u.told end in
    let now = left_now input held u.rest (sym u.told) in
    let gone : now.0 ≡ [] = empty now.0 (omega (arith, ap length now.2, length-append held now.0, ap length none)) in
    (now.0, now.1, record { taken = all; whole = sym (append-nil all) ∙ ap (λ r. all ++ r) (sym gone); enough = inl gone })

pub left_at_quit : (before left input : Option (List ℕ)) (held line : List ℕ) (size used : ℕ) → Counted before left used →
    IsFirst line size left (prepended held input) → is_quit line ≡ true → (all : List ℕ) → before ≡ Some all → LeftEnough all input
unfolding has_quit
left_at_quit before left input held line size used c first quits all told =
    let u = c.goes_on all told in
    elim first.ends [
      | inl f ↦
          let now = left_now (prepended held input) (line ++ 10 ∷ []) u.rest (sym u.told ∙ f.1) in
          let ahead = left_now input held now.0 (sym now.1) in
          let front = u.front ++ (line ++ 10 ∷ []) in (
            ahead.0,
            ahead.1,
            record {
              taken = front ++ held;
              whole = u.whole ∙ ap (λ t. u.front ++ t) (now.2 ∙ ap (λ t. (line ++ 10 ∷ []) ++ t) ahead.2)
                  ∙ sym (append_assoc u.front (line ++ 10 ∷ []) (held ++ ahead.0)) ∙ sym (append_assoc front held ahead.0);
              enough = inr (quit_ends u.front line held u.passed first.plain quits (u.ended (some_left line now.0 u.rest now.2)));
            },
          )
      | inr f ↦
          let now = left_now (prepended held input) line u.rest (sym u.told ∙ f.2) in
          let none : now.0 ≡ [] = nothing (prepended held input) now.0 now.1 f.3 in
          let ahead = left_now input held now.0 (sym now.1) in
          let gone : ahead.0 ≡ [] = empty ahead.0 (omega (arith, ap length ahead.2, length-append held ahead.0, ap length none)) in
          (ahead.0, ahead.1, record { taken = all; whole = sym (append-nil all) ∙ ap (λ r. all ++ r) (sym gone); enough = inl gone })
    ]

-- ---- whether a line ends the session

pub long_stays : (line : List ℕ) → 1024 < length line → is_quit line ≡ false
long_stays line long = ends_long first_settings line long

pub quit_is : (now : Settings) (line cut : List ℕ) (b : Bool) → length line ≤ 1024 → cut ≡ without_return line → b ≡ stops (command cut now) → is_quit line ≡ b
quit_is now line cut b short cut_is e = sym (ends_always now line) ∙ ends_short now line short ∙ ap (λ l. stops (command l now)) (sym cut_is) ∙ sym e

pub cut_short : (line cut : List ℕ) → cut ≡ without_return line → length line ≤ 1024 → length cut ≤ 1024
cut_short line cut e short = omega (arith, ap length e, shorter line, short)
  where
    one : (b : ℕ) → length (without_return (b ∷ [])) ≤ 1
    one b = cond_both (b == 13) [] (b ∷ []) (λ l. length l ≤ 1) (λ _. omega arith) (λ _. omega arith)

    shorter : (line : List ℕ) → length (without_return line) ≤ length line
    shorter [] = omega arith
    shorter (b ∷ []) = one b
    shorter (b ∷ c ∷ line) = omega (arith, shorter (c ∷ line))
