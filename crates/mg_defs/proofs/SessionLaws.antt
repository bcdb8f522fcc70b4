-- Laws of a session: one line after another.
use Rattle.std.proofs.Common.{◌≡◌, ℕ, ◌<◌, ◌≤◌, true, false, List, [], ◌∷◌, ◌++◌, length}
use Rattle.std.proofs.lemmas.Bool.{lt-ltb, le-ltb}
use Rattle.mg_defs.specs.Lines.{without_return}
use Rattle.mg_defs.specs.Commands.{command_text, settings_after, stops}
use Rattle.mg_defs.specs.Session.{hears, replies, line_text, after_line, ends, read, Question, questions, asked, asked_by}
use Rattle.mg_defs.specs.declared.session.Hearing.{Hearing}
use Rattle.mg_defs.specs.Texts.{bad_command, line_too_long}
use Rattle.mg_defs.specs.declared.session.Settings.{Settings}

-- A line prints a text and asks some queries, and the session goes on with these settings.
pub record Gives (hearing : Hearing) (reply : Settings → List ℕ → List ℕ) (now : Settings) (line text : List ℕ) (asking : List Question) (after : Settings) : Type 0 where
  pub goes_on : (ls : List (List ℕ)) → replies hearing reply now (line ∷ ls) ≡ text ++ replies hearing reply after ls
  pub asks : (ls : List (List ℕ)) → questions hearing now (line ∷ ls) ≡ asking ++ questions hearing after ls

pub gives_long : (hearing : Hearing) (reply : Settings → List ℕ → List ℕ) (now : Settings) (line : List ℕ) → 1024 < length line → Gives hearing reply now line line_too_long [] now
unfolding replies line_text after_line ends questions asked
gives_long hearing reply now line long = record {
  goes_on = λ ls. rw (lt-ltb 1024 (length line) long);
  asks = λ ls. rw (lt-ltb 1024 (length line) long);
}

pub gives_line : (hearing : Hearing) (reply : Settings → List ℕ → List ℕ) (now : Settings) (line : List ℕ) → length line ≤ 1024 →
    stops (read now line) ≡ false → Gives hearing reply now line (command_text reply bad_command now (without_return line) (hears hearing (read now line)))
    (asked_by now (without_return line) (hears hearing (read now line))) (settings_after now (hears hearing (read now line)))
unfolding replies line_text after_line ends questions asked
gives_line hearing reply now line short goes = record {
  goes_on = λ ls. rw (le-ltb 1024 (length line) short, goes);
  asks = λ ls. rw (le-ltb 1024 (length line) short, goes);
}

pub gives_end : (hearing : Hearing) (reply : Settings → List ℕ → List ℕ) (now : Settings) (line : List ℕ) (ls : List (List ℕ)) → length line ≤ 1024 →
    stops (read now line) ≡ true → (replies hearing reply now (line ∷ ls) ≡ []) × (questions hearing now (line ∷ ls) ≡ [])
unfolding replies line_text after_line ends questions asked
gives_end hearing reply now line ls short stop = (rw (le-ltb 1024 (length line) short, stop), rw (le-ltb 1024 (length line) short, stop))

-- whether the line ends the session
pub ends_long : (now : Settings) (line : List ℕ) → 1024 < length line → ends now line ≡ false
unfolding ends
ends_long now line long = rw (lt-ltb 1024 (length line) long)

pub ends_short : (now : Settings) (line : List ℕ) → length line ≤ 1024 → ends now line ≡ stops (read now line)
unfolding ends
ends_short now line short = rw (le-ltb 1024 (length line) short)
