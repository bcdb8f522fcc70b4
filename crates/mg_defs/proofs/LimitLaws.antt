-- Laws of how much of an input a session reads.
use Rattle.std.proofs.Common.{◌≡◌, ℕ, suc, ◌+◌, Bool, true, false, ◌==◌, List, [], ◌∷◌, ◌++◌, take, refl, sym, ◌∙◌, ap, one-add, zero-add, append-nil, ◌≢◌, cond}
use Rattle.std.specs.Prelude.{if◌then◌else◌, count_by, codes}
use Rattle.std.proofs.lemmas.Bool.{ne_eqb}
use Rattle.std.proofs.lemmas.List.Sums.{sum_by-cons}
use Rattle.mg_defs.specs.Terms.{same_term}
use Rattle.mg_defs.specs.Lines.{lines, HasNoEnd, without_return}
use Rattle.mg_defs.specs.Commands.{first_settings, command, dot_of, set_of, set_query, set_mode, set_most, is_most, words, begins_with_stop, stops}
use Rattle.mg_defs.specs.Session.{ends, is_long}
use Rattle.mg_defs.specs.InputLimit.{ended_lines, is_quit}
use Rattle.mg_defs.specs.declared.session.Settings.{Settings}
use Rattle.mg_defs.specs.declared.session.Command.{Command}
use Rattle.mg_defs.proofs.LinesLaws.{lines-closed}

-- ---- whether a line ends the session

one_of : (b : Bool) (x y : Command) → stops x ≡ false → stops y ≡ false → stops (if b then x else y) ≡ false
one_of true x y hx hy = hx
one_of false x y hx hy = hy

query_goes : (word : List ℕ) (now : Settings) → stops (set_query word now) ≡ false
unfolding set_query
query_goes word now = one_of (same_term word (codes "boolean")) _ _ refl (one_of (same_term word (codes "ranked")) _ _ refl refl)

mode_goes : (word : List ℕ) (now : Settings) → stops (set_mode word now) ≡ false
unfolding set_mode
mode_goes word now = one_of (same_term word (codes "docnums")) _ _ refl (one_of (same_term word (codes "text")) _ _ refl (one_of (same_term word (codes "count")) _ _ refl refl))

most_goes : (word : List ℕ) (now : Settings) → stops (set_most word now) ≡ false
unfolding set_most
most_goes word now = one_of (same_term word (codes "all")) _ _ refl (one_of (is_most word) _ _ refl refl)

set_goes : (name word : List ℕ) (now : Settings) → stops (set_of name word now) ≡ false
unfolding set_of
set_goes name word now =
    one_of (same_term name (codes "query")) _ _ (query_goes word now)
    (one_of (same_term name (codes "mode")) _ _ (mode_goes word now)
    (one_of (same_term name (codes "maxdocs")) _ _ (most_goes word now) refl))

dot_same : (ws : List (List ℕ)) (a b : Settings) → stops (dot_of ws a) ≡ stops (dot_of ws b)
unfolding dot_of
dot_same [] a b = refl
dot_same (w ∷ []) a b = refl
dot_same (w ∷ name ∷ []) a b = refl
dot_same (w ∷ name ∷ v ∷ []) a b =
    one_of (same_term w (codes ".set")) _ _ (set_goes name v a) refl ∙ sym (one_of (same_term w (codes ".set")) _ _ (set_goes name v b) refl)
dot_same (w ∷ name ∷ v ∷ x ∷ ws) a b = refl

if_same : (c : Bool) (x y z : Command) → stops x ≡ stops y → stops (if c then x else z) ≡ stops (if c then y else z)
if_same true x y z h = h
if_same false x y z h = refl

command_same : (line : List ℕ) (a b : Settings) → stops (command line a) ≡ stops (command line b)
unfolding command
command_same line a b = if_same (begins_with_stop line) _ _ _ (dot_same (words line) a b)

pub ends_always : (now : Settings) (line : List ℕ) → ends now line ≡ is_quit line
unfolding ends
ends_always now line = if_else (is_long line) (command_same (without_return line) now first_settings)
  where
    if_else : (b : Bool) {x y : Bool} → x ≡ y → (if b then false else x) ≡ (if b then false else y)
    if_else true h = refl
    if_else false h = h

-- ---- the lines that have their end

abbrev ends_in : List ℕ → ℕ
ends_in bytes = count_by (λ b. b == 10) bytes

other_byte : (b : ℕ) (rest : List ℕ) → b ≢ 10 → ends_in (b ∷ rest) ≡ ends_in rest
other_byte b rest ne = sum_by-cons (λ x. cond (x == 10) 1 0) b rest ∙ ap (λ t. cond t 1 0 + ends_in rest) (ne_eqb b 10 ne) ∙ zero-add (ends_in rest)

end_byte : (rest : List ℕ) → ends_in (10 ∷ rest) ≡ suc (ends_in rest)
end_byte rest = sum_by-cons (λ x. cond (x == 10) 1 0) 10 rest ∙ one-add (ends_in rest)

no_ends : (line rest : List ℕ) → HasNoEnd line → ends_in (line ++ rest) ≡ ends_in rest
no_ends [] rest h = refl
no_ends (b ∷ line) rest h = other_byte b (line ++ rest) h.0 ∙ no_ends line rest h.1

pub ended-line : (line rest : List ℕ) → HasNoEnd line → ended_lines (line ++ (10 ∷ rest)) ≡ line ∷ ended_lines rest
unfolding ended_lines
ended-line line rest h =
    ap (λ ls. take (ends_in (line ++ (10 ∷ rest))) ls) (lines-closed line rest h)
    ∙ ap (λ n. take n (line ∷ lines rest)) (no_ends line (10 ∷ rest) h ∙ end_byte rest)

pub ended-none : (line : List ℕ) → HasNoEnd line → ended_lines line ≡ []
unfolding ended_lines
ended-none line h = ap (λ n. take n (lines line)) (ap ends_in (sym (append-nil line)) ∙ no_ends line [] h)
