-- The query that is read from one token after another is the one that the list reads as.
use Rattle.std.proofs.Common.{◌≡◌, List, [], ◌∷◌, ◌++◌, suc, Some, None, refl, ◌∙◌, ap}
use Rattle.std.specs.declared.option.Option.{Option}
use Rattle.mg_defs.specs.Grammar.{Level, or_level, and_level, not_level, Derives, either_of, only_and, both_of, both_with, only_not, not_of, inside, one_word, ReadsAs}
use Rattle.mg_defs.specs.Sat.{Query, either}
use Rattle.mg_defs.specs.Tokens.{Token, bar, amp, closing}
use Rattle.mg_defs.specs.Read.{Frame, nothing, with_operand, or_of, frames, after, whole, query_of}

-- the left side of an or, and in the second the left side of an and too
abbrev at_or : Option Query → Frame
at_or left = record { or_left = left; and_left = None; nots = 0 }

abbrev in_and : Option Query → Query → Frame
in_and left q = record { or_left = left; and_left = Some q; nots = 0 }

abbrev Does : Level → List Token → Query → Type 0
Does not_level ts q = (f : Frame) (outer : List Frame) → frames (f ∷ outer) ts ≡ with_operand f q ∷ outer
Does and_level ts q = (left : Option Query) (outer : List Frame) → frames (at_or left ∷ outer) ts ≡ in_and left q ∷ outer
Does or_level ts q = (outer : List Frame) → (left : Option Query) × (p : Query) × (frames (nothing ∷ outer) ts ≡ in_and left p ∷ outer) × (or_of left p ≡ q)

frames-append : (fs : List Frame) (a b : List Token) → frames fs (a ++ b) ≡ frames (frames fs a) b
frames-append fs [] b = refl
frames-append fs (t ∷ a) b = frames-append (after fs t) a b

does : {l : Level} {ts : List Token} {q : Query} → Derives l ts q → Does l ts q
does (either_of {a = a} {b = b} {p = p} {q = q} da db e) = λ outer.
    let left = does da outer in
    let right = does db (Some (or_of left.0 left.1)) outer in (
      Some (or_of left.0 left.1),
      q,
      ap (frames (nothing ∷ outer)) e ∙ frames-append (nothing ∷ outer) a (bar ∷ b) ∙ ap (λ fs. frames fs (bar ∷ b)) left.2 ∙ right,
      ap (λ r. either r q) left.3,
    )
does (only_and {q = q} d) = λ outer. (None, q, does d None outer, refl)
does (both_of {a = a} {b = b} {p = p} da db e) = λ left outer.
    ap (frames (at_or left ∷ outer)) e ∙ frames-append (at_or left ∷ outer) a b ∙ ap (λ fs. frames fs b) (does da left outer) ∙ does db (in_and left p) outer
does (both_with {a = a} {b = b} {p = p} da db e) = λ left outer.
    ap (frames (at_or left ∷ outer)) e ∙ frames-append (at_or left ∷ outer) a (amp ∷ b) ∙ ap (λ fs. frames fs (amp ∷ b)) (does da left outer) ∙ does db (in_and left p) outer
does (only_not d) = λ left outer. does d (at_or left) outer
does (not_of d) = λ f outer. does d (record f { nots = suc f.nots }) outer
does (inside {a = a} da e) = λ f outer.
    let inner = does da (f ∷ outer) in
    ap (frames (f ∷ outer)) e ∙ frames-append (nothing ∷ f ∷ outer) a (closing ∷ []) ∙ ap (λ fs. frames fs (closing ∷ [])) inner.2 ∙ ap (λ r. with_operand f r ∷ outer) inner.3
does one_word = λ f outer. refl

pub query_is : (ts : List Token) (q : Query) → ReadsAs ts q → query_of ts ≡ Some q
unfolding query_of
query_is ts q h = let d = does h [] in ap whole d.2 ∙ ap Some d.3
