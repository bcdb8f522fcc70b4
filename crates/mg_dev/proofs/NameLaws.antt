-- The name of a part, Plain aside, is that of no other part and no other base.
use Rattle.std.proofs.Common.{◌≡◌, ◌≢◌, ℕ, Bool, true, false, not, ◌==◌, if◌then◌else◌, List, [], ◌∷◌, ◌++◌, drop, refl, sym, ◌∙◌, ap, inl, inr, append_assoc, append-nil}
use Rattle.std.specs.List.{list_all}
use Rattle.std.proofs.lemmas.Bool.{cases_Bool, and_parts, false≢true}
use Rattle.std.proofs.lemmas.List.{append_cancel_right}
use Rattle.mg_dev.specs.declared.part.Part.{Part}
use Rattle.mg_dev.specs.declared.part.Part.TheVariants.{Head, Words, Nonwords, Text, Places, Lex, LexAt, Post, Skip, Weights, Run, MergeA, MergeB, Plain}
use Rattle.mg_dev.specs.Names.{full_name, ending}
use Rattle.mg_dev.specs.Laws.{same_part_of_name}

-- what stands behind the last full stop
abbrev behind : List ℕ → List ℕ → List ℕ
behind so_far [] = so_far
behind so_far (b ∷ bytes) = if b == 46 then behind [] bytes else behind (so_far ++ b ∷ []) bytes

abbrev has_none : List ℕ → Bool
has_none bytes = list_all (λ b. not (b == 46)) bytes

not_dot : (b : ℕ) → not (b == 46) ≡ true → (b == 46) ≡ false
not_dot b h = elim (cases_Bool (b == 46)) [ inl is ↦ absurd (false≢true (rw is at h)) | inr isnt ↦ isnt ]

behind_none : (so_far bytes : List ℕ) → has_none bytes ≡ true → behind so_far bytes ≡ so_far ++ bytes
behind_none so_far [] h = sym (append-nil so_far)
behind_none so_far (b ∷ bytes) h =
    let parts = and_parts (not (b == 46)) (has_none bytes) h in
    rw (not_dot b parts.0) (behind_none (so_far ++ b ∷ []) bytes parts.1 ∙ append_assoc so_far (b ∷ []) bytes)

behind_last : (so_far base bytes : List ℕ) → has_none bytes ≡ true → behind so_far (base ++ (46 ∷ bytes)) ≡ bytes
behind_last so_far [] bytes h = behind_none [] bytes h
behind_last so_far (b ∷ base) bytes h = elim (cases_Bool (b == 46)) [ inl is ↦ rw is (behind_last [] base bytes h) | inr isnt ↦ rw isnt (behind_last (so_far ++ b ∷ []) base bytes h) ]

record HasStop (p : Part) : Type 0 where
  whole : ending p ≡ 46 ∷ drop 1 (ending p)
  none : has_none (drop 1 (ending p)) ≡ true

has_stop : (p : Part) → p ≢ Plain → HasStop p
has_stop Head h = record { whole = refl; none = refl }
has_stop Words h = record { whole = refl; none = refl }
has_stop Nonwords h = record { whole = refl; none = refl }
has_stop Text h = record { whole = refl; none = refl }
has_stop Places h = record { whole = refl; none = refl }
has_stop Lex h = record { whole = refl; none = refl }
has_stop LexAt h = record { whole = refl; none = refl }
has_stop Post h = record { whole = refl; none = refl }
has_stop Skip h = record { whole = refl; none = refl }
has_stop Weights h = record { whole = refl; none = refl }
has_stop Run h = record { whole = refl; none = refl }
has_stop MergeA h = record { whole = refl; none = refl }
has_stop MergeB h = record { whole = refl; none = refl }
has_stop Plain h = absurd (h refl)

last_of : (base : List ℕ) (p : Part) → p ≢ Plain → behind [] (full_name base p) ≡ drop 1 (ending p)
unfolding full_name
last_of base p h =
    let s = has_stop p h in
    ap (λ (e : List ℕ). behind [] (base ++ e)) s.whole ∙ behind_last [] base (drop 1 (ending p)) s.none

pub one_base : (a b : List ℕ) (p q : Part) → p ≢ Plain → q ≢ Plain → full_name a p ≡ full_name b q → (a ≡ b) × (p ≡ q)
unfolding full_name
one_base a b p q h k e =
    let rest : drop 1 (ending p) ≡ drop 1 (ending q) = sym (last_of a p h) ∙ (ap (behind []) e ∙ last_of b q k) in
    let endings : ending p ≡ ending q = (has_stop p h).whole ∙ (ap (λ (x : List ℕ). 46 ∷ x) rest ∙ sym (has_stop q k).whole) in
    let part : p ≡ q = same_part_of_name [] p q endings in
    (append_cancel_right a b (ending q) (ap (λ (x : List ℕ). a ++ x) (sym endings) ∙ e), part)
