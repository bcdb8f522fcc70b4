-- Laws of fronts of lists of bits, and of what a reader of a code answers.
use Rattle.std.proofs.Common.{arith, ◌≡◌, ◌+◌, ◌≤◌, ◌<◌, ℕ, List, [], ◌∷◌, ◌++◌, length, take, drop, Option, Some, None, refl, sym, ap, ◌⊎◌, inl, inr}
use Rattle.std.proofs.lemmas.List.{drop-drop}
use Rattle.mg_defs.specs.Bits.{Bits, Begins, Shows}
use Rattle.mg_defs.specs.Answers.{Answer, value, end, over, Answers, CutShort, Ends, IsNone, IsPrefixFree}

pub begins_self : (a : Bits) → Begins a a
begins_self [] = refl
begins_self (x ∷ a) = ap (λ l. x ∷ l) (begins_self a)

pub begins_append : (a b : Bits) → Begins a (a ++ b)
begins_append [] b = refl
begins_append (x ∷ a) b = ap (λ l. x ∷ l) (begins_append a b)

pub begins_length : (a s : Bits) → Begins a s → length a ≤ length s
begins_length [] s h = omega arith
begins_length (x ∷ a) [] h = absurd cc
begins_length (x ∷ a) (y ∷ s) h = omega (arith, begins_length a s (let e : take (length a) s ≡ a = cc in e))

pub begins_through : (a b s : Bits) → Begins a b → Begins b s → Begins a s
begins_through [] b s one two = refl
begins_through (x ∷ a) [] s one two = absurd cc
begins_through (x ∷ a) (y ∷ b) [] one two = absurd cc
begins_through (x ∷ a) (y ∷ b) (z ∷ s) one two =
    let xy : y ≡ x = cc in
    let yz : z ≡ y = cc in
    let tail : take (length a) s ≡ a = begins_through a b s (let e : take (length a) b ≡ a = cc in e) (let e : take (length b) s ≡ b = cc in e) in
    cc

-- what stands first is followed by what is left
pub begins_rest : (a s : Bits) → Begins a s → s ≡ a ++ drop (length a) s
begins_rest [] s h = refl
begins_rest (x ∷ a) [] h = absurd cc
begins_rest (x ∷ a) (y ∷ s) h =
    let xy : y ≡ x = cc in
    let tail : s ≡ a ++ drop (length a) s = begins_rest a s (let e : take (length a) s ≡ a = cc in e) in
    cc

-- two parts, one after the other
pub begins_both : (a b s : Bits) → Begins a s → Begins b (drop (length a) s) → Begins (a ++ b) s
begins_both [] b s one two = two
begins_both (x ∷ a) b [] one two = absurd cc
begins_both (x ∷ a) b (y ∷ s) one two =
    let head : y ≡ x = cc in
    let tail : take (length a) s ≡ a = cc in
    let rest : take (length (a ++ b)) s ≡ a ++ b = begins_both a b s tail two in
    cc

pub begins_first : (a b s : Bits) → Begins (a ++ b) s → Begins a s
begins_first a b s h = begins_through a (a ++ b) s (begins_append a b) h

pub begins_second : (a b s : Bits) → Begins (a ++ b) s → Begins b (drop (length a) s)
begins_second [] b s h = h
begins_second (x ∷ a) b [] h = absurd cc
begins_second (x ∷ a) b (y ∷ s) h = begins_second a b s (let e : take (length (a ++ b)) s ≡ a ++ b = cc in e)

-- bits that stand at a place of told bytes, in two parts
pub shows_left : (told : Option (List ℕ)) (place : ℕ) (a b : Bits) → Shows told place (a ++ b) → Shows told place a
shows_left None place a b h = h
shows_left (Some bytes) place a b h = begins_first a b _ h

pub shows_right : (told : Option (List ℕ)) (place next : ℕ) (a b : Bits) → next ≡ place + length a → Shows told place (a ++ b) → Shows told next b
shows_right None place next a b e h = h
shows_right (Some bytes) place next a b e h = rw e (rw drop-drop at (begins_second a b _ h))

-- parts before and behind
pub begins_behind : (a b c : Bits) → Begins b c → Begins (a ++ b) (a ++ c)
begins_behind [] b c h = h
begins_behind (x ∷ a) b c h = ap (λ l. x ∷ l) (begins_behind a b c h)

pub begins_ahead : (a b c : Bits) → Begins (a ++ b) (a ++ c) → Begins b c
begins_ahead [] b c h = h
begins_ahead (x ∷ a) b c h = begins_ahead a b c (let e : take (length (a ++ b)) (a ++ c) ≡ a ++ b = cc in e)

-- of two fronts of one list, the shorter is a front of the longer
pub shorter_first : (a b s : Bits) → Begins a s → Begins b s → length a ≤ length b → Begins a b
shorter_first [] b s one two le = refl
shorter_first (x ∷ a) [] s one two le = absurd (omega arith)
shorter_first (x ∷ a) (y ∷ b) [] one two le = absurd cc
shorter_first (x ∷ a) (y ∷ b) (z ∷ s) one two le =
    let xy : y ≡ x = cc in
    let tail : take (length a) b ≡ a =
    shorter_first a b s (let e : take (length a) s ≡ a = cc in e) (let e : take (length b) s ≡ b = cc in e) (omega arith) in
    cc

pub begins_whole : (p q : Bits) → Begins p q → length q ≤ length p → p ≡ q
begins_whole [] [] h le = refl
begins_whole [] (y ∷ q) h le = absurd (omega arith)
begins_whole (x ∷ p) [] h le = absurd cc
begins_whole (x ∷ p) (y ∷ q) h le =
    let e : y ≡ x = cc in
    let t : p ≡ q = begins_whole p q (let r : take (length p) q ≡ p = cc in r) (omega arith) in
    cc

pub in_order : (a b : ℕ) → (a ≤ b) ⊎ (b < a)
in_order a b = grind arith

-- ---- codes none of which is a proper front of another

-- two codes that stand first are one
pub one_stands : (within : ℕ → Type 0) (code : ℕ → Bits) (s : Bits) (x y : ℕ) → IsPrefixFree within code → within x → within y → Begins (code x) s → Begins (code y) s → x ≡ y
one_stands within code s x y free tx ty bx by =
    elim (in_order (length (code x)) (length (code y))) [
      | inl le ↦ free.one x y tx ty (shorter_first (code x) (code y) s bx by le)
      | inr lt ↦ sym (free.one y x ty tx (shorter_first (code y) (code x) s by bx (omega (arith, lt))))
    ]

-- where the bits end within a code, no code stands first
pub ends : (within : ℕ → Type 0) (code : ℕ → Bits) (s : Bits) → IsPrefixFree within code → CutShort within code s → Ends within code s
ends within code s free cut = record {
  none = λ x taken begins.
      let same : x ≡ cut.value = free.one x cut.value taken cut.taken (begins_through (code x) s (code cut.value) begins cut.agrees) in
      let le : length (code x) ≤ length s = begins_length (code x) s begins in
      omega (arith, le, cut.short, ap (λ v. length (code v)) same);
  cut = cut;
}

-- the answer is one
pub one_answer : (within : ℕ → Type 0) (code : ℕ → Bits) (s : Bits) (a b : Answer) → IsPrefixFree within code → Answers within code s a → Answers within code s b → a ≡ b
one_answer within code s (value x) (value y) free a b = ap value (one_stands within code s x y free a.0 b.0 a.1 b.1)
one_answer within code s (value x) end free a b = absurd (b.none x a.0 a.1)
one_answer within code s (value x) over free a b = absurd (b.begins x a.0 a.1)
one_answer within code s end (value y) free a b = absurd (a.none y b.0 b.1)
one_answer within code s end end free a b = refl
one_answer within code s end over free a b = absurd (b.cut a.cut.value a.cut.taken a.cut.agrees)
one_answer within code s over (value y) free a b = absurd (a.begins y b.0 b.1)
one_answer within code s over end free a b = absurd (a.cut b.cut.value b.cut.taken b.cut.agrees)
one_answer within code s over over free a b = refl

-- What has no code behind it has none wherever it stands first.
pub none_more : (within : ℕ → Type 0) (code : ℕ → Bits) (w s : Bits) → IsNone within code w → Begins w s → IsNone within code s
none_more within code w s none stands = record {
  begins = λ x taken begins.
      elim (in_order (length (code x)) (length w)) [
        | inl le ↦ none.begins x taken (shorter_first (code x) w s begins stands le)
        | inr lt ↦ none.cut x taken (shorter_first w (code x) s stands begins (omega (arith, lt)))
      ];
  cut = λ x taken cut. none.cut x taken (begins_through w s (code x) stands cut);
}

-- Where a code goes on from what was read, one that stands first is longer.
pub open_longer : (within : ℕ → Type 0) (code : ℕ → Bits) (w s : Bits) (x : ℕ) → IsPrefixFree within code →
    CutShort within code w → Begins w s → within x → Begins (code x) s → length w < length (code x)
open_longer within code w s x free cut stands taken begins =
    elim (in_order (length (code x)) (length w)) [
      | inl le ↦ absurd ((ends within code w free cut).none x taken (shorter_first (code x) w s begins stands le))
      | inr lt ↦ lt
    ]

-- the bits that were read are all
pub all_read : (w s : Bits) → Begins w s → drop (length w) s ≡ [] → s ≡ w
all_read [] [] stands none = refl
all_read [] (y ∷ s) stands none = absurd cc
all_read (x ∷ w) [] stands none = absurd cc
all_read (x ∷ w) (y ∷ s) stands none =
    let e : y ≡ x = cc in
    let tail : s ≡ w = all_read w s (let t : take (length w) s ≡ w = cc in t) none in
    cc
