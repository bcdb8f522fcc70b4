-- Terms one after another in one list of bytes.
use Rattle.std.proofs.Common.{◌≡◌, ℕ, zero, suc, ◌+◌, ◌-◌, ◌<◌, ◌≤◌, ◌==◌, false, cond, List, [], ◌∷◌, ◌++◌, length, take, drop, get_or, slice_get, Some, refl, sym, ap, subst, ◌∙◌, arith, length-append, length-take}
use Rattle.std.proofs.lemmas.Bool.Decides.{nat_tests}
use Rattle.std.proofs.lemmas.Grind.{common_steps}
use Rattle.std.proofs.lemmas.List.Sums.{sum_by-cons}
use Rattle.mg_defs.specs.Rotations.{most_rotations}
use Rattle.mg_layout.specs.declared.term_info.TermInfo.{TermInfo}
use Rattle.mg_wild.specs.Terms.{cut, total, AreEnds, AreNumbered, AreShort, IsNumbered, IsTermBlock, start_of}

part-same : (n from : ℕ) (bytes more : List ℕ) → from + n ≤ length bytes → take n (drop from (bytes ++ more)) ≡ take n (drop from bytes)
part-same n from bytes more h = grind (arith, common_steps)

behind : (bytes term : List ℕ) → take (length term) (drop (length bytes) (bytes ++ term)) ≡ term
behind bytes term = grind (arith, common_steps)

pub ends-rise : (from : ℕ) (ends : List ℕ) (to : ℕ) → AreEnds from ends to → from ≤ to
ends-rise from [] to h = omega (arith, h)
ends-rise from (end ∷ ends) to h = omega (arith, h.0, ends-rise end ends to h.1)

cut-same : (from : ℕ) (ends : List ℕ) (to : ℕ) (bytes more : List ℕ) → AreEnds from ends to → to ≤ length bytes → cut from ends (bytes ++ more) ≡ cut from ends bytes
cut-same from [] to bytes more h within = refl
cut-same from (end ∷ ends) to bytes more h within =
    let head = part-same (end - from) from bytes more (omega (arith, h.0, ends-rise end ends to h.1)) in
    let tail = cut-same end ends to bytes more h.1 within in
    λ i. head i ∷ tail i

cut-more : (from : ℕ) (ends : List ℕ) (to end : ℕ) (bytes : List ℕ) → AreEnds from ends to → cut from (ends ++ end ∷ []) bytes ≡ cut from ends bytes ++ take (end - to) (drop to bytes) ∷ []
cut-more from [] to end bytes h = ap (λ n. take (end - n) (drop n bytes) ∷ []) h
cut-more from (next ∷ ends) to end bytes h = ap (λ t. take (next - from) (drop from bytes) ∷ t) (cut-more next ends to end bytes h.1)

-- one term more
pub cut-push : (ends bytes term : List ℕ) → AreEnds 0 ends (length bytes) → cut 0 (ends ++ (length bytes + length term) ∷ []) (bytes ++ term) ≡ cut 0 ends bytes ++ term ∷ []
cut-push ends bytes term h =
    let long : length bytes + length term - length bytes ≡ length term = omega arith in
    cut-more 0 ends (length bytes) (length bytes + length term) (bytes ++ term) h
    ∙ ap (λ n. cut 0 ends (bytes ++ term) ++ take n (drop (length bytes) (bytes ++ term)) ∷ []) long
    ∙ ap (λ t. cut 0 ends (bytes ++ term) ++ t ∷ []) (behind bytes term)
    ∙ ap (λ t. t ++ term ∷ []) (cut-same 0 ends (length bytes) bytes term h (omega arith))

ends-more : (from : ℕ) (ends : List ℕ) (to n : ℕ) → AreEnds from ends to → AreEnds from (ends ++ (to + n) ∷ []) (to + n)
ends-more from [] to n h = (omega (arith, h), refl)
ends-more from (end ∷ ends) to n h = (h.0, ends-more end ends to n h.1)

short-more : (from : ℕ) (ends : List ℕ) (to n : ℕ) → AreEnds from ends to → AreShort from ends → n ≤ 255 → AreShort from (ends ++ (to + n) ∷ [])
short-more from [] to n h s le = (omega (arith, h, le), tt)
short-more from (end ∷ ends) to n h s le = (s.0, short-more end ends to n h.1 s.1 le)

pub short-at : (from : ℕ) (ends bytes : List ℕ) (number : ℕ) → AreShort from ends → length (get_or (cut from ends bytes) number []) ≤ 255
short-at from [] bytes number s = omega arith
short-at from (end ∷ ends) bytes zero s = omega (arith, s.0, length-take (end - from) (drop from bytes))
short-at from (end ∷ ends) bytes (suc number) s = short-at end ends bytes number s.1

pub numbered-more : (number : ℕ) (infos : List TermInfo) (info : TermInfo) → AreNumbered number infos → IsNumbered (number + length infos) info → AreNumbered number (infos ++ info ∷ [])
numbered-more number [] info h is = let n : number + 0 ≡ number = omega arith in (subst (λ k. IsNumbered k info) n is, tt)
numbered-more number (i ∷ infos) info h is =
    let n : number + suc (length infos) ≡ suc number + length infos = omega arith in
    (h.0, numbered-more (suc number) infos info h.1 (subst (λ k. IsNumbered k info) n is))

pub numbered-at : (number : ℕ) (infos : List TermInfo) (k : ℕ) (info : TermInfo) → AreNumbered number infos → slice_get infos k ≡ Some info → IsNumbered (number + k) info
numbered-at number [] k info h e = absurd cc
numbered-at number (i ∷ infos) zero info h e =
    let n : number ≡ number + 0 = omega arith in
    let same : i ≡ info = cc in
    subst (λ m. IsNumbered m info) n (subst (IsNumbered number) same h.0)
numbered-at number (i ∷ infos) (suc k) info h e =
    let n : suc number + k ≡ number + suc k = omega arith in
    subst (λ m. IsNumbered m info) n (numbered-at (suc number) infos k info h.1 e)

pub block-push : (ends bytes : List ℕ) (infos : List TermInfo) (term new now : List ℕ) (info : TermInfo) (more : List TermInfo) → IsTermBlock ends bytes infos →
    length bytes + length term + length ends < most_rotations → length term ≤ 255 → IsNumbered (length ends) info →
    new ≡ ends ++ (length bytes + length term) ∷ [] → now ≡ bytes ++ term → more ≡ infos ++ info ∷ [] → IsTermBlock new now more
block-push ends bytes infos term new now info more is few low at e f g =
    let long : length now ≡ length bytes + length term = ap length f ∙ length-append bytes term in
    record {
      few = omega (arith, long, ap length e, length-append ends ((length bytes + length term) ∷ []), few);
      ends_are = subst (λ n. AreEnds 0 new n) (sym long) (subst (λ t. AreEnds 0 t (length bytes + length term)) (sym e) (ends-more 0 ends (length bytes) (length term) is.ends_are));
      short = subst (AreShort 0) (sym e) (short-more 0 ends (length bytes) (length term) is.ends_are is.short low);
      each = omega (arith, is.each, ap length e, ap length g, length-append ends ((length bytes + length term) ∷ []), length-append infos (info ∷ []));
      numbered =
          let n : length ends ≡ 0 + length infos = omega (arith, is.each) in
          subst (AreNumbered 0) (sym g) (numbered-more 0 infos info is.numbered (subst (λ k. IsNumbered k info) n at));
    }

pub length-cut : (from : ℕ) (ends bytes : List ℕ) → length (cut from ends bytes) ≡ length ends
length-cut from [] bytes = refl
length-cut from (end ∷ ends) bytes = ap suc (length-cut end ends bytes)

pub total-cut : (from : ℕ) (ends : List ℕ) (to : ℕ) (bytes : List ℕ) → AreEnds from ends to → to ≤ length bytes → total (cut from ends bytes) + from ≡ to
total-cut from [] to bytes h within = omega (arith, h)
total-cut from (end ∷ ends) to bytes h within =
    let rise = ends-rise end ends to h.1 in
    let first : length (take (end - from) (drop from bytes)) ≡ end - from = grind (arith, common_steps) in
    omega (arith, h.0, first, total-cut end ends to bytes h.1 within, sum_by-cons (λ (t : List ℕ). length t) (take (end - from) (drop from bytes)) (cut end ends bytes))

-- where a term begins and ends
abbrev start_from : ℕ → List ℕ → ℕ → ℕ
start_from from ends zero = from
start_from from ends (suc number) = get_or ends number 0

start-is : (ends : List ℕ) (number : ℕ) → start_from 0 ends number ≡ start_of ends number
start-is ends zero = refl
start-is ends (suc number) =
    let n : suc number - 1 ≡ number = omega arith in
    let some : (suc number == 0) ≡ false = grind (arith, nat_tests) in
    ap (λ m. get_or ends m 0) (sym n) ∙ ap (λ b. cond b 0 (get_or ends (suc number - 1) 0)) (sym some)

rises-at : (from : ℕ) (ends : List ℕ) (to number : ℕ) → AreEnds from ends to → number < length ends → (start_from from ends number ≤ get_or ends number 0) × (get_or ends number 0 ≤ to)
rises-at from [] to number h l = absurd (omega arith)
rises-at from (end ∷ ends) to zero h l = (h.0, ends-rise end ends to h.1)
rises-at from (end ∷ ends) to (suc zero) h l = rises-at end ends to zero h.1 (omega arith)
rises-at from (end ∷ ends) to (suc (suc number)) h l = rises-at end ends to (suc number) h.1 (omega arith)

term-at : (from : ℕ) (ends bytes : List ℕ) (number : ℕ) → number < length ends → get_or (cut from ends bytes) number []
    ≡ take (get_or ends number 0 - start_from from ends number) (drop (start_from from ends number) bytes)
term-at from [] bytes number l = absurd (omega arith)
term-at from (end ∷ ends) bytes zero l = refl
term-at from (end ∷ ends) bytes (suc zero) l = term-at end ends bytes zero (omega arith)
term-at from (end ∷ ends) bytes (suc (suc number)) l = term-at end ends bytes (suc number) (omega arith)

-- over the lists that were lent
pub at-lent : (ends bytes lent lent_bytes : List ℕ) (number start end : ℕ) → AreEnds 0 ends (length bytes) → number < length ends → lent ≡ ends →
    lent_bytes ≡ bytes → start ≡ start_of lent number → end ≡ get_or lent number 0 →
    (start ≤ end) × (end ≤ length lent_bytes) × (get_or (cut 0 ends bytes) number [] ≡ take (end - start) (drop start lent_bytes))
at-lent ends bytes lent lent_bytes number start end h l e f s t =
    let r = rises-at 0 ends (length bytes) number h l in
    let from : start ≡ start_from 0 ends number = s ∙ ap (λ x. start_of x number) e ∙ sym (start-is ends number) in
    let to : end ≡ get_or ends number 0 = t ∙ ap (λ x. get_or x number 0) e in (
      omega (arith, r.0, from, to),
      omega (arith, r.1, to, ap length f),
      term-at 0 ends bytes number l
          ∙ ap (λ n. take (n - start_from 0 ends number) (drop (start_from 0 ends number) bytes)) (sym to) ∙ ap (λ n. take (end - n) (drop n bytes)) (sym from)
          ∙ ap (λ x. take (end - start) (drop start x)) (sym f),
    )

pub past : (terms : List (List ℕ)) (number : ℕ) → length terms ≤ number → ◌≡◌ {A = List ℕ} [] (get_or terms number [])
past [] number l = refl
past (t ∷ terms) zero l = absurd (omega arith)
past (t ∷ terms) (suc number) l = past terms number (omega arith)

pub there : (infos : List TermInfo) (number : ℕ) (info : TermInfo) → number < length infos → info ≡ get_or infos number info → slice_get infos number ≡ Some info
there [] number info l e = absurd (omega arith)
there (i ∷ infos) zero info l e = ap Some (sym e)
there (i ∷ infos) (suc number) info l e = there infos number info (omega arith) e
