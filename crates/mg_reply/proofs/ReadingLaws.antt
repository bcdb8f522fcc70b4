-- Laws of reading lines.
use Rattle.std.proofs.Common.{◌≡◌, ◌≢◌, ℕ, zero, suc, ◌+◌, ◌<◌, ◌≤◌, inl, inr, List, [], ◌∷◌, ◌++◌, length, take, drop, get_or, refl, sym, ◌∙◌, ap, subst, arith, append_assoc, append-nil, length-append, None, Some, Ok, IsSome, add-one, IsTrue, ◌==◌, length-drop}
use Rattle.std.proofs.lemmas.Bool.{ne_eqb, eqb-true, eq-eqb}
use Rattle.std.proofs.Math.ListN.{set}
use Rattle.std.specs.declared.option.Option.{Option}
use Rattle.std.proofs.lemmas.List.{take_all, take-append-le, get_or-take, length-take, take_more_set}
use Rattle.std.proofs.Math.Seq.{drop-cons}
use Rattle.mg_dev.specs.Streams.{prepended, IsAtEnd}
use Rattle.mg_dev.specs.StreamLaws.{prepended-nil, prepended-prepended}
use Rattle.mg_defs.specs.Lines.{HasNoEnd, lines, without_return}
use Rattle.mg_defs.proofs.LinesLaws.{lines-closed, lines-open, HasNoEnd-push}
use Rattle.mg_reply.specs.Reading.{Reading, Going, IsFirst, RunsOn, AfterLine, IsEvent}
use Rattle.mg_defs.specs.Limits.{input_limit}
use Rattle.mg_reply.specs.declared.reader.LineEvent.{LineEvent}
use Rattle.mg_reply.specs.declared.reader.LineEvent.TheVariants.{Line, TooLong, End}

-- ---- lists

pub take-front : (n : ℕ) (xs ys : List ℕ) → take n (take n xs ++ ys) ≡ take n (xs ++ ys)
take-front zero xs ys = refl
take-front (suc n) [] ys = refl
take-front (suc n) (x ∷ xs) ys = ap (λ (t : List ℕ). x ∷ t) (take-front n xs ys)

pub empty : (xs : List ℕ) → length xs ≡ 0 → xs ≡ []
empty [] h = refl
empty (x ∷ xs) h = absurd (omega (arith, h))

pub none_held : (xs : List ℕ) (at end : ℕ) → at ≤ end → end ≤ length xs → (IsTrue (at == end) → drop at (take end xs) ≡ []) × (drop at (take end xs) ≡ [] → IsTrue (at == end))
none_held xs at end le within = (
  λ t. let e : at ≡ end = eqb-true at end t in empty (drop at (take end xs)) (omega (arith, length-drop at (take end xs), length-take end xs)),
  λ e. eq-eqb at end (let z : length (drop at (take end xs)) ≡ 0 = ap length e in omega (arith, length-drop at (take end xs), length-take end xs)),
)

-- no more than so many are held
pub few_held : (xs : List ℕ) (at end : ℕ) → end ≤ 4096 → length (drop at (take end xs)) ≤ 4096
few_held xs at end most = omega (arith, length-drop at (take end xs), length-take end xs, most)

pub filled_none : (held0 held : List ℕ) (l0 l1 : Option (List ℕ)) → held0 ≡ [] → l0 ≡ prepended held l1 → IsAtEnd l0 → (prepended held l1 ≡ prepended held0 l0) × IsAtEnd (prepended held0 l0)
filled_none held0 held l0 l1 gone took end =
    let e : prepended held0 l0 ≡ l0 = ap (λ h. prepended h l0) gone ∙ prepended-nil l0 in
    (sym took ∙ sym e, subst IsAtEnd (sym e) end)

pub filled_some : (held0 held rest : List ℕ) (b : ℕ) (l0 l1 : Option (List ℕ)) → held0 ≡ [] → l0 ≡ prepended held l1 → held ≡ b ∷ rest → prepended held0 l0 ≡ prepended (b ∷ []) (prepended rest l1)
filled_some held0 held rest b l0 l1 gone took e = ap (λ h. prepended h l0) gone ∙ prepended-nil l0 ∙ took ∙ ap (λ h. prepended h l1) e ∙ sym (prepended-prepended l1 (b ∷ []) rest)

pub from_held : (held rest : List ℕ) (b : ℕ) (l : Option (List ℕ)) → held ≡ b ∷ rest → prepended held l ≡ prepended (b ∷ []) (prepended rest l)
from_held held rest b l e = ap (λ h. prepended h l) e ∙ sym (prepended-prepended l (b ∷ []) rest)

pub kept_more : (buffer : List ℕ) (len b : ℕ) → len < 1024 → length buffer ≡ 1024 → take (len + 1) (set buffer len b) ≡ take 1024 (take len buffer ++ b ∷ [])
kept_more buffer len b lt size =
    let in_range : len < length buffer = omega (arith, lt, size) in
    take_more_set buffer len b in_range ∙ sym (take_all 1024 (take len buffer ++ b ∷ []) (omega (arith, length-append (take len buffer) (b ∷ []), length-take len buffer, lt)))

pub kept_full : (line : List ℕ) (b : ℕ) → length line ≡ 1024 → line ≡ take 1024 (line ++ b ∷ [])
kept_full line b full = sym (take-append-le 1024 line (b ∷ []) (omega (arith, full)) ∙ take_all 1024 line (omega (arith, full)))

-- the first of the held bytes
pub first_held : (xs : List ℕ) (at end : ℕ) → at < end → end ≤ length xs → drop at (take end xs) ≡ get_or xs at 0 ∷ drop (at + 1) (take end xs)
first_held xs at end lt le =
    let in_range : at < length (take end xs) = omega (arith, length-take end xs) in
    rw (add-one, drop-cons (take end xs) at 0) (ap (λ (b : ℕ). b ∷ drop (suc at) (take end xs)) (get_or-take end xs at 0 lt))

pub without_return-other : (front : List ℕ) (b : ℕ) → b ≢ 13 → without_return (front ++ b ∷ []) ≡ front ++ b ∷ []
without_return-other [] b ne = rw (ne_eqb b 13 ne)
without_return-other (a ∷ []) b ne = ap (λ (t : List ℕ). a ∷ t) (without_return-other [] b ne)
without_return-other (a ∷ c ∷ front) b ne = ap (λ (t : List ℕ). a ∷ t) (without_return-other (c ∷ front) b ne)

pub without_return-same : (front : List ℕ) → without_return (front ++ 13 ∷ []) ≡ front
without_return-same [] = refl
without_return-same (a ∷ []) = refl
without_return-same (a ∷ c ∷ front) = ap (λ (t : List ℕ). a ∷ t) (without_return-same (c ∷ front))

pub cut_same : (line front : List ℕ) (last : ℕ) → line ≡ front ++ last ∷ [] → last ≡ 13 → front ≡ without_return line
cut_same line front last e is = sym (ap without_return (e ∙ ap (λ (b : ℕ). front ++ b ∷ []) is) ∙ without_return-same front)

pub cut_other : (line front : List ℕ) (last : ℕ) → line ≡ front ++ last ∷ [] → last ≢ 13 → line ≡ without_return line
cut_other line front last e ne = e ∙ sym (ap without_return e ∙ without_return-other front last ne)

-- ---- the bytes of a line

pub going_start : (b : Option (List ℕ)) → Going b b [] 0
going_start b = record { front = []; plain = tt; count = refl; taken = sym (prepended-nil b); kept = refl }

pub going_more : (b now next : Option (List ℕ)) (line : List ℕ) (n x : ℕ) → Going b now line n → now ≡ prepended (x ∷ []) next → x ≢ 10 → Going b next (take 1024 (line ++ x ∷ [])) (n + 1)
going_more b now next line n x g took ne = record {
  front = g.front ++ x ∷ [];
  plain = HasNoEnd-push g.front x g.plain ne;
  count = omega (arith, length-append g.front (x ∷ []), g.count);
  taken = g.taken ∙ ap (prepended g.front) took ∙ prepended-prepended next g.front (x ∷ []);
  kept = ap (λ (l : List ℕ). take 1024 (l ++ x ∷ [])) g.kept ∙ take-front 1024 g.front (x ∷ []);
}

-- the line ended here
pub closed : (old new : Reading) (b now next : Option (List ℕ)) (n : ℕ) (event : LineEvent) → Going b now new.line n → now ≡ prepended (10 ∷ []) next →
    IsEvent n event → new.used ≡ old.used + (n + 1) → new.used ≤ input_limit → AfterLine old new b next (Ok event)
closed old new b now next n Line g took short used within =
    let whole : new.line ≡ g.front = g.kept ∙ take_all 1024 g.front (omega (arith, g.count, short)) in (
      n + 1,
      record {
        plain = subst HasNoEnd (sym whole) g.plain;
        ends = inl (
          omega (arith, ap length whole, g.count),
          g.taken ∙ ap (prepended g.front) took ∙ prepended-prepended next g.front (10 ∷ [])
              ∙ ap (λ (l : List ℕ). prepended (l ++ 10 ∷ []) next) (sym whole),
        );
      },
      omega (arith, ap length whole, g.count, short),
      used,
      within,
    )
closed old new b now next n TooLong g took long used within = (
  g.front,
  n + 1,
  record { plain = g.plain; ends = inl (omega (arith, g.count), g.taken ∙ ap (prepended g.front) took ∙ prepended-prepended next g.front (10 ∷ [])) },
  omega (arith, g.count, long),
  used,
  within,
)
closed old new b now next n End g took none used within = absurd none

-- the input ended here
pub ended : (old new : Reading) (b now next : Option (List ℕ)) (n : ℕ) (event : LineEvent) → Going b now new.line n → next ≡ now → IsAtEnd now → 0 < n →
    IsEvent n event → new.used ≡ old.used + n → new.used ≤ input_limit → AfterLine old new b next (Ok event)
ended old new b now next n Line g same end some short used within =
    let whole : new.line ≡ g.front = g.kept ∙ take_all 1024 g.front (omega (arith, g.count, short)) in (
      n,
      record {
        plain = subst HasNoEnd (sym whole) g.plain;
        ends = inr (
          omega (arith, ap length whole, g.count),
          omega (arith, ap length whole, g.count, some),
          g.taken ∙ ap (λ (l : List ℕ). prepended l now) (sym whole) ∙ ap (prepended new.line) (sym same),
          subst IsAtEnd (sym same) end,
        );
      },
      omega (arith, ap length whole, g.count, short),
      used,
      within,
    )
ended old new b now next n TooLong g same end some long used within = (
  g.front,
  n,
  record {
    plain = g.plain;
    ends = inr (
      omega (arith, g.count),
      omega (arith, g.count, some),
      g.taken ∙ ap (prepended g.front) (sym same),
      subst IsAtEnd (sym same) end,
    );
  },
  omega (arith, g.count, long),
  used,
  within,
)
ended old new b now next n End g same end some none used within = absurd none

-- nothing was left
pub nothing_left : (u0 u1 : ℕ) (b now next : Option (List ℕ)) (line : List ℕ) (n : ℕ) → Going b now line n → next ≡ now → IsAtEnd now → n ≡ 0 → u1 ≡ u0 → IsAtEnd b × (next ≡ b) × (u1 ≡ u0)
nothing_left u0 u1 b now next line n g same end none used =
    let gone : g.front ≡ [] = empty g.front (g.count ∙ none) in
    let e : b ≡ now = g.taken ∙ ap (λ (l : List ℕ). prepended l now) gone ∙ prepended-nil now in
    (subst IsAtEnd (sym e) end, same ∙ sym e, used)

-- the input failed in the line
pub breaks_off : (b now next : Option (List ℕ)) (line : List ℕ) (n : ℕ) → Going b now line n → next ≡ now →
    (front : List ℕ) × HasNoEnd front × (b ≡ prepended front next)
breaks_off b now next line n g same = (g.front, g.plain, g.taken ∙ ap (prepended g.front) (sym same))

pub runs_on : (b now next : Option (List ℕ)) (line : List ℕ) (n x : ℕ) → Going b now line n → now ≡ prepended (x ∷ []) next → RunsOn n b next
runs_on b now next line n x g took = record { front = g.front; byte = x; plain = g.plain; count = g.count; taken = g.taken ∙ ap (prepended g.front) took ∙ prepended-prepended next g.front (x ∷ []) }

-- ---- what a caller makes of it

-- what is told to be left before tells what is left now
pub left_now : (l : Option (List ℕ)) (bytes all : List ℕ) → Some all ≡ prepended bytes l → (rest : List ℕ) × (l ≡ Some rest) × (all ≡ bytes ++ rest)
unfolding prepended
left_now None bytes all e = cc
left_now (Some rest) bytes all e = (rest, refl, cc)

-- a line without its end is the only one
pub alone : (line : List ℕ) → 0 < length line → HasNoEnd line → lines line ≡ line ∷ []
alone [] some plain = absurd (omega arith)
alone (b ∷ line) some plain = lines-open b line plain

pub first_line : (line all : List ℕ) (size : ℕ) (before after : Option (List ℕ)) → IsFirst line size before after → before ≡ Some all →
    (rest : List ℕ) × (after ≡ Some rest) × (lines all ≡ line ∷ lines rest)
first_line line all size before after f told =
    elim f.ends [
      | inl e ↦
          let now = left_now after (line ++ 10 ∷ []) all (sym told ∙ e.1) in
          (now.0, now.1, ap lines (now.2 ∙ append_assoc line (10 ∷ []) now.0) ∙ lines-closed line now.0 f.plain)
      | inr e ↦
          let now = left_now after line all (sym told ∙ e.2) in
          let is_told : IsSome after = rw now.1 in
          let none : now.0 ≡ [] = let z = sym now.1 ∙ e.3 is_told in cc in
          (now.0, now.1, ap lines (now.2 ∙ ap (λ (r : List ℕ). line ++ r) none ∙ append-nil line) ∙ alone line e.1 f.plain ∙ ap (λ (r : List ℕ). line ∷ lines r) (sym none))
    ]
