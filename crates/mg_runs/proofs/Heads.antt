-- The least of the first postings, by keys.
use Rattle.std.proofs.Common.{◌≡◌, ℕ, ◌+◌, ◌-◌, ◌*◌, ◌<◌, ◌≤◌, ◌^◌, inl, inr, List, [], ◌∷◌, ◌++◌, length, length-set, refl, set, sym, ap, ◌∙◌, subst, arith, get_or, Some}
use Rattle.std.proofs.lemmas.Bool.{cases_eq, cases_lt}
use Rattle.std.proofs.lemmas.Bool.Decides.{nat_tests}
use Rattle.std.proofs.lemmas.List.{get_or-set_other, get_or-set_same, get_or_append_left, get_or_past, get_or_push}
use Rattle.std.proofs.lemmas.List.Elements.{All-set}
use Rattle.mg_defs.specs.declared.TermPosting.{TermPosting}
use Rattle.mg_defs.specs.Postings.{IsBefore, AllAfter}
use Rattle.mg_runs.specs.PostingOrder.{NoLater}
use Rattle.mg_runs.specs.Decoding.{IsSmall}
use Rattle.mg_runs.specs.Cursors.{HasPosting, IsAt, IsAtPosting, IsRun}
use Rattle.mg_runs.specs.Merging.{first, AllFrom, AreOpen, IsShaped, StandFor, key_of, no_cursor}
use Rattle.mg_runs.specs.Slots.{ChangesOneSlot}
use Rattle.mg_runs.specs.declared.cursor.Cursor.{Cursor}
use Rattle.mg_runs.proofs.Merges.{run_at}

key_is : (c : Cursor) → (c.left ≡ 0 → ⊥) → key_of c ≡ c.posting.term * 2 ^ 32 + (c.posting.doc - 1)
key_is c more = grind (arith, nat_tests)

later_by_key : (p x : TermPosting) → IsSmall p → IsSmall x → p.term * 2 ^ 32 + (p.doc - 1) ≤ x.term * 2 ^ 32 + (x.doc - 1) → NoLater p x
later_by_key p x a b le =
    let ad = a.doc in let ae = a.doc_some in let bd = b.doc in let be = b.doc_some in
    record { term = omega arith; doc = λ e. omega arith }

after_first : (p x : TermPosting) → NoLater p x → (xs : List TermPosting) → AllAfter x xs → AllFrom p xs
after_first p x le [] all = tt
after_first p x le (y ∷ ys) all =
    let b : IsBefore x y = all.0 in
    let s = le.term in
    let t = b.term in
    (record { term = omega arith; doc = λ e. let u = le.doc (omega arith) in let v = b.doc (omega arith) in omega arith }, after_first p x le ys all.1)

-- the first posting of what a cursor with postings left stands for
own : (c : Cursor) (slot file : List ℕ) (left : List TermPosting) → IsAt c slot file left → IsRun left → (c.left ≡ 0 → ⊥) → (first left ≡ Some c.posting) × IsSmall c.posting
own c slot file [] at run more = absurd (more at)
own c slot file (x ∷ xs) at run more =
    let same : x ≡ c.posting = sym at.posting in
    (ap (λ z. Some z) same, subst (λ z. IsSmall z) same run.small.0)

from_key : (p : TermPosting) (c : Cursor) (slot file : List ℕ) (left : List TermPosting) → IsSmall p → IsAt c slot file left → IsRun left → p.term * 2 ^ 32 + (p.doc - 1) ≤ key_of c → AllFrom p left
from_key p c slot file [] small at run le = tt
from_key p c slot file (x ∷ xs) small at run le =
    let same : c.posting ≡ x = at.posting in
    let left = at.left in
    let more : c.left ≡ 0 → ⊥ = λ e. omega arith in
    let key : key_of c ≡ x.term * 2 ^ 32 + (x.doc - 1) = key_is c more ∙ ap (λ z. z.term * 2 ^ 32 + (z.doc - 1)) same in
    let h : NoLater p x = later_by_key p x small run.small.0 (omega arith) in
    (h, after_first p x h xs at.after)

pub head_told : (slots : List (List ℕ)) (cursors : List Cursor) (keys file : List ℕ) (lefts : List (List TermPosting)) (w : ℕ) (c : Cursor) →
    IsShaped slots cursors keys → StandFor slots cursors file lefts → w < length cursors → c ≡ get_or cursors w no_cursor → (c.left ≡ 0 → ⊥) →
    ((k : ℕ) → k < length keys → get_or keys w 0 ≤ get_or keys k 0) →
    (first (get_or lefts w []) ≡ Some c.posting) × ((k : ℕ) → AllFrom c.posting (get_or lefts k []))
head_told slots cursors keys file lefts w c shape stand h is more least =
    let size = stand.size in
    let keys_size = shape.key_count in
    let run : IsRun (get_or lefts w []) = stand.runs w [] (omega arith) in
    let at : IsAt c (get_or slots w []) file (get_or lefts w []) = subst (λ z. IsAt z (get_or slots w []) file (get_or lefts w [])) (sym is) (stand.at w h) in
    let o = own c (get_or slots w []) file (get_or lefts w []) at run more in
    let mine : get_or keys w 0 ≡ c.posting.term * 2 ^ 32 + (c.posting.doc - 1) = shape.by_key w h ∙ ap (λ z. key_of z) (sym is) ∙ key_is c more in (
      o.0,
      λ k. elim (cases_lt k (length cursors)) [
        | inl low ↦
            let le : get_or keys w 0 ≤ get_or keys k 0 = least k (omega arith) in
            let theirs = shape.by_key k low in
            from_key c.posting (get_or cursors k no_cursor) (get_or slots k []) file (get_or lefts k []) o.1 (stand.at k low) (stand.runs k [] (omega arith)) (omega arith)
        | inr high ↦ subst (λ l. AllFrom c.posting l) (sym (get_or_past lefts k [] (omega arith))) tt
      ],
    )

-- a key that is the greatest is that of a run that has ended
ended : (c : Cursor) (slot file : List ℕ) (left : List TermPosting) → IsAt c slot file left → IsRun left → 2 ^ 64 - 1 ≤ key_of c → left ≡ []
ended c slot file [] at run le = refl
ended c slot file (x ∷ xs) at run le =
    let some = at.left in
    let more : c.left ≡ 0 → ⊥ = λ e. omega arith in
    let key : key_of c ≡ x.term * 2 ^ 32 + (x.doc - 1) = key_is c more ∙ ap (λ z. z.term * 2 ^ 32 + (z.doc - 1)) at.posting in
    let small : IsSmall x = run.small.0 in
    absurd (omega (arith, small.term, small.doc, small.doc_some))

key_none : (c : Cursor) → c.left ≡ 0 → key_of c ≡ 2 ^ 64 - 1
key_none c none = grind (arith, nat_tests)

-- where the run with the least key has ended, all have
pub none_told : {slots : List (List ℕ)} {cursors : List Cursor} {keys file : List ℕ} {lefts : List (List TermPosting)} → IsShaped slots cursors keys →
    StandFor slots cursors file lefts → (w : ℕ) (c : Cursor) → w < length cursors → c ≡ get_or cursors w no_cursor → c.left ≡ 0 →
    ((k : ℕ) → k < length keys → get_or keys w 0 ≤ get_or keys k 0) → (k : ℕ) → get_or lefts k [] ≡ []
none_told {slots = slots} {cursors = cursors} {keys = keys} {file = file} {lefts = lefts} shape stand w c h is none least k =
    let size = stand.size in
    let keys_size = shape.key_count in
    let mine : get_or keys w 0 ≡ 2 ^ 64 - 1 = shape.by_key w h ∙ ap (λ z. key_of z) (sym is) ∙ key_none c none in
    elim (cases_lt k (length cursors)) [
      | inl low ↦
          let le : get_or keys w 0 ≤ get_or keys k 0 = least k (omega arith) in
          let theirs = shape.by_key k low in
          ended (get_or cursors k no_cursor) (get_or slots k []) file (get_or lefts k []) (stand.at k low) (stand.runs k [] (omega arith)) (omega arith)
      | inr high ↦ get_or_past lefts k [] (omega arith)
    ]

-- ---- a cursor that moves on

-- each cursor has its slot and its key, where one of them has another posting
pub step_shaped : {slots news : List (List ℕ)} {cursors : List Cursor} {keys : List ℕ} {k : ℕ} (next : Cursor) → IsShaped slots cursors keys → k < length cursors →
    HasPosting next → ChangesOneSlot k slots news → IsShaped news (set cursors k next) (set keys k (key_of next))
step_shaped {slots = slots} {news = news} {cursors = cursors} {keys = keys} {k = k} next shape within posting change =
    let size = length-set cursors k next in
    record {
      slot_count = ap (λ (s : List (List ℕ)). length s) change ∙ length-set slots k (get_or news k []) ∙ shape.slot_count ∙ sym size;
      key_count = length-set keys k (key_of next) ∙ shape.key_count ∙ sym size;
      by_key = λ j h. elim (cases_eq j k) [
        | inl same ↦
            let keys_size = shape.key_count in
            subst (λ n. get_or (set keys k (key_of next)) n 0 ≡ key_of (get_or (set cursors k next) n no_cursor)) (sym same)
            (get_or-set_same keys k (key_of next) 0 (omega arith) ∙ ap (λ (x : Cursor). key_of x) (sym (get_or-set_same cursors k next no_cursor within)))
        | inr other ↦
            let same = get_or-set_other cursors k j next no_cursor other in
            get_or-set_other keys k j (key_of next) 0 other ∙ shape.by_key j (omega (arith, h, size)) ∙ ap (λ (x : Cursor). key_of x) (sym same)
      ];
      postings = All-set (λ (x : Cursor). HasPosting x) cursors k next posting shape.postings;
    }

-- the cursors stand for what is left, where one of them has moved on
pub step_stands : {slots news : List (List ℕ)} {cursors : List Cursor} {file : List ℕ} {lefts : List (List TermPosting)} {k : ℕ} (next : Cursor) (x : TermPosting) (xs : List TermPosting) →
    StandFor slots cursors file lefts → k < length cursors → get_or lefts k [] ≡ x ∷ xs → ChangesOneSlot k slots news → IsAt next (get_or news k []) file xs →
    StandFor news (set cursors k next) file (set lefts k xs)
step_stands {slots = slots} {news = news} {cursors = cursors} {file = file} {lefts = lefts} {k = k} next x xs stand within first change at =
    let size = stand.size in
    let run = run_at lefts k x xs stand.runs first in
    record {
      size = length-set lefts k xs ∙ size ∙ sym (length-set cursors k next);
      at = λ j h. elim (cases_eq j k) [
        | inl same ↦
            subst (λ n. IsAt (get_or (set cursors k next) n no_cursor) (get_or news n []) file (get_or (set lefts k xs) n [])) (sym same)
            (subst (λ (c : Cursor). IsAt c (get_or news k []) file (get_or (set lefts k xs) k [])) (sym (get_or-set_same cursors k next no_cursor within))
            (subst (λ l. IsAt next (get_or news k []) file l) (sym (get_or-set_same lefts k xs [] (omega arith))) at))
        | inr other ↦
            let slot : get_or news j [] ≡ get_or slots j [] = ap (λ (s : List (List ℕ)). get_or s j []) change ∙ get_or-set_other slots k j (get_or news k []) [] other in
            subst (λ (c : Cursor). IsAt c (get_or news j []) file (get_or (set lefts k xs) j [])) (sym (get_or-set_other cursors k j next no_cursor other))
            (subst (λ (s : List ℕ). IsAt (get_or cursors j no_cursor) s file (get_or (set lefts k xs) j [])) (sym slot)
            (subst (λ l. IsAt (get_or cursors j no_cursor) (get_or slots j []) file l) (sym (get_or-set_other lefts k j xs [] other)) (stand.at j (omega (arith, h, length-set cursors k next)))))
      ];
      runs = All-set (λ l. IsRun l) lefts k xs (record { rising = run.rising.1; small = run.small.1 }) stand.runs;
    }

-- ---- cursors that are opened one by one

-- one cursor more, whose slot alone has changed
pub open_more : {slots news : List (List ℕ)} {cursors : List Cursor} {file : List ℕ} {runs : List (List TermPosting)} {k : ℕ} (c : Cursor) →
    length cursors ≡ k → k < length slots → ChangesOneSlot k slots news → AreOpen slots cursors file runs k →
    IsAt c (get_or news k []) file (get_or runs k []) → AreOpen news (cursors ++ c ∷ []) file runs (k + 1)
open_more {slots = slots} {news = news} {cursors = cursors} {file = file} {runs = runs} {k = k} c size within change before at = record {
  at = λ j h. elim (cases_lt j k) [
    | inl low ↦
        let cursor : get_or (cursors ++ c ∷ []) j no_cursor ≡ get_or cursors j no_cursor = get_or_append_left cursors (c ∷ []) no_cursor j (omega arith) in
        let slot : get_or news j [] ≡ get_or slots j []
        = ap (λ (s : List (List ℕ)). get_or s j []) change ∙ get_or-set_other slots k j (get_or news k []) [] (λ e. omega arith) in
        subst (λ (x : Cursor). IsAt x (get_or news j []) file (get_or runs j [])) (sym cursor)
        (subst (λ (s : List ℕ). IsAt (get_or cursors j no_cursor) s file (get_or runs j [])) (sym slot) (before.at j low))
    | inr high ↦
        let same : j ≡ k = omega arith in
        let cursor = get_or_push cursors c no_cursor k size in
        subst (λ n. IsAt (get_or (cursors ++ c ∷ []) n no_cursor) (get_or news n []) file (get_or runs n [])) (sym same)
        (subst (λ (x : Cursor). IsAt x (get_or news k []) file (get_or runs k [])) (sym cursor) at)
  ];
}

-- the posting at which a cursor is that has some left
pub at_first : {slots : List (List ℕ)} {cursors : List Cursor} {file : List ℕ} {lefts : List (List TermPosting)} → StandFor slots cursors file lefts →
    (k : ℕ) (c : Cursor) (x : TermPosting) (xs : List TermPosting) → k < length cursors → c ≡ get_or cursors k no_cursor → get_or lefts k [] ≡ x ∷ xs →
    IsAtPosting c (get_or slots k []) file x xs
at_first {slots = slots} {file = file} {lefts = lefts} stand k c x xs within same first =
    let at : IsAt c (get_or slots k []) file (get_or lefts k [])
    = subst (λ (z : Cursor). IsAt z (get_or slots k []) file (get_or lefts k [])) (sym same) (stand.at k within) in
    subst (λ l. IsAt c (get_or slots k []) file l) first at
