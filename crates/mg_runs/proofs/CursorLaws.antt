-- What a slot has of a file's bits.
use Rattle.std.proofs.Common.{◌≡◌, ℕ, zero, suc, ◌+◌, ◌-◌, ◌*◌, ◌/◌, ◌%◌, ◌≤◌, List, [], ◌∷◌, ◌++◌, length, refl, sym, ap, ◌∙◌, arith, take, drop, min, length-append, append_assoc, length-drop}
use Rattle.std.proofs.lemmas.List.{drop-drop, drop-take, drop_all, take_all, take_min}
use Rattle.std.proofs.Math.Seq.{drop-append-add, take-append-add}
use Rattle.mg_defs.specs.Bits.{Bits, bits_of, digits}
use Rattle.mg_defs.specs.Codes.{gamma}
use Rattle.mg_defs.specs.Postings.{IsBefore, AllAfter}
use Rattle.std.specs.List.{AllByRecursion}
use Rattle.mg_defs.specs.RunBits.{run_posting_bits, doc_gap}
use Rattle.mg_defs.specs.declared.TermPosting.{TermPosting}
use Rattle.mg_defs.proofs.BitLaws.{length_digits}
use Rattle.mg_runs.specs.Decoding.{IsSmall}
use Rattle.mg_runs.proofs.Short.{gamma_short}
use Rattle.mg_runs.proofs.Decoding.{Plan, plan, behind_code}
use Rattle.mg_defs.specs.RunBits.{postings_bits, run_bits, before_first}
use Rattle.mg_runs.specs.Cursors.{IsAt, IsAtPosting, IsRunAt, IsNear, NoDamage, Tells}
use Rattle.mg_runs.specs.Damages.{TellsBit}
use Rattle.mg_runs.specs.declared.cursor.Cursor.{Cursor}
use Rattle.mg_runs.specs.declared.decode.Decoded.{Decoded}
use Rattle.std.specs.Prelude.{IsOkAnd, Ok, Err}
use Rattle.std.specs.declared.result.Result.{Result}
use Rattle.mg_dev.specs.declared.part_err.PartErr.{PartErr}
use Rattle.mg_dev.specs.declared.part_err.PartErr.TheVariants.{Device, Memory, Bad}

bits_take : (n : ℕ) (xs : List ℕ) → bits_of (take n xs) ≡ take (8 * n) (bits_of xs)
unfolding bits_of
bits_take zero xs = let z : 0 ≡ 8 * zero = omega arith in ap (λ k. take k (bits_of xs)) z
bits_take (suc n) [] = sym (take_all (8 * suc n) [] (omega arith))
bits_take (suc n) (x ∷ xs) =
    let e : length (digits 8 x) + 8 * n ≡ 8 * suc n = omega (arith, length_digits 8 x) in
    ap (λ l. digits 8 x ++ l) (bits_take n xs) ∙ sym (take-append-add (digits 8 x) (bits_of xs) (8 * n)) ∙ ap (λ k. take k (digits 8 x ++ bits_of xs)) e

bits_drop : (n : ℕ) (xs : List ℕ) → bits_of (drop n xs) ≡ drop (8 * n) (bits_of xs)
unfolding bits_of
bits_drop zero xs = let z : 0 ≡ 8 * zero = omega arith in ap (λ k. drop k (bits_of xs)) z
bits_drop (suc n) [] = sym (drop_all (8 * suc n) [] (omega arith))
bits_drop (suc n) (x ∷ xs) =
    let e : length (digits 8 x) + 8 * n ≡ 8 * suc n = omega (arith, length_digits 8 x) in
    bits_drop n xs ∙ sym (drop-append-add (digits 8 x) (bits_of xs) (8 * n)) ∙ ap (λ k. drop k (digits 8 x ++ bits_of xs)) e

-- what stands at a place of the file stands in the slot too, as far as the slot goes
pub in_slot : (n start place offset room : ℕ) (slot file : List ℕ) (code rest : Bits) → slot ≡ take n (drop start file) → place ≡ 8 * start + offset →
    offset + room ≡ 8 * n → length code ≤ room → drop place (bits_of file) ≡ code ++ rest →
    drop offset (bits_of slot) ≡ code ++ take (room - length code) rest
in_slot n start place offset room slot file code rest is at size fits e =
    let r : length code + (room - length code) ≡ room = omega arith in
    ap (λ l. drop offset (bits_of l)) is
    ∙ ap (λ l. drop offset l) (bits_take n (drop start file) ∙ ap (λ k. take k (bits_of (drop start file))) (sym size))
    ∙ drop-take offset room (bits_of (drop start file))
    ∙ ap (λ l. take room (drop offset l)) (bits_drop start file)
    ∙ ap (λ l. take room l) (drop-drop offset (8 * start) (bits_of file) ∙ ap (λ k. drop k (bits_of file)) (sym at) ∙ e)
    ∙ ap (λ k. take k (code ++ rest)) (sym r)
    ∙ take-append-add code rest (room - length code)

-- a posting is short
pub posting_short : (last x : TermPosting) → IsBefore last x → IsSmall x → length (run_posting_bits last x) ≤ 198
unfolding run_posting_bits
posting_short last x before small =
    let g : Bits = gamma (x.term - last.term + 1) in
    let d : Bits = gamma (doc_gap last x) in
    let n : Bits = gamma x.count in
    let p : Plan (run_posting_bits last x ++ []) 0 last x [] = plan (run_posting_bits last x ++ []) 0 last x [] before small refl in
    omega (
      arith,
      length-append g (d ++ n),
      length-append d n,
      gamma_short (x.term - last.term + 1) p.gap.0 (omega (arith, p.gap.1)),
      gamma_short (doc_gap last x) p.doc.0 (omega (arith, p.doc.1)),
      gamma_short x.count p.count.0 (omega (arith, p.count.1)),
    )

-- behind a code that stands whole, the place is still in the file
pub place_below : (place : ℕ) (bits code rest : Bits) → place ≤ length bits → drop place bits ≡ code ++ rest → place + length code ≤ length bits
place_below place bits code rest below e =
    let n : length (code ++ rest) ≡ length bits - place = ap (λ l. length l) (sym e) ∙ length-drop place bits in
    omega (arith, n, length-append code rest)

-- ---- a cursor's next posting

pub first_bytes : (n count : ℕ) (all slot : List ℕ) → n ≡ min count (length all) → all ≡ slot → take n all ≡ take (min count (length slot)) slot
first_bytes n count all slot e same =
    ap (λ k. take k all) e ∙ ap (λ l. take (min count (length l)) l) same

-- the next posting stands first in the slot, behind the offset
pub stands : (cursor : Cursor) (slot file bytes : List ℕ) (x y : TermPosting) (ys : List TermPosting) (offset : ℕ) →
    IsAtPosting cursor slot file x (y ∷ ys) → IsNear cursor → bytes ≡ take (min cursor.count (length slot)) slot →
    offset ≡ cursor.place - 8 * cursor.start → (more : Bits) × (drop offset (bits_of bytes) ≡ run_posting_bits x y ++ more)
stands cursor slot file bytes x y ys offset at near is off =
    let short : length (run_posting_bits x y) ≤ 198 = posting_short x y at.after.0 at.run.small.0 in
    let low = at.near in
    let high = near.high in
    let room : ℕ = 512 - offset in
    let rest : Bits = postings_bits y ys ++ at.more in
    let e : drop cursor.place (bits_of file) ≡ run_posting_bits x y ++ rest = at.bits ∙ append_assoc (run_posting_bits x y) (postings_bits y ys) at.more in (
      take (room - length (run_posting_bits x y)) rest,
      in_slot 64 cursor.start cursor.place offset room bytes file (run_posting_bits x y) rest
          (is ∙ take_min cursor.count slot ∙ at.window) (omega arith) (omega arith) (omega arith) e,
    )

-- behind it the cursor is at that posting
pub moved : (cursor : Cursor) (slot file : List ℕ) (x y : TermPosting) (ys : List TermPosting) (offset : ℕ) (found : Decoded) →
    IsAtPosting cursor slot file x (y ∷ ys) → found.posting ≡ y → found.next ≡ offset + length (run_posting_bits x y) →
    IsAtPosting (record { posting = found.posting; left = cursor.left - 1; place = cursor.place + (found.next - offset); start = cursor.start; count = cursor.count }) slot file y ys
moved cursor slot file x y ys offset found at posting next =
    let rest : Bits = postings_bits y ys ++ at.more in
    let e : drop cursor.place (bits_of file) ≡ run_posting_bits x y ++ rest = at.bits ∙ append_assoc (run_posting_bits x y) (postings_bits y ys) at.more in
    let to : cursor.place + (found.next - offset) ≡ cursor.place + length (run_posting_bits x y) = omega arith in
    let left = at.left in
    let near = at.near in
    record {
      posting = posting;
      left = omega arith;
      more = at.more;
      bits = ap (λ k. drop k (bits_of file)) to ∙ behind_code cursor.place (bits_of file) (run_posting_bits x y) rest e;
      below = let b = place_below cursor.place (bits_of file) (run_posting_bits x y) rest at.below e in omega arith;
      short = at.short;
      near = omega arith;
      within = at.within;
      window = at.window;
      after = at.run.rising.0;
      run = record { rising = at.run.rising.1; small = at.run.small.1 };
    }

-- a refusal that is no damage tells no bit
pub bit_undamaged : (T : Type 0) (at : ℕ) (e : PartErr) → NoDamage {T = T} (Err e) → TellsBit at e
bit_undamaged T at Device h = tt
bit_undamaged T at Memory h = tt
bit_undamaged T at (Bad bad) h = absurd h

-- where one posting is left, none follows
pub at_end : (cursor ended : Cursor) (slot now file : List ℕ) (x : TermPosting) (xs : List TermPosting) → IsAtPosting cursor slot file x xs →
    cursor.left ≡ 1 → ended.left ≡ 0 → IsAt ended now file xs
at_end cursor ended slot now file x [] at one end = end
at_end cursor ended slot now file x (y ∷ ys) at one end = let l = at.left in absurd (omega arith)

-- where more than one posting is left, another one follows
pub at_next : (cursor near : Cursor) (slot now file : List ℕ) (x : TermPosting) (xs : List TermPosting) (r : Result Cursor PartErr) →
    IsAtPosting cursor slot file x xs → (cursor.left ≡ 1 → ⊥) → IsAtPosting near now file x xs →
    ((y : TermPosting) (ys : List TermPosting) → IsAtPosting near now file x (y ∷ ys) → IsOkAnd r (λ c. IsAtPosting c now file y ys)) →
    Tells r (λ c. IsAt c now file xs)
at_next cursor near slot now file x [] r at more is next = let l = at.left in absurd (more (omega arith))
at_next cursor near slot now file x (y ∷ ys) (Ok c) at more is next = next y ys is
at_next cursor near slot now file x (y ∷ ys) (Err e) at more is next = absurd (next y ys is)

-- ---- a run's header

-- the postings of a run come after the first of all
pub after_start : (xs : List TermPosting) → AllByRecursion (λ x. IsSmall x) xs → AllAfter before_first xs
after_start [] all = tt
after_start (x ∷ xs) all =
    let d = all.0.doc_some in
    (record { term = omega arith; doc = λ q. omega arith }, after_start xs all.1)

-- how many postings there are stands first in the slot
pub header_stands : (slot file bytes : List ℕ) (place count : ℕ) (xs : List TermPosting) → IsRunAt file place xs →
    take count slot ≡ take 64 (drop (place / 8) file) → bytes ≡ take (min count (length slot)) slot →
    (more : Bits) × (drop (place % 8) (bits_of bytes) ≡ gamma (length xs) ++ more)
unfolding run_bits
header_stands slot file bytes place count xs at window is =
    let few = at.few in
    let some = at.some in
    let short : length (gamma (length xs)) ≤ 66 = gamma_short (length xs) some (omega arith) in
    let room : ℕ = 512 - place % 8 in
    let rest : Bits = postings_bits before_first xs ++ at.more in
    let e : drop place (bits_of file) ≡ gamma (length xs) ++ rest = at.bits ∙ append_assoc (gamma (length xs)) (postings_bits before_first xs) at.more in (
      take (room - length (gamma (length xs))) rest,
      in_slot 64 (place / 8) place (place % 8) room bytes file (gamma (length xs)) rest
          (is ∙ take_min count slot ∙ window) (omega arith) (omega arith) (omega arith) e,
    )

pub header_read : (slot file : List ℕ) (place count : ℕ) (xs : List TermPosting) (value next : ℕ) → IsRunAt file place xs → count ≤ 64 →
    take count slot ≡ take 64 (drop (place / 8) file) → value ≡ length xs → next ≡ place % 8 + length (gamma (length xs)) →
    IsAtPosting (record { posting = before_first; left = value + 1; place = place + (next - place % 8); start = place / 8; count = count }) slot file before_first xs
unfolding run_bits
header_read slot file place count xs value next at within window is behind =
    let rest : Bits = postings_bits before_first xs ++ at.more in
    let e : drop place (bits_of file) ≡ gamma (length xs) ++ rest = at.bits ∙ append_assoc (gamma (length xs)) (postings_bits before_first xs) at.more in
    let to : place + (next - place % 8) ≡ place + length (gamma (length xs)) = omega arith in
    record {
      posting = refl;
      left = omega arith;
      more = at.more;
      bits = ap (λ k. drop k (bits_of file)) to ∙ behind_code place (bits_of file) (gamma (length xs)) rest e;
      below = let b = place_below place (bits_of file) (gamma (length xs)) rest at.below e in omega arith;
      short = at.short;
      near = omega arith;
      within = within;
      window = window;
      after = after_start xs at.run.small;
      run = at.run;
    }
