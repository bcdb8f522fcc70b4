-- Postings that are counted and written.
use Rattle.std.proofs.Common.{◌≡◌, ℕ, zero, suc, ◌+◌, ◌*◌, ◌%◌, ◌^◌, ◌≤◌, List, [], ◌∷◌, ◌++◌, length, drop, refl, sym, ap, ◌∙◌, subst}
use Rattle.std.proofs.Common.{arith, Some, None, is_some, unwrap_or, ◌≢◌, append_assoc, append-nil, length-append, IsSome}
use Rattle.std.proofs.lemmas.List.{drop-drop}
use Rattle.std.specs.declared.option.Option.{Option}
use Rattle.mg_dev.specs.Files.{Files, Reads, file_at, bytes_at}
use Rattle.mg_dev.specs.declared.part.Part.{Part}
use Rattle.mg_defs.specs.Bits.{Bits, digits, filled, to_byte}
use Rattle.mg_defs.specs.Codes.{gamma}
use Rattle.mg_defs.specs.Postings.{IsBefore, AllAfter, merged}
use Rattle.mg_defs.specs.RunBits.{before_first, run_posting_bits, postings_bits, run_bits}
use Rattle.mg_defs.specs.declared.TermPosting.{TermPosting}
use Rattle.mg_bits.specs.Pages.{Looked}
use Rattle.mg_bits.specs.Writer.{WroteTo}
use Rattle.mg_bits.specs.BitWriting.{BitWriting, WroteBits, bits_put}
use Rattle.mg_bits.proofs.CallerLemmas.{bits_more, bits_none}
use Rattle.mg_runs.specs.Cursors.{IsRun}
use Rattle.mg_runs.specs.Merging.{first, AreLeft, AreRuns, StandFor}
use Rattle.mg_runs.specs.Rounds.{IsGroupAt}
use Rattle.mg_runs.specs.Joins.{IsCounting, IsPutting, Passed}
use Rattle.mg_runs.specs.declared.cursor.Cursor.{Cursor}
use Rattle.mg_runs.proofs.CursorLaws.{after_start}
use Rattle.mg_runs.proofs.Puts.{to_byte_same}
use Rattle.mg_runs.proofs.Steps.{split_first}

some_left : (left : List TermPosting) (count : ℕ) (p : TermPosting) → count ≤ length left → Some p ≡ first (drop count left) → count + 1 ≤ length left
some_left [] zero p within e = absurd cc
some_left [] (suc n) p within e = absurd (omega arith)
some_left (x ∷ xs) zero p within e = omega arith
some_left (x ∷ xs) (suc n) p within e = let h = some_left xs n p (omega arith) e in omega arith

none_left : (left : List TermPosting) (count : ℕ) → count ≤ length left → None ≡ first (drop count left) → count ≡ length left
none_left [] zero within e = refl
none_left [] (suc n) within e = absurd (omega arith)
none_left (x ∷ xs) zero within e = absurd cc
none_left (x ∷ xs) (suc n) within e = let h = none_left xs n (omega arith) e in omega arith

pub counting_more : (slots : List (List ℕ)) (cursors : List Cursor) (file : List ℕ) (left : List TermPosting) (count : ℕ) (p : TermPosting) →
    count ≤ length left → Some p ≡ first (drop count left) → AreLeft slots cursors file (drop 1 (drop count left)) →
    IsCounting slots cursors file left (count + 1)
counting_more slots cursors file left count p within e has =
    let n : 1 + count ≡ count + 1 = omega arith in
    record {
      has = subst (λ xs. AreLeft slots cursors file xs) (drop-drop 1 count left ∙ ap (λ k. drop k left) (omega arith)) has;
      within = some_left left count p within e;
    }

pub counting_end : (slots : List (List ℕ)) (cursors : List Cursor) (file : List ℕ) (left : List TermPosting) (count : ℕ) →
    IsCounting slots cursors file left count → None ≡ first (drop count left) → count ≡ length left
counting_end slots cursors file left count is e = none_left left count is.within e

first_size : (left : List TermPosting) (p : TermPosting) (ps : List TermPosting) → left ≡ p ∷ ps → length left ≡ 1 + length ps
first_size left p ps e = let one : suc (length ps) ≡ 1 + length ps = omega arith in ap (λ xs. length xs) e ∙ one

-- the posting that comes first of those that are left
pub putting_first : {slots : List (List ℕ)} {cursors : List Cursor} {file : List ℕ} {f0 f1 : Option Files} {w0 w1 : BitWriting} {last : TermPosting}
    {bits : Bits} (is : IsPutting slots cursors file f0 f1 w0 w1 last bits) (p : TermPosting) →
    Some p ≡ first is.left → IsBefore last p × (1 ≤ p.doc) × (1 ≤ p.count) × (w1.place + 256 ≤ 2 ^ 61)
putting_first {last = last} is p e =
    let s = split_first is.left p (sym e) in
    let before = subst (λ xs. AllAfter last xs) s.1 is.before in
    let run = subst (λ xs. IsRun xs) s.1 is.run in
    let size : length is.left ≡ 1 + length s.0 = first_size is.left p s.0 s.1 in
    let room = is.room in
    (before.0, run.small.0.doc_some, run.small.0.count_some, omega arith)

-- bits behind others, where the files were told between the two
bits_behind : (f0 f1 f2 : Option Files) (w0 w1 w2 : BitWriting) (a b : Bits) → IsSome f1 → WroteBits w0 w1 f0 f1 a → WroteBits w1 w2 f1 f2 b → WroteBits w0 w2 f0 f2 (a ++ b)
bits_behind f0 f1 f2 w0 w1 w2 a b told one two = record {
  name = two.name ∙ one.name;
  place = omega (arith, length-append a b, one.place, two.place);
  told = λ t. two.told told ∙ ap (λ l. l ++ b) (one.told t) ∙ append_assoc (bits_put w0 f0) a b;
}

pub put_more : {slots news : List (List ℕ)} {cursors nexts : List Cursor} {file : List ℕ} {f0 f1 f2 : Option Files} {w0 w1 w2 : BitWriting} {last : TermPosting}
    {bits : Bits} (is : IsPutting slots cursors file f0 f1 w0 w1 last bits) (p : TermPosting) →
    Some p ≡ first is.left → AreLeft news nexts file (drop 1 is.left) → IsSome f1 → WroteBits w1 w2 f1 f2 (run_posting_bits last p) →
    w2.place ≤ w1.place + 256 → IsPutting news nexts file f0 f2 w0 w2 p bits
put_more {news = news} {nexts = nexts} {file = file} {f0 = f0} {f1 = f1} {f2 = f2} {w0 = w0} {w1 = w1} {w2 = w2} {last = last} is p e has told wrote place =
    let s = split_first is.left p (sym e) in
    let run = subst (λ xs. IsRun xs) s.1 is.run in
    let size : length is.left ≡ 1 + length s.0 = first_size is.left p s.0 s.1 in
    let room = is.room in
    record {
      left = s.0;
      has = subst (λ xs. AreLeft news nexts file xs) (ap (λ xs. drop 1 xs) s.1) has;
      done = is.done ++ run_posting_bits last p;
      wrote = bits_behind f0 f1 f2 w0 w1 w2 is.done (run_posting_bits last p) told is.wrote wrote;
      rest = append_assoc is.done (run_posting_bits last p) (postings_bits p s.0) ∙ ap (λ xs. is.done ++ postings_bits last xs) (sym s.1) ∙ is.rest;
      before = run.rising.0;
      run = record { rising = run.rising.1; small = run.small.1 };
      room = omega arith;
    }

no_first : (left : List TermPosting) → None ≡ first left → left ≡ []
no_first [] e = refl
no_first (x ∷ xs) e = absurd cc

pub put_end : {slots : List (List ℕ)} {cursors : List Cursor} {file : List ℕ} {f0 f1 : Option Files} {w0 w1 : BitWriting} {last : TermPosting} {bits : Bits}
    (is : IsPutting slots cursors file f0 f1 w0 w1 last bits) →
    None ≡ first is.left → WroteBits w0 w1 f0 f1 bits
put_end {f0 = f0} {f1 = f1} {w0 = w0} {w1 = w1} {last = last} {bits = bits} is e =
    let none = no_first is.left e in
    let whole : is.done ++ [] ≡ bits = ap (λ xs. is.done ++ postings_bits last xs) (sym none) ∙ is.rest in
    subst (λ b. WroteBits w0 w1 f0 f1 b) (sym (append-nil is.done) ∙ whole) is.wrote

pub put_start : (slots : List (List ℕ)) (cursors : List Cursor) (file : List ℕ) (f : Option Files) (w : BitWriting) (left : List TermPosting) →
    AreLeft slots cursors file left → IsRun left → w.place + 256 * length left ≤ 2 ^ 61 →
    IsPutting slots cursors file f f w w before_first (postings_bits before_first left)
put_start slots cursors file f w left has run room = record {
  left = left;
  has = has;
  done = [];
  wrote = bits_none f w;
  rest = refl;
  before = after_start left run.small;
  run = run;
  room = room;
}

pub passed_none : (part : Part) (name : List ℕ) (f : Option Files) (r : Reads) (n : ℕ) → Passed part name f f r r n n
passed_none part name f r n = record { told = refl; others = λ m apart. refl; later = λ p. omega arith; reads = λ p apart. refl; faults = omega arith }

pub passed_more : {part : Part} {name : List ℕ} {f g h : Option Files} {r s t : Reads} {l m n : ℕ} → Passed part name f g r s l m → Passed part name g h s t m n → Passed part name f h r t l n
passed_more one two = record {
  told = two.told ∙ one.told;
  others = λ k apart. two.others k apart ∙ one.others k apart;
  later = λ p. let a = one.later p in let b = two.later p in omega arith;
  reads = λ p apart. two.reads p apart ∙ one.reads p apart;
  faults = let a = one.faults in let b = two.faults in omega arith;
}

pub passed_looked : {part : Part} {name : List ℕ} {f g : Option Files} {r s : Reads} {m n : ℕ} → Looked part f g r s m n → Passed part name f g r s m n
passed_looked looked = record {
  told = ap (λ x. is_some x) looked.files;
  others = λ k apart. ap (λ x. file_at x k) looked.files;
  later = looked.later;
  reads = looked.others;
  faults = looked.faults;
}

pub passed_wrote : {part : Part} {name : List ℕ} {f g : Option Files} {r s : Reads} {m n : ℕ} → WroteTo name f g r s → m ≤ n → Passed part name f g r s m n
passed_wrote wrote le = record {
  told = wrote.told;
  others = wrote.others;
  later = λ p. let e = wrote.reads p in omega arith;
  reads = λ p apart. wrote.reads p;
  faults = le;
}

-- the bytes of a file that is not written to
pub passed_bytes : {part : Part} {name other : List ℕ} {f g : Option Files} {r s : Reads} {m n : ℕ} → Passed part name f g r s m n → other ≢ name → bytes_at g other ≡ bytes_at f other
passed_bytes {other = other} passed apart = ap (λ b. unwrap_or b []) (passed.others other apart)

pub wrote_bytes : {name other : List ℕ} {f g : Option Files} {r s : Reads} → WroteTo name f g r s → other ≢ name → bytes_at g other ≡ bytes_at f other
wrote_bytes {other = other} wrote apart = ap (λ b. unwrap_or b []) (wrote.others other apart)

-- the number of postings, the postings and zero-bits to a byte are a run
pub run_written : {f0 f1 f2 f3 : Option Files} {w0 w1 w2 w3 : BitWriting} {n : ℕ} (xs : List TermPosting) → w0.place % 8 ≡ 0 → n ≡ length xs →
    is_some f1 ≡ is_some f0 → is_some f2 ≡ is_some f1 → WroteBits w0 w1 f0 f1 (gamma n) → WroteBits w1 w2 f1 f2 (postings_bits before_first xs) →
    WroteBits w2 w3 f2 f3 (digits (to_byte w2.place) 0) → WroteBits w0 w3 f0 f3 (filled (run_bits xs))
unfolding filled run_bits
run_written {f0 = f0} {f1 = f1} {f2 = f2} {f3 = f3} {w0 = w0} {w1 = w1} {w2 = w2} {w3 = w3} {n = n} xs whole e t1 t2 a b d =
    let count : gamma n ≡ gamma (length xs) = ap (λ k. gamma k) e in
    let run : WroteBits w0 w2 f0 f2 (run_bits xs) = bits_more f0 f1 f2 w0 w1 w2 (gamma (length xs)) (postings_bits before_first xs) t1 (subst (λ c. WroteBits w0 w1 f0 f1 c) count a) b in
    let p : w2.place ≡ w0.place + length (run_bits xs) = run.place in
    let q : to_byte w2.place ≡ to_byte (length (run_bits xs)) = ap (λ k. to_byte k) p ∙ to_byte_same w0.place (length (run_bits xs)) whole in
    bits_more f0 f2 f3 w0 w2 w3 (run_bits xs) (digits (to_byte (length (run_bits xs))) 0) (t2 ∙ t1) run (subst (λ k. WroteBits w2 w3 f2 f3 (digits k 0)) q d)

-- what cursors have left of runs, merged
pub merged_left : {slots : List (List ℕ)} {cursors : List Cursor} {file : List ℕ} {runs : List (List TermPosting)} →
    StandFor slots cursors file runs → AreRuns runs → AreLeft slots cursors file (merged runs)
merged_left {runs = runs} stand are = record { lefts = runs; stand = stand; are = are; same = refl }

-- behind its number of postings a run has room
pub merged_room : {runs : List (List TermPosting)} {place : ℕ} → IsGroupAt runs place → place + 66 + 256 * length (merged runs) ≤ 2 ^ 61
merged_room is = omega (arith, is.few, is.below)
