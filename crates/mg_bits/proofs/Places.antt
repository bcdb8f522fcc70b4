-- Places, pages and the bytes of a page.
use Rattle.std.proofs.Common.{◌≡◌, ◌+◌, ◌*◌, ◌≤◌, ◌<◌, ◌-◌, ◌/◌, ◌%◌, ◌^◌, [], ◌∷◌, ◌∙◌}
use Rattle.std.proofs.Common.{arith, suc, zero, ℕ, Bool, true, false, List, take, drop, Some, None, slice_get, refl, sym, ap, subst, IfSome, IsSome, nat_eq, cond, min, max}
use Rattle.std.specs.declared.option.Option.{Option}
use Rattle.std.proofs.lemmas.Grind.{common_steps}
use Rattle.std.proofs.lemmas.Bool.{eqb-true}
use Rattle.std.proofs.Math.Nat.{div-div-eq-div-mul, mul-div_cancel_left, div-add-mod}
use Rattle.mg_dev.specs.declared.part.Part.{Part}
use Rattle.mg_dev.specs.declared.part.Part.TheVariants.{Head, Words, Nonwords, Text, Places, Lex, LexAt, Post, Skip, Weights, Run, MergeA, MergeB, Plain}
use Rattle.mg_dev.specs.Files.{Files, Reads, OneRead, bytes_at}
use Rattle.mg_dev.specs.Causes.{Rose}
use Rattle.mg_dev.specs.Names.{same_part, number}
use Rattle.mg_dev.specs.Laws.{with_read-here, with_read-later, with_read-other}
use Rattle.mg_bits.specs.Feed.{page_of, lacks, ReadsOwn, Calm, ReadsWithin, Device, to_read, raised, over_file, of_store, told_at}
use Rattle.mg_bits.specs.Pages.{IsPageIn}

pub page_of_byte : (page at : ℕ) → page_of page (8 * at) ≡ at / page
page_of_byte page at =
    let e : 8 * at / 8 / page ≡ 8 * at / (8 * page) = div-div-eq-div-mul (8 * at) 8 page in
    sym e ∙ ap (λ n. n / page) (mul-div_cancel_left at (omega arith))

pub slice_get-drop : {X : Type 0} (n : ℕ) (xs : List X) (i : ℕ) → slice_get (drop n xs) i ≡ slice_get xs (n + i)
slice_get-drop zero xs i = grind (arith, common_steps)
slice_get-drop (suc n) [] i = grind (arith, common_steps)
slice_get-drop (suc n) (x ∷ xs) i = grind (arith, common_steps, slice_get-drop n xs i)

pub slice_get-take : {X : Type 0} (n : ℕ) (xs : List X) (i : ℕ) → i < n → slice_get (take n xs) i ≡ slice_get xs i
slice_get-take zero xs i h = absurd (omega arith)
slice_get-take (suc n) [] i h = refl
slice_get-take (suc n) (x ∷ xs) zero h = refl
slice_get-take (suc n) (x ∷ xs) (suc i) h = slice_get-take n xs i (omega arith)

-- ---- one read

-- the part of a number
part_at : ℕ → Part
part_at n =
    cond (nat_eq n 0) Head
    (cond (nat_eq n 1) Words
    (cond (nat_eq n 2) Nonwords
    (cond (nat_eq n 3) Text
    (cond (nat_eq n 4) Places
    (cond (nat_eq n 5) Lex
    (cond (nat_eq n 6) LexAt
    (cond (nat_eq n 7) Post
    (cond (nat_eq n 8) Skip (cond (nat_eq n 9) Weights (cond (nat_eq n 10) Run (cond (nat_eq n 11) MergeA (cond (nat_eq n 12) MergeB (Plain)))))))))))))

part_at-number : (p : Part) → part_at (number p) ≡ p
unfolding part_at
part_at-number Head = refl
part_at-number Words = refl
part_at-number Nonwords = refl
part_at-number Text = refl
part_at-number Places = refl
part_at-number Lex = refl
part_at-number LexAt = refl
part_at-number Post = refl
part_at-number Skip = refl
part_at-number Weights = refl
part_at-number Run = refl
part_at-number MergeA = refl
part_at-number MergeB = refl
part_at-number Plain = refl

-- parts of one number are one
pub same_part_one : (p q : Part) → same_part p q ≡ true → p ≡ q
same_part_one p q same = sym (part_at-number p) ∙ ap part_at (eqb-true (number p) (number q) same) ∙ part_at-number q

pub parts_apart : (part other : Part) → (part ≡ other → ⊥) → same_part other part ≡ false
parts_apart part other differs = by_test (same_part other part) refl
  where
    by_test : (b : Bool) → same_part other part ≡ b → same_part other part ≡ false
    by_test true e = absurd (differs (sym (same_part_one other part e)))
    by_test false e = e

pub own_read : (part : Part) (before now : Reads) → OneRead before now part → ReadsOwn (Some part) before now
own_read part before now reads = record {
  later = λ any. rw (reads any) (with_read-later before part any);
  others = λ other differs. reads other ∙ with_read-other before part other (parts_apart part other (λ e. differs (ap Some e)));
}

counted_once : (old new : ℕ) (before now : ℕ) → new ≡ min (old + 1) (2 ^ 64 - 1) → now ≡ max before (min (before + 1) (2 ^ 64 - 1)) → new < 2 ^ 64 - 1 → now ≡ raised before (new - old)
counted_once old new before now one two small = let e : new - old ≡ 1 = omega arith in rw e two

pub calm_once : (name : List ℕ) (part : Part) (page : ℕ) (h0 h1 : Option ℕ) (old new : ℕ) (f0 f1 : Option Files) (a b : ℕ) (before now : Reads) →
    old < 2 ^ 64 → new ≡ min (old + 1) (2 ^ 64 - 1) → f1 ≡ f0 → a ≤ b → OneRead before now part →
    Calm (over_file name part page h0 old) (over_file name part page h1 new) (of_store f0 a before) (of_store f1 b now)
calm_once name part page h0 h1 old new f0 f1 a b before now fits one same rose read = record {
  source = refl;
  part = refl;
  page = refl;
  files = same;
  faults = rose;
  reads = own_read part before now read;
  counted = record {
    later = omega arith;
    exact = λ own is small.
        let e : part ≡ own = cc in
        subst (λ p. now p ≡ raised (before p) (new - old)) e (counted_once old new (before part) (now part) one (read part ∙ with_read-here before part) small);
  };
}

-- the count of the part after one read
pub one_read : (part : Part) (most : ℕ) (before now : Reads) → most ≡ 1 → OneRead before now part → now part ≤ before part + most
one_read part most before now one read = omega (arith, read part, with_read-here before part)

pub rose_once : (part : Part) (before now : Reads) → OneRead before now part → Rose (before part) (now part)
rose_once part before now read = omega (arith, read part, with_read-here before part)

-- a page that is not the one held has to be read
pub lacks_other : (held : Option ℕ) (number : ℕ) → (held ≡ Some number → ⊥) → lacks held number ≡ 1
lacks_other None number other = refl
lacks_other (Some there) number other = grind (arith, common_steps)

pub lacks_held : (held : Option ℕ) (number : ℕ) → held ≡ Some number → lacks held number ≡ 0
lacks_held None number same = absurd cc
lacks_held (Some there) number same = grind (arith, common_steps)

-- one bit lies on one page
pub to_read_here : (page : ℕ) (held : Option ℕ) (place : ℕ) → to_read page held place (place + 1) ≡ lacks held (page_of page place)
to_read_here page held place = grind (arith, common_steps)

-- one byte lies on one page
pub to_read_byte : (page : ℕ) (held : Option ℕ) (at : ℕ) → to_read page held (8 * at) (8 * at + 1) ≡ lacks held (at / page)
to_read_byte page held at = to_read_here page held (8 * at) ∙ ap (lacks held) (page_of_byte page at)

-- a held page has the byte
pub paged_byte : (bytes : ℕ) (page : List ℕ) (held : Option ℕ) (file : List ℕ) (at : ℕ) → 0 < bytes → held ≡ Some (at / bytes) → IsPageIn bytes held page file →
    slice_get page (at % bytes) ≡ slice_get file at
paged_byte bytes page None file at some is agrees = absurd cc
paged_byte bytes page (Some number) file at some is agrees =
    let n : number ≡ at / bytes = cc in
    let below : at % bytes < bytes = omega arith in
    let place : bytes * number + at % bytes ≡ at = rw n (div-add-mod at bytes) in
    rw (agrees, slice_get-take bytes (drop (bytes * number) file) (at % bytes) below, slice_get-drop, place) refl

-- a read of one byte's page reads within its first bit
pub within_byte : (name : List ℕ) (part : Part) (page : ℕ) (held h1 : Option ℕ) (old new : ℕ) (before now : Device) (at : ℕ) →
    now.reads part ≤ before.reads part + lacks held (at / page) → new ≤ old + lacks held (at / page) →
    ReadsWithin (over_file name part page held old) (over_file name part page h1 new) before now (8 * at) (8 * at + 1)
within_byte name part page held h1 old new before now at device feed = record {
  device = λ other same.
      let e : part ≡ other = cc in
      subst (λ p. now.reads p ≤ before.reads p + to_read page held (8 * at) (8 * at + 1)) e (rw to_read_byte device);
  feed = rw to_read_byte feed;
}

-- the page of a place is that of its byte
pub page_of_place : (page place : ℕ) → page_of page (8 * (place / 8)) ≡ page_of page place
page_of_place page place = page_of_byte page (place / 8) ∙ div-div-eq-div-mul place 8 page

pub to_read_place : (page : ℕ) (held : Option ℕ) (place : ℕ) →
    to_read page held (8 * (place / 8)) (8 * (place / 8) + 1) ≡ to_read page held place (place + 1)
to_read_place page held place =
    to_read_here page held (8 * (place / 8)) ∙ ap (lacks held) (page_of_place page place) ∙ sym (to_read_here page held place)

-- what is told of a file of a store
pub told_file : (files : Option Files) (name : List ℕ) (got : Option ℕ) (at : ℕ) → (IsSome files → got ≡ slice_get (bytes_at files name) at) →
    IfSome (told_at files name) (λ bytes. got ≡ slice_get bytes at)
told_file None name got at told = tt
told_file (Some f) name got at told = told refl

pub held_byte : (page at : ℕ) (held : Option ℕ) → held ≡ Some (at / page) → held ≡ Some (page_of page (8 * at))
held_byte page at held is = is ∙ ap Some (sym (page_of_byte page at))
