-- How many pages the steps of a reading call read.
use Rattle.std.proofs.Common.{arith, suc, zero, ◌≡◌, ◌+◌, ◌-◌, ◌*◌, ◌/◌, ◌%◌, ◌^◌, ◌≤◌, ◌<◌, ◌⊎◌, inl, inr, ℕ, false, Some, None, refl, sym, ◌∙◌, ap, subst, lit<}
use Rattle.std.proofs.Math.Nat.{two-pow-succ}
use Rattle.std.specs.declared.option.Option.{Option}
use Rattle.std.specs.Option.{IfSome, OnSome}
use Rattle.std.specs.Int.{div_ceil}
use Rattle.std.proofs.lemmas.Grind.{common_steps}
use Rattle.std.proofs.lemmas.Bool.{cases_lt}
use Rattle.std.proofs.lemmas.Bool.Decides.{nat_tests}
use Rattle.mg_dev.specs.declared.part.Part.{Part}
use Rattle.mg_dev.specs.Files.{Files, Reads}
use Rattle.mg_dev.specs.Names.{same_part}
use Rattle.mg_bits.specs.Feed.{ReadsWithin, held_after, lacks, page_of, to_read, of_store}
use Rattle.mg_bits.specs.Pages.{Paging, Looked, feeding_of}
use Rattle.mg_bits.proofs.CallerLemmas.{held_after_more, held_after_none, held_after_some}
use Rattle.mg_defs.specs.Codes.{ceil_log2}
use Rattle.mg_defs.proofs.CodeLaws.{is_ceil}
use Rattle.mg_front.specs.Looks.{ReadOn, ReadTo, ReadLooks, halvings}

lacks_most : (held : Option ℕ) (page : ℕ) → lacks held page ≤ 1
lacks_most None page = omega arith
lacks_most (Some h) page = grind (arith, nat_tests)

lacks_other : (h page : ℕ) → h < page → lacks (Some h) page ≡ 1
lacks_other h page e = grind (arith, nat_tests)

lacks_none : (h page : ℕ) → h ≡ page → lacks (Some h) page ≡ 0
lacks_none h page e = grind (arith, nat_tests)

-- no bytes take no page, and others those of the first and the last
range_none : (held : Option ℕ) (at : ℕ) → to_read 4096 held (8 * at) (8 * (at + 0)) ≡ 0
range_none held at = grind (arith, common_steps)

range_some : (held : Option ℕ) (a b : ℕ) → a < b → to_read 4096 held a b ≡ page_of 4096 (b - 1) - page_of 4096 a + lacks held (page_of 4096 a)
range_some held a b lt = grind (arith, common_steps)

bytes_some : (held : Option ℕ) (at n : ℕ) → 0 < n → to_read 4096 held (8 * at) (8 * (at + n)) ≡ (at + n - 1) / 4096 - at / 4096 + lacks held (at / 4096)
bytes_some held at n some =
    let first : 8 * at / 32768 ≡ at / 4096 = omega arith in
    let last : (8 * (at + n) - 1) / 32768 ≡ (at + n - 1) / 4096 = omega arith in
    range_some held (8 * at) (8 * (at + n)) (omega arith) ∙ ap (λ (p : ℕ). p - 8 * at / 32768 + lacks held (8 * at / 32768)) last ∙ ap (λ (p : ℕ). (at + n - 1) / 4096 - p + lacks held p) first

-- the page that is held once bytes were read
held_one : (held : Option ℕ) (at : ℕ) → held_after 4096 held (8 * at) (8 * (at + 1)) ≡ Some (page_of 4096 (8 * at))
held_one held at =
    let same : (8 * (at + 1) - 1) / 32768 ≡ 8 * at / 32768 = omega arith in
    held_after_some 4096 held (8 * at) (8 * (at + 1)) (omega arith) ∙ ap Some same

held_more : (held : Option ℕ) (p q u : ℕ) → p ≤ q → q ≤ u → held_after 4096 (held_after 4096 held (8 * p) (8 * q)) (8 * q) (8 * u) ≡ held_after 4096 held (8 * p) (8 * u)
held_more held p q u pq qu = held_after_more 4096 held (8 * p) (8 * q) (8 * u) (omega arith) (omega arith)

-- ---- what the feed's calls read

module _ {files files_now : Option Files} {faults faults_now : ℕ} (old new : Paging) (before now : Reads) where
  within_count : (a b : ℕ) → ReadsWithin (feeding_of 4096 old) (feeding_of 4096 new) (of_store files faults before) (of_store files_now faults_now now) a b →
      now old.part ≤ before old.part + to_read 4096 old.held a b
  within_count a b within = within.device old.part refl

  byte_count : (at : ℕ) → ReadsWithin (feeding_of 4096 old) (feeding_of 4096 new) (of_store files faults before) (of_store files_now faults_now now) (8 * at)
      (8 * at + 1) → now old.part ≤ before old.part + lacks old.held (at / 4096)
  byte_count at within =
      let first : 8 * at / 32768 ≡ at / 4096 = omega arith in
      let count = range_some old.held (8 * at) (8 * at + 1) (omega arith) in
      let same : 8 * at + 1 - 1 ≡ 8 * at = omega arith in
      let known : to_read 4096 old.held (8 * at) (8 * at + 1) ≡ 8 * at / 32768 - 8 * at / 32768 + lacks old.held (at / 4096) = count
      ∙ ap (λ (p : ℕ). p / 32768 - 8 * at / 32768 + lacks old.held (8 * at / 32768)) same
      ∙ ap (λ (p : ℕ). 8 * at / 32768 - 8 * at / 32768 + lacks old.held p) first in
      omega (arith, known, within_count (8 * at) (8 * at + 1) within)

  -- one byte
  pub byte_to : (at : ℕ) → ReadsWithin (feeding_of 4096 old) (feeding_of 4096 new) (of_store files faults before) (of_store files_now faults_now now) (8 * at)
      (8 * at + 1) → ReadTo old before now at (at + 1)
  byte_to at within = record { pages = omega (arith, byte_count at within) }

  byte_on : (at : ℕ) → new.held ≡ Some (page_of 4096 (8 * at)) →
      ReadsWithin (feeding_of 4096 old) (feeding_of 4096 new) (of_store files faults before) (of_store files_now faults_now now) (8 * at) (8 * at + 1) →
      ReadOn old new before now at (at + 1)
  byte_on at held within = record { pages = omega (arith, byte_count at within, at_next (cases_lt (at / 4096) ((at + 1) / 4096))); order = omega arith; held = held ∙ sym (held_one old.held at) }
    where
      at_next : (at / 4096 < (at + 1) / 4096) ⊎ ((at + 1) / 4096 ≤ at / 4096) → lacks new.held ((at + 1) / 4096) + at / 4096 ≤ (at + 1) / 4096
      at_next (inl other) = omega (arith, lacks_most new.held ((at + 1) / 4096))
      at_next (inr same) =
          let here : 8 * at / 32768 ≡ (at + 1) / 4096 = omega arith in
          omega (arith, ap (λ (h : Option ℕ). lacks h ((at + 1) / 4096)) held ∙ lacks_none (8 * at / 32768) ((at + 1) / 4096) here)

  pub byte_on_some : (at : ℕ) (byte : Option ℕ) → OnSome byte (new.held ≡ Some (page_of 4096 (8 * at))) →
      ReadsWithin (feeding_of 4096 old) (feeding_of 4096 new) (of_store files faults before) (of_store files_now faults_now now) (8 * at) (8 * at + 1) →
      OnSome byte (ReadOn old new before now at (at + 1))
  byte_on_some at None held within = tt
  byte_on_some at (Some b) held within = byte_on at held within

  -- so many bytes
  bytes_to : (at n : ℕ) → ReadsWithin (feeding_of 4096 old) (feeding_of 4096 new) (of_store files faults before) (of_store files_now faults_now now) (8 * at)
      (8 * (at + n)) → ReadTo old before now at (at + n)
  bytes_to at zero within = record { pages = omega (arith, range_none old.held at, within_count (8 * at) (8 * (at + 0)) within) }
  bytes_to at (suc n) within = record { pages = omega (arith, bytes_some old.held at (suc n) (omega arith), within_count (8 * at) (8 * (at + suc n)) within) }

  bytes_on : (at n : ℕ) → ReadsWithin (feeding_of 4096 old) (feeding_of 4096 new) (of_store files faults before) (of_store files_now faults_now now) (8 * at)
      (8 * (at + n)) → new.held ≡ held_after 4096 old.held (8 * at) (8 * (at + n)) → ReadOn old new before now at (at + n)
  bytes_on at zero within held =
      let same : new.held ≡ old.held = held ∙ held_same old.held at in
      let here : lacks new.held ((at + 0) / 4096) ≡ lacks old.held (at / 4096) = ap (λ (h : Option ℕ). lacks h ((at + 0) / 4096)) same ∙ ap (λ (p : ℕ). lacks old.held (p / 4096)) (omega arith) in
      record { pages = omega (arith, here, range_none old.held at, within_count (8 * at) (8 * (at + 0)) within); order = omega arith; held = held }
    where
      held_same : (held : Option ℕ) (at : ℕ) → held_after 4096 held (8 * at) (8 * (at + 0)) ≡ held
      held_same held at = grind (arith, common_steps)
  bytes_on at (suc n) within held = record {
    pages = omega (
      arith,
      at_next (cases_lt ((at + suc n - 1) / 4096) ((at + suc n) / 4096)),
      bytes_some old.held at (suc n) (omega arith),
      within_count (8 * at) (8 * (at + suc n)) within,
    );
    order = omega arith;
    held = held;
  }
    where
      held_last : (held : Option ℕ) (a b : ℕ) → a < b → held_after 4096 held a b ≡ Some ((b - 1) / 32768)
      held_last held a b lt = grind (arith, common_steps)

      at_next : ((at + suc n - 1) / 4096 < (at + suc n) / 4096) ⊎ ((at + suc n) / 4096 ≤ (at + suc n - 1) / 4096) → lacks new.held ((at + suc n) / 4096) + (at + suc n - 1) / 4096 ≤ (at + suc n) / 4096
      at_next (inl other) = omega (arith, lacks_most new.held ((at + suc n) / 4096))
      at_next (inr same) =
          let here : (8 * (at + suc n) - 1) / 32768 ≡ (at + suc n) / 4096 = omega arith in
          omega (
            arith,
            ap (λ (h : Option ℕ). lacks h ((at + suc n) / 4096)) (held ∙ held_last old.held (8 * at) (8 * (at + suc n)) (omega arith))
                ∙ lacks_none ((8 * (at + suc n) - 1) / 32768) ((at + suc n) / 4096) here,
          )

  pub bytes_to_as : (at n m : ℕ) → n ≡ m → ReadsWithin (feeding_of 4096 old) (feeding_of 4096 new) (of_store files faults before)
      (of_store files_now faults_now now) (8 * at) (8 * (at + n)) → ReadTo old before now at (at + m)
  bytes_to_as at n m same within = subst (λ k. ReadTo old before now at (at + k)) same (bytes_to at n within)

  pub bytes_on_as : (at n m : ℕ) → n ≡ m → ReadsWithin (feeding_of 4096 old) (feeding_of 4096 new) (of_store files faults before)
      (of_store files_now faults_now now) (8 * at) (8 * (at + n)) → new.held ≡ held_after 4096 old.held (8 * at) (8 * (at + n)) →
      ReadOn old new before now at (at + m)
  bytes_on_as at n m same within held = subst (λ k. ReadOn old new before now at (at + k)) same (bytes_on at n within held)

  -- four bytes at a multiple of four lie on one page
  pub four_page : (block : ℕ) → ReadsWithin (feeding_of 4096 old) (feeding_of 4096 new) (of_store files faults before) (of_store files_now faults_now now)
      (8 * (4 * block)) (8 * (4 * block + 4)) → now old.part ≤ before old.part + 1
  four_page block within =
      let same : (4 * block + 4 - 1) / 4096 ≡ 4 * block / 4096 = omega arith in
      omega (arith, bytes_some old.held (4 * block) 4 (lit< tt), lacks_most old.held (4 * block / 4096), within_count (8 * (4 * block)) (8 * (4 * block + 4)) within)

-- ---- one call after another

pub on_same : (old : Paging) (before : Reads) (at : ℕ) → ReadOn old old before before at at
on_same old before at = record { pages = omega arith; order = omega arith; held = sym (held_after_none 4096 old.held (8 * at)) }

pub on_more : (a b c : Paging) (r s t : Reads) (p q u : ℕ) → b.part ≡ a.part → ReadOn a b r s p q → ReadOn b c s t q u → ReadOn a c r t p u
on_more a b c r s t p q u part one two =
    let s_is : s b.part ≡ s a.part = ap s part in
    let t_is : t b.part ≡ t a.part = ap t part in
    record {
      pages = omega (arith, one.pages, two.pages);
      order = omega (arith, one.order, two.order);
      held = two.held ∙ ap (λ (h : Option ℕ). held_after 4096 h (8 * q) (8 * u)) one.held ∙ held_more a.held p q u one.order two.order;
    }

pub to_more : {a b : Paging} {r s t : Reads} {p q u : ℕ} → b.part ≡ a.part → ReadOn a b r s p q → ReadTo b s t q u → ReadTo a r t p u
to_more {a} {b} {r} {s} {t} {p} {q} {u} part one two =
    let s_is : s b.part ≡ s a.part = ap s part in
    let t_is : t b.part ≡ t a.part = ap t part in
    record { pages = omega (arith, one.pages, two.pages) }

pub to_wider : {a : Paging} {r s : Reads} {p q u : ℕ} → q ≤ u → ReadTo a r s p q → ReadTo a r s p u
to_wider {a} {r} {s} {p} {q} {u} wider read =
    let later : q / 4096 ≤ u / 4096 = omega arith in
    record { pages = omega (arith, read.pages) }

pub on_to : {a b : Paging} {r s : Reads} {p q u : ℕ} → q ≤ u → ReadOn a b r s p q → ReadTo a r s p u
on_to {a} {b} {r} {s} {p} {q} {u} wider read =
    let later : q / 4096 ≤ u / 4096 = omega arith in
    record { pages = omega (arith, read.pages) }

-- a call that reads on behind another
pub on_after : {a b c : Paging} {r s t : Reads} {p q u v : ℕ} → u ≡ v → b.part ≡ a.part → ReadOn a b r s p q → ReadOn b c s t q u → ReadOn a c r t p v
on_after {a} {b} {c} {r} {s} {t} {p} {q} {u} same part one two = subst (ReadOn a c r t p) same (on_more a b c r s t p q u part one two)

pub some_of : (size : Option ℕ) (n : ℕ) (P : ℕ → Type 0) → size ≡ Some n → IfSome size P → P n
some_of size n P is fact = subst (λ s. IfSome s P) is fact

-- ---- a part that is read from its first byte on

-- so many bytes, each page once
pub read_first : (a b : Paging) (r s : Reads) (size : ℕ) → a.held ≡ None → ReadOn a b r s 0 size → s a.part ≤ r a.part + div_ceil size 4096
read_first a b r s size none read = omega (arith, from_none, at_end (cases_lt 0 (size % 4096)))
  where
    from_none : s a.part + lacks b.held (size / 4096) ≤ r a.part + 1 + size / 4096
    from_none = omega (arith, read.pages, ap (λ (h : Option ℕ). lacks h (0 / 4096)) none)

    at_end : (0 < size % 4096) ⊎ (size % 4096 ≤ 0) → 1 + size / 4096 ≤ div_ceil size 4096 + lacks b.held (size / 4096)
    at_end (inl some) = omega arith
    at_end (inr whole) = omega (arith, at_start (cases_lt 0 size))
      where
        at_start : (0 < size) ⊎ (size ≤ 0) → lacks b.held (size / 4096) ≡ 1
        at_start (inl later) =
            let held : b.held ≡ Some ((8 * size - 1) / 32768) = read.held ∙ held_after_some 4096 a.held (8 * 0) (8 * size) (omega arith) in
            ap (λ (h : Option ℕ). lacks h (size / 4096)) held ∙ lacks_other ((8 * size - 1) / 32768) (size / 4096) (omega arith)
        at_start (inr first) =
            let size_is : size ≡ 0 = omega arith in
            let held : b.held ≡ None = read.held ∙ ap (λ (n : ℕ). held_after 4096 a.held (8 * 0) (8 * n)) size_is ∙ held_after_none 4096 a.held 0 ∙ none in
            ap (λ (h : Option ℕ). lacks h (size / 4096)) held

-- and where it was refused before its end, one page more at most, for the longest entry is shorter than a page
pub read_first_to : (a b : Paging) (r s t : Reads) (place size : ℕ) → a.held ≡ None → b.part ≡ a.part → place ≤ size → ReadOn a b r s 0 place →
    ReadTo b s t place (place + 281) → t a.part ≤ r a.part + div_ceil size 4096 + 1
read_first_to a b r s t place size none part within read refused =
    let s_is : s b.part ≡ s a.part = ap s part in
    let t_is : t b.part ≡ t a.part = ap t part in
    omega (arith, refused.pages, read.pages, ap (λ (h : Option ℕ). lacks h (0 / 4096)) none)

-- ---- places that are looked at

other_part : (p q : Part) → same_part p q ≡ false → same_part q p ≡ false
other_part p q apart = grind (arith, nat_tests)

-- a place, and nothing more
pub place_look : {strings places : Part} {f g : Option Files} {r s : Reads} {x y : ℕ} → same_part strings places ≡ false → s places ≤ r places + 1 →
    Looked places f g r s x y → ReadLooks strings places r s 1
place_look {strings} {places} {f} {g} {r} {s} {x} {y} apart page one = record {
  places_read = page;
  strings_read = omega (arith, one.others strings apart);
}

-- a place, and the entries from it on
pub one_look : {a : Paging} {places : Part} {f g h : Option Files} {r s t : Reads} {x y z from : ℕ} → same_part a.part places ≡ false →
    s places ≤ r places + 1 → Looked places f g r s x y → Looked a.part g h s t y z → ReadTo a s t from (from + 1124) → ReadLooks a.part places r t 1
one_look {a} {places} {f} {g} {h} {r} {s} {t} {x} {y} {z} {from} apart page one two read =
    let few : (from + 1124) / 4096 ≤ from / 4096 + 1 = omega arith in
    record {
      places_read = omega (arith, page, two.others places (other_part a.part places apart));
      strings_read = omega (arith, few, read.pages, one.others a.part apart, lacks_most a.held (from / 4096));
    }

pub looks_more : {strings places : Part} {r s t : Reads} {m n : ℕ} → ReadLooks strings places r s m → ReadLooks strings places s t n → ReadLooks strings places r t (m + n)
looks_more {strings} {places} {r} {s} {t} {m} {n} one two = record {
  places_read = omega (arith, one.places_read, two.places_read);
  strings_read = omega (arith, one.strings_read, two.strings_read);
}

pub looks_wider : {strings places : Part} {r s : Reads} {m n : ℕ} → m ≤ n → ReadLooks strings places r s m → ReadLooks strings places r s n
looks_wider {strings} {places} {r} {s} {m} {n} wider one = record {
  places_read = omega (arith, one.places_read);
  strings_read = omega (arith, one.strings_read);
}

-- a look at the parts that are the same as before
pub look_as : {strings places strings_now places_now : Part} {r s : Reads} → strings_now ≡ strings → places_now ≡ places → same_part strings places ≡ false →
    (same_part strings_now places_now ≡ false → ReadLooks strings_now places_now r s 1) → ReadLooks strings places r s 1
look_as {strings} {places} {strings_now} {places_now} {r} {s} e d apart look = subst (λ p. ReadLooks strings p r s 1) d
    (subst (λ q. ReadLooks q places_now r s 1) e (look (ap (λ q. same_part q places_now) e ∙ ap (same_part strings) d ∙ apart)))

-- ---- halving

-- So many places were looked at, and what is left can be halved so often at most that there are no more than that in all.
pub record Halved (strings places : Part) (before now : Reads) (left most : ℕ) : Type 0 where
  pub looked : ℕ
  pub halvings : ℕ
  pub left_is : left < 2 ^ halvings
  pub all : looked + halvings ≤ most
  pub read : ReadLooks strings places before now looked

pub halved_none : (strings places : Part) (r : Reads) (blocks : ℕ) → blocks < 2 ^ 32 → Halved strings places r r blocks (halvings blocks)
halved_none strings places r blocks small =
    let ceil = is_ceil (blocks + 1) (omega arith) (omega arith) in
    record { looked = 0; halvings = ceil_log2 (blocks + 1); left_is = omega (arith, ceil.high); all = omega arith; read = record { places_read = omega arith; strings_read = omega arith } }

pub halved_more : {strings places : Part} {r s t : Reads} {left less most : ℕ} → 0 < left → less ≤ left / 2 → Halved strings places r s left most →
    ReadLooks strings places s t 1 → Halved strings places r t less most
halved_more {strings} {places} {r} {s} {t} {left} {less} {most} some half before one = by_halvings before.halvings before.left_is before.all
  where
    by_halvings : (h : ℕ) → left < 2 ^ h → before.looked + h ≤ most → Halved strings places r t less most
    by_halvings zero small all = absurd (omega (arith, small))
    by_halvings (suc h) small all = record {
      looked = before.looked + 1;
      halvings = h;
      left_is = omega (arith, small, two-pow-succ h);
      all = omega arith;
      read = looks_more before.read one;
    }

-- one look more, where something is left
pub halved_look : {strings places : Part} {r s t : Reads} {left most : ℕ} → 0 < left → Halved strings places r s left most → ReadLooks strings places s t 1 → ReadLooks strings places r t most
halved_look {strings} {places} {r} {s} {t} {left} {most} some before one =
    let more = halved_more {less = 0} some (omega arith) before one in
    looks_wider (omega (arith, more.all)) more.read

pub halved_done : {strings places : Part} {r s : Reads} {left most : ℕ} → Halved strings places r s left most → ReadLooks strings places r s most
halved_done {strings} {places} {r} {s} {left} {most} before = looks_wider (omega (arith, before.all)) before.read
