-- Reading one range of bits after another.
use Rattle.std.proofs.Common.{arith, suc, ◌≡◌, ◌+◌, ◌*◌, ◌≤◌, ◌<◌, ◌-◌, ◌/◌, ◌%◌, ℕ, Some, refl, sym, ◌∙◌, ap, ◌⊎◌, inl, inr, zero-add, add-zero}
use Rattle.std.specs.declared.option.Option.{Option}
use Rattle.std.proofs.lemmas.Grind.{common_steps}
use Rattle.std.proofs.Math.Nat.{lt-div-mul-add, div-mul-le_self, div-div-eq-div-mul}
use Rattle.mg_bits.proofs.Places.{to_read_place, to_read_here}
use Rattle.std.proofs.lemmas.Nat.{le-div, div_below}
use Rattle.mg_bits.specs.Feed.{page_of, lacks, to_read, held_after, raised, Calm, ReadsWithin, Read, ReadPart, Feeding, Device}

-- the page of the next place is the same or the next one
pub next_page : (width place : ℕ) → 0 < width → suc place / width ≤ place / width + 1
next_page width place some =
    let below : place < place / width * width + width = lt-div-mul-add some in
    let lt : suc place / width < place / width + 2 = div_below (suc place) width (place / width + 2) some (omega arith) in
    omega arith

pub page_mono : (width a b : ℕ) → 0 < width → a ≤ b → a / width ≤ b / width
page_mono width a b some le = le-div (a / width) b width some (omega (arith, div-mul-le_self a width))

pub lacks_next : (a b : ℕ) → a ≤ b → b ≤ a + 1 → lacks (Some a) b ≡ b - a
lacks_next a b le next = grind (arith, common_steps)

pub to_read_none : (page : ℕ) (held : Option ℕ) (a : ℕ) → to_read page held a a ≡ 0
to_read_none page held a = grind (arith, common_steps)

pub to_read_some : (page : ℕ) (held : Option ℕ) (a b : ℕ) → a < b → to_read page held a b ≡ page_of page (b - 1) - page_of page a + lacks held (page_of page a)
to_read_some page held a b lt = grind (arith, common_steps)

pub held_after_some : (page : ℕ) (held : Option ℕ) (a b : ℕ) → a < b → held_after page held a b ≡ Some (page_of page (b - 1))
held_after_some page held a b lt = grind (arith, common_steps)

pub held_after_none : (page : ℕ) (held : Option ℕ) (a : ℕ) → held_after page held a a ≡ held
held_after_none page held a = grind (arith, common_steps)

-- pages read for one range and then the next are those of both
pub to_read_more : (page : ℕ) (held : Option ℕ) (a p q : ℕ) → 0 < page → a ≤ p → p ≤ q →
    to_read page held a p + to_read page (held_after page held a p) p q ≡ to_read page held a q
to_read_more page held a p q some ap pq =
    elim (split a p ap) [
      | inl same ↦ rw (← same, to_read_none page held a, held_after_none page held a) (zero-add _)
      | inr first ↦ elim (split p q pq) [
        | inl same ↦ rw (← same, to_read_none page (held_after page held a p) p) (add-zero _)
        | inr second ↦ to_read_both page held a p q some first second
      ]
    ]
  where
    split : (x y : ℕ) → x ≤ y → (x ≡ y) ⊎ (x < y)
    split x y le = grind arith

    to_read_both : (page : ℕ) (held : Option ℕ) (a p q : ℕ) → 0 < page → a < p → p < q →
        to_read page held a p + to_read page (held_after page held a p) p q ≡ to_read page held a q
    to_read_both page held a p q some first second =
        let width : 0 < 8 * page = omega arith in
        let m1 : page_of page a ≤ page_of page (p - 1) = page_mono (8 * page) a (p - 1) width (omega arith) in
        let m2 : page_of page p ≤ page_of page (q - 1) = page_mono (8 * page) p (q - 1) width (omega arith) in
        let m3 : page_of page (p - 1) ≤ page_of page p = page_mono (8 * page) (p - 1) p width (omega arith) in
        let e : suc (p - 1) ≡ p = omega arith in
        let m4 : page_of page p ≤ page_of page (p - 1) + 1 = rw e at (next_page (8 * page) (p - 1) width) in
        let l : lacks (Some (page_of page (p - 1))) (page_of page p) ≡ page_of page p - page_of page (p - 1) = lacks_next _ _ m3 m4 in
        let third : a < q = omega arith in
        rw (held_after_some page held a p first, to_read_some page held a p first, to_read_some page (Some (page_of page (p - 1))) p q second, to_read_some page held a q third, l)
        (omega arith)

pub held_after_more : (page : ℕ) (held : Option ℕ) (a p q : ℕ) → a ≤ p → p ≤ q →
    held_after page (held_after page held a p) p q ≡ held_after page held a q
held_after_more page held a p q ap pq = grind (arith, common_steps)

pub calm_none : (f : Feeding) (d : Device) → Calm f f d d
calm_none f d = record {
  source = refl;
  part = refl;
  page = refl;
  files = refl;
  faults = omega arith;
  reads = record { later = λ part. omega arith; others = λ part differs. refl };
  counted = record { later = omega arith; exact = λ part own small. omega arith };
}

raised_more : (r s t a b c : ℕ) → a ≤ b → b ≤ c → s ≡ raised r (b - a) → t ≡ raised s (c - b) → t ≡ raised r (c - a)
raised_more r s t a b c ab bc one two = omega arith

pub calm_more : (f0 f1 f2 : Feeding) (d0 d1 d2 : Device) → Calm f0 f1 d0 d1 → Calm f1 f2 d1 d2 → Calm f0 f2 d0 d2
calm_more f0 f1 f2 d0 d1 d2 one two = record {
  source = two.source ∙ one.source;
  part = two.part ∙ one.part;
  page = two.page ∙ one.page;
  files = two.files ∙ one.files;
  faults = omega arith;
  reads = record {
    later = λ part. omega (arith, one.reads.later part, two.reads.later part);
    others = λ part differs. two.reads.others part (λ same. differs (sym one.part ∙ same)) ∙ one.reads.others part differs;
  };
  counted = record {
    later = omega (arith, one.counted.later, two.counted.later);
    exact = λ part own small.
        raised_more (d0.reads part) (d1.reads part) (d2.reads part) f0.count f1.count f2.count one.counted.later two.counted.later
        (one.counted.exact part own (omega (arith, two.counted.later, small))) (two.counted.exact part (one.part ∙ own) small);
  };
}

pub read_none : (f : Feeding) (d : Device) (a : ℕ) → Read f f d d a a
read_none f d a = record {
  calm = calm_none f d;
  pages = record { device = λ part own. omega arith; feed = omega arith };
  held = sym (held_after_none f.page f.held a);
}

-- the pages of a range and of the next one
pub within_more : (f0 f1 f2 : Feeding) (d0 d1 d2 : Device) (a p q : ℕ) → 0 < f0.page → a ≤ p → p ≤ q →
    f1.part ≡ f0.part → f1.page ≡ f0.page → f1.held ≡ held_after f0.page f0.held a p →
    ReadsWithin f0 f1 d0 d1 a p → ReadsWithin f1 f2 d1 d2 p q → ReadsWithin f0 f2 d0 d2 a q
within_more f0 f1 f2 d0 d1 d2 a p q some ap pq part page held one two =
    let sum : to_read f0.page f0.held a p + to_read f0.page (held_after f0.page f0.held a p) p q ≡ to_read f0.page f0.held a q = to_read_more f0.page f0.held a p q some ap pq in
    record {
      device = λ any own.
          let first : d1.reads any ≤ d0.reads any + to_read f0.page f0.held a p = one.device any own in
          let second : d2.reads any ≤ d1.reads any + to_read f1.page f1.held p q = two.device any (part ∙ own) in
          let second : d2.reads any ≤ d1.reads any + to_read f0.page (held_after f0.page f0.held a p) p q = rw (page, held) at second in
          omega arith;
      feed =
          let first : f1.count ≤ f0.count + to_read f0.page f0.held a p = one.feed in
          let second : f2.count ≤ f1.count + to_read f1.page f1.held p q = two.feed in
          let second : f2.count ≤ f1.count + to_read f0.page (held_after f0.page f0.held a p) p q = rw (page, held) at second in
          omega arith;
    }

-- the pages of a longer range
pub within_wider : (f0 f1 : Feeding) (d0 d1 : Device) (a p q : ℕ) → 0 < f0.page → a ≤ p → p ≤ q → ReadsWithin f0 f1 d0 d1 a p → ReadsWithin f0 f1 d0 d1 a q
within_wider f0 f1 d0 d1 a p q some le1 le2 one =
    let sum : to_read f0.page f0.held a p + to_read f0.page (held_after f0.page f0.held a p) p q ≡ to_read f0.page f0.held a q = to_read_more f0.page f0.held a p q some le1 le2 in
    record {
      device = λ any own. omega (arith, one.device any own, sum);
      feed = omega (arith, one.feed, sum);
    }

pub read_more : (f0 f1 f2 : Feeding) (d0 d1 d2 : Device) (a p q : ℕ) → 0 < f0.page → a ≤ p → p ≤ q →
    Read f0 f1 d0 d1 a p → Read f1 f2 d1 d2 p q → Read f0 f2 d0 d2 a q
read_more f0 f1 f2 d0 d1 d2 a p q some le1 le2 one two = record {
  calm = calm_more f0 f1 f2 d0 d1 d2 one.calm two.calm;
  pages = within_more f0 f1 f2 d0 d1 d2 a p q some le1 le2 one.calm.part one.calm.page one.held one.pages two.pages;
  held = two.held ∙ ap (λ n. held_after n f1.held p q) one.calm.page ∙ ap (λ h. held_after f0.page h p q) one.held ∙ held_after_more f0.page f0.held a p q le1 le2;
}

pub part_more : (f0 f1 f2 : Feeding) (d0 d1 d2 : Device) (a p q : ℕ) → 0 < f0.page → a ≤ p → p ≤ q →
    Read f0 f1 d0 d1 a p → ReadPart f1 f2 d1 d2 p q → ReadPart f0 f2 d0 d2 a q
part_more f0 f1 f2 d0 d1 d2 a p q some le1 le2 one two = record {
  calm = calm_more f0 f1 f2 d0 d1 d2 one.calm two.calm;
  pages = within_more f0 f1 f2 d0 d1 d2 a p q some le1 le2 one.calm.part one.calm.page one.held one.pages two.pages;
}

pub part_wider : (f0 f1 : Feeding) (d0 d1 : Device) (a p q : ℕ) → 0 < f0.page → a ≤ p → p ≤ q →
    ReadPart f0 f1 d0 d1 a p → ReadPart f0 f1 d0 d1 a q
part_wider f0 f1 d0 d1 a p q some le1 le2 one = record { calm = one.calm; pages = within_wider f0 f1 d0 d1 a p q some le1 le2 one.pages }

-- the bits of one byte lie on one page
pub same_page : (page place last : ℕ) → place ≤ last → place % 8 + (last - place) < 8 → page_of page last ≡ page_of page place
same_page page place last le fits =
    let e : last / 8 ≡ place / 8 = omega arith in
    sym (div-div-eq-div-mul last 8 page) ∙ ap (λ n. n / page) e ∙ div-div-eq-div-mul place 8 page

-- a piece of one byte: its pages are those of the byte
pub to_read_piece : (page : ℕ) (held : Option ℕ) (place count : ℕ) → 0 < count → place % 8 + count ≤ 8 →
    to_read page held place (place + count) ≡ lacks held (page_of page place)
to_read_piece page held place count any fits =
    let e : page_of page (place + count - 1) ≡ page_of page place = same_page page place (place + count - 1) (omega arith) (omega arith) in
    let lt : place < place + count = omega arith in
    rw (to_read_some page held place (place + count) lt) (omega arith)

pub held_piece : (page : ℕ) (held : Option ℕ) (place count : ℕ) → 0 < count → place % 8 + count ≤ 8 →
    held_after page held place (place + count) ≡ Some (page_of page place)
held_piece page held place count any fits =
    let e : page_of page (place + count - 1) ≡ page_of page place = same_page page place (place + count - 1) (omega arith) (omega arith) in
    let lt : place < place + count = omega arith in
    rw (held_after_some page held place (place + count) lt) (ap Some e)

-- the pages of a piece are those of the first bit of its byte
pub within_piece : (f0 f1 : Feeding) (d0 d1 : Device) (place count : ℕ) → 0 < count → place % 8 + count ≤ 8 →
    ReadsWithin f0 f1 d0 d1 (8 * (place / 8)) (8 * (place / 8) + 1) → ReadsWithin f0 f1 d0 d1 place (place + count)
within_piece f0 f1 d0 d1 place count any fits within =
    let e : to_read f0.page f0.held (8 * (place / 8)) (8 * (place / 8) + 1) ≡ to_read f0.page f0.held place (place + count) =
    to_read_place f0.page f0.held place ∙ to_read_here f0.page f0.held place ∙ sym (to_read_piece f0.page f0.held place count any fits) in
    record { device = λ part own. omega (arith, within.device part own, e); feed = omega (arith, within.feed, e) }

-- one more step of a loop that began at a
pub read_step : (f0 f1 f2 : Feeding) (d0 d1 d2 : Device) (a d t place : ℕ) → 0 < f0.page → place ≡ a + d →
    Read f0 f1 d0 d1 a (a + d) → Read f1 f2 d1 d2 place (place + t) → Read f0 f2 d0 d2 a (a + (d + t))
read_step f0 f1 f2 d0 d1 d2 a d t place some is one two =
    let e : place + t ≡ a + (d + t) = omega arith in
    let two : Read f1 f2 d1 d2 (a + d) (a + (d + t)) = rw (e, is) at two in
    read_more f0 f1 f2 d0 d1 d2 a (a + d) (a + (d + t)) some (omega arith) (omega arith) one two

pub part_step : (f0 f1 f2 : Feeding) (d0 d1 d2 : Device) (a d t place n : ℕ) → 0 < f0.page → place ≡ a + d → d + t ≤ n →
    Read f0 f1 d0 d1 a (a + d) → ReadPart f1 f2 d1 d2 place (place + t) → ReadPart f0 f2 d0 d2 a (a + n)
part_step f0 f1 f2 d0 d1 d2 a d t place n some is le one two =
    let e : place + t ≡ a + (d + t) = omega arith in
    let two : ReadPart f1 f2 d1 d2 (a + d) (a + (d + t)) = rw (e, is) at two in
    part_wider f0 f2 d0 d2 a (a + (d + t)) (a + n) some (omega arith) (omega arith)
    (part_more f0 f1 f2 d0 d1 d2 a (a + d) (a + (d + t)) some (omega arith) (omega arith) one two)
