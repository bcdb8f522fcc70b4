-- How often a file was read, as its bytes are read in order.
use Rattle.std.proofs.Common.{arith, ◌≡◌, ◌≢◌, ◌≤◌, ◌<◌, ◌+◌, ◌-◌, ◌*◌, ◌%◌, ◌∙◌, ℕ, List, length, refl, sym, ap, subst, Option, None, Some, inl, inr}
use Rattle.std.proofs.lemmas.Bool.{cases_lt}
use Rattle.mg_bits.specs.Feed.{held_after, page_of}
use Rattle.mg_bits.proofs.CallerLemmas.{held_after_some}
use Rattle.mg_defs.specs.PagesOf.{pages}
use Rattle.mg_defs.proofs.PageLaws.{pages_some}
use Rattle.mg_dev.specs.Causes.{Rose}
use Rattle.mg_dev.specs.Files.{Files, HasSize, bytes_at, file_at}
use Rattle.mg_dev.specs.Laws.{size_is}
use Rattle.mg_build.specs.Sources.{HasReadTo, IsOfOnePage, ReadsPages, TurnsTo}

-- the pages of the bytes up to one
pages_to : (n : ℕ) → pages 0 (8 * (n + 1)) ≡ page_of 4096 (8 * n) + 1
pages_to n = omega (arith, pages_some 0 (8 * (n + 1)) (omega arith))

no_pages : pages 0 (8 * 0) ≡ 0
no_pages = refl

-- nothing was read
pub read_nothing : (held : Option ℕ) (reads : ℕ) → held ≡ None → HasReadTo 0 held reads reads
read_nothing held reads none = record {
  none = λ is. none;
  last = λ more. absurd (omega (arith, more));
  reads = omega (arith, no_pages);
}

apart_none : (held held_now : Option ℕ) (q : ℕ) → held ≡ None → held_now ≡ Some q → held_now ≢ held
apart_none held held_now q one two same = cc

apart_pages : (held held_now : Option ℕ) (p q : ℕ) → held ≡ Some p → held_now ≡ Some q → p < q → held_now ≢ held
apart_pages held held_now p q one two less same = let e : p ≡ q = cc in omega (arith, less, e)

-- one byte more was read
module _ (at : ℕ) (held held_now : Option ℕ) (before mid now : ℕ) (so_far : HasReadTo at held before mid) (turn : TurnsTo at held held_now mid now) (later : mid ≤ now) where
  first : at ≡ 0 → ReadsPages (at + 1) before now
  first is =
      let rose : Rose mid now = turn.turned (apart_none held held_now (page_of 4096 (8 * at)) (so_far.none is) turn.held) in
      omega (arith, pages_to at, is, rose, so_far.reads)

  behind : 0 < at → ReadsPages (at + 1) before now
  behind more =
      let one : pages 0 (8 * at) ≡ page_of 4096 (8 * (at - 1)) + 1 = omega (arith, pages_some 0 (8 * at) (omega (arith, more))) in
      elim (cases_lt (page_of 4096 (8 * (at - 1))) (page_of 4096 (8 * at))) [
        | inl less ↦
            let rose : Rose mid now = turn.turned (apart_pages held held_now (page_of 4096 (8 * (at - 1))) (page_of 4096 (8 * at)) (so_far.last more) turn.held less) in
            omega (arith, pages_to at, one, rose, so_far.reads, less)
        | inr same ↦ omega (arith, pages_to at, one, later, so_far.reads, same)
      ]

  pub read_on : HasReadTo (at + 1) held_now before now
  read_on = record {
    none = λ is. absurd (omega (arith, is));
    last = λ more. turn.held ∙ ap (λ n. Some (page_of 4096 (8 * n))) (omega arith);
    reads = elim (cases_lt 0 at) [ inl more ↦ behind more | inr none ↦ first (omega (arith, none)) ];
  }

-- a page that has more bytes of them was read
pub read_page : {at count size : ℕ} {held held_now : Option ℕ} {before mid now : ℕ} → IsOfOnePage at count size → HasReadTo at held before mid →
    TurnsTo at held held_now mid now → mid ≤ now → HasReadTo (at + count) held_now before now
read_page {at} {count} {size} {held} {held_now} {before} {mid} {now} block so_far turn later =
    let one : HasReadTo (at + 1) held_now before now = read_on at held held_now before mid now so_far turn later in
    let last : at + count - 1 + 1 ≡ at + count = omega (arith, block.some) in
    record {
      none = λ is. absurd (omega (arith, is, block.some));
      last = λ more. turn.held ∙ ap (λ page. Some page) (sym block.page);
      reads = subst (λ n. ReadsPages n before now) last (omega (arith, pages_to at, pages_to (at + count - 1), block.page, one.reads));
    }

-- the rest of a page, up to a size
pub page_rest : (at count size : ℕ) → 0 < count → at + count ≤ size → count + at % 4096 ≤ 4096 → IsOfOnePage at count size
page_rest at count size some within room = record { some = some; within = within; page = omega (arith, some, room) }

-- its page is held when all of it was read
pub page_held : (at count size : ℕ) (held : Option ℕ) → IsOfOnePage at count size → held_after 4096 held (8 * at) (8 * (at + count)) ≡ Some (page_of 4096 (8 * at))
page_held at count size held block =
    let same : page_of 4096 (8 * (at + count) - 1) ≡ page_of 4096 (8 * at) = omega (arith, block.some, block.page) in
    held_after_some 4096 held (8 * at) (8 * (at + count)) (omega (arith, block.some)) ∙ ap (λ page. Some page) same

-- and it was turned to with the first of them
pub turned_held : {at : ℕ} {held one two : Option ℕ} {before mid now : ℕ} → TurnsTo at held one before mid → mid ≤ now → two ≡ Some (page_of 4096 (8 * at)) →
    TurnsTo at held two before now
turned_held {before = before} {mid} {now} turn later is = record {
  held = is;
  turned = λ other. let rose : Rose before mid = turn.turned (λ same. other (is ∙ sym turn.held ∙ same)) in omega (arith, rose, later);
}

-- ---- a collection, where it is told, has as many bytes as when it was opened

pub whole_read : (files : Option Files) (name : List ℕ) (size before mid now : ℕ) → HasSize files name size → ReadsPages size before mid → mid ≤ now →
    ReadsPages (length (bytes_at files name)) before now
unfolding file_at
whole_read None name size before mid now has reads later = omega (arith, no_pages, reads, later)
whole_read (Some f) name size before mid now has reads later =
    subst (λ n. ReadsPages n before now) (sym (size_is (Some f) name size (has refl))) (omega (arith, reads, later))
