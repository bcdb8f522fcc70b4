-- Each page of Post is read at most once over a cursor's life.
use Rattle.std.proofs.Common.{arith, ◌≡◌, ◌+◌, ◌*◌, ◌-◌, ◌^◌, ◌≤◌, ◌<◌, ℕ, zero, suc, List, take, drop, length, min, Option, Some, None, Ok, Err, refl, sym, ◌∙◌, ap, subst, length-append, inl, inr}
use Rattle.std.proofs.Math.Seq.{take-add}
use Rattle.std.proofs.lemmas.Bool.{cases_lt}
use Rattle.std.proofs.lemmas.List.{take_all}
use Rattle.mg_bits.specs.Feed.{held_after, lacks, to_read}
use Rattle.mg_bits.specs.Pages.{Paging, feeding_of}
use Rattle.mg_defs.specs.declared.Posting.{Posting}
use Rattle.mg_defs.specs.Lists.{bits_after, bits_before, block_count, block_pages, last_doc}
use Rattle.mg_defs.specs.PageBounds.{whole_pages}
use Rattle.mg_defs.specs.PagesOf.{page_at, pages}
use Rattle.mg_defs.proofs.ListLaws.{bits_append}
use Rattle.mg_defs.proofs.PageLaws.{pages_none, pages_of_both, pages_some, pages_within}
use Rattle.mg_laws.proofs.BoundLaws.{whole_more}
use Rattle.mg_post.specs.Cursor.{Cursoring}
use Rattle.mg_post.specs.Finding.{ReadTo}
use Rattle.mg_post.specs.PagesOnce.{PostReads, ReadsBlocks, ReadsOn, ReadsOnce, front_pages}
use Rattle.mg_post.specs.declared.refusal.Refusal.{Refusal}
use Rattle.mg_post.proofs.FindLaws.{read_next}

-- more postings have no fewer bits
bits_rise : (b m n : ℕ) (ps : List Posting) → m ≤ n → bits_before b m ps ≤ bits_before b n ps
unfolding bits_before
bits_rise b m n ps le =
    let more = n - m in
    let is : n ≡ m + more = omega (arith, le) in
    let one : take n ps ≡ take (m + more) ps = ap (λ k. take k ps) is in
    let parts = ap (bits_after b 0) (one ∙ take-add m more ps) ∙ bits_append b 0 (take m ps) (take more (drop m ps)) in
    omega (
      arith,
      ap length parts,
      length-append (bits_after b 0 (take m ps)) (bits_after b (last_doc 0 (take m ps)) (take more (drop m ps))),
    )

pub blocks_rise : (at b m n : ℕ) (ps : List Posting) → m ≤ n →
    at + bits_before b (64 * m) ps ≤ at + bits_before b (64 * n) ps
blocks_rise at b m n ps le = omega (arith, bits_rise b (64 * m) (64 * n) ps (omega (arith, le)))

-- no blocks have more bits than those of the whole list
pub whole_rises : (at b n docs : ℕ) (ps : List Posting) → docs ≡ length ps → at + bits_before b (64 * n) ps ≤ at + bits_before b (64 * block_count docs) ps
unfolding bits_before
whole_rises at b n docs ps is =
    elim (cases_lt (block_count docs) n) [
      | inl past ↦ (let whole : bits_before b (64 * n) ps ≡ bits_before b (64 * block_count docs) ps = all_bits b (64 * n) (64 * block_count docs) ps
          (omega (arith, is, past)) (omega (arith, is)) in omega (arith, whole))
      | inr within ↦ blocks_rise at b n (block_count docs) ps within
    ]
  where
    all_bits : (b m n : ℕ) (ps : List Posting) → length ps ≤ m → length ps ≤ n → bits_before b m ps ≡ bits_before b n ps
    all_bits b m n ps some more = ap (λ l. length (bits_after b 0 l)) (take_all m ps some ∙ sym (take_all n ps more))

no_bits : (b : ℕ) (ps : List Posting) → bits_before b (64 * zero) ps ≡ 0
unfolding bits_before bits_after
no_bits b ps = refl

-- the pages of the first blocks are no more than those of each of them
pub blocks_whole : (b at n : ℕ) (ps : List Posting) → pages at (at + bits_before b (64 * n) ps) ≤ whole_pages b at n ps
unfolding block_pages
blocks_whole b at zero ps = omega (arith, pages_none at (at + bits_before b (64 * zero) ps) (omega (arith, no_bits b ps)))
blocks_whole b at (suc n) ps =
    let from = at + bits_before b (64 * n) ps in
    let to = at + bits_before b (64 * (n + 1)) ps in
    let is : suc n ≡ n + 1 = omega arith in
    rw is (omega (arith, blocks_whole b at n ps, whole_more b at n ps, pages_of_both at from to (omega arith) (blocks_rise at b n (n + 1) ps (omega arith))))

page_rise : (a b : ℕ) → a ≤ b → page_at a ≤ page_at b
page_rise a b le = omega (arith, le)

-- ---- a range that is read on

-- where the range has no bit
pub range_none : (held : Option ℕ) (a b : ℕ) → b ≤ a → (to_read 4096 held a b ≡ 0) × (held_after 4096 held a b ≡ held)
range_none held a b le = grind (arith, le)

-- where it has some
pub range_some : (held : Option ℕ) (a b : ℕ) → a < b →
    (to_read 4096 held a b ≡ page_at (b - 1) - page_at a + lacks held (page_at a)) × (held_after 4096 held a b ≡ Some (page_at (b - 1)))
range_some held a b lt = grind (arith, lt)

-- ---- pages up to one

read_later : (first p q count now : ℕ) (held : Option ℕ) → p ≤ q → now ≤ count → ReadTo first p held count → ReadTo first q held now
read_later first p q count now None le few read = omega (arith, few, read)
read_later first p q count now (Some h) le few read = (omega (arith, few, read.0), omega (arith, le, read.1))

-- nothing was read yet
pub starts_once : (at b : ℕ) (ps : List Posting) (held : Option ℕ) (count : ℕ) → held ≡ None → count ≡ 0 → ReadsBlocks at b 0 ps held count
starts_once at b ps held count is none = record {
  read = subst (λ h. ReadTo (page_at at) (page_at (at + bits_before b (64 * 0) ps - 1)) h count) (sym is) none;
  none = λ no. none;
}

-- and for more blocks
blocks_later : (at b m n : ℕ) (ps : List Posting) (held : Option ℕ) (count now : ℕ) → m ≤ n → now ≤ count →
    ReadsBlocks at b m ps held count → ReadsBlocks at b n ps held now
blocks_later at b m n ps held count now le few reads = record {
  read = read_later (page_at at) _ _ count now held (page_rise _ _ (omega (arith, blocks_rise at b m n ps le))) few reads.read;
  none = λ no. omega (arith, few, reads.none (omega (arith, no, bits_rise b (64 * m) (64 * n) ps (omega (arith, le)))));
}

-- no more pages than the blocks lie on
pub blocks_pages : (at b n : ℕ) (ps : List Posting) (held : Option ℕ) (count : ℕ) → ReadsBlocks at b n ps held count →
    count ≤ pages at (at + bits_before b (64 * n) ps)
blocks_pages at b n ps held count reads =
    elim (cases_lt 0 (bits_before b (64 * n) ps)) [
      | inl some ↦ by_held held reads.read some
      | inr none ↦ omega (arith, reads.none (omega (arith, none)))
    ]
  where
    by_held : (h : Option ℕ) → ReadTo (page_at at) (page_at (at + bits_before b (64 * n) ps - 1)) h count → 0 < bits_before b (64 * n) ps →
        count ≤ pages at (at + bits_before b (64 * n) ps)
    by_held None read some = omega (arith, read)
    by_held (Some h) read some = omega (arith, read.0, read.1, pages_some at (at + bits_before b (64 * n) ps) (omega (arith, some)))

-- the pages up to the last one of a block that is read on
reads_up : (at b m k : ℕ) (ps : List Posting) (held : Option ℕ) (count now : ℕ) → m ≤ k →
    at + bits_before b (64 * k) ps < at + bits_before b (64 * (k + 1)) ps →
    now ≤ count + to_read 4096 held (at + bits_before b (64 * k) ps) (at + bits_before b (64 * (k + 1)) ps) →
    ReadsBlocks at b m ps held count →
    now + page_at at ≤ page_at (at + bits_before b (64 * (k + 1)) ps - 1) + 1
reads_up at b m k ps held count now le some step reads =
    let from = at + bits_before b (64 * k) ps in
    let to = at + bits_before b (64 * (k + 1)) ps in
    let low : page_at at ≤ page_at from = page_rise at from (omega arith) in
    let high : page_at (at + bits_before b (64 * m) ps - 1) ≤ page_at from = page_rise _ _ (omega (arith, blocks_rise at b m k ps le)) in
    let there : page_at from ≤ page_at (to - 1) = page_rise from (to - 1) (omega (arith, some)) in
    let first = read_next (page_at at) _ (page_at from) count (count + lacks held (page_at from)) held reads.read low high (omega arith) in
    omega (arith, first, there, step, (range_some held from to some).0)

-- the block behind those, or a later one, is read on
blocks_next : (at b m k : ℕ) (ps : List Posting) (held new_held : Option ℕ) (count now : ℕ) → m ≤ k →
    now ≤ count + to_read 4096 held (at + bits_before b (64 * k) ps) (at + bits_before b (64 * (k + 1)) ps) →
    new_held ≡ held_after 4096 held (at + bits_before b (64 * k) ps) (at + bits_before b (64 * (k + 1)) ps) →
    ReadsBlocks at b m ps held count → ReadsBlocks at b (k + 1) ps new_held now
blocks_next at b m k ps held new_held count now le step is reads =
    elim (cases_lt (at + bits_before b (64 * k) ps) (at + bits_before b (64 * (k + 1)) ps)) [
      | inl some ↦ (
          let last = page_at (at + bits_before b (64 * (k + 1)) ps - 1) in
          let here : new_held ≡ Some last = is ∙ (range_some held _ _ some).1 in
          let fact : ReadTo (page_at at) last (Some last) now = (reads_up at b m k ps held count now le some step reads, omega arith) in
          record {
            read = subst (λ h. ReadTo (page_at at) last h now) (sym here) fact;
            none = λ no. absurd (omega (arith, no, some));
          })
      | inr none ↦ (
          let same : new_held ≡ held = is ∙ (range_none held _ _ none).1 in
          let few : now ≤ count = omega (arith, step, (range_none held (at + bits_before b (64 * k) ps) (at + bits_before b (64 * (k + 1)) ps) none).0) in
          subst (λ h. ReadsBlocks at b (k + 1) ps h now) (sym same) (blocks_later at b m (k + 1) ps held count now (omega (arith, le)) few reads))
    ]

-- and where that is refused, no more pages are read than up to its last bit
blocks_most : (at b m k : ℕ) (ps : List Posting) (held : Option ℕ) (count now : ℕ) → m ≤ k →
    now ≤ count + to_read 4096 held (at + bits_before b (64 * k) ps) (at + bits_before b (64 * (k + 1)) ps) →
    ReadsBlocks at b m ps held count → now ≤ pages at (at + bits_before b (64 * (k + 1)) ps)
blocks_most at b m k ps held count now le step reads =
    blocks_pages at b (k + 1) ps (held_after 4096 held _ _) now
    (blocks_next at b m k ps held (held_after 4096 held (at + bits_before b (64 * k) ps) (at + bits_before b (64 * (k + 1)) ps)) count now le step refl reads)

-- ---- of a cursor

front_rises : (c : Cursoring) (m n : ℕ) (ps : List Posting) → m ≤ n → front_pages c m ps ≤ front_pages c n ps
front_rises c m n ps le = pages_within _ _ _ _ (omega arith) (blocks_rise (8 * c.post_at) c.parameter m n ps le)

-- a call that was answered
pub once_answered : (c : Cursoring) (ps : List Posting) (found : Option Posting) → c.reached ≤ block_count c.docs → PostReads c ps → ReadsOnce ps c (Ok found)
once_answered c ps found le reads =
    let most : c.post.count ≤ front_pages c c.reached ps = blocks_pages (8 * c.post_at) c.parameter c.reached ps c.post.held c.post.count reads in
    record { again = reads; reached = omega (arith, most); most = omega (arith, most, front_rises c c.reached (block_count c.docs) ps le) }

-- a block was entered
pub once_read : {T : Type 0} (x : T) (c : Cursoring) (post : Paging) (k : ℕ) (ps : List Posting) → c.reached ≤ k →
    ReadsOn (8 * c.post_at + bits_before c.parameter (64 * k) ps) (8 * c.post_at + bits_before c.parameter (64 * (k + 1)) ps) (Ok x)
    (feeding_of 4096 c.post) (feeding_of 4096 post) → PostReads c ps → PostReads (record c { post = post; reached = k + 1 }) ps
once_read x c post k ps le on reads =
    blocks_next (8 * c.post_at) c.parameter c.reached k ps c.post.held post.held c.post.count post.count le on.count on.held reads

-- the reading of a block was refused
pub once_refused : {T : Type 0} (refusal : Refusal) (c : Cursoring) (post : Paging) (k : ℕ) (ps : List Posting) → c.reached ≤ k → k < block_count c.docs →
    ReadsOn {T = T} (8 * c.post_at + bits_before c.parameter (64 * k) ps) (8 * c.post_at + bits_before c.parameter (64 * (k + 1)) ps) (Err refusal)
    (feeding_of 4096 c.post) (feeding_of 4096 post) → PostReads c ps → min post.count (2 ^ 64 - 1) ≤ front_pages c (block_count c.docs) ps
once_refused refusal c post k ps le there on reads =
    let most = blocks_most (8 * c.post_at) c.parameter c.reached k ps c.post.held c.post.count post.count le on.count reads in
    omega (arith, most, front_rises c (k + 1) (block_count c.docs) ps (omega (arith, there)))

-- all blocks were passed
pub once_past : (c : Cursoring) (blocks : ℕ) (ps : List Posting) → c.reached ≤ blocks → PostReads c ps → PostReads (record c { reached = blocks }) ps
once_past c blocks ps le reads = blocks_later (8 * c.post_at) c.parameter c.reached blocks ps c.post.held c.post.count c.post.count le (omega arith) reads
