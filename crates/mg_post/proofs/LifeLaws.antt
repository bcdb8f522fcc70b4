-- The pages that a cursor enters over its life.
use Rattle.std.proofs.Common.{arith, ◌≡◌, ◌+◌, ◌*◌, ◌-◌, ◌≤◌, ◌<◌, ◌^◌, ℕ, zero, suc, true, List, [], ◌∷◌, length, ap, ◌∙◌, inl, inr, Option, Some, None, Ok, Err}
use Rattle.std.specs.Prelude.{Result, Contains, slice_index_or}
use Rattle.std.specs.List.{list_any}
use Rattle.std.proofs.lemmas.Bool.{cases_lt, or_left, or_right}
use Rattle.mg_dev.specs.Files.{Files, Reads}
use Rattle.mg_dev.specs.declared.part.Part.TheVariants.{Post}
use Rattle.mg_dev.specs.declared.part_err.PartErr.{PartErr}
use Rattle.mg_defs.specs.declared.Posting.{Posting}
use Rattle.mg_defs.specs.Lists.{InRange, block_count}
use Rattle.mg_defs.specs.PageBounds.{in_range, met_pages}
use Rattle.mg_laws.proofs.BoundLaws.{range_true, met_rises, met_enters, met_whole, list_few}
use Rattle.mg_laws.proofs.MetBlocks.{few_postings, met_all}
use Rattle.mg_post.specs.Finding.{entries_pages}
use Rattle.mg_post.specs.Cursor.{Cursoring, CursorStands, SameList, entered_pages, post_pages, Enters, EntersFor, ReadsBlock, ReadsTwo, SkipRises, skip_pages}
use Rattle.mg_post.specs.TermLists.{IsAmong, EnteredFor}

-- in a call that was answered
pub entered_more : (asked : List ℕ) (ps : List Posting) (c v : Cursoring) (doc : ℕ) (found : Option Posting) → IsAmong asked ps doc → SameList c v →
    c.reached ≤ v.reached → Enters (Ok found) ps c doc v → EnteredFor asked ps c → EnteredFor asked ps v
entered_more asked ps c v doc found may same forward enters before =
    omega (
      arith,
      most,
      ap (λ x. met_pages asked x (8 * v.post_at) v.reached ps) same.parameter,
      ap (λ x. met_pages asked c.parameter (8 * x) v.reached ps) same.post_at,
    )
  where
    by_found : (o : Option Posting) → EntersFor o ps c doc v → entered_pages v ≤ met_pages asked c.parameter (8 * c.post_at) v.reached ps
    by_found None still = omega (arith, still, before, met_rises asked c.parameter (8 * c.post_at) c.reached v.reached ps forward)
    by_found (Some p) entered =
        omega (
          arith,
          entered.pages,
          before,
          met_enters asked c.parameter (8 * c.post_at) c.reached entered.block ps entered.before (may entered.block entered.range),
          ap (λ n. met_pages asked c.parameter (8 * c.post_at) n ps) entered.reached,
        )

    most : entered_pages v ≤ met_pages asked c.parameter (8 * c.post_at) v.reached ps
    most =
        elim (cases_lt c.last doc) [
          | inl past ↦ by_found found (enters.1 past)
          | inr here ↦ omega (arith, enters.0 here, before, met_rises asked c.parameter (8 * c.post_at) c.reached v.reached ps forward)
        ]

-- in a call that was refused, too
pub entered_most : (asked : List ℕ) (ps : List Posting) (c v : Cursoring) (doc : ℕ) (r : Result (Option Posting) PartErr) → IsAmong asked ps doc →
    Enters r ps c doc v → EnteredFor asked ps c → entered_pages v ≤ met_pages asked c.parameter (8 * c.post_at) (block_count (length ps)) ps
entered_most asked ps c v doc (Ok found) may enters before =
    elim (cases_lt c.last doc) [
      | inl past ↦ by_found found (enters.1 past)
      | inr here ↦ omega (arith, enters.0 here, before, met_all asked c.parameter (8 * c.post_at) c.reached ps)
    ]
  where
    by_found : (o : Option Posting) → EntersFor o ps c doc v → entered_pages v ≤ met_pages asked c.parameter (8 * c.post_at) (block_count (length ps)) ps
    by_found None still = omega (arith, still, before, met_all asked c.parameter (8 * c.post_at) c.reached ps)
    by_found (Some p) entered = omega (
      arith,
      entered.pages,
      before,
      met_enters asked c.parameter (8 * c.post_at) c.reached entered.block ps entered.before (may entered.block entered.range),
      met_all asked c.parameter (8 * c.post_at) (entered.block + 1) ps,
    )
entered_most asked ps c v doc (Err refusal) may enters before =
    elim (cases_lt (entered_pages c) (entered_pages v)) [
      | inl more ↦ (let block : ReadsBlock ps c doc v = enters.1 more in
          omega (
            arith,
            block.most,
            before,
            met_enters asked c.parameter (8 * c.post_at) c.reached block.block ps block.before (may block.block block.range),
            met_all asked c.parameter (8 * c.post_at) (block.block + 1) ps,
          ))
      | inr same ↦ omega (arith, same, before, met_all asked c.parameter (8 * c.post_at) c.reached ps)
    ]

pub pages_few : (asked : List ℕ) (ps : List Posting) (files : Option Files) (c : Cursoring) → CursorStands c files ps →
    met_pages asked c.parameter (8 * c.post_at) (block_count (length ps)) ps < 2 ^ 50
pages_few asked ps files c stands =
    let few : length ps + 0 ≤ c.all = few_postings c.all 0 ps (omega arith) stands.list.entries.rises in
    let blocks : block_count (length ps) < 2 ^ 32 = omega (arith, few, stands.list.few) in
    omega (arith, met_whole asked c.parameter (8 * c.post_at) (block_count (length ps)) ps, list_few c.parameter (8 * c.post_at) (block_count (length ps)) ps stands.list.entries.small blocks)

pub entries_few : (skip_at docs : ℕ) → docs < 2 ^ 32 → entries_pages skip_at (block_count docs) < 2 ^ 50
entries_few skip_at docs few = grind (arith)

-- the count of Post rises by no more than the cursor's own
pub reads_after : (c v : Cursoring) (before now : Reads) → ReadsTwo c v before now → entered_pages v < 2 ^ 64 - 1 → now Post + post_pages c ≤ before Post + post_pages v
reads_after c v before now two small =
    let few : post_pages v < 2 ^ 64 - 1 = omega (arith, two.first, small) in
    omega (arith, two.post few, two.post_later)

-- and that of Skip, where the list has less than 2^32 postings
pub skips_after : (c v : Cursoring) (before now : Reads) → v.docs < 2 ^ 32 → skip_pages v ≤ entries_pages v.skip_at (block_count v.docs) →
    ReadsTwo c v before now → SkipRises c v before now
skips_after c v before now small third two =
    let few : skip_pages v < 2 ^ 64 - 1 = omega (arith, third, entries_few v.skip_at v.docs small) in
    omega (arith, two.skip few, two.skip_later)

-- a document that is one of those asked
pub among : (asked : List ℕ) (ps : List Posting) (doc : ℕ) → Contains asked doc → IsAmong asked ps doc
among asked ps doc there = λ k in_it. at k in_it asked there.0 there.1 there.2
  where
    at : (k : ℕ) → InRange k ps doc → (of : List ℕ) (j : ℕ) → j < length of → slice_index_or of j doc ≡ doc → list_any (in_range k ps) of ≡ true
    at k in_it [] j lt is = absurd (omega (arith, lt))
    at k in_it (a ∷ of) zero lt is = or_left (in_range k ps a) (list_any (in_range k ps) of) (ap (in_range k ps) is ∙ range_true k ps doc in_it)
    at k in_it (a ∷ of) (suc j) lt is = or_right (in_range k ps a) (list_any (in_range k ps) of) (at k in_it of j (omega (arith, lt)) is)

pub starts_entered : (asked : List ℕ) (ps : List Posting) (c : Cursoring) → entered_pages c ≡ 0 → EnteredFor asked ps c
starts_entered asked ps c none = omega (arith, none)
