-- What a place may read of Post is the lesser of two bounds; and what is read of Skip.
use Rattle.std.proofs.Common.{arith, ◌≡◌, ◌≤◌, ◌<◌, ◌+◌, ℕ, List, [], ◌∷◌, ◌∙◌, ap, sym, get_or, sum_by, length, None, Some}
use Rattle.std.specs.Prelude.{slice_index_or}
use Rattle.std.proofs.Math.Nat.{le-min, min-le_left, min-le_right}
use Rattle.std.proofs.lemmas.List.Sums.{sum_by-le-sum_by}
use Rattle.std.specs.declared.option.Option.{Option}
use Rattle.std.specs.declared.result.Result.{Result}
use Rattle.mg_dev.specs.Files.{Files, Reads}
use Rattle.mg_dev.specs.declared.part_err.PartErr.{PartErr}
use Rattle.mg_defs.specs.declared.Posting.{Posting}
use Rattle.mg_defs.specs.Lists.{block_count, first_entry, postings}
use Rattle.mg_defs.specs.PageBounds.{asked_of, boolean_bound, pages_for}
use Rattle.mg_defs.specs.QueryTerms.{query_terms}
use Rattle.mg_defs.specs.Sat.{Query}
use Rattle.mg_defs.specs.Terms.{term_number}
use Rattle.mg_laws.proofs.MetBlocks.{number_is}
use Rattle.mg_post.specs.Cursor.{Cursoring, SameList, post_pages}
use Rattle.mg_post.specs.Finding.{entries_pages}
use Rattle.mg_post.specs.PagesOnce.{ReadsOnce, span_pages}
use Rattle.mg_post.specs.TermLists.{MayAsk, PagesWithin}
use Rattle.mg_post.proofs.CallerLemmas.{span_is}
use Rattle.mg_query.specs.QueryOf.{query_of}
use Rattle.mg_bool.specs.Calls.{SkipsWithin, place_entries, place_skips, skips_read}
use Rattle.mg_bool.specs.Matches.{Matching, MatchesOver, query_bound}
use Rattle.mg_bool.specs.Places.{Place, PlaceFor, SamePlace, place_bound, term_entries}
use Rattle.mg_bool.specs.Shown.{SameLists}
use Rattle.mg_bool.proofs.AskLaws.{sums_within}

pub both_within : (collection asked t : List ℕ) (count : ℕ) → count ≤ pages_for collection asked t → count ≤ span_pages collection t → count ≤ place_bound collection asked t
unfolding place_bound
both_within collection asked t count blocks span = le-min blocks span

place_in_blocks : (collection asked t : List ℕ) → place_bound collection asked t ≤ pages_for collection asked t
unfolding place_bound
place_in_blocks collection asked t = min-le_left (pages_for collection asked t) (span_pages collection t)

place_in_span : (collection asked t : List ℕ) → place_bound collection asked t ≤ span_pages collection t
unfolding place_bound
place_in_span collection asked t = min-le_right (pages_for collection asked t) (span_pages collection t)

pub within_blocks : (collection : List ℕ) (q : Query) → query_bound collection q ≤ boolean_bound collection q
unfolding query_bound boolean_bound
within_blocks collection q = sum_by-le-sum_by (place_bound collection (asked_of collection q)) (pages_for collection (asked_of collection q)) (query_terms q)
    (place_in_blocks collection (asked_of collection q))

pub within_spans : (collection : List ℕ) (q : Query) → query_bound collection q ≤ sum_by (span_pages collection) (query_terms q)
unfolding query_bound
within_spans collection q = sum_by-le-sum_by (place_bound collection (asked_of collection q)) (span_pages collection) (query_terms q)
    (place_in_span collection (asked_of collection q))

-- what is within the lesser is within the blocks
pub in_blocks : (collection : List ℕ) (q : Query) {old new : ℕ} {before now : Reads} → ((c : List ℕ) (p : Query) → query_bound c p ≤ boolean_bound c p) →
    PagesWithin (query_bound collection q) old new before now → PagesWithin (boolean_bound collection q) old new before now
in_blocks collection q law pages = record { within = omega (arith, law collection q, pages.within); post = pages.post }

-- a cursor was asked, whatever it answered
pub asked_within : {base collection asked t : List ℕ} {doc : ℕ} {files : Option Files} {c v : Cursoring} {r : Result (Option Posting) PartErr} {before now : Reads} →
    MayAsk base collection asked t doc files c → SameList c v → ReadsOnce (postings collection t) v r →
    PagesWithin (pages_for collection asked t) (post_pages c) (post_pages v) before now →
    PagesWithin (place_bound collection asked t) (post_pages c) (post_pages v) before now
asked_within {base} {collection} {asked} {t} {doc} {files} {c} {v} may same once pages = record {
  within = both_within collection asked t _ pages.within (omega (arith, once.most, span_is base collection asked t doc c v may.cursor same));
  post = pages.post;
}

-- ---- the pages of Skip

-- the entries of a place's list are those of the list of its term
place_told : (base collection asked t : List ℕ) (n : ℕ) (p : Place) → PlaceFor base collection asked t n p → place_entries p ≤ term_entries collection t
unfolding term_entries
place_told base collection asked t n None f = omega arith
place_told base collection asked t n (Some c) f =
    omega (
      arith,
      ap (λ x. entries_pages x (block_count c.docs)) (f.over.skip_at_is ∙ ap (first_entry collection) (sym (number_is collection f.number t f.term))),
      ap (λ d. entries_pages (first_entry collection (term_number collection t)) (block_count d)) f.over.docs_is,
    )

same_entries : (p q : Place) → SamePlace p q → place_entries q ≡ place_entries p
same_entries None None same = omega arith
same_entries None (Some v) same = absurd same
same_entries (Some c) None same = absurd same
same_entries (Some c) (Some v) same = ap (λ x. entries_pages x (block_count v.docs)) same.skip_at ∙ ap (λ d. entries_pages c.skip_at (block_count d)) same.docs

pub skips_told : (base collection : List ℕ) (m now : Matching) → MatchesOver base collection m → SameLists m now → SkipsWithin now.places →
    skips_read now.places ≤ sum_by (term_entries collection) (query_terms (query_of m.asks))
skips_told base collection m now over same within =
    let ts = query_terms (query_of m.asks) in
    let size : length now.places ≡ length ts = same.places.size ∙ over.each.size in
    sums_within place_skips (term_entries collection) now.places ts size (λ k lt.
    omega (
      arith,
      within k (omega (arith, lt, size)),
      same_entries (slice_index_or m.places k None) (slice_index_or now.places k None) (same.places.each k),
      place_told base collection (asked_of collection (query_of m.asks)) (get_or ts k []) (m.decided + 1) (slice_index_or m.places k None) (over.each.each k lt),
    ))
