-- Post and Skip, as far as they were compared with lists that are written anew.
use Rattle.std.proofs.Common.{◌≡◌, ◌+◌, ℕ, List, ◌++◌, length, take, drop, sym, ap, subst, ◌∙◌, append_assoc, length-append}
use Rattle.std.specs.declared.option.Option.{Option}
use Rattle.std.specs.List.{flat_map}
use Rattle.std.proofs.Math.Seq.{drop-append_seam, take-add, take-append_seam}
use Rattle.std.proofs.lemmas.List.{take-append-drop}
use Rattle.mg_dev.specs.declared.part.Part.TheVariants.{Post, Skip}
use Rattle.mg_dev.specs.declared.part_err.PartErr.{PartErr}
use Rattle.mg_dev.specs.declared.part_err.PartErr.TheVariants.{Device, Memory, Bad}
use Rattle.mg_dev.specs.Bads.{IsNotBad}
use Rattle.mg_dev.specs.Files.{Files, bytes_at}
use Rattle.mg_dev.specs.Names.{full_name}
use Rattle.mg_defs.proofs.StandRanges.{entries-append, lists-append}
use Rattle.mg_defs.specs.declared.Posting.{Posting}
use Rattle.mg_defs.specs.Bits.{as_bytes}
use Rattle.mg_defs.specs.Lists.{entry_bits, inverted, lists_bits, lists_entries}
use Rattle.mg_defs.specs.Split.{documents}
use Rattle.mg_layout.specs.Contents.{StandAt}
use Rattle.mg_check_index.specs.declared.lists.Places.{Places}
use Rattle.mg_check_index.specs.Listing.{AreBehind, BeginsAt, ListsAgree, ListsFollow, ListsStand, post_upto, skip_upto}
use Rattle.mg_check_parts.specs.Refusals.{Refutes}

-- ---- bytes that begin with others

begins_more : (bytes : List ℕ) (place after : ℕ) (front next all : List ℕ) → BeginsAt bytes place front → StandAt place next bytes →
    after ≡ place + length next → all ≡ front ++ next → BeginsAt bytes after all
begins_more bytes place after front next all begins stands after_is all_is = record {
  place_is = after_is ∙ ap (λ n. n + length next) begins.place_is ∙ sym (length-append front next) ∙ ap (λ (b : List ℕ). length b) (sym all_is);
  bytes_are =
      ap (λ n. take n bytes) after_is ∙ take-add place (length next) bytes ∙ ap (λ (b : List ℕ). b ++ take (length next) (drop place bytes)) begins.bytes_are
      ∙ ap (λ (b : List ℕ). front ++ b) stands ∙ sym all_is;
}

stands_behind : (bytes : List ℕ) (place : ℕ) (front next rest : List ℕ) → place ≡ length front → bytes ≡ (front ++ next) ++ rest → StandAt place next bytes
stands_behind bytes place front next rest place_is bytes_is =
    ap (λ (b : List ℕ). take (length next) (drop place b)) (bytes_is ∙ append_assoc front next rest)
    ∙ ap (λ n. take (length next) (drop n (front ++ (next ++ rest)))) place_is
    ∙ ap (λ (b : List ℕ). take (length next) b) (drop-append_seam front (next ++ rest))
    ∙ take-append_seam next rest

-- ---- a range of lists

abbrev range_of : List ℕ → ℕ → ℕ → List (List Posting)
range_of collection first count = take count (drop first (inverted collection))

post_more : (collection : List ℕ) (first count : ℕ) → post_upto (first + count) collection ≡ post_upto first collection
    ++ as_bytes (lists_bits (length (documents collection)) (range_of collection first count))
post_more collection first count =
    ap (λ ls. as_bytes (lists_bits (length (documents collection)) ls)) (take-add first count (inverted collection))
    ∙ lists-append (length (documents collection)) (take first (inverted collection)) (range_of collection first count)

skip_more : (collection : List ℕ) (first count : ℕ) →
    skip_upto (first + count) collection ≡ skip_upto first collection ++ as_bytes (flat_map entry_bits (lists_entries (length (documents collection)) (range_of collection first count)))
skip_more collection first count =
    ap (λ ls. as_bytes (flat_map entry_bits (lists_entries (length (documents collection)) ls))) (take-add first count (inverted collection))
    ∙ entries-append (length (documents collection)) (take first (inverted collection)) (range_of collection first count)

post_whole : (collection : List ℕ) (n : ℕ) → as_bytes (lists_bits (length (documents collection)) (inverted collection)) ≡ post_upto n collection
    ++ as_bytes (lists_bits (length (documents collection)) (drop n (inverted collection)))
post_whole collection n =
    ap (λ ls. as_bytes (lists_bits (length (documents collection)) ls)) (sym (take-append-drop n (inverted collection)))
    ∙ lists-append (length (documents collection)) (take n (inverted collection)) (drop n (inverted collection))

skip_whole : (collection : List ℕ) (n : ℕ) → as_bytes (flat_map entry_bits (lists_entries (length (documents collection)) (inverted collection))) ≡
    skip_upto n collection ++ as_bytes (flat_map entry_bits (lists_entries (length (documents collection)) (drop n (inverted collection))))
skip_whole collection n =
    ap (λ ls. as_bytes (flat_map entry_bits (lists_entries (length (documents collection)) ls))) (sym (take-append-drop n (inverted collection)))
    ∙ entries-append (length (documents collection)) (take n (inverted collection)) (drop n (inverted collection))

-- what follows agrees too
pub agree_more : (files : Option Files) (base collection : List ℕ) (first count all : ℕ) (before after : Places) → all ≡ length (documents collection) → ListsAgree files base collection first before →
    ListsFollow files base all (take count (drop first (inverted collection))) before →
    AreBehind all (take count (drop first (inverted collection))) before after → ListsAgree files base collection (first + count) after
agree_more files base collection first count all before after all_is agree follow behind =
    let some = range_of collection first count in
    let follows = subst (λ n. ListsFollow files base n some before) all_is follow in
    let ends = subst (λ n. AreBehind n some before after) all_is behind in
    record {
      post_is = begins_more (bytes_at files (full_name base Post)) before.post after.post (post_upto first collection) _ _ agree.post_is follows.post_is
          ends.post_is (post_more collection first count);
      skip_is = begins_more (bytes_at files (full_name base Skip)) before.skip after.skip (skip_upto first collection) _ _ agree.skip_is follows.skip_is
          ends.skip_is (skip_more collection first count);
    }

-- where the parts are the lists of a collection, those of a range follow those before it
pub stand_follow : (files : Option Files) (base collection : List ℕ) (first count all : ℕ) (before : Places) → all ≡ length (documents collection) →
    ListsAgree files base collection first before → ListsStand files base collection →
    ListsFollow files base all (take count (drop first (inverted collection))) before
stand_follow files base collection first count all before all_is agree stand =
    let some = range_of collection first count in
    let whole_post = stand.post ∙ post_whole collection (first + count)
    ∙ ap (λ (b : List ℕ). b ++ as_bytes (lists_bits (length (documents collection)) (drop (first + count) (inverted collection))))
    (post_more collection first count) in
    let whole_skip =
    stand.skip ∙ skip_whole collection (first + count) ∙ ap
    (λ (b : List ℕ). b ++ as_bytes (flat_map entry_bits (lists_entries (length (documents collection)) (drop (first + count) (inverted collection)))))
    (skip_more collection first count) in
    subst (λ n. ListsFollow files base n some before) (sym all_is)
    (record {
      post_is = stands_behind (bytes_at files (full_name base Post)) before.post (post_upto first collection) _ _ agree.post_is.place_is whole_post;
      skip_is = stands_behind (bytes_at files (full_name base Skip)) before.skip (skip_upto first collection) _ _ agree.skip_is.place_is whole_skip;
    })

-- ---- refusals

pub not_bad_refutes : (P : Type 0) (refusal : PartErr) → IsNotBad refusal → Refutes P refusal
not_bad_refutes P Device sure = tt
not_bad_refutes P Memory sure = tt
not_bad_refutes P (Bad bad) sure = absurd sure
