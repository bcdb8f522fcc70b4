-- What the calls of a writer do to the lists that it was handed.
use Rattle.std.proofs.Common.{arith, zero, suc, ◌≡◌, ◌≢◌, ◌+◌, ◌-◌, ◌*◌, ◌%◌, ◌^◌, ◌≤◌, ◌<◌, ◌++◌, ℕ, List, []}
use Rattle.std.proofs.Common.{◌∷◌, length, refl, sym, ◌∙◌, ap, subst, ◌⊎◌, inl, inr, IsSome, is_some, unwrap_or, length-append, append_assoc, append-nil}
use Rattle.std.specs.Prelude.{flat_map}
use Rattle.std.specs.declared.option.Option.{Option}
use Rattle.std.proofs.lemmas.Grind.{flat_map-append}
use Rattle.std.proofs.lemmas.List.{take-append-le, take_all}
use Rattle.mg_dev.specs.Files.{Files, Reads, bytes_at}
use Rattle.mg_bits.specs.Writer.{AreBytes, Writing, Wrote, WroteTo, put_to}
use Rattle.mg_bits.specs.BitWriting.{BitWriting, Holds, WroteBits, bits_put}
use Rattle.mg_bits.proofs.CallerLemmas.{bits_stay, holds_stay, bytes_again}
use Rattle.mg_defs.specs.declared.Posting.{Posting}
use Rattle.mg_defs.specs.Bits.{Bits, bits_of, digits, filled, to_byte, as_bytes}
use Rattle.mg_defs.specs.Codes.{golomb_parameter}
use Rattle.mg_defs.specs.Lists.{SkipEntry, posting_bits, bits_after, last_doc, doc_before, bits_before, block_count}
use Rattle.mg_defs.specs.Lists.{entry_of, entries_to, entry_bits, bits_of_list, entries_of_list, lists_bits, lists_entries}
use Rattle.mg_defs.proofs.BitLaws.{length_digits}
use Rattle.mg_defs.proofs.ListLaws.{bits_append, entries_next, last_append, length_entries_to}
use Rattle.mg_post.specs.Writing.{Listing, Took, Finished, InBytes, entry_bytes, skip_entry}
use Rattle.mg_post.proofs.EntryBytes.{are_bytes_of, bits_of_entries}

pub told_back : (f g : Option Files) → is_some g ≡ is_some f → IsSome g → IsSome f
told_back f g e told = cc

-- what was put to a file stays over a call that writes another
put_stays : (w : BitWriting) (name : List ℕ) (f g : Option Files) (r s : Reads) → WroteTo name f g r s → w.name ≢ name → bits_put w g ≡ bits_put w f
put_stays w name f g r s wrote apart = bits_stay w f g (wrote.others w.name apart)

bytes_stay : (w : Writing) (name : List ℕ) (f g : Option Files) (r s : Reads) → WroteTo name f g r s → w.name ≢ name → put_to w g ≡ put_to w f
bytes_stay w name f g r s wrote apart = ap (λ o. unwrap_or o [] ++ w.buffered) (wrote.others w.name apart)

holds_stays : (w : BitWriting) (name : List ℕ) (f g : Option Files) (r s : Reads) → WroteTo name f g r s → w.name ≢ name → Holds w f → Holds w g
holds_stays w name f g r s wrote apart holds = holds_stay w f g wrote.told (wrote.others w.name apart) holds

-- ---- lists

last_more : (before : ℕ) (ps : List Posting) (p : Posting) → last_doc before (ps ++ p ∷ []) ≡ p.doc
unfolding last_doc
last_more before ps p = last_append before ps (p ∷ [])

bits_one : (b last : ℕ) (ps : List Posting) (p : Posting) → last ≡ last_doc 0 ps → bits_after b 0 (ps ++ p ∷ []) ≡ bits_after b 0 ps ++ posting_bits b last p
unfolding bits_after
bits_one b last ps p is =
    bits_append b 0 ps (p ∷ []) ∙ ap (λ d. bits_after b 0 ps ++ (posting_bits b d p ++ [])) (sym is) ∙ ap (λ l. bits_after b 0 ps ++ l) (append-nil (posting_bits b last p))

length_one : (b last : ℕ) (ps : List Posting) (p : Posting) → last ≡ last_doc 0 ps → length (bits_after b 0 (ps ++ p ∷ [])) ≡ length (bits_after b 0 ps) + length (posting_bits b last p)
length_one b last ps p is = ap length (bits_one b last ps p is) ∙ length-append (bits_after b 0 ps) (posting_bits b last p)

doc_keep : (n : ℕ) (ps qs : List Posting) → n ≤ length ps → doc_before n (ps ++ qs) ≡ doc_before n ps
unfolding doc_before
doc_keep n ps qs le = ap (last_doc 0) (take-append-le n ps qs le)

bits_keep : (b n : ℕ) (ps qs : List Posting) → n ≤ length ps → bits_before b n (ps ++ qs) ≡ bits_before b n ps
unfolding bits_before
bits_keep b n ps qs le = ap (λ l. length (bits_after b 0 l)) (take-append-le n ps qs le)

entry_keep : (b k : ℕ) (ps qs : List Posting) → 64 * (k + 1) ≤ length ps → entry_of b k (ps ++ qs) ≡ entry_of b k ps
entry_keep b k ps qs le =
    ap (λ d. skip_entry d (bits_before b (64 * k) (ps ++ qs))) (doc_keep (64 * (k + 1)) ps qs le)
    ∙ ap (λ n. skip_entry (doc_before (64 * (k + 1)) ps) n) (bits_keep b (64 * k) ps qs (omega arith))

entries_keep : (b n : ℕ) (ps qs : List Posting) → 64 * n ≤ length ps → entries_to b n (ps ++ qs) ≡ entries_to b n ps
unfolding entries_to
entries_keep b zero ps qs le = refl
entries_keep b (suc n) ps qs le =
    let more : (xs : List Posting) → entries_to b (suc n) xs ≡ entries_to b n xs ++ entry_of b n xs ∷ [] =
    λ xs. (let e : suc n ≡ n + 1 = omega arith in ap (λ m. entries_to b m xs) e ∙ entries_next b n xs) in
    more (ps ++ qs) ∙ ap (λ l. l ++ entry_of b n (ps ++ qs) ∷ []) (entries_keep b n ps qs (omega arith)) ∙ ap (λ e. entries_to b n ps ++ e ∷ []) (entry_keep b n ps qs (omega arith)) ∙ sym (more ps)

all_bits : (b n : ℕ) (ps : List Posting) → n ≡ length ps → bits_before b n ps ≡ length (bits_after b 0 ps)
unfolding bits_before
all_bits b n ps is = ap (λ l. length (bits_after b 0 l)) (take_all n ps (omega arith))

all_docs : (n : ℕ) (ps : List Posting) → length ps ≤ n → doc_before n ps ≡ last_doc 0 ps
unfolding doc_before
all_docs n ps le = ap (last_doc 0) (take_all n ps le)

-- the entry of a block that ends the list
last_entry : (b full last block_at : ℕ) (ps : List Posting) → length ps ≤ 64 * (full + 1) → last ≡ last_doc 0 ps → block_at ≡ bits_before b (64 * full) ps →
    entry_of b full ps ≡ skip_entry last block_at
last_entry b full last block_at ps le last_is is =
    ap (λ d. skip_entry d (bits_before b (64 * full) ps)) (all_docs (64 * (full + 1)) ps le ∙ sym last_is) ∙ ap (λ n. skip_entry last n) (sym is)

one_entry : (es : List SkipEntry) (e : SkipEntry) → flat_map entry_bytes (es ++ e ∷ []) ≡ flat_map entry_bytes es ++ entry_bytes e
one_entry es e = flat_map-append entry_bytes es (e ∷ []) ∙ ap (λ l. flat_map entry_bytes es ++ l) (append-nil (entry_bytes e))

-- the bytes of the entries with one more
entries_more : (had : List SkipEntry) (b full : ℕ) (ps : List Posting) (e : SkipEntry) → entry_of b full ps ≡ e →
    flat_map entry_bytes (had ++ entries_to b (full + 1) ps) ≡ flat_map entry_bytes (had ++ entries_to b full ps) ++ entry_bytes e
entries_more had b full ps e is =
    ap (λ l. flat_map entry_bytes (had ++ l)) (entries_next b full ps) ∙ ap (flat_map entry_bytes) (sym (append_assoc had (entries_to b full ps) (entry_of b full ps ∷ [])))
    ∙ one_entry (had ++ entries_to b full ps) (entry_of b full ps) ∙ ap (λ x. flat_map entry_bytes (had ++ entries_to b full ps) ++ entry_bytes x) is

-- ---- one posting more

pub took_posting : (w : Listing) (q : BitWriting) (f g : Option Files) (r s : Reads) (lists : List (List Posting)) (ps : List Posting) (p : Posting) →
    WroteBits w.post q f g (posting_bits w.parameter w.last p) → WroteTo w.post.name f g r s → Holds q g → q.place ≤ w.post.place + (p.doc - w.last) + 256 → p.doc ≤ w.all → w.total < 2 ^ 32 →
    ((w.pushed + 1) % 64 ≡ 0 → ⊥) → Took w f lists ps →
    Took (record w { post = q; pushed = w.pushed + 1; last = p.doc; total = w.total + 1 }) g lists (ps ++ p ∷ [])
took_posting w q f g r s lists ps p wrote to holds short within few part took =
    let long : length (ps ++ p ∷ []) ≡ length ps + 1 = length-append ps (p ∷ []) in
    record {
      apart = λ same. took.apart (sym wrote.name ∙ same);
      post_holds = holds;
      post_bits = λ told.
          let back : IsSome f = told_back f g to.told told in
          wrote.told back ∙ ap (λ l. l ++ posting_bits w.parameter w.last p) (took.post_bits back)
          ∙ append_assoc (lists_bits w.all lists) (bits_after w.parameter 0 ps) (posting_bits w.parameter w.last p)
          ∙ ap (λ l. lists_bits w.all lists ++ l) (sym (bits_one w.parameter w.last ps p took.last));
      skip_bytes = λ told.
          bytes_stay w.skip w.post.name f g r s to (λ same. took.apart (sym same)) ∙ took.skip_bytes (told_back f g to.told told)
          ∙ ap (λ l. flat_map entry_bytes (lists_entries w.all lists ++ l)) (sym (entries_keep w.parameter w.full ps (p ∷ []) took.full));
      start = took.start;
      place = omega (arith, wrote.place, took.place, length_one w.parameter w.last ps p took.last);
      first = took.first;
      pushed = omega (arith, took.pushed, long);
      last = sym (last_more 0 ps p);
      full = omega (arith, took.full, long);
      rest = omega (arith, took.rest, took.full, took.pushed, long);
      block_at = took.block_at ∙ sym (bits_keep w.parameter (64 * w.full) ps (p ∷ []) took.full);
      parameter = took.parameter;
      docs = took.docs;
      all = took.all;
      bound = omega (arith, took.bound, took.all, short, within);
      room = omega (arith, took.room);
      total = omega (arith, few);
    }

pub took_entry : {w : Listing} {q : BitWriting} {k : Writing} {f g h : Option Files} {r s t : Reads} (lists : List (List Posting)) (ps : List Posting) (p : Posting) (at : ℕ) →
    WroteBits w.post q f g (posting_bits w.parameter w.last p) → WroteTo w.post.name f g r s → Holds q g → q.place ≤ w.post.place + (p.doc - w.last) + 256 → p.doc ≤ w.all → w.total < 2 ^ 32 →
    Wrote w.skip k g h (entry_bytes (skip_entry p.doc w.block_at)) → WroteTo w.skip.name g h s t →
    (w.pushed + 1) % 64 ≡ 0 → at ≡ q.place - w.start → Took w f lists ps →
    Took (record w { post = q; skip = k; pushed = w.pushed + 1; last = p.doc; total = w.total + 1; full = w.full + 1; block_at = at }) h lists (ps ++ p ∷ [])
took_entry {w} {q} {k} {f} {g} {h} {r} {s} {t} lists ps p at wrote to holds short within few entry entry_to whole at_is took =
    let long : length (ps ++ p ∷ []) ≡ length ps + 1 = length-append ps (p ∷ []) in
    let all : 64 * (w.full + 1) ≡ length (ps ++ p ∷ []) = omega (arith, took.rest, took.full, took.pushed, long) in
    let place_is : q.place ≡ w.start + length (bits_after w.parameter 0 (ps ++ p ∷ [])) = omega (arith, wrote.place, took.place, length_one w.parameter w.last ps p took.last) in
    let apart_q : q.name ≢ w.skip.name = λ same. took.apart (sym wrote.name ∙ same) in
    record {
      apart = λ same. apart_q (same ∙ entry.name);
      post_holds = holds_stays q w.skip.name g h s t entry_to apart_q holds;
      post_bits = λ told.
          let mid : IsSome g = told_back g h entry_to.told told in
          let back : IsSome f = told_back f g to.told mid in
          put_stays q w.skip.name g h s t entry_to apart_q
          ∙ wrote.told back ∙ ap (λ l. l ++ posting_bits w.parameter w.last p) (took.post_bits back)
          ∙ append_assoc (lists_bits w.all lists) (bits_after w.parameter 0 ps) (posting_bits w.parameter w.last p)
          ∙ ap (λ l. lists_bits w.all lists ++ l) (sym (bits_one w.parameter w.last ps p took.last));
      skip_bytes = λ told.
          let mid : IsSome g = told_back g h entry_to.told told in
          let back : IsSome f = told_back f g to.told mid in
          entry.bytes mid
          ∙ ap (λ l. l ++ entry_bytes (skip_entry p.doc w.block_at)) (bytes_stay w.skip w.post.name f g r s to (λ same. took.apart (sym same)) ∙ took.skip_bytes back
          ∙ ap (λ l. flat_map entry_bytes (lists_entries w.all lists ++ l)) (sym (entries_keep w.parameter w.full ps (p ∷ []) took.full)))
          ∙ sym (entries_more (lists_entries w.all lists) w.parameter w.full (ps ++ p ∷ []) (skip_entry p.doc w.block_at)
          (last_entry w.parameter w.full p.doc w.block_at (ps ++ p ∷ []) (omega (arith, all)) (sym (last_more 0 ps p))
          (took.block_at ∙ sym (bits_keep w.parameter (64 * w.full) ps (p ∷ []) took.full))));
      start = took.start;
      place = place_is;
      first = took.first;
      pushed = omega (arith, took.pushed, long);
      last = sym (last_more 0 ps p);
      full = omega (arith, all);
      rest = omega (arith, all);
      block_at = omega (arith, at_is, place_is, all_bits w.parameter (64 * (w.full + 1)) (ps ++ p ∷ []) all);
      parameter = took.parameter;
      docs = took.docs;
      all = took.all;
      bound = omega (arith, took.bound, took.all, short, within);
      room = omega (arith, took.room);
      total = omega (arith, few);
    }

-- ---- the end of a list

-- the entries of all blocks of the list are written
pub record SkipEnded (w : Listing) (k : Writing) (g : Option Files) (lists : List (List Posting)) (ps : List Posting) (blocks : ℕ) : Type 0 where
  pub blocks_is : blocks ≡ block_count (length ps)
  pub name : k.name ≡ w.skip.name
  pub bytes : IsSome g → put_to k g ≡ flat_map entry_bytes (lists_entries w.all lists ++ entries_to w.parameter blocks ps)
  pub few : blocks ≤ w.pushed

order : (a b : ℕ) → (a < b) ⊎ (b ≤ a)
order a b = grind arith

pub skip_ended : (w : Listing) (k : Writing) (f g : Option Files) (r s : Reads) (lists : List (List Posting)) (ps : List Posting) (blocks : ℕ) →
    (64 * w.full < w.pushed → (blocks ≡ w.full + 1) × Wrote w.skip k f g (entry_bytes (skip_entry w.last w.block_at))) → (w.pushed ≤ 64 * w.full → (blocks ≡ w.full) × Wrote w.skip k f g []) →
    WroteTo w.skip.name f g r s → Took w f lists ps → SkipEnded w k g lists ps blocks
skip_ended w k f g r s lists ps blocks some none to took =
    elim (order (64 * w.full) w.pushed) [
      | inl more ↦ (
          let put = some more in
          let is : blocks ≡ w.full + 1 = put.0 in
          record {
            blocks_is = omega (arith, is, more, took.rest, took.full, took.pushed);
            name = put.1.name;
            bytes = λ told.
                let back : IsSome f = told_back f g to.told told in
                put.1.bytes back ∙ ap (λ l. l ++ entry_bytes (skip_entry w.last w.block_at)) (took.skip_bytes back)
                ∙ sym (entries_more (lists_entries w.all lists) w.parameter w.full ps (skip_entry w.last w.block_at)
                (last_entry w.parameter w.full w.last w.block_at ps (omega (arith, took.rest)) took.last took.block_at))
                ∙ ap (λ n. flat_map entry_bytes (lists_entries w.all lists ++ entries_to w.parameter n ps)) (sym is);
            few = omega (arith, is, more);
          })
      | inr done ↦ (
          let put = none done in
          let is : blocks ≡ w.full = put.0 in
          record {
            blocks_is = omega (arith, is, done, took.full, took.pushed);
            name = put.1.name;
            bytes = λ told.
                let back : IsSome f = told_back f g to.told told in
                put.1.bytes back ∙ append-nil (put_to w.skip f) ∙ took.skip_bytes back
                ∙ ap (λ n. flat_map entry_bytes (lists_entries w.all lists ++ entries_to w.parameter n ps)) (sym is);
            few = omega (arith, is, took.full, took.pushed);
          })
    ]

pub filled_whole : (bits : Bits) → length (filled bits) % 8 ≡ 0
unfolding filled
filled_whole bits = omega (arith, length-append bits (digits (to_byte (length bits)) 0), length_digits (to_byte (length bits)) 0)

pub lists_whole : (all : ℕ) (lists : List (List Posting)) → length (lists_bits all lists) % 8 ≡ 0
unfolding lists_bits
lists_whole all [] = refl
lists_whole all (ps ∷ lists) = omega (
  arith,
  length-append (filled (bits_of_list all ps)) (flat_map (λ qs. filled (bits_of_list all qs)) lists),
  filled_whole (bits_of_list all ps),
  lists_whole all lists,
)

pub one_list_more : (all : ℕ) (lists : List (List Posting)) (ps : List Posting) → lists_bits all (lists ++ ps ∷ []) ≡ lists_bits all lists ++ filled (bits_of_list all ps)
unfolding lists_bits
one_list_more all lists ps =
    flat_map-append (λ qs. filled (bits_of_list all qs)) lists (ps ∷ []) ∙ ap (λ l. flat_map (λ qs. filled (bits_of_list all qs)) lists ++ l) (append-nil (filled (bits_of_list all ps)))

pub its_entries_more : (all : ℕ) (lists : List (List Posting)) (ps : List Posting) → lists_entries all (lists ++ ps ∷ []) ≡ lists_entries all lists ++ entries_of_list all ps
unfolding lists_entries
its_entries_more all lists ps = flat_map-append (entries_of_list all) lists (ps ∷ []) ∙ ap (λ l. flat_map (entries_of_list all) lists ++ l) (append-nil (entries_of_list all ps))

-- the bits of a list, with its parameter as the writer has it
filled_is : (all b start place : ℕ) (ps : List Posting) → b ≡ golomb_parameter all (length ps) → start % 8 ≡ 0 → place ≡ start + length (bits_after b 0 ps) →
    bits_after b 0 ps ++ digits (to_byte place) 0 ≡ filled (bits_of_list all ps)
unfolding filled
filled_is all b start place ps b_is whole place_is =
    let pad : to_byte place ≡ to_byte (length (bits_after b 0 ps)) = omega (arith, whole, place_is) in
    ap (λ n. bits_after b 0 ps ++ digits n 0) pad ∙ ap (λ c. bits_after c 0 ps ++ digits (to_byte (length (bits_after c 0 ps))) 0) b_is

nothing_after : (b : ℕ) → bits_after b 0 [] ≡ []
unfolding bits_after
nothing_after b = refl

no_entries : (b : ℕ) → entries_to b 0 [] ≡ []
unfolding entries_to
no_entries b = refl

nothing_before : (b : ℕ) → 0 ≡ bits_before b (64 * 0) []
unfolding bits_before bits_after
nothing_before b = refl

no_last : 0 ≡ last_doc 0 []
unfolding last_doc
no_last = refl

pub took_ended : {w : Listing} {q : BitWriting} {k : Writing} {f g h : Option Files} {r s t : Reads} (lists : List (List Posting)) (ps : List Posting) (blocks : ℕ) →
    SkipEnded w k g lists ps blocks → WroteTo w.skip.name f g r s → WroteBits w.post q g h (digits (to_byte w.post.place) 0) → WroteTo w.post.name g h s t →
    Holds q h → w.pushed ≡ w.docs → Took w f lists ps →
    Took (record w { post = q; skip = k; start = q.place; first = w.first + blocks; pushed = 0; last = 0; full = 0; block_at = 0 }) h (lists ++ ps ∷ []) []
took_ended {w} {q} {k} {f} {g} {h} {r} {s} {t} lists ps blocks ended to align align_to align_holds whole took =
    let apart_k : k.name ≢ w.post.name = λ same. took.apart (sym same ∙ ended.name) in
    let b_is : w.parameter ≡ golomb_parameter w.all (length ps) = took.parameter ∙ ap (golomb_parameter w.all) (sym whole ∙ took.pushed) in
    let full : bits_after w.parameter 0 ps ++ digits (to_byte w.post.place) 0 ≡ filled (bits_of_list w.all ps) =
    filled_is w.all w.parameter w.start w.post.place ps b_is (ap (λ n. n % 8) took.start ∙ lists_whole w.all lists) took.place in
    let long : length (lists_bits w.all (lists ++ ps ∷ [])) ≡ length (lists_bits w.all lists) + (length (bits_after w.parameter 0 ps) + length (digits (to_byte w.post.place) 0)) =
    ap length (one_list_more w.all lists ps ∙ ap (λ l. lists_bits w.all lists ++ l) (sym full))
    ∙ length-append (lists_bits w.all lists) (bits_after w.parameter 0 ps ++ digits (to_byte w.post.place) 0)
    ∙ ap (λ n. length (lists_bits w.all lists) + n) (length-append (bits_after w.parameter 0 ps) (digits (to_byte w.post.place) 0)) in
    let its : entries_to w.parameter blocks ps ≡ entries_of_list w.all ps = ap (λ n. entries_to w.parameter n ps) ended.blocks_is ∙ ap (λ b. entries_to b (block_count (length ps)) ps) b_is in
    let start_is : q.place ≡ length (lists_bits w.all (lists ++ ps ∷ [])) = omega (arith, long, align.place, took.place, took.start) in
    record {
      apart = λ same. apart_k (sym same ∙ align.name);
      post_holds = align_holds;
      post_bits = λ told.
          let mid : IsSome g = told_back g h align_to.told told in
          let back : IsSome f = told_back f g to.told mid in
          align.told mid ∙ ap (λ l. l ++ digits (to_byte w.post.place) 0) (put_stays w.post w.skip.name f g r s to took.apart ∙ took.post_bits back)
          ∙ append_assoc (lists_bits w.all lists) (bits_after w.parameter 0 ps) (digits (to_byte w.post.place) 0) ∙ ap (λ l. lists_bits w.all lists ++ l) full
          ∙ sym (one_list_more w.all lists ps) ∙ sym (append-nil (lists_bits w.all (lists ++ ps ∷ []))) ∙ ap (λ l. lists_bits w.all (lists ++ ps ∷ []) ++ l) (sym (nothing_after w.parameter));
      skip_bytes = λ told.
          let mid : IsSome g = told_back g h align_to.told told in
          bytes_stay k w.post.name g h s t align_to apart_k ∙ ended.bytes mid ∙ ap (λ l. flat_map entry_bytes (lists_entries w.all lists ++ l)) its
          ∙ ap (flat_map entry_bytes) (sym (its_entries_more w.all lists ps) ∙ sym (append-nil (lists_entries w.all (lists ++ ps ∷ [])))
          ∙ ap (λ l. lists_entries w.all (lists ++ ps ∷ []) ++ l) (sym (no_entries w.parameter)));
      start = start_is;
      place = let none : length (bits_after w.parameter 0 []) ≡ 0 = ap length (nothing_after w.parameter) in omega (arith, none);
      first = omega (
        arith,
        took.first,
        ap length its,
        length_entries_to w.parameter blocks ps,
        ap length (its_entries_more w.all lists ps),
        length-append (lists_entries w.all lists) (entries_of_list w.all ps),
      );
      pushed = refl;
      last = no_last;
      full = omega arith;
      rest = omega arith;
      block_at = nothing_before w.parameter;
      parameter = took.parameter;
      docs = took.docs;
      all = took.all;
      bound = omega (arith, took.bound, align.place, length_digits (to_byte w.post.place) 0, whole, took.docs);
      room = omega (arith, took.room, ended.few);
      total = took.total;
    }

-- ---- the first call, a list begun, and the last call

pub took_none : (w : Listing) (f g h : Option Files) (r s t : Reads) → w.pushed ≡ 0 → w.last ≡ 0 → w.total ≡ 0 → w.start ≡ 0 → w.first ≡ 0 → w.full ≡ 0 →
    w.block_at ≡ 0 → w.post.place ≡ 0 → w.all ≤ 2 ^ 24 → 1 ≤ w.docs →
    w.parameter ≡ golomb_parameter w.all w.docs → w.post.name ≢ w.skip.name → (IsSome f → bits_put w.post g ≡ []) → is_some g ≡ is_some f → Holds w.post g →
    (IsSome g → put_to w.skip h ≡ []) → WroteTo w.skip.name g h s t → Took w h [] []
unfolding lists_bits lists_entries
took_none w f g h r s t pushed last total start first full block_at place few docs parameter apart empty told_too holds skip_empty to = record {
  apart = apart;
  post_holds = holds_stays w.post w.skip.name g h s t to apart holds;
  post_bits = λ told. put_stays w.post w.skip.name g h s t to apart ∙ empty (told_back f g told_too (told_back g h to.told told)) ∙ sym (nothing_after w.parameter);
  skip_bytes = λ told. skip_empty (told_back g h to.told told) ∙ ap (flat_map entry_bytes) (sym (no_entries w.parameter) ∙ ap (λ n. entries_to w.parameter n []) (sym full));
  start = start;
  place = let none : length (bits_after w.parameter 0 []) ≡ 0 = ap length (nothing_after w.parameter) in omega (arith, none, place, start);
  first = first;
  pushed = pushed;
  last = last ∙ no_last;
  full = omega (arith, full);
  rest = omega (arith, full);
  block_at = block_at ∙ nothing_before w.parameter ∙ ap (λ n. bits_before w.parameter (64 * n) []) (sym full);
  parameter = parameter;
  docs = docs;
  all = few;
  bound = omega (arith, place, pushed, total);
  room = omega (arith, first, pushed, total);
  total = omega (arith, total);
}

pub took_begun : (w : Listing) (files : Option Files) (docs b : ℕ) (lists : List (List Posting)) → 1 ≤ docs → b ≡ golomb_parameter w.all docs → Took w files lists [] →
    Took (record w { docs = docs; parameter = b; pushed = 0; last = 0; full = 0; block_at = 0 }) files lists []
took_begun w files docs b lists some is took =
    let nothing : w.full ≡ 0 = omega (arith, took.full) in
    record {
      apart = took.apart;
      post_holds = took.post_holds;
      post_bits = λ told. took.post_bits told ∙ ap (λ l. lists_bits w.all lists ++ l) (nothing_after w.parameter ∙ sym (nothing_after b));
      skip_bytes = λ told. took.skip_bytes told ∙ ap (λ l. flat_map entry_bytes (lists_entries w.all lists ++ l))
          (ap (λ n. entries_to w.parameter n []) nothing ∙ no_entries w.parameter ∙ sym (no_entries b));
      start = took.start;
      place = took.place ∙ ap (λ l. w.start + length l) (nothing_after w.parameter ∙ sym (nothing_after b));
      first = took.first;
      pushed = refl;
      last = no_last;
      full = omega arith;
      rest = omega arith;
      block_at = nothing_before b;
      parameter = is;
      docs = some;
      all = took.all;
      bound = omega (arith, took.bound);
      room = omega (arith, took.room);
      total = took.total;
    }

whole_place : (w : Listing) (files : Option Files) (lists : List (List Posting)) → Took w files lists [] → digits (to_byte w.post.place) 0 ≡ []
unfolding digits
whole_place w files lists took =
    let none : length (bits_after w.parameter 0 []) ≡ 0 = ap length (nothing_after w.parameter) in
    let e : to_byte w.post.place ≡ 0 = omega (arith, took.place, none, took.start, lists_whole w.all lists) in
    ap (λ n. digits n 0) e

-- what the file of skip entries holds once the writer holds nothing back
skip_written : (w : Listing) (k : Writing) (f g h : Option Files) (r s : Reads) (lists : List (List Posting)) → IsSome f → is_some g ≡ is_some f →
    WroteTo w.post.name f g r s → Wrote w.skip k g h [] → k.buffered ≡ [] → Took w f lists [] →
    bytes_at h w.skip.name ≡ flat_map entry_bytes (lists_entries w.all lists)
skip_written w k f g h r s lists told same to wrote nothing took =
    let none : w.full ≡ 0 = omega (arith, took.full) in
    sym (append-nil (bytes_at h w.skip.name)) ∙ ap (λ l. bytes_at h w.skip.name ++ l) (sym nothing) ∙ ap (λ n. bytes_at h n ++ k.buffered) (sym wrote.name)
    ∙ wrote.bytes (same ∙ told) ∙ append-nil (put_to w.skip g) ∙ bytes_stay w.skip w.post.name f g r s to (λ e. took.apart (sym e)) ∙ took.skip_bytes told
    ∙ ap (λ l. flat_map entry_bytes (lists_entries w.all lists ++ l)) (ap (λ n. entries_to w.parameter n []) none ∙ no_entries w.parameter)
    ∙ ap (flat_map entry_bytes) (append-nil (lists_entries w.all lists))

pub finished : {w : Listing} {k : Writing} {f g h : Option Files} {r s t : Reads} (lists : List (List Posting)) → IsSome f → is_some g ≡ is_some f →
    (IsSome f → bits_of (bytes_at g w.post.name) ≡ bits_put w.post f ++ digits (to_byte w.post.place) 0) → WroteTo w.post.name f g r s →
    Wrote w.skip k g h [] → k.buffered ≡ [] → WroteTo w.skip.name g h s t → Took w f lists [] → Finished w h lists
finished {w} {k} {f} {g} {h} {r} {s} {t} lists told same post to wrote nothing skip_to took = record {
  post = ap (λ o. bits_of (unwrap_or o [])) (skip_to.others w.post.name took.apart) ∙ post told ∙ ap (λ l. bits_put w.post f ++ l) (whole_place w f lists took)
      ∙ append-nil (bits_put w.post f) ∙ took.post_bits told
      ∙ ap (λ l. lists_bits w.all lists ++ l) (nothing_after w.parameter) ∙ append-nil (lists_bits w.all lists);
  skip = ap bits_of (skip_written w k f g h r s lists told same to wrote nothing took) ∙ bits_of_entries (lists_entries w.all lists);
}

-- bytes of known bits
made_of : (bytes : List ℕ) (bits : Bits) → AreBytes bytes → bits_of bytes ≡ bits → bytes ≡ as_bytes bits
made_of bytes bits small is = sym (bytes_again bytes small) ∙ ap as_bytes is

pub finished_bytes : {w : Listing} {q : BitWriting} {k : Writing} {f g h : Option Files} {r s t : Reads} (lists : List (List Posting)) → IsSome f →
    is_some g ≡ is_some f → is_some h ≡ is_some g → q.name ≡ w.post.name → Holds q g → WroteTo w.post.name f g r s →
    Wrote w.skip k g h [] → k.buffered ≡ [] → WroteTo w.skip.name g h s t → Took w f lists [] → Finished w h lists → InBytes w h lists
finished_bytes {w} {q} {k} {f} {g} {h} {r} {s} {t} lists told same too post post_holds to wrote nothing skip_to took is =
    let still : Holds q h = holds_stays q w.skip.name g h s t skip_to (λ e. took.apart (sym post ∙ e)) post_holds in
    let skip : bytes_at h w.skip.name ≡ flat_map entry_bytes (lists_entries w.all lists) = skip_written w k f g h r s lists told same to wrote nothing took in
    record {
      post = made_of (bytes_at h w.post.name) (lists_bits w.all lists) (subst (λ n. AreBytes (bytes_at h n)) post (still.bytes (too ∙ (same ∙ told)))) is.post;
      skip = made_of (bytes_at h w.skip.name) (flat_map entry_bits (lists_entries w.all lists)) (subst AreBytes (sym skip) (are_bytes_of (lists_entries w.all lists))) is.skip;
    }
