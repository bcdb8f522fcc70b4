-- What was written stands.
use Rattle.std.proofs.Common.{arith, suc, zero, ◌≡◌, ◌≢◌, ◌+◌, ◌*◌, ◌/◌, ◌^◌, ◌≤◌, ◌<◌, ◌-◌, ℕ, true, List, [], ◌∷◌, ◌++◌}
use Rattle.std.proofs.Common.{length, take, drop, Some, None, is_some, unwrap_or, refl, sym, ◌∙◌, ap, subst, ◌⊎◌, inl, inr, length-append, append_assoc, map}
use Rattle.std.specs.Prelude.{flat_map, slice_get}
use Rattle.std.proofs.lemmas.Grind.{flat_map-append}
use Rattle.std.proofs.lemmas.List.{drop-drop}
use Rattle.mg_defs.specs.declared.Posting.{Posting}
use Rattle.mg_defs.specs.Bits.{Bits, digits, bits_of, filled, Begins, to_byte}
use Rattle.mg_defs.specs.Codes.{golomb_parameter}
use Rattle.mg_defs.specs.Split.{documents}
use Rattle.mg_defs.specs.Terms.{dictionary}
use Rattle.mg_defs.specs.Lists.{SkipEntry, Rises, entry_of, entries_to, entry_bits, entries_of_list, bits_of_list, block_count}
use Rattle.mg_defs.specs.Lists.{lists_bits, lists_entries, postings, inverted, post_bits, skip_bits, list_byte, first_entry}
use Rattle.mg_defs.proofs.FrontLaws.{begins_first, begins_second, begins_self}
use Rattle.mg_defs.proofs.BitLaws.{length_digits}
use Rattle.mg_defs.proofs.ListLaws.{entries_next, length_entries_to, list_rises}
use Rattle.mg_post.specs.Stands.{ListStands}
use Rattle.std.specs.declared.option.Option.{Option}
use Rattle.mg_dev.specs.Files.{Files, file_at}
use Rattle.mg_bits.specs.Feed.{told_at}
use Rattle.mg_post.specs.Cursor.{CursorFits, Cursoring, CursorStands, SameList, StandsAt}
use Rattle.mg_post.proofs.WriterLaws.{lists_whole}
use Rattle.mg_post.proofs.CursorLaws.{ended_after}
use Rattle.mg_bits.proofs.CallerLemmas.{bits_stay, held_page_stays, holds_stay}
use Rattle.mg_post.specs.Writing.{Listing, Took}

length_entry : (e : SkipEntry) → length (entry_bits e) ≡ 128
unfolding entry_bits
length_entry e = length-append (digits 64 e.last) (digits 64 e.bits) ∙ omega (arith, length_digits 64 e.last, length_digits 64 e.bits)

length_entries : (es : List SkipEntry) → length (flat_map entry_bits es) ≡ 128 * length es
length_entries [] = refl
length_entries (e ∷ es) = length-append (entry_bits e) (flat_map entry_bits es) ∙ omega (arith, length_entry e, length_entries es)

order : (a b : ℕ) → (a < b) ⊎ (b ≤ a)
order a b = grind arith

-- each entry stands among those of the first blocks
entry_stands : (b n k : ℕ) (ps : List Posting) (s : Bits) → k < n → Begins (flat_map entry_bits (entries_to b n ps)) s → Begins (entry_bits (entry_of b k ps)) (drop (128 * k) s)
unfolding entries_to
entry_stands b zero k ps s lt h = absurd (omega arith)
entry_stands b (suc n) k ps s lt h =
    let more : entries_to b (suc n) ps ≡ entries_to b n ps ++ entry_of b n ps ∷ [] = (let e : suc n ≡ n + 1 = omega arith in ap (λ m. entries_to b m ps) e ∙ entries_next b n ps) in
    let split : flat_map entry_bits (entries_to b (suc n) ps) ≡ flat_map entry_bits (entries_to b n ps) ++ flat_map entry_bits (entry_of b n ps ∷ []) =
    ap (flat_map entry_bits) more ∙ flat_map-append entry_bits (entries_to b n ps) (entry_of b n ps ∷ []) in
    let both : Begins (flat_map entry_bits (entries_to b n ps) ++ flat_map entry_bits (entry_of b n ps ∷ [])) s = subst (λ l. Begins l s) split h in
    elim (order k n) [
      | inl below ↦ entry_stands b n k ps s below (begins_first _ _ s both)
      | inr above ↦ (
          let e : k ≡ n = omega arith in
          let l : length (flat_map entry_bits (entries_to b n ps)) ≡ 128 * k = length_entries (entries_to b n ps) ∙ ap (λ m. 128 * m) (length_entries_to b n ps ∙ sym e) in
          let here : Begins (flat_map entry_bits (entry_of b n ps ∷ [])) (drop (128 * k) s) =
          subst (λ m. Begins (flat_map entry_bits (entry_of b n ps ∷ [])) (drop m s)) l (begins_second _ _ s both) in
          subst (λ m. Begins (entry_bits (entry_of b m ps)) (drop (128 * k) s)) (sym e) (begins_first (entry_bits (entry_of b n ps)) [] _ here))
    ]

stands_in : (front a more : Bits) → Begins a (drop (length front) (front ++ (a ++ more)))
stands_in front a more = begins_first a more _ (begins_second front (a ++ more) (front ++ (a ++ more)) (begins_self (front ++ (a ++ more))))

split_at : (lists : List (List Posting)) (n : ℕ) (ps : List Posting) → slice_get lists n ≡ Some ps → lists ≡ take n lists ++ ps ∷ drop (suc n) lists
split_at [] n ps is = absurd cc
split_at (qs ∷ lists) zero ps is = let e : qs ≡ ps = cc in ap (λ x. x ∷ lists) e
split_at (qs ∷ lists) (suc n) ps is = ap (λ l. qs ∷ l) (split_at lists n ps is)

bits_split : (all : ℕ) (a rest : List (List Posting)) (ps : List Posting) → lists_bits all (a ++ ps ∷ rest) ≡ lists_bits all a
    ++ (bits_of_list all ps ++ (digits (to_byte (length (bits_of_list all ps))) 0 ++ lists_bits all rest))
unfolding lists_bits filled
bits_split all a rest ps =
    flat_map-append (λ qs. filled (bits_of_list all qs)) a (ps ∷ rest) ∙ ap (λ l. lists_bits all a ++ l)
    (append_assoc (bits_of_list all ps) (digits (to_byte (length (bits_of_list all ps))) 0) (lists_bits all rest))

entries_split : (all : ℕ) (a rest : List (List Posting)) (ps : List Posting) → flat_map entry_bits (lists_entries all (a ++ ps ∷ rest))
    ≡ flat_map entry_bits (lists_entries all a) ++ (flat_map entry_bits (entries_of_list all ps) ++ flat_map entry_bits (lists_entries all rest))
unfolding lists_entries
entries_split all a rest ps =
    ap (flat_map entry_bits) (flat_map-append (entries_of_list all) a (ps ∷ rest)) ∙ flat_map-append entry_bits (flat_map (entries_of_list all) a)
    (entries_of_list all ps ++ flat_map (entries_of_list all) rest)
    ∙ ap (λ l. flat_map entry_bits (flat_map (entries_of_list all) a) ++ l) (flat_map-append entry_bits (entries_of_list all ps) (flat_map (entries_of_list all) rest))

pub list_stands : (all n : ℕ) (lists : List (List Posting)) (ps : List Posting) (post skip : List ℕ) → bits_of post ≡ lists_bits all lists →
    bits_of skip ≡ flat_map entry_bits (lists_entries all lists) →
    slice_get lists n ≡ Some ps → Rises all 0 ps → all < 2 ^ 32 - 1 → length (lists_bits all lists) ≤ 2 ^ 63 →
    ListStands all (golomb_parameter all (length ps)) (Some post) (Some skip) (8 * (length (lists_bits all (take n lists)) / 8))
    (length (lists_entries all (take n lists))) (length ps) (block_count (length ps)) ps
list_stands all n lists ps post skip p s is rises few small =
    let a : List (List Posting) = take n lists in
    let rest : List (List Posting) = drop (suc n) lists in
    let split : lists ≡ take n lists ++ ps ∷ drop (suc n) lists = split_at lists n ps is in
    let post_is : lists_bits all lists ≡ lists_bits all a
    ++ (bits_of_list all ps ++ (digits (to_byte (length (bits_of_list all ps))) 0 ++ lists_bits all rest)) = ap (lists_bits all) split
    ∙ bits_split all a rest ps in
    let skip_is : flat_map entry_bits (lists_entries all lists) ≡ flat_map entry_bits (lists_entries all a)
    ++ (flat_map entry_bits (entries_of_list all ps) ++ flat_map entry_bits (lists_entries all rest)) =
    ap (λ l. flat_map entry_bits (lists_entries all l)) split ∙ entries_split all a rest ps in
    let at : 8 * (length (lists_bits all a) / 8) ≡ length (lists_bits all a) = omega (arith, lists_whole all a) in
    let long : length (lists_bits all lists) ≡ length (lists_bits all a) + (length (bits_of_list all ps) + length (digits (to_byte (length (bits_of_list all ps))) 0 ++ lists_bits all rest)) =
    ap length post_is ∙ length-append (lists_bits all a) (bits_of_list all ps ++ (digits (to_byte (length (bits_of_list all ps))) 0 ++ lists_bits all rest))
    ∙ ap (λ m. length (lists_bits all a) + m) (length-append (bits_of_list all ps) (digits (to_byte (length (bits_of_list all ps))) 0 ++ lists_bits all rest)) in
    let front : Begins (flat_map entry_bits (entries_of_list all ps)) (drop (length (flat_map entry_bits (lists_entries all a))) (bits_of skip)) =
    subst (λ l. Begins (flat_map entry_bits (entries_of_list all ps)) (drop (length (flat_map entry_bits (lists_entries all a))) l)) (sym (s ∙ skip_is))
    (stands_in (flat_map entry_bits (lists_entries all a)) (flat_map entry_bits (entries_of_list all ps)) (flat_map entry_bits (lists_entries all rest))) in
    record {
      entries = record {
        rises = rises;
        small = omega (arith, long, small);
        entries = λ k lt.
            let here : Begins (entry_bits (entry_of (golomb_parameter all (length ps)) k ps)) (drop (128 * k) (drop (length (flat_map entry_bits (lists_entries all a))) (bits_of skip))) =
            entry_stands (golomb_parameter all (length ps)) (block_count (length ps)) k ps _ lt front in
            let there : Begins (entry_bits (entry_of (golomb_parameter all (length ps)) k ps))
            (drop (length (flat_map entry_bits (lists_entries all a)) + 128 * k) (bits_of skip)) = rw drop-drop at here in
            let e : length (flat_map entry_bits (lists_entries all a)) + 128 * k ≡ 128 * (length (lists_entries all a) + k) = omega (arith, length_entries (lists_entries all a)) in
            subst (λ m. Begins (entry_bits (entry_of (golomb_parameter all (length ps)) k ps)) (drop m (bits_of skip))) e there;
        most = omega arith;
        whole = omega arith;
      };
      bits =
          subst (λ m. Begins (bits_of_list all ps) (drop m (bits_of post))) (sym at)
          (subst (λ l. Begins (bits_of_list all ps) (drop (length (lists_bits all a)) l)) (sym (p ∙ post_is))
          (stands_in (lists_bits all a) (bits_of_list all ps) (digits (to_byte (length (bits_of_list all ps))) 0 ++ lists_bits all rest)));
      small = omega (arith, at, long, small);
      whole = refl;
      few = few;
    }

got_mapped : (collection : List ℕ) (terms : List (List ℕ)) (n : ℕ) (t : List ℕ) → slice_get terms n ≡ Some t → slice_get (map (postings collection) terms) n ≡ Some (postings collection t)
got_mapped collection [] n t is = absurd cc
got_mapped collection (u ∷ terms) zero t is = let e : u ≡ t = cc in ap (λ x. Some (postings collection x)) e
got_mapped collection (u ∷ terms) (suc n) t is = got_mapped collection terms n t is

pub term_stands : (collection : List ℕ) (n : ℕ) (t : List ℕ) (post skip : List ℕ) → length collection < 2 ^ 32 → length (documents collection) < 2 ^ 32 - 1 →
    bits_of post ≡ post_bits collection → bits_of skip ≡ skip_bits collection →
    slice_get (dictionary collection) n ≡ Some t → length (post_bits collection) ≤ 2 ^ 63 →
    ListStands (length (documents collection)) (golomb_parameter (length (documents collection)) (length (postings collection t))) (Some post) (Some skip)
    (8 * list_byte collection n) (first_entry collection n) (length (postings collection t)) (block_count (length (postings collection t)))
    (postings collection t)
term_stands collection n t post skip short few p s is small =
    list_stands (length (documents collection)) n (inverted collection) (postings collection t) post skip p s
    (got_mapped collection (dictionary collection) n t is) (list_rises collection t short) few small

pub ended : (c : Cursoring) (ps : List Posting) → ps ≢ [] → StandsAt c ps [] → c.ended ≡ true
ended c ps some at = ended_after c.ended ps c.reached c.last c.held (by_case ps some) at.on
  where
    by_case : (qs : List Posting) → qs ≢ [] → 1 ≤ length qs
    by_case [] none = absurd (none refl)
    by_case (q ∷ qs) some = omega arith

-- what is told of a file that stays as it is
told_same : (f g : Option Files) (name : List ℕ) → is_some g ≡ is_some f → file_at g name ≡ file_at f name → told_at g name ≡ told_at f name
told_same None None name told same = refl
told_same None (Some g) name told same = absurd cc
told_same (Some f) None name told same = absurd cc
told_same (Some f) (Some g) name told same = ap (λ bytes. Some (unwrap_or bytes [])) same

pub stands_same : (c d : Cursoring) (f g : Option Files) (ps : List Posting) → SameList c d → is_some g ≡ is_some f →
    file_at g c.post.name ≡ file_at f c.post.name → file_at g c.skip.name ≡ file_at f c.skip.name → CursorStands c f ps → CursorStands d g ps
stands_same c d f g ps same told post skip stands =
    let post_is : told_at g d.post.name ≡ told_at f c.post.name = ap (told_at g) same.post ∙ told_same f g c.post.name told post in
    let skip_is : told_at g d.skip.name ≡ told_at f c.skip.name = ap (told_at g) same.skip ∙ told_same f g c.skip.name told skip in
    record { list = rw (post_is, skip_is, same.post_at, same.skip_at, same.docs, same.all, same.parameter) stands.list }

pub fits_same : (c : Cursoring) (f g : Option Files) → is_some g ≡ is_some f → file_at g c.post.name ≡ file_at f c.post.name →
    file_at g c.skip.name ≡ file_at f c.skip.name → CursorFits c f → CursorFits c g
fits_same c f g told post skip fits = record {
  post = held_page_stays c.post f g told post fits.post;
  skip = held_page_stays c.skip f g told skip fits.skip;
  entries = fits.entries;
}

pub took_stays : (w : Listing) (f g : Option Files) (lists : List (List Posting)) (ps : List Posting) → is_some g ≡ is_some f →
    file_at g w.post.name ≡ file_at f w.post.name → file_at g w.skip.name ≡ file_at f w.skip.name → Took w f lists ps → Took w g lists ps
took_stays w f g lists ps told post skip is = record {
  apart = is.apart;
  post_holds = holds_stay w.post f g told post is.post_holds;
  post_bits = λ t. bits_stay w.post f g post ∙ is.post_bits (sym told ∙ t);
  skip_bytes = λ t. ap (λ o. unwrap_or o [] ++ w.skip.buffered) skip ∙ is.skip_bytes (sym told ∙ t);
  start = is.start;
  place = is.place;
  first = is.first;
  pushed = is.pushed;
  last = is.last;
  full = is.full;
  rest = is.rest;
  block_at = is.block_at;
  parameter = is.parameter;
  docs = is.docs;
  all = is.all;
  bound = is.bound;
  room = is.room;
  total = is.total;
}
