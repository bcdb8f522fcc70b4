-- What the calls of a writer do to the documents that it took.
use Rattle.std.proofs.Common.{arith, ◌≡◌, ◌≢◌, ◌+◌, ◌-◌, ◌*◌, ◌/◌, ◌^◌, ◌≤◌, ◌<◌, ◌++◌, ℕ, zero, suc, true, false}
use Rattle.std.proofs.Common.{List, [], ◌∷◌, length, refl, sym, ◌∙◌, ap, subst, IsSome, is_some, unwrap_or, get_or, length-append, append_assoc, append-nil}
use Rattle.std.specs.List.{flat_map}
use Rattle.std.specs.declared.option.Option.{Option}
use Rattle.std.proofs.lemmas.Grind.{flat_map-append}
use Rattle.mg_dev.specs.Files.{Files, Reads, bytes_at}
use Rattle.mg_dev.specs.Names.{full_name}
use Rattle.mg_dev.specs.Laws.{same_part_of_name}
use Rattle.mg_dev.specs.declared.part.Part.TheVariants.{Text, Places}
use Rattle.mg_bits.specs.Writer.{Writing, AreBytes, put_to, Wrote, WroteTo}
use Rattle.mg_bits.specs.BitWriting.{BitWriting, Holds, WroteBits, bits_put}
use Rattle.mg_bits.proofs.CallerLemmas.{bits_stay, holds_stay}
use Rattle.mg_text_writer.proofs.ByteLaws.{written_bytes}
use Rattle.mg_defs.specs.Bits.{Bits, bits_of, digits, filled, to_byte, as_bytes}
use Rattle.mg_defs.specs.Canon.{AreGood, codeword}
use Rattle.mg_defs.specs.Codes.{gamma, log2}
use Rattle.mg_defs.specs.CodedText.{StreamCode, running}
use Rattle.mg_defs.specs.Heads.{as_number}
use Rattle.mg_defs.specs.Numbers.{eight}
use Rattle.mg_defs.proofs.BitLaws.{length_digits, bits_of_append}
use Rattle.mg_defs.proofs.CodedTextLaws.{bits-of_as_bytes, length-as_bytes}
use Rattle.mg_defs.proofs.CanonLaws.{length-codeword, within_short}
use Rattle.mg_defs.proofs.CodeLaws.{length_gamma}
use Rattle.mg_defs.proofs.FixedLaws.{IsLog, is_log}
use Rattle.mg_codes.proofs.CallerLemmas.{log_small}
use Rattle.mg_defs.specs.Means.{IsStreamCode}
use Rattle.mg_text_writer.specs.Writing.{TextWriting, IsOnText, DocumentsStand, text_bytes, sizes, starts, begun}

told_back : (f g : Option Files) → is_some g ≡ is_some f → IsSome g → IsSome f
told_back f g e told = cc

two_parts : Text ≡ Places → ⊥
two_parts e = cc

pub names_apart : (w : TextWriting) (files : Option Files) (docs : List Bits) (bits : Bits) → IsOnText w files docs bits → w.text.name ≢ w.places.name
names_apart w files docs bits took same = two_parts (same_part_of_name w.base Text Places (sym took.text_name ∙ same ∙ took.places_name))

-- what was put to a file stays over a call that writes another
put_stays : (w : BitWriting) (name : List ℕ) (f g : Option Files) (r s : Reads) → WroteTo name f g r s → w.name ≢ name → bits_put w g ≡ bits_put w f
put_stays w name f g r s wrote apart = bits_stay w f g (wrote.others w.name apart)

holds_stays : (w : BitWriting) (name : List ℕ) (f g : Option Files) (r s : Reads) → WroteTo name f g r s → w.name ≢ name → Holds w f → Holds w g
holds_stays w name f g r s wrote apart holds = holds_stay w f g wrote.told (wrote.others w.name apart) holds

-- the text's bits are counted as before once a place was written
pub text_counts : (w : TextWriting) (f g : Option Files) (r s : Reads) (docs : List Bits) (bits : Bits) → IsOnText w f docs bits → WroteTo w.places.name f g r s → Holds w.text g
text_counts w f g r s docs bits took to = holds_stays w.text w.places.name f g r s to (names_apart w f docs bits took) took.holds

bytes_stay : (w : Writing) (name : List ℕ) (f g : Option Files) (r s : Reads) → WroteTo name f g r s → w.name ≢ name → put_to w g ≡ put_to w f
bytes_stay w name f g r s wrote apart = ap (λ o. unwrap_or o [] ++ w.buffered) (wrote.others w.name apart)

-- ---- documents

-- the places are the starts, and where the last document ends
pub running_is : (at : ℕ) (docs : List Bits) → running at (sizes docs) ≡ starts at (sizes docs) ++ (at + length (text_bytes docs)) ∷ []
running_is at [] = let e : at ≡ at + 0 = omega arith in ap (λ n. n ∷ []) e
running_is at (bits ∷ docs) =
    let e : at + length (as_bytes bits) + length (text_bytes docs) ≡ at + length (text_bytes (bits ∷ docs)) = omega (arith, length-append (as_bytes bits) (text_bytes docs)) in
    ap (λ l. at ∷ l) (running_is (at + length (as_bytes bits)) docs ∙ ap (λ n. starts (at + length (as_bytes bits)) (sizes docs) ++ n ∷ []) e)

-- one document more begins where those before it end
pub starts_more : (at : ℕ) (docs : List Bits) (bits : Bits) → starts at (sizes (docs ++ bits ∷ [])) ≡ running at (sizes docs)
starts_more at [] bits = refl
starts_more at (d ∷ docs) bits = ap (λ l. at ∷ l) (starts_more (at + length (as_bytes d)) docs bits)

pub text_more : (docs : List Bits) (bits : Bits) → text_bytes (docs ++ bits ∷ []) ≡ text_bytes docs ++ as_bytes bits
text_more docs bits = flat_map-append as_bytes docs (bits ∷ []) ∙ ap (λ l. text_bytes docs ++ l) (append-nil (as_bytes bits))

-- the bits of the text with one document more
pub bits_more : (docs : List Bits) (bits : Bits) → bits_of (text_bytes (docs ++ bits ∷ [])) ≡ bits_of (text_bytes docs) ++ (bits ++ digits (to_byte (length bits)) 0)
unfolding filled
bits_more docs bits = ap bits_of (text_more docs bits) ∙ bits_of_append (text_bytes docs) (as_bytes bits) ∙ ap (λ l. bits_of (text_bytes docs) ++ l) (bits-of_as_bytes bits)

long_more : (docs : List Bits) (bits : Bits) → 8 * length (text_bytes (docs ++ bits ∷ [])) ≡ 8 * length (text_bytes docs) + length bits + to_byte (length bits)
long_more docs bits = omega (arith, ap length (text_more docs bits), length-append (text_bytes docs) (as_bytes bits), length-as_bytes bits)

-- the places of all documents are those that begin them, and the size of the text
all_places : (docs : List Bits) (place : ℕ) → place ≡ length (text_bytes docs) → flat_map eight (starts 0 (sizes docs)) ++ eight place ≡ flat_map eight (running 0 (sizes docs))
all_places docs place is =
    let e : place ≡ 0 + length (text_bytes docs) = omega (arith, is) in
    ap (λ l. flat_map eight (starts 0 (sizes docs)) ++ l) (sym (append-nil (eight place))) ∙ sym (flat_map-append eight (starts 0 (sizes docs)) (place ∷ []))
    ∙ ap (λ n. flat_map eight (starts 0 (sizes docs) ++ n ∷ [])) e ∙ ap (flat_map eight) (sym (running_is 0 docs))

to_next : (n l place : ℕ) → place ≡ 8 * n + l → to_byte place ≡ to_byte l
to_next n l place is = omega (arith, is)

-- how long the number of pairs is at most
gamma_short : (x : ℕ) → 1 ≤ x → x ≤ 2 ^ 32 → length (gamma x) ≤ 96
gamma_short x some small =
    let log : IsLog x (log2 x) = is_log x some (omega (arith, small)) in
    let few : log2 x < 48 = log_small x (log2 x) (omega (arith, small)) log.low in
    omega (arith, length_gamma (log2 x) x log (omega (arith, small)), few)

within : (lengths : List ℕ) (symbol : ℕ) → AreGood lengths → symbol < length lengths → get_or lengths symbol 0 ≤ 48
within [] symbol good h = absurd (omega arith)
within (l ∷ []) zero good h = omega (arith, good)
within (l ∷ []) (suc symbol) good h = absurd (omega arith)
within (l ∷ m ∷ lengths) symbol good h = (within_short (l ∷ m ∷ lengths) symbol good.0 h).1

-- how long a codeword is at most
pub codeword_short : (code : StreamCode) (symbol : ℕ) → IsStreamCode code → symbol < length code.pieces → length (codeword code.lengths symbol) ≤ 48
codeword_short code symbol is below =
    let there : symbol < length code.lengths = omega (arith, is.each, below) in
    omega (arith, length-codeword code.lengths symbol is.good there, within code.lengths symbol is.good there)

-- ---- the calls

pub took_none : (w : TextWriting) (f g h : Option Files) (r s t : Reads) → w.docs ≡ 0 → w.pairs ≡ 0 → w.is_open ≡ false → w.left ≡ 0 → w.text.place ≡ 0 →
    w.text.name ≡ full_name w.base Text → w.places.name ≡ full_name w.base Places →
    (IsSome f → bits_put w.text g ≡ []) → is_some g ≡ is_some f → Holds w.text g → (IsSome g → put_to w.places h ≡ []) → WroteTo w.places.name g h s t → IsOnText w h [] []
unfolding bits_of
took_none w f g h r s t docs pairs closed left place text_name places_name empty told_too holds none to =
    let apart : w.text.name ≢ w.places.name = λ same. two_parts (same_part_of_name w.base Text Places (sym text_name ∙ same ∙ places_name)) in
    record {
      text_name = text_name;
      places_name = places_name;
      holds = holds_stays w.text w.places.name g h s t to apart holds;
      text = λ told. put_stays w.text w.places.name g h s t to apart ∙ empty (told_back f g told_too (told_back g h to.told told));
      places = λ told. none (told_back g h to.told told) ∙ ap (λ b. flat_map eight (begun b [])) (sym closed);
      place = place;
      count = omega (arith, docs, ap as_number closed);
      none = λ e. refl;
      nothing_left = λ e. left;
      few_docs = omega (arith, docs);
      few_pairs = omega (arith, pairs);
      bound = omega (arith, place, left);
    }

pub took_begun : {w : TextWriting} {p : Writing} {q : BitWriting} {f g h : Option Files} {r s t : Reads} (docs : List Bits) (pairs : ℕ) →
    Wrote w.places p f g (eight (w.text.place / 8)) → WroteTo w.places.name f g r s → WroteBits w.text q g h (gamma (pairs + 1)) → WroteTo w.text.name g h s t → Holds q h →
    w.is_open ≡ false → w.docs < 2 ^ 24 → w.pairs + pairs ≤ 2 ^ 32 - 1 → IsOnText w f docs [] →
    IsOnText (record w { text = q; places = p; docs = w.docs + 1; pairs = w.pairs + pairs; is_open = true; left = 2 * pairs }) h docs (gamma (pairs + 1))
took_begun {w} {p} {q} {f} {g} {h} {r} {s} {t} docs pairs placed placed_to wrote to holds closed few small took =
    let apart = names_apart w f docs [] took in
    let open_too : true ≡ false → ⊥ = λ e. cc in
    let at : w.text.place / 8 ≡ length (text_bytes docs) = omega (arith, took.place) in
    record {
      text_name = wrote.name ∙ took.text_name;
      places_name = placed.name ∙ took.places_name;
      holds = holds;
      text = λ told.
          let mid : IsSome g = told_back g h to.told told in
          let back : IsSome f = told_back f g placed_to.told mid in
          wrote.told mid ∙ ap (λ l. l ++ gamma (pairs + 1)) (put_stays w.text w.places.name f g r s placed_to apart ∙ took.text back ∙ append-nil (bits_of (text_bytes docs)));
      places = λ told.
          let back : IsSome f = told_back f g placed_to.told (told_back g h to.told told) in
          bytes_stay p w.text.name g h s t to (λ same. apart (sym same ∙ placed.name)) ∙ placed.bytes back
          ∙ ap (λ l. l ++ eight (w.text.place / 8)) (took.places back ∙ ap (λ b. flat_map eight (begun b (sizes docs))) closed)
          ∙ all_places docs (w.text.place / 8) at;
      place = omega (arith, wrote.place, took.place);
      count = omega (arith, took.count, ap as_number closed);
      none = λ e. absurd (open_too e);
      nothing_left = λ e. absurd (open_too e);
      few_docs = omega (arith, few);
      few_pairs = small;
      bound = omega (arith, took.bound, took.nothing_left closed, wrote.place, gamma_short (pairs + 1) (omega arith) (omega (arith, small)));
    }

pub took_piece : (w : TextWriting) (q : BitWriting) (f g : Option Files) (r s : Reads) (docs : List Bits) (bits code : Bits) →
    WroteBits w.text q f g code → WroteTo w.text.name f g r s → Holds q g → length code ≤ 48 → 0 < w.left → IsOnText w f docs bits →
    IsOnText (record w { text = q; left = w.left - 1 }) g docs (bits ++ code)
took_piece w q f g r s docs bits code wrote to holds short more took =
    let apart = names_apart w f docs bits took in
    let ended : w.left ≡ 0 → ⊥ = λ e. omega arith in
    record {
      text_name = wrote.name ∙ took.text_name;
      places_name = took.places_name;
      holds = holds;
      text = λ told.
          let back : IsSome f = told_back f g to.told told in
          wrote.told back ∙ ap (λ l. l ++ code) (took.text back) ∙ append_assoc (bits_of (text_bytes docs)) bits code;
      places = λ told. bytes_stay w.places w.text.name f g r s to (λ same. apart (sym same)) ∙ took.places (told_back f g to.told told);
      place = omega (arith, wrote.place, took.place, length-append bits code);
      count = took.count;
      none = λ e. absurd (ended (took.nothing_left e));
      nothing_left = λ e. absurd (ended (took.nothing_left e));
      few_docs = took.few_docs;
      few_pairs = took.few_pairs;
      bound = omega (arith, took.bound, wrote.place, short, more);
    }

pub took_ended : (w : TextWriting) (q : BitWriting) (f g : Option Files) (r s : Reads) (docs : List Bits) (bits : Bits) →
    WroteBits w.text q f g (digits (to_byte w.text.place) 0) → WroteTo w.text.name f g r s → Holds q g → w.is_open ≡ true → w.left ≡ 0 → IsOnText w f docs bits →
    IsOnText (record w { text = q; is_open = false }) g (docs ++ bits ∷ []) []
took_ended w q f g r s docs bits wrote to holds is_open whole took =
    let apart = names_apart w f docs bits took in
    let fill : to_byte w.text.place ≡ to_byte (length bits) = to_next (length (text_bytes docs)) (length bits) w.text.place took.place in
    let few : to_byte (length bits) ≤ 7 = omega arith in
    let long : length (docs ++ bits ∷ []) ≡ length docs + 1 = length-append docs (bits ∷ []) in
    let wide : q.place ≡ w.text.place + to_byte (length bits) = wrote.place ∙ ap (λ n. w.text.place + n) (length_digits (to_byte w.text.place) 0 ∙ fill) in
    record {
      text_name = wrote.name ∙ took.text_name;
      places_name = took.places_name;
      holds = holds;
      text = λ told.
          let back : IsSome f = told_back f g to.told told in
          wrote.told back ∙ ap (λ l. l ++ digits (to_byte w.text.place) 0) (took.text back) ∙ append_assoc (bits_of (text_bytes docs)) bits (digits (to_byte w.text.place) 0)
          ∙ ap (λ n. bits_of (text_bytes docs) ++ (bits ++ digits n 0)) fill ∙ sym (bits_more docs bits) ∙ sym (append-nil (bits_of (text_bytes (docs ++ bits ∷ []))));
      places = λ told.
          bytes_stay w.places w.text.name f g r s to (λ same. apart (sym same)) ∙ took.places (told_back f g to.told told)
          ∙ ap (λ b. flat_map eight (begun b (sizes docs))) is_open ∙ ap (flat_map eight) (sym (starts_more 0 docs bits));
      place = omega (arith, wide, took.place, long_more docs bits);
      count = omega (arith, took.count, ap as_number is_open, long);
      none = λ e. refl;
      nothing_left = λ e. whole;
      few_docs = took.few_docs;
      few_pairs = took.few_pairs;
      bound = omega (arith, took.bound, wide, few, long, whole);
    }

-- the size of the text
pub text_size : (w : TextWriting) (files : Option Files) (docs : List Bits) → IsOnText w files docs [] → w.text.place / 8 ≡ length (text_bytes docs)
text_size w files docs took = omega (arith, took.place)

whole_text : (w : TextWriting) (files : Option Files) (docs : List Bits) → IsOnText w files docs [] → digits (to_byte w.text.place) 0 ≡ []
unfolding digits
whole_text w files docs took =
    let e : to_byte w.text.place ≡ 0 = omega (arith, took.place) in
    ap (λ n. digits n 0) e

-- the text and the places stand once all is written; no number of the text is above a byte's, so that its bits tell its bytes
pub text_finished : {w : TextWriting} {p o : Writing} {q : BitWriting} {f g h k : Option Files} {r s t u : Reads} (docs : List Bits) → IsSome f → w.is_open ≡ false →
    Wrote w.places p f g (eight (w.text.place / 8)) → WroteTo w.places.name f g r s →
    (IsSome g → bits_of (bytes_at h w.text.name) ≡ bits_put w.text g ++ digits (to_byte w.text.place) 0) → WroteTo w.text.name g h s t → q.name ≡ w.text.name → Holds q h →
    Wrote p o h k [] → o.buffered ≡ [] → WroteTo p.name h k t u → IsOnText w f docs [] → DocumentsStand w.base k docs
text_finished {w} {p} {o} {q} {f} {g} {h} {k} {r} {s} {t} {u} docs told closed placed placed_to file to name holds last empty last_to took =
    let apart = names_apart w f docs [] took in
    let told_g : IsSome g = placed_to.told ∙ told in
    let told_h : IsSome h = to.told ∙ told_g in
    let apart_p : w.text.name ≢ p.name = λ same. apart (same ∙ placed.name) in
    let text : bits_of (bytes_at k (full_name w.base Text)) ≡ bits_of (text_bytes docs) =
    ap (λ n. bits_of (bytes_at k n)) (sym took.text_name) ∙ ap (λ x. bits_of (unwrap_or x [])) (last_to.others w.text.name apart_p) ∙ file told_g
    ∙ ap (λ l. bits_put w.text g ++ l) (whole_text w f docs took) ∙ append-nil (bits_put w.text g)
    ∙ put_stays w.text w.places.name f g r s placed_to apart ∙ took.text told ∙ append-nil (bits_of (text_bytes docs)) in
    let still : Holds q k = holds_stays q p.name h k t u last_to (λ same. apart_p (sym name ∙ same)) holds in
    let fit : AreBytes (bytes_at k (full_name w.base Text)) = subst (λ n. AreBytes (bytes_at k n)) (name ∙ took.text_name) (still.bytes (last_to.told ∙ told_h)) in
    record {
      text = text;
      bytes = written_bytes (bytes_at k (full_name w.base Text)) docs fit text;
      places =
          ap (bytes_at k) (sym (last.name ∙ placed.name ∙ took.places_name)) ∙ sym (append-nil (bytes_at k o.name))
          ∙ ap (λ l. bytes_at k o.name ++ l) (sym empty) ∙ last.bytes told_h ∙ append-nil (put_to p h)
          ∙ bytes_stay p w.text.name g h s t to (λ same. apart_p (sym same)) ∙ placed.bytes told
          ∙ ap (λ l. l ++ eight (w.text.place / 8)) (took.places told ∙ ap (λ b. flat_map eight (begun b (sizes docs))) closed)
          ∙ all_places docs (w.text.place / 8) (text_size w f docs took);
    }
