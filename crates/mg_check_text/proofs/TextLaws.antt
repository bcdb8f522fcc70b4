-- The text of a set, document by document, and what it means at the end.
use Rattle.std.proofs.Common.{arith, zero, suc, ◌≡◌, ◌≤◌, ◌<◌, ◌+◌, ◌*◌, ◌==◌, ◌++◌, ℕ, Bool, true, false, if◌then◌else◌, List, [], ◌∷◌}
use Rattle.std.proofs.Common.{Contains, length, map, sum, sum_by, take, drop, get_or, IsTrue, refl, sym, ap, subst, ◌∙◌, append_assoc, append-nil, length-append, add-zero}
use Rattle.std.specs.List.{AllByRecursion, flat_map}
use Rattle.std.specs.declared.option.Option.{Option}
use Rattle.std.proofs.Math.Seq.{drop-append_seam, drop-cons, take-add, take-append_seam, take-length}
use Rattle.std.proofs.lemmas.Grind.{flat_map-append}
use Rattle.std.proofs.lemmas.List.{length-drop, length-map, map-append, take-append-drop}
use Rattle.std.proofs.lemmas.List.Sums.{sum_by-append, sum_by-cons, sum_by-take-drop}
use Rattle.mg_dev.specs.Files.{Files, bytes_at}
use Rattle.mg_defs.specs.declared.Stream.{Stream}
use Rattle.mg_defs.specs.declared.Stream.TheVariants.{Words, Others}
use Rattle.mg_defs.specs.Bits.{bits_of, as_bytes}
use Rattle.mg_defs.specs.CodedText.{StreamCode, TextCode, coded_doc, coded_size, place_bytes, places_part, running}
use Rattle.mg_defs.specs.Heads as defs
use Rattle.mg_defs.specs.Limits.{limits}
use Rattle.mg_defs.specs.Means.{HasCodewords, IsCodable, IsUsedWell, Mean, counts_in, docs_bytes}
use Rattle.mg_defs.specs.Numbers.{eight, four}
use Rattle.mg_defs.specs.Parse.{Pair, parse}
use Rattle.mg_defs.specs.Split.{IsDocument, IsSplit, LastIsNotEmpty, documents, joined}
use Rattle.mg_defs.specs.Stands.{Parts, Stand}
use Rattle.mg_defs.specs.Vocabulary.{all_pieces, count_in, piece_of_pair, pieces_in}
use Rattle.mg_defs.proofs.SplitLaws.{docs_within, documents_split, split_unique}
use Rattle.mg_defs.proofs.StandDocs.{code-docs}
use Rattle.mg_defs.proofs.StandLaws.{last-stands, so-far, stands-only, told-stands}
use Rattle.mg_defs.proofs.StandUse.{code-of, used-of}
use Rattle.mg_layout.proofs.CallerLemmas.{told_set}
use Rattle.mg_layout.specs.Contents.{StandAt}
use Rattle.mg_layout.specs.HeadAnswers.{fields_of}
use Rattle.mg_layout.specs.Stands.{parts_at}
use Rattle.mg_layout.specs.declared.head.Head.{Head}
use Rattle.mg_text.proofs.CallerLemmas.{set_is_text}
use Rattle.mg_text.specs.Places.{most_text, place_width}
use Rattle.mg_text.specs.Reading.{TextReading, TextStands}
use Rattle.mg_text_writer.specs.Writing.{starts}
use Rattle.mg_check_text.specs.Checking.{HasAdded, HasRead, IsAtEnd, IsLoaded, IsMeant, IsNextDoc, docs_places, last_size}
use Rattle.mg_check_parts.specs.Decoding.{AreCounts, IsUsed}
use Rattle.mg_check_text.specs.declared.progress.Progress.{Progress}

-- ---- lists

all-join : {X : Type 0} (P : X → Type 0) (xs ys : List X) → AllByRecursion P xs → AllByRecursion P ys → AllByRecursion P (xs ++ ys)
all-join P [] ys x y = y
all-join P (a ∷ xs) ys x y = (x.0, all-join P xs ys x.1 y)

pub all-get : {X : Type 0} (P : X → Type 0) (xs : List X) (k : ℕ) (d : X) → AllByRecursion P xs → k < length xs → P (get_or xs k d)
all-get P [] k d each within = absurd (omega arith)
all-get P (x ∷ xs) zero d each within = each.0
all-get P (x ∷ xs) (suc k) d each within = all-get P xs k d each.1 (omega (arith, within))

drop-none : (k : ℕ) → drop {A = ℕ} k [] ≡ []
drop-none zero = refl
drop-none (suc k) = refl

drop-drop : (n m : ℕ) (xs : List ℕ) → drop m (drop n xs) ≡ drop (n + m) xs
drop-drop zero m xs = ap (λ (k : ℕ). drop k xs) (omega arith)
drop-drop (suc n) m [] = drop-none m ∙ sym (drop-none (suc n + m))
drop-drop (suc n) m (x ∷ xs) =
    let next : suc n + m ≡ suc (n + m) = omega arith in
    drop-drop n m xs ∙ ap (λ (k : ℕ). drop k (x ∷ xs)) (sym next)

drop-all : (xs : List ℕ) → drop (length xs) xs ≡ []
drop-all xs = ap (drop (length xs)) (sym (append-nil xs)) ∙ drop-append_seam xs []

none-left : (n : ℕ) (xs : List ℕ) → drop n xs ≡ [] → length xs ≤ n
none-left n xs none = omega (arith, length-drop n xs, ap length none)

-- what stands behind some bytes
behind : (a b c : List ℕ) (at : ℕ) (bytes : List ℕ) → bytes ≡ a ++ (b ++ c) → at ≡ length a → StandAt at b bytes
behind a b c at bytes is place =
    ap (λ (xs : List ℕ). take (length b) (drop at xs)) is ∙ ap (λ (n : ℕ). take (length b) (drop n (a ++ (b ++ c)))) place ∙ ap (take (length b)) (drop-append_seam a (b ++ c)) ∙ take-append_seam b c

split-at : (at : ℕ) (b bytes : List ℕ) → StandAt at b bytes → drop at bytes ≡ b ++ drop (at + length b) bytes
split-at at b bytes stands = sym (take-append-drop (length b) (drop at bytes)) ∙ ap (λ (xs : List ℕ). xs ++ drop (length b) (drop at bytes)) stands
    ∙ ap (λ (xs : List ℕ). b ++ xs) (drop-drop at (length b) bytes)

sum-cons : (x : ℕ) (xs : List ℕ) → sum (x ∷ xs) ≡ x + sum xs
sum-cons x xs = sum_by-cons (λ (n : ℕ). n) x xs

-- ---- places

running-split : (at : ℕ) (xs ys : List ℕ) → running at (xs ++ ys) ≡ starts at xs ++ running (at + sum xs) ys
running-split at [] ys = ap (λ (n : ℕ). running n ys) (sym (add-zero at))
running-split at (x ∷ xs) ys =
    let next : at + x + sum xs ≡ at + sum (x ∷ xs) = omega (arith, sum-cons x xs) in
    ap (λ (ns : List ℕ). at ∷ ns) (running-split (at + x) xs ys ∙ ap (λ (n : ℕ). starts (at + x) xs ++ running n ys) next)

starts-more : (at : ℕ) (xs : List ℕ) (y : ℕ) → starts at (xs ++ y ∷ []) ≡ starts at xs ++ (at + sum xs) ∷ []
starts-more at [] y = ap (λ (n : ℕ). n ∷ []) (sym (add-zero at))
starts-more at (x ∷ xs) y =
    let next : at + x + sum xs ≡ at + sum (x ∷ xs) = omega (arith, sum-cons x xs) in
    ap (λ (ns : List ℕ). at ∷ ns) (starts-more (at + x) xs y ∙ ap (λ (n : ℕ). starts (at + x) xs ++ n ∷ []) next)

running-first : (at : ℕ) (xs : List ℕ) → (rest : List ℕ) × (running at xs ≡ at ∷ rest)
running-first at [] = ([], refl)
running-first at (x ∷ xs) = (running (at + x) xs, refl)

starts-long : (at : ℕ) (xs : List ℕ) → length (starts at xs) ≡ length xs
starts-long at [] = refl
starts-long at (x ∷ xs) = ap suc (starts-long (at + x) xs)

four-long : (n : ℕ) → length (four n) ≡ 4
unfolding four
four-long n = refl

eight-long : (n : ℕ) → length (eight n) ≡ 8
unfolding eight
eight-long n = refl

long-place : (narrow : Bool) (p : ℕ) → length (if narrow then four p else eight p) ≡ (if narrow then 4 else 8)
long-place true p = four-long p
long-place false p = eight-long p

pub place-long : (version p : ℕ) → length (place_bytes version p) ≡ place_width version
place-long version p = long-place (version == 1) p

places-long : (version : ℕ) (ps : List ℕ) → length (flat_map (place_bytes version) ps) ≡ place_width version * length ps
places-long version [] = omega arith
places-long version (p ∷ ps) = widths (place_width version) (length (place_bytes version p)) (length (flat_map (place_bytes version) ps)) (length ps)
    (place-long version p) (places-long version ps) (length-append (place_bytes version p) (flat_map (place_bytes version) ps))
  where
    widths : (w a b n : ℕ) {all : ℕ} → a ≡ w → b ≡ w * n → all ≡ a + b → all ≡ w * suc n
    widths w a b n first rest both = grind arith

docs-long : (code : TextCode) (docs : List (List ℕ)) → length (docs_bytes code docs) ≡ sum (map (coded_size code) docs)
docs-long code [] = refl
docs-long code (doc ∷ docs) = length-append (as_bytes (coded_doc code doc)) (docs_bytes code docs)
    ∙ ap (λ (n : ℕ). coded_size code doc + n) (docs-long code docs) ∙ sym (sum-cons (coded_size code doc) (map (coded_size code) docs))

docs-places-long : (version : ℕ) (code : TextCode) (docs : List (List ℕ)) → length (docs_places version code docs) ≡ place_width version * length docs
docs-places-long version code docs =
    places-long version (starts 0 (map (coded_size code) docs)) ∙ ap (λ (n : ℕ). place_width version * n) (starts-long 0 (map (coded_size code) docs) ∙ length-map docs (coded_size code))

-- the places of documents, of which the first are known
placed : (version : ℕ) (code : TextCode) (docs more : List (List ℕ)) →
    (rest : List ℕ) × (flat_map (place_bytes version) (running 0 (map (coded_size code) (docs ++ more))) ≡ docs_places version code docs
    ++ (place_bytes version (length (docs_bytes code docs)) ++ rest))
placed version code docs more =
    let first = running-first (0 + sum (map (coded_size code) docs)) (map (coded_size code) more) in
    let at : 0 + sum (map (coded_size code) docs) ≡ length (docs_bytes code docs) = omega (arith, docs-long code docs) in (
      flat_map (place_bytes version) first.0,
      ap (λ (xs : List ℕ). flat_map (place_bytes version) (running 0 xs)) (map-append (coded_size code) docs more)
          ∙ ap (flat_map (place_bytes version)) (running-split 0 (map (coded_size code) docs) (map (coded_size code) more))
          ∙ flat_map-append (place_bytes version) (starts 0 (map (coded_size code) docs)) (running (0 + sum (map (coded_size code) docs)) (map (coded_size code) more))
          ∙ ap (λ (xs : List ℕ). docs_places version code docs ++ flat_map (place_bytes version) xs) first.1
          ∙ ap (λ (n : ℕ). docs_places version code docs ++ (place_bytes version n ++ flat_map (place_bytes version) first.0)) at,
    )

-- ---- a document more

last-of : (docs : List (List ℕ)) (doc : List ℕ) → last_size (docs ++ doc ∷ []) ≡ length doc
last-of [] doc = refl
last-of (d ∷ []) doc = refl
last-of (d ∷ e ∷ docs) doc = last-of (e ∷ docs) doc

docs-more : (code : TextCode) (docs : List (List ℕ)) (doc : List ℕ) → docs_bytes code (docs ++ doc ∷ []) ≡ docs_bytes code docs ++ as_bytes (coded_doc code doc)
docs-more code docs doc = flat_map-append (λ (d : List ℕ). as_bytes (coded_doc code d)) docs (doc ∷ []) ∙ ap (λ (xs : List ℕ). docs_bytes code docs ++ xs) (append-nil (as_bytes (coded_doc code doc)))

pieces-more : (kind : Stream) (docs : List (List ℕ)) (doc : List ℕ) → flat_map (pieces_in kind) docs ++ pieces_in kind doc ≡ flat_map (pieces_in kind) (docs ++ doc ∷ [])
pieces-more kind docs doc = sym (flat_map-append (pieces_in kind) docs (doc ∷ []) ∙ ap (λ (ps : List (List ℕ)). flat_map (pieces_in kind) docs ++ ps) (append-nil (pieces_in kind doc)))

sum-more : (docs : List (List ℕ)) (doc : List ℕ) → sum_by (λ (d : List ℕ). length d) (docs ++ doc ∷ []) ≡ sum_by (λ (d : List ℕ). length d) docs + length doc
sum-more docs doc = sum_by-append (λ (d : List ℕ). length d) docs (doc ∷ []) ∙ ap (λ (n : ℕ). sum_by (λ (d : List ℕ). length d) docs + n)
    (sum_by-cons (λ (d : List ℕ). length d) doc [] ∙ add-zero (length doc))

places-more : (version : ℕ) (code : TextCode) (docs : List (List ℕ)) (doc : List ℕ) → docs_places version code (docs ++ doc ∷ [])
    ≡ docs_places version code docs ++ place_bytes version (length (docs_bytes code docs))
places-more version code docs doc =
    let at : 0 + sum (map (coded_size code) docs) ≡ length (docs_bytes code docs) = omega (arith, docs-long code docs) in
    ap (λ (xs : List ℕ). flat_map (place_bytes version) (starts 0 xs)) (map-append (coded_size code) docs (doc ∷ []))
    ∙ ap (flat_map (place_bytes version)) (starts-more 0 (map (coded_size code) docs) (coded_size code doc))
    ∙ flat_map-append (place_bytes version) (starts 0 (map (coded_size code) docs)) ((0 + sum (map (coded_size code) docs)) ∷ [])
    ∙ ap (λ (xs : List ℕ). docs_places version code docs ++ xs) (append-nil (place_bytes version (0 + sum (map (coded_size code) docs))) ∙ ap (place_bytes version) at)

take-more : (w n : ℕ) (a b bytes : List ℕ) → length b ≡ w → take (w * n) bytes ≡ a → StandAt (w * n) b bytes → take (w * (n + 1)) bytes ≡ a ++ b
take-more w n a b bytes long first next =
    let more : w * (n + 1) ≡ w * n + w = grind arith in
    ap (λ (m : ℕ). take m bytes) more ∙ take-add (w * n) w bytes ∙ ap (λ (xs : List ℕ). xs ++ take w (drop (w * n) bytes)) first
    ∙ ap (λ (m : ℕ). a ++ take m (drop (w * n) bytes)) (sym long) ∙ ap (λ (xs : List ℕ). a ++ xs) next

pub read-more : (parts : Parts) (version : ℕ) (code : TextCode) (docs : List (List ℕ)) (doc : List ℕ) (p q : Progress) → HasRead parts version code docs p →
    IsNextDoc parts version code doc p → HasAdded code doc p q → HasRead parts version code (docs ++ doc ∷ []) q
read-more parts version code docs doc p q so next added =
    let text : parts.text ≡ docs_bytes code (docs ++ doc ∷ []) ++ drop q.place parts.text =
    so.begins.bytes_are ∙ ap (λ (xs : List ℕ). docs_bytes code docs ++ xs) (split-at p.place (as_bytes (coded_doc code doc)) parts.text next.stands)
    ∙ sym (append_assoc (docs_bytes code docs) (as_bytes (coded_doc code doc)) (drop (p.place + coded_size code doc) parts.text))
    ∙ ap (λ (xs : List ℕ). xs ++ drop (p.place + coded_size code doc) parts.text) (sym (docs-more code docs doc))
    ∙ ap (λ (n : ℕ). docs_bytes code (docs ++ doc ∷ []) ++ drop n parts.text) (sym added.place) in
    record {
      begins = record { each = all-join (IsCodable code) docs (doc ∷ []) so.begins.each (next.codable, tt); bytes_are = text };
      count = omega (arith, length-append docs (doc ∷ []), so.count, added.documents);
      each = all-join IsDocument docs (doc ∷ []) so.each (next.is_document, tt);
      place = added.place ∙ ap (λ (n : ℕ). n + coded_size code doc) so.place ∙ sym (ap length (docs-more code docs doc) ∙ length-append (docs_bytes code docs) (as_bytes (coded_doc code doc)));
      bytes = added.bytes ∙ ap (λ (n : ℕ). n + length doc) so.bytes ∙ sym (sum-more docs doc);
      last = added.last ∙ sym (last-of docs doc);
      places =
          ap (λ (n : ℕ). take (place_width version * n) parts.places) added.documents
          ∙ take-more (place_width version) p.documents (docs_places version code docs) (place_bytes version p.place) parts.places (place-long version p.place) so.places next.place
          ∙ ap (λ (n : ℕ). docs_places version code docs ++ place_bytes version n) so.place ∙ sym (places-more version code docs doc);
      words = added.words.counts (flat_map (pieces_in Words) docs) so.words ∙ ap (λ (ps : List (List ℕ)). map (count_in ps) code.words.pieces) (pieces-more Words docs doc);
      others = added.others.counts (flat_map (pieces_in Others) docs) so.others ∙ ap (λ (ps : List (List ℕ)). map (count_in ps) code.others.pieces) (pieces-more Others docs doc);
    }

-- ---- where the parts stand for a collection

-- the reader reads its text
pub reader-stands : (files : Option Files) (base : List ℕ) (head : Head) (r : TextReading) (collection : List ℕ) → IsLoaded files base head r →
    Stand (parts_at files base) collection → TextStands r files collection
reader-stands files base head r collection loaded stand =
    let by = told_set files base collection head r.code (record { told = loaded.told; stand = stand }) loaded.tell in
    let is = set_is_text base files head r.code collection by in record {
      told = loaded.told;
      model = loaded.tell.model;
      code = is.code_is;
      text = ap (λ (name : List ℕ). bits_of (bytes_at files name)) loaded.reader.text_is ∙ is.text_is;
      places = ap (bytes_at files) loaded.reader.places_is ∙ is.places_are ∙ ap (λ (v : ℕ). places_part v r.code collection) (sym loaded.reader.version_is);
      size = loaded.reader.size_is ∙ is.size_is;
      documents = loaded.reader.documents_are ∙ is.documents_are;
      few = is.few;
      small = subst (λ (v : ℕ). r.size ≤ most_text v) (sym loaded.reader.version_is) (omega (arith, loaded.reader.size_is, is.small));
    }

-- the next document of a collection for which the parts stand, and the bytes that are left for it
pub next-of : (files : Option Files) (base : List ℕ) (head : Head) (r : TextReading) (docs : List (List ℕ)) (p : Progress) (collection : List ℕ) →
    IsLoaded files base head r → HasRead (parts_at files base) head.version r.code docs p → p.documents < head.documents →
    Stand (parts_at files base) collection → IsNextDoc (parts_at files base) head.version r.code (get_or (documents collection) p.documents []) p
    × (p.bytes + length (get_or (documents collection) p.documents []) ≤ head.collection)
next-of files base head r docs p collection loaded so fewer stand =
    let parts = parts_at files base in
    let fit = told-stands (parts_at files base) (fields_of head) r.code collection loaded.tell stand in
    let all : head.documents ≡ length (documents collection) = ap (λ (h : defs.Head). h.documents) fit.0 in
    let whole : head.collection ≡ length collection = ap (λ (h : defs.Head). h.collection) fit.0 in
    let first = so-far (parts_at files base) (fields_of head) r.code docs (drop p.place parts.text) collection loaded.tell so.begins (omega (arith, so.count, fewer)) stand in
    let within : p.documents < length (documents collection) = omega (arith, fewer, all) in
    let known : docs ≡ take p.documents (documents collection) = first.0 ∙ ap (λ (n : ℕ). take n (documents collection)) so.count in
    let more : drop p.documents (documents collection) ≡ get_or (documents collection) p.documents [] ∷
    drop (suc p.documents) (documents collection) = drop-cons (documents collection) p.documents [] within in
    let left : drop p.place parts.text ≡ as_bytes (coded_doc r.code (get_or (documents collection) p.documents [])) ++ docs_bytes r.code (drop (suc p.documents) (documents collection)) =
    first.1 ∙ ap (λ (n : ℕ). docs_bytes r.code (drop n (documents collection))) so.count ∙ ap (docs_bytes r.code) more in
    let split : documents collection ≡ docs ++ drop p.documents (documents collection) = sym (take-append-drop p.documents (documents collection))
    ∙ ap (λ (ds : List (List ℕ)). ds ++ drop p.documents (documents collection)) (sym known) in
    let places = placed head.version r.code docs (drop p.documents (documents collection)) in
    let at : place_width head.version * p.documents ≡ length (docs_places head.version r.code docs) =
    ap (λ (n : ℕ). place_width head.version * n) (sym so.count) ∙ sym (docs-places-long head.version r.code docs) in
    let before : p.bytes ≡ sum_by (λ (d : List ℕ). length d) (take p.documents (documents collection)) = so.bytes ∙ ap (sum_by (λ (d : List ℕ). length d)) known in
    let after : sum_by (λ (d : List ℕ). length d) (drop p.documents (documents collection))
    ≡ length (get_or (documents collection) p.documents []) + sum_by (λ (d : List ℕ). length d) (drop (suc p.documents) (documents collection)) =
    ap (sum_by (λ (d : List ℕ). length d)) more ∙ sum_by-cons (λ (d : List ℕ). length d) (get_or (documents collection) p.documents []) (drop (suc p.documents) (documents collection)) in (
      record {
        is_document = all-get IsDocument (documents collection) p.documents [] (documents_split collection).each within;
        codable = all-get (IsCodable r.code) (documents collection) p.documents [] (code-docs head.version collection r.code fit.1.limits fit.1.code_is) within;
        stands = ap (take (coded_size r.code (get_or (documents collection) p.documents []))) left
            ∙ take-append_seam (as_bytes (coded_doc r.code (get_or (documents collection) p.documents [])))
            (docs_bytes r.code (drop (suc p.documents) (documents collection)));
        place =
            behind (docs_places head.version r.code docs) (place_bytes head.version p.place) places.0 (place_width head.version * p.documents) parts.places
            (fit.1.places ∙ ap (λ (ds : List (List ℕ)). flat_map (place_bytes head.version) (running 0 (map (coded_size r.code) ds))) split ∙ places.1
            ∙ ap (λ (n : ℕ). docs_places head.version r.code docs ++ (place_bytes head.version n ++ places.0)) (sym so.place)) at;
      },
      omega (arith, before, after, sum_by-take-drop (λ (d : List ℕ). length d) (documents collection) p.documents, docs_within collection, whole),
    )

-- ---- at the end

last-some : (docs : List (List ℕ)) → 0 < last_size docs → LastIsNotEmpty docs
last-some [] some = absurd (omega arith)
last-some (doc ∷ []) some = some
last-some (doc ∷ next ∷ docs) some = last-some (next ∷ docs) some

some-last : (docs : List (List ℕ)) → LastIsNotEmpty docs → 0 < last_size docs
some-last [] some = absurd some
some-last (doc ∷ []) some = some
some-last (doc ∷ next ∷ docs) some = some-last (next ∷ docs) some

abbrev sizes_of : List (List ℕ) → ℕ
sizes_of docs = sum_by (λ (d : List ℕ). length d) docs

sizes-cons : (doc : List ℕ) (docs : List (List ℕ)) → sizes_of (doc ∷ docs) ≡ length doc + sizes_of docs
sizes-cons doc docs = sum_by-cons (λ (d : List ℕ). length d) doc docs

joined-closed : (docs : List (List ℕ)) → length (joined docs false) ≡ sizes_of docs + length docs
joined-closed [] = refl
joined-closed (doc ∷ []) = omega (arith, length-append doc (2 ∷ []), sizes-cons doc [])
joined-closed (doc ∷ next ∷ docs) = omega (arith, length-append doc (2 ∷ joined (next ∷ docs) false), sizes-cons doc (next ∷ docs), joined-closed (next ∷ docs))

joined-open : (docs : List (List ℕ)) → LastIsNotEmpty docs → length (joined docs true) + 1 ≡ sizes_of docs + length docs
joined-open [] some = absurd some
joined-open (doc ∷ []) some = omega (arith, length-append doc [], sizes-cons doc [])
joined-open (doc ∷ next ∷ docs) some = omega (arith, length-append doc (2 ∷ joined (next ∷ docs) true), sizes-cons doc (next ∷ docs), joined-open (next ∷ docs) some)

joined-long : (docs : List (List ℕ)) (open_end : Bool) → (IsTrue open_end → LastIsNotEmpty docs) → length (joined docs open_end) + defs.as_number open_end ≡ sizes_of docs + length docs
joined-long docs true last = joined-open docs (last (yes true refl))
  where
    yes : (b : Bool) → b ≡ true → IsTrue b
    yes b is = is
joined-long docs false last = add-zero (length (joined docs false)) ∙ joined-closed docs

mean-of : (files : Option Files) (base : List ℕ) (head : Head) (r : TextReading) (docs : List (List ℕ)) (p : Progress) → IsLoaded files base head r →
    HasRead (parts_at files base) head.version r.code docs p → p.documents ≡ head.documents → p.place ≡ head.text_bytes →
    Mean (parts_at files base) (fields_of head) r.code docs
mean-of files base head r docs p loaded so all place =
    let parts = parts_at files base in
    let none : drop p.place parts.text ≡ [] = ap (λ (n : ℕ). drop n parts.text) (place ∙ sym loaded.text) ∙ drop-all parts.text in record {
      tell = loaded.tell;
      count = so.count ∙ all;
      each = so.begins.each;
      text = so.begins.bytes_are ∙ ap (λ (xs : List ℕ). docs_bytes r.code docs ++ xs) none ∙ append-nil (docs_bytes r.code docs);
    }

-- both pieces of each pair are known
known-words : (code : TextCode) (ps : List Pair) → AllByRecursion (HasCodewords code) ps → AllByRecursion (Contains code.words.pieces) (map (piece_of_pair Words) ps)
known-words code [] each = tt
known-words code (p ∷ ps) each = (each.0.word, known-words code ps each.1)

known-others : (code : TextCode) (ps : List Pair) → AllByRecursion (HasCodewords code) ps → AllByRecursion (Contains code.others.pieces) (map (piece_of_pair Others) ps)
known-others code [] each = tt
known-others code (p ∷ ps) each = (each.0.other, known-others code ps each.1)

pub all-words : (code : TextCode) (docs : List (List ℕ)) → AllByRecursion (IsCodable code) docs → AllByRecursion (Contains code.words.pieces) (flat_map (pieces_in Words) docs)
all-words code [] each = tt
all-words code (doc ∷ docs) each = all-join (Contains code.words.pieces) (pieces_in Words doc) (flat_map (pieces_in Words) docs) (known-words code (parse doc) each.0.each) (all-words code docs each.1)

pub all-others : (code : TextCode) (docs : List (List ℕ)) → AllByRecursion (IsCodable code) docs → AllByRecursion (Contains code.others.pieces) (flat_map (pieces_in Others) docs)
all-others code [] each = tt
all-others code (doc ∷ docs) each = all-join (Contains code.others.pieces) (pieces_in Others doc) (flat_map (pieces_in Others) docs)
    (known-others code (parse doc) each.0.each) (all-others code docs each.1)

-- the counts of the documents are those of their collection
counts-of : (kind : Stream) (code : StreamCode) (docs : List (List ℕ)) (collection counts : List ℕ) → docs ≡ documents collection →
    AreCounts code (flat_map (pieces_in kind) docs) counts → counts ≡ counts_in kind collection code
counts-of kind code docs collection counts is are = are ∙ ap (λ (ds : List (List ℕ)). map (count_in (flat_map (pieces_in kind) ds)) code.pieces) is

used-well : (kind : Stream) (code : StreamCode) (collection counts : List ℕ) → counts ≡ counts_in kind collection code → IsUsed counts code.lengths → IsUsedWell kind collection code
used-well kind code collection counts same used = let used_too = subst (λ (cs : List ℕ). IsUsed cs code.lengths) same used in record { used = used_too.used; cost = used_too.cost }

used-back : (kind : Stream) (code : StreamCode) (collection counts : List ℕ) → counts ≡ counts_in kind collection code → IsUsedWell kind collection code → IsUsed counts code.lengths
used-back kind code collection counts same well = subst (λ (cs : List ℕ). IsUsed cs code.lengths) (sym same) (record { used = well.used; cost = well.cost })

-- all places are known
all-placed : (version : ℕ) (code : TextCode) (docs : List (List ℕ)) (place n : ℕ) (places : List ℕ) → length places ≡ place_width version * (n + 1) →
    take (place_width version * n) places ≡ docs_places version code docs → StandAt (place_width version * n) (place_bytes version place) places →
    place ≡ length (docs_bytes code docs) →
    places ≡ flat_map (place_bytes version) (running 0 (map (coded_size code) docs))
all-placed version code docs place n places long first last at =
    let sum_is : length (docs_bytes code docs) ≡ 0 + sum (map (coded_size code) docs) = omega (arith, docs-long code docs) in
    let behind_all : map (coded_size code) docs ≡ map (coded_size code) docs ++ [] = sym (append-nil (map (coded_size code) docs)) in
    sym (ap (λ (m : ℕ). take m places) (sym long) ∙ take-length places)
    ∙ take-more (place_width version) n (docs_places version code docs) (place_bytes version place) places (place-long version place) first last
    ∙ ap (λ (m : ℕ). docs_places version code docs ++ place_bytes version m) (at ∙ sum_is)
    ∙ sym (ap (λ (xs : List ℕ). flat_map (place_bytes version) (running 0 xs)) behind_all ∙ ap (flat_map (place_bytes version)) (running-split 0 (map (coded_size code) docs) [])
    ∙ flat_map-append (place_bytes version) (starts 0 (map (coded_size code) docs)) ((0 + sum (map (coded_size code) docs)) ∷ [])
    ∙ ap (λ (xs : List ℕ). docs_places version code docs ++ xs) (append-nil (place_bytes version (0 + sum (map (coded_size code) docs)))))

pub end-means : (files : Option Files) (base : List ℕ) (head : Head) (r : TextReading) (docs : List (List ℕ)) (p : Progress) → IsLoaded files base head r →
    HasRead (parts_at files base) head.version r.code docs p → p.documents ≡ head.documents → IsAtEnd (parts_at files base) head r.code p →
    IsMeant (parts_at files base) (fields_of head) r.code docs
end-means files base head r docs p loaded so all ends =
    let parts = parts_at files base in
    let collection : List ℕ = joined docs head.open_end in
    let split : IsSplit (joined docs head.open_end) docs head.open_end = record { each = so.each; whole = refl; last = λ is. last-some docs (subst (λ (n : ℕ). 0 < n) so.last (ends.open_end is)) } in
    let own : docs ≡ documents (joined docs head.open_end) = (split_unique (joined docs head.open_end) docs head.open_end split).0 in
    let words : IsUsedWell Words (joined docs head.open_end) r.code.words = used-well Words r.code.words (joined docs head.open_end) p.uses.words.items
    (counts-of Words r.code.words docs (joined docs head.open_end) p.uses.words.items own so.words) ends.words in
    let others : IsUsedWell Others (joined docs head.open_end) r.code.others = used-well Others r.code.others (joined docs head.open_end) p.uses.others.items
    (counts-of Others r.code.others docs (joined docs head.open_end) p.uses.others.items own so.others) ends.others in
    let word_code = code-of Words (joined docs head.open_end) r.code.words loaded.tell.model.words
    (λ k d within. all-get (Contains r.code.words.pieces) (all_pieces Words (joined docs head.open_end)) k d
    (subst (λ (ds : List (List ℕ)). AllByRecursion (Contains r.code.words.pieces) (flat_map (pieces_in Words) ds)) own
    (all-words r.code docs so.begins.each)) within) words in
    let other_code = code-of Others (joined docs head.open_end) r.code.others loaded.tell.model.others
    (λ k d within. all-get (Contains r.code.others.pieces) (all_pieces Others (joined docs head.open_end)) k d
    (subst (λ (ds : List (List ℕ)). AllByRecursion (Contains r.code.others.pieces) (flat_map (pieces_in Others) ds)) own
    (all-others r.code docs so.begins.each)) within) others in
    let size : head.collection ≡ length (joined docs head.open_end) = omega (arith, joined-long docs head.open_end split.last, ends.bytes, so.bytes, so.count) in record {
      mean = mean-of files base head r docs p loaded so all ends.place;
      split = split;
      words = words;
      others = others;
      places = all-placed head.version r.code docs p.place p.documents parts.places (loaded.places ∙ ap (λ (n : ℕ). place_width head.version * (n + 1)) (sym all)) so.places ends.last_place so.place
          ∙ ap (λ (ds : List (List ℕ)). flat_map (place_bytes head.version) (running 0 (map (coded_size r.code) ds))) own;
      bytes = size;
      limits = record {
        bytes = subst (λ (n : ℕ). n ≤ (limits head.version).collection) size loaded.tell.head.within.collection;
        documents = subst (λ (n : ℕ). n ≤ (limits head.version).documents) (sym (ap length (sym own) ∙ so.count ∙ all)) loaded.tell.head.within.documents;
        words = subst (λ (n : ℕ). n ≤ (limits head.version).pieces) (loaded.words ∙ ap length word_code.pieces) loaded.tell.head.within.words;
        others = subst (λ (n : ℕ). n ≤ (limits head.version).pieces) (loaded.others ∙ ap length other_code.pieces) loaded.tell.head.within.others;
      };
    }

pub end-of : (files : Option Files) (base : List ℕ) (head : Head) (r : TextReading) (docs : List (List ℕ)) (p : Progress) (collection : List ℕ) →
    IsLoaded files base head r → HasRead (parts_at files base) head.version r.code docs p → p.documents ≡ head.documents →
    Stand (parts_at files base) collection → IsAtEnd (parts_at files base) head r.code p
end-of files base head r docs p collection loaded so all stand =
    let parts = parts_at files base in
    let none : drop p.place parts.text ≡ [] = last-stands parts (fields_of head) r.code docs (drop p.place parts.text) collection loaded.tell so.begins (so.count ∙ all) stand in
    let whole : length parts.text ≡ length (docs_bytes r.code docs) + length (drop p.place parts.text) = ap length so.begins.bytes_are
    ∙ length-append (docs_bytes r.code docs) (drop p.place parts.text) in
    let place : p.place ≡ head.text_bytes = omega (arith, none-left p.place parts.text none, whole, so.place, loaded.text) in
    let only = stands-only parts (fields_of head) r.code docs collection (mean-of files base head r docs p loaded so all place) stand in
    let fit = told-stands parts (fields_of head) r.code collection loaded.tell stand in
    let own : docs ≡ documents collection = (split_unique collection docs head.open_end only.1).0 in
    let size : head.collection ≡ length collection = ap (λ (h : defs.Head). h.collection) fit.0 in
    let same : length (joined docs head.open_end) ≡ length collection = ap length only.1.whole in
    let places = placed head.version r.code docs [] in
    let at : place_width head.version * p.documents ≡ length (docs_places head.version r.code docs) =
    ap (λ (n : ℕ). place_width head.version * n) (sym so.count) ∙ sym (docs-places-long head.version r.code docs) in record {
      place = place;
      last_place =
          behind (docs_places head.version r.code docs) (place_bytes head.version p.place) places.0 (place_width head.version * p.documents) parts.places
          (fit.1.places ∙ ap (λ (ds : List (List ℕ)). flat_map (place_bytes head.version) (running 0 (map (coded_size r.code) ds))) (sym own ∙ sym (append-nil docs)) ∙ places.1
          ∙ ap (λ (n : ℕ). docs_places head.version r.code docs ++ (place_bytes head.version n ++ places.0)) (sym so.place)) at;
      open_end = λ is. subst (λ (n : ℕ). 0 < n) (sym so.last) (some-last docs (only.1.last is));
      bytes = omega (arith, joined-long docs head.open_end only.1.last, so.bytes, so.count, size, same);
      words = used-back Words r.code.words collection p.uses.words.items (counts-of Words r.code.words docs collection p.uses.words.items own so.words)
          (used-of Words collection r.code.words fit.1.code_is.0);
      others = used-back Others r.code.others collection p.uses.others.items (counts-of Others r.code.others docs collection p.uses.others.items own so.others)
          (used-of Others collection r.code.others fit.1.code_is.1);
    }
