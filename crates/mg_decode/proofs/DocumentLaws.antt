-- Documents one after the other, on their way to a sink.
use Rattle.std.proofs.Common.{arith, ◌≡◌, ◌+◌, ◌-◌, ◌≤◌, ◌<◌, ℕ, zero, suc, Bool, true, false, List, [], ◌∷◌, ◌++◌, length, drop, get_or, Option, refl, sym, ◌∙◌, ap, subst, append-nil, append_assoc, add-one, is_some, length-append, Result, Ok, Err}
use Rattle.std.proofs.Common.{drop-cons}
use Rattle.mg_dev.specs.Files.{Files, Reads, file_at}
use Rattle.mg_dev.specs.Streams.{GrewByPrefix}
use Rattle.mg_dev.specs.StreamLaws.{grew_first}
use Rattle.mg_dev.specs.declared.part.Part.{Part}
use Rattle.mg_dev.specs.declared.part_err.PartErr.TheVariants as part
use Rattle.mg_dev.specs.declared.show_err.ShowErr.{ShowErr}
use Rattle.mg_dev.specs.declared.show_err.ShowErr.TheVariants as show
use Rattle.mg_defs.specs.Split.{close, documents, has_open_end, is_closed, joined}
use Rattle.mg_defs.proofs.SplitLaws.{documents_split, joined_next}
use Rattle.mg_defs.specs.Terms.{document}
use Rattle.mg_front.specs.Reading.{LookedAt}
use Rattle.mg_text.specs.Decoding.{Gathering, IsPutCaused, Shown, bytes_to_come}
use Rattle.mg_text.specs.Reading.{SameText, ShowIsNotBad, TextReading, TextStands}
use Rattle.mg_text.proofs.CallerLemmas.{shown_none, text_stays}
use Rattle.mg_decode.specs.Documents.{ShownFirst}

-- ---- calls that read

pub looked_none : (a b : Part) (f : Option Files) (r : Reads) (n : ℕ) → LookedAt a b f f r r n n
looked_none a b f r n = record { files = refl; faults = omega arith; later = λ p. omega arith; others = λ p x y. refl }

pub looked_more : {a b : Part} {f g h : Option Files} {r s t : Reads} {l m n : ℕ} → LookedAt a b f g r s l m → LookedAt a b g h s t m n →
    LookedAt a b f h r t l n
looked_more one two = record {
  files = two.files ∙ one.files;
  faults = omega (arith, one.faults, two.faults);
  later = λ p. omega (arith, one.later p, two.later p);
  others = λ p x y. two.others p x y ∙ one.others p x y;
}

pub same_none : (r : TextReading) → SameText r r
same_none r = record { text = refl; places = refl; code = refl; version = refl; documents = refl; size = refl }

pub same_more : {a b c : TextReading} → SameText a b → SameText b c → SameText a c
same_more one two = record {
  text = two.text ∙ one.text;
  places = two.places ∙ one.places;
  code = two.code ∙ one.code;
  version = two.version ∙ one.version;
  documents = two.documents ∙ one.documents;
  size = two.size ∙ one.size;
}

-- what stands for a reader does so for what the reader became, while the files stay
pub stands_on : (r now : TextReading) (files files_now : Option Files) (collection : List ℕ) → SameText r now → files_now ≡ files → TextStands r files collection → TextStands now files_now collection
stands_on r now files files_now collection same stay stands = text_stays r now files files_now collection same (ap is_some stay)
    (ap (λ f. file_at f r.text.name) stay) (ap (λ f. file_at f r.places.name) stay) stands

-- ---- a document and the byte that closes it

pub grew_close : (w0 w1 : Option (List ℕ)) (bytes doc : List ℕ) (closed : Bool) → GrewByPrefix w0 w1 (bytes ++ doc) → GrewByPrefix w0 w1 (bytes ++ (doc ++ close closed))
grew_close w0 w1 bytes doc closed grew = subst (GrewByPrefix w0 w1) (append_assoc bytes doc (close closed)) (grew_first w0 w1 (bytes ++ doc) (close closed) grew)

pub with_close : (closed : Bool) (bytes doc : List ℕ) → closed ≡ true → (bytes ++ doc) ++ (2 ∷ []) ≡ bytes ++ (doc ++ close closed)
with_close true bytes doc is = append_assoc bytes doc (2 ∷ [])
with_close false bytes doc is = absurd cc

pub without_close : (closed : Bool) (bytes doc : List ℕ) → closed ≡ false → bytes ++ doc ≡ bytes ++ (doc ++ close closed)
without_close true bytes doc is = absurd cc
without_close false bytes doc is = ap (λ t. bytes ++ t) (sym (append-nil doc))

-- of a buffer that holds nothing only what it takes may come
pub first_most : (b : Gathering) → b.held ≡ [] → bytes_to_come b ≤ b.left
first_most b empty = omega (arith, ap length empty)

-- where a document and the byte that closes it may come, so may the document
pub doc_fits : (bytes doc : List ℕ) (closed : Bool) (most : ℕ) → length (bytes ++ (doc ++ close closed)) ≤ most → length (bytes ++ doc) ≤ most
doc_fits bytes doc closed most fits =
    omega (arith, length-append bytes (doc ++ close closed), length-append doc (close closed), length-append bytes doc, fits)

-- it is no longer than what may still come
pub doc_short : (left : ℕ) (bytes doc : List ℕ) (closed : Bool) (most : ℕ) → length bytes + left ≡ most → length (bytes ++ (doc ++ close closed)) ≤ most → length doc ≤ left
doc_short left bytes doc closed most rest fits =
    omega (arith, length-append bytes (doc ++ close closed), length-append doc (close closed), rest, fits)

-- behind the document the byte may come
pub close_fits : (left : ℕ) (bytes doc : List ℕ) (closed : Bool) (most : ℕ) → length (bytes ++ doc) + left ≡ most →
    (bytes ++ doc) ++ (2 ∷ []) ≡ bytes ++ (doc ++ close closed) → length (bytes ++ (doc ++ close closed)) ≤ most → 1 ≤ left
close_fits left bytes doc closed most rest is fits = omega (arith, ap length is, length-append (bytes ++ doc) (2 ∷ []), rest, fits)

-- a byte that may come is not bad
pub byte_put : (r : Result (Unit {0}) ShowErr) (left f g l m : ℕ) → 1 ≤ left → IsPutCaused r left 1 f g l m → ShowIsNotBad r
byte_put (Ok done) left f g l m some cause = tt
byte_put (Err (show.Part part.Device)) left f g l m some cause = absurd cause
byte_put (Err (show.Part part.Memory)) left f g l m some cause = absurd cause
byte_put (Err (show.Part (part.Bad bad))) left f g l m some cause = absurd (omega (arith, some, cause))
byte_put (Err show.Write) left f g l m some cause = tt
byte_put (Err show.Memory) left f g l m some cause = tt

-- no document was shown
pub shown_nothing : (w : Option (List ℕ)) (b : Gathering) (collection : List ℕ) → b.held ≡ [] → ShownFirst 0 w w b collection b.left
shown_nothing w b collection empty = record {
  bytes = [];
  shown = shown_none w b empty;
  whole = (documents_split collection).whole;
}

-- what comes next of a collection
next_whole : (collection bytes : List ℕ) (i all : ℕ) → all ≡ length (documents collection) → i < all → bytes ++ joined (drop i (documents collection)) (has_open_end collection) ≡ collection →
    (bytes ++ (get_or (documents collection) i [] ++ close (is_closed (i + 1) all (has_open_end collection)))) ++ joined (drop (i + 1) (documents collection)) (has_open_end collection) ≡ collection
next_whole collection bytes i all count more whole =
    let docs = documents collection in
    let e = has_open_end collection in
    let doc = get_or docs i [] in
    let rest = drop (i + 1) docs in
    let cut : drop i docs ≡ doc ∷ rest = rw (add-one) (drop-cons docs i [] (omega (arith, count, more))) in
    let long : i + 1 + length rest ≡ all = omega (arith, count, ap length cut, drop_long docs i (omega (arith, count, more))) in
    append_assoc bytes (doc ++ close (is_closed (i + 1) all e)) (joined rest e) ∙ ap (λ t. bytes ++ t) (sym (joined_next doc rest e (i + 1) all long)) ∙ ap (λ l. bytes ++ joined l e) (sym cut) ∙ whole
  where
    drop_long : (ds : List (List ℕ)) (i : ℕ) → i < length ds → length (drop i ds) + i ≡ length ds
    drop_long [] i h = absurd (omega arith)
    drop_long (d ∷ ds) zero h = omega arith
    drop_long (d ∷ ds) (suc i) h = omega (arith, drop_long ds i (omega (arith, h)))

-- the next document may come where the collection may
pub next_fits : (collection : List ℕ) (i number all most : ℕ) (open_end closed : Bool) (w0 w1 : Option (List ℕ)) (b : Gathering) →
    all ≡ length (documents collection) → i < all → number ≡ i + 1 → has_open_end collection ≡ open_end → closed ≡ is_closed number all open_end →
    (first : ShownFirst i w0 w1 b collection most) → length collection ≡ most → length (first.bytes ++ (document collection number ++ close closed)) ≤ most
next_fits collection i number all most open_end closed w0 w1 b count more at ends is first size =
    let e : closed ≡ is_closed (i + 1) all (has_open_end collection) = is ∙ ap (λ n. is_closed n all open_end) at ∙ ap (is_closed (i + 1) all) (sym ends) in
    let place : number ≡ suc i = omega (arith, at) in
    let here = first.bytes ++ (get_or (documents collection) i [] ++ close (is_closed (i + 1) all (has_open_end collection))) in
    let rest = joined (drop (i + 1) (documents collection)) (has_open_end collection) in
    let short : length here ≤ most = omega (arith, ap length (next_whole collection first.bytes i all count more first.whole), length-append here rest, size) in
    subst (λ n. length (first.bytes ++ (document collection n ++ close closed)) ≤ most) (sym place)
    (subst (λ c. length (first.bytes ++ (get_or (documents collection) i [] ++ close c)) ≤ most) (sym e) short)

-- one document more was shown
pub shown_next : (collection : List ℕ) (i number all most : ℕ) (open_end closed : Bool) (w0 w1 w2 : Option (List ℕ)) (b0 b : Gathering) →
    all ≡ length (documents collection) → i < all → number ≡ i + 1 → has_open_end collection ≡ open_end → closed ≡ is_closed number all open_end →
    (first : ShownFirst i w0 w1 b0 collection most) → Shown w0 w2 b (first.bytes ++ (document collection number ++ close closed)) most →
    ShownFirst (i + 1) w0 w2 b collection most
shown_next collection i number all most open_end closed w0 w1 w2 b0 b count more at ends is first shown =
    let e : closed ≡ is_closed (i + 1) all (has_open_end collection) = is ∙ ap (λ n. is_closed n all open_end) at ∙ ap (is_closed (i + 1) all) (sym ends) in
    let place : number ≡ suc i = omega (arith, at) in
    record {
      bytes = first.bytes ++ (get_or (documents collection) i [] ++ close (is_closed (i + 1) all (has_open_end collection)));
      shown = subst (λ n. Shown w0 w2 b (first.bytes ++ (document collection n ++ close (is_closed (i + 1) all (has_open_end collection)))) most)
          place (subst (λ c. Shown w0 w2 b (first.bytes ++ (document collection number ++ close c)) most) e shown);
      whole = next_whole collection first.bytes i all count more first.whole;
    }

-- the next document was refused
pub refused_next : (collection : List ℕ) (i number all most : ℕ) (open_end closed : Bool) (w0 w1 w2 : Option (List ℕ)) (b0 : Gathering) →
    all ≡ length (documents collection) → i < all → number ≡ i + 1 → has_open_end collection ≡ open_end → closed ≡ is_closed number all open_end →
    (first : ShownFirst i w0 w1 b0 collection most) → GrewByPrefix w0 w2 (first.bytes ++ (document collection number ++ close closed)) → GrewByPrefix w0 w2 collection
refused_next collection i number all most open_end closed w0 w1 w2 b0 count more at ends is first grew =
    let e : closed ≡ is_closed (i + 1) all (has_open_end collection) = is ∙ ap (λ n. is_closed n all open_end) at ∙ ap (is_closed (i + 1) all) (sym ends) in
    let place : number ≡ suc i = omega (arith, at) in
    let bytes = first.bytes ++ (get_or (documents collection) i [] ++ close (is_closed (i + 1) all (has_open_end collection))) in
    let here : GrewByPrefix w0 w2 bytes =
    subst (λ n. GrewByPrefix w0 w2 (first.bytes ++ (document collection n ++ close (is_closed (i + 1) all (has_open_end collection))))) place
    (subst (λ b. GrewByPrefix w0 w2 (first.bytes ++ (document collection number ++ close b))) e grew) in
    subst (GrewByPrefix w0 w2) (next_whole collection first.bytes i all count more first.whole) (grew_first w0 w2 bytes (joined (drop (i + 1) (documents collection)) (has_open_end collection)) here)

-- all documents were shown
pub shown_whole : (collection : List ℕ) (i most : ℕ) (w0 w1 : Option (List ℕ)) (b : Gathering) → length (documents collection) ≤ i →
    ShownFirst i w0 w1 b collection most → Shown w0 w1 b collection most
shown_whole collection i most w0 w1 b all first =
    let none : drop i (documents collection) ≡ [] = dropped (documents collection) i all in
    subst (λ l. Shown w0 w1 b l most) (sym (append-nil first.bytes) ∙ ap (λ l. first.bytes ++ joined l (has_open_end collection)) (sym none) ∙ first.whole) first.shown
  where
    dropped : (ds : List (List ℕ)) (i : ℕ) → length ds ≤ i → drop i ds ≡ []
    dropped [] zero h = refl
    dropped [] (suc i) h = refl
    dropped (d ∷ ds) zero h = absurd (omega arith)
    dropped (d ∷ ds) (suc i) h = dropped ds i (omega (arith, h))
