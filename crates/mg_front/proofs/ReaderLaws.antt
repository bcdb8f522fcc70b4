-- The places of whole entries, and entries read from a whole one on.
use Rattle.std.proofs.Common.{arith, suc, ◌≡◌, ◌≢◌, ◌^◌, ◌+◌, ◌-◌, ◌*◌, ◌%◌, ◌≤◌, ◌<◌, ◌==◌, ◌++◌, ℕ, Bool, true, false, List, [], ◌∷◌}
use Rattle.std.proofs.Common.{length, take, drop, Some, None, refl, sym, ◌∙◌, ap, subst, cond, length-append, length-take, length-drop, slice_get, IfSome, IsSome, ◌⊎◌, inl, inr}
use Rattle.std.specs.declared.option.Option.{Option}
use Rattle.mg_defs.specs.Numbers.{four}
use Rattle.mg_defs.specs.Front.{IsEntry, shared, Entry, Found, IsFront, AreEntries, entry_bytes, front, front_from, whole_at, last_string, read_entry}
use Rattle.mg_defs.proofs.EntryLaws.{shared_within, read_next, front_more, front_append}
use Rattle.mg_dev.specs.Files.{Files, bytes_at}
use Rattle.mg_defs.proofs.FrontParts.{places_long, place_there, read_first, read_later, some_cons, last_taken, four_same}
use Rattle.mg_dev.specs.Files.{Reads}
use Rattle.mg_dev.specs.Names.{same_part}
use Rattle.mg_dev.specs.declared.part.Part.{Part}
use Rattle.mg_dev.specs.PartCauses.{HasPartCause}
use Rattle.mg_dev.proofs.CallerLemmas.{cause_err, cause_then}
use Rattle.mg_dev.specs.declared.bad.Bad as declared
use Rattle.mg_dev.specs.declared.device.Failed.{Failed}
use Rattle.mg_bits.specs.Pages.{Fits, Looked, Paging}
use Rattle.mg_front.specs.Looks.{ReadsUpTo}
use Rattle.mg_front.proofs.ReadPages.{one_look, place_look}
use Rattle.mg_dev.specs.declared.part_err.PartErr.{PartErr}
use Rattle.mg_dev.specs.declared.part_err.PartErr.TheVariants.{Device, Memory, Bad}
use Rattle.std.specs.Prelude.{Ok, Err, Result}
use Rattle.mg_front.specs.Reading.{AnswersPlaces, AtBlock, FrontFits, Fronted, FrontStands, IsLost, IsNotBad}
use Rattle.mg_front.specs.Reading.{LacksPlace, LookedAt, NoneAmong, ReaderLooked, ReadsPlace, SameParts, TellsPlace, places_size}
use Rattle.std.proofs.lemmas.Bool.{cases_lt}
use Rattle.std.proofs.lemmas.Option.{same_Some}
use Rattle.mg_front.specs.Entries.{entry_of, found_of}
use Rattle.mg_front.specs.declared.entry.FrontEntry.{FrontEntry}

-- so many entries of a block were read, the last of them into the buffer
pub record ReadSoFar (width number place : ℕ) (out : FrontEntry) (es : List Entry) (block : ℕ) : Type 0 where
  pub place_is : place ≡ length (front (take (4 * block + number) es))
  pub last_is : 0 < number → slice_get es (4 * block + number - 1) ≡ Some (entry_of width out)

pub record NextOf (width number place : ℕ) (out : FrontEntry) (es : List Entry) (bytes : List ℕ) (block : ℕ) (e : Entry) (size : ℕ) : Type 0 where
  pub there : slice_get es (4 * block + number) ≡ Some e
  pub reads : read_entry width number (take out.length out.string) (drop place bytes) ≡ Some (record { entry = e; size = size })
  pub on : place + size ≡ length (front (take (4 * block + (number + 1)) es))

-- the next entry of a block is read
pub step : (width number place last : ℕ) (out : FrontEntry) (es : List Entry) (bytes : List ℕ) (block : ℕ) → IsFront width bytes es →
    ReadSoFar width number place out es block → number ≤ last → last < 4 → 4 * block + last < length es →
    (e : Entry) × (size : ℕ) × NextOf width number place out es bytes block e size
step width number place last out es bytes block is so_far up few within =
    let j = 4 * block + number in
    let some = some_cons es (4 * block + number) (omega arith) in
    let e = some.0 in
    let head = take (4 * block + number) es in
    let long : length (take (4 * block + number) es) ≡ 4 * block + number = simp length-take (omega arith) in
    let up_one : 4 * block + (number + 1) ≡ suc (4 * block + number) = omega arith in
    let code = entry_bytes (length head) (last_string [] head) e in
    let read = read_next width head e some.1 (subst (AreEntries width 0 []) some.2 is.entries) in
    let bytes_are : drop place bytes ≡ drop (length (front (take (4 * block + number) es))) (front (take (4 * block + number) es ++ some.0 ∷ some.1)) =
    ap (drop place) (is.bytes_are ∙ ap front some.2) ∙ ap (λ m. drop m (front (head ++ e ∷ some.1))) so_far.place_is in
    let here : read_entry width (4 * block + number) (last_string [] head) (drop place bytes)
    ≡ Some (record { entry = e; size = length code }) = ap (read_entry width (4 * block + number) (last_string [] head)) bytes_are
    ∙ ap (λ m. read_entry width m (last_string [] head) (drop (length (front head)) (front (head ++ e ∷ some.1)))) (sym long) ∙ read in (
      e,
      length code,
      record {
        there = some.3;
        reads = by_order (cases_lt 0 number) here;
        on = sym (ap (λ m. length (front (take m es))) up_one ∙ ap (λ t. length (front t)) some.4 ∙ ap length (front_more head e)
            ∙ length-append (front head) code ∙ ap (λ m. m + length code) (sym so_far.place_is));
      },
    )
  where
    by_order : (0 < number) ⊎ (number ≤ 0) → {it : Found} →
        read_entry width (4 * block + number) (last_string [] (take (4 * block + number) es)) (drop place bytes) ≡ Some it →
        read_entry width number (take out.length out.string) (drop place bytes) ≡ Some it
    by_order (inl later) h =
        let before : last_string [] (take (4 * block + number) es) ≡ take out.length out.string =
        last_taken [] es (4 * block + number - 1) (4 * block + number) (entry_of width out) (omega arith) (so_far.last_is later) in
        read_later width (4 * block + number) number (take out.length out.string) (drop place bytes) _ (omega arith) later
        (ap (λ b. read_entry width (4 * block + number) b (drop place bytes)) (sym before) ∙ h)
    by_order (inr first) h =
        let zero_is : number ≡ 0 = omega arith in
        ap (λ m. read_entry width m (take out.length out.string) (drop place bytes)) zero_is
        ∙ read_first width (4 * block + number) (last_string [] (take (4 * block + number) es)) (take out.length out.string) (drop place bytes) _
        (omega arith) h

pub stepped : (width number place last size : ℕ) (before out : FrontEntry) (o : Option ℕ) (es : List Entry) (bytes : List ℕ) (block : ℕ) →
    IsFront width bytes es → ReadSoFar width number place before es block → number ≤ last → last < 4 → 4 * block + last < length es →
    o ≡ Some size → read_entry width number (take before.length before.string) (drop place bytes) ≡ found_of width out o → ReadSoFar width (number + 1) (place + size) out es block
stepped width number place last size before out o es bytes block is so_far up few within some read =
    let next = step width number place last before es bytes block is so_far up few within in
    let found : ◌≡◌ {A = Found} (record { entry = next.0; size = next.1 })
    (record { entry = record { string = take out.length out.string; field = take width out.field }; size = size }) =
    same_Some _ _ (sym next.2.reads ∙ read ∙ ap (found_of width out) some) in
    record {
      place_is = ap (λ m. place + m) (sym (ap (λ (f : Found). f.size) found)) ∙ next.2.on;
      last_is = λ _. ap (slice_get es) (omega arith) ∙ next.2.there ∙ ap Some (ap (λ (f : Found). f.entry) found);
    }

pub never_none : (width number place last : ℕ) (before out : FrontEntry) (o : Option ℕ) (es : List Entry) (bytes : List ℕ) (block : ℕ) →
    IsFront width bytes es → ReadSoFar width number place before es block → number ≤ last → last < 4 → 4 * block + last < length es →
    o ≡ None → read_entry width number (take before.length before.string) (drop place bytes) ≡ found_of width out o → ⊥
never_none width number place last before out o es bytes block is so_far up few within none read =
    let next = step width number place last before es bytes block is so_far up few within in
    some_is_not (sym next.2.reads ∙ read ∙ ap (found_of width out) none)
  where
    some_is_not : {x : Found} → Some x ≡ None → ⊥
    some_is_not e = cc

pub if_some : (o : Option ℕ) (n most : ℕ) → o ≡ Some n → IfSome o (λ m. m ≤ most) → n ≤ most
if_some None n most e h = absurd cc
if_some (Some m) n most e h = let d : m ≡ n = cc in omega arith

entry_short : (width i : ℕ) (before : List ℕ) (e : Entry) → IsEntry width i before e → length (entry_bytes i before e) ≤ 257 + width
unfolding entry_bytes
entry_short width i before e is = by_test (i % 4 == 0)
  where
    within : shared before e.string ≤ length e.string
    within = (shared_within before e.string).1

    by_test : (b : Bool) →
        length (cond b (length e.string ∷ (e.string ++ e.field)) (shared before e.string ∷ (length e.string - shared before e.string) ∷
        (drop (shared before e.string) e.string ++ e.field))) ≤ 257 + width
    by_test true = omega (arith, length-append e.string e.field, is.short, is.field)
    by_test false = omega (arith, length-append (drop (shared before e.string) e.string) e.field, length-drop (shared before e.string) e.string, is.short, is.field)

front_short : (width i : ℕ) (before : List ℕ) (es : List Entry) → width ≤ 24 → AreEntries width i before es → length (front_from i before es) ≤ 281 * length es
unfolding front_from
front_short width i before [] wide are = omega arith
front_short width i before (e ∷ es) wide are = omega (
  arith,
  length-append (entry_bytes i before e) (front_from (i + 1) e.string es),
  entry_short width i before e are.0,
  front_short width (i + 1) e.string es wide are.1,
)

-- as many entries as a writer takes have places of four bytes
pub front_small : (es : List Entry) (width : ℕ) → AreEntries width 0 [] es → length es ≤ 2 ^ 22 → width ≤ 24 → length (front es) < 2 ^ 32
front_small es width are few wide = omega (arith, front_short width 0 [] es wide are)

-- where the places stand, a block's place is that of its first entry
pub block_place : (r : Fronted) (files : Option Files) (es : List Entry) (block place : ℕ) → FrontStands r files es → 4 * block < length es → place < 2 ^ 32 →
    take 4 (drop (4 * block) (bytes_at files r.places.name)) ≡ four place → place ≡ length (front (take (4 * block) es))
block_place r files es block place stands within small here =
    let some = some_cons es (4 * block) within in
    let head = take (4 * block) es in
    let long : length (take (4 * block) es) ≡ 4 * block = simp length-take (omega arith) in
    let there : take 4 (drop (4 * block) (whole_at es)) ≡ four (length (front (take (4 * block) es))) = ap (λ t. take 4 (drop (4 * block) (whole_at t))) some.2
    ∙ place_there head some.0 some.1 block long in
    let all : length (front es) ≡ length (front (take (4 * block) es))
    + length (front_from (0 + length (take (4 * block) es)) (last_string [] (take (4 * block) es)) (some.0 ∷ some.1)) = ap (λ t. length (front t)) some.2
    ∙ ap length (front_append 0 [] head (some.0 ∷ some.1)) ∙ length-append (front head)
    (front_from (0 + length head) (last_string [] head) (some.0 ∷ some.1)) in
    four_same place (length (front (take (4 * block) es))) small (omega (arith, all, stands.small, ap length stands.strings.bytes_are))
    (sym here ∙ ap (λ t. take 4 (drop (4 * block) t)) stands.places ∙ there)

-- and there is such a place
pub block_there : (r : Fronted) (files : Option Files) (es : List Entry) (block : ℕ) → FrontStands r files es → 4 * block < length es → length (bytes_at files r.places.name) < 4 * block + 4 → ⊥
block_there r files es block stands within short = absurd (omega (arith, places_long 0 [] 0 es, ap length stands.places))

-- so where the parts stand, only the store is a reason that the place is not told
pub only_device : (P : PartErr → Type 0) (r : Fronted) (files : Option Files) (es : List Entry) (block : ℕ) (refusal : PartErr) → P Device →
    FrontStands r files es → 4 * block < length es → LacksPlace refusal r.places files block → P refusal
only_device P r files es block Device device stands within lacks = device
only_device P r files es block Memory device stands within lacks = absurd lacks
only_device P r files es block (Bad bad) device stands within lacks = absurd (block_there r files es block stands within (lacks.short stands.told))

-- a reader tells why it has not the place
pub lost_place : (r : Fronted) (files : Option Files) (block : ℕ) (refusal : PartErr) → LacksPlace refusal r.places files block → IsLost refusal r files block
lost_place r files block Device lacks = tt
lost_place r files block Memory lacks = tt
lost_place r files block (Bad bad) lacks = inl lacks

-- ---- calls that look at two parts

pub looked_places : {strings places : Part} {f g : Option Files} {r s : Reads} {a b : ℕ} → Looked places f g r s a b → LookedAt strings places f g r s a b
looked_places {strings} {places} {f} {g} {r} {s} {a} {b} one = record { files = one.files; faults = one.faults; later = one.later; others = λ p apart other. one.others p other }

pub looked_both : {strings places other : Part} {f g h : Option Files} {r s t : Reads} {a b c : ℕ} → Looked places f g r s a b → Looked other g h s t b c →
    other ≡ strings → LookedAt strings places f h r t a c
looked_both {strings} {places} {other} {f} {g} {h} {r} {s} {t} {a} {b} {c} one two same = record {
  files = two.files ∙ one.files;
  faults = omega (arith, one.faults, two.faults);
  later = λ p. omega (arith, one.later p, two.later p);
  others = λ p apart away. two.others p (ap (same_part p) same ∙ apart) ∙ one.others p away;
}

pub looked_again : {strings places strings_now places_now : Part} {f g h : Option Files} {r s t : Reads} {a b c : ℕ} → LookedAt strings places f g r s a b →
    LookedAt strings_now places_now g h s t b c → strings_now ≡ strings → places_now ≡ places → LookedAt strings places f h r t a c
looked_again {strings} {places} {strings_now} {places_now} {f} {g} {h} {r} {s} {t} {a} {b} {c} one two e d = record {
  files = two.files ∙ one.files;
  faults = omega (arith, one.faults, two.faults);
  later = λ p. omega (arith, one.later p, two.later p);
  others = λ p apart away. two.others p (ap (same_part p) e ∙ apart) (ap (same_part p) d ∙ away) ∙ one.others p apart away;
}

pub looked_not : {strings places : Part} {f : Option Files} {r : Reads} {a : ℕ} → LookedAt strings places f f r r a a
looked_not {strings} {places} {f} {r} {a} = record { files = refl; faults = omega arith; later = λ p. omega arith; others = λ p apart away. refl }

-- one more entry of a block has another string
pub scanned_more : (es : List Entry) (from n : ℕ) (string : List ℕ) (it : Entry) → NoneAmong es from n string → slice_get es (from + n) ≡ Some it →
    it.string ≢ string → NoneAmong es from (n + 1) string
scanned_more es from n string it none there apart k e within here same = by_side (cases_lt k n)
  where
    by_side : (k < n) ⊎ (n ≤ k) → ⊥
    by_side (inl before) = none k e before here same
    by_side (inr at) = apart (ap (λ (x : Entry). x.string) (same_Some it e (sym there ∙ ap (λ m. slice_get es (from + m)) (omega arith) ∙ here)) ∙ same)

-- the entry that was read last
pub last_read : (width number place : ℕ) (out : FrontEntry) (es : List Entry) (block : ℕ) → ReadSoFar width (number + 1) place out es block →
    slice_get es (4 * block + number) ≡ Some (entry_of width out)
last_read width number place out es block so_far = ap (slice_get es) (omega arith) ∙ so_far.last_is (omega arith)

-- the places of so many entries have the size that is wanted
pub never_refused : (part : Part) (count : ℕ) (bytes : List ℕ) (es : List Entry) (refusal : PartErr) → bytes ≡ whole_at es → length es ≡ count →
    AnswersPlaces {T = Unit {0}} part (places_size count) bytes (Err refusal) → IsNotBad refusal
never_refused part count bytes es Device holds long answer = tt
never_refused part count bytes es Memory holds long answer = tt
never_refused part count bytes es (Bad bad) holds long answer = answer.0 (ap length holds ∙ omega (arith, places_long 0 [] 0 es))

-- the same parts through two calls
pub same_again : {a b c : Fronted} → SameParts a b → SameParts b c → SameParts a c
same_again one two = record {
  strings = two.strings ∙ one.strings;
  places = two.places ∙ one.places;
  strings_part = two.strings_part ∙ one.strings_part;
  places_part = two.places_part ∙ one.places_part;
  width = two.width ∙ one.width;
  count = two.count ∙ one.count;
}

-- ---- the ways out of a reader's calls

fits_as : {feed : Paging} {f g : Option Files} → g ≡ f → Fits feed f → Fits feed g
fits_as {feed} same fits = subst (Fits feed) (sym same) fits

not_memory : {T : Type 0} (refusal : PartErr) (places : Paging) (files : Option Files) (block : ℕ) → LacksPlace refusal places files block →
    ◌≡◌ {A = Result T PartErr} (Err refusal) (Err Memory) → ⊥
not_memory Device places files block lacks is = absurd cc
not_memory Memory places files block lacks is = lacks
not_memory (Bad bad) places files block lacks is = absurd cc

pub memory_for : {T U : Type 0} (refusal : PartErr) → (◌≡◌ {A = Result T PartErr} (Err refusal) (Err Memory) → ⊥) → ◌≡◌ {A = Result U PartErr} (Err refusal) (Err Memory) → ⊥
memory_for Device none is = absurd cc
memory_for Memory none is = none refl
memory_for (Bad bad) none is = absurd cc

-- the place was refused
pub looked_place : {T : Type 0} {w : Fronted} {p : Paging} {block : ℕ} {refusal : PartErr} {f g : Option Files} {r s : Reads} {x y : ℕ} → FrontFits w f →
    ReadsPlace w.places p block (Err refusal) f g r s x y →
    ReaderLooked {T = T} w (record { strings = w.strings; places = p; width = w.width; count = w.count }) 1 (Err refusal) f g r s x y
looked_place {w = w} {block = block} {refusal} {f} fits one = record {
  fits = record { strings = fits_as one.looked.files fits.strings; places = one.fits };
  same = record { strings = refl; places = one.file.name; strings_part = refl; places_part = one.file.part; width = refl; count = refl };
  looked = looked_places one.looked;
  reads = λ apart. place_look apart one.page one.looked;
  memory = not_memory refusal w.places f block one.answer;
  cause = cause_err (omega arith) one.cause;
}

-- entries were read from the place on
pub looked_entries : {T U : Type 0} {w : Fronted} {p q : Paging} {block place : ℕ} {answer : Result U Failed} (result : Result T PartErr) {f g h : Option Files} {r s t : Reads} {x y z : ℕ} →
    FrontFits w f → ReadsPlace w.places p block (Ok place) f g r s x y → ReadsUpTo w.strings q place (place + 1124) answer g h s t y z →
    result ≢ Err Memory → HasPartCause y z result →
    ReaderLooked w (record { strings = q; places = p; width = w.width; count = w.count }) 1 result f h r t x z
looked_entries {w = w} result fits one two memory cause = record {
  fits = record { strings = two.fits; places = fits_as two.looked.files one.fits };
  same = record { strings = two.file.name; places = one.file.name; strings_part = two.file.part; places_part = one.file.part; width = refl; count = refl };
  looked = looked_both one.looked two.looked refl;
  reads = λ apart. one_look apart one.page one.looked two.looked two.read_to;
  memory = memory;
  cause = cause_then result one.cause.later cause;
}

module _ {U : Type 0} {w : Fronted} {p q : Paging} {block place : ℕ} {f g h : Option Files} {r s t : Reads} {x y z : ℕ} where
  pub looked_ok : {T : Type 0} {answer : Result U Failed} (value : T) → FrontFits w f → ReadsPlace w.places p block (Ok place) f g r s x y →
      ReadsUpTo w.strings q place (place + 1124) answer g h s t y z →
      ReaderLooked w (record { strings = q; places = p; width = w.width; count = w.count }) 1 (Ok value) f h r t x z
  looked_ok value fits one two = looked_entries (Ok value) fits one two (λ is. absurd cc) (record { later = two.cause.later; device = tt })

  pub looked_bad : {T : Type 0} {answer : Result U Failed} (bad : declared.Bad) → FrontFits w f → ReadsPlace w.places p block (Ok place) f g r s x y →
      ReadsUpTo w.strings q place (place + 1124) answer g h s t y z →
      ReaderLooked {T = T} w (record { strings = q; places = p; width = w.width; count = w.count }) 1 (Err (Bad bad)) f h r t x z
  looked_bad bad fits one two = looked_entries (Err (Bad bad)) fits one two (λ is. absurd cc) (record { later = two.cause.later; device = tt })

  pub looked_failed : {T : Type 0} {failed : Failed} → FrontFits w f → ReadsPlace w.places p block (Ok place) f g r s x y →
      ReadsUpTo {T = U} w.strings q place (place + 1124) (Err failed) g h s t y z →
      ReaderLooked {T = T} w (record { strings = q; places = p; width = w.width; count = w.count }) 1 (Err Device) f h r t x z
  looked_failed fits one two = looked_entries (Err Device) fits one two (λ is. absurd cc) (record { later = two.cause.later; device = two.cause.failed })

-- the strings are front-coded for the scan too, and its block begins at the place that was read
pub at_block : {F : List Entry → ℕ → Type 0} (w : Fronted) {f g : Option Files} (es : List Entry) (block place : ℕ) → FrontStands w f es → 4 * block < length es → g ≡ f →
    TellsPlace (Ok place) w.places f block → AtBlock w.strings g w.width place F → F es block
at_block w es block place stands within same tells fact =
    fact (subst IsSome (sym same) stands.told) es block (subst (λ h. IsFront w.width (bytes_at h w.strings.name) es) (sym same) stands.strings)
    (block_place w _ es block place stands within tells.0 (tells.1 stands.told))
