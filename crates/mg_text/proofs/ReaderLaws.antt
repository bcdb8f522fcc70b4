-- What a reader of a text answers where its parts stand.
use Rattle.std.proofs.Common.{arith, ◌≡◌, ◌≢◌, ◌==◌, ◌+◌, ◌-◌, ◌*◌, ◌^◌, ◌≤◌, ◌<◌, inl, inr, ℕ, Bool, true, false, if◌then◌else◌, List}
use Rattle.std.proofs.Common.{[], ◌∷◌, ◌++◌, length, Option, Some, None, Result, Ok, Err, IsSome, is_some, unwrap_or, refl, sym, ◌∙◌, ap, subst, length-append}
use Rattle.std.proofs.lemmas.Grind.{common_steps}
use Rattle.std.specs.List.{flat_map}
use Rattle.mg_dev.specs.Files.{Files, bytes_at, file_at}
use Rattle.mg_dev.specs.Names.{full_name}
use Rattle.mg_dev.specs.StreamLaws.{grew_first, grew_nothing}
use Rattle.mg_dev.specs.declared.part.Part.TheVariants as part
use Rattle.mg_dev.specs.declared.part_err.PartErr.{PartErr}
use Rattle.mg_dev.specs.declared.part_err.PartErr.TheVariants.{Device, Memory, Bad}
use Rattle.mg_dev.specs.declared.show_err.ShowErr.{ShowErr}
use Rattle.mg_dev.specs.declared.show_err.ShowErr.TheVariants as show
use Rattle.mg_bits.specs.Feed.{Feeding, Device as Seen, ReadsWithin, to_read}
use Rattle.mg_defs.specs.Bits.{Shows, bits_of}
use Rattle.mg_defs.specs.WithinLimits.{IsWithinLimits}
use Rattle.mg_defs.proofs.BitLaws.{length_bits_of}
use Rattle.mg_defs.specs.CodedText.{IsTextCode, TextCode, place_bytes, places, places_part, text_part}
use Rattle.mg_defs.specs.PagesOf.{pages}
use Rattle.mg_defs.specs.Split.{documents}
use Rattle.mg_defs.proofs.CodedTextLaws.{places-long}
use Rattle.mg_front.specs.Reading.{IsNotBad}
use Rattle.mg_layout.specs.declared.head.Head.{Head}
use Rattle.mg_model.specs.Damage.{AnswersLoad}
use Rattle.mg_defs.specs.Means.{IsModel}
use Rattle.mg_model.specs.Models.{PartsStand}
use Rattle.mg_text_writer.specs.Documents.{TextHolds}
use Rattle.mg_text.proofs.TextSizes.{text_small}
use Rattle.mg_defs.proofs.StandDocs.{most}
use Rattle.mg_defs.specs.Numbers.{eight, four}
use Rattle.std.proofs.lemmas.Bool.Decides.{nat_tests}
use Rattle.mg_text.proofs.Shows.{shown_prefix}
use Rattle.mg_text.proofs.Steps.{ends_map, ends_read}
use Rattle.mg_text.specs.Decoding.{Decoded, Ends, Gathering, Shown, Stopped, Takes, WholeDoc}
use Rattle.mg_text.specs.Places.{place_width}
use Rattle.mg_text.specs.Reading.{AnswersDoc, AnswersGathered, AnswersReader, AnswersTextSizes, IsText, SameText, TextFits, TextReading, TextStands, stored_at, places_size}
use Rattle.mg_text.specs.Decoding.{PairsIn}
use Rattle.mg_text.specs.Places.{IsPlaceAt}
use Rattle.mg_text.proofs.StandLaws.{doc_ends, doc_pieces, doc_shown, few_pairs, place_long, place_stands, place_within, small_place}
use Rattle.mg_bits.specs.Feed.{told_at}
use Rattle.mg_bits.specs.Pages.{Paging, feeding_of}
use Rattle.mg_defs.specs.CodedText.{coded_doc, doc_range, place_after}
use Rattle.mg_defs.specs.Parse.{parse}
use Rattle.std.proofs.Common.{get_or}
use Rattle.mg_defs.specs.Terms.{document}
use Rattle.mg_defs.proofs.TermLaws.{document_is}
use Rattle.mg_bits.proofs.CallerLemmas.{held_page_stays}

-- every version but 1 has places of one width
wide_places : (version : ℕ) (code : TextCode) (collection : List ℕ) → version ≢ 1 → places_part 2 code collection ≡ places_part version code collection
wide_places version code collection other = one_width (version == 1) (places code collection) (narrow_is version other)
  where
    narrow_is : (v : ℕ) → v ≢ 1 → (v == 1) ≡ false
    narrow_is v h = grind (arith, nat_tests)

    one_width : (b : Bool) (ps : List ℕ) → b ≡ false → flat_map (place_bytes 2) ps ≡ flat_map (λ (p : ℕ). if b then four p else eight p) ps
    one_width true ps e = absurd cc
    one_width false ps e = refl

-- ---- loading

width_of_all : (f : ℕ → List ℕ) (w : ℕ) (xs : List ℕ) → ((x : ℕ) → length (f x) ≡ w) → length (flat_map f xs) ≡ w * length xs
width_of_all f w [] long = omega arith
width_of_all f w (x ∷ xs) long = omega (arith, length-append (f x) (flat_map f xs), long x, width_of_all f w xs long)

-- the places have the size that follows from the head
pub places_long : (head : Head) (code : TextCode) (collection : List ℕ) → head.documents ≡ length (documents collection) → length (places_part head.version code collection) ≡ places_size head
places_long head code collection is =
    width_of_all (place_bytes head.version) (place_width head.version) (places code collection) (place_long head.version)
    ∙ ap (λ n. place_width head.version * n) (places-long code collection ∙ ap (λ n. n + 1) (sym is))

-- bytes of the same bits are as many
same_length : (a b : List ℕ) → bits_of a ≡ bits_of b → length a ≡ length b
same_length a b same = omega (arith, ap length same, length_bits_of a, length_bits_of b)

-- no size differs where the parts stand
pub sizes_stand : (base : List ℕ) (files : Option Files) (head : Head) (code : TextCode) (collection : List ℕ) (refusal : PartErr) →
    IsText base files head code collection → AnswersTextSizes (stored_at files base head) (Err refusal) → IsNotBad refusal
sizes_stand base files head code collection Device it answers = tt
sizes_stand base files head code collection Memory it answers = tt
sizes_stand base files head code collection (Bad bad) it (inl text) = text.0 (same_length (bytes_at files (full_name base part.Text)) (text_part code collection) it.text_is ∙ sym it.size_is)
sizes_stand base files head code collection (Bad bad) it (inr places) = places.1 (ap length it.places_are ∙ places_long head code collection it.documents_are)

-- ---- showing a document

to_read_most : (held : Option ℕ) (from to : ℕ) → to_read 4096 held from to ≤ pages from to
to_read_most None from to = grind (arith, common_steps)
to_read_most (Some h) from to = grind (arith, common_steps)

pages_wider : (from to more : ℕ) → to ≤ more → pages from to ≤ pages from more
pages_wider from to more le = grind (arith, common_steps)

-- reads within a range of bits are at most its pages
pub text_reads : (f0 f1 : Feeding) (d0 d1 : Seen) (from to more : ℕ) → f0.page ≡ 4096 → f0.part ≡ Some part.Text → to ≤ more → ReadsWithin f0 f1 d0 d1 from to →
    d1.reads part.Text ≤ d0.reads part.Text + pages from more
text_reads f0 f1 d0 d1 from to more page own le within =
    let some : d1.reads part.Text ≤ d0.reads part.Text + to_read 4096 f0.held from to = subst
    (λ n. d1.reads part.Text ≤ d0.reads part.Text + to_read n f0.held from to) page (within.device part.Text own) in
    omega (arith, some, to_read_most f0.held from to, pages_wider from to more le)

pub doc_answered : (result : Result (Unit {0}) ShowErr) (f0 f1 : Feeding) (d0 d1 : Seen) (from to more before : ℕ) (w0 w1 : Option (List ℕ)) (doc : List ℕ) →
    f0.page ≡ 4096 → f0.part ≡ Some part.Text → to ≤ more → d0.reads part.Text ≡ before →
    Ends result (WholeDoc f0 f1 d0 d1 from to w0 w1 doc) (Stopped f0 f1 d0 d1 from to w0 w1 doc) → AnswersDoc result w0 w1 doc before (d1.reads part.Text) (pages from more)
doc_answered result f0 f1 d0 d1 from to more before w0 w1 doc page own le e ends =
    ends_map result _ _ _ _ (λ (h : WholeDoc f0 f1 d0 d1 from to w0 w1 doc). (h.grew, rw (← e) (text_reads f0 f1 d0 d1 from to more page own le h.pages)))
    (λ (h : Stopped f0 f1 d0 d1 from to w0 w1 doc). (h.grew, rw (← e) (text_reads f0 f1 d0 d1 from to more page own le h.pages))) ends

gather_answered : (result : Result (Unit {0}) ShowErr) (f0 f1 : Feeding) (d0 d1 : Seen) (from to place more before : ℕ) (w0 w1 : Option (List ℕ))
    (b : Gathering) (bytes : List ℕ) (most : ℕ) → f0.page ≡ 4096 → f0.part ≡ Some part.Text → to ≤ more → d0.reads part.Text ≡ before →
    Ends result (Decoded f0 f1 d0 d1 from to place w0 w1 b bytes most) (Stopped f0 f1 d0 d1 from to w0 w1 bytes) →
    AnswersGathered result w0 w1 b bytes most before (d1.reads part.Text) (pages from more)
gather_answered result f0 f1 d0 d1 from to place more before w0 w1 b bytes most page own le e ends =
    ends_map result _ _ _ _ (λ (h : Decoded f0 f1 d0 d1 from to place w0 w1 b bytes most). (h.shown, rw (← e) (text_reads f0 f1 d0 d1 from to more page own le h.read.pages)))
    (λ (h : Stopped f0 f1 d0 d1 from to w0 w1 bytes). (h.grew, rw (← e) (text_reads f0 f1 d0 d1 from to more page own le h.pages))) ends

-- the place was refused
pub place_refused : (T : Type 0) (refusal : PartErr) (whole : T → Type 0) (w : Option (List ℕ)) (doc : List ℕ) (before now most : ℕ) → now ≡ before →
    Takes {T = T} (Err refusal) whole (Unit {0}) → AnswersDoc (Err (show.Part refusal)) w w doc before now most
place_refused T refusal whole w doc before now most same takes = ends_read refusal whole (Unit {0}) _ _ (λ u. (grew_nothing w doc, omega (arith, same))) takes

pub gather_refused : (T : Type 0) (refusal : PartErr) (whole : T → Type 0) (w0 w1 : Option (List ℕ)) (b : Gathering) (bytes doc : List ℕ) (before now pages : ℕ) {most : ℕ} →
    now ≡ before → Shown w0 w1 b bytes most → Takes {T = T} (Err refusal) whole (Unit {0}) →
    AnswersGathered (Err (show.Part refusal)) w0 w1 b (bytes ++ doc) most before now pages
gather_refused T refusal whole w0 w1 b bytes doc before now pages {most} same shown takes = ends_read refusal whole (Unit {0}) _ _
    (λ u. (grew_first w0 w1 bytes doc (shown_prefix w0 w1 b bytes shown), omega (arith, same))) takes

-- where the place of a document stands
pub place_wanted : (r : TextReading) (files : Option Files) (collection : List ℕ) (number : ℕ) → TextStands r files collection → 1 ≤ number → number ≤ r.documents →
    IsPlaceAt r.version (number - 1) (place_after r.code collection (number - 1)) (bytes_at files r.places.name)
    × (place_after r.code collection (number - 1) ≤ r.size) × (place_after r.code collection (number - 1) ≤ 2 ^ 60)
place_wanted r files collection number stands some within = (
  place_stands r files collection (number - 1) stands (omega (arith, stands.documents, some, within)),
  omega (arith, place_within r.code collection (number - 1), stands.size),
  small_place r files collection (number - 1) stands,
)

-- what stands from the place of a document on, as far as the next one
pub record DocAt (code : TextCode) (source : Option (List ℕ)) (place end : ℕ) (doc : List ℕ) : Type 0 where
  pub pairs : PairsIn code (parse doc)
  pub few : length (parse doc) < 2 ^ 32
  pub small : place + length (coded_doc code doc) ≤ 2 ^ 63
  pub shows : Shows source place (coded_doc code doc)
  pub ends : place + length (coded_doc code doc) ≤ end

pub doc_at : (r : TextReading) (files mid : Option Files) (collection : List ℕ) (number from place : ℕ) (feed : Paging) → TextStands r files collection → 1 ≤ number → number ≤ r.documents → mid ≡ files →
    from ≡ place_after r.code collection (number - 1) → place ≡ 8 * from → feed ≡ r.text →
    DocAt r.code (told_at mid feed.name) place (8 * place_after r.code collection number) (document collection number)
doc_at r files mid collection number from place feed stands some within same at place_is fed =
    let i = number - 1 in
    let doc = get_or (documents collection) i [] in
    let lt : i < length (documents collection) = omega (arith, stands.documents, some, within) in
    let here : place ≡ 8 * place_after r.code collection i = omega (arith, at, place_is) in
    let next : i + 1 ≡ number = omega (arith, some) in
    let ends : place + length (coded_doc r.code doc) ≤ 8 * place_after r.code collection number =
    subst (λ n. place + length (coded_doc r.code doc) ≤ 8 * place_after r.code collection n) next (omega (arith, here, doc_ends r collection i lt)) in
    let whole : DocAt r.code (told_at mid feed.name) place (8 * place_after r.code collection number) doc = record {
      pairs = doc_pieces r.code collection i stands.code lt;
      few = few_pairs collection i stands.few;
      small = omega (arith, ends, small_place r files collection number stands);
      shows = subst (λ f. Shows (told_at mid f.name) place (coded_doc r.code doc)) (sym fed)
          (subst (λ f. Shows (told_at f r.text.name) place (coded_doc r.code doc)) (sym same)
          (subst (λ n. Shows (told_at files r.text.name) n (coded_doc r.code doc)) (sym here) (doc_shown r files collection i stands lt)));
      ends = ends;
    } in
    subst (DocAt r.code (told_at mid feed.name) place (8 * place_after r.code collection number)) (sym (document_is collection number some)) whole

-- what is shown from the place of a document
pub doc_told : (result : Result (Unit {0}) ShowErr) (r : TextReading) (files mid : Option Files) (collection : List ℕ) (number from place : ℕ) (feed : Paging)
    (f1 : Feeding) (d0 d1 : Seen) (before most : ℕ) (w0 w1 : Option (List ℕ)) →
    TextStands r files collection → 1 ≤ number → number ≤ r.documents → mid ≡ files → from ≡ place_after r.code collection (number - 1) → place ≡ 8 * from →
    feed ≡ r.text → r.text.part ≡ part.Text → d0.reads part.Text ≡ before → length (document collection number) ≤ most →
    ((doc : List ℕ) → PairsIn r.code (parse doc) → length (parse doc) < 2 ^ 32 → length doc ≤ most →
    place + length (coded_doc r.code doc) ≤ 2 ^ 63 → Shows (told_at mid feed.name) place (coded_doc r.code doc) →
    Ends result (WholeDoc (feeding_of 4096 feed) f1 d0 d1 place (place + length (coded_doc r.code doc)) w0 w1 doc)
    (Stopped (feeding_of 4096 feed) f1 d0 d1 place (place + length (coded_doc r.code doc)) w0 w1 doc)) →
    AnswersDoc result w0 w1 (document collection number) before (d1.reads part.Text) (pages (doc_range r.code collection number).from (doc_range r.code collection number).to)
doc_told result r files mid collection number from place feed f1 d0 d1 before most w0 w1 stands some within same at place_is fed own e short told =
    let doc = document collection number in
    let stood = doc_at r files mid collection number from place feed stands some within same at place_is fed in
    let here : place ≡ 8 * place_after r.code collection (number - 1) = omega (arith, at, place_is) in
    subst (λ n. AnswersDoc result w0 w1 doc before (d1.reads part.Text) (pages n (8 * place_after r.code collection number))) here
    (doc_answered result (feeding_of 4096 feed) f1 d0 d1 place (place + length (coded_doc r.code doc)) (8 * place_after r.code collection number) before w0 w1
    doc refl (ap (λ (f : Paging). Some f.part) fed ∙ ap Some own) stood.ends e
    (told doc stood.pairs stood.few short stood.small stood.shows))

-- what is gathered from the place of a document
pub gather_told : (result : Result (Unit {0}) ShowErr) (r : TextReading) (files mid : Option Files) (collection : List ℕ) (number from place next : ℕ)
    (feed : Paging) (f1 : Feeding) (d0 d1 : Seen) (before : ℕ) (w0 w1 w2 : Option (List ℕ)) (b0 b : Gathering) (bytes : List ℕ) {most : ℕ} →
    TextStands r files collection → 1 ≤ number → number ≤ r.documents → mid ≡ files → from ≡ place_after r.code collection (number - 1) → place ≡ 8 * from →
    feed ≡ r.text → r.text.part ≡ part.Text → d0.reads part.Text ≡ before → Shown w0 w1 b0 bytes most → length (bytes ++ document collection number) ≤ most →
    ((doc : List ℕ) → PairsIn r.code (parse doc) → length (parse doc) < 2 ^ 32 → (w : Option (List ℕ)) (bytes : List ℕ) (most : ℕ) → place + length (coded_doc r.code doc) ≤ 2 ^ 63 →
    Shows (told_at mid feed.name) place (coded_doc r.code doc) → Shown w w1 b0 bytes most → length (bytes ++ doc) ≤ most →
    Ends result (Decoded (feeding_of 4096 feed) f1 d0 d1 place (place + length (coded_doc r.code doc)) next w w2 b (bytes ++ doc) most)
    (Stopped (feeding_of 4096 feed) f1 d0 d1 place (place + length (coded_doc r.code doc)) w w2 (bytes ++ doc))) →
    AnswersGathered result w0 w2 b (bytes ++ document collection number) most before (d1.reads part.Text)
    (pages (doc_range r.code collection number).from (doc_range r.code collection number).to)
gather_told result r files mid collection number from place next feed f1 d0 d1 before w0 w1 w2 b0 b bytes {most} stands some within same at place_is fed own e shown fits told =
    let doc = document collection number in
    let stood = doc_at r files mid collection number from place feed stands some within same at place_is fed in
    let here : place ≡ 8 * place_after r.code collection (number - 1) = omega (arith, at, place_is) in
    subst (λ n. AnswersGathered result w0 w2 b (bytes ++ doc) most before (d1.reads part.Text) (pages n (8 * place_after r.code collection number))) here
    (gather_answered result (feeding_of 4096 feed) f1 d0 d1 place (place + length (coded_doc r.code doc)) next (8 * place_after r.code collection number) before
    w0 w2 b (bytes ++ doc) most refl (ap (λ (f : Paging). Some f.part) fed ∙ ap Some own) stood.ends e
    (told doc stood.pairs stood.few w0 bytes most stood.small stood.shows shown fits))

-- the models were refused once the sizes were found to be right
pub models_refused : (base : List ℕ) (files mid : Option Files) (head : Head) (refusal : PartErr) → mid ≡ files → AnswersTextSizes (stored_at files base head) (Ok tt) →
    (IsSome mid → AnswersLoad head.words head.others (bytes_at mid (full_name base part.Words)) (bytes_at mid (full_name base part.Nonwords)) (Err refusal)) →
    IsSome files → AnswersReader (stored_at files base head) (Err refusal)
models_refused base files mid head Device same sizes answers told = tt
models_refused base files mid head Memory same sizes answers told = (
  sizes,
  subst (λ f. AnswersLoad head.words head.others (bytes_at f (full_name base part.Words)) (bytes_at f (full_name base part.Nonwords)) (Err Memory))
      same (answers (subst IsSome (sym same) told)),
)
models_refused base files mid head (Bad bad) same sizes answers told =
    inr (
      sizes,
      subst (λ f. AnswersLoad head.words head.others (bytes_at f (full_name base part.Words)) (bytes_at f (full_name base part.Nonwords))
          (Err (Bad bad))) same (answers (subst IsSome (sym same) told)),
    )

-- no memory was left for the reader once the models were loaded
pub reader_refused : (base : List ℕ) (files mid : Option Files) (head : Head) (code : TextCode) → mid ≡ files → AnswersTextSizes (stored_at files base head) (Ok tt) →
    (IsSome mid → AnswersLoad head.words head.others (bytes_at mid (full_name base part.Words)) (bytes_at mid (full_name base part.Nonwords)) (Ok code)) →
    IsSome files → AnswersReader (stored_at files base head) (Err Memory)
reader_refused base files mid head code same sizes answers told =
    let loaded = subst (λ f. AnswersLoad head.words head.others (bytes_at f (full_name base part.Words)) (bytes_at f (full_name base part.Nonwords)) (Ok code))
    same (answers (subst IsSome (sym same) told)) in
    (sizes, loaded.0.room)

-- a reader stands as long as its parts stay as they are
pub text_stays : (r now : TextReading) (files files_now : Option Files) (collection : List ℕ) → SameText r now → is_some files_now ≡ is_some files →
    file_at files_now r.text.name ≡ file_at files r.text.name → file_at files_now r.places.name ≡ file_at files r.places.name → TextStands r files collection → TextStands now files_now collection
text_stays r now files files_now collection same told text places stands = record {
  told = told ∙ stands.told;
  model = subst IsModel (sym same.code) stands.model;
  code = subst (IsTextCode collection) (sym same.code) stands.code;
  text = ap (λ n. bits_of (bytes_at files_now n)) same.text ∙ ap (λ bytes. bits_of (unwrap_or bytes [])) text ∙ stands.text ∙ ap (λ c. bits_of (text_part c collection)) (sym same.code);
  places = ap (bytes_at files_now) same.places ∙ ap (λ bytes. unwrap_or bytes []) places ∙ stands.places
      ∙ ap (λ c. places_part r.version c collection) (sym same.code) ∙ ap (λ v. places_part v now.code collection) (sym same.version);
  size = same.size ∙ stands.size ∙ ap (λ c. length (text_part c collection)) (sym same.code);
  documents = same.documents ∙ stands.documents;
  few = stands.few;
  small = rw (same.size, same.version) stands.small;
}

pub text_fits : (r : TextReading) (files files_now : Option Files) → is_some files_now ≡ is_some files →
    file_at files_now r.text.name ≡ file_at files r.text.name → file_at files_now r.places.name ≡ file_at files r.places.name → TextFits r files → TextFits r files_now
text_fits r files files_now told text places fits = record {
  text = held_page_stays r.text files files_now told text fits.text;
  places = held_page_stays r.places files files_now told places fits.places;
}

-- the parts that a writer wrote for a collection, and a head of its numbers
pub text_written : (base : List ℕ) (files : Option Files) (head : Head) (code : TextCode) (collection : List ℕ) → TextHolds base files code collection →
    PartsStand files base code head.words head.others → IsTextCode collection code →
    head.version ≢ 1 → head.text_bytes ≡ length (text_part code collection) → head.documents ≡ length (documents collection) →
    IsWithinLimits head.version collection → IsText base files head code collection
text_written base files head code collection holds models coded version size count limits = record {
  models = models;
  code_is = coded;
  text_is = holds.text;
  places_are = holds.places ∙ wide_places head.version code collection version;
  size_is = size;
  documents_are = count;
  few = (most head.version collection limits).0;
  small = rw size (text_small head.version code collection coded limits);
}
