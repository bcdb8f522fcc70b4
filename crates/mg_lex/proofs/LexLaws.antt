-- What a lexicon's terms, entries and fields tell of each other.
use Rattle.std.proofs.Common.{arith, ◌≡◌, ◌≢◌, ◌<◌, ◌≤◌, ◌^◌, ◌==◌, ◌||◌, ◌++◌, true, false, ℕ, List, [], ◌∷◌, length, map, take, drop}
use Rattle.std.proofs.Common.{refl, sym, ◌∙◌, ap, subst, Some, None, slice_get, IsSome, is_some, unwrap_or, append_assoc, append-nil}
use Rattle.std.specs.declared.option.Option.{Option}
use Rattle.std.specs.List.{enumerate_from}
use Rattle.std.proofs.lemmas.List.{drop_at}
use Rattle.mg_dev.specs.Files.{Files, Reads, bytes_at, file_at}
use Rattle.mg_defs.specs.Numbers.{four, eight, four_at, eight_at}
use Rattle.mg_defs.specs.Front.{Entry, IsEntry, AreEntries, is_below, front, whole_at}
use Rattle.mg_defs.specs.Lexicon.{TermInfo, info_bytes, info_of, lexicon}
use Rattle.mg_defs.specs.Terms.{dictionary}
use Rattle.mg_defs.proofs.NumberLaws.{four_back, eight_back}
use Rattle.mg_defs.proofs.FrontParts.{four_long}
use Rattle.mg_defs.proofs.LexiconLaws.{lexicon_at, lexicon_entries, lexicon_long, lexicon_of}
use Rattle.std.specs.Option.{option_map}
use Rattle.std.proofs.lemmas.Option.{same_Some}
use Rattle.std.proofs.lemmas.List.{map-append}
use Rattle.mg_dev.specs.Names.{full_name, same_part}
use Rattle.mg_dev.specs.declared.part_err.PartErr.{PartErr}
use Rattle.mg_dev.specs.declared.part_err.PartErr.TheVariants.{Device, Memory, Bad}
use Rattle.std.specs.Prelude.{Ok, Err, OnOk, Result}
use Rattle.mg_dev.specs.declared.device.PutErr.{PutErr}
use Rattle.mg_dev.specs.Laws.{same_part_of_name}
use Rattle.mg_dev.specs.declared.part.Part.TheVariants.{Lex, LexAt}
use Rattle.mg_bits.specs.Writer.{Writing}
use Rattle.mg_front.specs.Entries.{entry_of}
use Rattle.mg_front.specs.Fronting.{Finished, IsOther, PlacesHold, Took, WritesFront}
use Rattle.mg_front.specs.Reading.{AnswersFind, FrontFits, Fronted, FrontStands, IsAbsent, IsReader, SameParts}
use Rattle.mg_front.specs.Looks.{ReadLooks}
use Rattle.mg_front.specs.declared.entry.FrontEntry.{FrontEntry}
use Rattle.mg_layout.specs.Infos.{info_of as told_of}
use Rattle.mg_layout.specs.declared.term_info.TermInfo as declared
use Rattle.mg_lex.specs.Reading.{AnswersTerm, IsInfo, IsLexicon, IsNoTerm, LexStands}
use Rattle.mg_lex.specs.Writing.{LexWriting, TermsStand, TookTerms, WritesLexicon, places_name}
use Rattle.mg_lex.specs.Terms.{FitsField, Term, entries_of, entry_of_term, terms_of}
use Rattle.mg_bits.proofs.CallerLemmas.{held_page_stays}
use Rattle.mg_front.proofs.CallerLemmas.{front_small, took_stays}

-- ---- fields

four_same : (a b : ℕ) → a < 2 ^ 32 → b < 2 ^ 32 → (rest more : List ℕ) → four a ++ rest ≡ four b ++ more → a ≡ b
four_same a b fits also rest more same = sym (four_back a fits rest) ∙ ap (λ bytes. four_at bytes 0) same ∙ four_back b also more

eight_same : (a b : ℕ) → a < 2 ^ 64 → b < 2 ^ 64 → (rest more : List ℕ) → eight a ++ rest ≡ eight b ++ more → a ≡ b
eight_same a b fits also rest more same = sym (eight_back a fits rest) ∙ ap (λ bytes. eight_at bytes 0) same ∙ eight_back b also more

eight_long : (n : ℕ) → length (eight n) ≡ 8
unfolding eight
eight_long n = refl

behind_four : (n : ℕ) (rest : List ℕ) → drop 4 (four n ++ rest) ≡ rest
behind_four n rest = drop_at (four n) rest 4 (four_long n)

behind_eight : (n : ℕ) (rest : List ℕ) → drop 8 (eight n ++ rest) ≡ rest
behind_eight n rest = drop_at (eight n) rest 8 (eight_long n)

-- the three numbers, one after the other
in_turn : (info : TermInfo) → info_bytes info ≡ four info.docs ++ (eight info.post_at ++ (four info.skip_at ++ []))
in_turn info = append_assoc (four info.docs) (eight info.post_at) (four info.skip_at) ∙ ap (λ t. four info.docs ++ (eight info.post_at ++ t)) (sym (append-nil (four info.skip_at)))

pub same_info : (a b : TermInfo) → FitsField a → FitsField b → info_bytes a ≡ info_bytes b → a ≡ b
same_info a b fits also same =
    let all = sym (in_turn a) ∙ same ∙ in_turn b in
    let docs = four_same a.docs b.docs fits.docs also.docs _ _ all in
    let rest = sym (behind_four a.docs _) ∙ ap (drop 4) all ∙ behind_four b.docs _ in
    let post_at = eight_same a.post_at b.post_at fits.post_at also.post_at _ _ rest in
    let last = sym (behind_eight a.post_at _) ∙ ap (drop 8) rest ∙ behind_eight b.post_at _ in
    let skip_at = four_same a.skip_at b.skip_at fits.skip_at also.skip_at _ _ last in
    λ j. record { docs = docs j; post_at = post_at j; skip_at = skip_at j }

-- ---- terms

entries_from : (collection : List ℕ) (ts : List (ℕ × List ℕ)) →
    entries_of (map (λ (t : ℕ × List ℕ). record { string = t.1; info = info_of collection t.0 t.1 }) ts)
    ≡ map (λ (t : ℕ × List ℕ). record { string = t.1; field = info_bytes (info_of collection t.0 t.1) }) ts
entries_from collection [] = refl
entries_from collection (t ∷ ts) = ap (λ (es : List Entry). record { string = t.1; field = info_bytes (info_of collection t.0 t.1) } ∷ es) (entries_from collection ts)

pub entries_of_terms : (collection : List ℕ) → entries_of (terms_of collection) ≡ lexicon collection
unfolding terms_of lexicon
entries_of_terms collection = entries_from collection (enumerate_from 0 (dictionary collection))

-- ---- a reader over its parts

pub lex_stays : (lex now : Fronted) (files files_now : Option Files) (collection : List ℕ) → SameParts lex now → is_some files_now ≡ is_some files →
    file_at files_now lex.strings.name ≡ file_at files lex.strings.name → file_at files_now lex.places.name ≡ file_at files lex.places.name →
    LexStands lex files collection → LexStands now files_now collection
lex_stays lex now files files_now collection same told strings places stands = record {
  told = told ∙ stands.told;
  lex = ap (bytes_at files_now) same.strings ∙ ap (λ bytes. unwrap_or bytes []) strings ∙ stands.lex;
  lex_at = ap (bytes_at files_now) same.places ∙ ap (λ bytes. unwrap_or bytes []) places ∙ stands.lex_at;
  terms = stands.terms ∙ sym same.count;
  few = stands.few;
}

pub lex_fits : (lex : Fronted) (files files_now : Option Files) → is_some files_now ≡ is_some files →
    file_at files_now lex.strings.name ≡ file_at files lex.strings.name → file_at files_now lex.places.name ≡ file_at files lex.places.name → FrontFits lex files → FrontFits lex files_now
lex_fits lex files files_now told strings places fits = record {
  strings = held_page_stays lex.strings files files_now told strings fits.strings;
  places = held_page_stays lex.places files files_now told places fits.places;
}

pub lexicon_count : (collection : List ℕ) → length (lexicon collection) ≡ length (dictionary collection)
lexicon_count collection = lexicon_long collection

-- where the parts are a lexicon, they are the front coding of its entries
pub front_stands : (lex : Fronted) (files : Option Files) (collection : List ℕ) → lex.width ≡ 16 → LexStands lex files collection → FrontStands lex files (lexicon collection)
front_stands lex files collection width stands = record {
  told = stands.told;
  strings = record { entries = subst (λ w. AreEntries w 0 [] (lexicon collection)) (sym width) (lexicon_entries collection); bytes_are = stands.lex };
  places = stands.lex_at;
  count = lexicon_long collection ∙ stands.terms;
  small = subst (λ n. n < 2 ^ 32) (sym (ap length stands.lex)) (front_small (lexicon collection) 16 (lexicon_entries collection) (omega (arith, lexicon_long collection, stands.few)) (omega arith));
}

-- a reader of the parts of a base
pub lex_loaded : (r : Fronted) (base : List ℕ) (files files_now : Option Files) (terms : ℕ) (collection : List ℕ) →
    IsReader r (full_name base Lex) Lex (full_name base LexAt) LexAt 16 terms → files_now ≡ files → IsLexicon base files terms collection →
    LexStands r files_now collection
lex_loaded r base files files_now terms collection reader e is = record {
  told = subst IsSome (sym e) is.told;
  lex = ap (bytes_at files_now) reader.strings_is ∙ ap (λ f. bytes_at f (full_name base Lex)) e ∙ is.lex_is;
  lex_at = ap (bytes_at files_now) reader.places_is ∙ ap (λ f. bytes_at f (full_name base LexAt)) e ∙ is.lex_at_is;
  terms = is.terms_are ∙ sym reader.count_is;
  few = is.few;
}

-- what was written of the terms of a collection is its lexicon
pub written_is : (base : List ℕ) (files : Option Files) (collection : List ℕ) → IsSome files → TermsStand base files (terms_of collection) →
    length (dictionary collection) ≤ 2 ^ 22 → IsLexicon base files (length (dictionary collection)) collection
written_is base files collection told stand few = record {
  told = told;
  lex_is = stand.lex ∙ ap front (entries_of_terms collection);
  lex_at_is = stand.lex_at ∙ ap whole_at (entries_of_terms collection);
  terms_are = refl;
  few = few;
}

-- an entry that was found tells of its term
pub term_found : (width number : ℕ) (collection t : List ℕ) (entry : FrontEntry) (info : declared.TermInfo) → width ≡ 16 → info.number ≡ number →
    info_bytes (told_of info) ≡ take 16 entry.field → (slice_get (lexicon collection) number ≡ Some (entry_of width entry))
    × (take entry.length entry.string ≡ t) → IsInfo info collection t
term_found width number collection t entry info wide is field found =
    let known = lexicon_of collection number (entry_of width entry) found.0 in
    record {
      number = ap (slice_get (dictionary collection)) is ∙ known.0 ∙ ap Some found.1;
      field = field ∙ ap (λ w. take w entry.field) (sym wide) ∙ known.1 ∙ ap (λ s. info_bytes (info_of collection number s)) found.1 ∙ ap (λ n. info_bytes (info_of collection n t)) (sym is);
    }

pub term_absent : (collection t : List ℕ) → IsAbsent t (lexicon collection) → IsNoTerm collection t
term_absent collection t absent i is = absent i _ (lexicon_at collection i t is) refl

pub refused : (refusal : PartErr) (width : ℕ) (collection t : List ℕ) (entry : FrontEntry) → AnswersFind (Err refusal) width t entry (lexicon collection) → AnswersTerm (Err refusal) collection t
refused Device width collection t entry told = tt
refused Memory width collection t entry told = absurd told
refused (Bad bad) width collection t entry told = absurd told

-- reads of the two parts that it names
pub parts_read : (r : Fronted) (before now : Reads) (n : ℕ) → r.strings.part ≡ Lex → r.places.part ≡ LexAt →
    (same_part r.strings.part r.places.part ≡ false → ReadLooks r.strings.part r.places.part before now n) → ReadLooks Lex LexAt before now n
parts_read r before now n lex lex_at read = subst (λ p. ReadLooks Lex p before now n) lex_at
    (subst (λ p. ReadLooks p r.places.part before now n) lex (read (ap (λ p. same_part p r.places.part) lex ∙ ap (same_part Lex) lex_at)))

-- ---- a writer

pub names_apart : (base name : List ℕ) → Some (full_name base LexAt) ≡ Some name → name ≢ full_name base Lex
names_apart base name is same =
    let one : full_name base LexAt ≡ full_name base Lex = cc in
    let parts : LexAt ≡ Lex = same_part_of_name base LexAt Lex one in
    cc

pub entry_is : (w : LexWriting) (files : Option Files) (ts : List Term) (term field : List ℕ) → TookTerms w files ts → length term ≤ 255 →
    (w.front.count == 0 || is_below w.front.last term) ≡ true → length field ≡ 16 →
    IsEntry w.front.width w.front.count w.front.last (record { string = term; field = field })
entry_is w files ts term field took short above long = record { short = short; field = long ∙ sym took.width; above = above }

pub took_more : (w next : LexWriting) (f g : Option Files) (ts : List Term) (t : Term) → TookTerms w f ts →
    (Took w.front f (entries_of ts) → Took next.front g (entries_of ts ++ entry_of_term t ∷ [])) → next.base ≡ w.base → next.front.width ≡ w.front.width →
    next.front.strings.name ≡ w.front.strings.name → places_name next.front ≡ places_name w.front → TookTerms next g (ts ++ t ∷ [])
took_more w next f g ts t took more base width strings places = record {
  took = subst (Took next.front g) (sym (map-append entry_of_term ts (t ∷ []))) (more took.took);
  width = width ∙ took.width;
  strings = strings ∙ took.strings ∙ ap (λ b. full_name b Lex) (sym base);
  places = places ∙ took.places ∙ ap (λ b. Some (full_name b LexAt)) (sym base);
}

pub other_name : (w : LexWriting) (files : Option Files) (ts : List Term) (n : List ℕ) → TookTerms w files ts → n ≢ full_name w.base Lex →
    n ≢ full_name w.base LexAt → IsOther n w.front.strings.name w.front.places
other_name w files ts n took lex lex_at = by_places w.front.places took.places
  where
    by_places : (p : Option Writing) → option_map (λ (q : Writing). q.name) p ≡ Some (full_name w.base LexAt) → IsOther n w.front.strings.name p
    by_places None is = absurd cc
    by_places (Some p) is = (λ same. lex (same ∙ took.strings), λ same. lex_at (same ∙ same_Some p.name (full_name w.base LexAt) is))

-- what follows of three facts on a call that is not refused
pub on_three : {P Q R S : Type 0} (result : Result (Unit {0}) PutErr) → OnOk result P → OnOk result Q → OnOk result R → (P → Q → R → S) → OnOk result S
on_three (Ok u) p q r follows = follows p q r
on_three (Err e) p q r follows = tt

-- what a call writes of the entries of the terms that a writer took
pub writes_lexicon : {w : LexWriting} {result : Result (Unit {0}) PutErr} {f g : Option Files} {ts : List Term} {r s : Reads} {m n : ℕ} → TookTerms w f ts →
    WritesFront (λ name. IsOther name w.front.strings.name w.front.places) result f g r s m n → WritesLexicon w.base result f g r s m n
writes_lexicon took step = record {
  others = λ name lex lex_at. step.others name (other_name _ _ _ name took lex lex_at);
  told = step.told;
  reads = step.reads;
  cause = step.cause;
}

pub finished_terms : (w : LexWriting) (f g : Option Files) (ts : List Term) → TookTerms w f ts → Finished w.front g (entries_of ts) → TermsStand w.base g ts
finished_terms w f g ts took done = record {
  lex = ap (bytes_at g) (sym took.strings) ∙ done.strings;
  lex_at = by_places w.front.places took.places done.places;
}
  where
    by_places : (p : Option Writing) → option_map (λ (q : Writing). q.name) p ≡ Some (full_name w.base LexAt) → PlacesHold p g (entries_of ts) →
        bytes_at g (full_name w.base LexAt) ≡ whole_at (entries_of ts)
    by_places None is holds = absurd cc
    by_places (Some p) is holds = ap (bytes_at g) (sym (same_Some p.name (full_name w.base LexAt) is)) ∙ holds

-- what a writer took stays where its parts stay
pub terms_are_kept : (w : LexWriting) (f g : Option Files) (ts : List Term) → is_some g ≡ is_some f →
    file_at g (full_name w.base Lex) ≡ file_at f (full_name w.base Lex) → file_at g (full_name w.base LexAt) ≡ file_at f (full_name w.base LexAt) →
    TookTerms w f ts → TookTerms w g ts
terms_are_kept w f g ts told lex lex_at is = record {
  took = took_stays w.front f g (entries_of ts) told (ap (λ n. file_at g n) is.strings ∙ lex ∙ ap (λ n. file_at f n) (sym is.strings))
      (λ places there. by_name places (sym (ap (option_map (λ (p : Writing). p.name)) there) ∙ is.places)) is.took;
  width = is.width;
  strings = is.strings;
  places = is.places;
}
  where
    by_name : (p : Writing) → Some p.name ≡ Some (full_name w.base LexAt) → file_at g p.name ≡ file_at f p.name
    by_name p is =
        let name : p.name ≡ full_name w.base LexAt = same_Some p.name (full_name w.base LexAt) is in
        ap (λ n. file_at g n) name ∙ lex_at ∙ ap (λ n. file_at f n) (sym name)
