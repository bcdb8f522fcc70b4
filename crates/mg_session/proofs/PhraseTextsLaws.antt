-- A phrase that is sought in the documents of a base by marks of their words: its reader, before and after it is loaded.
use Rattle.std.proofs.Common.{arith, ◌≡◌, refl, ◌≢◌, ◌+◌, ◌<◌, ℕ, List, [], ◌∷◌, not, length, drop, map, filter, get_or, add-one, drop-cons, Some, None, sym, ◌∙◌, ap, subst}
use Rattle.std.specs.Prelude.{IfSome, slice_get}
use Rattle.std.proofs.Math.ListN.{drop_of_length-le}
use Rattle.std.proofs.lemmas.Option.{get_or_from_slice_get, slice_get-get_or}
use Rattle.std.specs.declared.option.Option.{Option}
use Rattle.std.specs.declared.result.Result.{Result}
use Rattle.mg_dev.specs.Moments.{StoreAt}
use Rattle.mg_dev.specs.declared.part.Part.TheVariants as part
use Rattle.mg_dev.specs.declared.part_err.PartErr.{PartErr}
use Rattle.mg_dev.proofs.CallerLemmas.{cause_then}
use Rattle.mg_defs.specs.CodedText.{TextCode}
use Rattle.mg_defs.specs.OnePass.{place_count_from}
use Rattle.mg_defs.specs.Phrases.{phrase_places}
use Rattle.mg_defs.specs.Terms.{folded, is_empty, terms_of_words}
use Rattle.mg_defs.specs.declared.session.Mode.TheVariants as mode
use Rattle.mg_layout.specs.declared.head.Head.{Head}
use Rattle.mg_phrase.specs.Marks.{Counting, Marking, MarksFit, mark_of, places_with, words_of}
use Rattle.mg_text.specs.Held.{HasShortDocument}
use Rattle.mg_text.specs.Listing.{AreWordsOf}
use Rattle.mg_text.specs.Reading.{IsText, TextReading, TextStands}
use Rattle.mg_session.specs.DocStands.{places_in_words}
use Rattle.mg_session.specs.Parts.{ShownIn}
use Rattle.mg_session.specs.PhraseMarks.{AreWords}
use Rattle.mg_session.specs.PhraseTexts.{AreMarksOf, FindsPlaces, SeeksPhrase}
use Rattle.mg_session.specs.Texts.{IsLoaded, Texting, TextsFit, TextsStand}
use Rattle.mg_session.proofs.DocStandsLaws.{places_stood}
use Rattle.mg_session.proofs.StepLaws.{looked_shown, shown_then}
use Rattle.mg_session.proofs.TextsLaws.{loaded_later, same_pages, short_document}

-- ---- marks

-- where none is kept
pub none_marked : (reader : Option TextReading) (m : Marking) → m.marks ≡ [] → AreMarksOf reader m
none_marked None m none = none
none_marked (Some r) m none = λ symbol piece at some. absurd (some (ap (λ (l : List ℕ). get_or l symbol 0) none))

-- a mark that is kept is that of the symbol's piece
pub known_mark : (pieces : List (List ℕ)) (m : Marking) (symbol mark : ℕ) → MarksFit pieces m → symbol < length pieces → mark ≡ get_or m.marks symbol 0 → mark ≢ 0 →
    mark ≡ mark_of m.phrase (get_or pieces symbol [])
known_mark pieces m symbol mark fit lt is some = is ∙ fit symbol (get_or pieces symbol []) (slice_get-get_or pieces symbol [] lt) (λ none. some (is ∙ none))

-- so is one that is learnt
pub learnt_mark : (pieces phrase : List (List ℕ)) (symbol mark : ℕ) (word : List ℕ) → slice_get pieces symbol ≡ Some word → mark ≡ mark_of phrase word → mark ≡ mark_of phrase (get_or pieces symbol [])
learnt_mark pieces phrase symbol mark word at is = is ∙ ap (mark_of phrase) (sym (get_or_from_slice_get pieces symbol word [] at))

-- the words of symbols
abbrev pub words_at : TextCode → List ℕ → List (List ℕ)
words_at code symbols = map (λ (s : ℕ). get_or code.words.pieces s []) symbols

-- words without those that are empty have the same terms
terms_again : (ws : List (List ℕ)) → terms_of_words (filter (λ (w : List ℕ). not (is_empty w)) ws) ≡ terms_of_words ws
terms_again [] = refl
terms_again ([] ∷ ws) = terms_again ws
terms_again ((b ∷ w) ∷ ws) = ap (λ ts. folded (b ∷ w) ∷ ts) (terms_again ws)

-- no word was taken
pub none_taken : (code : TextCode) (symbols doc : List ℕ) (c : Counting) (phrase : List (List ℕ)) → ((d : List ℕ) → places_with c (words_of d) ≡ phrase_places phrase d) → AreWordsOf code symbols doc →
    places_with c (words_at code symbols) ≡ phrase_places phrase doc
none_taken code symbols doc c phrase counts are = ap (places_with c) are ∙ ap (λ ts. c.places + place_count_from c.phrase c.begun ts) (terms_again (words_of doc)) ∙ counts doc

pub none_counted : (code : TextCode) (symbols : List ℕ) (words : List (List ℕ)) (c : Counting) (phrase : List (List ℕ)) → c.phrase ≡ phrase → c.places ≡ 0 → c.begun ≡ [] →
    AreWords code symbols words → places_with c (words_at code symbols) ≡ places_in_words phrase words
none_counted code symbols words c phrase own none begun are =
    let one : places_with c (words_at code symbols) ≡ c.places + place_count_from c.phrase c.begun (terms_of_words words) =
    ap (places_with c) are ∙ ap (λ ts. c.places + place_count_from c.phrase c.begun ts) (terms_again words) in
    let two : place_count_from c.phrase c.begun (terms_of_words words) ≡ place_count_from phrase [] (terms_of_words words) =
    ap (λ p. place_count_from p c.begun (terms_of_words words)) own ∙ ap (λ b. place_count_from phrase b (terms_of_words words)) begun in
    omega (arith, one, two, none)

-- one more word was taken
pub one_taken : (code : TextCode) (symbols : List ℕ) (i symbol mark total : ℕ) (old new : Counting) → i < length symbols → symbol ≡ get_or symbols i symbol →
    mark ≡ mark_of old.phrase (get_or code.words.pieces symbol []) →
    ((word : List ℕ) (words : List (List ℕ)) → mark ≡ mark_of old.phrase word → places_with new words ≡ places_with old (word ∷ words)) →
    places_with old (words_at code (drop i symbols)) ≡ total → places_with new (words_at code (drop (i + 1) symbols)) ≡ total
one_taken code symbols i symbol mark total old new lt at is takes so_far =
    let next : drop i symbols ≡ symbol ∷ drop (i + 1) symbols = rw (add-one) (drop-cons symbols i symbol lt) ∙ ap (λ (s : ℕ). s ∷ drop (i + 1) symbols) (sym at) in
    takes (get_or code.words.pieces symbol []) (words_at code (drop (i + 1) symbols)) is ∙ sym (ap (λ l. places_with old (words_at code l)) next) ∙ so_far

-- all words were taken
pub all_taken : (code : TextCode) (symbols : List ℕ) (i : ℕ) (c : Counting) (total : ℕ) → i ≡ length symbols → places_with c (words_at code (drop i symbols)) ≡ total → places_with c [] ≡ total
all_taken code symbols i c total end so_far = ap (λ l. places_with c (words_at code l)) (sym (drop_of_length-le symbols (omega (arith, end)))) ∙ so_far

-- ---- a phrase is sought in a document

module _ {base : List ℕ} {head : Head} {reader : Option TextReading} {texts : Texting} {at next : StoreAt} (own : record { base = base; head = head; reader = reader } ≡ texts)
    (fits : TextsFit at.files texts) (before : ShownIn mode.Text at.files next.files at.reads next.reads at.faults next.faults) where
  own_fits : TextsFit at.files (record { base = base; head = head; reader = reader })
  own_fits = subst (λ (t : Texting). TextsFit at.files t) (sym own) fits

  -- a reader that is loaded reads it
  pub places_read : {reader_now : Option TextReading} {r r_now : TextReading} {now : StoreAt} {number : ℕ} {result : Result ℕ PartErr} {marks marks_now : Marking} →
      reader_now ≡ Some r_now → IsLoaded base head next.files r →
      SeeksPhrase number head.collection result r r_now marks marks_now next.files now.files next.reads now.reads next.faults now.faults →
      next.files ≡ at.files → next.reads part.Text ≡ at.reads part.Text →
      ((code : TextCode) (collection : List ℕ) → IsText base at.files head code collection → TextStands r next.files collection) →
      ((code : TextCode) (collection : List ℕ) → IsText base at.files head code collection → r.code ≡ code) →
      FindsPlaces number result texts (record { base = base; head = head; reader = reader_now }) marks marks_now at now
  places_read {r = r} {r_now = r_now} {now = now} {number = number} {result = result} {marks = marks} {marks_now = marks_now} is loaded found same_files unread stands code =
      let own_text : (c : TextCode) (collection : List ℕ) → TextsStand texts at.files c collection → TextsStand (record { base = base; head = head; reader = reader }) at.files c collection =
      λ c collection it. subst (λ (t : Texting). TextsStand t at.files c collection) (sym own) it in
      let short : (c : TextCode) (collection : List ℕ) → TextsStand texts at.files c collection → HasShortDocument r next.files number head.collection collection =
      λ c collection it. short_document r next.files number head.collection collection (stands c collection (own_text c collection it).text) (omega (arith, (own_text c collection it).size)) in
      record {
        fits = record {
          words = own_fits.words;
          others = own_fits.others;
          reader = subst (λ (o : Option TextReading). IfSome o (IsLoaded base head now.files)) (sym is) (loaded_later base head _ _ r r_now found.same found.fits found.looked.files loaded);
        };
        same = record { base = ap (λ (t : Texting). t.base) own; head = ap (λ (t : Texting). t.head) own };
        content = λ c collection it. found.content collection (short c collection it);
        stood = places_stood marks.phrase number own result same_files loaded (λ known. found.stood known);
        never_bad = λ c collection it. found.never_bad collection (short c collection it);
        pages = λ c collection it.
            let read = same_pages r c collection number _ _ (code c collection (own_text c collection it).text) (found.pages collection (short c collection it)) in
            omega (arith, read, unread);
        looked = shown_then before (looked_shown part.Text part.Places _ _ _ _ _ _ (omega arith) (omega arith) (omega arith) (omega arith) found.looked);
        cause = cause_then result before.faults found.cause;
        marked = subst (λ (o : Option TextReading). AreMarksOf o marks_now) (sym is) found.marked;
        phrase = found.phrase;
      }
