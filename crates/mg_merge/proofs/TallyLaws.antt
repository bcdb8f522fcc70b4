-- Documents whose pieces are counted by their symbols, one document after the other.
use Rattle.std.proofs.Common.{arith, ◌≡◌, ◌≤◌, ◌+◌, ◌++◌, ◌∙◌, ◌||◌, ℕ, Bool, true, false, cond, ltb, if◌then◌else◌, List, [], ◌∷◌, length, map, Option, Some, Ok, Err, refl, sym, ap, subst, append_assoc}
use Rattle.std.specs.Prelude.{IfErr, IfOk, IfSome, OnErr, Result}
use Rattle.std.specs.Bool.{OnTrue}
use Rattle.std.specs.List.{flat_map, list_any}
use Rattle.std.specs.Str.{bytes_eq}
use Rattle.std.proofs.lemmas.Bool.{lt-ltb}
use Rattle.std.proofs.lemmas.Grind.{flat_map-append}
use Rattle.std.proofs.lemmas.List.{map-append}
use Rattle.std.proofs.lemmas.List.Elements.{recursion_from_All}
use Rattle.std.proofs.lemmas.List.Sums.{sum_by-append}
use Rattle.mg_dev.specs.Causes.{Rose}
use Rattle.mg_dev.specs.Files.{Files}
use Rattle.mg_dev.specs.Moments.{StoreAt, StoreRose}
use Rattle.mg_dev.specs.declared.device.Failed.{Failed}
use Rattle.mg_dev.specs.declared.fault.Fault.{Fault}
use Rattle.mg_dev.specs.declared.fault.Fault.TheVariants as cause
use Rattle.mg_count.specs.Plans.{AreCountsOf}
use Rattle.mg_defs.specs.declared.Stream.{Stream}
use Rattle.mg_defs.specs.declared.Stream.TheVariants.{Others, Words}
use Rattle.mg_defs.specs.Parse.{parse}
use Rattle.mg_defs.specs.Sorted.{sorted_distinct}
use Rattle.mg_defs.specs.Split.{documents}
use Rattle.mg_defs.specs.Vocabulary.{all_pieces, count_in, counts_of, entry_count, piece_counts, pieces_in, sorted_of, sorted_pieces, vocabulary}
use Rattle.mg_defs.proofs.SortedLaws.{has-sorted, rising-unique, sorted-rising}
use Rattle.mg_defs.proofs.VocabularyLaws.{collection-symbols, counts-positive, entry-count}
use Rattle.mg_laws.proofs.JoinLaws.{documents_joined}
use Rattle.mg_text.specs.CountedText.{AllCame, Counted, CountsDocuments, pairs_of}
use Rattle.mg_text.specs.Reading.{WhereTextStands}
use Rattle.mg_make.proofs.CallerLemmas.{rose_behind}
use Rattle.mg_merge.specs.Counted.{CountsTexts, TalliesTexts}
use Rattle.mg_merge.specs.Stops.{CountingStops}
use Rattle.mg_merge.specs.Texts.{TextsFit, TextsStand, TwoTexts}
use Rattle.mg_merge.proofs.LookLaws.{looks_more}
use Rattle.mg_merge.proofs.TextLaws.{end_of_texts, same_text, stands_on, texts_more, texts_stand_on}

-- ---- documents of one text and then of another

count_both : (kind : Stream) (one two : List (List ℕ)) (q : List ℕ) →
    count_in (flat_map (pieces_in kind) (one ++ two)) q ≡ count_in (flat_map (pieces_in kind) one) q + count_in (flat_map (pieces_in kind) two) q
count_both kind one two q = ap (λ l. count_in l q) (flat_map-append (pieces_in kind) one two)
    ∙ sum_by-append (λ r. cond (bytes_eq q r) 1 0) (flat_map (pieces_in kind) one) (flat_map (pieces_in kind) two)

counts_both : (one two : List (List ℕ)) {old mid new : Counted} → CountsDocuments one old mid → CountsDocuments two mid new → CountsDocuments (one ++ two) old new
counts_both one two {old} first second = record {
  words = λ q. omega (arith, first.words q, second.words q, count_both Words one two q);
  others = λ q. omega (arith, first.others q, second.others q, count_both Others one two q);
  pairs = second.pairs ∙ ap (λ l. l ++ pairs_of two) first.pairs ∙ append_assoc old.pairs (pairs_of one) (pairs_of two)
      ∙ ap (λ l. old.pairs ++ l) (sym (map-append (λ doc. length (parse doc)) one two));
}

on_true_is : (b : Bool) (A : Type 0) → b ≡ true → OnTrue b A → A
on_true_is true A is h = h
on_true_is false A is h = absurd cc

counted_map : (result : Result Bool Failed) {A B : Type 0} → (A → B) → IfOk result (λ done. OnTrue done A) → IfOk result (λ done. OnTrue done B)
counted_map (Ok true) f h = f h
counted_map (Ok false) f h = tt
counted_map (Err failed) f h = tt

-- the documents of the second text were counted behind those of the first
pub texts_counted : (t : TwoTexts) (files files_mid : Option Files) (done : Bool) (result : Result Bool Failed) (old mid new : Counted) → done ≡ true → files_mid ≡ files →
    WhereTextStands t.first files (λ a. OnTrue done (CountsDocuments (documents a) old mid)) →
    WhereTextStands t.second files_mid (λ b. IfOk result (λ done. OnTrue done (CountsDocuments (documents b) mid new))) →
    (collection : List ℕ) → TextsStand t files collection → IfOk result (λ done. OnTrue done (CountsDocuments (documents collection) old new))
texts_counted t files files_mid done result old mid new is stay first second collection stand =
    let before : CountsDocuments (documents stand.a) old mid = on_true_is done _ is (first stand.a stand.first) in
    let there = stands_on t.second t.second files files_mid stand.b (same_text t.second) stay stand.second in
    let docs : documents stand.a ++ documents stand.b ≡ documents collection = sym (ap documents stand.joins ∙ documents_joined stand.a stand.b) in
    counted_map result (λ (behind : CountsDocuments (documents stand.b) mid new). subst (λ l. CountsDocuments l old new) docs (counts_both _ _ before behind)) (second stand.b there)

-- the store failed behind what was read before
pub failed_behind : (result : Result Bool Failed) (a b c : ℕ) → a ≤ b → OnErr result (Rose b c) → OnErr result (Rose a c)
failed_behind (Ok done) a b c le cause = tt
failed_behind (Err failed) a b c le cause = rose_behind a b c le cause

-- ---- a vocabulary

there : (es : List (List ℕ × ℕ)) (q : List ℕ) → AllCame es → list_any (bytes_eq q) (map (λ (e : List ℕ × ℕ). e.0) es) ≡ ltb 0 (entry_count es q)
there [] q all = refl
there (e ∷ es) q all = by (bytes_eq q e.0) (there es q all.1)
  where
    by : (b : Bool) → list_any (bytes_eq q) (map (λ (x : List ℕ × ℕ). x.0) es) ≡ ltb 0 (entry_count es q) →
        (b || list_any (bytes_eq q) (map (λ (x : List ℕ × ℕ). x.0) es)) ≡ ltb 0 (if b then e.1 else entry_count es q)
    by true rest = sym (lt-ltb 0 e.1 all.0)
    by false rest = rest

-- two vocabularies in which each piece has the same count have the same symbols
same_symbols : (es fs : List (List ℕ × ℕ)) → AllCame es → AllCame fs → ((q : List ℕ) → entry_count es q ≡ entry_count fs q) →
    (sorted_of es ≡ sorted_of fs) × (counts_of es ≡ counts_of fs)
same_symbols es fs all_es all_fs same =
    let one = map (λ (e : List ℕ × ℕ). e.0) es in
    let two = map (λ (e : List ℕ × ℕ). e.0) fs in
    let has : (q : List ℕ) → list_any (bytes_eq q) one ≡ list_any (bytes_eq q) two = λ q. there es q all_es ∙ ap (ltb 0) (same q) ∙ sym (there fs q all_fs) in
    let sorted : sorted_of es ≡ sorted_of fs = rising-unique (sorted_distinct one) (sorted_distinct two) (sorted-rising one) (sorted-rising two)
    (λ q h. has-sorted two q ∙ sym (has q) ∙ sym (has-sorted one q) ∙ h) (λ q h. has-sorted one q ∙ has q ∙ sym (has-sorted two q) ∙ h) in
    (sorted, ap (λ (f : List ℕ → ℕ). map f (sorted_of es)) (λ i. λ q. same q i) ∙ ap (map (entry_count fs)) sorted)

-- what was counted is the vocabulary of these pieces, in another order
symbols_of : (xs : List (List ℕ)) (before es : List (List ℕ × ℕ)) → before ≡ [] → AllCame es → ((q : List ℕ) → entry_count es q ≡ entry_count before q + count_in xs q) →
    (sorted_of es ≡ sorted_of (vocabulary xs)) × (counts_of es ≡ counts_of (vocabulary xs))
symbols_of xs before es none all is = same_symbols es (vocabulary xs) all (recursion_from_All (λ (e : List ℕ × ℕ). 1 ≤ e.1) (vocabulary xs) (counts-positive xs))
    (λ q. omega (arith, is q, ap (λ l. entry_count l q) none, entry-count xs q))

stream_counted : (kind : Stream) (collection : List ℕ) (before es : List (List ℕ × ℕ)) → before ≡ [] → AllCame es →
    ((q : List ℕ) → entry_count es q ≡ entry_count before q + count_in (all_pieces kind collection) q) → (sorted_of es ≡ sorted_pieces kind collection) × (counts_of es ≡ piece_counts kind collection)
stream_counted kind collection before es none all is =
    let here = symbols_of (all_pieces kind collection) before es none all is in
    let symbols = collection-symbols kind collection in
    (here.0 ∙ symbols.0, here.1 ∙ symbols.1)

-- ---- both

-- what was counted is that of the collection
pub counts_of_texts : (t : TwoTexts) (files : Option Files) (collection : List ℕ) (done : Bool) (before c : Counted) (words others : List (List ℕ × ℕ)) (pairs : List ℕ) (open_end : Bool) →
    TextsFit t files → TextsStand t files collection → done ≡ true → OnTrue done (CountsDocuments (documents collection) before c) → before.words ≡ [] → before.others ≡ [] → before.pairs ≡ [] → AllCame c.words → AllCame c.others →
    words ≡ c.words → others ≡ c.others → pairs ≡ c.pairs → open_end ≡ t.open_end → AreCountsOf words others pairs open_end collection
counts_of_texts t files collection done before c words others pairs open_end fits stand is counted no_words no_others no_pairs came_words came_others words_are others_are pairs_are end =
    let all : CountsDocuments (documents collection) before c = on_true_is done _ is counted in
    let of_words = stream_counted Words collection before.words c.words no_words came_words all.words in
    let of_others = stream_counted Others collection before.others c.others no_others came_others all.others in
    record {
      few = omega (arith, fits.few, stand.size);
      words_are = ap sorted_of words_are ∙ of_words.0;
      others_are = ap sorted_of others_are ∙ of_others.0;
      word_counts = ap counts_of words_are ∙ of_words.1;
      other_counts = ap counts_of others_are ∙ of_others.1;
      pairs_are = pairs_are ∙ all.pairs ∙ ap (λ l. l ++ pairs_of (documents collection)) no_pairs;
      end = end ∙ end_of_texts t files collection stand;
    }

-- ---- one pass behind another

pub some_is : {T : Type 0} (found : Option T) (value : T) (P : T → Type 0) → found ≡ Some value → IfSome found P → P value
some_is found value P is h = subst (λ o. IfSome o P) is h

-- a cause still is one where failures still rose and more texts stand
counting_wider : (rose now : Type 0) (one other : List ℕ → Type 0) (fault : Fault) → (rose → now) → ((collection : List ℕ) → other collection → one collection) →
    CountingStops rose one fault → CountingStops now other fault
counting_wider rose now one other cause.Usage grows back stop = absurd stop
counting_wider rose now one other cause.StoreFault grows back stop = grows stop
counting_wider rose now one other cause.ReadFault grows back stop = absurd stop
counting_wider rose now one other cause.WriteFault grows back stop = absurd stop
counting_wider rose now one other cause.NotBuilt grows back stop = absurd stop
counting_wider rose now one other (cause.Damaged bad) grows back stop = λ collection stand. stop collection (back collection stand)
counting_wider rose now one other cause.NoCollection grows back stop = absurd stop
counting_wider rose now one other (cause.TooLarge bytes most) grows back stop = absurd stop
counting_wider rose now one other cause.TooManyDocuments grows back stop = λ collection stand. stop collection (back collection stand)
counting_wider rose now one other (cause.TooManyPieces kind) grows back stop = λ collection stand. stop collection (back collection stand)
counting_wider rose now one other (cause.Changed what first second) grows back stop = absurd stop
counting_wider rose now one other cause.Memory grows back stop = tt
counting_wider rose now one other (cause.NameClash part) grows back stop = absurd stop
counting_wider rose now one other cause.InputTooLong grows back stop = absurd stop
counting_wider rose now one other cause.SameName grows back stop = absurd stop
counting_wider rose now one other (cause.TooManyRotations count) grows back stop = absurd stop

-- the texts were counted by their symbols
pub tallied_texts : {S T : Type 0} {t t_now : TwoTexts} {store store_now : StoreAt} {answer : Result S Failed} (value : T) →
    TalliesTexts t t_now store store_now answer → CountsTexts {T = T} t t_now store store_now (Ok value)
tallied_texts value step = record { fits = step.fits; same = step.same; looks = step.looks; refused = tt }

-- the store failed
pub tally_failed : {S T : Type 0} {t t_now : TwoTexts} {store store_now : StoreAt} (failed : Failed) →
    TalliesTexts {T = S} t t_now store store_now (Err failed) → CountsTexts {T = T} t t_now store store_now (Err cause.StoreFault)
tally_failed failed step = record { fits = step.fits; same = step.same; looks = step.looks; refused = step.cause }

refused_behind : {T : Type 0} (r : Result T Fault) (rose now : Type 0) (one other : List ℕ → Type 0) → (rose → now) →
    ((collection : List ℕ) → other collection → one collection) → IfErr r (CountingStops rose one) → IfErr r (CountingStops now other)
refused_behind (Ok value) rose now one other grows back stop = tt
refused_behind (Err fault) rose now one other grows back stop = counting_wider rose now one other fault grows back stop

-- they were not, and then their bytes were counted
pub counted_behind : {S T : Type 0} (r : Result T Fault) {t t_mid t_now : TwoTexts} {store store_mid store_now : StoreAt} {answer : Result S Failed} →
    TalliesTexts t t_mid store store_mid answer →
    CountsTexts {T = T} t_mid t_now store_mid store_now r → CountsTexts {T = T} t t_now store store_now r
counted_behind r {t} {t_mid} {t_now} {store} {store_mid} {store_now} first second = record {
  fits = second.fits;
  same = texts_more t t_mid t_now first.same second.same;
  looks = looks_more first.looks second.looks;
  refused = refused_behind r (StoreRose store_mid store_now) (StoreRose store store_now) (TextsStand t_mid store_mid.files) (TextsStand t store.files)
      (λ rose. rose_behind _ _ _ first.looks.later rose)
      (λ collection stand. texts_stand_on t t_mid store.files store_mid.files collection first.same first.looks.files stand) second.refused;
}

pub planned_behind : {S T : Type 0} (r : Result T Fault) (P : T → List ℕ → Type 0) {t t_mid : TwoTexts} {store store_mid : StoreAt} {answer : Result S Failed} →
    TalliesTexts t t_mid store store_mid answer →
    ((collection : List ℕ) → TextsStand t_mid store_mid.files collection → IfOk r (λ made. P made collection)) →
    (collection : List ℕ) → TextsStand t store.files collection → IfOk r (λ made. P made collection)
planned_behind r P {t} {t_mid} {store} {store_mid} first plan = λ collection stand.
    plan collection (texts_stand_on t t_mid store.files store_mid.files collection first.same first.looks.files stand)
