-- Documents that stand in the parts of a base, whatever else these hold.
use Rattle.std.proofs.Common.{arith, ◌≡◌, ◌+◌, ◌<◌, ℕ, zero, suc, Bool, true, false, List, [], ◌∷◌, ◌++◌, length, take, add-one, IsSome, Some, None, Ok, Err, refl, sym, ◌∙◌, ap, subst, append-nil, append_assoc}
use Rattle.std.specs.Prelude.{IfOk, OnOk, map, slice_index_or}
use Rattle.std.specs.Bool.{OnTrue}
use Rattle.std.proofs.Math.Seq.{take-length}
use Rattle.std.specs.declared.option.Option.{Option}
use Rattle.std.specs.declared.result.Result.{Result}
use Rattle.mg_dev.specs.Files.{Files, bytes_at}
use Rattle.mg_dev.specs.Names.{full_name}
use Rattle.mg_dev.specs.Streams.{appended}
use Rattle.mg_dev.specs.declared.part.Part.TheVariants as part
use Rattle.mg_dev.specs.declared.part_err.PartErr.{PartErr}
use Rattle.mg_dev.specs.declared.show_err.ShowErr.{ShowErr}
use Rattle.mg_defs.specs.Parse.{Pair, text}
use Rattle.mg_defs.specs.ShownAnswers.{shown_as}
use Rattle.mg_defs.specs.Weights.{Hit}
use Rattle.mg_defs.specs.declared.session.Mode.{Mode}
use Rattle.mg_defs.specs.declared.session.Mode.TheVariants.{Docnums, Text, Count}
use Rattle.mg_defs.specs.declared.session.Settings.{Settings}
use Rattle.mg_defs.specs.Replies.{shows}
use Rattle.mg_layout.specs.declared.head.Head.{Head}
use Rattle.mg_reply.specs.Pending.{Passed}
use Rattle.mg_reply.specs.Printed.{at_score}
use Rattle.mg_reply.proofs.CallerLemmas.{pass_both}
use Rattle.mg_text.specs.Reading.{TellsDocument, TellsPairs, TextReading, WroteAll}
use Rattle.mg_text.specs.Stood.{PairsTold}
use Rattle.mg_session.specs.Decided.{PutsDoc}
use Rattle.mg_session.specs.DocStands.{ArePlacesIn, AreRowsOf, ForPairs, IfShown, IfText, IsDocOf, PairsStand, places_in_words}
use Rattle.mg_session.specs.Searching.{Opened}
use Rattle.mg_session.specs.Texts.{IsLoaded, SameTexts, Texting}

-- ---- pairs

-- what a reader that was loaded tells of
pub pairs_loaded : (base : List ℕ) (head : Head) (files : Option Files) (r : TextReading) (number : ℕ) (pairs : List Pair) → IsSome files → IsLoaded base head files r →
    TellsPairs r files number pairs → PairsStand base files head number pairs
pairs_loaded base head files r number pairs known loaded told = record {
  code = r.code;
  models = loaded.models known;
  told = subst (λ n. PairsTold r.code head.version head.text_bytes (bytes_at files (full_name base part.Places)) (bytes_at files n) number pairs) loaded.reader.text_is
      (subst (λ n. PairsTold r.code head.version head.text_bytes (bytes_at files n) (bytes_at files r.text.name) number pairs) loaded.reader.places_is
      (subst (λ s. PairsTold r.code head.version s (bytes_at files r.places.name) (bytes_at files r.text.name) number pairs) loaded.reader.size_is
      (subst (λ v. PairsTold r.code v r.size (bytes_at files r.places.name) (bytes_at files r.text.name) number pairs) loaded.reader.version_is told)));
}

-- of the same text over the same files
pub pairs_back : {t u : Texting} {files now : Option Files} {number : ℕ} (fact : List Pair → Type 0) → SameTexts t u → now ≡ files → ForPairs u now number fact → ForPairs t files number fact
pairs_back {t} {u} {files} {now} {number} fact same e is =
    subst (λ b. IsSome files → (pairs : List Pair) × PairsStand b files t.head number pairs × fact pairs) same.base
    (subst (λ h. IsSome files → (pairs : List Pair) × PairsStand u.base files h number pairs × fact pairs) same.head
    (subst (λ f. IsSome f → (pairs : List Pair) × PairsStand u.base f u.head number pairs × fact pairs) e is))

-- ---- a document that was put

module _ {base : List ℕ} {head : Head} {reader : Option TextReading} {t : Texting} (number : ℕ) (r : TextReading) (w w1 : Option (List ℕ))
    (own : record { base = base; head = head; reader = reader } ≡ t) (bytes : List ℕ) (given : w1 ≡ appended w bytes) where
  -- by a reader that is loaded
  put_doc : (files : Option Files) (result : Result (Unit {0}) ShowErr) → IsLoaded base head files r →
      (IsSome files → OnOk result (TellsDocument r files number (WroteAll w w1))) →
      PutsDoc w w1 result (IsDocOf (record { base = base; head = head; reader = reader }) files number)
  put_doc None (Ok done) loaded told = (bytes, λ known. absurd cc, given)
  put_doc (Some f) (Ok done) loaded told =
      let is = told refl in
      (text is.pairs, λ known. (is.pairs, pairs_loaded base head (Some f) r number is.pairs known loaded is.told, refl), is.is)
  put_doc files (Err error) loaded told = tt

  pub doc_put : (files now : Option Files) (result : Result (Unit {0}) ShowErr) → now ≡ files → IsLoaded base head now r →
      (IsSome now → OnOk result (TellsDocument r now number (WroteAll w w1))) → PutsDoc w w1 result (IsDocOf t files number)
  doc_put files now result e loaded told =
      subst (λ (u : Texting). PutsDoc w w1 result (IsDocOf u files number)) own
      (subst (λ (f : Option Files). PutsDoc w w1 result (IsDocOf (record { base = base; head = head; reader = reader }) f number)) e (put_doc now result loaded told))

-- ---- places that were counted

-- by a reader that is loaded
places_told : (t : Texting) (files : Option Files) (r : TextReading) (phrase : List (List ℕ)) (number : ℕ) (result : Result ℕ PartErr) → IsLoaded t.base t.head files r →
    (IsSome files → IfOk result (λ places. (pairs : List Pair) × TellsPairs r files number pairs × (places ≡ places_in_words phrase (map (λ (p : Pair). p.word) pairs)))) →
    IfOk result (ArePlacesIn t files phrase number)
places_told t files r phrase number (Ok places) loaded told = λ known.
    let is = told known in
    (is.0, pairs_loaded t.base t.head files r number is.0 known loaded is.1, is.2)
places_told t files r phrase number (Err error) loaded told = tt

pub places_stood : {base : List ℕ} {head : Head} {reader : Option TextReading} {t : Texting} {files now : Option Files} {r : TextReading} (phrase : List (List ℕ)) (number : ℕ)
    (own : record { base = base; head = head; reader = reader } ≡ t) (result : Result ℕ PartErr) → now ≡ files → IsLoaded base head now r →
    (IsSome now → IfOk result (λ places. (pairs : List Pair) × TellsPairs r now number pairs × (places ≡ places_in_words phrase (map (λ (p : Pair). p.word) pairs)))) →
    IfOk result (ArePlacesIn t files phrase number)
places_stood {base} {head} {reader} {t} {files} {now} {r} phrase number own result e loaded told =
    let mine : Texting = record { base = base; head = head; reader = reader } in
    subst (λ (u : Texting). IfOk result (ArePlacesIn u files phrase number)) own
    (subst (λ (f : Option Files). IfOk result (ArePlacesIn mine f phrase number)) e (places_told mine now r phrase number result loaded told))

-- the same text, and the same phrase
pub places_back : {t u : Texting} {files now : Option Files} {phrase words : List (List ℕ)} {number places : ℕ} → SameTexts t u → now ≡ files → phrase ≡ words →
    ArePlacesIn u now phrase number places → ArePlacesIn t files words number places
places_back {t} {u} {files} {now} {phrase} {words} {number} {places} same e alike is =
    subst (λ ws. ArePlacesIn t files ws number places) alike (pairs_back (λ pairs. places ≡ places_in_words phrase (map (λ (p : Pair). p.word) pairs)) same e is)

-- ---- where a text is shown

pub if_text : (m : Mode) (p q : Type 0) → (p → q) → IfText m p → IfText m q
if_text Docnums p q f h = tt
if_text Text p q f h = f h
if_text Count p q f h = tt

pub on_true_map : (b : Bool) (p q : Type 0) → (p → q) → OnTrue b p → OnTrue b q
on_true_map true p q f h = f h
on_true_map false p q f h = tt

pub not_true : (b : Bool) (p : Type 0) → b ≡ false → OnTrue b p
not_true true p is = absurd cc
not_true false p is = tt

pub is_true : (b : Bool) (p : Type 0) → p → OnTrue b p
is_true true p h = h
is_true false p h = tt

pub if_shown : (now : Settings) (total : ℕ) (p q : Type 0) → (p → q) → IfShown now total p → IfShown now total q
if_shown now total p q f h = on_true_map (shows now.most total) (IfText now.mode p) (IfText now.mode q) (if_text now.mode p q f) h

-- a document that was shown of the same text
pub doc_shown : {t u : Texting} {files after : Option Files} (number : ℕ) (now : Settings) (total : ℕ) (doc : List ℕ) → SameTexts t u → after ≡ files →
    IfShown now total (IsDocOf u after number doc) → IfShown now total (IsDocOf t files number doc)
doc_shown number now total doc same e is = if_shown now total _ _ (pairs_back (λ pairs. text pairs ≡ doc) same e) is

-- ---- rows of a ranked answer

rows_behind : (IsDoc : ℕ → List ℕ → Type 0) (m : Mode) (hits : List Hit) (hit : Hit) (rows doc : List ℕ) → AreRowsOf IsDoc m hits rows → IfText m (IsDoc hit.number doc) →
    AreRowsOf IsDoc m (hits ++ hit ∷ []) (rows ++ shown_as doc m (at_score hit.number (Some hit.score)))
rows_behind IsDoc m [] hit rows doc none is =
    let row = shown_as doc m (at_score hit.number (Some hit.score)) in
    (doc, [], is, ap (λ l. l ++ row) none ∙ sym (append-nil row), refl)
rows_behind IsDoc m (h ∷ hits) hit rows doc before is =
    let row = shown_as doc m (at_score hit.number (Some hit.score)) in
    let first = shown_as before.0 m (at_score h.number (Some h.score)) in
    (before.0, before.1 ++ row, before.2, ap (λ l. l ++ row) before.3 ∙ append_assoc first before.1 row, rows_behind IsDoc m hits hit before.1 doc before.4 is)

take_suc : (rows : List Hit) (i : ℕ) (d : Hit) → i < length rows → take (suc i) rows ≡ take i rows ++ slice_index_or rows i d ∷ []
take_suc [] i d lt = absurd (omega (arith, lt))
take_suc (r ∷ rows) zero d lt = refl
take_suc (r ∷ rows) (suc i) d lt = ap (λ l. r ∷ l) (take_suc rows i d (omega (arith, lt)))

no_hit : Hit
no_hit = record { number = 0; score = 0 }

rows_next : (IsDoc : ℕ → List ℕ → Type 0) (m : Mode) (hits : List Hit) (i number score : ℕ) (rows doc : List ℕ) → i < length hits →
    ((d : Hit) → number ≡ (slice_index_or hits i d).number) → ((d : Hit) → score ≡ (slice_index_or hits i d).score) →
    AreRowsOf IsDoc m (take i hits) rows → IfText m (IsDoc number doc) → AreRowsOf IsDoc m (take (i + 1) hits) (rows ++ shown_as doc m (at_score number (Some score)))
rows_next IsDoc m hits i number score rows doc lt n s before is =
    let hit = slice_index_or hits i no_hit in
    let behind = rows_behind IsDoc m (take i hits) hit rows doc before (subst (λ k. IfText m (IsDoc k doc)) (n no_hit) is) in
    subst (λ l. AreRowsOf IsDoc m l (rows ++ shown_as doc m (at_score number (Some score)))) (sym (ap (λ k. take k hits) (add-one i) ∙ take_suc hits i no_hit lt))
    (subst (λ k. AreRowsOf IsDoc m (take i hits ++ hit ∷ []) (rows ++ shown_as doc m (at_score k (Some score)))) (sym (n no_hit))
    (subst (λ k. AreRowsOf IsDoc m (take i hits ++ hit ∷ []) (rows ++ shown_as doc m (at_score hit.number (Some k)))) (sym (s no_hit)) behind))

module _ (IsDoc : ℕ → List ℕ → Type 0) (m : Mode) (hits : List Hit) {w0 w1 : Option (List ℕ)} {p0 p1 : List ℕ} where
  -- one row more was passed on
  pub rows_then : (i number score : ℕ) {w2 : Option (List ℕ)} {p2 : List ℕ} {IsNow : List ℕ → Type 0} → i < length hits →
      ((d : Hit) → number ≡ (slice_index_or hits i d).number) → ((d : Hit) → score ≡ (slice_index_or hits i d).score) → ((doc : List ℕ) → IsNow doc → IsDoc number doc) →
      (rows : List ℕ) × AreRowsOf IsDoc m (take i hits) rows × Passed w0 w1 p0 p1 rows →
      (doc : List ℕ) × IfText m (IsNow doc) × Passed w1 w2 p1 p2 (shown_as doc m (at_score number (Some score))) →
      (rows : List ℕ) × AreRowsOf IsDoc m (take (i + 1) hits) rows × Passed w0 w2 p0 p2 rows
  rows_then i number score {w2} {p2} lt n s back before one =
      let row = shown_as one.0 m (at_score number (Some score)) in (
        before.0 ++ row,
        rows_next IsDoc m hits i number score before.0 one.0 lt n s before.1 (if_text m _ _ (back one.0) one.1),
        pass_both w0 w1 w2 p0 p1 p2 before.0 row before.2 one.2,
      )

  -- all rows were
  pub rows_whole : (i : ℕ) → i ≡ length hits → (rows : List ℕ) × AreRowsOf IsDoc m (take i hits) rows × Passed w0 w1 p0 p1 rows →
      (rows : List ℕ) × AreRowsOf IsDoc m hits rows × Passed w0 w1 p0 p1 rows
  rows_whole i all before = (before.0, subst (λ hs. AreRowsOf IsDoc m hs before.0) (ap (λ n. take n hits) all ∙ take-length hits) before.1, before.2)

-- ---- the same text by other names

module _ {own opened : Opened} {files now : Option Files} (is : own ≡ opened) (same : now ≡ files) where
  pub docs_moved : (P : (ℕ → List ℕ → Type 0) → Type 0) → P (IsDocOf own.texts now) → P (IsDocOf opened.texts files)
  docs_moved P h = subst (λ (o : Opened). P (IsDocOf o.texts files)) is (subst (λ (f : Option Files). P (IsDocOf own.texts f)) same h)

  pub places_moved : (words : List (List ℕ)) (P : (ℕ → ℕ → Type 0) → Type 0) → P (ArePlacesIn own.texts now words) → P (ArePlacesIn opened.texts files words)
  places_moved words P h = subst (λ (o : Opened). P (ArePlacesIn o.texts files words)) is (subst (λ (f : Option Files). P (ArePlacesIn own.texts f words)) same h)
