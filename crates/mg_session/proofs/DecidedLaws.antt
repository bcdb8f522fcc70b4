-- An answer that is decided by what the parts show, put together from document after document.
use Rattle.std.proofs.Common.{arith, ◌≡◌, ◌<◌, ◌≤◌, inl, inr, ℕ, zero, suc, Bool, true, false, List, [], ◌∷◌, ◌++◌, length, get_or, Some, None, Ok, Err, refl, sym, ◌∙◌, ap, subst, length-append}
use Rattle.std.specs.Prelude.{IfSome, IsSome, OnOk}
use Rattle.std.specs.declared.option.Option.{Option}
use Rattle.std.specs.declared.result.Result.{Result}
use Rattle.std.proofs.lemmas.Bool.{cases_lt}
use Rattle.mg_dev.specs.Files.{Files}
use Rattle.mg_dev.specs.Streams.{AfterPut, appended}
use Rattle.mg_dev.specs.declared.show_err.ShowErr.{ShowErr}
use Rattle.mg_defs.specs.Phrases.{all_of}
use Rattle.mg_defs.specs.QueryTerms.{query_terms}
use Rattle.mg_defs.specs.Refusals.{Reading, Refusal, reads, refused}
use Rattle.mg_defs.specs.Replies.{refusal}
use Rattle.mg_defs.specs.Sat.{Query}
use Rattle.mg_defs.specs.Texts.{count}
use Rattle.mg_defs.specs.Weights.{Hit}
use Rattle.mg_defs.specs.declared.session.Settings.{Settings}
use Rattle.mg_post.specs.Cursor.{Cursoring, SameList}
use Rattle.mg_post.proofs.CallerLemmas.{first_same}
use Rattle.mg_bool.specs.Leads.{NeedsPlace}
use Rattle.mg_bool.specs.Matches.{Matching, SameMatches}
use Rattle.mg_bool.specs.Places.{Place, SamePlace, nth_place}
use Rattle.mg_bool.specs.Shown.{AnswersShown, AreLists, DecidesShown, IsPassed, IsShown, MatchesStand, PlaceShows, SameLists, ShowsWhether}
use Rattle.mg_layout.specs.declared.term_info.TermInfo.{TermInfo}
use Rattle.mg_query.specs.AllOf.{IsAllOf}
use Rattle.mg_query.specs.QueryOf.{query_of}
use Rattle.mg_query.specs.declared.query.Query as declared
use Rattle.mg_rank.specs.Added.{CountsWhole}
use Rattle.mg_rank.specs.Ranked.{Ranking}
use Rattle.mg_reply.specs.Pending.{Passed}
use Rattle.mg_reply.proofs.CallerLemmas.{pass_both, pass_nothing}
use Rattle.mg_session.specs.Answering.{known_infos}
use Rattle.mg_session.specs.Decided.{PrintsLine, PrintsPhrase, PrintsShown, QueryPrinted, QueryPrinting, QueryToldPrinted, RowRule, TermsPrinted, TermsTold, TermsToldPrinted}
use Rattle.mg_session.specs.Searching.{Opened}
use Rattle.mg_session.proofs.TotalLaws.{put_rest, put_rows}

-- ---- over the same lists

list_back : (c v : Cursoring) → SameList c v → SameList v c
list_back c v s = record {
  post = sym s.post;
  skip = sym s.skip;
  post_at = sym s.post_at;
  skip_at = sym s.skip_at;
  docs = sym s.docs;
  all = sym s.all;
  parameter = sym s.parameter;
}

same_place : (p : Place) → SamePlace p p
same_place None = tt
same_place (Some c) = record { post = refl; skip = refl; post_at = refl; skip_at = refl; docs = refl; all = refl; parameter = refl }

place_then : (p v w : Place) → SamePlace p v → SamePlace v w → SamePlace p w
place_then None None None a b = tt
place_then None None (Some w) a b = absurd b
place_then None (Some v) w a b = absurd a
place_then (Some c) None w a b = absurd a
place_then (Some c) (Some v) None a b = absurd b
place_then (Some c) (Some v) (Some w) a b = record {
  post = b.post ∙ a.post;
  skip = b.skip ∙ a.skip;
  post_at = b.post_at ∙ a.post_at;
  skip_at = b.skip_at ∙ a.skip_at;
  docs = b.docs ∙ a.docs;
  all = b.all ∙ a.all;
  parameter = b.parameter ∙ a.parameter;
}

same_lists : (m : Matching) → SameLists m m
same_lists m = record { places = record { size = refl; each = λ k. same_place (nth_place m.places k) }; lead = refl }

lists_then : (a b c : Matching) → SameLists a b → SameLists b c → SameLists a c
lists_then a b c p q = record {
  places = record {
    size = q.places.size ∙ p.places.size;
    each = λ k. place_then (nth_place a.places k) (nth_place b.places k) (nth_place c.places k) (p.places.each k) (q.places.each k);
  };
  lead = q.lead ∙ p.lead;
}

shows_back : (p v : Place) (files : Option Files) (doc : ℕ) (found : Option ℕ) → SamePlace p v → PlaceShows v files doc found → PlaceShows p files doc found
shows_back None None files doc found same h = h
shows_back None (Some v) files doc found same h = absurd same
shows_back (Some c) None files doc found same h = absurd same
shows_back (Some c) (Some v) files doc found same h = (h.0, first_same files doc h.0 (list_back c v same) h.1, h.2)

whether_back : (p v : Place) (files : Option Files) (doc : ℕ) (has : Bool) → SamePlace p v → ShowsWhether v files doc has → ShowsWhether p files doc has
whether_back p v files doc has same w = record {
  from = w.from;
  early = w.early;
  first = w.first;
  shown = shows_back p v files w.from w.first same w.shown;
  later = w.later;
  told = w.told;
}

module _ {start old : Matching} (files : Option Files) (same : SameMatches start old) (lists : SameLists start old) where
  shown_back : (doc : ℕ) (value : Bool) → IsShown (query_of old.asks) files old.places doc value → IsShown (query_of start.asks) files start.places doc value
  shown_back doc value s = subst (λ a. IsShown (query_of a) files start.places doc value) same.asks (record {
    there = s.there;
    size = s.size ∙ lists.places.size;
    each = λ k lt. whether_back (nth_place start.places k) (nth_place old.places k) files doc (get_or s.there k true) (lists.places.each k)
        (s.each k (omega (arith, lt, lists.places.size)));
    holds_so = s.holds_so;
  })

  passed_by : (lead : Option ℕ) (doc : ℕ) → IsPassed (query_of old.asks) files old.places lead doc → IsPassed (query_of start.asks) files start.places lead doc
  passed_by None doc s = shown_back doc false s
  passed_by (Some k) doc (inl w) = inl (whether_back (nth_place start.places k) (nth_place old.places k) files doc false (lists.places.each k) w)
  passed_by (Some k) doc (inr s) = inr (shown_back doc false s)

  passed_back : (doc : ℕ) → IsPassed (query_of old.asks) files old.places old.lead doc → IsPassed (query_of start.asks) files start.places start.lead doc
  passed_back doc s = passed_by start.lead doc (subst (λ lead. IsPassed (query_of old.asks) files old.places lead doc) lists.lead s)

-- ---- one document after another

module _ (q : Query) (files : Option Files) (places : List Place) (lead : Option ℕ) (IsRow : RowRule) where
  -- the documents up to one are passed
  prints_over : (d e total : ℕ) (text : List ℕ) → d ≤ e → ((doc : ℕ) → d < doc → doc ≤ e → IsPassed q files places lead doc) →
      PrintsShown q files places lead IsRow d total text → PrintsShown q files places lead IsRow e total text
  prints_over d zero total text le passed prints = subst (λ n. PrintsShown q files places lead IsRow n total text) (let e : d ≡ 0 = omega (arith, le) in e) prints
  prints_over d (suc e) total text le passed prints =
      elim (cases_lt d (suc e)) [
        | inl less ↦ inl (passed (suc e) less (omega arith), prints_over d e total text (omega (arith, less)) (λ doc lt within. passed doc lt (omega (arith, within))) prints)
        | inr past ↦ subst (λ n. PrintsShown q files places lead IsRow n total text) (let here : d ≡ suc e = omega (arith, le, past) in here) prints
      ]

  -- and then one is shown to satisfy the query
  prints_hit : (d number total total_now : ℕ) (text row : List ℕ) → d < number → ((doc : ℕ) → d < doc → doc < number → IsPassed q files places lead doc) →
      IsShown q files places number true → IsRow number total total_now row → PrintsShown q files places lead IsRow d total text →
      PrintsShown q files places lead IsRow number total_now (text ++ row)
  prints_hit d zero total total_now text row lt passed shown is prints = absurd (omega (arith, lt))
  prints_hit d (suc n) total total_now text row lt passed shown is prints =
      inr (shown, (total, text, row, prints_over d n total text (omega (arith, lt)) (λ doc later within. passed doc later (omega (arith, within))) prints, is, refl))

-- ---- while the documents of a query are shown

pub printing_start : {files : Option Files} {m : Matching} {IsRow : RowRule} {w : Option (List ℕ)} {waiting : List ℕ} {total : ℕ} → MatchesStand files m →
    m.decided ≡ 0 → waiting ≡ [] → total ≡ 0 → QueryPrinting files files m m IsRow w w waiting total
printing_start {files} {m} {IsRow} {w} {waiting} {total} stands first none zero_is = record {
  stands = stands;
  lists = same_lists m;
  text = [];
  each = subst (λ d. PrintsShown (query_of m.asks) files m.places m.lead IsRow d total []) (sym first) (zero_is, refl);
  passed = subst (λ p. Passed w w [] p []) (sym none) (pass_nothing w []);
}

module _ {files before after : Option Files} {start old : Matching} (now : Matching) {IsRow : RowRule} {w0 w1 : Option (List ℕ)} {waiting : List ℕ} {total : ℕ}
    (so_far : QueryPrinting files before start old IsRow w0 w1 waiting total) (same : SameMatches start old) (alike : before ≡ files) (found : Option ℕ)
    (answered : AnswersShown before after old now (Ok found)) where
  decides : DecidesShown (query_of old.asks) files old.places old.lead old.all old.decided found
  decides = subst (λ f. DecidesShown (query_of old.asks) f old.places old.lead old.all old.decided found) alike (answered so_far.stands).0

  -- one was found, and its row was passed on
  pub printing_hit : {end : Option Files} {w2 : Option (List ℕ)} {waiting_now row : List ℕ} {total_now : ℕ} (number : ℕ) → found ≡ Some number →
      SameLists old now → old.decided < number → number ≤ old.all → now.decided ≡ number → end ≡ after → IsRow number total total_now row →
      Passed w1 w2 waiting waiting_now row → QueryPrinting files end start now IsRow w0 w2 waiting_now total_now
  printing_hit {end} {w2} {waiting_now} {row} {total_now} number is lists later within decided same_files rule passed =
      let d = subst (DecidesShown (query_of old.asks) files old.places old.lead old.all old.decided) is decides in
      record {
        stands = subst (λ f. MatchesStand f now) (sym same_files) (answered so_far.stands).1;
        lists = lists_then start old now so_far.lists lists;
        text = so_far.text ++ row;
        each = subst (λ n. PrintsShown (query_of start.asks) files start.places start.lead IsRow n total_now (so_far.text ++ row)) (sym decided)
            (prints_hit (query_of start.asks) files start.places start.lead IsRow old.decided number total total_now so_far.text row later
            (λ doc lt before_it. passed_back files same so_far.lists doc (d.between doc lt (omega (arith, before_it, within)) before_it))
            (shown_back files same so_far.lists number true d.answered) rule so_far.each);
        passed = pass_both w0 w1 w2 [] waiting waiting_now so_far.text row so_far.passed passed;
      }

  -- none was left, and the count was put
  pub printing_end : (w2 : Option (List ℕ)) (r : Result (Unit {0}) ShowErr) → found ≡ None → old.decided ≤ old.all → AfterPut w1 w2 (waiting ++ count total) r →
      OnOk r ((total : ℕ) × (text : List ℕ) × PrintsShown (query_of start.asks) files start.places start.lead IsRow start.all total text
      × (w2 ≡ appended w0 (text ++ count total)))
  printing_end w2 (Ok done) is within put =
      let d = subst (DecidesShown (query_of old.asks) files old.places old.lead old.all old.decided) is decides in (
        total,
        so_far.text,
        subst (λ n. PrintsShown (query_of start.asks) files start.places start.lead IsRow n total so_far.text) same.all
            (prints_over (query_of start.asks) files start.places start.lead IsRow old.decided old.all total so_far.text within
            (λ doc lt le. passed_back files same so_far.lists doc (d.between doc lt le tt)) so_far.each),
        put_rest {E = ShowErr} w0 w1 w2 waiting so_far.text (count total) (Ok done) so_far.passed put,
      )
  printing_end w2 (Err error) is within put = tt

-- ---- a query of which the lexicon tells

-- each document was decided over places that started so
pub query_printed : {base : List ℕ} {infos : List (Option TermInfo)} {all : ℕ} {asks : declared.Query} (files : Option Files) (IsRow : RowRule) (w0 w1 : Option (List ℕ)) (m : Matching)
    (r : Result (Unit {0}) ShowErr) → m.asks ≡ asks → m.all ≡ all → AreLists base infos all m.places → IfSome m.lead (NeedsPlace (query_of asks)) →
    OnOk r ((total : ℕ) × (text : List ℕ) × PrintsShown (query_of m.asks) files m.places m.lead IsRow m.all total text × (w1 ≡ appended w0 (text ++ count total))) →
    OnOk r (QueryPrinted (query_of asks) base files infos all IsRow w0 w1)
query_printed {base} {infos} {all} {asks} files IsRow w0 w1 m (Ok done) asks_is all_is lists needs printed = record {
  places = m.places;
  lead = m.lead;
  lists = lists;
  needs = needs;
  total = printed.0;
  text = printed.1;
  each = subst (λ n. PrintsShown (query_of asks) files m.places m.lead IsRow n printed.0 printed.1) all_is
      (subst (λ a. PrintsShown (query_of a) files m.places m.lead IsRow m.all printed.0 printed.1) asks_is printed.2);
  put = printed.3;
}
query_printed files IsRow w0 w1 m (Err error) asks_is all_is lists needs printed = tt

-- ---- ranked terms

-- rows were passed on, and the count was put behind them
pub counted_behind : {w0 w1 : Option (List ℕ)} {waited waiting rows : List ℕ} (w2 : Option (List ℕ)) (last : List ℕ) (r : Result (Unit {0}) ShowErr)
    (AreSuch : List ℕ → Type 0) → waited ≡ [] → AreSuch rows → Passed w0 w1 waited waiting rows →
    AfterPut w1 w2 (waiting ++ last) r → OnOk r ((rows : List ℕ) × AreSuch rows × (w2 ≡ appended w0 (rows ++ last)))
counted_behind {w0} {w1} {waited} {waiting} {rows} w2 last (Ok done) AreSuch none are passed put = (rows, are, put_rows {E = ShowErr} w0 w1 w2 waited waiting rows last (Ok done) none passed put)
counted_behind w2 last (Err error) AreSuch none are passed put = tt

-- whole lists were counted
pub terms_printed : {all : ℕ} {given known : List TermInfo} (ranking : Ranking) (AreSuch : List Hit → List ℕ → Type 0) (w0 w1 : Option (List ℕ)) (r : Result (Unit {0}) ShowErr) → given ≡ known →
    CountsWhole all given ranking → OnOk r ((rows : List ℕ) × AreSuch ranking.rows rows × (w1 ≡ appended w0 (rows ++ count ranking.total))) → OnOk r (TermsPrinted known all AreSuch w0 w1)
terms_printed {all} {given} {known} ranking AreSuch w0 w1 (Ok done) is whole counted = record {
  ranking = ranking;
  whole = subst (λ infos. CountsWhole all infos ranking) is whole;
  rows = counted.0;
  rows_are = counted.1;
  put = counted.2;
}
terms_printed ranking AreSuch w0 w1 (Err error) is whole counted = tt

-- ---- over open parts

pub told_printed : {own opened : Opened} {files now : Option Files} {infos : List (Option TermInfo)} (q : Query) (IsRow : RowRule) (w0 w1 : Option (List ℕ))
    (r : Result (Unit {0}) ShowErr) → own ≡ opened → now ≡ files → TermsTold own.lex files (query_terms q) infos →
    OnOk r (QueryPrinted q own.base now infos own.all IsRow w0 w1) → OnOk r (QueryToldPrinted q files opened IsRow w0 w1)
told_printed {own} {opened} {files} {now} {infos} q IsRow w0 w1 (Ok done) is same told printed =
    subst (λ (o : Opened). QueryToldPrinted q files o IsRow w0 w1) is (infos, told, subst (λ f. QueryPrinted q own.base f infos own.all IsRow w0 w1) same printed)
told_printed q IsRow w0 w1 (Err error) is same told printed = tt

pub told_ranked : {own opened : Opened} {files : Option Files} {ts : List (List ℕ)} {infos : List (Option TermInfo)} (AreSuch : List Hit → List ℕ → Type 0) (w0 w1 : Option (List ℕ))
    (r : Result (Unit {0}) ShowErr) → own ≡ opened → TermsTold own.lex files ts infos → OnOk r (TermsPrinted (known_infos infos) own.all AreSuch w0 w1) →
    OnOk r (TermsToldPrinted ts files opened AreSuch w0 w1)
told_ranked {own} {opened} {files} {ts} {infos} AreSuch w0 w1 (Ok done) is told printed =
    subst (λ (o : Opened). TermsToldPrinted ts files o AreSuch w0 w1) is (infos, told, printed)
told_ranked AreSuch w0 w1 (Err error) is told printed = tt

-- ---- a line

-- what a line reads as is one thing
read_of : {A : Type 0} → A → Reading A → A
read_of other (reads x) = x
read_of other (refused why) = other

pub read_same : {A : Type 0} {line : Reading A} {x y : A} → line ≡ reads x → line ≡ reads y → x ≡ y
unfolding read_of
read_same {x = x} a b = ap (read_of x) (sym a ∙ b)

-- no refusal of it was put that is not known
size_of : Option (List ℕ) → ℕ
size_of None = 0
size_of (Some t) = length t

not_both : {A P : Type 0} (e : Refusal) (x : A) → refused e ≡ reads x → P
not_both e x is = absurd cc

never_put : {P : Type 0} (w0 : Option (List ℕ)) {w1 : Option (List ℕ)} → w1 ≡ appended w0 [] → w1 ≡ appended w0 (0 ∷ []) → IsSome w0 → P
unfolding appended size_of
never_put None none one told = absurd cc
never_put (Some t) none one told =
    let same : Some (t ++ []) ≡ Some (t ++ 0 ∷ []) = sym none ∙ one in
    absurd (omega (arith, ap size_of same, length-append t [], length-append t (0 ∷ [])))

pub refused_printed : {A : Type 0} {line : Reading A} (P : Type 0) (w0 w1 : Option (List ℕ)) (why : Option Refusal) (x : A) (r : Result (Unit {0}) ShowErr) →
    IfSome why (λ e. line ≡ refused e) → ((text : List ℕ) → IfSome why (λ e. text ≡ refusal e) → AfterPut w0 w1 text r) → line ≡ reads x → IsSome w0 → OnOk r P
refused_printed P w0 w1 why x (Err error) said put is told = tt
refused_printed P w0 w1 (Some e) x (Ok done) said put is told = not_both e x (sym said ∙ is)
refused_printed P w0 w1 None x (Ok done) said put is told = never_put w0 (put [] tt) (put (0 ∷ []) tt) told

-- ---- a phrase

-- its words are those that a query joins, where there are any
pub joined_words : (words : List (List ℕ)) (t : List ℕ) (us : List (List ℕ)) (query : declared.Query) → IsAllOf words (Some query) → words ≡ t ∷ us →
    query_of query ≡ all_of t us
joined_words words t us query joined is = subst (λ ws. IsAllOf ws (Some query)) is joined

pub no_words : {P : Type 0} (words : List (List ℕ)) (t : List ℕ) (us : List (List ℕ)) → IsAllOf words None → words ≡ t ∷ us → P
no_words words t us none is = absurd (subst (λ ws. IsAllOf ws None) is none)

-- ---- where a line was answered

pub line_ok : (w0 w1 : Option (List ℕ)) (files : Option Files) (opened : Opened) (is_ranked : Bool) (now : Settings) (line : List ℕ) (r : Result (Unit {0}) ShowErr) →
    PrintsLine w0 w1 r files opened is_ranked now line → OnOk r (PrintsLine w0 w1 (Ok tt) files opened is_ranked now line)
line_ok w0 w1 files opened is_ranked now line (Ok done) printed = printed
line_ok w0 w1 files opened is_ranked now line (Err error) printed = tt

pub phrase_ok : (w0 w1 : Option (List ℕ)) (files : Option Files) (opened : Opened) (line : List ℕ) (r : Result (Unit {0}) ShowErr) →
    PrintsPhrase w0 w1 r files opened line → OnOk r (PrintsPhrase w0 w1 (Ok tt) files opened line)
phrase_ok w0 w1 files opened line (Ok done) printed = printed
phrase_ok w0 w1 files opened line (Err error) printed = tt
