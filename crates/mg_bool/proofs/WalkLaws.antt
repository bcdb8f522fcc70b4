-- A walk to the next document, as far as it has come: what each loop keeps, and what each way out of it promises.
use Rattle.std.proofs.Common.{arith, ◌≡◌, ◌≢◌, ◌+◌, ◌≤◌, ◌<◌, ℕ, Bool, true, false, List, [], length, refl, subst, ◌∙◌, Option, Some, None, Ok, Err}
use Rattle.mg_dev.specs.Files.{Files, Reads}
use Rattle.mg_dev.specs.PartCauses.{HasPartCause}
use Rattle.mg_dev.proofs.CallerLemmas.{cause_err}
use Rattle.mg_dev.specs.declared.part_err.PartErr.{PartErr}
use Rattle.mg_dev.specs.declared.part_err.PartErr.TheVariants as err
use Rattle.mg_defs.specs.Terms.{document}
use Rattle.mg_defs.specs.Sat.{Query, satisfies}
use Rattle.mg_defs.specs.QueryTerms.{query_terms}
use Rattle.mg_defs.specs.PageBounds.{asked_of}
use Rattle.mg_query.specs.Holds.{AreThere, holds}
use Rattle.mg_post.specs.Answers.{AnswersList}
use Rattle.mg_post.specs.Cursor.{NamesItsPart}
use Rattle.mg_bool.specs.Places.{AnswersFirst, AsksAll, FindsFirst, Place, PlacesAnswer, PlacesFit, PlacesFor, PlacesRead, pages_read}
use Rattle.mg_bool.specs.Matches.{FindsCandidate, GoesOver, IsNext, IsNextDoc, Leads, ReadsBetween, left_in, query_bound}
use Rattle.mg_bool.specs.Walked.{IsReady, Spot, Walked}
use Rattle.mg_bool.proofs.ShownLaws.{NextShown, Passes, passes_miss, passes_on, passes_start, shown_end, shown_hit}
use Rattle.mg_bool.proofs.AskLaws.{CursorsWithin, err_answer, places_later, same_then}
use Rattle.mg_bool.proofs.CallLaws.{Stepped, lists_on, skips_on, stepped_none, stepped_on}
use Rattle.mg_bool.proofs.AnyLaws.{any_asks, first_is_next}
use Rattle.mg_bool.proofs.NextLaws.{Going, going_end, going_hit, going_miss, going_none, going_pages, going_start, goes_now, next_asks, pages_more, stands_now, sum_pages}

-- ---- as far as it has come

pub record Under (q : Query) (led : Option ℕ) (all : ℕ) (old now : Spot) (files_before files_now : Option Files) (reads_before reads_now : Reads) (faults_before faults_now : ℕ) : Type 0 where
  pub step : Stepped old.places now.places files_before files_now reads_before reads_now faults_before faults_now
  pub fits : PlacesFit files_now now.places
  pub there : length now.there ≡ length old.there
  pub most : now.decided ≤ all
  pub later : old.decided ≤ now.decided
  pub goes : (base collection : List ℕ) → GoesOver base collection q files_before old.places led all old.decided →
      Going base collection q old.places now.places led all old.decided now.decided reads_before reads_now
  pub shows : Passes q led files_before files_now old.places now.places old.decided now.decided

pub under_start : (q : Query) (led : Option ℕ) (all : ℕ) (old : Spot) (files : Option Files) (reads : Reads) (faults : ℕ) → IsReady files led all old →
    Under q led all old old files files reads reads faults faults
under_start q led all old files reads faults ready = record {
  step = stepped_none old.places files reads faults;
  fits = ready.fits;
  there = refl;
  most = ready.most;
  later = omega arith;
  goes = λ base collection goes. going_start base collection q files old.places led all old.decided reads goes;
  shows = passes_start;
}

-- where the places go over a collection's documents, this one is the next that may satisfy the query, and it is told whether it does
abbrev pub Decides : Query → Option Files → Option ℕ → ℕ → List Place → ℕ → ℕ → Bool → List Place → Type 0
Decides q files led all places d doc b now = (base collection : List ℕ) → GoesOver base collection q files places led all d →
    IsNextDoc collection q d doc × PlacesFor base collection (asked_of collection q) (query_terms q) doc now × (b ≡ satisfies q (document collection doc))

-- it is told whether a document satisfies the query that has these of its terms
abbrev pub Says : Query → List Bool → Bool → Type 0
Says q told b = (doc : List ℕ) → AreThere doc (query_terms q) told → b ≡ satisfies q doc

module _ {q : Query} {led : Option ℕ} {all : ℕ} {old mid : Spot} {f g : Option Files} {r s : Reads} {l m : ℕ} (u : Under q led all old mid f g r s l m) where
  -- where the places go over a collection's documents, they still do
  pub now_over : (base collection : List ℕ) → GoesOver base collection q f old.places led all old.decided → GoesOver base collection q g mid.places led all mid.decided
  now_over base collection goes = goes_now base collection q f g old.places mid.places led all old.decided mid.decided r s u.step.files goes (u.goes base collection goes)

  pub walk_end : CursorsWithin → all ≤ mid.decided → Walked q led all old mid (Ok None) f g r s l m
  walk_end law le = record {
    fits = u.fits;
    same = u.step.same;
    there = u.there;
    most = u.most;
    later = u.later;
    range = tt;
    last = λ _. omega (arith, u.most, le);
    answer = λ base collection goes. going_end base collection q old.places mid.places led all old.decided mid.decided r s (u.goes base collection goes) le;
    pages = λ base collection goes. going_pages base collection q old.places mid.places led all old.decided mid.decided r s law (u.goes base collection goes);
    shows = shown_end le u.shows;
    part = tt;
    reads = u.step.reads;
    skips = u.step.skips;
    files = u.step.files;
    memory = λ e. cc;
    cause = record { later = u.step.faults; device = tt };
  }

  module _ {places : List Place} {h : Option Files} {t : Reads} {n : ℕ} (told : List Bool) (step : Stepped mid.places places g h s t m n)
      (there : length told ≡ length mid.there) (pages : ReadsBetween q g s t led all mid.places places mid.decided) where
    more_pages : ReadsBetween q f r t led all old.places places old.decided
    more_pages base collection goes =
        pages_more (query_bound collection q) (pages_read old.places) (pages_read mid.places) (pages_read places) r s t (u.goes base collection goes).post
        (pages base collection (now_over base collection goes))

    -- a call refused
    pub walk_err : {T : Type 0} {k : ℕ} (e : PartErr) → NamesItsPart e → e ≢ err.Memory → l ≤ k → HasPartCause {T = T} k n (Err e) →
        ((base collection : List ℕ) → GoesOver base collection q g mid.places led all mid.decided → AnswersList {T = Option ℕ} (Err e) (λ _. ⊥)) →
        Walked q led all old (record { places = places; there = told; decided = mid.decided }) (Err e) f h r t l n
    walk_err {k = k} e part memory le cause answer = record {
      fits = tt;
      same = same_then old.places mid.places places u.step.same step.same;
      there = there ∙ u.there;
      most = u.most;
      later = u.later;
      range = tt;
      last = λ is. absurd cc;
      answer = λ base collection goes. err_answer e _ _ (answer base collection (now_over base collection goes));
      pages = more_pages;
      shows = λ stands. tt;
      part = part;
      reads = lists_on u.step.reads step.reads;
      skips = skips_on u.step.skips step.skips;
      files = step.files ∙ u.step.files;
      memory = λ is. memory cc;
      cause = cause_err le cause;
    }

    -- no document is left that may satisfy the query
    pub walk_none : PlacesFit h places →
        ((base collection : List ℕ) → GoesOver base collection q g mid.places led all mid.decided →
        (left_in collection q mid.decided ≡ []) × PlacesFor base collection (asked_of collection q) (query_terms q) (mid.decided + 1) places) →
        Passes q led g h mid.places places mid.decided all → Walked q led all old (record { places = places; there = told; decided = all }) (Ok None) f h r t l n
    walk_none fits found passes = record {
      fits = fits;
      same = same_then old.places mid.places places u.step.same step.same;
      there = there ∙ u.there;
      most = omega arith;
      later = omega (arith, u.later, u.most);
      range = tt;
      last = λ _. refl;
      answer = λ base collection goes.
          let a = found base collection (now_over base collection goes) in
          going_none base collection q old.places mid.places places led all old.decided mid.decided r s (u.goes base collection goes) a.0 a.1;
      pages = more_pages;
      shows = shown_end (omega arith) (passes_on u.step.same u.step.files u.shows passes);
      part = tt;
      reads = lists_on u.step.reads step.reads;
      skips = skips_on u.step.skips step.skips;
      files = step.files ∙ u.step.files;
      memory = λ is. cc;
      cause = record { later = omega (arith, u.step.faults, step.faults); device = tt };
    }

    -- the next document that may satisfy it does, or not
    module _ {doc : ℕ} {b : Bool} (fits : PlacesFit h places) (later : mid.decided < doc) (most : doc ≤ all) (decides : Decides q g led all mid.places mid.decided doc b places)
        (next : NextShown q led g h mid.places places mid.decided doc b) where
      pub walk_hit : b ≡ true → Walked q led all old (record { places = places; there = told; decided = doc }) (Ok (Some doc)) f h r t l n
      walk_hit hit = record {
        fits = fits;
        same = same_then old.places mid.places places u.step.same step.same;
        there = there ∙ u.there;
        most = most;
        later = omega (arith, u.later, later);
        range = (omega (arith, u.later, later), most, refl);
        last = λ is. absurd cc;
        answer = λ base collection goes.
            let a = decides base collection (now_over base collection goes) in
            going_hit base collection q old.places mid.places places led all old.decided mid.decided doc b r s (u.goes base collection goes) a.0 a.1 a.2 hit;
        pages = more_pages;
        shows = shown_hit u.step.same u.step.files u.shows next hit;
        part = tt;
        reads = lists_on u.step.reads step.reads;
        skips = skips_on u.step.skips step.skips;
        files = step.files ∙ u.step.files;
        memory = λ is. cc;
        cause = record { later = omega (arith, u.step.faults, step.faults); device = tt };
      }

      pub walk_more : b ≡ false → Under q led all old (record { places = places; there = told; decided = doc }) f h r t l n
      walk_more miss = record {
        step = stepped_on u.step step;
        fits = fits;
        there = there ∙ u.there;
        most = most;
        later = omega (arith, u.later, later);
        goes = λ base collection goes.
            let now = now_over base collection goes in
            let a = decides base collection now in
            going_miss base collection q old.places mid.places places led all old.decided mid.decided doc b r s t (u.goes base collection goes) a.0 a.1 a.2 miss (pages base collection now).post;
        shows = passes_miss u.step.same u.step.files u.shows next miss;
      }

-- ---- a candidate is asked of all places

module _ {q : Query} {led : Option ℕ} {all d doc : ℕ} {places between : List Place} {g g1 : Option Files} {s s1 : Reads} (same : g1 ≡ g)
    (found : FindsCandidate q g led all places between d (Ok (Some doc))) (pages : ReadsBetween q g s s1 led all places between d) where
  asks_at : (base collection : List ℕ) → GoesOver base collection q g places led all d → AsksAll base collection (asked_of collection q) (query_terms q) doc g1 between
  asks_at base collection goes =
      let a = found base collection goes in
      next_asks base collection q g1 between d doc (stands_now base collection g g1 same goes.stand) a.0 a.1

  pub asked_err : (now : List Place) (told : List Bool) (e : PartErr) → PlacesAnswer {T = Unit {0}} doc g1 between now told (Err e) →
      (base collection : List ℕ) → GoesOver base collection q g places led all d → AnswersList {T = Option ℕ} (Err e) (λ _. ⊥)
  asked_err now told e got base collection goes = err_answer e _ _ (got base collection (asked_of collection q) (query_terms q) (asks_at base collection goes))

  pub asked_reads : (now : List Place) (t : Reads) → PlacesRead doc g1 between now s1 t → ReadsBetween q g s t led all places now d
  asked_reads now t read base collection goes =
      pages_more (query_bound collection q) (pages_read places) (pages_read between) (pages_read now) s s1 t (pages base collection goes).post
      (sum_pages collection q (pages_read between) (pages_read now) s1 t (read base collection (asked_of collection q) (query_terms q) (asks_at base collection goes)))

  pub asked_decides : (now : List Place) (told : List Bool) (b : Bool) → PlacesAnswer {T = Unit {0}} doc g1 between now told (Ok tt) → Says q told b → Decides q g led all places d doc b now
  asked_decides now told b got says base collection goes =
      let all = got base collection (asked_of collection q) (query_terms q) (asks_at base collection goes) in
      ((found base collection goes).0, all.places_for, says (document collection doc) all.are_there)

-- ---- the first document of all lists

module _ {q : Query} {led : Option ℕ} {all d : ℕ} {places : List Place} {g : Option Files} (none : led ≡ None) (needs : holds q [] ≡ false) (more : d < all) where
  any_at : (base collection : List ℕ) → GoesOver base collection q g places led all d → AsksAll base collection (asked_of collection q) (query_terms q) (d + 1) g places
  any_at base collection goes = any_asks base collection q g places all d more (subst (λ o. GoesOver base collection q g places o all d) none goes)

  pub any_err : (now : List Place) (told : List Bool) (e : PartErr) → FindsFirst (d + 1) g places now told (Err e) → (base collection : List ℕ) →
      GoesOver base collection q g places led all d → AnswersList {T = Option ℕ} (Err e) (λ _. ⊥)
  any_err now told e got base collection goes = err_answer e _ _ (got base collection (asked_of collection q) (query_terms q) (any_at base collection goes))

  pub any_reads : (now : List Place) (s t : Reads) → PlacesRead (d + 1) g places now s t → ReadsBetween q g s t led all places now d
  any_reads now s t read base collection goes = sum_pages collection q (pages_read places) (pages_read now) s t
      (read base collection (asked_of collection q) (query_terms q) (any_at base collection goes))

  first_next : (now : List Place) (told : List Bool) (first : Option ℕ) (base collection : List ℕ) → GoesOver base collection q g places led all d →
      AnswersFirst base collection (asked_of collection q) (query_terms q) (d + 1) first told now → IsNext collection q d first
  first_next now told first base collection goes a = first_is_next base collection q d first told now (omega (arith, more, goes.over.all_is)) (subst (Leads collection q) none goes.over.leads) needs a

  pub any_none : (now : List Place) (told : List Bool) → FindsFirst (d + 1) g places now told (Ok None) → (base collection : List ℕ) →
      GoesOver base collection q g places led all d → (left_in collection q d ≡ []) × PlacesFor base collection (asked_of collection q) (query_terms q) (d + 1)
      now
  any_none now told got base collection goes =
      let a = got base collection (asked_of collection q) (query_terms q) (any_at base collection goes) in
      (first_next now told None base collection goes a, a.places_for)

  pub any_decides : (now : List Place) (told : List Bool) (doc : ℕ) (b : Bool) → FindsFirst (d + 1) g places now told (Ok (Some doc)) → Says q told b → Decides q g led all places d doc b now
  any_decides now told doc b got says base collection goes =
      let a = got base collection (asked_of collection q) (query_terms q) (any_at base collection goes) in
      let next = first_next now told (Some doc) base collection goes a in
      (next, places_later base collection (asked_of collection q) (query_terms q) (d + 1) doc now (omega (arith, next.later)) a.places_for, says (document collection doc) a.are_there)
