-- The next document.
use Rattle.std.proofs.Common.{arith, ◌≡◌, ◌+◌, ◌-◌, ◌≤◌, ◌<◌, ℕ, Bool, true, false, List, [], ◌∷◌, ◌++◌}
use Rattle.std.proofs.Common.{length, take, drop, get_or, sum_by, refl, sym, ap, subst, ◌∙◌, Option, Some, None, length-append}
use Rattle.std.specs.Prelude.{slice_index_or, slice_set}
use Rattle.std.specs.List.{list_any}
use Rattle.std.proofs.lemmas.List.{take-append-drop, drop-drop, drop_all, length-drop}
use Rattle.mg_dev.specs.Files.{Files, Reads}
use Rattle.mg_dev.specs.declared.part.Part.TheVariants as part
use Rattle.mg_defs.specs.Split.{documents}
use Rattle.mg_defs.specs.Terms.{document}
use Rattle.mg_defs.specs.Lists.{postings, from_doc}
use Rattle.mg_defs.specs.Sat.{Query, satisfies}
use Rattle.mg_defs.specs.QueryTerms.{query_terms}
use Rattle.mg_defs.specs.ShownAnswers.{plain, found}
use Rattle.mg_defs.proofs.ReplyLaws.{found-hit, found-miss}
use Rattle.mg_defs.proofs.ListLaws.{list_rises}
use Rattle.mg_defs.specs.PageBounds.{leading, leftmost_fewest, asked_of, asked_by_leader, numbers_in, all_numbers, is_met, in_range}
use Rattle.mg_defs.proofs.TermLaws.{document_is}
use Rattle.mg_laws.proofs.BoundLaws.{range_true}
use Rattle.mg_laws.proofs.BoundsInWords.{number_there}
use Rattle.mg_laws.proofs.LedLists.{first_of, list_from, from_front, length_front, docs_from, lead_skips, lead_ends, Skips}
use Rattle.mg_laws.proofs.MetBlocks.{own_met, first_in}
use Rattle.mg_query.specs.QueryOf.{query_of}
use Rattle.mg_post.specs.TermLists.{IsAmong, ListsStand, PagesWithin}
use Rattle.mg_bool.specs.Places.{AnswersPlace, AsksAll, AsksPlace, Place, PlacesFor, pages_read, place_bound, place_pages}
use Rattle.mg_bool.specs.Matches.{GoesOn, GoesOver, IsNext, IsNextDoc, Leads, Matching, MatchesOver, PlacesOver, left_in, left_of, query_bound}
use Rattle.mg_bool.proofs.AskLaws.{CursorsWithin, asked_one, asked_pages, first_number, places_bound, places_later}

-- ---- which documents are asked

asked_lead : (collection : List ℕ) (q : Query) (r : List ℕ) → leftmost_fewest collection (leading q) ≡ Some r → asked_of collection q ≡ numbers_in (postings collection r)
unfolding asked_of
asked_lead collection q r is = ap (asked_by_leader collection) is

asked_none : (collection : List ℕ) (q : Query) → leading q ≡ [] → asked_of collection q ≡ all_numbers collection
unfolding asked_of
asked_none collection q none = ap (λ ts. asked_by_leader collection (leftmost_fewest collection ts)) none

-- any document may be asked where nothing leads
pub any_asked : (collection : List ℕ) (q : Query) (doc : ℕ) → leading q ≡ [] → 1 ≤ doc → doc ≤ length (documents collection) → (t : List ℕ) →
    IsAmong (asked_of collection q) (postings collection t) doc
any_asked collection q doc none some le t k in_it =
    ap (λ l. list_any (in_range k (postings collection t)) l) (asked_none collection q none)
    ∙ number_there (in_range k (postings collection t)) 1 doc (documents collection) some (omega (arith, le))
    (range_true k (postings collection t) doc in_it)

-- one of the leading list may be asked, and of the leading list itself the one after the last
lead_asked : (collection : List ℕ) (q : Query) (r : List ℕ) (d doc : ℕ) → leftmost_fewest collection (leading q) ≡ Some r →
    first_of (from_doc d (postings collection r)) ≡ Some doc → (t : List ℕ) → IsAmong (asked_of collection q) (postings collection t) doc
lead_asked collection q r d doc lead is t k in_it =
    ap (λ l. list_any (in_range k (postings collection t)) l) (asked_lead collection q r lead)
    ∙ first_in d doc (postings collection r) (in_range k (postings collection t)) is (range_true k (postings collection t) doc in_it)

pub own_asked : (collection : List ℕ) (q : Query) (r : List ℕ) (doc : ℕ) → length collection < 4294967296 → leftmost_fewest collection (leading q) ≡ Some r →
    IsAmong (asked_of collection q) (postings collection r) doc
own_asked collection q r doc short lead k in_it =
    ap (λ l. is_met l (postings collection r) k) (asked_lead collection q r lead) ∙ own_met (length (documents collection)) k doc (postings collection r) (list_rises collection r short) in_it

-- ---- the next one

pub drop_front : {X : Type 0} (xs ys : List X) → drop (length xs) (xs ++ ys) ≡ ys
drop_front [] ys = refl
drop_front (x ∷ xs) ys = drop_front xs ys

pub none_left : (collection : List ℕ) (q : Query) (d : ℕ) → length (documents collection) ≤ d → left_in collection q d ≡ []
unfolding found
none_left collection q d le = ap (found q (d + 1)) (drop_all d (documents collection) le)

pub lead_from : (collection r : List ℕ) (d : ℕ) → d ≤ length (documents collection) → from_doc (d + 1) (postings collection r) ≡ list_from r (d + 1) (drop d (documents collection))
lead_from collection r d le =
    let ds = documents collection in
    let split : ds ≡ take d ds ++ drop d ds = sym (take-append-drop d ds) in
    ap (λ l. from_doc (d + 1) (list_from r 1 l)) split ∙ from_front r 1 (d + 1) (take d ds) (drop d ds) (omega (arith, length_front ds d le))

pub lead_next : (collection : List ℕ) (q : Query) (r : List ℕ) (d : ℕ) (o : Option ℕ) → d ≤ length (documents collection) →
    leftmost_fewest collection (leading q) ≡ Some r → o ≡ first_of (from_doc (d + 1) (postings collection r)) → IsNext collection q d o
lead_next collection q r d None le lead is = lead_ends q collection r (d + 1) (drop d (documents collection)) lead (sym (ap first_of (lead_from collection r d le)) ∙ sym is)
lead_next collection q r d (Some m) le lead is =
    let ds = documents collection in
    let s : Skips q (d + 1) m (drop d ds) = lead_skips q collection r (d + 1) m (drop d ds) lead (sym (ap first_of (lead_from collection r d le)) ∙ sym is) in
    let long : length ds - d ≡ length s.front + length s.rest = sym (length-drop d ds) ∙ ap length s.whole ∙ length-append s.front s.rest in
    let place : m - 1 ≡ d + length s.front = omega (arith, s.size) in
    let rest : drop (m - 1) ds ≡ s.rest = ap (λ k. drop k ds) place ∙ sym (drop-drop (length s.front) d ds) ∙ ap (drop (length s.front)) s.whole ∙ drop_front s.front s.rest in
    record {
      later = omega (arith, s.size);
      within = omega (arith, s.size, long, s.some, le);
      same = s.same ∙ ap (found q m) (sym rest);
      among = lead_asked collection q r (d + 1) m lead (sym is);
    }

pub any_next : (collection : List ℕ) (q : Query) (d : ℕ) → d < length (documents collection) → leading q ≡ [] → IsNextDoc collection q d (d + 1)
any_next collection q d lt none =
    let e : d + 1 - 1 ≡ d = omega arith in
    record {
      later = omega arith;
      within = omega (arith, lt);
      same = ap (λ k. found q (d + 1) (drop k (documents collection))) (sym e);
      among = any_asked collection q (d + 1) none (omega arith) (omega (arith, lt));
    }

-- ---- it satisfies the query, or not

docs_at : (collection : List ℕ) (doc : ℕ) → 1 ≤ doc → doc ≤ length (documents collection) → drop (doc - 1) (documents collection) ≡ document collection doc ∷ drop doc (documents collection)
docs_at collection doc some le =
    let ds = documents collection in
    let d = doc - 1 in
    let e : d + 1 ≡ doc = omega (arith, some) in
    let split : ds ≡ take d ds ++ get_or ds d [] ∷ drop (d + 1) ds = docs_from ds d (omega (arith, some, le)) in
    ap (drop d) split ∙ ap (λ k. drop k (take d ds ++ get_or ds d [] ∷ drop (d + 1) ds)) (sym (length_front ds d (omega (arith, le))))
    ∙ drop_front (take d ds) (get_or ds d [] ∷ drop (d + 1) ds) ∙ ap (λ k. get_or ds d [] ∷ drop k ds) e
    ∙ ap (λ x. x ∷ drop doc ds) (sym (document_is collection doc some))

pub decided_miss : (collection : List ℕ) (q : Query) (d doc : ℕ) → IsNextDoc collection q d doc → satisfies q (document collection doc) ≡ false → left_in collection q d ≡ left_in collection q doc
decided_miss collection q d doc next miss =
    next.same ∙ ap (found q doc) (docs_at collection doc (omega (arith, next.later)) next.within) ∙ found-miss q doc (document collection doc) (drop doc (documents collection)) miss

pub decided_hit : (collection : List ℕ) (q : Query) (d doc : ℕ) → IsNextDoc collection q d doc → satisfies q (document collection doc) ≡ true →
    GoesOn (left_in collection q d) (left_in collection q doc) (Some doc)
decided_hit collection q d doc next hit =
    let e : left_in collection q d ≡ plain doc ∷ left_in collection q doc = next.same ∙ ap (found q doc)
    (docs_at collection doc (omega (arith, next.later)) next.within) ∙ found-hit q doc (document collection doc) (drop doc (documents collection)) hit in
    subst (λ l. GoesOn l (left_in collection q doc) (Some doc)) (sym e) (refl, refl)

-- ---- the place that leads is asked

pub record LeadAsked (base collection : List ℕ) (q : Query) (files : Option Files) (places : List Place) (place decided : ℕ) : Type 0 where
  pub there : place < length (query_terms q)
  pub term : leftmost_fewest collection (leading q) ≡ Some (get_or (query_terms q) place [])
  pub asks : AsksPlace base collection (asked_of collection q) (get_or (query_terms q) place []) (decided + 1) files (slice_index_or places place None)

pub lead_of : (base collection : List ℕ) (q : Query) (files : Option Files) (places : List Place) (lead : Option ℕ) (place all decided : ℕ) →
    lead ≡ Some place → GoesOver base collection q files places lead all decided → LeadAsked base collection q files places place decided
lead_of base collection q files places lead place all decided is goes =
    let l : Leads collection q (Some place) = subst (Leads collection q) is goes.over.leads in
    record {
      there = l.0;
      term = l.1;
      asks = record {
        stand = goes.stand;
        place = goes.over.each.each place l.0;
        among = own_asked collection q (get_or (query_terms q) place []) (decided + 1) goes.stand.short l.1;
      };
    }

-- what the leading list answered
pub lead_answer : (base collection : List ℕ) (q : Query) (files : Option Files) (places : List Place) (lead : Option ℕ) (place all decided : ℕ) (v : Place)
    (found : Option ℕ) → GoesOver base collection q files places lead all decided → LeadAsked base collection q files places place decided →
    AnswersPlace base collection (asked_of collection q) (get_or (query_terms q) place []) (decided + 1) found v →
    IsNext collection q decided found × PlacesFor base collection (asked_of collection q) (query_terms q) (decided + 1) (slice_set places place v)
lead_answer base collection q files places lead place all decided v found goes l a =
    let r = get_or (query_terms q) place [] in
    let first : found ≡ first_of (from_doc (decided + 1) (postings collection (get_or (query_terms q) place []))) = a.found_is
    ∙ first_number (from_doc (decided + 1) (postings collection (get_or (query_terms q) place []))) in (
      lead_next collection q (get_or (query_terms q) place []) decided found (omega (arith, goes.over.all_is, goes.over.within)) l.term first,
      asked_one base collection (asked_of collection q) (query_terms q) (decided + 1) place places v goes.over.each l.there a.place,
    )

pub lead_pages : (base collection : List ℕ) (q : Query) (files : Option Files) (places : List Place) (lead : Option ℕ) (place all decided : ℕ) (v : Place)
    (before after : Reads) → CursorsWithin → GoesOver base collection q files places lead all decided → LeadAsked base collection q files places place decided →
    PagesWithin (place_bound collection (asked_of collection q) (get_or (query_terms q) place [])) (place_pages (slice_index_or places place None))
    (place_pages v) before after → PagesWithin (query_bound collection q) (pages_read places) (pages_read (slice_set places place v)) before after
unfolding query_bound
lead_pages base collection q files places lead place all decided v before after law goes l step =
    asked_pages base collection (asked_of collection q) (query_terms q) (decided + 1) place places places v before before after law goes.over.each l.there (omega arith) step

pub still_pages : (base collection : List ℕ) (q : Query) (n : ℕ) (places : List Place) (before : Reads) → CursorsWithin →
    PlacesFor base collection (asked_of collection q) (query_terms q) n places →
    PagesWithin (query_bound collection q) (pages_read places) (pages_read places) before before
unfolding query_bound
still_pages base collection q n places before law f = record { within = places_bound base collection (asked_of collection q) (query_terms q) n places law f; post = omega arith }

-- ---- a document is asked of all places

pub next_asks : (base collection : List ℕ) (q : Query) (files : Option Files) (places : List Place) (decided doc : ℕ) → ListsStand base files collection →
    IsNextDoc collection q decided doc → PlacesFor base collection (asked_of collection q) (query_terms q) (decided + 1) places →
    AsksAll base collection (asked_of collection q) (query_terms q) doc files places
next_asks base collection q files places decided doc stand next f = record {
  stand = stand;
  places_for = places_later base collection (asked_of collection q) (query_terms q) (decided + 1) doc places (omega (arith, next.later)) f;
  within = next.within;
  among = next.among;
}

-- a document more is decided
pub decided_over : (base collection : List ℕ) (q : Query) (old new : List Place) (lead : Option ℕ) (all d doc : ℕ) →
    PlacesOver base collection q old lead all d → IsNextDoc collection q d doc → PlacesFor base collection (asked_of collection q) (query_terms q) doc new →
    PlacesOver base collection q new lead all doc
decided_over base collection q old new lead all d doc over next f = record {
  each = places_later base collection (asked_of collection q) (query_terms q) doc (doc + 1) new (omega arith) f;
  leads = over.leads;
  all_is = over.all_is;
  within = omega (arith, next.within, over.all_is);
}

-- all are decided
pub all_over : (base collection : List ℕ) (q : Query) (old new : List Place) (lead : Option ℕ) (all d : ℕ) → PlacesOver base collection q old lead all d →
    PlacesFor base collection (asked_of collection q) (query_terms q) (d + 1) new → PlacesOver base collection q new lead all all
all_over base collection q old new lead all d over f = record {
  each = places_later base collection (asked_of collection q) (query_terms q) (d + 1) (all + 1) new (omega (arith, over.within)) f;
  leads = over.leads;
  all_is = over.all_is;
  within = omega arith;
}

-- nothing is left behind the last document
pub none_goes : (collection : List ℕ) (q : Query) (d all : ℕ) → all ≡ length (documents collection) → left_in collection q d ≡ [] → GoesOn (left_in collection q d) (left_in collection q all) None
none_goes collection q d all is none =
    let last : left_in collection q all ≡ [] = none_left collection q all (omega (arith, is)) in
    subst (λ l. GoesOn l (left_in collection q all) None) (sym none) last

pub pages_more : (bound old mid now : ℕ) (before between after : Reads) → between part.Post + old ≤ before part.Post + mid →
    PagesWithin bound mid now between after → PagesWithin bound old now before after
pages_more bound old mid now before between after so_far step = record { within = step.within; post = omega (arith, so_far, step.post) }

pub sum_pages : (collection : List ℕ) (q : Query) (old now : ℕ) (before after : Reads) →
    PagesWithin (sum_by (place_bound collection (asked_of collection q)) (query_terms q)) old now before after →
    PagesWithin (query_bound collection q) old now before after
unfolding query_bound
sum_pages collection q old now before after p = p

-- ---- the loop over the documents

pub record Going (base collection : List ℕ) (q : Query) (old now : List Place) (lead : Option ℕ) (all before_doc doc : ℕ) (before after : Reads) : Type 0 where
  pub over : PlacesOver base collection q now lead all doc
  pub left : left_in collection q before_doc ≡ left_in collection q doc
  pub post : after part.Post + pages_read old ≤ before part.Post + pages_read now

pub going_start : (base collection : List ℕ) (q : Query) (files : Option Files) (places : List Place) (lead : Option ℕ) (all d : ℕ) (before : Reads) →
    GoesOver base collection q files places lead all d → Going base collection q places places lead all d d before before
going_start base collection q files places lead all d before goes = record { over = goes.over; left = refl; post = omega arith }

pub stands_now : (base collection : List ℕ) (files now_files : Option Files) → now_files ≡ files → ListsStand base files collection → ListsStand base now_files collection
stands_now base collection files now_files same stand = subst (λ fs. ListsStand base fs collection) (sym same) stand

pub goes_now : (base collection : List ℕ) (q : Query) (files now_files : Option Files) (old now : List Place) (lead : Option ℕ) (all d e : ℕ)
    (before after : Reads) → now_files ≡ files → GoesOver base collection q files old lead all d → Going base collection q old now lead all d e before after →
    GoesOver base collection q now_files now lead all e
goes_now base collection q files now_files old now lead all d e before after same goes going = record { stand = subst (λ fs. ListsStand base fs collection) (sym same) goes.stand; over = going.over }

pub going_miss : (base collection : List ℕ) (q : Query) (old mid now : List Place) (lead : Option ℕ) (all d e doc : ℕ) (b : Bool)
    (before between after : Reads) → Going base collection q old mid lead all d e before between → IsNextDoc collection q e doc →
    PlacesFor base collection (asked_of collection q) (query_terms q) doc now →
    b ≡ satisfies q (document collection doc) → b ≡ false → after part.Post + pages_read mid ≤ between part.Post + pages_read now → Going base collection q old now lead all d doc before after
going_miss base collection q old mid now lead all d e doc b before between after going next f asked miss step = record {
  over = decided_over base collection q mid now lead all e doc going.over next f;
  left = going.left ∙ decided_miss collection q e doc next (sym asked ∙ miss);
  post = omega (arith, going.post, step);
}

pub going_hit : (base collection : List ℕ) (q : Query) (old mid now : List Place) (lead : Option ℕ) (all d e doc : ℕ) (b : Bool) (before between : Reads) →
    Going base collection q old mid lead all d e before between → IsNextDoc collection q e doc →
    PlacesFor base collection (asked_of collection q) (query_terms q) doc now →
    b ≡ satisfies q (document collection doc) → b ≡ true → GoesOn (left_in collection q d) (left_in collection q doc) (Some doc) × PlacesOver base collection q now lead all doc
going_hit base collection q old mid now lead all d e doc b before between going next f asked hit = (
  subst (λ l. GoesOn l (left_in collection q doc) (Some doc)) (sym going.left) (decided_hit collection q e doc next (sym asked ∙ hit)),
  decided_over base collection q mid now lead all e doc going.over next f,
)

pub going_none : (base collection : List ℕ) (q : Query) (old mid now : List Place) (lead : Option ℕ) (all d e : ℕ) (before between : Reads) →
    Going base collection q old mid lead all d e before between → left_in collection q e ≡ [] →
    PlacesFor base collection (asked_of collection q) (query_terms q) (e + 1) now →
    GoesOn (left_in collection q d) (left_in collection q all) None × PlacesOver base collection q now lead all all
going_none base collection q old mid now lead all d e before between going none f = (
  none_goes collection q d all going.over.all_is (going.left ∙ none),
  all_over base collection q mid now lead all e going.over f,
)

pub going_end : (base collection : List ℕ) (q : Query) (old now : List Place) (lead : Option ℕ) (all d e : ℕ) (before after : Reads) →
    Going base collection q old now lead all d e before after → all ≤ e → GoesOn (left_in collection q d) (left_in collection q e) None
    × PlacesOver base collection q now lead all e
going_end base collection q old now lead all d e before after going le =
    let none : left_in collection q e ≡ [] = none_left collection q e (omega (arith, going.over.all_is, le)) in
    (subst (λ l. GoesOn l (left_in collection q e) None) (sym (going.left ∙ none)) none, going.over)

pub going_pages : (base collection : List ℕ) (q : Query) (old now : List Place) (lead : Option ℕ) (all d e : ℕ) (before after : Reads) → CursorsWithin →
    Going base collection q old now lead all d e before after → PagesWithin (query_bound collection q) (pages_read old) (pages_read now) before after
unfolding query_bound
going_pages base collection q old now lead all d e before after law going = record {
  within = places_bound base collection (asked_of collection q) (query_terms q) (e + 1) now law going.over.each;
  post = going.post;
}

-- ---- after the last document

pub ended_goes : (base collection : List ℕ) (m : Matching) → m.decided ≡ m.all → MatchesOver base collection m →
    GoesOn (left_of collection m) (left_of collection m) None × MatchesOver base collection m
ended_goes base collection m is over =
    let none : left_of collection m ≡ [] = none_left collection (query_of m.asks) m.decided (omega (arith, is, over.all_is)) in
    (subst (λ l. GoesOn l (left_of collection m) None) (sym none) none, over)

pub ended_pages : (base collection : List ℕ) (m : Matching) (before : Reads) → CursorsWithin → MatchesOver base collection m →
    PagesWithin (query_bound collection (query_of m.asks)) (pages_read m.places) (pages_read m.places) before before
ended_pages base collection m before law over = still_pages base collection (query_of m.asks) (m.decided + 1) m.places before law over.each
