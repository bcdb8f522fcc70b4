-- The place that leads.
use Rattle.std.proofs.Common.{arith, ◌≡◌, ◌+◌, ◌-◌, ◌≤◌, ◌<◌, ℕ, zero, suc, Bool, true, false, ◌&&◌, List, [], ◌∷◌}
use Rattle.std.proofs.Common.{◌++◌, length, drop, get_or, refl, sym, ap, subst, ◌∙◌, inl, inr, Option, Some, None, length-append}
use Rattle.std.specs.Prelude.{nat_le, if◌then◌else◌}
use Rattle.std.proofs.lemmas.Bool.{cases_lt, le-leb, cases_Bool}
use Rattle.std.proofs.lemmas.List.{get_or_append_left, get_or-append-add, get_or-drop, length-drop}
use Rattle.mg_defs.specs.Sat.{Query, both}
use Rattle.mg_defs.specs.QueryTerms.{query_terms}
use Rattle.mg_defs.specs.Terms.{docs}
use Rattle.mg_defs.specs.PageBounds.{leading, leftmost_fewest, fewer}
use Rattle.mg_layout.specs.declared.term_info.TermInfo.{TermInfo}
use Rattle.mg_query.specs.Holds.{holds}
use Rattle.mg_bool.specs.Leads.{IsLead, IsPlaceOf, NeedsLead, NeedsPlace, better}
use Rattle.mg_bool.specs.Places.{AreInfos, TellFirst, IsToldOf}
use Rattle.mg_bool.specs.Matches.{Leads}
use Rattle.mg_bool.specs.declared.lead.Lead.{Lead}

not_le : (a b : ℕ) → b < a → nat_le a b ≡ false
not_le a b lt = grind arith

-- the better of two terms
abbrev joined : List ℕ → Option (List ℕ) → Option (List ℕ) → Option (List ℕ)
joined collection None second = second
joined collection (Some a) second = Some (fewer collection a second)

fewer_thrice : (collection x a : List ℕ) (o : Option (List ℕ)) → fewer collection x (Some (fewer collection a o)) ≡ fewer collection (fewer collection x (Some a)) o
fewer_thrice collection x a None = refl
fewer_thrice collection x a (Some b) =
    elim (cases_lt (docs collection b) (docs collection a)) [
      | inl b_less ↦ (
          let ab : nat_le (docs collection a) (docs collection b) ≡ false = not_le (docs collection a) (docs collection b) b_less in
          elim (cases_lt (docs collection a) (docs collection x)) [
            | inl a_less ↦ (
                let xa : nat_le (docs collection x) (docs collection a) ≡ false = not_le (docs collection x) (docs collection a) a_less in
                let xb : nat_le (docs collection x) (docs collection b) ≡ false = not_le (docs collection x) (docs collection b) (omega (arith, a_less, b_less)) in
                rw (ab, xa) (rw (xb, ab) refl))
            | inr x_le ↦ (
                let xa : nat_le (docs collection x) (docs collection a) ≡ true = le-leb (docs collection x) (docs collection a) x_le in
                rw (ab, xa) refl)
          ])
      | inr a_le ↦ (
          let ab : nat_le (docs collection a) (docs collection b) ≡ true = le-leb (docs collection a) (docs collection b) a_le in
          elim (cases_lt (docs collection a) (docs collection x)) [
            | inl a_less ↦ (
                let xa : nat_le (docs collection x) (docs collection a) ≡ false = not_le (docs collection x) (docs collection a) a_less in
                rw (ab, xa) (rw ab refl))
            | inr x_le ↦ (
                let xa : nat_le (docs collection x) (docs collection a) ≡ true = le-leb (docs collection x) (docs collection a) x_le in
                let xb : nat_le (docs collection x) (docs collection b) ≡ true = le-leb (docs collection x) (docs collection b) (omega (arith, a_le, x_le)) in
                rw (ab, xa) (rw xb refl))
          ])
    ]

fewer_joined : (collection x : List ℕ) (o p : Option (List ℕ)) → fewer collection x (joined collection o p) ≡ fewer collection (fewer collection x o) p
fewer_joined collection x None p = refl
fewer_joined collection x (Some a) p = fewer_thrice collection x a p

fewest-append : (collection : List ℕ) (xs ys : List (List ℕ)) → leftmost_fewest collection (xs ++ ys) ≡ joined collection (leftmost_fewest collection xs) (leftmost_fewest collection ys)
fewest-append collection [] ys = refl
fewest-append collection (x ∷ xs) ys = ap (λ o. Some (fewer collection x o)) (fewest-append collection xs ys)
    ∙ ap Some (fewer_joined collection x (leftmost_fewest collection xs) (leftmost_fewest collection ys))

no_fewest : (collection : List ℕ) (xs : List (List ℕ)) → xs ≡ [] → leftmost_fewest collection xs ≡ None
no_fewest collection xs e = ap (leftmost_fewest collection) e

none_append : (xs ys : List (List ℕ)) → xs ≡ [] → ys ≡ [] → xs ++ ys ≡ []
none_append xs ys e f = ap (λ l. l ++ ys) e ∙ f

first_place : (p q : Query) (size left : ℕ) → size - left < length (query_terms p) → get_or (query_terms p ++ query_terms q) (size - left) [] ≡ get_or (query_terms p) (size - left) []
first_place p q size left lt = get_or_append_left (query_terms p) (query_terms q) [] (size - left) lt

second_place : (p q : Query) (size left : ℕ) → left ≤ size - length (query_terms p) → length (query_terms p) ≤ size →
    get_or (query_terms p ++ query_terms q) (size - left) [] ≡ get_or (query_terms q) (size - length (query_terms p) - left) []
second_place p q size left le within =
    let e : size - left ≡ length (query_terms p) + (size - length (query_terms p) - left) = omega (arith, le, within) in
    ap (λ k. get_or (query_terms p ++ query_terms q) k []) e ∙ get_or-append-add (query_terms p) (query_terms q) (size - length (query_terms p) - left) []

pub lead_both : (collection : List ℕ) (p q : Query) (size : ℕ) (a b : Option Lead) → length (query_terms p) + length (query_terms q) ≤ size →
    IsPlaceOf p size a → IsPlaceOf q (size - length (query_terms p)) b → IsLead collection p size a → IsLead collection q (size - length (query_terms p)) b →
    IsLead collection (both p q) size (better a b)
lead_both collection p q size None None fits pa pb la lb = none_append (leading p) (leading q) la lb
lead_both collection p q size (Some a) None fits pa pb la lb =
    let here = first_place p q size a.left pa.1 in (
      fewest-append collection (leading p) (leading q) ∙ ap (λ o. joined collection o (leftmost_fewest collection (leading q))) la.0
          ∙ ap (joined collection (Some (get_or (query_terms p) (size - a.left) []))) (no_fewest collection (leading q) lb) ∙ ap Some (sym here),
      la.1 ∙ ap (docs collection) (sym here),
    )
lead_both collection p q size None (Some b) fits pa pb la lb =
    let there = second_place p q size b.left pb.0 (omega (arith, fits)) in (
      fewest-append collection (leading p) (leading q) ∙ ap (λ o. joined collection o (leftmost_fewest collection (leading q))) (no_fewest collection (leading p) la) ∙ lb.0 ∙ ap Some (sym there),
      lb.1 ∙ ap (docs collection) (sym there),
    )
lead_both collection p q size (Some a) (Some b) fits pa pb la lb =
    let here = first_place p q size a.left pa.1 in
    let there = second_place p q size b.left pb.0 (omega (arith, fits)) in
    let ta : List ℕ = get_or (query_terms p) (size - a.left) [] in
    let tb : List ℕ = get_or (query_terms q) (size - length (query_terms p) - b.left) [] in
    let whole : leftmost_fewest collection (leading p ++ leading q) ≡ Some (fewer collection ta (Some tb)) =
    fewest-append collection (leading p) (leading q) ∙ ap (λ o. joined collection o (leftmost_fewest collection (leading q))) la.0 ∙ ap (joined collection (Some ta)) lb.0 in
    elim (cases_lt b.docs a.docs) [
      | inl less ↦ (
          let test : nat_le a.docs b.docs ≡ false = not_le a.docs b.docs less in
          let terms : nat_le (docs collection ta) (docs collection tb) ≡ false = ap (λ x. nat_le x (docs collection tb)) (sym la.1) ∙ ap (nat_le a.docs) (sym lb.1) ∙ test in
          let choice : fewer collection ta (Some tb) ≡ tb = rw terms refl in
          subst (IsLead collection (both p q) size) (sym (ap (λ c. if c then Some a else Some b) test)) (whole ∙ ap Some choice ∙ ap Some (sym there), lb.1 ∙ ap (docs collection) (sym there)))
      | inr le ↦ (
          let test : nat_le a.docs b.docs ≡ true = le-leb a.docs b.docs le in
          let terms : nat_le (docs collection ta) (docs collection tb) ≡ true = ap (λ x. nat_le x (docs collection tb)) (sym la.1) ∙ ap (nat_le a.docs) (sym lb.1) ∙ test in
          let choice : fewer collection ta (Some tb) ≡ ta = rw terms refl in
          subst (IsLead collection (both p q) size) (sym (ap (λ c. if c then Some a else Some b) test)) (whole ∙ ap Some choice ∙ ap Some (sym here), la.1 ∙ ap (docs collection) (sym here)))
    ]

pub place_both : (p q : Query) (size : ℕ) (a b : Option Lead) → length (query_terms p) + length (query_terms q) ≤ size → IsPlaceOf p size a →
    IsPlaceOf q (size - length (query_terms p)) b → IsPlaceOf (both p q) size (better a b)
place_both p q size None None fits pa pb = tt
place_both p q size (Some a) None fits pa pb = (pa.0, omega (arith, pa.1, length-append (query_terms p) (query_terms q)))
place_both p q size None (Some b) fits pa pb = (omega (arith, pb.0), omega (arith, pb.0, pb.1, fits, length-append (query_terms p) (query_terms q)))
place_both p q size (Some a) (Some b) fits pa pb =
    elim (cases_Bool (nat_le a.docs b.docs)) [
      | inl test ↦ subst (IsPlaceOf (both p q) size) (sym (ap (λ c. if c then Some a else Some b) test)) (pa.0, omega (arith, pa.1, length-append (query_terms p) (query_terms q)))
      | inr test ↦ subst (IsPlaceOf (both p q) size) (sym (ap (λ c. if c then Some a else Some b) test))
          (omega (arith, pb.0), omega (arith, pb.0, pb.1, fits, length-append (query_terms p) (query_terms q)))
    ]

-- what is told of the terms of both sides
pub tell_left : (collection : List ℕ) (xs ys : List (List ℕ)) (infos : List (Option TermInfo)) → TellFirst collection (xs ++ ys) infos → TellFirst collection xs infos
tell_left collection xs ys infos told k lt =
    let one = told k (omega (arith, lt, length-append xs ys)) in
    (one.0, rw (get_or_append_left xs ys [] k lt) at one.1)

pub tell_right : (collection : List ℕ) (xs ys : List (List ℕ)) (infos : List (Option TermInfo)) → TellFirst collection (xs ++ ys) infos → TellFirst collection ys (drop (length xs) infos)
tell_right collection xs ys infos told k lt =
    let one = told (length xs + k) (omega (arith, lt, length-append xs ys)) in
    let term_is : get_or (xs ++ ys) (length xs + k) [] ≡ get_or ys k [] = get_or-append-add xs ys k [] in
    let info_is : get_or infos (length xs + k) None ≡ get_or (drop (length xs) infos) k None = sym (get_or-drop (length xs) infos k None) in
    let told_so : IsToldOf collection (get_or ys k []) (get_or infos (length xs + k) None) = subst (λ t. IsToldOf collection t (get_or infos (length xs + k) None)) term_is one.1 in
    (omega (arith, one.0, length-drop (length xs) infos), subst (IsToldOf collection (get_or ys k [])) info_is told_so)

pub tell_fits : (collection : List ℕ) (ts : List (List ℕ)) (infos : List (Option TermInfo)) → TellFirst collection ts infos → length ts ≤ length infos
tell_fits collection ts infos told = by_case (length ts) refl
  where
    by_case : (n : ℕ) → length ts ≡ n → length ts ≤ length infos
    by_case zero e = omega (arith, e)
    by_case (suc n) e = omega (arith, e, (told n (omega (arith, e))).0)

pub lead_whole : (collection : List ℕ) (p q : Query) (infos rest : List (Option TermInfo)) (a b : Option Lead) →
    TellFirst collection (query_terms p ++ query_terms q) infos → rest ≡ drop (length (query_terms p)) infos →
    (TellFirst collection (query_terms p) infos → IsLead collection p (length infos) a) → (length (query_terms p) ≤ length infos → IsPlaceOf p (length infos) a) →
    (TellFirst collection (query_terms q) rest → IsLead collection q (length rest) b) → (length (query_terms q) ≤ length rest → IsPlaceOf q (length rest) b) →
    IsLead collection (both p q) (length infos) (better a b)
lead_whole collection p q infos rest a b told rest_is lead_a place_a lead_b place_b =
    let fits : length (query_terms p ++ query_terms q) ≤ length infos = tell_fits collection (query_terms p ++ query_terms q) infos told in
    let both_fit : length (query_terms p) + length (query_terms q) ≤ length infos = omega (arith, fits, length-append (query_terms p) (query_terms q)) in
    let size : length rest ≡ length infos - length (query_terms p) = ap length rest_is ∙ length-drop (length (query_terms p)) infos in
    let right : TellFirst collection (query_terms q) rest = subst (TellFirst collection (query_terms q)) (sym rest_is) (tell_right collection (query_terms p) (query_terms q) infos told) in
    lead_both collection p q (length infos) a b both_fit
    (place_a (omega (arith, both_fit)))
    (subst (λ n. IsPlaceOf q n b) size (place_b (omega (arith, both_fit, size))))
    (lead_a (tell_left collection (query_terms p) (query_terms q) infos told))
    (subst (λ n. IsLead collection q n b) size (lead_b right))

tell_all : (collection : List ℕ) (ts : List (List ℕ)) (infos : List (Option TermInfo)) → AreInfos collection ts infos → TellFirst collection ts infos
tell_all collection ts infos a k lt = (omega (arith, lt, a.size), a.each k lt)

pub lead_leads : (collection : List ℕ) (q : Query) (infos : List (Option TermInfo)) (lead : Lead) → AreInfos collection (query_terms q) infos →
    (TellFirst collection (query_terms q) infos → IsLead collection q (length infos) (Some lead)) →
    (length (query_terms q) ≤ length infos → IsPlaceOf q (length infos) (Some lead)) → Leads collection q (Some (length infos - lead.left))
lead_leads collection q infos lead a leads place = ((place (omega (arith, a.size))).1, (leads (tell_all collection (query_terms q) infos a)).0)

pub none_leads : (collection : List ℕ) (q : Query) (infos : List (Option TermInfo)) → AreInfos collection (query_terms q) infos →
    (TellFirst collection (query_terms q) infos → IsLead collection q (length infos) None) → Leads collection q None
none_leads collection q infos a leads = leads (tell_all collection (query_terms q) infos a)

-- ---- the query fails where the term that leads isn't there

right_fails : (a b : Bool) → b ≡ false → a && b ≡ false
right_fails true b is = is
right_fails false b is = refl

needs_first : (p q : Query) (place : ℕ) → NeedsPlace p place → NeedsPlace (both p q) place
needs_first p q place needs there none = ap (λ b. b && holds q (drop (length (query_terms p)) there)) (needs there none)

needs_second : (p q : Query) (size left : ℕ) → left ≤ size - length (query_terms p) → length (query_terms p) ≤ size →
    NeedsPlace q (size - length (query_terms p) - left) → NeedsPlace (both p q) (size - left)
needs_second p q size left le fits needs there none =
    let n = length (query_terms p) in
    let e : size - left ≡ n + (size - n - left) = omega (arith, le, fits) in
    let behind : get_or (drop n there) (size - n - left) false ≡ false = get_or-drop n there (size - n - left) false ∙ subst (λ k. get_or there k false ≡ false) e none in
    right_fails (holds p there) (holds q (drop n there)) (needs (drop n there) behind)

pub needs_both : (p q : Query) (size : ℕ) (a b : Option Lead) → length (query_terms p) + length (query_terms q) ≤ size → IsPlaceOf q (size - length (query_terms p)) b →
    NeedsLead p size a → NeedsLead q (size - length (query_terms p)) b → NeedsLead (both p q) size (better a b)
needs_both p q size None None fits pb na nb = tt
needs_both p q size (Some a) None fits pb na nb = needs_first p q (size - a.left) na
needs_both p q size None (Some b) fits pb na nb = needs_second p q size b.left pb.0 (omega (arith, fits)) nb
needs_both p q size (Some a) (Some b) fits pb na nb =
    elim (cases_Bool (nat_le a.docs b.docs)) [
      | inl less ↦ subst (NeedsLead (both p q) size) (sym (ap (λ c. if c then Some a else Some b) less)) (needs_first p q (size - a.left) na)
      | inr more ↦ subst (NeedsLead (both p q) size) (sym (ap (λ c. if c then Some a else Some b) more)) (needs_second p q size b.left pb.0 (omega (arith, fits)) nb)
    ]

-- of the infos of a query, those of its second operand follow those of the first
pub needs_whole : (p q : Query) (infos rest : List (Option TermInfo)) (a b : Option Lead) → length (query_terms p ++ query_terms q) ≤ length infos → rest ≡ drop (length (query_terms p)) infos →
    (length (query_terms q) ≤ length rest → IsPlaceOf q (length rest) b) → (length (query_terms p) ≤ length infos → NeedsLead p (length infos) a) →
    (length (query_terms q) ≤ length rest → NeedsLead q (length rest) b) → NeedsLead (both p q) (length infos) (better a b)
needs_whole p q infos rest a b fits is place first second =
    let whole = length-append (query_terms p) (query_terms q) in
    let size : length rest ≡ length infos - length (query_terms p) = ap length is ∙ length-drop (length (query_terms p)) infos in
    let some : length (query_terms q) ≤ length rest = omega (arith, fits, whole, size) in
    needs_both p q (length infos) a b (omega (arith, fits, whole)) (subst (λ n. IsPlaceOf q n b) size (place some)) (first (omega (arith, fits, whole)))
    (subst (λ n. NeedsLead q n b) size (second some))
