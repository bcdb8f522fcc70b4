-- What a merge answers, by what the calls that it makes answer.
use Rattle.std.proofs.Common.{◌≡◌, ◌≢◌, ◌/◌, ◌∙◌, ℕ, List, Option, Ok, Err, sym, ap, subst, inl, inr}
use Rattle.std.specs.Prelude.{IfErr, OnOk, Result}
use Rattle.mg_dev.specs.Faults.{ReadStops}
use Rattle.mg_dev.specs.Files.{Files, bytes_at}
use Rattle.mg_dev.specs.Names.{full_name}
use Rattle.mg_dev.specs.declared.fault.Fault.{Fault}
use Rattle.mg_dev.specs.declared.fault.Fault.TheVariants as cause
use Rattle.mg_dev.specs.declared.part.Part.{Part}
use Rattle.mg_dev.specs.declared.part.Part.TheVariants.{Head, Places, Plain, Text}
use Rattle.mg_defs.specs.declared.Stream.{Stream}
use Rattle.mg_defs.specs.Heads as defs
use Rattle.mg_defs.specs.Heads.{IsHead}
use Rattle.mg_defs.specs.Limits.{version_2}
use Rattle.mg_defs.specs.WithinLimits.{IsWithinLimits}
use Rattle.mg_defs.specs.Marks.{PassesFirst, piece, start}
use Rattle.mg_defs.specs.Stands.{head_of}
use Rattle.mg_defs.specs.Summaries.{run_cap}
use Rattle.mg_defs.proofs.HeadLaws.{one_head}
use Rattle.mg_defs.proofs.StandLaws.{stand-tells}
use Rattle.mg_layout.specs.HeadAnswers.{fields_of}
use Rattle.mg_layout.specs.Stands.{Stands, StandsIn, parts_at}
use Rattle.mg_layout.specs.declared.head.Head as layout
use Rattle.mg_layout.proofs.CallerLemmas.{in_stands, loaded_set}
use Rattle.mg_make.specs.Putting.{IsApart}
use Rattle.mg_dev.specs.Runs.{IsDone, RefusedFor}
use Rattle.mg_make.specs.Outcomes.{IsEarly}
use Rattle.mg_merge.specs.Merging.{BothStand, IsSizeByHeads, budget_of, joined_size}
use Rattle.mg_merge.specs.Passes.{AreApart}
use Rattle.mg_merge.specs.Stops.{AreHeads, CountingStops}
use Rattle.mg_merge.specs.Texts.{AreSetsBy, AreTextsOf, TwoTexts}
use Rattle.mg_merge.proofs.JoinedLaws.{cap_again}
use Rattle.mg_merge.proofs.StopLaws.{counting_documents, counting_only, counting_pieces, only_done, read_counts, read_late, within_passes}

-- ---- names

-- no part of the new set is a text that is read
pub apart_of : (new first second : List ℕ) (t : TwoTexts) →
    ((a b : List ℕ) (p q : Part) → p ≢ Plain → q ≢ Plain → full_name a p ≡ full_name b q → (a ≡ b) × (p ≡ q)) → new ≢ first → new ≢ second →
    AreTextsOf t first second → AreApart new t
apart_of new first second t names one other are = record {
  first_text = subst (IsApart new) (sym are.first_text) (λ p own e. one (sym (names first new Text p text own e).0));
  first_places = subst (IsApart new) (sym are.first_places) (λ p own e. one (sym (names first new Places p places own e).0));
  second_text = subst (IsApart new) (sym are.second_text) (λ p own e. other (sym (names second new Text p text own e).0));
  second_places = subst (IsApart new) (sym are.second_places) (λ p own e. other (sym (names second new Places p places own e).0));
}
  where
    text : Text ≢ Plain
    text same = cc

    places : Places ≢ Plain
    places same = cc

-- ---- heads

pub both_in : (version cap : ℕ) (files : Option Files) (first second a b : List ℕ) → StandsIn version cap files first a → Stands files second b → BothStand files first second a b
both_in version cap files first second a b is stands = record { first_stands = in_stands version cap files first a is; second_stands = stands }

-- sets that stand do so by the heads that were loaded
pub sets_by : (files now : Option Files) (first second a b : List ℕ) (one other : layout.Head) → now ≡ files →
    AreHeads files first second (fields_of one) (fields_of other) → BothStand files first second a b → AreSetsBy one other now first second a b
sets_by files now first second a b one other same are both =
    let left = loaded_set files first a one both.first_stands are.first_is in
    let right = loaded_set files second b other both.second_stands are.second_is in
    subst (λ f. AreSetsBy one other f first second a b) (sym same) (record { first_code = left.0; second_code = right.0; first_stands = left.1; second_stands = right.1 })

-- two heads tell one size
pub one_size : (files : Option Files) (first second : List ℕ) (one other : defs.Head) (size : ℕ) → AreHeads files first second one other →
    IsSizeByHeads files first second size → joined_size one other ≡ size
one_size files first second one other size are is =
    let left : one ≡ is.a = one_head one is.a are.first_is.within is.are.first_is.within (sym are.first_is.bytes_are ∙ is.are.first_is.bytes_are) in
    let right : other ≡ is.b = one_head other is.b are.second_is.within is.are.second_is.within (sym are.second_is.bytes_are ∙ is.are.second_is.bytes_are) in
    ap (λ h. joined_size h other) left ∙ ap (joined_size is.a) right ∙ sym is.size_is

-- the cap of a set is that of the head that was loaded, and so the pool makes its runs again
pub cap_of : (version cap budget : ℕ) (files : Option Files) (first second a : List ℕ) (one other : layout.Head) → StandsIn version cap files first a →
    AreHeads files first second (fields_of one) (fields_of other) → budget ≡ budget_of one.cap → (budget ≡ budget_of cap) × (run_cap budget ≡ cap)
cap_of version cap budget files first second a one other is are by =
    let own : IsHead 1 2 (bytes_at files (full_name first Head)) (head_of version cap is.code a) = (stand-tells version cap is.code (parts_at files first) a is.are).head in
    let same : one.cap ≡ cap = ap (λ (h : defs.Head). h.cap) (one_head (fields_of one) (head_of version cap is.code a) are.first_is.within own.within (sym are.first_is.bytes_are ∙ own.bytes_are)) in
    let pool : budget ≡ budget_of cap = by ∙ ap budget_of same in
    (pool, ap (λ n. n / 12) pool ∙ cap_again cap is.are.cap_low)

-- ---- what the passes answer

-- a refusal of the second pass as one of both
pub counts_all : {T : Type 0} (r : Result T Fault) (rose now whole : Type 0) (stands : List ℕ → Type 0) → (rose → now) →
    ((collection : List ℕ) → stands collection → whole) → IfErr r (ReadStops rose whole) → IfErr r (CountingStops now stands)
counts_all (Ok value) rose now whole stands grows is stop = tt
counts_all (Err fault) rose now whole stands grows is stop = read_counts rose now whole stands fault grows is stop

pub on_ok : {T : Type 0} (r : Result T Fault) (P : Type 0) → P → OnOk r P
on_ok (Ok value) P is = is
on_ok (Err fault) P is = tt

from_err : {T : Type 0} (a b : Fault) → ◌≡◌ {A = Result T Fault} (Err a) (Err b) → a ≡ b
from_err a b is = cc

pub early_all : {T : Type 0} (r : Result T Fault) (rose whole kept : Type 0) → IfErr r (ReadStops rose whole) → IfErr r (λ fault. IsEarly fault → kept)
early_all (Ok value) rose whole kept stop = tt
early_all (Err fault) rose whole kept stop = λ early. absurd (read_late rose whole fault stop early)

-- a refusal of one call is that of another
pub refused_other : {T U : Type 0} (fault wanted : Fault) → RefusedFor {T = T} (Err fault) wanted → RefusedFor {T = U} (Err fault) wanted
refused_other {T} {U} fault wanted (inl is) = inl (ap Err (from_err {T = T} fault wanted is))
refused_other {T} {U} fault wanted (inr (inl is)) = inr (inl (ap Err (from_err {T = T} fault cause.StoreFault is)))
refused_other {T} {U} fault wanted (inr (inr is)) = inr (inr (ap Err (from_err {T = T} fault cause.Memory is)))

-- ---- what both passes answer

pub early_at : {T : Type 0} (r : Result T Fault) (kept now : Type 0) → (kept → now) → IfErr r (λ fault. IsEarly fault → kept) → IfErr r (λ fault. IsEarly fault → now)
early_at (Ok value) kept now same early = tt
early_at (Err fault) kept now same early = λ is. same (early is)

pub documents_all : {T : Type 0} (r : Result T Fault) (rose : Type 0) (stands : List ℕ → Type 0) (collection : List ℕ) → stands collection →
    PassesFirst version_2 collection start → OnOk r (IsWithinLimits 2 collection) → IfErr r (CountingStops rose stands) → RefusedFor r cause.TooManyDocuments
documents_all (Ok value) rose stands collection stand first within stop = absurd (within_passes collection start within first)
documents_all {T} (Err fault) rose stands collection stand first within stop = counting_documents {T = T} rose stands collection fault stand first stop

pub pieces_all : {T : Type 0} (r : Result T Fault) (rose : Type 0) (stands : List ℕ → Type 0) (collection : List ℕ) (stream : Stream) (x : List ℕ) →
    stands collection → PassesFirst version_2 collection (piece stream x) → OnOk r (IsWithinLimits 2 collection) → IfErr r (CountingStops rose stands) →
    RefusedFor r (cause.TooManyPieces stream)
pieces_all (Ok value) rose stands collection stream x stand first within stop = absurd (within_passes collection (piece stream x) within first)
pieces_all {T} (Err fault) rose stands collection stream x stand first within stop = counting_pieces {T = T} rose stands collection stream x fault stand first stop

pub done_all : {T : Type 0} (r : Result T Fault) (rose now : Type 0) (stands : List ℕ → Type 0) (collection : List ℕ) → stands collection →
    IsWithinLimits 2 collection → (rose → now) → (now → ⊥) → IfErr r (CountingStops rose stands) → IsDone r
done_all (Ok value) rose now stands collection stand limits grows never stop = tt
done_all {T} (Err fault) rose now stands collection stand limits grows never stop = only_done T rose fault (λ rises. never (grows rises)) (counting_only rose stands collection fault stand limits stop)
