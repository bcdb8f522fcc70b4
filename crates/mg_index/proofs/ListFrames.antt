-- What the writers of lists and lexicon leave as it is, and why they stop.
use Rattle.std.proofs.Common.{arith, ◌≡◌, ◌≢◌, ◌≤◌, ℕ, List, refl, sym, ap, ◌∙◌, subst, Ok, Err, is_some, Result}
use Rattle.std.specs.Prelude.{IfErr, OnOk}
use Rattle.std.specs.declared.option.Option.{Option}
use Rattle.mg_dev.specs.declared.device.PutErr.{PutErr}
use Rattle.mg_dev.specs.declared.device.PutErr.TheVariants as put
use Rattle.mg_dev.specs.declared.fault.Fault.{Fault}
use Rattle.mg_dev.specs.declared.fault.Fault.TheVariants as fault
use Rattle.mg_dev.specs.declared.what.What.TheVariants as what
use Rattle.mg_dev.specs.declared.part.Part.{Part as AnyPart}
use Rattle.mg_dev.specs.declared.part.Part.TheVariants.{Head, Words, Nonwords, Text, Places, Lex, LexAt, Post, Skip, Weights, Run, MergeA, MergeB, Plain}
use Rattle.mg_dev.specs.Causes.{HasPutCause, Rose}
use Rattle.mg_dev.specs.Faults.{ReadStops, fault_of_store}
use Rattle.mg_dev.specs.Files.{Files, file_at}
use Rattle.mg_dev.specs.Laws.{same_part_of_name}
use Rattle.mg_dev.specs.Names.{full_name, number}
use Rattle.mg_defs.specs.declared.TermPosting.{TermPosting}
use Rattle.mg_runs.specs.Joins.{IsRunPart}
use Rattle.mg_runs.specs.Left.{IsMerging, Merging}
use Rattle.mg_index.specs.Listing.{ListStops, OfPostings, SameMerge, TellsTermOfNone}
use Rattle.mg_index.specs.Written.{OfLists, WroteParts}
use Rattle.mg_index.proofs.Causes.{rose_behind}

-- ---- what was written

pub wrote_none : (parts : AnyPart → Type 0) (base : List ℕ) (f g : Option Files) → g ≡ f → WroteParts parts base f g
wrote_none parts base f g same = record { told = ap is_some same; others = λ name apart. ap (λ files. file_at files name) same }

pub wrote_more : (parts : AnyPart → Type 0) (base : List ℕ) (f g h : Option Files) → WroteParts parts base f g → WroteParts parts base g h → WroteParts parts base f h
wrote_more parts base f g h first second = record { told = second.told ∙ first.told; others = λ name apart. second.others name apart ∙ first.others name apart }

pub wrote_lists : (base post skip : List ℕ) (f g : Option Files) → post ≡ full_name base Post → skip ≡ full_name base Skip → is_some g ≡ is_some f →
    ((n : List ℕ) → n ≢ post → n ≢ skip → file_at g n ≡ file_at f n) → WroteParts OfPostings base f g
wrote_lists base post skip f g post_is skip_is told others =
    record { told = told; others = λ name apart. others name (λ e. apart Post tt (e ∙ post_is)) (λ e. apart Skip tt (e ∙ skip_is)) }

pub of_lists : (p : AnyPart) → OfPostings p → OfLists p
of_lists Head h = h
of_lists Words h = h
of_lists Nonwords h = h
of_lists Text h = h
of_lists Places h = h
of_lists Lex h = absurd h
of_lists LexAt h = absurd h
of_lists Post h = h
of_lists Skip h = h
of_lists Weights h = h
of_lists Run h = h
of_lists MergeA h = h
of_lists MergeB h = h
of_lists Plain h = h

-- lists are among what is written of them and of the lexicon
pub wrote_wider : (base : List ℕ) (f g : Option Files) → WroteParts OfPostings base f g → WroteParts OfLists base f g
wrote_wider base f g wrote = record { told = wrote.told; others = λ name apart. wrote.others name (λ p of_p. apart p (of_lists p of_p)) }

-- the lexicon's parts are none of lists
pub lex_stays : (base : List ℕ) (f g : Option Files) → WroteParts OfPostings base f g → file_at g (full_name base Lex) ≡ file_at f (full_name base Lex)
lex_stays base f g wrote = wrote.others (full_name base Lex) (λ p of_p e. lex_apart p of_p (same_part_of_name base Lex p e))
  where
    lex_apart : (p : AnyPart) → OfPostings p → Lex ≢ p
    lex_apart p of_p e = subst OfPostings (sym e) of_p

pub lex_at_stays : (base : List ℕ) (f g : Option Files) → WroteParts OfPostings base f g → file_at g (full_name base LexAt) ≡ file_at f (full_name base LexAt)
lex_at_stays base f g wrote = wrote.others (full_name base LexAt) (λ p of_p e. lex_at_apart p of_p (same_part_of_name base LexAt p e))
  where
    lex_at_apart : (p : AnyPart) → OfPostings p → LexAt ≢ p
    lex_at_apart p of_p e = subst OfPostings (sym e) of_p

-- nor are lists' parts of the lexicon
pub post_stays : (base : List ℕ) (f g : Option Files) → ((n : List ℕ) → n ≢ full_name base Lex → n ≢ full_name base LexAt → file_at g n ≡ file_at f n) →
    file_at g (full_name base Post) ≡ file_at f (full_name base Post)
post_stays base f g others = others (full_name base Post) (λ e. not_lex (same_part_of_name base Post Lex e)) (λ e. not_lex_at (same_part_of_name base Post LexAt e))
  where
    not_lex : Post ≢ Lex
    not_lex e = cc

    not_lex_at : Post ≢ LexAt
    not_lex_at e = cc

pub skip_stays : (base : List ℕ) (f g : Option Files) → ((n : List ℕ) → n ≢ full_name base Lex → n ≢ full_name base LexAt → file_at g n ≡ file_at f n) →
    file_at g (full_name base Skip) ≡ file_at f (full_name base Skip)
skip_stays base f g others = others (full_name base Skip) (λ e. not_lex (same_part_of_name base Skip Lex e)) (λ e. not_lex_at (same_part_of_name base Skip LexAt e))
  where
    not_lex : Skip ≢ Lex
    not_lex e = cc

    not_lex_at : Skip ≢ LexAt
    not_lex_at e = cc

pub wrote_lex : (base : List ℕ) (f g : Option Files) → is_some g ≡ is_some f →
    ((n : List ℕ) → n ≢ full_name base Lex → n ≢ full_name base LexAt → file_at g n ≡ file_at f n) → WroteParts OfLists base f g
wrote_lex base f g told others = record { told = told; others = λ name apart. others name (apart Lex tt) (apart LexAt tt) }

-- ---- the merge goes on

lists_are_low : (p : AnyPart) → OfLists p → number p ≤ 8
lists_are_low Head h = absurd h
lists_are_low Words h = absurd h
lists_are_low Nonwords h = absurd h
lists_are_low Text h = absurd h
lists_are_low Places h = absurd h
lists_are_low Lex h = omega arith
lists_are_low LexAt h = omega arith
lists_are_low Post h = omega arith
lists_are_low Skip h = omega arith
lists_are_low Weights h = absurd h
lists_are_low Run h = absurd h
lists_are_low MergeA h = absurd h
lists_are_low MergeB h = absurd h
lists_are_low Plain h = absurd h

not_runs : (base : List ℕ) (p q : AnyPart) → OfLists p → IsRunPart q → full_name base q ≢ full_name base p
not_runs base p q of_lists of_runs e = omega (arith, lists_are_low p of_lists, of_runs.low, ap number (same_part_of_name base q p e))

-- the law of runs that stay
abbrev pub RunsStay : Type 0
RunsStay =
    (merge : Merging) (f g : Option Files) (left : List TermPosting) → is_some g ≡ is_some f →
    ((part : AnyPart) → IsRunPart part → file_at g (full_name merge.base part) ≡ file_at f (full_name merge.base part)) → IsMerging merge f left → IsMerging merge g left

pub merging_stays_all : RunsStay → (merge : Merging) (f g : Option Files) (left : List TermPosting) → WroteParts OfLists merge.base f g → IsMerging merge f left → IsMerging merge g left
merging_stays_all stay merge f g left wrote is =
    stay merge f g left wrote.told (λ q of_runs. wrote.others (full_name merge.base q) (λ p of_lists. not_runs merge.base p q of_lists of_runs)) is

pub merging_stays : RunsStay → (merge : Merging) (f g : Option Files) (left : List TermPosting) → WroteParts OfPostings merge.base f g → IsMerging merge f left → IsMerging merge g left
merging_stays stay merge f g left wrote is = merging_stays_all stay merge f g left (wrote_wider merge.base f g wrote) is

pub same_none : (merge : Merging) → SameMerge merge merge
same_none merge = record { base = refl; runs = refl; peak = refl }

pub same_more : (a b c : Merging) → SameMerge a b → SameMerge b c → SameMerge a c
same_more a b c first second = record { base = second.base ∙ first.base; runs = second.runs ∙ first.runs; peak = second.peak ∙ first.peak }

-- ---- why it stops

pub stops_for : {rose rose' same same' : Type 0} (f : Fault) → (rose → rose') → (same' → same) → ListStops rose same f → ListStops rose' same' f
stops_for fault.Usage up down h = h
stops_for fault.StoreFault up down h = up h
stops_for fault.ReadFault up down h = h
stops_for fault.WriteFault up down h = h
stops_for fault.NotBuilt up down h = h
stops_for (fault.Damaged bad) up down h = λ same. h (down same)
stops_for fault.NoCollection up down h = h
stops_for (fault.TooLarge size most) up down h = h
stops_for fault.TooManyDocuments up down h = h
stops_for (fault.TooManyPieces stream) up down h = h
stops_for (fault.Changed what first second) up down h = (h.0, λ same. h.1 (down same))
stops_for fault.Memory up down h = h
stops_for (fault.NameClash part) up down h = h
stops_for fault.InputTooLong up down h = h
stops_for fault.SameName up down h = h
stops_for (fault.TooManyRotations count) up down h = h

-- the store's own refusal, behind steps in which the faults did not fall
pub store_stops : {T : Type 0} {l m n : ℕ} (same : Type 0) (refusal : PutErr) (fault : Fault) → l ≤ m → HasPutCause {T = T} m n (Err refusal) →
    fault ≡ fault_of_store refusal → ListStops (Rose l n) same fault
store_stops {l = l} {m = m} {n = n} same put.Failed fault later cause is = rw is (rose_behind l m n later (cause.failed refl))
store_stops same put.Memory fault later cause is = rw is tt

-- the same, told as a reader's
pub store_refuses : {T : Type 0} {l m n : ℕ} (same : Type 0) (refusal : PutErr) (fault : Fault) → l ≤ m → HasPutCause {T = T} m n (Err refusal) →
    fault ≡ fault_of_store refusal → ReadStops (Rose l n) same fault
store_refuses {l = l} {m = m} {n = n} same put.Failed fault later cause is = rw is (rose_behind l m n later (cause.failed refl))
store_refuses same put.Memory fault later cause is = rw is tt

-- of a reader, where more or less is known
pub read_for : {rose rose' same same' : Type 0} (f : Fault) → (rose → rose') → (same' → same) → ReadStops rose same f → ReadStops rose' same' f
read_for fault.StoreFault up down stop = up stop
read_for fault.Memory up down stop = tt
read_for (fault.Damaged bad) up down stop = λ same. stop (down same)
read_for f up down stop = absurd stop

-- what stops a reader stops the lists
pub list_of_read : {rose rose' same same' : Type 0} (f : Fault) → (rose → rose') → (same' → same) → ReadStops rose same f → ListStops rose' same' f
list_of_read fault.StoreFault up down stop = up stop
list_of_read fault.Memory up down stop = tt
list_of_read (fault.Damaged bad) up down stop = λ same. stop (down same)
list_of_read f up down stop = absurd stop

-- a refusal that is passed on
pub passed_on : {T : Type 0} {rose rose' same same' : Type 0} (r : Result T Fault) (e : Fault) → (y : Fault) × (r ≡ Err y) × (y ≡ e) → (rose → rose') →
    (same' → same) → ReadStops rose same e → IfErr r (ReadStops rose' same')
passed_on r e p up down stops = rw (p.1, p.2) (read_for e up down stops)

-- where it is told for each collection
pub stops_within : {T : Type 0} {rose rose' : Type 0} (same same' : List ℕ → Type 0) (r : Result T Fault) → (rose → rose') → ((collection : List ℕ) → same' collection → same collection) →
    IfErr r (λ f. (collection : List ℕ) → ListStops rose (same collection) f) → IfErr r (λ f. (collection : List ℕ) → ListStops rose' (same' collection) f)
stops_within same same' (Ok value) up down h = tt
stops_within same same' (Err e) up down h = λ collection. stops_for e up (down collection) (h collection)

-- ---- what a change tells

-- the store's own refusal tells none
pub store_tells : (none : Type 0) (refusal : PutErr) (fault : Fault) → fault ≡ fault_of_store refusal → TellsTermOfNone none fault
store_tells none put.Failed fault is = rw is tt
store_tells none put.Memory fault is = rw is tt

-- a reader tells none
pub read_tells : (rose same none : Type 0) (f : Fault) → ReadStops rose same f → TellsTermOfNone none f
read_tells rose same none fault.StoreFault stop = tt
read_tells rose same none fault.Memory stop = tt
read_tells rose same none (fault.Damaged bad) stop = tt
read_tells rose same none f stop = absurd stop

-- one list tells what all of them do
pub tells_for : {none some : Type 0} (f : Fault) → (none → some) → TellsTermOfNone none f → TellsTermOfNone some f
tells_for (fault.Changed what.Words first second) up tells = (tells.0, tells.1, up tells.2)
tells_for f up tells = tells

-- a fact that needs no answer
pub on_ok_of : {T E : Type 0} (r : Result T E) (fact : Type 0) → fact → OnOk r fact
on_ok_of (Ok value) fact h = h
on_ok_of (Err e) fact h = tt
