-- What a second pass hands on is what lists, lexicon and weights are written from.
use Rattle.std.proofs.Common.{arith, ◌≡◌, ◌≤◌, ◌<◌, ◌+◌, ◌^◌, ℕ, zero, List, length, ap, subst, ◌∙◌, IsSome}
use Rattle.std.specs.declared.option.Option.{Option}
use Rattle.mg_dev.specs.Files.{Files}
use Rattle.mg_defs.specs.DocCounts.{NeverFall, last_with}
use Rattle.mg_defs.specs.Marks.{Mark, marks, starts, terms_from}
use Rattle.mg_defs.specs.Occurrences.{occurrences}
use Rattle.mg_defs.specs.Postings.{term_postings}
use Rattle.mg_defs.specs.Terms.{dictionary}
use Rattle.mg_runs.specs.Left.{IsMerging}
use Rattle.mg_count.specs.DocCounting.{AreDocCounts}
use Rattle.mg_make.specs.Finishing.{EndsWith}
use Rattle.mg_make.specs.Index.{IsInverted}
use Rattle.mg_index.specs.Listing.{AreListSizes}
use Rattle.mg_count.specs.Plans.{IsPlanOf}
use Rattle.mg_make.specs.Second.{HasWritten, Inversion, occurring_by}
use Rattle.mg_make.specs.declared.inverter.Inverted.{Inverted}
use Rattle.mg_make.proofs.CountSizes.{sizes_of_counts}

-- over any store the lengths of lists are within what the writers take
pub sizes_of_pass :
    ((term doc : ℕ) (fed : List (ℕ × ℕ)) → NeverFall 0 fed doc → last_with term 0 fed ≤ doc) →
    ((terms : List (List ℕ)) (doc : ℕ) (met : List Mark) → NeverFall doc (terms_from terms doc met) (doc + starts met)) →
    (s : Inversion) (files files_now : Option Files) (met : List Mark) (r : Inverted) → HasWritten s files met → EndsWith s met files files_now r →
    AreListSizes r.counts.docs (length s.plan.terms.terms) (length s.plan.pairs)
sizes_of_pass low order s files files_now met r written ends =
    let up_to : zero + starts met ≡ length s.plan.pairs = omega (arith, ends.documents) in
    sizes_of_counts low r.counts (length s.plan.terms.terms) (length s.plan.pairs) (occurring_by s.plan met) ends.counts
    (subst (NeverFall 0 (occurring_by s.plan met)) up_to (order s.plan.terms.terms 0 met)) written.index.runs.few written.planned.pairs

-- where the store tells its files and the plan is the collection's, the lists of the collection are left
pub inverted_by_pass :
    ((collection : List ℕ) → terms_from (dictionary collection) 0 (marks collection) ≡ occurrences collection) →
    (s : Inversion) (files files_now : Option Files) (collection : List ℕ) (r : Inverted) → IsSome files_now → IsPlanOf s.plan collection → length collection < 2 ^ 32 →
    EndsWith s (marks collection) files files_now r → IsInverted s.plan r.counts collection r.merge files_now
inverted_by_pass all s files files_now collection r told plan few ends =
    let fed : occurring_by s.plan (marks collection) ≡ occurrences collection = ap (λ ts. terms_from ts 0 (marks collection)) plan.terms ∙ all collection in
    record {
      told = told;
      plan_is = plan;
      few = few;
      counts_are = subst (λ xs. AreDocCounts r.counts (length s.plan.terms.terms) xs) fed ends.counts;
      merging = subst (λ xs. IsMerging r.merge files_now (term_postings xs)) fed ends.merge;
    }
