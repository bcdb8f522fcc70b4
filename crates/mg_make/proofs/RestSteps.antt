-- The parts behind the second pass, and the head that belongs to the set.
use Rattle.std.proofs.Common.{arith, ◌≡◌, ◌≤◌, ◌^◌, ◌∙◌, ℕ, Bool, List, inl, inr, length, sym, ap, subst, IsSome}
use Rattle.std.specs.Prelude.{sum}
use Rattle.std.specs.declared.option.Option.{Option}
use Rattle.mg_dev.specs.declared.fault.Fault.{Fault}
use Rattle.mg_dev.specs.declared.fault.Fault.TheVariants.{Changed}
use Rattle.mg_dev.specs.declared.what.What.TheVariants as what
use Rattle.mg_dev.specs.Files.{Files}
use Rattle.mg_defs.specs.CodedText.{TextCode, text_part}
use Rattle.mg_defs.specs.Heads.{Head, run_count}
use Rattle.mg_defs.specs.Marks.{marks}
use Rattle.mg_defs.specs.Occurrences.{occurrences}
use Rattle.mg_defs.specs.Terms.{dictionary}
use Rattle.mg_defs.specs.Summaries.{pool_peak, run_cap}
use Rattle.mg_defs.proofs.TermLaws.{distinct-terms_short}
use Rattle.mg_laws.proofs.DocCountLaws.{last_is_low, met_in_order}
use Rattle.mg_laws.proofs.MarkLaws.{marks_have_occurrences}
use Rattle.mg_laws.proofs.SizeLaws.{few_occurrences}
use Rattle.mg_model.specs.Terms.{TermNumbers}
use Rattle.mg_text_writer.specs.Documents.{coded_docs}
use Rattle.mg_text_writer.specs.Writing.{text_bytes}
use Rattle.mg_make.specs.Changes.{LostTerm, TellsAtEnd}
use Rattle.mg_make.specs.Finishing.{budget_of}
use Rattle.mg_make.specs.Index.{IsInverted}
use Rattle.mg_index.specs.Listing.{AreListSizes, HasTermOfNone, ListStops, TellsTermOfNone}
use Rattle.mg_count.specs.Plans.{IsPlan, IsPlanOf, Plan}
use Rattle.mg_make.specs.Putting.{IsHanded}
use Rattle.mg_make.specs.Second.{coded_by, occurring_by}
use Rattle.mg_make.specs.declared.inverter.Inverted.{Inverted}
use Rattle.mg_make.proofs.CountSizes.{together}
use Rattle.mg_make.proofs.Finishing.{planned_occurrences, planned_text}
use Rattle.mg_make.proofs.LostTerms.{term_is_lost}
use Rattle.mg_make.proofs.MarkFronts.{same_number}
use Rattle.mg_make.proofs.Handing.{inverted_by_pass, sizes_of_pass}
use Rattle.mg_index.proofs.CallerLemmas.{stops_for}

module _ (plan : Plan) (limit : ℕ) (base fed : List ℕ) (before now : Option Files) (r : Inverted) (handed : IsHanded plan limit base fed before now r) where
  -- over any store the lengths of lists are within what the writers take
  pub handed_sizes : AreListSizes r.counts.docs (length plan.terms.terms) (length plan.pairs)
  handed_sizes = subst (λ (p : Plan). AreListSizes r.counts.docs (length p.terms.terms) (length p.pairs)) handed.plan_is
      (sizes_of_pass last_is_low met_in_order handed.pass handed.middle now (marks fed) r handed.written handed.ends)

  -- where the store tells its files and the plan is that of the bytes, their lists are left
  pub handed_lists : IsSome now → IsPlanOf plan fed → IsInverted plan r.counts fed r.merge now
  handed_lists told plan_of = subst (λ p. IsInverted p r.counts fed r.merge now) handed.plan_is
      (inverted_by_pass marks_have_occurrences handed.pass handed.middle now fed r told (subst (λ p. IsPlanOf p fed) (sym handed.plan_is) plan_of) handed.few handed.ends)

  -- and why they are not written
  pub rest_stops : (rose : Type 0) (fault : Fault) → ((collection : List ℕ) → ListStops rose (IsInverted plan r.counts collection r.merge now) fault) →
      ListStops rose (IsSome now × IsPlanOf plan fed) fault
  rest_stops rose fault stop = stops_for fault (λ r. r) (λ both. handed_lists both.0 both.1) (stop fed)

  -- and what a change tells
  handed_lost : {first second : ℕ} → first ≡ 1 → second ≡ 0 → HasTermOfNone r.counts.docs → LostTerm plan fed first second
  handed_lost {first} {second} one none lacks = subst (λ (p : Plan). LostTerm p fed first second) handed.plan_is
      (term_is_lost handed.pass.plan r.counts fed handed.written.planned handed.ends.counts one none lacks)

  pub rest_tells : (fault : Fault) → TellsTermOfNone (HasTermOfNone r.counts.docs) fault → TellsAtEnd plan fed fault
  rest_tells (Changed what.Words first second) tells = inr (handed_lost tells.0 tells.1 tells.2)
  rest_tells (Changed kind first second) tells = absurd tells
  rest_tells fault tells = inl tt

  -- the numbers of occurrences and runs, and the greatest use of the pool
  pub handed_count : r.occurrences ≡ length (occurring_by plan (marks fed))
  handed_count = handed.ends.occurrences ∙ ap (λ (p : Plan). length (occurring_by p (marks fed))) handed.plan_is

  pub handed_runs : r.merge.runs ≡ run_count r.occurrences (run_cap limit)
  handed_runs = handed.ends.runs ∙ ap (λ n. run_count n (run_cap (budget_of handed.pass))) (sym handed.ends.occurrences) ∙ ap (λ n. run_count r.occurrences (run_cap n)) handed.limit_is

  pub handed_peak : IsPlanOf plan fed → r.merge.peak ≡ pool_peak (length (occurrences fed)) limit
  handed_peak plan_of = handed.ends.peak ∙ ap (λ n. pool_peak (length (occurring_by handed.pass.plan (marks fed))) n) handed.limit_is
      ∙ ap (λ (p : Plan). pool_peak (length (occurring_by p (marks fed))) limit) handed.plan_is ∙ ap (λ os. pool_peak (length os) limit) (planned_occurrences plan fed plan_of)

  pub handed_text : ((code : TextCode) (collection : List ℕ) → text_bytes (coded_docs code collection) ≡ text_part code collection) → IsPlanOf plan fed →
      r.text_bytes ≡ length (text_part plan.code fed)
  handed_text law plan_of = handed.ends.size ∙ ap (λ (p : Plan). length (text_bytes (coded_by p (marks fed)))) handed.plan_is
      ∙ ap (λ docs. length (text_bytes docs)) (planned_text plan fed plan_of) ∙ ap length (law plan.code fed)

  pub handed_docs : sum r.counts.docs ≤ r.occurrences
  handed_docs = omega (arith, together r.counts (length handed.pass.plan.terms.terms) (occurring_by handed.pass.plan (marks fed)) handed.ends.counts, handed.ends.occurrences)

  pub handed_low : 4096 ≤ limit
  handed_low = subst (λ n. 4096 ≤ n) handed.limit_is handed.written.index.runs.least

  pub handed_high : limit ≤ 2 ^ 30
  handed_high = subst (λ n. n ≤ 2 ^ 30) handed.limit_is handed.written.index.runs.most

-- there are no more terms than words
pub few_terms_of : (plan : Plan) → IsPlan plan → length plan.terms.terms ≤ length plan.code.words.pieces
few_terms_of plan is = subst (λ (t : TermNumbers). length t.terms ≤ length plan.code.words.pieces) (sym is.terms) (distinct-terms_short plan.code.words.pieces)

-- and no more occurrences than bytes
pub few_occurring : (plan : Plan) (fed : List ℕ) → length (occurring_by plan (marks fed)) ≤ length fed
few_occurring plan fed = omega (arith, same_number plan.terms.terms (dictionary fed) 0 0 (marks fed), ap length (marks_have_occurrences fed), few_occurrences fed)

-- heads of the same numbers are the same
abbrev made_of : ℕ → ℕ → ℕ → ℕ → ℕ → ℕ → Bool → ℕ → ℕ → ℕ → ℕ → ℕ → ℕ → Head
made_of v d w o t c e b n r x p k = record {
  version = v;
  documents = d;
  words = w;
  others = o;
  terms = t;
  cap = c;
  open_end = e;
  collection = b;
  occurrences = n;
  runs = r;
  text_bytes = x;
  post_bytes = p;
  skip_count = k;
}

pub same_heads : (a b : Head) → a.version ≡ b.version → a.documents ≡ b.documents → a.words ≡ b.words → a.others ≡ b.others → a.terms ≡ b.terms →
    a.cap ≡ b.cap → a.open_end ≡ b.open_end → a.collection ≡ b.collection → a.occurrences ≡ b.occurrences → a.runs ≡ b.runs → a.text_bytes ≡ b.text_bytes →
    a.post_bytes ≡ b.post_bytes → a.skip_count ≡ b.skip_count → a ≡ b
same_heads a b e0 e1 e2 e3 e4 e5 e6 e7 e8 e9 e10 e11 e12 =
    ap (λ x. made_of x a.documents a.words a.others a.terms a.cap a.open_end a.collection a.occurrences a.runs a.text_bytes a.post_bytes a.skip_count) e0
    ∙ ap (λ x. made_of b.version x a.words a.others a.terms a.cap a.open_end a.collection a.occurrences a.runs a.text_bytes a.post_bytes a.skip_count) e1
    ∙ ap (λ x. made_of b.version b.documents x a.others a.terms a.cap a.open_end a.collection a.occurrences a.runs a.text_bytes a.post_bytes a.skip_count) e2
    ∙ ap (λ x. made_of b.version b.documents b.words x a.terms a.cap a.open_end a.collection a.occurrences a.runs a.text_bytes a.post_bytes a.skip_count) e3
    ∙ ap (λ x. made_of b.version b.documents b.words b.others x a.cap a.open_end a.collection a.occurrences a.runs a.text_bytes a.post_bytes a.skip_count) e4
    ∙ ap (λ x. made_of b.version b.documents b.words b.others b.terms x a.open_end a.collection a.occurrences a.runs a.text_bytes a.post_bytes a.skip_count) e5
    ∙ ap (λ x. made_of b.version b.documents b.words b.others b.terms b.cap x a.collection a.occurrences a.runs a.text_bytes a.post_bytes a.skip_count) e6
    ∙ ap (λ x. made_of b.version b.documents b.words b.others b.terms b.cap b.open_end x a.occurrences a.runs a.text_bytes a.post_bytes a.skip_count) e7
    ∙ ap (λ x. made_of b.version b.documents b.words b.others b.terms b.cap b.open_end b.collection x a.runs a.text_bytes a.post_bytes a.skip_count) e8
    ∙ ap (λ x. made_of b.version b.documents b.words b.others b.terms b.cap b.open_end b.collection b.occurrences x a.text_bytes a.post_bytes a.skip_count) e9
    ∙ ap (λ x. made_of b.version b.documents b.words b.others b.terms b.cap b.open_end b.collection b.occurrences b.runs x a.post_bytes a.skip_count) e10
    ∙ ap (λ x. made_of b.version b.documents b.words b.others b.terms b.cap b.open_end b.collection b.occurrences b.runs b.text_bytes x a.skip_count) e11
    ∙ ap (λ x. made_of b.version b.documents b.words b.others b.terms b.cap b.open_end b.collection b.occurrences b.runs b.text_bytes b.post_bytes x) e12
