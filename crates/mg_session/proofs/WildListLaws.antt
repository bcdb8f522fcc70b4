-- The documents that are marked while a cursor goes over the list of a term.
use Rattle.std.proofs.Common.{arith, ◌≡◌, ℕ, ◌+◌, ◌<◌, ◌≤◌, ◌==◌, ◌∙◌, Bool, true, false, List, [], ◌∷◌, ◌++◌, length, Some, Err, inl, inr, refl, sym, ap}
use Rattle.std.specs.Prelude.{◌||◌}
use Rattle.std.specs.List.{list_any}
use Rattle.std.proofs.lemmas.Bool.{cases_eq, cases_lt, eq-eqb, ne_eqb, or_right}
use Rattle.std.proofs.lemmas.List.Folds.{list_any-append}
use Rattle.mg_dev.specs.Files.{Reads}
use Rattle.mg_dev.specs.PartCauses.{HasPartCause}
use Rattle.mg_dev.specs.declared.part_err.PartErr.{PartErr}
use Rattle.mg_dev.specs.declared.part_err.PartErr.TheVariants.{Device, Memory, Bad}
use Rattle.mg_defs.specs.declared.Posting.{Posting}
use Rattle.mg_defs.specs.Split.{documents}
use Rattle.mg_defs.specs.Terms.{document}
use Rattle.mg_defs.specs.Weights.{has_term}
use Rattle.mg_defs.specs.Lists.{postings, from_doc}
use Rattle.mg_post.specs.Answers.{AnswersList}
use Rattle.mg_post.specs.Cursor.{head_of}
use Rattle.mg_post.proofs.CallerLemmas.{has_at}
use Rattle.mg_rank.specs.Ranked.{AnswersOr}
use Rattle.mg_session.specs.DocumentSets.{DocumentMarks, has_doc}
use Rattle.mg_session.specs.WildMarks.{AddsLists, ReadsPost}

-- ---- while a list is gone through

or_none : (b : Bool) → (b || false) ≡ b
or_none true = refl
or_none false = refl

or_then : (a b c : Bool) → ((a || b) || c) ≡ (a || (b || c))
or_then true b c = refl
or_then false b c = refl

-- those of its documents were marked that are no later than the last one
pub record Marking (collection t : List ℕ) (last : ℕ) (old new : DocumentMarks) : Type 0 where
  pub near : (doc : ℕ) → 1 ≤ doc → doc ≤ last → has_doc new doc ≡ (has_doc old doc || has_term (document collection doc) t)
  pub far : (doc : ℕ) → 1 ≤ doc → last < doc → has_doc new doc ≡ has_doc old doc

pub marking_start : (collection t : List ℕ) (marks : DocumentMarks) → Marking collection t 0 marks marks
marking_start collection t marks = record { near = λ doc some within. absurd (omega (arith, some, within)); far = λ doc some behind. refl }

pub marking_next : (collection t : List ℕ) (last : ℕ) (old mid new : DocumentMarks) (p : Posting) → Marking collection t last old mid →
    head_of (from_doc (last + 1) (postings collection t)) ≡ Some p → last < p.doc → p.doc ≤ length (documents collection) →
    ((other : ℕ) → 1 ≤ other → has_doc new other ≡ (other == p.doc || has_doc mid other)) → Marking collection t p.doc old new
marking_next collection t last old mid new p walk is low le marked = record {
  near = λ doc some high. elim (cases_eq doc p.doc) [
    | inl same ↦ (
        let hit : has_term (document collection doc) t ≡ true = has_at collection t last doc p is (omega (arith, same, low)) high (omega (arith, same, le)) ∙ eq-eqb p.doc doc (sym same) in
        marked doc some ∙ ap (λ b. b || has_doc mid doc) (eq-eqb doc p.doc same) ∙ sym (or_right (has_doc old doc) (has_term (document collection doc) t) hit))
    | inr other ↦ (
        let kept : has_doc new doc ≡ has_doc mid doc = marked doc some ∙ ap (λ b. b || has_doc mid doc) (ne_eqb doc p.doc other) in
        elim (cases_lt last doc) [
          | inl behind ↦ (
              let miss : has_term (document collection doc) t ≡ false = has_at collection t last doc p is behind high (omega (arith, high, le)) ∙ ne_eqb p.doc doc (λ e. other (sym e)) in
              kept ∙ walk.far doc some behind ∙ sym (ap (λ b. has_doc old doc || b) miss ∙ or_none (has_doc old doc)))
          | inr before ↦ kept ∙ walk.near doc some before
        ])
  ];
  far = λ doc some above. marked doc some ∙ ap (λ b. b || has_doc mid doc) (ne_eqb doc p.doc (λ e. omega (arith, e, above))) ∙ walk.far doc some (omega (arith, low, above));
}

one_list : (doc t : List ℕ) → list_any (has_term doc) (t ∷ []) ≡ has_term doc t
one_list doc t = or_none (has_term doc t)

-- where no document is left
pub marking_end : (collection t : List ℕ) (last : ℕ) (old new : DocumentMarks) → Marking collection t last old new →
    ((doc : ℕ) → last < doc → doc ≤ length (documents collection) → has_term (document collection doc) t ≡ false) → AddsLists collection (t ∷ []) old new
marking_end collection t last old new walk none = record {
  each = λ doc some le. elim (cases_lt last doc) [
    | inl behind ↦ walk.far doc some behind ∙ sym (ap (λ b. has_doc old doc || b) (one_list (document collection doc) t ∙ none doc behind le) ∙ or_none (has_doc old doc))
    | inr before ↦ walk.near doc some before ∙ ap (λ b. has_doc old doc || b) (sym (one_list (document collection doc) t))
  ];
}

-- ---- one list after another

pub adds_none : (collection : List ℕ) (marks : DocumentMarks) → AddsLists collection [] marks marks
adds_none collection marks = record { each = λ doc some le. sym (or_none (has_doc marks doc)) }

pub adds_more : (collection : List ℕ) (ts us : List (List ℕ)) (old mid new : DocumentMarks) → AddsLists collection ts old mid →
    AddsLists collection us mid new → AddsLists collection (ts ++ us) old new
adds_more collection ts us old mid new first then = record {
  each = λ doc some le.
      then.each doc some le
      ∙ ap (λ b. b || list_any (has_term (document collection doc)) us) (first.each doc some le)
      ∙ or_then (has_doc old doc) (list_any (has_term (document collection doc)) ts) (list_any (has_term (document collection doc)) us)
      ∙ ap (λ b. has_doc old doc || b) (sym (list_any-append (has_term (document collection doc)) ts us));
}

-- ---- refusals

pub or_list : {A B : Type 0} (e : PartErr) (f : A → Type 0) (h : B → Type 0) → AnswersList {T = A} (Err e) f → AnswersOr {T = B} (Err e) h
or_list Device f h got = tt
or_list Memory f h got = tt
or_list (Bad bad) f h got = absurd got

pub or_or : {A B : Type 0} (e : PartErr) (f : A → Type 0) (h : B → Type 0) → AnswersOr {T = A} (Err e) f → AnswersOr {T = B} (Err e) h
or_or Device f h got = tt
or_or Memory f h got = tt
or_or (Bad bad) f h got = absurd got

-- ---- the reads and the refusals of one list after another

pub post_same : (reads : Reads) → ReadsPost reads reads
post_same reads = record { later = λ p. omega arith; others = λ p other. refl }

pub post_then : {before between now : Reads} → ReadsPost before between → ReadsPost between now → ReadsPost before now
post_then one two = record {
  later = λ p. omega (arith, one.later p, two.later p);
  others = λ p other. two.others p other ∙ one.others p other;
}

-- a refusal that has its cause behind other calls
pub caused_then : {T V : Type 0} {s t u : ℕ} (refusal : PartErr) → s ≤ t → HasPartCause {T = V} t u (Err refusal) → HasPartCause {T = T} s u (Err refusal)
caused_then Device later cause = record { later = omega (arith, later, cause.later); device = omega (arith, later, cause.device) }
caused_then Memory later cause = record { later = omega (arith, later, cause.later); device = tt }
caused_then (Bad bad) later cause = record { later = omega (arith, later, cause.later); device = tt }
