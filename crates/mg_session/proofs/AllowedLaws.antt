-- Pages that are read within what is allowed.
use Rattle.std.proofs.Common.{arith, ◌≡◌, ◌+◌, ◌*◌, ◌≤◌, ℕ, zero, suc, List, [], ◌∷◌, ◌++◌, ◌∙◌, length, sum_by, refl, sym, ap, subst, None, Some}
use Rattle.std.specs.declared.option.Option.{Option}
use Rattle.std.proofs.lemmas.List.Sums.{sum_by-append, sum_by-cons}
use Rattle.std.proofs.lemmas.Nat.{mul-le}
use Rattle.mg_dev.specs.Files.{Reads}
use Rattle.mg_dev.specs.declared.part.Part.TheVariants as part
use Rattle.mg_defs.specs.Lists.{block_count, first_entry, postings}
use Rattle.mg_defs.specs.Lexicon as defs
use Rattle.mg_defs.specs.Session.{Question, questions_of}
use Rattle.mg_defs.specs.Split.{documents}
use Rattle.mg_defs.specs.Terms.{term_number}
use Rattle.mg_defs.specs.declared.session.Settings.{Settings}
use Rattle.mg_laws.proofs.LedLists.{length_postings}
use Rattle.mg_laws.proofs.MetBlocks.{number_is}
use Rattle.mg_bool.specs.Places.{AreInfos, term_entries}
use Rattle.mg_layout.specs.Infos.{IsInfoOf}
use Rattle.mg_layout.specs.declared.term_info.TermInfo.{TermInfo}
use Rattle.mg_post.specs.Finding.{entries_pages}
use Rattle.mg_post.specs.PagesOnce.{span_pages}
use Rattle.mg_rank.specs.Ranked.{list_entries}
use Rattle.mg_rank.specs.WeightReads.{weight_pages}
use Rattle.mg_session.specs.Answering.{known_infos, known_terms}
use Rattle.mg_session.specs.PagesAllowed.{PartPages, ReadsAllowed, for_rows, line_allows, lines_allow, ranked_allows, rows_asked, session_allows}
use Rattle.mg_session.proofs.KnownLaws.{infos_more, known_sum}

-- ---- one call after another

-- no page of the three parts is read
pub record KeepsParts (before now : Reads) : Type 0 where
  pub post : now part.Post ≡ before part.Post
  pub skip : now part.Skip ≡ before part.Skip
  pub weights : now part.Weights ≡ before part.Weights

pub allowed_none : (most : PartPages) (r : Reads) → ReadsAllowed most r r
allowed_none most r = record { post = omega arith; skip = omega arith; weights = omega arith }

pub allowed_kept : (most : PartPages) {r s : Reads} → KeepsParts r s → ReadsAllowed most r s
allowed_kept most kept = record { post = omega (arith, kept.post); skip = omega (arith, kept.skip); weights = omega (arith, kept.weights) }

pub allowed_behind : {most : PartPages} {r s t : Reads} → KeepsParts r s → ReadsAllowed most s t → ReadsAllowed most r t
allowed_behind kept a = record {
  post = omega (arith, kept.post, a.post);
  skip = omega (arith, kept.skip, a.skip);
  weights = omega (arith, kept.weights, a.weights);
}

pub allowed_then : {most : PartPages} {r s t : Reads} → ReadsAllowed most r s → KeepsParts s t → ReadsAllowed most r t
allowed_then a kept = record {
  post = omega (arith, kept.post, a.post);
  skip = omega (arith, kept.skip, a.skip);
  weights = omega (arith, kept.weights, a.weights);
}

-- ---- the first of the query lines of an input

pub first_allowed : (collection given : List ℕ) (answered : List Question) {r s : Reads} →
    (more : List Question) × (questions_of given ≡ answered ++ more) → ReadsAllowed (lines_allow collection answered) r s →
    ReadsAllowed (session_allows collection given) r s
unfolding session_allows
first_allowed collection given answered first a =
    let post = λ (q : Question). (line_allows collection q).post in
    let skip = λ (q : Question). (line_allows collection q).skip in
    let weights = λ (q : Question). (line_allows collection q).weights in
    record {
      post = omega (arith, a.post, ap (sum_by post) first.1, sum_by-append post answered first.0);
      skip = omega (arith, a.skip, ap (sum_by skip) first.1, sum_by-append skip answered first.0);
      weights = omega (arith, a.weights, ap (sum_by weights) first.1, sum_by-append weights answered first.0);
    }

-- ---- a ranked line

-- the entries of which the lexicon tells are those of the term's list
info_entries : (collection t : List ℕ) (info : TermInfo) → IsInfoOf collection t info → list_entries info ≡ term_entries collection t
unfolding term_entries
info_entries collection t info told =
    let docs : info.docs ≡ length (postings collection t) = ap (λ (i : defs.TermInfo). i.docs) told.is ∙ sym (length_postings collection t) in
    let first : info.skip_at ≡ first_entry collection (term_number collection t) =
    ap (λ (i : defs.TermInfo). i.skip_at) told.is ∙ ap (first_entry collection) (sym (number_is collection info.number t told.number)) in
    ap (λ x. entries_pages x (block_count info.docs)) first ∙ ap (λ d. entries_pages (first_entry collection (term_number collection t)) (block_count d)) docs

known_entries : (collection : List ℕ) (ts : List (List ℕ)) (infos : List (Option TermInfo)) → AreInfos collection ts infos →
    sum_by list_entries (known_infos infos) ≤ sum_by (term_entries collection) ts
known_entries collection [] [] are = omega arith
known_entries collection [] (o ∷ infos) are = absurd (omega (arith, are.size))
known_entries collection (t ∷ ts) [] are = absurd (omega (arith, are.size))
known_entries collection (t ∷ ts) (None ∷ infos) are =
    omega (arith, sum_by-cons (term_entries collection) t ts, known_entries collection ts infos (infos_more collection t ts None infos are).1)
known_entries collection (t ∷ ts) (Some info ∷ infos) are =
    let parts = infos_more collection t ts (Some info) infos are in
    omega (
      arith,
      sum_by-cons (term_entries collection) t ts,
      sum_by-cons list_entries info (known_infos infos),
      info_entries collection t info parts.0,
      known_entries collection ts infos parts.1,
    )

weights_for : (rows known count pages before now : ℕ) → known ≤ count → now ≤ before + known * pages → (rows ≡ 0 → now ≡ before) → now ≤ before + for_rows rows (count * pages)
weights_for zero known count pages before now few most none = omega (arith, none refl)
weights_for (suc rows) known count pages before now few most none = omega (arith, most, mul-le known pages count pages few (omega arith))

-- what the ranking of the terms that are known reads
pub ranked_read : {collection : List ℕ} (now : Settings) (ts : List (List ℕ)) (infos : List (Option TermInfo)) (known : List TermInfo) {all most : ℕ} {r s : Reads} →
    AreInfos collection ts infos → known ≡ known_infos infos → length known ≤ length infos → all ≡ length (documents collection) → most ≡ rows_asked now all →
    s part.Post ≤ r part.Post + sum_by (span_pages collection) (known_terms ts infos) → s part.Skip ≤ r part.Skip + sum_by list_entries known →
    s part.Weights ≤ r part.Weights + length known * weight_pages all → (most ≡ 0 → s part.Weights ≡ r part.Weights) →
    ReadsAllowed (ranked_allows collection now ts) r s
ranked_read {collection} now ts infos known {all} {most} {r} {s} are is few all_is most_is post skip weights none = record {
  post = omega (arith, post, known_sum (span_pages collection) ts infos are.size);
  skip = omega (arith, skip, ap (sum_by list_entries) is, known_entries collection ts infos are);
  weights = subst (λ n. s part.Weights ≤ r part.Weights + for_rows (rows_asked now n) (length ts * weight_pages n)) all_is
      (weights_for (rows_asked now all) (length known) (length ts) (weight_pages all) (r part.Weights) (s part.Weights) (omega (arith, few, are.size)) weights
      (λ zero_is. none (most_is ∙ zero_is)));
}
