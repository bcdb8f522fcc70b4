use Rattle.std.proofs.Common.{◌≡◌, ℕ, Bool, List, length, arith, sym, ◌∙◌, subst}
use Rattle.mg_defs.specs.Terms.{freq_in}
use Rattle.mg_defs.specs.QueryTerms.{query_terms}
use Rattle.mg_query.specs.Holds.{AreThere}
use Rattle.mg_query.specs.QueryOf.{query_of}
use Rattle.mg_plain.specs.Counts.{AreCounts}
use Rattle.mg_plain.proofs.CountLaws.{counted_there}
use Rattle.mg_plain.proofs.LoadLaws.{vec_front}
use Rattle.mg_plain.proofs.boolean.is_satisfied.Goals as goal

pub returns-clause-value : goal.returns-clause-value
returns-clause-value c =
    let ts = query_terms (query_of c.args.query.now) in
    let counted : AreCounts (freq_in c.args.doc.now) ts c.count_terms.new.counts = subst (λ (us : List (List ℕ)).
    AreCounts (freq_in c.args.doc.now) us c.count_terms.new.counts) (c.as_slice.ensures ∙ c.requires.terms) c.count_terms.ensures in
    let size : c.args.counted.now.counts.len ≡ length c.count_terms.new.counts = omega (arith, counted.size, c.requires.counts) in
    let counts_are : c.deref.result.now ≡ c.count_terms.new.counts = c.deref.ensures.value ∙ vec_front _ _ _ size in
    let marked = subst (λ (xs : List ℕ). AreCounts (freq_in c.args.doc.now) ts xs) (sym counts_are) counted in
    let there : AreThere c.args.doc.now ts c.mark_counted.new.there = counted_there c.args.doc.now ts c.deref.result.now c.mark_counted.new.there marked
    c.mark_counted.ensures.size c.mark_counted.ensures.each in
    let size_there : c.args.counted.now.there.len ≡ length c.mark_counted.new.there = omega (arith, there.size, c.requires.there) in
    let there_is : c.deref-2.result.now ≡ c.mark_counted.new.there = c.deref-2.ensures.value ∙ vec_front _ _ _ size_there in
    c.holds.ensures.satisfied c.args.doc.now (subst (λ (xs : List Bool). AreThere c.args.doc.now ts xs) (sym there_is) there)
