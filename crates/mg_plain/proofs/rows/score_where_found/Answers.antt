use Rattle.std.proofs.Common.{◌≡◌, true, sym, ◌∙◌}
use Rattle.std.specs.List.{list_any}
use Rattle.mg_defs.specs.Weights.{has_term}
use Rattle.mg_plain.proofs.RankingUnderWayLaws.{some-is, weighs}
use Rattle.mg_plain.proofs.rows.score_where_found.Goals as goal

pub returns-then-not-has_some-clause-score : goal.returns-then-not-has_some-clause-score
returns-then-not-has_some-clause-score c = sym (some-is _ _ _ c.count_terms.ensures) ∙ sym c.has_some.ensures ∙ c.if-not-has_some.true

pub document_score-requires-clause-some : goal.document_score-requires-clause-some
document_score-requires-clause-some c =
    let some : list_any (has_term c.args.doc.now) c.args.terms.now ≡ true = sym (some-is _ _ _ c.count_terms.ensures) ∙ sym c.has_some.ensures ∙ c.if-not-has_some.false in
    weighs _ c.args.terms.now c.requires.small some

pub returns-clause-score : goal.returns-clause-score
returns-clause-score c = (
  sym (some-is _ _ _ c.count_terms.ensures) ∙ sym c.has_some.ensures ∙ c.if-not-has_some.false,
  λ collection weighed. c.in_ok-score.ensures collection c.args.terms.now c.count_terms.ensures weighed,
)
