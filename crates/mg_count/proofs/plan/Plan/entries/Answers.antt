use Rattle.std.proofs.Common.{arith, ◌∙◌, ap, length}
use Rattle.mg_count.specs.Plans.{Plan}
use Rattle.mg_count.proofs.plan.Plan.entries.Goals as goal

pub returns : goal.returns
returns c = record {
  documents = omega (arith, c.len.ensures, ap (λ (p : Plan). length p.pairs) c.self.view_is);
  words = c.count.ensures.count ∙ ap length c.canon.ensures.lengths ∙ ap (λ (p : Plan). length p.code.words.lengths) c.self.view_is ∙ c.requires.plan.model.words.each;
  others = c.count-2.ensures.count ∙ ap length c.canon-2.ensures.lengths ∙ ap (λ (p : Plan). length p.code.others.lengths) c.self.view_is ∙ c.requires.plan.model.others.each;
  terms = c.count-3.ensures.count ∙ ap (λ (p : Plan). length p.terms.terms) c.self.view_is;
  few_words = omega (arith, c.count.ensures.count, c.count.ensures.most);
  few_others = omega (arith, c.count-2.ensures.count, c.count-2.ensures.most);
}
