use Rattle.std.proofs.Common.{length, ap, ◌∙◌, subst, arith}
use Rattle.std.specs.List.Sorted.{IsPermutation}
use Rattle.std.proofs.lemmas.List.Sorted.{IsPermutation-map, length_permutation}
use Rattle.mg_defs.proofs.ListLaws.{terms_short}
use Rattle.mg_defs.specs.Terms.{folded}
use Rattle.mg_plain.specs.EqualTerms.{terms_of, squares}
use Rattle.mg_plain.proofs.EqualTermLaws.{squares-weigh}
use Rattle.mg_plain.proofs.WordLaws.{length-terms_of}
use Rattle.mg_plain.proofs.weigh.document_weight.Goals as goal

pub sum_of_squares-requires : goal.sum_of_squares-requires
sum_of_squares-requires c =
    let words = c.collect_words.new.words.items in
    omega (
      arith,
      ap length c.deref.ensures.value,
      length_permutation _ _ c.sort_words.ensures.same,
      length-terms_of words,
      ap length c.in_ok-collect_words.ensures,
      terms_short c.args.doc.now,
      c.requires,
    )

pub returns : goal.returns
returns c =
    let same = subst (λ ts. IsPermutation ts (terms_of c.sort_words.new.words.items)) c.in_ok-collect_words.ensures (IsPermutation-map (λ w. folded w.now) _ _ c.sort_words.ensures.same) in
    squares-weigh c.args.doc.now _ _ _ same c.sort_words.ensures.sorted (c.sum_of_squares.ensures ∙ ap (λ ws. squares 0 (terms_of ws)) c.deref.ensures.value) c.isqrt.ensures.is
