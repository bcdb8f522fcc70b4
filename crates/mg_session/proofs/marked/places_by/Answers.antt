use Rattle.std.proofs.Common.{arith, ℕ, List, refl, ap, ◌∙◌}
use Rattle.mg_defs.specs.Phrases.{phrase_places}
use Rattle.mg_session.proofs.PhraseTextsLaws.{all_taken, none_counted, none_taken}
use Rattle.mg_session.proofs.marked.places_by.Goals as goal

pub loop-symbol-init : goal.loop-symbol-init
loop-symbol-init c = record {
  counted = c.new-count.ensures.phrase ∙ c.phrase.ensures.phrase;
  phrase = refl;
  fit = c.requires.fit;
  few = omega (arith, c.new-count.ensures.none);
  counts = λ words are. none_counted c.args.model.now c.args.symbols.now words c.new-count.result c.args.marks.now.phrase (c.new-count.ensures.phrase ∙ c.phrase.ensures.phrase)
      c.new-count.ensures.none c.new-count.ensures.begun are;
  is = λ doc are. none_taken c.args.model.now c.args.symbols.now doc c.new-count.result c.args.marks.now.phrase
      (λ d. c.new-count.ensures.count d ∙ ap (λ (p : List (List ℕ)). phrase_places p d) c.phrase.ensures.phrase) are;
}

pub returns-clause-places : goal.returns-clause-places
returns-clause-places c = λ doc are.
    c.places.ensures.all ∙ all_taken c.args.model.now c.args.symbols.now c.loop-symbol.symbol-index c.loop-symbol.count _
    (omega (arith, c.loop-symbol-test.false, c.loop-symbol.auto.symbol-index-end)) (c.loop-symbol.invariant.is doc are)

pub returns-clause-counted : goal.returns-clause-counted
returns-clause-counted c = λ words are.
    c.places.ensures.all ∙ all_taken c.args.model.now c.args.symbols.now c.loop-symbol.symbol-index c.loop-symbol.count _
    (omega (arith, c.loop-symbol-test.false, c.loop-symbol.auto.symbol-index-end)) (c.loop-symbol.invariant.counts words are)
