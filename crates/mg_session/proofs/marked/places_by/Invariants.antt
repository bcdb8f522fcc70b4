use Rattle.std.proofs.Common.{◌≡◌, ◌≤◌, List, ℕ, drop}
use Rattle.mg_defs.specs.Phrases.{phrase_places}
use Rattle.mg_phrase.specs.Marks.{MarksFit, places_with}
use Rattle.mg_text.specs.Listing.{AreWordsOf}
use Rattle.mg_session.specs.DocStands.{places_in_words}
use Rattle.mg_session.specs.PhraseMarks.{AreWords}
use Rattle.mg_session.proofs.PhraseTextsLaws.{words_at}
use Rattle.mg_session.proofs.marked.places_by.Given as goal

abbrev pub invariant-loop-symbol : goal.invariant-loop-symbol
invariant-loop-symbol l = record {
  counted : l.count.phrase ≡ l.fn.marks.phrase;
  phrase : l.marks.phrase ≡ l.fn.marks.phrase;
  fit : MarksFit l.model.words.pieces l.marks;
  few : l.count.places ≤ l.symbol-index;
  counts : (words : List (List ℕ)) → AreWords l.model l.symbols words →
      places_with l.count (words_at l.model (drop l.symbol-index l.symbols)) ≡ places_in_words l.fn.marks.phrase words;
  is : (doc : List ℕ) → AreWordsOf l.model l.symbols doc → places_with l.count (words_at l.model (drop l.symbol-index l.symbols)) ≡ phrase_places l.fn.marks.phrase doc;
}
