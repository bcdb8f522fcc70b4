use Rattle.std.proofs.Common.{arith, ◌∙◌, List, [], ℕ, map, get_or, refl, sym, ap, subst}
use Rattle.mg_dev.proofs.CallerLemmas.{cause_err, cause_ok}
use Rattle.mg_defs.specs.CodedText.{TextCode}
use Rattle.mg_defs.specs.Terms.{document}
use Rattle.mg_phrase.specs.Marks.{MarksFit}
use Rattle.mg_defs.specs.Parse.{Pair}
use Rattle.mg_text.specs.Listing.{AreOfWords, AreWordsOf}
use Rattle.mg_text.proofs.CallerLemmas.{words_of_symbols}
use Rattle.mg_session.specs.PhraseMarks.{AreWords}
use Rattle.mg_session.proofs.word_texts.seek.Goals as goal

pub places_by-requires-clause-of_words : goal.places_by-requires-clause-of_words
places_by-requires-clause-of_words g c =
    subst (λ (k : TextCode). AreOfWords k c.symbols.result.now) (sym (c.model.ensures ∙ c.in-Ok.ensures.same.code))
    (subst (AreOfWords c.args.reader.now.code) (sym c.symbols.ensures) c.in-Ok.ensures.of_words)

pub places_by-requires-clause-fit : goal.places_by-requires-clause-fit
places_by-requires-clause-fit g c =
    subst (λ (k : TextCode). MarksFit k.words.pieces c.args.marks.now) (sym (c.model.ensures ∙ c.in-Ok.ensures.same.code)) c.requires.fit

pub returns-in-Ok : goal.returns-in-Ok
returns-in-Ok g c =
    let e = c.in-Ok.ensures in
    let code = c.model.ensures ∙ e.same.code in
    record {
      fits = e.fits;
      same = e.same;
      looked = e.looked;
      content = λ collection has. c.places_by.ensures.places (document collection c.args.number)
          (subst (λ (k : TextCode). AreWordsOf k c.symbols.result.now (document collection c.args.number)) (sym code)
          (subst (λ (s : List ℕ). AreWordsOf c.args.reader.now.code s (document collection c.args.number)) (sym c.symbols.ensures) (e.content collection has)));
      stood = λ known.
          let is = e.stood known in
          let words : List (List ℕ) = map (λ (p : Pair). p.word) is.pairs in
          let are : AreWords c.args.reader.now.code c.symbols.result.now words =
          ap (map (λ (s : ℕ). get_or c.args.reader.now.code.words.pieces s [])) (c.symbols.ensures ∙ is.symbols_are) ∙ words_of_symbols c.args.reader.now.code is.pairs is.told.there in
          (is.pairs, is.told, c.places_by.ensures.counted words (subst (λ (k : TextCode). AreWords k c.symbols.result.now words) (sym code) are));
      never_bad = λ collection has. tt;
      pages = e.pages;
      cause = cause_ok e.cause.later;
      marked = subst (λ (k : TextCode). MarksFit k.words.pieces c.places_by.new.marks) c.model.ensures c.places_by.ensures.fit;
      phrase = c.places_by.ensures.phrase;
    }

pub returns-in-Err : goal.returns-in-Err
returns-in-Err g c =
    let e = c.in-Err.ensures in
    record {
      fits = e.fits;
      same = e.same;
      looked = e.looked;
      content = λ collection has. tt;
      stood = λ known. tt;
      never_bad = e.never_bad;
      pages = e.pages;
      cause = cause_err (omega arith) e.cause;
      marked = subst (λ (k : TextCode). MarksFit k.words.pieces c.args.marks.now) (sym e.same.code) c.requires.fit;
      phrase = refl;
    }
