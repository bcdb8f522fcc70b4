-- One state of a search for phrases after another.
use Rattle.std.proofs.Common.{arith, ℕ, List, [], ◌++◌, refl, ◌∙◌, ap}
use Rattle.std.proofs.lemmas.List.Sums.{sum_by-append}
use Rattle.mg_dev.specs.declared.part_err.PartErr.{PartErr}
use Rattle.mg_dev.specs.declared.part_err.PartErr.TheVariants.{Device, Memory, Bad}
use Rattle.mg_defs.specs.CodedText.{TextCode}
use Rattle.mg_defs.specs.Session.{Question}
use Rattle.mg_defs.specs.declared.session.Settings.{Settings}
use Rattle.mg_front.specs.Looks.{looks}
use Rattle.mg_session.specs.LookLaws.{looks_more, looks_none}
use Rattle.mg_session.specs.PhraseAnswers.{line_pages}
use Rattle.mg_session.specs.PhrasesAllowed.{phrase_line_allows, phrase_terms}
use Rattle.mg_session.specs.PhraseSearching.{PhrasesAsked, PhrasesBy}
use Rattle.mg_session.specs.SearchLaws.{allowed_more, opened_then, over_same, same_opened}
use Rattle.mg_session.specs.Searching.{MayStop, Over, Searching}

phrases_over : (s t : Searching) (xs : List Question) (code : TextCode) (collection : List ℕ) → PhrasesAsked s t xs →
    Over s code collection → Over t code collection
phrases_over s t xs code collection a over = over_same s t code collection a.step.files a.same over

-- ---- lines after lines

pub phrases_none : (s : Searching) → PhrasesAsked s s []
phrases_none s = record {
  step = record {
    files = refl;
    faults = omega arith;
    unread = λ p never. refl;
    texts = λ none p of_text. refl;
    looked = looks_none s.reads _;
  };
  same = same_opened s.opened;
  allowed = λ code collection over. record { post = omega arith; skip = omega arith; weights = omega arith };
  text = λ code collection over. omega arith;
}

pub phrases_more : (s t u : Searching) (xs ys : List Question) → PhrasesAsked s t xs → PhrasesAsked t u ys →
    PhrasesAsked s u (xs ++ ys)
phrases_more s t u xs ys a b = record {
  step = record {
    files = b.step.files ∙ a.step.files;
    faults = omega (arith, a.step.faults, b.step.faults);
    unread = λ p never. b.step.unread p never ∙ a.step.unread p never;
    texts = λ none p of_text. b.step.texts none p of_text ∙ a.step.texts none p of_text;
    looked = looks_more (λ (q : Question). phrase_terms q.line) xs ys (looks s.opened.lex.count) (looks t.opened.lex.count)
        (ap looks a.same.lex.count) a.step.looked b.step.looked;
  };
  same = opened_then s.opened t.opened u.opened a.same b.same;
  allowed = λ code collection over. allowed_more (λ (q : Question). phrase_line_allows collection q.line) xs ys
      (a.allowed code collection over) (b.allowed code collection (phrases_over s t xs code collection a over));
  text = λ code collection over. omega (
    arith,
    a.text code collection over,
    b.text code collection (phrases_over s t xs code collection a over),
    sum_by-append (λ (q : Question). line_pages code collection q.line) xs ys,
  );
}

pub phrases_later : (s t : Searching) (xs : List Question) (by : Settings → List ℕ → List ℕ) → PhrasesAsked s t xs →
    PhrasesBy s by → PhrasesBy t by
phrases_later s t xs by a answers = record {
  code = answers.code;
  collection = answers.collection;
  over = phrases_over s t xs answers.code answers.collection a answers.over;
  by_is = answers.by_is;
}

pub phrases_stop : (s t u : Searching) (xs : List Question) (error : PartErr) → PhrasesAsked s t xs →
    MayStop t u error → MayStop s u error
phrases_stop s t u xs Device a stops = omega (arith, a.step.faults, stops)
phrases_stop s t u xs Memory a stops = tt
phrases_stop s t u xs (Bad bad) a stops = λ code collection over.
    stops code collection (phrases_over s t xs code collection a over)
