-- One state of a search after another.
use Rattle.std.proofs.Common.{arith, ◌≡◌, ◌≢◌, ℕ, List, [], ◌∷◌, ◌++◌, refl, sym, ap, subst, ◌∙◌}
use Rattle.std.specs.Option.{IsSome}
use Rattle.std.specs.declared.option.Option.{Option}
use Rattle.std.proofs.lemmas.List.Elements.{All-cons, All-head, All-tail}
use Rattle.std.proofs.lemmas.List.Sums.{sum_by-append}
use Rattle.mg_dev.specs.Files.{Files, Reads, bytes_at}
use Rattle.mg_dev.specs.declared.part_err.PartErr.{PartErr}
use Rattle.mg_dev.specs.declared.part_err.PartErr.TheVariants.{Device, Memory, Bad}
use Rattle.mg_defs.specs.CodedText.{TextCode}
use Rattle.mg_defs.specs.Session.{Question}
use Rattle.mg_defs.specs.TextBounds.{line_text_bound}
use Rattle.mg_defs.specs.declared.session.Mode.TheVariants as mode
use Rattle.mg_defs.specs.declared.session.Settings.{Settings}
use Rattle.mg_front.specs.Looks.{looks}
use Rattle.mg_front.specs.Reading.{Fronted, SameParts}
use Rattle.mg_layout.specs.declared.head.Head.{Head}
use Rattle.mg_lex.specs.Reading.{LexStands}
use Rattle.mg_post.specs.TermLists.{ListsStand}
use Rattle.mg_rank.specs.Ranked.{WeightsStand}
use Rattle.mg_text.specs.Reading.{IsText}
use Rattle.mg_session.specs.LookLaws.{looks_more, looks_none}
use Rattle.mg_session.specs.PagesAllowed.{PartPages, ReadsAllowed, line_allows, line_terms, sum_allows}
use Rattle.mg_session.specs.Searching.{AnswersBy, AskForNoText, Asked, MayStop, Opened, Over, SameOpened, Searching}
use Rattle.mg_session.specs.Texts.{SameTexts, Texting, TextsStand}

-- ---- the same parts

pub same_parts : (r : Fronted) → SameParts r r
same_parts r = record {
  strings = refl;
  places = refl;
  strings_part = refl;
  places_part = refl;
  width = refl;
  count = refl;
}

pub parts_then : (a b c : Fronted) → SameParts a b → SameParts b c → SameParts a c
parts_then a b c p q = record {
  strings = q.strings ∙ p.strings;
  places = q.places ∙ p.places;
  strings_part = q.strings_part ∙ p.strings_part;
  places_part = q.places_part ∙ p.places_part;
  width = q.width ∙ p.width;
  count = q.count ∙ p.count;
}

pub same_texts : (t : Texting) → SameTexts t t
same_texts t = record { base = refl; head = refl }

pub texts_then : (a b c : Texting) → SameTexts a b → SameTexts b c → SameTexts a c
texts_then a b c p q = record { base = q.base ∙ p.base; head = q.head ∙ p.head }

pub same_opened : (o : Opened) → SameOpened o o
same_opened o = record { base = refl; lex = same_parts o.lex; texts = same_texts o.texts; all = refl }

pub opened_then : (a b c : Opened) → SameOpened a b → SameOpened b c → SameOpened a c
opened_then a b c p q = record {
  base = q.base ∙ p.base;
  lex = parts_then a.lex b.lex c.lex p.lex q.lex;
  texts = texts_then a.texts b.texts c.texts p.texts q.texts;
  all = q.all ∙ p.all;
}

-- ---- the parts stay those of the collection

pub lex_later : (a b : Fronted) (files now : Option Files) (collection : List ℕ) → SameParts a b → now ≡ files →
    LexStands a files collection → LexStands b now collection
lex_later a b files now collection same e is = record {
  told = subst IsSome (sym e) is.told;
  lex = ap (bytes_at now) same.strings ∙ ap (λ f. bytes_at f a.strings.name) e ∙ is.lex;
  lex_at = ap (bytes_at now) same.places ∙ ap (λ f. bytes_at f a.places.name) e ∙ is.lex_at;
  terms = is.terms ∙ sym same.count;
  few = is.few;
}

pub texts_later : (t u : Texting) (files now : Option Files) (code : TextCode) (collection : List ℕ) → SameTexts t u →
    now ≡ files → TextsStand t files code collection → TextsStand u now code collection
texts_later t u files now code collection same e is = record {
  text = subst (λ f. IsText u.base f u.head code collection) (sym e)
      (subst (λ b. IsText b files u.head code collection) (sym same.base)
      (subst (λ (h : Head). IsText t.base files h code collection) (sym same.head) is.text));
  size = ap (λ (h : Head). h.collection) same.head ∙ is.size;
}

pub weights_later : (base now_base : List ℕ) (files now : Option Files) (collection : List ℕ) → now_base ≡ base →
    now ≡ files → WeightsStand base files collection → WeightsStand now_base now collection
weights_later base now_base files now collection same e is = subst (λ b. WeightsStand b now collection) (sym same)
    (subst (λ f. WeightsStand base f collection) (sym e) is)

pub lists_stay : (base now_base : List ℕ) (files now : Option Files) (collection : List ℕ) → now_base ≡ base →
    now ≡ files → ListsStand base files collection → ListsStand now_base now collection
lists_stay base now_base files now collection same e is = subst (λ b. ListsStand b now collection) (sym same)
    (subst (λ f. ListsStand base f collection) (sym e) is)

pub over_same : (s t : Searching) (code : TextCode) (collection : List ℕ) → t.files ≡ s.files →
    SameOpened s.opened t.opened → Over s code collection → Over t code collection
over_same s t code collection files same o = record {
  version = o.version;
  limits = o.limits;
  weights = weights_later s.opened.base t.opened.base s.files t.files collection same.base files o.weights;
  lex = lex_later s.opened.lex t.opened.lex s.files t.files collection same.lex files o.lex;
  texts = texts_later s.opened.texts t.opened.texts s.files t.files code collection same.texts files o.texts;
  all = same.all ∙ o.all;
}

pub over_later : (s t : Searching) (xs : List Question) (code : TextCode) (collection : List ℕ) → Asked s t xs →
    Over s code collection → Over t code collection
over_later s t xs code collection a o = over_same s t code collection a.files a.same o

-- ---- query lines after query lines

-- the first of them, and those behind these
pub ask_before : (xs ys : List Question) → AskForNoText (xs ++ ys) → AskForNoText xs
ask_before [] ys none = λ k d lt. absurd (omega (arith, lt))
ask_before (x ∷ xs) ys none = All-cons (λ (q : Question). q.now.mode ≢ mode.Text) x xs
    (All-head (λ (q : Question). q.now.mode ≢ mode.Text) x (xs ++ ys) none)
    (ask_before xs ys (All-tail (λ (q : Question). q.now.mode ≢ mode.Text) x (xs ++ ys) none))

ask_behind : (xs ys : List Question) → AskForNoText (xs ++ ys) → AskForNoText ys
ask_behind [] ys none = none
ask_behind (x ∷ xs) ys none = ask_behind xs ys (All-tail (λ (q : Question). q.now.mode ≢ mode.Text) x (xs ++ ys) none)

pub allowed_more : (allows : Question → PartPages) (xs ys : List Question) {r s t : Reads} →
    ReadsAllowed (sum_allows allows xs) r s → ReadsAllowed (sum_allows allows ys) s t →
    ReadsAllowed (sum_allows allows (xs ++ ys)) r t
allowed_more allows xs ys a b =
    let post = λ (q : Question). (allows q).post in
    let skip = λ (q : Question). (allows q).skip in
    let weights = λ (q : Question). (allows q).weights in
    record {
      post = omega (arith, a.post, b.post, sum_by-append post xs ys);
      skip = omega (arith, a.skip, b.skip, sum_by-append skip xs ys);
      weights = omega (arith, a.weights, b.weights, sum_by-append weights xs ys);
    }

pub asked_none : (s : Searching) → Asked s s []
asked_none s = record {
  files = refl;
  faults = omega arith;
  same = same_opened s.opened;
  unread = λ p never. refl;
  texts_unread = λ none p of_text. refl;
  looked = looks_none s.reads _;
  allowed = λ code collection over. record { post = omega arith; skip = omega arith; weights = omega arith };
  shown = λ code collection over. omega arith;
}

pub asked_more : (s t u : Searching) (xs ys : List Question) → Asked s t xs → Asked t u ys → Asked s u (xs ++ ys)
asked_more s t u xs ys a b = record {
  files = b.files ∙ a.files;
  faults = omega (arith, a.faults, b.faults);
  same = opened_then s.opened t.opened u.opened a.same b.same;
  unread = λ p never. b.unread p never ∙ a.unread p never;
  texts_unread = λ none p of_text. b.texts_unread (ask_behind xs ys none) p of_text
      ∙ a.texts_unread (ask_before xs ys none) p of_text;
  looked = looks_more line_terms xs ys (looks s.opened.lex.count) (looks t.opened.lex.count) (ap looks a.same.lex.count) a.looked b.looked;
  allowed = λ code collection over. allowed_more (line_allows collection) xs ys (a.allowed code collection over)
      (b.allowed code collection (over_later s t xs code collection a over));
  shown = λ code collection over. omega (
    arith,
    a.shown code collection over,
    b.shown code collection (over_later s t xs code collection a over),
    sum_by-append (line_text_bound code collection) xs ys,
  );
}

pub answers_later : (s t : Searching) (xs : List Question) (by : Settings → List ℕ → List ℕ) → Asked s t xs →
    AnswersBy s by → AnswersBy t by
answers_later s t xs by a answers = record {
  code = answers.code;
  collection = answers.collection;
  over = over_later s t xs answers.code answers.collection a answers.over;
  by_is = answers.by_is;
}

pub stops_later : (s t u : Searching) (xs : List Question) (error : PartErr) → Asked s t xs → MayStop t u error →
    MayStop s u error
stops_later s t u xs Device a stops = omega (arith, a.faults, stops)
stops_later s t u xs Memory a stops = tt
stops_later s t u xs (Bad bad) a stops = λ code collection over.
    stops code collection (over_later s t xs code collection a over)
