-- Steps of a session: what they leave of the store, and their causes.
use Rattle.std.proofs.Common.{arith, ◌≡◌, ◌≢◌, ◌⊎◌, inl, inr, ℕ, suc, ◌≤◌, false, true, Ok, Err, refl, sym, ◌∙◌, ap, subst}
use Rattle.std.specs.declared.option.Option.{Option}
use Rattle.std.specs.declared.result.Result.{Result}
use Rattle.mg_defs.specs.declared.session.Mode.{Mode}
use Rattle.mg_defs.specs.declared.session.Mode.TheVariants as mode
use Rattle.mg_dev.specs.Files.{Files, Reads}
use Rattle.mg_dev.specs.Names.{number, same_part}
use Rattle.mg_dev.specs.declared.part.Part.{Part}
use Rattle.mg_dev.specs.declared.part.Part.TheVariants as part
use Rattle.mg_dev.specs.declared.part_err.PartErr.TheVariants.{Device, Memory, Bad}
use Rattle.mg_dev.specs.declared.show_err.ShowErr.{ShowErr}
use Rattle.mg_dev.specs.declared.show_err.ShowErr.TheVariants as show
use Rattle.mg_front.specs.Reading.{LookedAt}
use Rattle.mg_post.specs.TermLists.{ReadsLists}
use Rattle.mg_rank.specs.Ranked.{ReadsRanked}
use Rattle.mg_session.specs.Answering.{HasShowCause, IsFailureCaused}
use Rattle.mg_session.specs.LookLaws.{looks_kept, looks_none}
use Rattle.mg_session.specs.Parts.{IsOpened, LineStepped, NeverRead, ReadsLexicon, ShownIn, Stepped, UnreadByLines, UnreadIn, is_of_text, is_shown_from}
use Rattle.mg_session.proofs.AllowedLaws.{KeepsParts}

-- ---- what is left of the store

pub stepped_none : (w : Mode) (f : Option Files) (r : Reads) (n : ℕ) → Stepped w f f r r n n
stepped_none w f r n = record { files = refl; faults = omega arith; unread = λ p never. refl }

pub stepped_then : {w : Mode} {f g h : Option Files} {r s t : Reads} {k m n : ℕ} → Stepped w f g r s k m → Stepped w g h s t m n → Stepped w f h r t k n
stepped_then a b = record {
  files = b.files ∙ a.files;
  faults = omega (arith, a.faults, b.faults);
  unread = λ p never. b.unread p never ∙ a.unread p never;
}

-- a part that is never read is none of the first ten
pub never_early : (p : Part) → NeverRead p → 10 ≤ number p
never_early part.Head never = absurd never
never_early part.Words never = absurd never
never_early part.Nonwords never = absurd never
never_early part.Text never = absurd never
never_early part.Places never = absurd never
never_early part.Lex never = absurd never
never_early part.LexAt never = absurd never
never_early part.Post never = absurd never
never_early part.Skip never = absurd never
never_early part.Weights never = absurd never
never_early part.Run never = omega arith
never_early part.MergeA never = omega arith
never_early part.MergeB never = omega arith
never_early part.Plain never = omega arith

-- a part from which documents are decoded is one of the second to fifth, and one from which they are not is none of those
text_early : (p : Part) → is_of_text p ≡ true → number p ≤ 4
text_early part.Head is = absurd cc
text_early part.Words is = omega arith
text_early part.Nonwords is = omega arith
text_early part.Text is = omega arith
text_early part.Places is = omega arith
text_early part.Lex is = absurd cc
text_early part.LexAt is = absurd cc
text_early part.Post is = absurd cc
text_early part.Skip is = absurd cc
text_early part.Weights is = absurd cc
text_early part.Run is = absurd cc
text_early part.MergeA is = absurd cc
text_early part.MergeB is = absurd cc
text_early part.Plain is = absurd cc

pub text_behind : (p : Part) → is_of_text p ≡ true → 1 ≤ number p
text_behind part.Head is = absurd cc
text_behind part.Words is = omega arith
text_behind part.Nonwords is = omega arith
text_behind part.Text is = omega arith
text_behind part.Places is = omega arith
text_behind part.Lex is = omega arith
text_behind part.LexAt is = omega arith
text_behind part.Post is = omega arith
text_behind part.Skip is = omega arith
text_behind part.Weights is = omega arith
text_behind part.Run is = omega arith
text_behind part.MergeA is = omega arith
text_behind part.MergeB is = omega arith
text_behind part.Plain is = omega arith

not_text : (p : Part) → is_of_text p ≡ false → (number p ≤ 0) ⊎ (5 ≤ number p)
not_text part.Head is = inl (omega arith)
not_text part.Words is = absurd cc
not_text part.Nonwords is = absurd cc
not_text part.Text is = absurd cc
not_text part.Places is = absurd cc
not_text part.Lex is = inr (omega arith)
not_text part.LexAt is = inr (omega arith)
not_text part.Post is = inr (omega arith)
not_text part.Skip is = inr (omega arith)
not_text part.Weights is = inr (omega arith)
not_text part.Run is = inr (omega arith)
not_text part.MergeA is = inr (omega arith)
not_text part.MergeB is = inr (omega arith)
not_text part.Plain is = inr (omega arith)

pub never_text : (p : Part) → NeverRead p → is_of_text p ≡ false
never_text part.Head never = absurd never
never_text part.Words never = absurd never
never_text part.Nonwords never = absurd never
never_text part.Text never = absurd never
never_text part.Places never = absurd never
never_text part.Lex never = absurd never
never_text part.LexAt never = absurd never
never_text part.Post never = absurd never
never_text part.Skip never = absurd never
never_text part.Weights never = absurd never
never_text part.Run never = refl
never_text part.MergeA never = refl
never_text part.MergeB never = refl
never_text part.Plain never = refl

-- where the number is outside of these, the part is none of them
outside : (p q : Part) (low high : ℕ) → (number p ≤ low) ⊎ (high ≤ number p) → suc low ≤ number q → suc (number q) ≤ high → p ≢ q
outside p q low high (inl less) above below = λ e. omega (arith, ap number e, less, above)
outside p q low high (inr more) above below = λ e. omega (arith, ap number e, more, below)

same_false : (p q : Part) (low high : ℕ) → (number p ≤ low) ⊎ (high ≤ number p) → suc low ≤ number q → suc (number q) ≤ high → same_part p q ≡ false
same_false p q low high (inl less) above below = grind (arith, less, above)
same_false p q low high (inr more) above below = grind (arith, more, below)

-- a part that is read before the lists is one of the first seven, and no document is decoded from it
opened_early : (p : Part) → IsOpened p → (number p ≤ 6) × (is_of_text p ≡ false)
opened_early part.Head opened = (omega arith, refl)
opened_early part.Words opened = absurd opened
opened_early part.Nonwords opened = absurd opened
opened_early part.Text opened = absurd opened
opened_early part.Places opened = absurd opened
opened_early part.Lex opened = (omega arith, refl)
opened_early part.LexAt opened = (omega arith, refl)
opened_early part.Post opened = absurd opened
opened_early part.Skip opened = absurd opened
opened_early part.Weights opened = absurd opened
opened_early part.Run opened = absurd opened
opened_early part.MergeA opened = absurd opened
opened_early part.MergeB opened = absurd opened
opened_early part.Plain opened = absurd opened

-- a part that is not read behind the look-up is none of those of the lists and the weights
unread_part : (w : Mode) (p : Part) → UnreadIn w p → (number p ≤ 6) ⊎ (10 ≤ number p)
unread_part w p (inl never) = inr (never_early p never)
unread_part w p (inr (inl opened)) = inl (opened_early p opened).0
unread_part w p (inr (inr more)) = inl (omega (arith, text_early p more.1))

unread_than : (w : Mode) (p q : Part) → UnreadIn w p → 7 ≤ number q → number q ≤ 9 → p ≢ q
unread_than w p q unread above below = outside p q 6 10 (unread_part w p unread) above (omega (arith, below))

-- ---- the lexicon

-- a look at the lexicon reads no part that is none of the sixth and seventh
look_unread : {f g : Option Files} {r s : Reads} {m n : ℕ} (p : Part) → LookedAt part.Lex part.LexAt f g r s m n → (number p ≤ 4) ⊎ (10 ≤ number p) → s p ≡ r p
look_unread p looked outer =
    looked.others p (same_false p part.Lex 4 10 outer (omega arith) (omega arith)) (same_false p part.LexAt 4 10 outer (omega arith) (omega arith))

by_lines_part : (p : Part) → UnreadByLines p → (number p ≤ 4) ⊎ (10 ≤ number p)
by_lines_part p (inl never) = inr (never_early p never)
by_lines_part p (inr head) = inl (omega (arith, ap number head))

-- the terms of a line were looked up
pub line_looked : (w : Mode) {places : ℕ} {f g : Option Files} {r s : Reads} {m n : ℕ} → LookedAt part.Lex part.LexAt f g r s m n →
    ReadsLexicon r s places → LineStepped w places f g r s m n
line_looked w looked reads = record {
  files = looked.files;
  faults = looked.faults;
  unread = λ p unread. look_unread p looked (by_lines_part p unread);
  texts = λ none p of_text. look_unread p looked (inl (text_early p of_text));
  looked = reads;
}

-- and then lists and documents were read
pub line_then : {w : Mode} {places : ℕ} {f g h : Option Files} {r s t : Reads} {k m n : ℕ} → LineStepped w places f g r s k m → Stepped w g h s t m n →
    LineStepped w places f h r t k n
line_then a b = record {
  files = b.files ∙ a.files;
  faults = omega (arith, a.faults, b.faults);
  unread = λ p unread. b.unread p (by_lines_too p unread) ∙ a.unread p unread;
  texts = λ none p of_text. b.unread p (inr (inr (none, of_text))) ∙ a.texts none p of_text;
  looked = looks_kept a.looked (b.unread part.Lex (inr (inl tt))) (b.unread part.LexAt (inr (inl tt)));
}
  where
    by_lines_too : {w : Mode} (p : Part) → UnreadByLines p → UnreadIn w p
    by_lines_too p (inl never) = inl never
    by_lines_too p (inr head) = inr (inl (subst IsOpened (sym head) tt))

pub line_none : (w : Mode) (places : ℕ) (f : Option Files) (r : Reads) (n : ℕ) → LineStepped w places f f r r n n
line_none w places f r n = record {
  files = refl;
  faults = omega arith;
  unread = λ p unread. refl;
  texts = λ none p of_text. refl;
  looked = looks_none r places;
}

pub lists_step : (w : Mode) (f g : Option Files) (r s : Reads) (m n : ℕ) → g ≡ f → m ≤ n → ReadsLists r s → Stepped w f g r s m n
lists_step w f g r s m n files later reads = record {
  files = files;
  faults = later;
  unread = λ p unread. reads.others p (unread_than w p part.Post unread (omega arith) (omega arith)) (unread_than w p part.Skip unread (omega arith) (omega arith));
}

pub ranked_step : (w : Mode) (f g : Option Files) (r s : Reads) (m n : ℕ) → g ≡ f → m ≤ n → ReadsRanked r s → Stepped w f g r s m n
ranked_step w f g r s m n files later reads = record {
  files = files;
  faults = later;
  unread = λ p unread. reads.others p (unread_than w p part.Post unread (omega arith) (omega arith))
      (unread_than w p part.Skip unread (omega arith) (omega arith)) (unread_than w p part.Weights unread (omega arith) (omega arith));
}

-- ---- documents that are shown

shown_not : (w : Mode) (p : Part) → UnreadIn w p → is_shown_from w p ≡ false
shown_not mode.Docnums p unread = refl
shown_not mode.Text p (inl never) = never_text p never
shown_not mode.Text p (inr (inl opened)) = (opened_early p opened).1
shown_not mode.Text p (inr (inr more)) = absurd (more.0 refl)
shown_not mode.Count p unread = refl

pub shown_step : (w : Mode) (f g : Option Files) (r s : Reads) (m n : ℕ) → ShownIn w f g r s m n → Stepped w f g r s m n
shown_step w f g r s m n shown = record {
  files = shown.files;
  faults = shown.faults;
  unread = λ p unread. shown.others p (shown_not w p unread);
}

pub shown_none : (w : Mode) (f : Option Files) (r : Reads) (n : ℕ) → ShownIn w f f r r n n
shown_none w f r n = record { files = refl; faults = omega arith; others = λ p other. refl }

pub shown_then : {w : Mode} {f g h : Option Files} {r s t : Reads} {k m n : ℕ} → ShownIn w f g r s k m → ShownIn w g h s t m n → ShownIn w f h r t k n
shown_then a b = record {
  files = b.files ∙ a.files;
  faults = omega (arith, a.faults, b.faults);
  others = λ p other. b.others p other ∙ a.others p other;
}

-- the models were read, or the text
pub looked_shown : (one other : Part) (f g : Option Files) (r s : Reads) (m n : ℕ) → 1 ≤ number one → number one ≤ 4 → 1 ≤ number other → number other ≤ 4 →
    LookedAt one other f g r s m n → ShownIn mode.Text f g r s m n
looked_shown one other f g r s m n low high low_other high_other looked = record {
  files = looked.files;
  faults = looked.faults;
  others = λ p not. looked.others p (same_false p one 0 5 (not_text p not) low (omega (arith, high))) (same_false p other 0 5 (not_text p not) low_other (omega (arith, high_other)));
}

-- parts from which no document is decoded are not read
not_shown : (w : Mode) (p : Part) → is_of_text p ≡ false → is_shown_from w p ≡ false
not_shown mode.Docnums p is = refl
not_shown mode.Text p is = is
not_shown mode.Count p is = refl

pub shown_keeps : {w : Mode} {f g : Option Files} {r s : Reads} {m n : ℕ} → ShownIn w f g r s m n → KeepsParts r s
shown_keeps {w} shown = record {
  post = shown.others part.Post (not_shown w part.Post refl);
  skip = shown.others part.Skip (not_shown w part.Skip refl);
  weights = shown.others part.Weights (not_shown w part.Weights refl);
}

-- nor by a look at the lexicon
pub lex_keeps : {f g : Option Files} {r s : Reads} {m n : ℕ} → LookedAt part.Lex part.LexAt f g r s m n → KeepsParts r s
lex_keeps looked = record { post = looked.others part.Post refl refl; skip = looked.others part.Skip refl refl; weights = looked.others part.Weights refl refl }

-- nor is Text
pub lex_text : (f g : Option Files) (r s : Reads) (m n : ℕ) → LookedAt part.Lex part.LexAt f g r s m n → s part.Text ≡ r part.Text
lex_text f g r s m n looked = looked.others part.Text refl refl

pub lists_text : (r s : Reads) → ReadsLists r s → s part.Text ≡ r part.Text
lists_text r s reads = reads.others part.Text (λ e. omega (arith, ap number e)) (λ e. omega (arith, ap number e))

pub lists_weights : (r s : Reads) → ReadsLists r s → s part.Weights ≡ r part.Weights
lists_weights r s reads = reads.others part.Weights (λ e. omega (arith, ap number e)) (λ e. omega (arith, ap number e))

pub ranked_text : (r s : Reads) → ReadsRanked r s → s part.Text ≡ r part.Text
ranked_text r s reads = reads.others part.Text (λ e. omega (arith, ap number e)) (λ e. omega (arith, ap number e)) (λ e. omega (arith, ap number e))

pub looked_then : {one other : Part} {f g h : Option Files} {r s t : Reads} {k m n : ℕ} → LookedAt one other f g r s k m → LookedAt one other g h s t m n → LookedAt one other f h r t k n
looked_then a b = record {
  files = b.files ∙ a.files;
  faults = omega (arith, a.faults, b.faults);
  later = λ p. omega (arith, a.later p, b.later p);
  others = λ p x y. b.others p x y ∙ a.others p x y;
}

-- ---- causes

pub cause_after : (result : Result (Unit {0}) ShowErr) (s0 s1 s2 f0 f1 f2 : ℕ) → s0 ≤ s1 → f0 ≤ f1 → HasShowCause result s1 s2 f1 f2 → HasShowCause result s0 s2 f0 f2
cause_after result s0 s1 s2 f0 f1 f2 store output cause = record {
  store = omega (arith, store, cause.store);
  output = omega (arith, output, cause.output);
  caused = wider result cause.caused;
}
  where
    wider : (r : Result (Unit {0}) ShowErr) → IsFailureCaused r s1 s2 f1 f2 → IsFailureCaused r s0 s2 f0 f2
    wider (Ok done) is = tt
    wider (Err (show.Part Device)) is = omega (arith, is, store)
    wider (Err (show.Part Memory)) is = tt
    wider (Err (show.Part (Bad bad))) is = tt
    wider (Err show.Write) is = omega (arith, is, output)
    wider (Err show.Memory) is = tt
