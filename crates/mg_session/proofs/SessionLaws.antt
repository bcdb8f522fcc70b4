-- Laws of a whole session.
use Rattle.std.proofs.Common.{arith, ◌≡◌, ℕ, List, ◌++◌, length, refl, ap, subst, sum_by}
use Rattle.std.specs.Prelude.{true}
use Rattle.std.proofs.lemmas.List.Sums.{sum_by-append}
use Rattle.mg_dev.specs.declared.part.Part.{Part}
use Rattle.mg_defs.specs.CodedText.{TextCode}
use Rattle.mg_defs.specs.Replies.{reply}
use Rattle.mg_defs.specs.Session.{Question, questions_of}
use Rattle.mg_defs.specs.Terms.{dictionary}
use Rattle.mg_defs.specs.TextBounds.{line_text_bound, session_text_bound}
use Rattle.mg_front.specs.Looks.{looks}
use Rattle.mg_session.specs.LookLaws.{looks_first}
use Rattle.mg_session.specs.PagesAllowed.{line_terms, session_terms}
use Rattle.mg_session.specs.Parts.{is_of_text}
use Rattle.mg_session.specs.SearchLaws.{ask_before}
use Rattle.mg_session.specs.Searching.{AnswersBy, AskForNoText, Asked, Over, Searching}
use Rattle.mg_session.specs.Serves.{ReadsWithin}
use Rattle.mg_session.proofs.AllowedLaws.{first_allowed}

pub answers_over : (s : Searching) (code : TextCode) (collection : List ℕ) → Over s code collection → AnswersBy s (reply collection)
answers_over s code collection over = record { code = code; collection = collection; over = over; by_is = refl }

-- the first of the queries of an input
pub pages_within : (s t : Searching) (answered : List Question) (code : TextCode) (collection given : List ℕ) → Asked s t answered →
    (more : List Question) × (questions_of given ≡ answered ++ more) → Over s code collection → ReadsWithin code collection given s.reads t.reads
unfolding session_text_bound session_terms
pages_within s t answered code collection given a first over = record {
  looked = looks_first line_terms (questions_of given) answered first.0 (looks s.opened.lex.count) (looks (length (dictionary collection))) first.1
      (ap looks over.lex.terms) a.looked;
  allowed = first_allowed collection given answered first (a.allowed code collection over);
  text = omega (arith, a.shown code collection over, ap (sum_by (line_text_bound code collection)) first.1, sum_by-append (line_text_bound code collection) answered first.0);
}

-- where no query line of an input asks for texts, none of the first of them does
pub first_ask_none : (s t : Searching) (answered : List Question) (given : List ℕ) → Asked s t answered →
    (more : List Question) × (questions_of given ≡ answered ++ more) → AskForNoText (questions_of given) → (p : Part) → is_of_text p ≡ true →
    t.reads p ≡ s.reads p
first_ask_none s t answered given a first none p of_text = a.texts_unread (ask_before answered first.0 (subst AskForNoText first.1 none)) p of_text
