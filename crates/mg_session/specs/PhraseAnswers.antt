-- The answer to a phrase: the documents that have it, which are sought among those that have all its terms.
use Rattle.std.specs.Prelude.{◌≡◌, ℕ, ◌+◌, ◌*◌, ◌≤◌, nat_lt, Bool, true, false, List, [], ◌∷◌, ◌++◌, length, flat_map, sum_by, Option, Some, OnOk}
use Rattle.std.specs.declared.result.Result.{Result}
use Rattle.mg_dev.specs.Files.{Reads}
use Rattle.mg_dev.specs.Streams.{AfterPut}
use Rattle.mg_dev.specs.declared.part.Part.TheVariants as part
use Rattle.mg_dev.specs.declared.show_err.ShowErr.{ShowErr}
use Rattle.mg_defs.specs.CodedText.{TextCode}
use Rattle.mg_defs.specs.Lines.{lines}
use Rattle.mg_defs.specs.PageBounds.{boolean_bound, bound_as}
use Rattle.mg_defs.specs.Phrases.{all_of, phrase_of, phrase_places}
use Rattle.mg_defs.specs.PhraseSession.{PhraseHit, found_text, phrase_reply, with_places}
use Rattle.mg_defs.specs.PlainSession.{plain_questions}
use Rattle.mg_defs.specs.ShownAnswers.{Shown, plain, satisfying}
use Rattle.mg_defs.specs.Sat.{Query}
use Rattle.mg_defs.specs.Split.{documents}
use Rattle.mg_defs.specs.Terms.{dictionary, document}
use Rattle.mg_defs.specs.TextBounds.{doc_pages}
use Rattle.mg_defs.specs.Texts.{row}
use Rattle.mg_bool.specs.Matches.{Matching, left_of}
use Rattle.mg_front.specs.Looks.{looks}
use Rattle.mg_reply.specs.Pending.{AfterPass, Passed}
use Rattle.mg_text.specs.Reading.{ShowIsNotBad}
use Rattle.mg_session.specs.Answering.{ListsWalked}
use Rattle.mg_session.specs.PagesAllowed.{ReadsAllowed}
use Rattle.mg_session.specs.PhrasesAllowed.{phrase_allows, phrase_line_allows, phrases_allow, phrases_terms}
use Rattle.mg_session.specs.declared.rows.Rows.{Rows}
use Rattle.mg_session.specs.Parts.{ReadsLexicon}

-- ---- rows

abbrev pub found_if : Bool → ℕ → ℕ → List PhraseHit
found_if true number places = record { number = number; places = places } ∷ []
found_if false number places = []

-- a document as it is found, where it has places
abbrev pub found_at : ℕ → ℕ → List PhraseHit
found_at number places = found_if (nat_lt 0 places) number places

-- of these documents, those that have places of a phrase
unfoldable pub found_among : List ℕ → List (List ℕ) → List Shown → List PhraseHit
found_among collection phrase candidates = flat_map (λ (s : Shown).
    found_at s.number (phrase_places phrase (document collection s.number))) candidates

-- what is printed for them
unfoldable pub rows_of : List PhraseHit → List ℕ
rows_of found = flat_map (λ (f : PhraseHit). row f.number (Some f.places)) found

-- a document of this number as it is found, where a phrase has places in it
abbrev pub found_in : List ℕ → List (List ℕ) → ℕ → List PhraseHit
found_in collection phrase number = found_at number (phrase_places phrase (document collection number))

-- ---- bounds

-- the pages of Text on which the documents lie that have all terms of a phrase; none for a phrase without words
unfoldable pub candidate_pages : TextCode → List ℕ → List (List ℕ) → ℕ
candidate_pages code collection [] = 0
candidate_pages code collection (t ∷ us) = sum_by (doc_pages code collection) (satisfying collection (all_of t us))

-- the pages of the blocks of its terms' lists, joined by and, whose range holds a document that is asked
unfoldable pub joined_bound : List ℕ → List (List ℕ) → ℕ
joined_bound collection [] = 0
joined_bound collection (t ∷ us) = boolean_bound collection (all_of t us)

-- of a line; none where it is refused
abbrev pub line_pages : TextCode → List ℕ → List ℕ → ℕ
line_pages code collection line = bound_as (candidate_pages code collection) (phrase_of line)

abbrev pub line_lists : List ℕ → List ℕ → ℕ
line_lists collection line = bound_as (joined_bound collection) (phrase_of line)

-- no more pages are read than the lines allow, added up
pub record ReadsPhrases (code : TextCode) (collection given : List ℕ) (before now : Reads) : Type 0 where
  pub allowed : ReadsAllowed (phrases_allow collection given) before now
  -- of the lexicon those that the look-up of each word takes
  pub looked : ReadsLexicon before now (length (phrases_terms given) * looks (length (dictionary collection)))
  pub text : now part.Text ≤ before part.Text + sum_by (line_pages code collection) (plain_questions (lines given))

-- ---- an answer

-- The documents with places of a phrase were printed, or a part of that text; no part is bad, and no pages were read but those that the phrase allows, and those of the documents that have all its terms.
pub record PhraseAnswered (code : TextCode) (collection : List ℕ) (phrase : List (List ℕ))
    (before after : Option (List ℕ)) (reads_before reads_now : Reads) (result : Result (Unit {0}) ShowErr) : Type 0
  where
    pub put : AfterPut before after (found_text (with_places phrase 1 (documents collection))) result
    pub sound : ShowIsNotBad result
    pub allowed : ReadsAllowed (phrase_allows collection phrase) reads_before reads_now
    pub text : reads_now part.Text ≤ reads_before part.Text + candidate_pages code collection phrase

-- The same of a line.
pub record PhraseReplied (code : TextCode) (collection line : List ℕ) (before after : Option (List ℕ))
    (reads_before reads_now : Reads) (result : Result (Unit {0}) ShowErr) : Type 0 where
  pub put : AfterPut before after (phrase_reply collection line) result
  pub sound : ShowIsNotBad result
  pub allowed : ReadsAllowed (phrase_line_allows collection line) reads_before reads_now
  pub text : reads_now part.Text ≤ reads_before part.Text + line_pages code collection line

-- A document was searched for a phrase, and its row was passed on where it has places, or a part of that text.
pub record DocumentSearched (code : TextCode) (collection : List ℕ) (phrase : List (List ℕ)) (number : ℕ)
    (before after : Option (List ℕ)) (rows rows_now : Rows) (reads_before reads_now : Reads)
    (result : Result (Unit {0}) ShowErr) : Type 0 where
  -- its row comes behind those that waited
  pub passed : AfterPass before after rows.pending rows_now.pending (rows_of (found_in collection phrase number)) result
  -- and is counted
  pub counted : OnOk result (rows_now.total ≡ rows.total + length (found_in collection phrase number))
  -- no part is bad
  pub sound : ShowIsNotBad result
  -- no pages of Text were read but those on which it lies
  pub text : reads_now part.Text ≤ reads_before part.Text + doc_pages code collection (plain number)

-- While the documents that have all its terms are searched: so many were found, and their rows passed on.
pub record PhraseWalked (base : List ℕ) (code : TextCode) (collection : List ℕ) (phrase : List (List ℕ)) (q : Query)
    (before after : Option (List ℕ)) (waiting : List ℕ) (total : ℕ) (m : Matching) (reads_before reads_now : Reads) :
    Type 0 where
  pub so_far : List Shown
  pub split : satisfying collection q ≡ so_far ++ left_of collection m
  pub total_is : length (found_among collection phrase so_far) ≡ total
  pub passed : Passed before after [] waiting (rows_of (found_among collection phrase so_far))
  pub lists : ListsWalked base collection m reads_before reads_now
  pub text : reads_now part.Text ≤ reads_before part.Text + sum_by (doc_pages code collection) so_far
