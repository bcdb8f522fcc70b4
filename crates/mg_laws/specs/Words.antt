-- Names for what several laws speak of.
use Rattle.std.specs.Prelude.{◌≡◌, ◌<◌, ◌≤◌, ◌+◌, ◌*◌, ◌^◌, ◌==◌, ◌++◌, if◌then◌else◌, ℕ, true, List, [], length, map, drop, sum_by}
use Rattle.std.specs.List.{list_any}
use Rattle.mg_defs.specs.Bits.{Bits}
use Rattle.mg_defs.specs.CodedText.{IsTextCode, TextCode, text_part as coded_text}
use Rattle.mg_defs.specs.Commands.{first_settings, command_text}
use Rattle.mg_defs.specs.DocCounts.{NeverFall, last_with}
use Rattle.mg_defs.specs.Limits.{Limits, limits}
use Rattle.mg_defs.specs.Join.{carried}
use Rattle.mg_defs.specs.Lines.{without_return}
use Rattle.mg_defs.specs.Lists.{postings}
use Rattle.mg_defs.specs.Marks.{AreWithinLimits, Mark, PassesFirst, coded_from, marks, open_from, pair_counts, piece, starts, terms_from}
use Rattle.mg_defs.specs.Occurrences.{occurrences}
use Rattle.mg_defs.specs.PageBounds.{boolean_bound, list_pages, numbers_in, pages_for}
use Rattle.mg_defs.specs.Patterns.{Pattern}
use Rattle.mg_defs.specs.QueryTerms.{query_terms}
use Rattle.mg_defs.specs.Rotations.{BeginsWith, key, rotation}
use Rattle.mg_defs.specs.Sat.{Query, both, term}
use Rattle.mg_defs.specs.Session.{as_question, read}
use Rattle.mg_defs.specs.Split.{documents}
use Rattle.mg_defs.specs.Terms.{dictionary, docs, same_term}
use Rattle.mg_defs.specs.Texts.{bad_command}
use Rattle.mg_defs.specs.Vocabulary.{all_pieces, count_in, sorted_pieces}
use Rattle.mg_defs.specs.WithinLimits.{IsWithinLimits}
use Rattle.mg_defs.specs.declared.Stream.{Stream}

-- ---- pages

-- a collection of fewer than 2 ^ 32 bytes
abbrev pub IsSmall : List ℕ → Type 0
IsSmall collection = length collection < 2 ^ 32

-- no more documents have the one term than the other
abbrev pub IsAsRare : List ℕ → List ℕ → List ℕ → Type 0
IsAsRare collection s t = docs collection s ≤ docs collection t

-- fewer documents have the one term than the other
abbrev pub IsRarer : List ℕ → List ℕ → List ℕ → Type 0
IsRarer collection s t = docs collection s < docs collection t

-- the pages of the blocks of the second term's list whose range holds a document that has the first
abbrev pub pages_shared : List ℕ → List ℕ → List ℕ → ℕ
pages_shared collection s t = pages_for collection (numbers_in (postings collection s)) t

-- a fact on a collection of fewer than 2 ^ 32 bytes and two terms
abbrev pub ForTwoTerms : (List ℕ → List ℕ → List ℕ → Type 0) → Type 0
ForTwoTerms fact = (collection s t : List ℕ) → IsSmall collection → fact collection s t

-- the bound of a conjunction of two words
abbrev pub bound_of_both : List ℕ → List ℕ → List ℕ → ℕ
bound_of_both collection s t = boolean_bound collection (both (term s) (term t))

-- a list for each place of a term
abbrev pub pages_of_each : List ℕ → Query → ℕ
pages_of_each collection q = sum_by (list_pages collection) (query_terms q)

-- ---- occurrences

-- 1 where an occurrence after these is the first of the term in its document, else 0
abbrev pub docs_added : ℕ → List (ℕ × ℕ) → ℕ × ℕ → ℕ
docs_added t fed o = if o.0 == t then (if last_with t 0 fed == o.1 then 0 else 1) else 0

-- a fact where an occurrence comes after these in reading order
abbrev pub WhereNext : List (ℕ × ℕ) → ℕ × ℕ → Type 0 → Type 0
WhereNext fed o fact = 1 ≤ o.1 → NeverFall 0 fed o.1 → fact

-- an occurrence of a term of the dictionary, in a document of the collection
abbrev pub IsOccurrenceIn : List ℕ → ℕ × ℕ → Type 0
IsOccurrenceIn collection o = (o.0 < length (dictionary collection)) × (1 ≤ o.1) × (o.1 ≤ length (documents collection))

-- those of a collection that is a part of another, behind so many documents
abbrev pub all_carried : List ℕ → List ℕ → ℕ → List (ℕ × ℕ)
all_carried collection whole behind = map (carried collection whole behind) (occurrences collection)

-- ---- pieces and documents

-- how often a piece comes in a collection
abbrev pub piece_count : Stream → List ℕ → List ℕ → ℕ
piece_count kind collection bytes = count_in (all_pieces kind collection) bytes

-- more distinct pieces of this stream than these limits allow
abbrev pub HasTooMany : Stream → Limits → List ℕ → Type 0
HasTooMany kind most collection = most.pieces < length (sorted_pieces kind collection)

-- a fact where the first mark with which these limits are passed is a piece of this stream
abbrev pub WherePiecePasses : Stream → Limits → List ℕ → Type 0 → Type 0
WherePiecePasses kind most collection fact = (bytes : List ℕ) → PassesFirst most collection (piece kind bytes) → fact

-- one of the documents of the collection
abbrev pub IsDocumentOf : List ℕ → List ℕ → Type 0
IsDocumentOf collection doc = list_any (same_term doc) (documents collection) ≡ true

-- ---- a line

-- what a line prints where commands are heard as questions
abbrev pub question_text : (List ℕ → List ℕ) → List ℕ → List ℕ
question_text reply line = command_text (λ now. reply) bad_command first_settings (without_return line)
    (as_question (read first_settings line))

-- ---- marks

-- what all marks of a collection are coded as
abbrev pub coded_marks : TextCode → List ℕ → List Bits
coded_marks code collection = coded_from code (pair_counts collection) [] (marks collection)

-- what some marks are coded as, and then others
abbrev pub coded_both : TextCode → List ℕ → Bits → List Mark → List Mark → List Bits
coded_both code pairs bits a b = coded_from code pairs bits a ++ coded_from code (drop (starts a) pairs)
    (open_from code pairs bits a) b

-- the bits that some marks leave open, and then others
abbrev pub open_both : TextCode → List ℕ → Bits → List Mark → List Mark → Bits
open_both code pairs bits a b = open_from code (drop (starts a) pairs) (open_from code pairs bits a) b

-- the terms of some marks, and then of others
abbrev pub terms_of_both : List (List ℕ) → ℕ → List Mark → List Mark → List (ℕ × ℕ)
terms_of_both terms doc a b = terms_from terms doc a ++ terms_from terms (doc + starts a) b

-- no more bytes than this version allows
abbrev pub HasFewBytes : ℕ → List ℕ → Type 0
HasFewBytes version collection = length collection ≤ (limits version).collection

-- no more documents and pieces than this version allows
abbrev pub HasFewMarks : ℕ → List ℕ → Type 0
HasFewMarks version collection = AreWithinLimits (limits version) (marks collection)

-- ---- patterns

-- the rotation of a term at a cut begins with what a pattern seeks
abbrev pub BeginsWithKey : Pattern → List ℕ → ℕ → Type 0
BeginsWithKey p t cut = BeginsWith (key p) (rotation cut t)

-- ---- sizes

-- so many bytes the text takes at most
abbrev pub text_room : List ℕ → ℕ
text_room collection = 12 * length collection + 17 * length (documents collection)

-- a fact where a collection is within the limits of a version, and these are its codes
abbrev pub WhereCodedWithin : ℕ → TextCode → List ℕ → Type 0 → Type 0
WhereCodedWithin version code collection fact = IsWithinLimits version collection → IsTextCode collection code → fact

-- a bit of the coded text has its place in five bytes
abbrev pub HasShortText : TextCode → List ℕ → Type 0
HasShortText code collection = 8 * length (coded_text code collection) < 2 ^ 39
