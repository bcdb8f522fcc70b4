-- The pages of Post that patterns may read.
use Rattle.std.proofs.Common.{arith, ◌≡◌, ◌+◌, ◌<◌, ◌≤◌, ◌∙◌, ℕ, List, [], ◌∷◌, ◌++◌, length, get_or, take, drop, sum_by, sym, ap}
use Rattle.std.proofs.lemmas.List.{map-append}
use Rattle.std.proofs.lemmas.List.Sums.{sum_by-append, sum_by-cons, sum_by-le-sum_by}
use Rattle.std.proofs.lemmas.List.{take-append-drop}
use Rattle.mg_defs.specs.CodedText.{TextCode}
use Rattle.mg_defs.specs.Lines.{lines}
use Rattle.mg_defs.specs.PageBounds.{list_pages, ranked_bound}
use Rattle.mg_defs.specs.Patterns.{Pattern, PatternLine, bad, matching, pattern_of, sides}
use Rattle.mg_defs.specs.PlainSession.{plain_questions}
use Rattle.mg_defs.specs.Rotations.{matching_numbers}
use Rattle.mg_defs.specs.Session.{Question, heard_questions}
use Rattle.mg_defs.specs.Terms.{dictionary}
use Rattle.mg_defs.specs.declared.session.Hearing.TheVariants.{Questions}
use Rattle.mg_post.specs.PagesOnce.{span_pages}
use Rattle.mg_post.proofs.CallerLemmas.{span_in_list}
use Rattle.mg_session.specs.WildAnswers.{ReadsPatterns, pages_of, pattern_blocks, pattern_pages, patterns_pages, wild_blocks, wild_pages}
use Rattle.mg_session.specs.WildMarks.{terms_at}
use Rattle.mg_session.specs.WildSearching.{WildAsked, WildOver, WildState}
use Rattle.mg_session.proofs.PhraseReplyLaws.{asked_lines}
use Rattle.mg_session.proofs.WildTextLaws.{matching_terms, terms_next}

-- ---- the lists of terms

-- of one term more
pub pages_next : (collection : List ℕ) (ns : List ℕ) (i n : ℕ) → i < length ns → n ≡ get_or ns i 0 →
    sum_by (span_pages collection) (terms_at collection (take (i + 1) ns))
    ≡ sum_by (span_pages collection) (terms_at collection (take i ns)) + span_pages collection (get_or (dictionary collection) n [])
pages_next collection ns i n within is =
    let t = get_or (dictionary collection) n [] in
    let pages = span_pages collection in
    let split = ap (sum_by pages) (terms_next collection ns i n within is) ∙ sum_by-append pages (terms_at collection (take i ns)) (t ∷ []) in
    omega (arith, split, sum_by-cons pages t [])

-- of the first terms no more than of all
pub pages_cut : (collection : List ℕ) (ns : List ℕ) (i : ℕ) →
    sum_by (span_pages collection) (terms_at collection (take i ns)) ≤ sum_by (span_pages collection) (terms_at collection ns)
pages_cut collection ns i =
    let number : ℕ → List ℕ = λ k. get_or (dictionary collection) k [] in
    let whole : terms_at collection ns ≡ terms_at collection (take i ns) ++ terms_at collection (drop i ns) =
    ap (terms_at collection) (sym (take-append-drop i ns)) ∙ map-append number (take i ns) (drop i ns) in
    let pages = span_pages collection in
    omega (arith, ap (sum_by pages) whole, sum_by-append pages (terms_at collection (take i ns)) (terms_at collection (drop i ns)))

-- ---- a pattern, a line, and a session

pub pattern_bound : (collection : List ℕ) (p : Pattern) (terms : List (List ℕ)) (ns : List ℕ) → ns ≡ matching_numbers p 0 terms →
    terms ≡ dictionary collection → sum_by (span_pages collection) (terms_at collection ns) ≡ pattern_pages collection p
unfolding pattern_pages
pattern_bound collection p terms ns is same = ap (sum_by (span_pages collection)) (matching_terms collection p terms ns is same)

pub line_bound : (collection line : List ℕ) (p : Pattern) → pattern_of line ≡ sides p → wild_pages collection line ≡ pattern_pages collection p
line_bound collection line p is = ap (pages_of (pattern_pages collection)) is

-- no more than those of the lists' blocks
pattern_in_blocks : (collection : List ℕ) (p : Pattern) → pattern_pages collection p ≤ pattern_blocks collection p
unfolding pattern_pages pattern_blocks ranked_bound
pattern_in_blocks collection p = sum_by-le-sum_by (span_pages collection) (list_pages collection) (matching collection p) (span_in_list collection)

line_in_blocks : (collection : List ℕ) (l : PatternLine) → pages_of (pattern_pages collection) l ≤ pages_of (pattern_blocks collection) l
line_in_blocks collection (sides p) = pattern_in_blocks collection p
line_in_blocks collection (bad at) = omega arith

pub patterns_in_blocks : (collection given : List ℕ) → patterns_pages collection given ≤ sum_by (wild_blocks collection) (plain_questions (lines given))
unfolding patterns_pages
patterns_in_blocks collection given =
    sum_by-le-sum_by (wild_pages collection) (wild_blocks collection) (plain_questions (lines given)) (λ line. line_in_blocks collection (pattern_of line))

-- the first of the lines of an input
pub patterns_within : (s t : WildState) (answered : List Question) (code : TextCode) (collection given : List ℕ) → WildAsked s t answered →
    (more : List Question) × (heard_questions Questions given ≡ answered ++ more) → WildOver s collection → ReadsPatterns code collection given s.reads t.reads
unfolding patterns_pages
patterns_within s t answered code collection given a first over =
    record { post = omega (arith, a.post collection over, asked_lines (wild_pages collection) given answered first.0 first.1) }
