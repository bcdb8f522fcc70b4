-- Patterns, phrases and joined collections, computed.
use Rattle.std.proofs.Common.{◌≡◌, ℕ, List, [], ◌∷◌, ◌++◌, refl, length, true, false, replicate}
use Rattle.std.specs.Prelude.{codes}
use Rattle.std.specs.Fmt.{digits}
use Rattle.std.specs.List.{flat_map}
use Rattle.mg_defs.specs.Split.{documents, has_open_end}
use Rattle.mg_defs.specs.Parse.{parse}
use Rattle.mg_defs.specs.Tokens.{sign_of}
use Rattle.mg_defs.specs.Read.{boolean, query_of}
use Rattle.mg_defs.specs.Refusals.{reads, refused, too_long, too_many}
use Rattle.mg_defs.specs.Commands.{command, words, dot_of, set_query, set_mode, set_most, set_of, value, is_most}
use Rattle.mg_defs.specs.declared.Stream.TheVariants.{Words, Others}
use Rattle.mg_defs.specs.Vocabulary.{sorted_pieces}
use Rattle.mg_defs.specs.Terms.{dictionary}
use Rattle.mg_defs.specs.Occurrences.{occurrences}
use Rattle.mg_defs.specs.ShownAnswers.{answer_text, found}
use Rattle.mg_defs.specs.Session.{ends, heard_session, replies, line_text, after_line}
use Rattle.mg_defs.specs.Texts.{row, count, line_too_long}
use Rattle.mg_defs.specs.Replies.{refusal, reply, session}
use Rattle.mg_defs.specs.Patterns.{Pattern, sides, bad, pattern_of, without_end_blanks, matches}
use Rattle.mg_defs.specs.Rotations.{rotation, key, rotation_count, matching_numbers}
use Rattle.mg_defs.specs.PlainSession.{plain_session, plain_replies, plain_text}
use Rattle.mg_defs.specs.WildSession.{term_row, bad_pattern, with_match, match_text, wild_reply, wild_session}
use Rattle.mg_defs.specs.Phrases.{phrase_of, phrase_places}
use Rattle.mg_defs.specs.PhraseSession.{with_places, found_text, phrase_reply, phrase_session}
use Rattle.mg_defs.specs.Join.{join}
use Rattle.mg_defs.proofs.CollectionExamples.{k}

-- ---- patterns

abbrev p : List ℕ → List ℕ → Pattern
p left right = record { left = left; right = right }

pattern_lines : (pattern_of (codes "*at") ≡ sides (p [] (codes "at"))) × (pattern_of (codes "C*") ≡ sides (p (codes "c") []))
    × (pattern_of (codes "*") ≡ sides (p [] [])) × (pattern_of (codes " \tD*G \t") ≡ sides (p (codes "d") (codes "g")))
unfolding pattern_of without_end_blanks
pattern_lines = (refl, refl, refl, refl)

bad_patterns : (pattern_of (codes "cat") ≡ bad 3) × (pattern_of (codes "c*a*") ≡ bad 3) × (pattern_of (codes ".set x") ≡ bad 0)
    × (pattern_of (codes "  cat \t") ≡ bad 5) × (pattern_of [] ≡ bad 0) × (pattern_of (codes " \t ") ≡ bad 3) × (pattern_of (codes "a *") ≡ bad 1)
    × (pattern_of (codes "a* b") ≡ bad 2) × (pattern_of (codes "*at\r ") ≡ bad 3) × (pattern_of (codes "**") ≡ bad 1) × (pattern_of (codes ".*") ≡ bad 0)
unfolding pattern_of without_end_blanks
bad_patterns = (refl, refl, refl, refl, refl, refl, refl, refl, refl, refl, refl)

-- the sides do not overlap
overlaps : (matches (p (codes "a") (codes "a")) (codes "a") ≡ false) × (matches (p (codes "a") (codes "a")) (codes "aa") ≡ true)
    × (matches (p (codes "ab") (codes "ba")) (codes "aba") ≡ false) × (matches (p (codes "ab") (codes "ba")) (codes "abba") ≡ true)
    × (matches (p [] []) (codes "x") ≡ true)
overlaps = (refl, refl, refl, refl, refl)

rotations : (rotation 0 (codes "cat") ≡ codes "cat" ++ 0 ∷ []) × (rotation 2 (codes "cat") ≡ 116 ∷ 0 ∷ codes "ca")
    × (rotation 3 (codes "cat") ≡ 0 ∷ codes "cat") × (key (p (codes "c") (codes "t")) ≡ 116 ∷ 0 ∷ codes "c")
    × (rotation_count (codes "cat" ∷ codes "ox" ∷ []) ≡ 7)
unfolding rotation key rotation_count
rotations = (refl, refl, refl, refl, refl)

-- ---- sessions of patterns

wild_rows : wild_session k (codes "*at\nd*g\nC*\n*\nc*cat\nzz*\ncat\nc*a*\n.set x\n")
    ≡ codes "+ cat 2\n+ sat 1\n1\n3\n= 2\n+ dog 2\n2\n3\n= 2\n+ cat 2\n1\n3\n= 2\n+ cat 2\n+ dog 2\n+ sat 1\n+ the 2\n1\n2\n3\n= 3\n= 0\n= 0\n? bad pattern at 3\n? bad pattern at 3\n? bad pattern at 0\n"
unfolding parse digits row count command words dot_of set_query set_mode set_most set_of value is_most ends pattern_of without_end_blanks plain_session
    plain_replies plain_text term_row bad_pattern with_match match_text wild_reply wild_session
wild_rows = refl

-- over one document "a": a*a matches nothing, and * the term
wild_edges : (wild_session (codes "a") (codes "a*a\na*\n\n \t \n.quit  \t\n*\n") ≡ codes "= 0\n+ a 1\n1\n= 1\n")
    × (wild_session (codes "a") (codes " .quit\n.quit now\n.QUIT\n*\r\n.quit\r\n*\n") ≡ codes
    "? bad pattern at 1\n? bad pattern at 0\n? bad pattern at 0\n+ a 1\n1\n= 1\n") × (wild_session [] (codes "*") ≡ codes "= 0\n")
unfolding parse digits row count command words dot_of set_query set_mode set_most set_of value is_most ends pattern_of without_end_blanks plain_session
    plain_replies plain_text term_row bad_pattern with_match match_text wild_reply wild_session
wild_edges = (refl, refl, refl)

-- of 1,025 bytes, the last of them a carriage return or not
wild_long : (wild_session [] (42 ∷ replicate 1024 120 ++ codes "\nx*\n") ≡ codes "? line too long\n= 0\n") × (wild_session [] (replicate 1023 120 ++ 42 ∷ codes "\n") ≡ codes "= 0\n")
unfolding parse digits row count line_too_long command words dot_of ends pattern_of without_end_blanks plain_session plain_replies plain_text term_row
    bad_pattern with_match match_text wild_reply wild_session
wild_long = (refl, refl)

-- ---- phrases

phrases : (phrase_of (codes "Cat, (CAT|") ≡ reads (codes "cat" ∷ codes "cat" ∷ [])) × (phrase_of (codes ", ,") ≡ reads [])
    × (phrase_of (flat_map (λ (n : ℕ). codes "a ") (replicate 64 0) ++ codes "b") ≡ refused (too_many 128))
    × (phrase_of (flat_map (λ (n : ℕ). codes "a ") (replicate 64 0) ++ replicate 256 98) ≡ refused (too_long 128))
    × (phrase_of (codes "a " ++ replicate 255 98) ≡ reads (codes "a" ∷ replicate 255 98 ∷ []))
unfolding phrase_of sign_of
phrases = (refl, refl, refl, refl, refl)

places : (phrase_places (codes "a" ∷ codes "a" ∷ []) (codes "a a a a ") ≡ 3) × (phrase_places [] (codes "a a") ≡ 0) × (phrase_places (codes "a" ∷ []) [] ≡ 0)
    × (phrase_places (codes "a" ∷ codes "b" ∷ codes "a" ∷ []) (codes "a.B-a b,a b") ≡ 2) ×
    (phrase_places (replicate 255 97 ∷ codes "a" ∷ []) (replicate 256 97) ≡ 1)
unfolding phrase_places parse
places = (refl, refl, refl, refl, refl)

phrase_rows : phrase_session k (codes "the cat\nCat, CAT\ncat\ncat dog\ndog cat\nzebra cat\n, ,\n.set\n.quit \ncat\n")
    ≡ codes "1 1\n= 1\n3 1\n= 1\n1 1\n3 2\n= 2\n3 1\n= 1\n= 0\n= 0\n= 0\n= 0\n"
unfolding parse digits sign_of row count refusal command words dot_of set_query set_mode set_most set_of value is_most ends plain_session plain_replies
    plain_text phrase_of phrase_places with_places found_text phrase_reply phrase_session
phrase_rows = refl

many : (phrase_session k (flat_map (λ (n : ℕ). codes "a ") (replicate 64 0) ++ codes "a\n") ≡ codes "? too many words at 128\n")
    × (phrase_session (codes "a a a a ") (codes "a a") ≡ codes "1 3\n= 1\n") × (phrase_session k (codes ".cat\n") ≡ codes "1 1\n3 2\n= 2\n")
unfolding parse digits sign_of row count refusal command words dot_of set_query set_mode set_most set_of value is_most ends plain_session plain_replies
    plain_text phrase_of phrase_places with_places found_text phrase_reply phrase_session
many = (refl, refl, refl)

-- ---- two collections in one

abbrev four : List ℕ
four = codes "a a a a "

joins : (join four k ≡ four ++ 2 ∷ k) × (length (join four k) ≡ 48) × (join k four ≡ k ++ four) × (length (join k four) ≡ 47)
    × (has_open_end (join k four) ≡ true) × (join four [] ≡ four ++ 2 ∷ []) × (join k k ≡ k ++ k) × (join [] four ≡ four) × (join [] [] ≡ [])
    × (join four four ≡ codes "a a a a " ++ 2 ∷ four) × (documents (join four four) ≡ four ∷ four ∷ []) × (documents (join (2 ∷ []) []) ≡ [] ∷ [])
unfolding join
joins = (refl, refl, refl, refl, refl, refl, refl, refl, refl, refl, refl, refl)

matching_of : matching_numbers (p [] (codes "at")) 0 (codes "cat" ∷ codes "dog" ∷ codes "sat" ∷ codes "the" ∷ []) ≡ 0 ∷ 2 ∷ []
unfolding matching_numbers
matching_of = refl

joined_numbers : (length (documents (join four k)) ≡ 4) × (length (sorted_pieces Words (join four k)) ≡ 6) × (length (sorted_pieces Others (join four k)) ≡ 5)
    × (length (dictionary (join four k)) ≡ 5) × (length (occurrences (join four k)) ≡ 12) × (session (join four k) (codes "cat\n") ≡ codes "2\n4\n= 2\n")
unfolding join parse digits sign_of row count command words dot_of set_query set_mode set_most set_of value is_most ends boolean query_of reply session
    heard_session replies line_text after_line answer_text found
joined_numbers = (refl, refl, refl, refl, refl, refl)
