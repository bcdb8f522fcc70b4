-- Generated texts. A generator has a state, a number below 2 ^ 64, and each draw steps it.
use Rattle.std.specs.Prelude.{ℕ, zero, suc, ◌+◌, ◌*◌, ◌/◌, ◌%◌, ◌^◌, ◌==◌, nat_lt, if◌then◌else◌, List, [], ◌∷◌, ◌++◌, flat_map, get_or, codes}
use Rattle.std.specs.Char.{to_ascii_uppercase}

-- the state after a draw
unfoldable pub stepped : ℕ → ℕ
stepped x = (x * 6364136223846793005 + 1442695040888963407) % 2 ^ 64

-- the number below n that a draw from this state gives: by the high bits of the state after it
unfoldable pub draw : ℕ → ℕ → ℕ
draw n x = stepped x / 2 ^ 33 % n

-- ---- words

abbrev pub syllables : List (List ℕ)
syllables =
    codes "ba" ∷ codes "ce" ∷ codes "di" ∷ codes "fo" ∷ codes "gu" ∷ codes "ha" ∷ codes "je" ∷ codes "ki" ∷
    codes "lo" ∷ codes "mu" ∷ codes "na" ∷ codes "pe" ∷ codes "ri" ∷ codes "so" ∷ codes "tu" ∷ (118 ∷ 195 ∷ 169 ∷ []) ∷
    []

-- of a digit in base 16
unfoldable pub syllable : ℕ → List ℕ
syllable digit = get_or syllables digit []

-- the digits in base 16, the highest first: as many as the number needs, at least two and at most `more` besides
abbrev pub base16 : ℕ → ℕ → List ℕ
base16 zero i = i / 16 ∷ i % 16 ∷ []
base16 (suc more) i = if nat_lt i 256 then i / 16 ∷ i % 16 ∷ [] else base16 more (i / 16) ++ i % 16 ∷ []

-- the word of a number below 2 ^ 64
unfoldable pub made_word : ℕ → List ℕ
made_word i = flat_map syllable (base16 14 i)

-- with an ASCII capital in front
abbrev pub capital : List ℕ → List ℕ
capital [] = []
capital (b ∷ bytes) = to_ascii_uppercase b ∷ bytes

-- ---- what is made from a state

-- bytes, and the state after them
pub record Made : Type 0 where
  pub bytes : List ℕ
  pub state : ℕ

-- bytes that take no draw
unfoldable pub made_bytes : List ℕ → ℕ → Made
made_bytes bytes x = record { bytes = bytes; state = x }

-- one and then the other
unfoldable pub made_both : (ℕ → Made) → (ℕ → Made) → ℕ → Made
made_both first next x = record {
  bytes = (first x).bytes ++ (next (first x).state).bytes;
  state = (next (first x).state).state;
}

-- each in turn
unfoldable pub made_in_turn : List (ℕ → Made) → ℕ → Made
made_in_turn [] = made_bytes []
made_in_turn (first ∷ rest) = made_both first (made_in_turn rest)

-- so many, one after the other
unfoldable pub repeated : ℕ → (ℕ → Made) → ℕ → Made
repeated zero each = made_bytes []
repeated (suc n) each = made_both each (repeated n each)

-- ---- a collection

-- a word whose number is drawn below one more than a number that is drawn first: low numbers come often
unfoldable pub pick : ℕ → Made
pick x = record { bytes = made_word (draw (draw 2000 x + 1) (stepped x)); state = stepped (stepped x) }

unfoldable pub capital_pick : ℕ → Made
capital_pick x = record { bytes = capital (pick x).bytes; state = (pick x).state }

-- what stands before a word that is not the first of its sentence: at 0 of eight also a comma
unfoldable pub separator : ℕ → Made
separator x = record { bytes = (if draw 8 x == 0 then codes ", " else codes " "); state = stepped x }

-- four to twelve words, the first with a capital
unfoldable pub sentence : ℕ → Made
sentence x = made_in_turn (capital_pick ∷ repeated (3 + draw 9 x) (made_both separator pick) ∷
    made_bytes (codes ".\n") ∷ []) (stepped x)

-- one to six
unfoldable pub sentences : ℕ → Made
sentences x = repeated (1 + draw 6 x) sentence (stepped x)

unfoldable pub heading : ℕ → Made
heading =
    made_in_turn (made_bytes (codes "From: ") ∷ pick ∷ made_bytes (codes "@") ∷ pick ∷ made_bytes (codes ".example\n") ∷
    made_bytes (codes "Subject: ") ∷ pick ∷ made_bytes (codes " ") ∷ pick ∷ made_bytes (codes " ") ∷ pick ∷
    made_bytes (codes "\n\n") ∷ [])

-- closed by its byte 2
unfoldable pub mail : ℕ → Made
mail = made_in_turn (heading ∷ sentences ∷ made_bytes (2 ∷ []) ∷ [])

-- so many documents from one generator, whose first state is the seed
unfoldable pub made_collection : ℕ → ℕ → List ℕ
made_collection seed docs = (repeated docs mail seed).bytes

-- ---- a session

-- a word
unfoldable pub one_word : ℕ → Made
one_word = made_in_turn (pick ∷ made_bytes (codes "\n") ∷ [])

-- a word without another
unfoldable pub one_without : ℕ → Made
one_without = made_in_turn (pick ∷ made_bytes (codes " & !") ∷ pick ∷ made_bytes (codes "\n") ∷ [])

-- one of two words, and a third
unfoldable pub either_and : ℕ → Made
either_and = made_in_turn (made_bytes (codes "(") ∷ pick ∷ made_bytes (codes " | ") ∷ pick ∷ made_bytes (codes ") ") ∷
    pick ∷ made_bytes (codes "\n") ∷ [])

-- three words by rank, ten rows at most
unfoldable pub made_ranked : ℕ → Made
made_ranked =
    made_in_turn (made_bytes (codes ".set query ranked\n") ∷ made_bytes (codes ".set maxdocs 10\n") ∷ pick ∷
    made_bytes (codes " ") ∷ pick ∷ made_bytes (codes " ") ∷ pick ∷ made_bytes (codes "\n") ∷
    made_bytes (codes ".set query boolean\n") ∷ made_bytes (codes ".set maxdocs all\n") ∷ [])

unfoldable pub four_queries : ℕ → Made
four_queries = made_in_turn (one_word ∷ one_without ∷ either_and ∷ made_ranked ∷ [])

-- forty queries, the first state one above the seed
unfoldable pub made_session : ℕ → List ℕ
made_session seed = (repeated 10 four_queries ((seed + 1) % 2 ^ 64)).bytes
