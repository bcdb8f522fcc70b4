-- What the parts of a base tell of a document that is shown or searched, whatever else they hold.
use Rattle.std.specs.Prelude.{◌≡◌, ℕ, ◌++◌, List, [], ◌∷◌, map, Some, IsSome}
use Rattle.std.specs.Bool.{OnTrue}
use Rattle.std.specs.declared.option.Option.{Option}
use Rattle.mg_dev.specs.Files.{Files, bytes_at}
use Rattle.mg_dev.specs.Names.{full_name}
use Rattle.mg_dev.specs.declared.part.Part.TheVariants as part
use Rattle.mg_defs.specs.CodedText.{TextCode}
use Rattle.mg_defs.specs.OnePass.{place_count_from}
use Rattle.mg_defs.specs.Parse.{Pair, text}
use Rattle.mg_defs.specs.Replies.{shows}
use Rattle.mg_defs.specs.ShownAnswers.{shown_as}
use Rattle.mg_defs.specs.Terms.{terms_of_words}
use Rattle.mg_defs.specs.Weights.{Hit}
use Rattle.mg_defs.specs.declared.session.Mode.{Mode}
use Rattle.mg_defs.specs.declared.session.Mode.TheVariants.{Docnums, Text, Count}
use Rattle.mg_defs.specs.declared.session.Settings.{Settings}
use Rattle.mg_layout.specs.declared.head.Head.{Head}
use Rattle.mg_text.specs.Stood.{PairsTold}
use Rattle.mg_reply.specs.Printed.{at_score}
use Rattle.mg_session.specs.Texts.{ModelsAre, Texting}

-- Words and Nonwords hold two codes, by the numbers of a head, and by them Places and Text tell of these pairs of a document.
pub record PairsStand (base : List ℕ) (files : Option Files) (head : Head) (number : ℕ) (pairs : List Pair) : Type 0
  where
    pub code : TextCode
    pub models : ModelsAre base files head code
    pub told : PairsTold code head.version head.text_bytes (bytes_at files (full_name base part.Places))
        (bytes_at files (full_name base part.Text)) number pairs

-- where the files are told, the pairs of a document stand in the parts of a text, and this is so of them
abbrev pub ForPairs : Texting → Option Files → ℕ → (List Pair → Type 0) → Type 0
ForPairs t files number fact = IsSome files → (pairs : List Pair) × PairsStand t.base files t.head number pairs
    × fact pairs

-- its bytes are those that they join to
abbrev pub IsDocOf : Texting → Option Files → ℕ → List ℕ → Type 0
IsDocOf t files number doc = ForPairs t files number (λ pairs. text pairs ≡ doc)

-- how many places a phrase has among words, counted in one pass
abbrev pub places_in_words : List (List ℕ) → List (List ℕ) → ℕ
places_in_words phrase words = place_count_from phrase [] (terms_of_words words)

-- a phrase has so many places among their words
abbrev pub ArePlacesIn : Texting → Option Files → List (List ℕ) → ℕ → ℕ → Type 0
ArePlacesIn t files phrase number places = ForPairs t files number (λ pairs.
    places ≡ places_in_words phrase (map (λ (p : Pair). p.word) pairs))

-- ---- where its text is shown

-- a fact where a mode shows texts
abbrev pub IfText : Mode → Type 0 → Type 0
IfText Docnums fact = Unit {0}
IfText Text fact = fact
IfText Count fact = Unit {0}

-- the same under settings, after so many documents
abbrev pub IfShown : Settings → ℕ → Type 0 → Type 0
IfShown now total fact = OnTrue (shows now.most total) (IfText now.mode fact)

-- rows of a ranked answer, in each of which the text that is shown is that of its document
abbrev pub AreRowsOf : (ℕ → List ℕ → Type 0) → Mode → List Hit → List ℕ → Type 0
AreRowsOf IsDoc m [] rows = rows ≡ []
AreRowsOf IsDoc m (hit ∷ hits) rows = (doc : List ℕ) × (rest : List ℕ) × IfText m (IsDoc hit.number doc)
    × (rows ≡ shown_as doc m (at_score hit.number (Some hit.score)) ++ rest) × AreRowsOf IsDoc m hits rest
