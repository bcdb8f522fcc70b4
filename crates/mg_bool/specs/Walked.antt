-- What a walk to the next document does, told of the two moments before and after it.
use Rattle.std.specs.Prelude.{◌≡◌, ◌≢◌, ℕ, ◌<◌, ◌≤◌, Bool, List, length, Option, Result, None, Ok, Err, IfErr, IfOk, IfSome, OnOk}
use Rattle.mg_dev.specs.Files.{Files, Reads}
use Rattle.mg_dev.specs.PartCauses.{HasPartCause}
use Rattle.mg_dev.specs.declared.part_err.PartErr.{PartErr}
use Rattle.mg_dev.specs.declared.part_err.PartErr.TheVariants as err
use Rattle.mg_defs.specs.Sat.{Query}
use Rattle.mg_post.specs.Cursor.{NamesItsPart}
use Rattle.mg_post.specs.TermLists.{ReadsLists}
use Rattle.mg_bool.specs.Places.{Place, PlacesFit, PlacesOn, SamePlaces}
use Rattle.mg_bool.specs.Calls.{PlacesSkip}
use Rattle.mg_bool.specs.Matches.{FindsNext, IsWithin, ReadsBetween}
use Rattle.mg_bool.specs.Shown.{DecidesShown, WalkStands}
use Rattle.mg_bool.specs.declared.walk.Walk.{Walk}

-- where a walk stands
pub record Spot : Type 0 where
  pub places : List Place
  pub there : List Bool
  pub decided : ℕ

abbrev pub spot : {S : Type 0} → Walk S → Spot
spot w = record { places = w.places.items; there = w.there.items; decided = w.decided }

-- it may go on
pub record IsReady (files : Option Files) (led : Option ℕ) (all : ℕ) (old : Spot) : Type 0 where
  pub fits : PlacesFit files old.places
  pub on : (base : List ℕ) × PlacesOn base all old.places
  pub lead : IsWithin led (length old.places)
  pub there : length old.there ≡ length old.places
  pub most : old.decided ≤ all

-- it goes to the next document that satisfies the query, over the same lists
pub record Walked (q : Query) (led : Option ℕ) (all : ℕ) (old now : Spot) (result : Result (Option ℕ) PartErr)
    (files_before files_now : Option Files) (reads_before reads_now : Reads) (faults_before faults_now : ℕ) : Type 0
  where
    pub fits : OnOk result (PlacesFit files_now now.places)
    pub same : SamePlaces old.places now.places
    pub there : length now.there ≡ length old.there
    pub most : now.decided ≤ all
    pub later : old.decided ≤ now.decided
    pub range : IfOk result (λ found. IfSome found (λ doc. (old.decided < doc) × (doc ≤ all) × (now.decided ≡ doc)))
    pub last : result ≡ Ok None → now.decided ≡ all
    pub answer : FindsNext q files_before led all old.places now.places old.decided (λ _. now.decided) result
    pub pages : ReadsBetween q files_before reads_before reads_now led all old.places now.places old.decided
    -- whatever the parts have, each document that was decided is shown to satisfy the query or not
    pub shows : WalkStands q files_before old.places old.decided →
        IfOk result (λ found. DecidesShown q files_before old.places led all old.decided found
        × WalkStands q files_now now.places now.decided)
    pub part : IfErr result NamesItsPart
    pub reads : ReadsLists reads_before reads_now
    -- and of Skip no more than the entries of the lists lie on
    pub skips : PlacesSkip old.places now.places reads_before reads_now
    pub files : files_now ≡ files_before
    pub memory : result ≢ Err err.Memory
    pub cause : HasPartCause faults_before faults_now result
