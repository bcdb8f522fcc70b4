-- What a pass over two texts has done, and what it leaves alone.
use Rattle.std.specs.Prelude.{◌≡◌, ◌≤◌, ◌+◌, ℕ, List, length}
use Rattle.std.specs.declared.option.Option.{Option}
use Rattle.mg_dev.specs.Files.{Files}
use Rattle.mg_make.specs.Plans.{IsPlanOf, Plan}
use Rattle.mg_make.specs.Putting.{IsApart}
use Rattle.mg_merge.specs.Texts.{AreFirst, TextsFit, TextsStand, TwoTexts}

-- n documents of the texts were given, and so many bytes are left
pub record AreGiven (t : TwoTexts) (files : Option Files) (n left : ℕ) (fed : List ℕ) : Type 0 where
  pub size : length fed + left ≡ t.size
  pub told : (collection : List ℕ) → TextsStand t files collection → AreFirst n fed collection

-- all documents were given
pub record AreAllGiven (t : TwoTexts) (files : Option Files) (fed : List ℕ) : Type 0 where
  pub size : length fed ≤ t.size
  pub told : (collection : List ℕ) → TextsStand t files collection → fed ≡ collection

-- no part of a set of this base is read
pub record AreApart (base : List ℕ) (t : TwoTexts) : Type 0 where
  pub first_text : IsApart base t.first.text.name
  pub first_places : IsApart base t.first.places.name
  pub second_text : IsApart base t.second.text.name
  pub second_places : IsApart base t.second.places.name

-- two texts that are read for a set of this base
pub record AreTextsApart (base : List ℕ) (t : TwoTexts) (files : Option Files) : Type 0 where
  -- the pages that are held agree with the files
  pub fits : TextsFit t files
  -- no part of the set is read
  pub apart : AreApart base t

-- the texts stand for a collection, and this is its plan
abbrev pub IsPlanned : Plan → TwoTexts → Option Files → List ℕ → Type 0
IsPlanned plan t files collection = TextsStand t files collection × IsPlanOf plan collection

-- the texts stand for some collection of which this is the plan
abbrev pub ArePlanned : Plan → TwoTexts → Option Files → Type 0
ArePlanned plan t files = (collection : List ℕ) × IsPlanned plan t files collection
