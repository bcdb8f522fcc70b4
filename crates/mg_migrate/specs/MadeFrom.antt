-- What making a set from one with a head leaves.
use Rattle.std.specs.Prelude.{◌≡◌, ◌⊎◌, ℕ, List, IsSome}
use Rattle.std.specs.declared.option.Option.{Option}
use Rattle.mg_dev.specs.Files.{Files}
use Rattle.mg_dev.specs.declared.status.Status.{Status}
use Rattle.mg_dev.specs.declared.status.Status.TheVariants.{Done}
use Rattle.mg_layout.specs.HeadAnswers.{fields_of}
use Rattle.mg_layout.specs.Stands.{ForSetBy}
use Rattle.mg_layout.specs.declared.head.Head.{Head}
use Rattle.mg_make.specs.Putting.{OthersSame}
use Rattle.mg_make.specs.Outcomes.{AreMadeAnew, Left}
use Rattle.mg_migrate.specs.Migrating.{HasBegun, IsTakenOver}

-- of the set of one name with this head, made anew under another, by the files before and after, and the status
pub record MadeFrom (head : Head) (name new : List ℕ) (before now : Option Files) (status : Status) : Type 0 where
  -- status 0: the new set is made; whatever the old one's bytes mean, its parts are taken over
  pub done : ForSetBy head before name (λ _ collection. status ≡ Done → AreMadeAnew now new collection head.cap)
  pub copied : IsSome before → status ≡ Done → IsTakenOver (fields_of head) name new before now
  -- every status: all files are as before, or the new set stands for none, or for this collection; and its head was begun
  pub left : ForSetBy head before name (λ _ collection. Left new before now collection)
  pub begun : IsSome before → (now ≡ before) ⊎ HasBegun (fields_of head) now new
  pub others : OthersSame new before now
