-- What was put stays where no file changed.
use Rattle.std.proofs.Common.{◌≡◌, ℕ, List, Option, sym, subst}
use Rattle.mg_dev.specs.Files.{Files}
use Rattle.mg_make.specs.Putting.{HasPut, Putting}

pub still_put : (w : Putting) (before now : Option Files) (fed : List ℕ) → now ≡ before → HasPut w before fed → HasPut w now fed
still_put w before now fed same put = subst (λ files. HasPut w files fed) (sym same) put
