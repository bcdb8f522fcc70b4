-- Files that no call of a set may touch.
use Rattle.std.proofs.Common.{◌≡◌, ℕ, List, Option, ap, is_some, ◌∙◌}
use Rattle.mg_dev.specs.Files.{Files, file_at}
use Rattle.mg_make.specs.Putting.{OthersSame}

pub others_more : (base : List ℕ) (f g h : Option Files) → OthersSame base f g → OthersSame base g h → OthersSame base f h
others_more base f g h one two = record { told = two.told ∙ one.told; others = λ name apart. two.others name apart ∙ one.others name apart }

pub others_none : (base : List ℕ) (f g : Option Files) → g ≡ f → OthersSame base f g
others_none base f g same = record { told = ap is_some same; others = λ name apart. ap (λ files. file_at files name) same }
