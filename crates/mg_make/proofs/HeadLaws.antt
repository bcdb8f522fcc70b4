-- A set without a head.
use Rattle.std.proofs.Common.{arith, ◌≡◌, ◌∙◌, ℕ, List, [], Option, Some, length, sym, ap}
use Rattle.mg_dev.specs.Files.{Files, file_at}
use Rattle.mg_dev.specs.Names.{full_name}
use Rattle.mg_dev.specs.declared.part.Part.TheVariants.{Head}
use Rattle.mg_defs.specs.Heads as heads
use Rattle.mg_defs.specs.Stands.{head_of}
use Rattle.mg_layout.specs.Stands.{StandsForNone}
use Rattle.mg_laws.proofs.CutHeads.{head_long}
use Rattle.std.specs.Option.{unwrap_or}

-- no head has no bytes
pub no_head : (h : heads.Head) → [] ≡ heads.head_bytes h → ⊥
no_head h is = omega (arith, ap length is, head_long h)

-- a set whose head is empty stands for no collection
pub empty_stands_for_none : (base : List ℕ) (now : Option Files) → file_at now (full_name base Head) ≡ Some [] → StandsForNone now base
empty_stands_for_none base now is = λ collection stands.
    let are = stands.stand.are in
    no_head (head_of stands.stand.version stands.stand.cap stands.stand.code collection) (sym (ap (λ (file : Option (List ℕ)). unwrap_or file []) is) ∙ are.head)
