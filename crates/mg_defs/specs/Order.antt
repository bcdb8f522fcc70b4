-- The order of a ranked answer.
use Rattle.std.specs.Prelude.{◌≡◌, ◌<◌, ◌⊎◌, List, [], ◌∷◌}
use Rattle.std.specs.List.{AllByRecursion}
use Rattle.mg_defs.specs.Weights.{Hit}

-- by falling score, ties by rising number
abbrev pub RanksBefore : Hit → Hit → Type 0
RanksBefore a b = (b.score < a.score) ⊎ ((a.score ≡ b.score) × (a.number < b.number))

-- each before all that follow it
abbrev pub AreSorted : List Hit → Type 0
AreSorted [] = Unit {0}
AreSorted (h ∷ hs) = AllByRecursion (RanksBefore h) hs × AreSorted hs

-- the numbers rise
abbrev pub AreRisingByNumber : List Hit → Type 0
AreRisingByNumber [] = Unit {0}
AreRisingByNumber (h ∷ hs) = AllByRecursion (λ (x : Hit). h.number < x.number) hs × AreRisingByNumber hs
