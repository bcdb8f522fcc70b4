-- Weights stay while the working parts are written.
use Rattle.std.proofs.Common.{◌≡◌, ◌≢◌, ℕ, List}
use Rattle.std.specs.declared.option.Option.{Option}
use Rattle.mg_dev.specs.declared.part.Part.TheVariants.{MergeA, MergeB, Weights}
use Rattle.mg_dev.specs.Files.{Files, bytes_at, file_at}
use Rattle.mg_dev.specs.Laws.{same_part_of_name}
use Rattle.mg_dev.specs.Names.{full_name}

-- a file that stays has the same bytes
pub bytes_stay : (f g : Option Files) (name : List ℕ) → file_at g name ≡ file_at f name → bytes_at g name ≡ bytes_at f name
bytes_stay f g name same = cc

pub weights_stay : (base : List ℕ) (f g : Option Files) → ((n : List ℕ) → n ≢ full_name base MergeA → n ≢ full_name base MergeB → file_at g n ≡ file_at f n) →
    bytes_at g (full_name base Weights) ≡ bytes_at f (full_name base Weights)
weights_stay base f g others =
    bytes_stay f g (full_name base Weights) (others (full_name base Weights) (λ e. not_first (same_part_of_name base Weights MergeA e)) (λ e. not_second (same_part_of_name base Weights MergeB e)))
  where
    not_first : Weights ≢ MergeA
    not_first e = cc

    not_second : Weights ≢ MergeB
    not_second e = cc
