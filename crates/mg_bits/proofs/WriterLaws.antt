-- What writes do to what was written.
use Rattle.std.proofs.Common.{arith, ◌≡◌, ◌+◌, ◌≤◌, ◌<◌, ◌++◌, ◌⊎◌, inl, inr, ℕ, List, [], ◌∷◌, length, take, set, sym, ◌∙◌, ap, is_some, length-set}
use Rattle.std.specs.declared.option.Option.{Option}
use Rattle.std.proofs.lemmas.List.{take_more_set, take_all}
use Rattle.mg_dev.specs.Files.{Files, Reads, SameReads, written, file_at}
use Rattle.mg_dev.specs.Laws.{told-written, file_at-other}
use Rattle.mg_bits.specs.Writer.{WroteTo}

pub wrote_nothing : (name : List ℕ) (files now : Option Files) (reads reads_now : Reads) → now ≡ files → SameReads reads reads_now → WroteTo name files now reads reads_now
wrote_nothing name files now reads reads_now e same = record { told = ap is_some e; others = λ n apart. ap (λ f. file_at f n) e; reads = same }

pub wrote_written : (name x : List ℕ) (files now : Option Files) (reads reads_now : Reads) → now ≡ written files name x → SameReads reads reads_now → WroteTo name files now reads reads_now
wrote_written name x files now reads reads_now e same = record {
  told = ap is_some e ∙ told-written files name x;
  others = λ n apart. ap (λ f. file_at f n) e ∙ file_at-other files name x n apart;
  reads = same;
}

pub wrote_reset : (name : List ℕ) (files now : Option Files) (reads reads_now : Reads) → (now ≡ files) ⊎ (now ≡ written files name []) →
    SameReads reads reads_now → WroteTo name files now reads reads_now
wrote_reset name files now reads reads_now (inl e) same = wrote_nothing name files now reads reads_now e same
wrote_reset name files now reads reads_now (inr e) same = wrote_written name [] files now reads reads_now e same

-- the byte that fills the page stands behind those that were held
pub whole_page : (page : List ℕ) (used byte : ℕ) → used < length page → length page ≤ used + 1 → set page used byte ≡ take used page ++ byte ∷ []
whole_page page used byte within last = sym (take_all (used + 1) (set page used byte) (omega (arith, length-set page used byte))) ∙ take_more_set page used byte within
