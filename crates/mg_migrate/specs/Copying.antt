-- Parts of one base that are made from those of another.
use Rattle.std.specs.Prelude.{◌≡◌, ◌≢◌, ◌<◌, ◌*◌, ◌^◌, ◌++◌, ℕ, List, length, take, drop, OnOk, Some}
use Rattle.std.specs.List.{All, flat_map}
use Rattle.std.specs.Option.{IsSome, is_some}
use Rattle.std.specs.declared.option.Option.{Option}
use Rattle.std.specs.declared.result.Result.{Result}
use Rattle.mg_dev.specs.Files.{Files, bytes_at, file_at, file_bytes}
use Rattle.mg_dev.specs.Names.{full_name}
use Rattle.mg_dev.specs.declared.file_ref.FileRef.{FileRef}
use Rattle.mg_bits.specs.Writer.{Writing, put_to}
use Rattle.mg_defs.specs.Numbers.{eight, four}

-- no file but the one of this name changed
pub record ChangedAlone (name : List ℕ) (before now : Option Files) : Type 0 where
  pub told : is_some now ≡ is_some before
  pub others : (n : List ℕ) → n ≢ name → file_at now n ≡ file_at before n

-- so many numbers below 2 ^ 32, in four bytes each
pub record AreNarrow (numbers bytes : List ℕ) (count : ℕ) : Type 0 where
  pub bytes_are : bytes ≡ flat_map four numbers
  pub small : All (λ number. number < 2 ^ 32) numbers
  pub count_is : length numbers ≡ count

-- the four bytes of a number stand at an index
pub record HasFour (bytes : List ℕ) (index number : ℕ) : Type 0 where
  pub small : number < 2 ^ 32
  pub here : take 4 (drop (4 * index) bytes) ≡ four number

-- ---- words for contracts

-- so many bytes of one file, from a place on, were added to another
abbrev pub HasCopied : FileRef → FileRef → ℕ → Option Files → Option Files → ℕ → Type 0
HasCopied from to at files files_now count =
    file_at files_now (full_name to.base.now to.part)
    ≡ Some (file_bytes to files ++ take count (drop at (file_bytes from files)))

-- the eight bytes of a number were put
abbrev pub PutsEight : {T E : Type 0} → Writing → Writing → Option Files → Option Files → Result T E → ℕ → Type 0
PutsEight w w_now files files_now result number = OnOk result (put_to w_now files_now ≡ put_to w files ++ eight number)

-- the eight bytes of each number were put
abbrev pub PutsEights : {T E : Type 0} → Writing → Writing → Option Files → Option Files → Result T E → List ℕ → Type 0
PutsEights w w_now files files_now result numbers =
    OnOk result (put_to w_now files_now ≡ put_to w files ++ flat_map eight numbers)

-- where the store tells its files, this is so of the number whose four bytes stand at an index of a file
abbrev pub ForNumberAt : Option Files → List ℕ → ℕ → (ℕ → Type 0) → Type 0
ForNumberAt files name index holds = IsSome files → (number : ℕ) → HasFour (bytes_at files name) index number →
    holds number

-- the store tells its files, and there is such a number
abbrev pub HasSomeFour : Option Files → List ℕ → ℕ → Type 0
HasSomeFour files name index = IsSome files × (number : ℕ) × HasFour (bytes_at files name) index number

-- where the store tells its files, this is so of the numbers, so many, whose four bytes each a file has
abbrev pub ForNarrow : Option Files → List ℕ → ℕ → (List ℕ → Type 0) → Type 0
ForNarrow files name count holds = IsSome files → (numbers : List ℕ) →
    AreNarrow numbers (bytes_at files name) count → holds numbers

-- the store tells its files, and there are such numbers
abbrev pub AreSomeNarrow : Option Files → List ℕ → ℕ → Type 0
AreSomeNarrow files name count = IsSome files × (numbers : List ℕ) × AreNarrow numbers (bytes_at files name) count

-- a file has these numbers, in eight bytes each
abbrev pub AreWide : Option Files → List ℕ → List ℕ → Type 0
AreWide files name numbers = bytes_at files name ≡ flat_map eight numbers
