-- What stands for what a reader answered, whatever else its parts hold.
use Rattle.std.proofs.Common.{arith, ◌≡◌, ◌≢◌, ◌≤◌, ◌<◌, ◌+◌, ◌-◌, ◌*◌, ◌/◌, ◌%◌, inl, inr, ℕ, zero, suc, Bool, true, false, cond, List, [], ◌∷◌, drop, Some, None, refl, sym}
use Rattle.std.proofs.Common.{◌∙◌, ap, subst, add-one, IsSome, IfOk, Result, Ok, Err}
use Rattle.std.specs.Int.{div_ceil}
use Rattle.std.specs.declared.option.Option.{Option}
use Rattle.std.proofs.lemmas.Bool.{cases_lt}
use Rattle.mg_dev.specs.Files.{Files, bytes_at}
use Rattle.mg_dev.specs.declared.part_err.PartErr.{PartErr}
use Rattle.mg_defs.specs.Front.{Entry, is_below, read_entry}
use Rattle.mg_front.specs.Entries.{entry_of, found_of, string_of}
use Rattle.mg_front.specs.Reading.{Fronted, HasPlace, SameParts, TellsPlace}
use Rattle.mg_front.specs.Stood.{AbsentStands, BeginsSo, BlockStands, EntryStands, FindStands, InStands, IsRead, IsReadAt, NoneStands}
use Rattle.mg_front.specs.declared.entry.FrontEntry.{FrontEntry}

-- ---- entry after entry of a block

-- the entries before this number were read, the last of them is this, and the next is to stand there
abbrev pub ReadUpTo : ℕ → List ℕ → ℕ → ℕ → FrontEntry → ℕ → Type 0
ReadUpTo width bytes from zero out place = place ≡ from
ReadUpTo width bytes from (suc n) out place = IsRead width bytes from n (entry_of width out) place

-- a whole entry is read the same behind any string
whole_any : (width : ℕ) (before bytes : List ℕ) → read_entry width 0 before bytes ≡ read_entry width 0 [] bytes
unfolding read_entry
whole_any width before [] = refl
whole_any width before (n ∷ bytes) = refl

pub read_next : (width number from place size : ℕ) (bytes : List ℕ) (old new : FrontEntry) (found : Option ℕ) → ReadUpTo width bytes from number old place → found ≡ Some size →
    read_entry width number (string_of old) (drop place bytes) ≡ found_of width new found → IsRead width bytes from number (entry_of width new) (place + size)
read_next width zero from place size bytes old new found at is read = (
  size,
  sym (whole_any width (string_of old) (drop from bytes)) ∙ ap (λ p. read_entry width 0 (string_of old) (drop p bytes)) (sym at) ∙ read ∙ ap (found_of width new) is,
  omega (arith, at),
)
read_next width (suc n) from place size bytes old new found at is read = (entry_of width old, place, size, at, read ∙ ap (found_of width new) is, refl)

pub up_to_next : (width number from next : ℕ) (bytes : List ℕ) (new : FrontEntry) → IsRead width bytes from number (entry_of width new) next →
    ReadUpTo width bytes from (number + 1) new next
up_to_next width number from next bytes new read = rw add-one read

-- the last of them
pub last_up_to : (width number last from place : ℕ) (bytes : List ℕ) (out : FrontEntry) → number ≡ last + 1 → ReadUpTo width bytes from number out place →
    IsReadAt width bytes from last (entry_of width out)
last_up_to width number last from place bytes out is read =
    let here : number ≡ suc last = omega (arith, is) in (place, subst (λ n. ReadUpTo width bytes from n out place) here read)

-- none of the first so many has the string
abbrev pub NoneUpTo : ℕ → List ℕ → ℕ → List ℕ → ℕ → Type 0
NoneUpTo width bytes from string number = (k : ℕ) → k < number → (e : Entry) × IsReadAt width bytes from k e × (e.string ≢ string)

pub none_more : (width number from next : ℕ) (bytes string : List ℕ) (e : Entry) → NoneUpTo width bytes from string number → IsRead width bytes from number e next →
    e.string ≢ string → NoneUpTo width bytes from string (number + 1)
none_more width number from next bytes string e none read other k lt =
    elim (cases_lt k number) [
      | inl before ↦ none k before
      | inr past ↦
          let here : number ≡ k = omega (arith, lt, past) in
          (e, (next, subst (λ n. IsRead width bytes from n e next) here read), other)
    ]

-- ---- an entry of a block

pub entry_stands : (w : Fronted) {f g : Option Files} (block number place : ℕ) (e : Entry) → g ≡ f → IsSome f → TellsPlace (Ok place) w.places f block →
    (IsSome g → IsReadAt w.width (bytes_at g w.strings.name) place number e) → EntryStands w f block number e
entry_stands w block number place e same told tells read = record {
  from = place;
  place = tells.1 told;
  read = subst (λ h. IsReadAt w.width (bytes_at h w.strings.name) place number e) same (read (subst IsSome (sym same) told));
}

pub in_block : (r : Fronted) (f : Option Files) (block number : ℕ) (e : Entry) → number < 4 → EntryStands r f block number e →
    EntryStands r f ((4 * block + number) / 4) ((4 * block + number) % 4) e
in_block r f block number e few stands =
    let same_block : block ≡ (4 * block + number) / 4 = omega arith in
    let same_number : number ≡ (4 * block + number) % 4 = omega arith in
    subst (λ b. EntryStands r f b ((4 * block + number) % 4) e) same_block (subst (λ n. EntryStands r f block n e) same_number stands)

-- over the same parts
pub stands_as : (s t : Fronted) (f g : Option Files) (block number : ℕ) (e : Entry) → SameParts s t → g ≡ f → EntryStands t g block number e → EntryStands s f block number e
stands_as s t f g block number e same files stands = record {
  from = stands.from;
  place = subst (λ h. HasPlace (bytes_at h s.places.name) block stands.from) files (subst (λ n. HasPlace (bytes_at g n) block stands.from) same.places stands.place);
  read = subst (λ h. IsReadAt s.width (bytes_at h s.strings.name) stands.from number e) files (subst (λ n. IsReadAt s.width (bytes_at g n) stands.from number e) same.strings
      (subst (λ w. IsReadAt w (bytes_at g t.strings.name) stands.from number e) same.width stands.read));
}

-- ---- the block of a string

-- the block before low begins at or before the string, and that at high above it
pub record HalvesStand (r : Fronted) (f : Option Files) (string : List ℕ) (low high : ℕ) : Type 0 where
  pub below : 0 < low → BeginsSo r f (low - 1) string false
  pub above : high < div_ceil r.count 4 → BeginsSo r f high string true

pub begins_so : (s t : Fronted) (f g : Option Files) (middle : ℕ) (string : List ℕ) (above : Bool) (out : FrontEntry) → SameParts s t → g ≡ f →
    EntryStands t g (4 * middle / 4) (4 * middle % 4) (entry_of t.width out) → above ≡ is_below string (string_of out) → BeginsSo s f middle string above
begins_so s t f g middle string above out same files stands is =
    let same_block : 4 * middle / 4 ≡ middle = omega arith in
    let same_number : 4 * middle % 4 ≡ 0 = omega arith in
    let e = entry_of t.width out in
    (e, stands_as s t f g middle 0 e same files (subst (λ b. EntryStands t g b 0 e) same_block (subst (λ n. EntryStands t g (4 * middle / 4) n e) same_number stands)), sym is)

pub halves_start : (r : Fronted) (f : Option Files) (string : List ℕ) (low high : ℕ) → low ≡ 0 → div_ceil r.count 4 ≤ high → HalvesStand r f string low high
halves_start r f string low high none all = record { below = λ some. absurd (omega (arith, some, none)); above = λ less. absurd (omega (arith, less, all)) }

pub halves_step : (r : Fronted) (f : Option Files) (string : List ℕ) (above : Bool) (low high middle l h : ℕ) → l ≡ cond above low (middle + 1) → h ≡ cond above middle high →
    BeginsSo r f middle string above → HalvesStand r f string low high → HalvesStand r f string l h
halves_step r f string true low high middle l h low_is high_is begins halves = record {
  below = λ some. subst (λ n. BeginsSo r f (n - 1) string false) (sym low_is) (halves.below (let p : 0 < low = omega (arith, some, low_is) in p));
  above = λ less. subst (λ n. BeginsSo r f n string true) (sym high_is) begins;
}
halves_step r f string false low high middle l h low_is high_is begins halves = record {
  below = λ some. let here : middle ≡ l - 1 = omega (arith, low_is) in subst (λ n. BeginsSo r f n string false) here begins;
  above = λ less. subst (λ n. BeginsSo r f n string true) (sym high_is) (halves.above (let p : high < div_ceil r.count 4 = omega (arith, less, high_is) in p));
}

pub halves_none : (r : Fronted) (f : Option Files) (string : List ℕ) (low high : ℕ) → low ≡ 0 → high ≤ low → HalvesStand r f string low high → BlockStands r f string None
halves_none r f string low high none end halves =
    let here : high ≡ 0 = omega (arith, none, end) in subst (λ n. n < div_ceil r.count 4 → BeginsSo r f n string true) here halves.above

pub halves_some : (r : Fronted) (f : Option Files) (string : List ℕ) (low high : ℕ) → 0 < low → low ≡ high → HalvesStand r f string low high → BlockStands r f string (Some (low - 1))
halves_some r f string low high some end halves =
    let here : high ≡ low - 1 + 1 = omega (arith, some, end) in
    (halves.below some, subst (λ n. n < div_ceil r.count 4 → BeginsSo r f n string true) here halves.above)

-- ---- what looking a string up answered

none_as : (s t : Fronted) (f g : Option Files) (block : ℕ) (string : List ℕ) → SameParts s t → g ≡ f → NoneStands t g block string → NoneStands s f block string
none_as s t f g block string same files none k few below =
    let it = none k few (omega (arith, below, same.count)) in
    (it.0, stands_as s t f g block k it.0 same files it.1, it.2)

pub absent_first : (r : Fronted) (f : Option Files) (string : List ℕ) → BlockStands r f string None → AbsentStands r f string
absent_first r f string above = record {
  low = 0;
  within = omega arith;
  below = λ some. absurd (omega (arith, some));
  none = λ some. absurd (omega (arith, some));
  above = above;
}

pub found_stands : (s t : Fronted) (f g : Option Files) (string : List ℕ) (block : ℕ) (out : FrontEntry) (r : Result (Option ℕ) PartErr) → SameParts s t → g ≡ f →
    4 * block < s.count → BlockStands s f string (Some block) → IfOk r (λ found. InStands t g block string out found) → IfOk r (λ found. FindStands s f string out found)
found_stands s t f g string block out (Ok (Some i)) same files within around it = (
  omega (arith, it.0, same.count),
  subst (λ w. EntryStands s f (i / 4) (i % 4) (entry_of w out)) same.width (stands_as s t f g (i / 4) (i % 4) (entry_of t.width out) same files it.1),
  it.2,
)
found_stands s t f g string block out (Ok None) same files within around none = record {
  low = block + 1;
  within = omega (arith, within);
  below = λ some. let here : block ≡ block + 1 - 1 = omega arith in subst (λ b. BeginsSo s f b string false) here around.0;
  none = λ some. let here : block ≡ block + 1 - 1 = omega arith in subst (λ b. NoneStands s f b string) here (none_as s t f g block string same files none);
  above = around.1;
}
found_stands s t f g string block out (Err refusal) same files within around it = tt

pub absent_as : (s t : Fronted) (f g : Option Files) (string : List ℕ) → SameParts s t → g ≡ f → AbsentStands t g string → AbsentStands s f string
absent_as s t f g string same files absent = record {
  low = absent.low;
  within = omega (arith, absent.within, ap (λ n. div_ceil n 4) same.count);
  below = λ some. begins_as (absent.low - 1) false (absent.below some);
  none = λ some. none_as s t f g (absent.low - 1) string same files (absent.none some);
  above = λ less. begins_as absent.low true (absent.above (subst (λ n. absent.low < div_ceil n 4) (sym same.count) less));
}
  where
    begins_as : (block : ℕ) (b : Bool) → BeginsSo t g block string b → BeginsSo s f block string b
    begins_as block b begins = (begins.0, stands_as s t f g block 0 begins.0 same files begins.1, begins.2)
