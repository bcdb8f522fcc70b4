-- What a call that asks places of a query does, told of the two moments before and after it.
use Rattle.std.specs.Prelude.{◌≡◌, ◌≢◌, ℕ, ◌+◌, ◌≤◌, ◌<◌, List, length, slice_index_or, sum_by, Option, Some, None, Result, Err, IfErr, OnOk}
use Rattle.mg_dev.specs.Files.{Files, Reads}
use Rattle.mg_dev.specs.PartCauses.{HasPartCause}
use Rattle.mg_dev.specs.declared.part.Part.TheVariants as part
use Rattle.mg_dev.specs.declared.part_err.PartErr.{PartErr}
use Rattle.mg_dev.specs.declared.part_err.PartErr.TheVariants as err
use Rattle.mg_defs.specs.Lists.{block_count}
use Rattle.mg_post.specs.Cursor.{NamesItsPart, skip_pages}
use Rattle.mg_post.specs.Finding.{entries_pages}
use Rattle.mg_post.specs.TermLists.{ReadsLists}
use Rattle.mg_bool.specs.Places.{Place, PlaceFits, PlacesFit, SamePlace, SamePlaces}

-- ---- the pages of Skip

-- those that the cursor of a place has read
abbrev pub place_skips : Place → ℕ
place_skips None = 0
place_skips (Some c) = skip_pages c

-- those on which the entries of its list lie
abbrev pub place_entries : Place → ℕ
place_entries None = 0
place_entries (Some c) = entries_pages c.skip_at (block_count c.docs)

-- the cursor of a place has read no more of Skip than the entries of its list lie on, and the store's count rose by no more than the cursor's
pub record PlaceSkips (old now : Place) (before after : Reads) : Type 0 where
  pub within : place_skips old ≤ place_entries old → place_skips now ≤ place_entries now
  pub skip : after part.Skip + place_skips old ≤ before part.Skip + place_skips now

abbrev pub skips_read : List Place → ℕ
skips_read places = sum_by place_skips places

abbrev pub entries_of : List Place → ℕ
entries_of places = sum_by place_entries places

-- each cursor has read no more of Skip than the entries of its list lie on
abbrev pub SkipsWithin : List Place → Type 0
SkipsWithin places = (k : ℕ) → k < length places →
    place_skips (slice_index_or places k None) ≤ place_entries (slice_index_or places k None)

-- they still have, and the store's count rose by no more than theirs
pub record PlacesSkip (old now : List Place) (before after : Reads) : Type 0 where
  pub within : SkipsWithin old → SkipsWithin now
  pub skip : after part.Skip + skips_read old ≤ before part.Skip + skips_read now

-- ---- one call

-- a place is asked
pub record PlaceCall {T : Type 0} (old now : Place) (result : Result T PartErr) (files_before files_now : Option Files)
    (reads_before reads_now : Reads) (faults_before faults_now : ℕ) : Type 0 where
  -- what its cursor keeps agrees with the two parts
  pub fits : OnOk result (PlaceFits files_now now)
  -- it is over the same list
  pub same : SamePlace old now
  -- a damage is one of Post or Skip
  pub part : IfErr result NamesItsPart
  -- no other part is read
  pub reads : ReadsLists reads_before reads_now
  -- and of Skip no more than the entries of its list lie on
  pub skips : PlaceSkips old now reads_before reads_now
  -- nothing is written
  pub files : files_now ≡ files_before
  -- no memory is taken
  pub memory : result ≢ Err err.Memory
  -- a device's failure has a cause
  pub cause : HasPartCause faults_before faults_now result

-- some of the places of a query are asked
pub record PlacesCall {T : Type 0} (old now : List Place) (result : Result T PartErr)
    (files_before files_now : Option Files) (reads_before reads_now : Reads) (faults_before faults_now : ℕ) : Type 0
  where
    -- what their cursors keep agrees with the two parts
    pub fits : OnOk result (PlacesFit files_now now)
    -- they are over the same lists
    pub same : SamePlaces old now
    -- a damage is one of Post or Skip
    pub part : IfErr result NamesItsPart
    -- no other part is read
    pub reads : ReadsLists reads_before reads_now
    -- and of Skip no more than the entries of their lists lie on
    pub skips : PlacesSkip old now reads_before reads_now
    -- nothing is written
    pub files : files_now ≡ files_before
    -- no memory is taken
    pub memory : result ≢ Err err.Memory
    -- a device's failure has a cause
    pub cause : HasPartCause faults_before faults_now result
