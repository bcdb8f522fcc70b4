-- Pairs of which the reader holds the bits.
use Rattle.std.specs.Prelude.{◌≤◌, Ok}
use Rattle.std.specs.declared.option.Option.{Option}
use Rattle.mg_dev.specs.Files.{Files}
use Rattle.mg_dev.specs.Moments.{SinkAt}
use Rattle.mg_bits.specs.Feed.{Feeding, Device as Seen}
use Rattle.mg_bits.specs.Reading.{Reading}
use Rattle.mg_defs.specs.CodedText.{TextCode}
use Rattle.mg_text.specs.Decoding.{Gathering, PairCame, ShowsPair, bytes_to_come}

-- the pair whose codewords stand there is held: whatever device the reader agrees with and whatever sink there is, none
-- is asked
abbrev pub ShowsHeld : {Fed : Type 0} → (Fed → Feeding) → (Option Files → Type 0) → Reading Fed → Reading Fed →
    Gathering → Gathering → TextCode → Type 0
ShowsHeld feeding fits r r_now b b_now code = (d : Seen) (sink : SinkAt) → fits d.files →
    ShowsPair code (Ok tt)
    (record { feed = feeding r.feed; place = r.place; device = d; held = b; sink = sink })
    (record { feed = feeding r_now.feed; place = r_now.place; device = d; held = b_now; sink = sink })

-- and those codewords stood there
abbrev pub CameHeld : {Fed : Type 0} → (Fed → Feeding) → (Option Files → Type 0) → Reading Fed → Reading Fed →
    Gathering → Gathering → TextCode → Type 0
CameHeld feeding fits r r_now b b_now code = (d : Seen) (sink : SinkAt) → fits d.files →
    PairCame code
    (record { feed = feeding r.feed; place = r.place; device = d; held = b; sink = sink })
    (record { feed = feeding r_now.feed; place = r_now.place; device = d; held = b_now; sink = sink })

-- a pair is held, and no device is asked
pub record HoldsPair {Fed : Type 0} (feeding : Fed → Feeding) (fits : Fed → Option Files → Type 0) (r r_now : Reading Fed)
    (b b_now : Gathering) (code : TextCode) : Type 0 where
  -- the pair is held
  pub told : ShowsHeld feeding (fits r.feed) r r_now b b_now code
  -- it stood there
  pub stood : CameHeld feeding (fits r.feed) r r_now b b_now code
  -- no more bytes may come than might
  pub most : bytes_to_come b_now ≤ bytes_to_come b
