-- The bits that a bit reader keeps of the page that its feed holds.
use Rattle.std.specs.Prelude.{◌<◌, ◌≤◌}
use Rattle.std.specs.declared.option.Option.{Option}
use Rattle.mg_dev.specs.Files.{Files}
use Rattle.mg_defs.specs.Bits.{Begins, FromPlace, digits}
use Rattle.mg_bits.specs.Feed.{Feeding, HoldsBits}
use Rattle.mg_bits.specs.declared.kept_bits.KeptBits.{KeptBits}

-- the page that is held has these bits at their place, whatever files the feed agrees with
pub record AreKept (feed : Feeding) (fits : Option Files → Type 0) (kept : KeptBits) : Type 0 where
  pub held : HoldsBits feed kept.start kept.count
  pub told : (files : Option Files) → fits files →
      FromPlace (feed.source files) kept.start (Begins (digits kept.count kept.word))

-- at most 64 bits are kept, and if there are any, they are bits of the page that is held
pub record Keeps (feed : Feeding) (fits : Option Files → Type 0) (kept : KeptBits) : Type 0 where
  pub few : kept.count ≤ 64
  pub are : 0 < kept.count → AreKept feed fits kept
