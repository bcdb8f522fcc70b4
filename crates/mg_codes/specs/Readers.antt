-- What a reader of a code needs, by the functions that tell what contracts see of its feed and its device.
use Rattle.std.specs.Prelude.{◌≡◌, ℕ, ◌^◌, ◌≤◌, ◌<◌, length, Option}
use Rattle.mg_dev.specs.Files.{Files}
use Rattle.mg_defs.specs.Bits.{Begins, Bits, FromPlace}
use Rattle.mg_bits.specs.Feed.{Feeding, Device, HoldsBits}
use Rattle.mg_bits.specs.Reading.{Reading}

-- a parameter of Golomb and short codes
pub record IsParameter (b : ℕ) : Type 0 where
  pub some : 1 ≤ b
  pub small : b < 2 ^ 48

-- a code can be read from the reader's place on, up to a limit
pub record CanRead {Fed Dev : Type 0} (last limit : ℕ) (agrees : Fed → Option Files → Type 0) (device : Dev → Device)
    (r : Reading Fed) (d : Dev) : Type 0 where
  -- the feed agrees with its device
  pub fits : agrees r.feed (device d).files
  -- the place is at most this one, so that the bits of a code behind it can be counted
  pub place : r.place ≤ last
  -- the limit lets some number be read
  pub some : 1 ≤ limit
  -- and none of more than 48 bits
  pub small : limit < 2 ^ 48

-- The code of a number that is taken stands at the reader's place, so many bits, and the page that is held has all of them.
pub record IsHeldCode {Fed : Type 0} (taken : ℕ → ℕ → Type 0) (limit : ℕ) (code : ℕ → Bits)
    (agrees : Fed → Option Files → Type 0)
    (feeding : Fed → Feeding) (r : Reading Fed) (number count : ℕ) : Type 0 where
  -- the number is one that is taken
  pub range : taken limit number
  pub some : 1 ≤ count
  -- the reader looks at 57 bits
  pub small : count ≤ 57
  pub size : length (code number) ≡ count
  -- the page that is held has the bits
  pub held : HoldsBits (feeding r.feed) r.place count
  -- they are those of the code, whatever files the feed agrees with
  pub told : (files : Option Files) → agrees r.feed files →
      FromPlace ((feeding r.feed).source files) r.place (Begins (code number))
