-- How symbols of two codes are read in turn, by the functions that tell what contracts see of a feed and its device.
use Rattle.std.specs.Prelude.{◌≡◌, ℕ, ◌+◌, ◌*◌, ◌%◌, ◌^◌, ◌<◌, ◌≤◌, List, length, Option, Some, Ok, IfNone, IfSome}
use Rattle.mg_dev.specs.Files.{Files}
use Rattle.mg_defs.specs.Answers.{Below}
use Rattle.mg_defs.specs.Bits.{FromPlace}
use Rattle.mg_defs.specs.Canon.{codeword}
use Rattle.mg_bits.specs.CodeAnswers.{AnswersCode}
use Rattle.mg_bits.specs.Feed.{Feeding, Device}
use Rattle.mg_bits.specs.NextBits.{ReadNext}
use Rattle.mg_bits.specs.Reading.{Reading}
use Rattle.mg_canon.specs.Symbols.{FirstFound}
use Rattle.mg_canon.specs.Tables.{found_in}

-- a symbol was read where the reader holds the bits of its codeword: on whatever device it agrees with, for none is asked
pub record HeldSymbol {Fed : Type 0} (agrees : Fed → Option Files → Type 0) (feeding : Fed → Feeding) (lengths : List ℕ)
    (old new : Reading Fed) (symbol : ℕ) : Type 0 where
  -- it is one of the symbols
  pub taken : symbol < length lengths
  -- the page of the codeword is held, and was not read again
  pub read : (dev : Device) → ReadNext feeding (λ d. d) old new dev dev (length (codeword lengths symbol))
  -- the place goes behind the codeword
  pub place : new.place ≡ old.place + length (codeword lengths symbol)
  -- the codeword stands there
  pub told : (files : Option Files) → agrees old.feed files → FromPlace ((feeding old.feed).source files) old.place
      (AnswersCode (Ok symbol) (Below (length lengths)) (codeword lengths) 1 old.place)

-- a reader of a feed at a place
abbrev pub standing : {Fed : Type 0} → Fed → ℕ → Reading Fed
standing feed place = record { feed = feed; place = place }

-- a reader so many bits on
abbrev pub ahead : {Fed : Type 0} → Reading Fed → ℕ → Reading Fed
ahead reader count = record { feed = reader.feed; place = reader.place + count }

-- a symbol of each of two codes was read so, the second behind the first
pub record HeldSymbols {Fed : Type 0} (agrees : Fed → Option Files → Type 0) (feeding : Fed → Feeding) (first second : List ℕ)
    (old new : Reading Fed) (found : ℕ × ℕ) : Type 0 where
  pub one : HeldSymbol agrees feeding first old (ahead old (length (codeword first found.0))) found.0
  pub two : HeldSymbol agrees feeding second (ahead old (length (codeword first found.0))) new found.1

-- each of two codes has two or more symbols, and a codeword of each have at most 57 bits together
pub record AreShort (first second : List ℕ) : Type 0 where
  pub many : 2 ≤ length first
  pub more : 2 ≤ length second
  pub short : (s t : ℕ) → s < length first → t < length second →
      length (codeword first s) + length (codeword second t) ≤ 57

-- A codeword of each of two codes is found, with which 57 bits begin one behind the other. Both are told as entries of
-- a table.
pub record FirstTwoFound (first second : List ℕ) (next : ℕ) (result : Option (ℕ × ℕ)) : Type 0 where
  -- the first one
  pub one : IfSome result (λ found. FirstFound first next (Some (found_in found.0)))
  -- the bits behind it begin with the second one, were they followed by zero-bits
  pub two : IfSome result (λ found. FirstFound second (next * 2 ^ (found_in found.0).size % 2 ^ 57)
      (Some (found_in found.1)))
  -- both are among the bits
  pub within : IfSome result (λ found. (found_in found.0).size + (found_in found.1).size ≤ 57)
  -- they are found where both codes are short
  pub none : IfNone result (AreShort first second → ⊥)
