-- Lines of an input that is read a buffer at a time.
use Rattle.std.specs.Prelude.{◌≡◌, ℕ, ◌+◌, ◌<◌, ◌≤◌, List, [], ◌∷◌, ◌++◌, length, take, MatchOption, Ok, Err, ◌⊎◌}
use Rattle.std.specs.declared.result.Result.{Result}
use Rattle.std.specs.declared.option.Option.{Option}
use Rattle.mg_dev.specs.Streams.{prepended, IsAtEnd}
use Rattle.mg_dev.specs.declared.device.Failed.{Failed}
use Rattle.mg_defs.specs.Lines.{HasNoEnd}
use Rattle.mg_defs.specs.Limits.{input_limit, line_bytes}
use Rattle.mg_reply.specs.declared.reader.LineEvent.{LineEvent}
use Rattle.mg_reply.specs.declared.reader.LineEvent.TheVariants.{Line, TooLong, End}
use Rattle.mg_reply.specs.declared.reader.LineErr.{LineErr}
use Rattle.mg_reply.specs.declared.reader.LineErr.TheVariants.{Read, TooMuch}

-- the most bytes that are taken from an input at once
abbrev pub buffer_bytes : ℕ
buffer_bytes = 4096

-- what a line reader holds: bytes that were taken and not used, the line's first bytes, and how many bytes were used
pub record Reading : Type 0 where
  pub held : List ℕ
  pub line : List ℕ
  pub used : ℕ

-- a byte was taken from the front, or none was left
abbrev pub AfterByte : Option (List ℕ) → Option (List ℕ) → Result (Option ℕ) Failed → Type 0
AfterByte before after (Ok byte) = MatchOption byte ((after ≡ before) × IsAtEnd before)
    (λ b. before ≡ prepended (b ∷ []) after)
AfterByte before after (Err e) = after ≡ before

-- the buffer was filled from the front of the input, and holds what was taken
abbrev pub AfterFill : List ℕ → Option (List ℕ) → Option (List ℕ) → Result ℕ Failed → Type 0
AfterFill held before after (Ok count) = (before ≡ prepended held after) × (length held ≡ count)
    × (count ≡ 0 → IsAtEnd before)
AfterFill held before after (Err e) = (held ≡ []) × (after ≡ before)

-- what a line of so many bytes is
abbrev pub IsEvent : ℕ → LineEvent → Type 0
IsEvent size Line = size ≤ line_bytes
IsEvent size TooLong = line_bytes < size
IsEvent size End = ⊥

-- the line's end follows it, or the input's end follows a line that isn't empty
abbrev pub EndsAt : List ℕ → ℕ → Option (List ℕ) → Option (List ℕ) → Type 0
EndsAt line size before after =
    ((size ≡ length line + 1) × (before ≡ prepended (line ++ 10 ∷ []) after))
    ⊎ ((size ≡ length line) × (0 < length line) × (before ≡ prepended line after) × IsAtEnd after)

-- The first line of what is left, and what is left after it; it has so many bytes with its end.
pub record IsFirst (line : List ℕ) (size : ℕ) (before after : Option (List ℕ)) : Type 0 where
  pub plain : HasNoEnd line
  pub ends : EndsAt line size before after

-- The line went on without an end up to this byte.
pub record RunsOn (size : ℕ) (before after : Option (List ℕ)) : Type 0 where
  pub front : List ℕ
  pub byte : ℕ
  pub plain : HasNoEnd front
  pub count : length front ≡ size
  pub taken : before ≡ prepended (front ++ byte ∷ []) after

abbrev pub AfterLine : Reading → Reading → Option (List ℕ) → Option (List ℕ) → Result LineEvent LineErr → Type 0
AfterLine old new before after (Ok Line) = (size : ℕ) × IsFirst new.line size before after
    × (length new.line ≤ line_bytes) × (new.used ≡ old.used + size) × (new.used ≤ input_limit)
AfterLine old new before after (Ok TooLong) = (line : List ℕ) × (size : ℕ) × IsFirst line size before after
    × (line_bytes < length line) × (new.used ≡ old.used + size) × (new.used ≤ input_limit)
AfterLine old new before after (Ok End) = IsAtEnd before × (after ≡ before) × (new.used ≡ old.used)
AfterLine old new before after (Err Read) = (front : List ℕ) × HasNoEnd front × (before ≡ prepended front after)
AfterLine old new before after (Err TooMuch) = (size : ℕ) × RunsOn size before after × (old.used + size ≡ input_limit)

-- The bytes taken since the line began, of which the line keeps the first 1,024.
pub record Going (before now : Option (List ℕ)) (line : List ℕ) (n : ℕ) : Type 0 where
  pub front : List ℕ
  pub plain : HasNoEnd front
  pub count : length front ≡ n
  pub taken : before ≡ prepended front now
  pub kept : line ≡ take line_bytes front
