-- What a reader of a code answers, by the bits from its place on.
use Rattle.std.specs.Prelude.{◌≡◌, ℕ, ◌≤◌, ◌<◌, length}
use Rattle.mg_defs.specs.Bits.{Bits, Begins}

pub data Answer : Type 0 where
  value : ℕ → Answer
  end : Answer
  over : Answer

-- the values of a code from 1 up to a limit
abbrev pub UpTo : ℕ → ℕ → Type 0
UpTo limit x = (1 ≤ x) × (x ≤ limit)

-- the values of a code from 0 up to a bound and without it
abbrev pub Below : ℕ → ℕ → Type 0
Below bound x = x < bound

-- the bits are a proper front of the code of a value
pub record CutShort (within : ℕ → Type 0) (code : ℕ → Bits) (bits : Bits) : Type 0 where
  pub value : ℕ
  pub taken : within value
  pub short : length bits < length (code value)
  pub agrees : Begins bits (code value)

-- no code of a value stands first, and the bits end within one
pub record Ends (within : ℕ → Type 0) (code : ℕ → Bits) (bits : Bits) : Type 0 where
  pub none : (x : ℕ) → within x → Begins (code x) bits → ⊥
  pub cut : CutShort within code bits

-- no code of a value stands first, and the bits are the front of none
pub record IsNone (within : ℕ → Type 0) (code : ℕ → Bits) (bits : Bits) : Type 0 where
  pub begins : (x : ℕ) → within x → Begins (code x) bits → ⊥
  pub cut : (x : ℕ) → within x → Begins bits (code x) → ⊥

-- the value whose code stands first, or why there is none
abbrev pub Answers : (ℕ → Type 0) → (ℕ → Bits) → Bits → Answer → Type 0
Answers within code bits (value x) = within x × Begins (code x) bits
Answers within code bits end = Ends within code bits
Answers within code bits over = IsNone within code bits

-- Where the code of one value is the front of that of another, the two are one value: no code is a proper front of another.
pub record IsPrefixFree (within : ℕ → Type 0) (code : ℕ → Bits) : Type 0 where
  pub one : (x y : ℕ) → within x → within y → Begins (code x) (code y) → x ≡ y

-- two answers to the same bits are one
abbrev pub OneAnswer : (ℕ → Type 0) → (ℕ → Bits) → Bits → Answer → Answer → Type 0
OneAnswer within code bits a b = Answers within code bits a → Answers within code bits b → a ≡ b
