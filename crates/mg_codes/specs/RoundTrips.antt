-- Codes that are read where they were written.
use Rattle.std.specs.Prelude.{ℕ, ◌++◌}
use Rattle.mg_defs.specs.Bits.{Bits}
use Rattle.mg_defs.specs.Answers.{Answer, Answers}

-- what a code's reader answers where the code of a value stands first
abbrev pub AnswersFirst : (ℕ → Type 0) → (ℕ → Bits) → ℕ → Bits → Answer → Type 0
AnswersFirst within code x more a = Answers within code (code x ++ more) a
