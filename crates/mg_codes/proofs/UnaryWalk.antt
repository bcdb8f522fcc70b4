-- The unary code, read bit by bit.
use Rattle.std.proofs.Common.{arith, ◌+◌, ◌<◌, ◌-◌, ℕ, false, [], ◌∷◌}
use Rattle.mg_defs.specs.Codes.{ones, unary}
use Rattle.mg_defs.specs.Answers.{UpTo, CutShort, IsNone}
use Rattle.mg_defs.proofs.CodeLaws.{length_ones, length_unary, unary_next, ones_begin, ones_begin_long, ones_have_no_zero}

pub unary_open : (limit n : ℕ) → n < limit → CutShort (UpTo limit) unary (ones n)
unary_open limit n lt = record {
  value = n + 1;
  taken = (omega arith, omega arith);
  short = omega (arith, length_unary n, length_ones n);
  agrees = rw (unary_next n) (ones_begin n (false ∷ []));
}

pub unary_none : (limit : ℕ) → IsNone (UpTo limit) unary (ones limit)
unfolding unary
unary_none limit = record {
  begins = λ x taken h. ones_have_no_zero (x - 1) limit h;
  cut = λ x taken h. omega (arith, ones_begin_long limit (x - 1) h, taken);
}
