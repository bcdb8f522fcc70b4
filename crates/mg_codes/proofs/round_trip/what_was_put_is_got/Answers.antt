use Rattle.std.proofs.Common.{arith, ◌++◌}
use Rattle.mg_defs.specs.Codes.{unary, gamma, short, golomb}
use Rattle.mg_defs.specs.Answers.{UpTo, Below, value}
use Rattle.mg_defs.proofs.FrontLaws.{one_answer, begins_append}
use Rattle.mg_defs.proofs.CodeLaws.{unary_free, gamma_free, short_free, golomb_free}
use Rattle.mg_codes.proofs.round_trip.what_was_put_is_got.Goals as goal

pub returns : goal.returns
returns c = record {
  unary = λ limit x more a taken answers. one_answer (UpTo limit) unary (unary x ++ more) a (value x) (unary_free limit) answers (taken, begins_append (unary x) more);
  gamma = λ limit x more a small taken answers. one_answer (UpTo limit) gamma (gamma x ++ more) a (value x) (gamma_free limit small) answers (taken, begins_append (gamma x) more);
  short = λ b r more a small below answers. one_answer (Below b) (short b) (short b r ++ more) a (value r) (short_free b (omega (arith, below)) small) answers (below, begins_append (short b r) more);
  golomb = λ b limit x more a some small taken answers.
      one_answer (UpTo limit) (golomb b) (golomb b x ++ more) a (value x) (golomb_free b limit some small) answers (taken, begins_append (golomb b x) more);
}
