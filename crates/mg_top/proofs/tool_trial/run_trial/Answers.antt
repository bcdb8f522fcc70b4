use Rattle.std.proofs.Common.{refl}
use Rattle.mg_top.proofs.TriedLaws.{tried_by}
use Rattle.mg_top.proofs.TrialLaws.{answer_wider}
use Rattle.mg_top.proofs.TrialSteps.{never_rose}
use Rattle.mg_top.proofs.tool_trial.run_trial.Goals as goal

pub returns : goal.returns
returns g c = record {
  does = λ store input err err_now. tried_by _ _ _ c.trial.result refl refl refl
      c.trial.ensures.text c.trial.ensures.silent (answer_wider _ _ _ _ _ c.trial.result never_rose (λ rose. rose) c.trial.ensures.cause)
      c.trial.ensures.large c.trial.ensures.documents c.trial.ensures.pieces
      (λ few within no_output. c.trial.ensures.complete few within never_rose no_output);
}
