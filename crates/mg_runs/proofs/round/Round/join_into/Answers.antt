use Rattle.std.proofs.Common.{ℕ, sym, ◌∙◌, ap}
use Rattle.mg_dev.specs.Files.{bytes_at}
use Rattle.mg_defs.specs.Bits.{bits_of}
use Rattle.mg_runs.specs.declared.round.Joined.{Joined}
use Rattle.mg_runs.proofs.JoinedGroups.{round_stored}
use Rattle.mg_runs.proofs.StepLaws.{pass_refused, pass_then, pass_wrote}
use Rattle.mg_runs.proofs.Steps.{put_as, tells_err, tells_none}
use Rattle.mg_runs.proofs.round.Round.join_into.Goals as goal

pub returns-in-Ok-finish : goal.returns-in-Ok-finish
returns-in-Ok-finish g c = record {
  written =
      let next = rw c.deref.ensures.value at c.in-Ok.ensures.told in
      let step = c.in-Ok.ensures.step.writer in
      record {
        told = λ told whole is.
            let bits = ap (λ n. bits_of (bytes_at (g.S.Store.files c.finish.new.store) n)) (sym step.name) ∙ c.in-Ok-finish.ensures.file (step.pass.passed.told ∙ told) in
            round_stored _ c.args.self.places.items whole c.args.width _ _ _ _ _ _ is (next told whole is) told c.requires.begun.apart.holds c.requires.begun.place
            c.in-Ok.ensures.step.whole bits c.requires.more.slots.some c.requires.more.more;
        made = rw (← c.deref.ensures.value) c.in-Ok.ensures.made;
        step = pass_then step.pass (pass_wrote (rw step.name at c.finish.ensures.wrote) c.finish.ensures.cause.later);
      };
}

pub returns-in-Ok : goal.returns-in-Ok
returns-in-Ok g c = record {
  written =
      let step = c.in-Ok.ensures.step.writer in
      record {
        told = λ told whole is. tells_none ℕ Joined _ c.refused.result c.refused.ensures.undamaged;
        made = tt;
        step = pass_then step.pass
            (pass_refused {T = ℕ} (rw step.name at c.finish.ensures.wrote)
            (c.refused.ensures.cause _ _ (put_as (Unit {0}) ℕ _ _ _ c.in-Err-finish.ensures.cause)) c.refused.ensures.names);
      };
}

pub returns : goal.returns
returns g c = record {
  written =
      let next = rw c.deref.ensures.value at c.in-Err.ensures.told in
      record { told = λ told whole is. tells_err Joined Joined _ _ c.in-Err.refusal (next told whole is); made = tt; step = c.in-Err.ensures.step.writer.pass };
}

pub join_groups-requires-clause-more : goal.join_groups-requires-clause-more
join_groups-requires-clause-more g c = record { slots = c.requires.more.slots; more = rw c.deref.ensures.value c.requires.more.more }
