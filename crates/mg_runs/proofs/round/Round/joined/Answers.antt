use Rattle.std.proofs.Common.{rules, ◌≡◌, ℕ, refl, ◌∙◌, ap}
use Rattle.mg_dev.specs.Files.{bytes_at}
use Rattle.mg_dev.specs.Names.{full_name}
use Rattle.mg_bits.specs.BitWriting.{BitWriting}
use Rattle.mg_runs.specs.declared.round.Round.{Round}
use Rattle.mg_runs.specs.declared.round.Joined.{Joined}
use Rattle.mg_runs.proofs.JoinedGroups.{other_apart}
use Rattle.mg_runs.proofs.Joins.{wrote_bytes}
use Rattle.mg_runs.proofs.StepLaws.{pass_err, pass_ok, pass_refused, pass_then, pass_wrote}
use Rattle.mg_runs.proofs.Steps.{put_as, tells_err, tells_none}
use Rattle.mg_runs.proofs.round.Round.joined.Goals as goal

pub join_into-requires-clause-begun : goal.join_into-requires-clause-begun
join_into-requires-clause-begun g c = record {
  apart = record {
    holds = c.in-Ok.ensures.holds;
    apart = λ e. other_apart c.args.self.file.base.now c.args.self.file.part c.requires.part (e ∙ c.in-Ok.ensures.name ∙ ap (λ p. full_name c.args.self.file.base.now p) c.other_part.ensures);
  };
  place = search rules;
}

pub returns-in-Err : goal.returns-in-Err
returns-in-Err g c = record {
  joined =
      record {
        told = λ told whole is. tells_none ℕ Round _ c.refused.result c.refused.ensures.undamaged;
        next = tt;
        step = pass_refused {T = ℕ} (rw c.other_part.ensures at c.start.ensures.wrote)
            (c.refused.ensures.cause _ _ (put_as BitWriting ℕ _ _ _ c.in-Err.ensures.cause)) c.refused.ensures.names;
      };
}

pub returns-in-Ok-join_into : goal.returns-in-Ok-join_into
returns-in-Ok-join_into g c = record {
  joined =
      let base = c.args.self.file.base.now in
      let part = c.args.self.file.part in
      let to = ap (λ p. full_name base p) c.other_part.ensures in
      let same : bytes_at (g.S.Store.files c.start.new.store) (full_name base part) ≡ bytes_at (g.S.Store.files c.args.store.now) (full_name base part)
      = wrote_bytes c.start.ensures.wrote (λ e. other_apart base part c.requires.part (e ∙ to)) in
      let next = rw (same, c.in-Ok.ensures.name) at c.in-Ok-join_into.ensures.written.told in
      let step = rw (c.in-Ok.ensures.name, c.other_part.ensures) at c.in-Ok-join_into.ensures.written.step in
      let made = c.in-Ok-join_into.ensures.written.made in
      record {
        told = λ told whole is. next (c.start.ensures.wrote.told ∙ told) whole is;
        next = record { count = made.count; pool = made.pool; base = refl; part = c.other_part.ensures };
        step = pass_ok (pass_then (pass_wrote {T = Unit {0}} {x = tt} (rw c.other_part.ensures at c.start.ensures.wrote) c.start.ensures.cause.later) step);
      };
}

pub returns : goal.returns
returns g c = record {
  joined =
      let base = c.args.self.file.base.now in
      let part = c.args.self.file.part in
      let to = ap (λ p. full_name base p) c.other_part.ensures in
      let same : bytes_at (g.S.Store.files c.start.new.store) (full_name base part) ≡ bytes_at (g.S.Store.files c.args.store.now) (full_name base part)
      = wrote_bytes c.start.ensures.wrote (λ e. other_apart base part c.requires.part (e ∙ to)) in
      let next = rw same at c.in-Err-join_into.ensures.written.told in
      let step = rw (c.in-Ok.ensures.name, c.other_part.ensures) at c.in-Err-join_into.ensures.written.step in
      record {
        told = λ told whole is. tells_err Joined Round _ _ c.in-Err-join_into.refusal (next (c.start.ensures.wrote.told ∙ told) whole is);
        next = tt;
        step = pass_err {T = Joined} (pass_then (pass_wrote {T = Unit {0}} {x = tt} (rw c.other_part.ensures at c.start.ensures.wrote) c.start.ensures.cause.later) step);
      };
}
