use Rattle.std.proofs.Common.{[], refl, sym, ◌∙◌, arith, subst}
use Rattle.std.proofs.lemmas.List.{get_or_default}
use Rattle.mg_runs.specs.Cursors.{IsRun}
use Rattle.std.proofs.Common.{Global, Vec}
use Rattle.mg_runs.specs.declared.cursor.Cursor.{Cursor}
use Rattle.mg_runs.specs.declared.group.Group.{Group}
use Rattle.mg_dev.specs.declared.part_err.PartErr.TheVariants.{Memory}
use Rattle.mg_runs.proofs.StepLaws.{back_same, look_bad, look_err, look_ok}
use Rattle.mg_runs.proofs.Steps.{tells_err}
use Rattle.mg_runs.proofs.group.Group.load.Goals as goal

pub returns-in-Ok-ranked : goal.returns-in-Ok-ranked
returns-in-Ok-ranked g c = record {
  group =
      let begun = c.in-Ok.ensures.begun in
      record {
        loaded = record {
          shape = record {
            slot_count = c.open_all.ensures.slots ∙ sym begun.len;
            key_count = c.in-Ok-ranked.ensures.len;
            by_key = c.in-Ok-ranked.ensures.keys;
            postings = begun.postings;
          };
          total = begun.total;
          pool = back_same c.use_slots.ensures.back c.open_all.ensures.pool;
          file = refl;
        };
        told = λ told runs are.
            let open_at = c.in-Ok.ensures.told told runs are in
            let len = begun.len in
            let size = are.size in
            record {
              size = size ∙ sym len;
              at = λ k h. open_at.at k (omega arith);
              runs = λ k d h. subst (λ l. IsRun l) (get_or_default runs k [] d h) ((are.at k (omega arith)).run);
            };
        read = look_ok c.in-Ok.ensures.read;
      };
}

pub returns-in-Ok : goal.returns-in-Ok
returns-in-Ok g c = record {
  group =
      record { loaded = tt; told = λ told runs are. tt; read = look_bad Memory c.in-Ok.ensures.read (λ f g. tt) tt };
}

pub returns : goal.returns
returns g c = record {
  group =
      record {
        loaded = tt;
        told = λ told runs are. tells_err (Vec Cursor Global) Group _ _ c.in-Err.refusal (c.in-Err.ensures.told told runs are);
        read = look_err c.in-Err.ensures.read;
      };
}
