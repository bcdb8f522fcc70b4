use Rattle.std.proofs.Common.{rules, arith, refl, sym, ◌∙◌, ap, subst, is_some}
use Rattle.mg_runs.specs.Joins.{IsRunPart}
use Rattle.mg_runs.specs.declared.group.Group.{Group}
use Rattle.mg_runs.specs.declared.merge.Merge.{Merge}
use Rattle.mg_runs.proofs.RoundsLoop.{stored_at}
use Rattle.mg_runs.proofs.RoundsFirst.{stored_left, stored_none}
use Rattle.mg_runs.proofs.StepLaws.{look_err, look_none, look_ok}
use Rattle.mg_runs.proofs.Steps.{damage_none}
use Rattle.mg_runs.proofs.merge.Merge.open.Goals as goal

pub returns-then-is_empty : goal.returns-then-is_empty
returns-then-is_empty g c = record {
  opened =
      record {
        left = λ whole stored. record { has = λ told. stored_none _ _ whole (stored told) (search rules) };
        undamaged = λ told whole is. tt;
        few = omega arith;
        base = refl;
        runs = refl;
        peak = search rules;
        read = look_none _ _ _;
      };
}

pub returns-in-Ok : goal.returns-in-Ok
returns-in-Ok g c = record {
  opened =
      record {
        left = λ whole stored. record {
          has = record {
            shape = c.in-Ok.ensures.group.loaded.shape;
            same_base = ap (λ f. f.base.now) c.in-Ok.ensures.group.loaded.file;
            part = subst (λ f. IsRunPart f.part) (sym c.in-Ok.ensures.group.loaded.file) c.requires.part;
            told = λ told.
                let was = ap (λ f. is_some f) (sym c.load.ensures.group.read.looked.files) ∙ told in
                let is = stored was in
                let next = rw c.deref.ensures.value at c.in-Ok.ensures.group.told in
                rw (c.load.ensures.group.read.looked.files, c.in-Ok.ensures.group.loaded.file) (stored_left _ _ _ c.args.round.places.items whole is (next was is.runs (stored_at _ _ whole is)));
          };
        };
        undamaged = λ told whole is. tt;
        few = search rules;
        base = refl;
        runs = refl;
        peak = search rules;
        read = look_ok c.in-Ok.ensures.group.read;
      };
}

pub returns : goal.returns
returns g c = record {
  opened =
      record {
        left = λ whole stored. tt;
        undamaged = λ told whole is.
            let next = rw c.deref.ensures.value at c.in-Err.ensures.group.told in
            damage_none Group Merge _ c.in-Err.refusal (next told is.runs (stored_at _ _ whole is));
        few = tt;
        base = tt;
        runs = tt;
        peak = tt;
        read = look_err c.in-Err.ensures.group.read;
      };
}

pub load-requires : goal.load-requires
load-requires g c = record {
  slots = record { some = search rules; room = search rules; limit = search rules; entries = search rules };
}
