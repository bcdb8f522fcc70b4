use Rattle.std.proofs.Common.{ap, sym, subst, IsSome}
use Rattle.mg_check_index.specs.Counting.{RunReading}
use Rattle.mg_check_index.proofs.RunPartLaws.{run_done, run_longer}
use Rattle.mg_check_parts.proofs.CallerLemmas.{looks_then}
use Rattle.mg_check_index.proofs.run_part.RunPart.finish.Goals as goal

pub returns-in-Err : goal.returns-in-Err
returns-in-Err g c = record { ended = record { done = λ told. tt; bad = c.in-Err.ensures.begun.bad; looks = c.in-Err.ensures.begun.looks } }

pub returns : goal.returns
returns g c =
    let begun = c.in-Ok.ensures.begun in
    let old = g.S.Store.files c.args.store.now in
    let now = g.S.Store.files c.compare_rest.new.store in
    let part = ap (λ (r : RunReading). r.part) c.self.view_is in
    record {
      ended = record {
        done = λ told.
            run_done c.finish.result c.args.self.now c.compare_rest.new.self c.self.inside.part old now begun.looks.files part c.in-Ok.ensures.name begun.done
            (c.finish.ensures.ended.done (subst (λ f. IsSome f) (sym begun.looks.files) told));
        bad = λ told.
            run_longer c.finish.result c.args.self.now c.compare_rest.new.self c.self.inside.part old now begun.looks.files part c.in-Ok.ensures.name begun.done
            (c.finish.ensures.ended.bad (subst (λ f. IsSome f) (sym begun.looks.files) told));
        looks = looks_then begun.looks c.finish.ensures.ended.looks;
      };
    }
