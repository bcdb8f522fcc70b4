use Rattle.std.proofs.Common.{Err, ap, sym, subst, IsSome}
use Rattle.mg_check_index.specs.Counting.{Weighing}
use Rattle.mg_check_index.proofs.Comparing.{weighed_done, weighed_longer, weighed_other}
use Rattle.mg_check_parts.proofs.CallerLemmas.{looks_then}
use Rattle.mg_check_index.proofs.weights.Weights.finish.Goals as goal

pub returns-in-Err : goal.returns-in-Err
returns-in-Err g c = record {
  ended = record {
    done = λ told. tt;
    bad = λ told. weighed_other {T = Unit {0}} (Err c.in-Err.refusal) c.args.self.now (g.S.Store.files c.args.store.now) (c.in-Err.ensures.compared.bad told);
    looks = c.in-Err.ensures.compared.looks;
  };
}

pub returns : goal.returns
returns g c =
    let compared = c.in-Ok.ensures.compared in
    record {
      ended = record {
        done = λ told.
            weighed_done c.finish.result c.args.self.now c.compare.new.self c.self.inside.part (g.S.Store.files c.args.store.now) (g.S.Store.files c.compare.new.store) compared.looks.files
            (ap (λ (w : Weighing). w.part) c.self.view_is) c.in-Ok.ensures.none c.in-Ok.ensures.name compared.done
            (c.finish.ensures.ended.done (subst (λ f. IsSome f) (sym compared.looks.files) told));
        bad = λ told.
            weighed_longer c.finish.result c.args.self.now c.compare.new.self c.self.inside.part (g.S.Store.files c.args.store.now) (g.S.Store.files c.compare.new.store) compared.looks.files
            (ap (λ (w : Weighing). w.part) c.self.view_is) c.in-Ok.ensures.none c.in-Ok.ensures.name compared.done
            (c.finish.ensures.ended.bad (subst (λ f. IsSome f) (sym compared.looks.files) told));
        looks = looks_then compared.looks c.finish.ensures.ended.looks;
      };
    }
