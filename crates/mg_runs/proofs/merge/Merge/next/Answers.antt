use Rattle.std.proofs.Common.{ap, arith, refl, sym, drop}
use Rattle.std.proofs.lemmas.Result.{IfErr-weaker, IfOk-weaker}
use Rattle.mg_dev.proofs.CallerLemmas.{cause_ok}
use Rattle.mg_runs.specs.Merging.{first}
use Rattle.mg_runs.proofs.Kept.{next_left}
use Rattle.mg_runs.proofs.Naming.{names_its}
use Rattle.mg_runs.proofs.Working.{worked_looked, worked_none}
use Rattle.mg_runs.proofs.merge.Merge.next.Goals as goal

pub returns-in-None : goal.returns-in-None
returns-in-None g c = rw (← c.self.view_is) (record {
  told = λ t left is. ap (λ l. first l) (sym ((rw c.in-None.is at is.has) t));
  left = λ left is. record { has = rw c.in-None.is (λ t. ap (λ l. drop 1 l) ((rw c.in-None.is at is.has) t)) };
  doc = tt;
  count = tt;
  fall = tt;
  rest = omega arith;
  undamaged = λ t. tt;
  memory = tt;
  part = tt;
  bit = tt;
  base = refl;
  runs = refl;
  peak = refl;
  files = refl;
  step = record { worked = worked_none _ _ _ _; cause = cause_ok (omega arith); names = tt };
})

pub returns : goal.returns
returns g c =
    let same = c.in-Some.is in
    let step = c.next.ensures.step in
    let before = rw (← c.self.view_is) at c.requires.left.1 in
    let open_now = rw same at before.has in
    rw (← c.self.view_is) (record {
      told = λ t left is. IfOk-weaker c.next.result _ _ (λ p is. is.0) (c.next.ensures.told t left ((rw same at is.has).told t));
      left = λ left is. next_left _ _ c.next.result (rw same at is.has) c.next.ensures.told step;
      doc = c.next.ensures.doc;
      count = c.next.ensures.count;
      fall = rw same c.next.ensures.fall;
      rest = rw same step.rest;
      undamaged = λ t. c.next.ensures.undamaged t _ (open_now.told t);
      memory = step.memory;
      part = rw same step.read.look.names;
      bit = step.bit;
      base = refl;
      runs = refl;
      peak = refl;
      files = step.read.look.looked.files;
      step = record {
        worked = worked_looked open_now.part step.read.look.looked;
        cause = step.read.look.cause;
        names = IfErr-weaker c.next.result _ _ (λ e names. names_its _ e open_now.part names) step.read.look.names;
      };
    })
