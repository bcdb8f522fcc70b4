use Rattle.std.proofs.Common.{◌≡◌, List, ap, sym, get_or, refl, ◌∙◌, arith}
use Rattle.std.proofs.lemmas.List.{get_or_default}
use Rattle.std.proofs.lemmas.List.Sums.{sum_by-set}
use Rattle.mg_dev.proofs.CallerLemmas.{cause_err, cause_ok}
use Rattle.mg_runs.specs.Merging.{no_cursor}
use Rattle.mg_runs.specs.declared.cursor.Cursor.{Cursor}
use Rattle.mg_runs.proofs.Naming.{bit_of_cursor}
use Rattle.mg_runs.proofs.Steps.{memory_as, tells_err}
use Rattle.mg_runs.proofs.Heads.{at_first, step_shaped, step_stands}
use Rattle.mg_runs.proofs.group.Group.step.Goals as goal

pub returns-in-Ok : goal.returns-in-Ok
returns-in-Ok g c =
    let before : List Cursor = c.args.self.now.cursors.items in
    let within = c.requires.left.within in
    let read = c.advanced.ensures.step in
    let next = c.in-Ok.next in
    let same = c.index.ensures ∙ get_or_default before c.args.run c.index.result.now no_cursor within in
    let total = sum_by-set (λ (x : Cursor). x.left) before c.args.run next c.index.result.now within in
    let was : (get_or before c.args.run c.index.result.now).left ≡ c.index.result.now.left = ap (λ (x : Cursor). x.left) (sym c.index.ensures) in
    record {
      told = λ told lefts x xs stand first.
          step_stands next x xs stand within first read.slots (c.in-Ok.ensures.told told x xs (at_first stand c.args.run c.index.result.now x xs within same first));
      total = omega (arith, total, was, c.in-Ok.ensures.moved.left);
      step = record {
        shape = rw (c.set.ensures, c.key_of.ensures) (step_shaped next c.requires.shape within c.in-Ok.ensures.moved.posting read.slots);
        rest = omega (arith, total, was, c.in-Ok.ensures.moved.left);
        memory = tt;
        bit = tt;
        read = record { pool = read.pool; file = refl; look = record { looked = read.look.looked; cause = cause_ok read.look.looked.faults; names = tt } };
      };
    }

pub returns-in-Err : goal.returns-in-Err
returns-in-Err g c =
    let cursors : List Cursor = c.args.self.now.cursors.items in
    let within = c.requires.left.within in
    let e = c.in-Err.refusal in
    let read = c.in-Err.ensures.step in
    let same = c.index.ensures ∙ get_or_default cursors c.args.run c.index.result.now no_cursor within in
    record {
      told = λ told lefts x xs stand first.
          tells_err Cursor (Unit {0}) _ _ e (c.in-Err.ensures.told told x xs (at_first stand c.args.run c.index.result.now x xs within same first));
      total = tt;
      step = record {
        shape = tt;
        rest = omega arith;
        memory = memory_as Cursor (Unit {0}) e read.memory;
        bit = bit_of_cursor cursors c.args.run c.index.result.now e within same c.in-Err.ensures.bit;
        read = record { pool = read.pool; file = refl; look = record { looked = read.look.looked; cause = cause_err {T = Cursor} (omega arith) read.look.cause; names = read.look.names } };
      };
    }
