use Rattle.std.proofs.Common.{rules, ◌≡◌, ◌<◌, ◌+◌, ◌∙◌, ℕ, List, ap, refl, sym, subst, arith, length, length-set}
use Rattle.std.specs.List.{All}
use Rattle.std.proofs.lemmas.List.Elements.{All-push}
use Rattle.std.proofs.lemmas.List.Sums.{sum_by_push}
use Rattle.mg_runs.specs.Cursors.{HasPosting}
use Rattle.mg_runs.specs.Slots.{ChangesOneSlot, slot_at}
use Rattle.mg_runs.specs.Merging.{AreOpen, left_together}
use Rattle.std.proofs.Common.{Global, Vec}
use Rattle.mg_dev.specs.Files.{bytes_at}
use Rattle.mg_dev.specs.Names.{full_name}
use Rattle.mg_runs.specs.declared.cursor.Cursor.{Cursor}
use Rattle.mg_dev.specs.declared.part_err.PartErr.TheVariants.{Memory}
use Rattle.mg_dev.proofs.CallerLemmas.{cause_err, cause_ok}
use Rattle.mg_runs.proofs.StepLaws.{look_bad, look_none}
use Rattle.mg_runs.proofs.Steps.{looked_more, pool_more, tells_err}
use Rattle.mg_runs.proofs.Heads.{open_more}
use Rattle.mg_runs.proofs.group.open_all.Goals as goal

-- how many slots there are stays
slots_kept : {n : ℕ} {new : List (List ℕ)} (slot : ℕ) (old : List (List ℕ)) → ChangesOneSlot slot old new → length old ≡ n → length new ≡ n
slots_kept {new = new} slot old change size = ap (λ s. length s) change ∙ length-set old slot (slot_at new slot) ∙ size

pub loop-k-preserved : goal.loop-k-preserved
loop-k-preserved g c =
    let inv = c.loop-k.invariant in
    let cursor : Cursor = c.in-Ok-opened.cursor in
    let push : left_together c.push.new.self.items ≡ left_together c.loop-k.cursors.items + cursor.left
    = ap left_together c.in-Ok-push.ensures.items ∙ sum_by_push (λ (x : Cursor). x.left) c.loop-k.cursors.items cursor in
    record {
      made = search rules;
      slots = slots_kept c.loop-k.k c.loop-k.pool.slots c.opened.ensures.step.slots inv.slots;
      told = λ told runs are.
          let file : List ℕ = bytes_at (g.S.Store.files c.args.store.now) (full_name c.args.file.now.base.now c.args.file.now.part) in
          let next = rw inv.looked.files at c.in-Ok-opened.ensures.told in
          let k : c.loop-k.k < length c.args.places.now = search rules in
          subst (λ (l : List Cursor). AreOpen c.opened.new.pool.slots l file runs (c.loop-k.k + 1)) (sym c.in-Ok-push.ensures.items)
          (open_more cursor inv.made (omega (arith, inv.slots, k)) c.opened.ensures.step.slots (inv.told told runs are)
          (next told _ (are.at c.loop-k.k k)));
      postings = subst (λ (l : List Cursor). All (λ (x : Cursor). HasPosting x) l) (sym c.in-Ok-push.ensures.items)
          (All-push (λ (x : Cursor). HasPosting x) c.loop-k.cursors.items cursor inv.postings c.in-Ok-opened.ensures.begun.posting);
      total = omega (arith, push, inv.total, c.in-Ok-opened.ensures.begun.few);
      pool = pool_more inv.pool c.opened.ensures.step.pool;
      looked = looked_more inv.looked c.opened.ensures.step.look.looked;
    }

pub returns-in-Err : goal.returns-in-Err
returns-in-Err g c = record {
  slots = c.requires.slots;
  begun = tt;
  told = λ told runs are. tt;
  pool = record { entries = λ e. e; peak = refl; limit = refl };
  read = look_bad {x = tt} Memory (look_none {T = Unit {0}} _ _ _) (λ f g. tt) tt;
}

pub returns-in-Err-push : goal.returns-in-Err-push
returns-in-Err-push g c =
    let inv = c.loop-k.invariant in
    let looked = looked_more inv.looked c.opened.ensures.step.look.looked in
    record {
      slots = slots_kept c.loop-k.k c.loop-k.pool.slots c.opened.ensures.step.slots inv.slots;
      begun = tt;
      told = λ told runs are. tt;
      pool = pool_more inv.pool c.opened.ensures.step.pool;
      read = record { looked = looked; cause = record { later = looked.faults; device = tt }; names = tt };
    }

pub returns-in-Err-opened : goal.returns-in-Err-opened
returns-in-Err-opened g c =
    let inv = c.loop-k.invariant in
    record {
      slots = slots_kept c.loop-k.k c.loop-k.pool.slots c.opened.ensures.step.slots inv.slots;
      begun = tt;
      told = λ told runs are.
          let next = rw inv.looked.files at c.in-Err-opened.ensures.told in
          let k : c.loop-k.k < length c.args.places.now = search rules in
          tells_err Cursor (Vec Cursor Global) _ _ c.in-Err-opened.refusal (next told _ (are.at c.loop-k.k k));
      pool = pool_more inv.pool c.opened.ensures.step.pool;
      read = record {
        looked = looked_more inv.looked c.opened.ensures.step.look.looked;
        cause = cause_err {T = Cursor} inv.looked.faults c.in-Err-opened.ensures.step.look.cause;
        names = c.in-Err-opened.ensures.step.look.names;
      };
    }

pub returns : goal.returns
returns g c =
    let inv = c.loop-k.invariant in
    let looked = inv.looked in
    record {
      slots = inv.slots;
      begun = record { len = search rules; postings = inv.postings; total = omega (arith, inv.total) };
      told = λ told runs are. let all = inv.told told runs are in record { at = λ k h. all.at k (omega arith) };
      pool = inv.pool;
      read = record { looked = looked; cause = cause_ok looked.faults; names = tt };
    }
