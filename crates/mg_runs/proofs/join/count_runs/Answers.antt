use Rattle.std.proofs.Common.{ℕ, length, subst, sym}
use Rattle.mg_defs.specs.Postings.{merged}
use Rattle.mg_runs.specs.Steps.{PoolBack}
use Rattle.mg_runs.specs.declared.group.Group.{Group}
use Rattle.mg_runs.specs.declared.join.Counted.{Counted}
use Rattle.mg_runs.proofs.Joins.{merged_left}
use Rattle.mg_runs.proofs.StepLaws.{back_same, look_err, look_group, look_ok, look_then}
use Rattle.mg_runs.proofs.Steps.{damage_none, undamaged_as}
use Rattle.mg_runs.proofs.join.count_runs.Goals as goal

pub returns-in-Ok-count_postings : goal.returns-in-Ok-count_postings
returns-in-Ok-count_postings g c = record {
  told = λ told runs at are.
      let next = rw (c.in-Ok.ensures.group.loaded.file, c.load.ensures.group.read.looked.files) at c.in-Ok-count_postings.ensures.told in
      next told (merged runs) (merged_left (c.in-Ok.ensures.group.told told runs at) are);
  undamaged = λ told runs at are short. tt;
  few = c.in-Ok-count_postings.ensures.few;
  pool = subst (λ p. PoolBack (length c.args.places.now) c.args.pool p) (sym c.into_pool.ensures) (back_same c.in-Ok.ensures.group.loaded.pool c.count_postings.ensures.read.pool);
  read = look_ok (look_then c.in-Ok.ensures.group.read (look_group c.in-Ok.ensures.group.loaded.file c.in-Ok-count_postings.ensures.read));
}

pub returns-in-Err-count_postings : goal.returns-in-Err-count_postings
returns-in-Err-count_postings g c = record {
  told = λ told runs at are. tt;
  undamaged = λ told runs at are short.
      let next = rw (c.in-Ok.ensures.group.loaded.file, c.load.ensures.group.read.looked.files) at c.in-Err-count_postings.ensures.undamaged in
      undamaged_as ℕ Counted c.in-Err-count_postings.refusal (next told (merged runs) (merged_left (c.in-Ok.ensures.group.told told runs at) are) short);
  few = tt;
  pool = tt;
  read = look_err (look_then c.in-Ok.ensures.group.read (look_group c.in-Ok.ensures.group.loaded.file c.in-Err-count_postings.ensures.read));
}

pub returns-in-Err : goal.returns-in-Err
returns-in-Err g c = record {
  told = λ told runs at are. tt;
  undamaged = λ told runs at are short. damage_none Group Counted _ c.in-Err.refusal (c.in-Err.ensures.group.told told runs at);
  few = tt;
  pool = tt;
  read = look_err c.in-Err.ensures.group.read;
}
