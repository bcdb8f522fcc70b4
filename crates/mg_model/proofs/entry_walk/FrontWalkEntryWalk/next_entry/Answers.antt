use Rattle.mg_model.proofs.entry_walk.FrontWalkEntryWalk.next_entry.Goals as goal

pub returns : goal.returns
returns g c = record {
  gave = c.next.ensures.gave;
  answer = c.next.ensures.answer;
  step = c.next.ensures.step;
  rises = c.next.ensures.rises;
  same = c.next.ensures.same;
  looked = c.next.ensures.looked;
  reads = c.next.ensures.reads;
  cause = c.next.ensures.cause;
  memory = c.next.ensures.memory;
}
