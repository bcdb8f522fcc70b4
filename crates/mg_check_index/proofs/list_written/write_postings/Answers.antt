use Rattle.std.proofs.Common.{arith, ◌<◌, ◌+◌, ◌++◌, ◌∷◌, [], length, take, drop, ap, sym, subst, ◌∙◌, refl}
use Rattle.std.proofs.lemmas.List.{drop_more, take_more}
use Rattle.mg_defs.specs.declared.Posting.{Posting}
use Rattle.mg_defs.specs.Lists.{Rises}
use Rattle.mg_post.specs.Writing.{Took}
use Rattle.mg_check_index.specs.Packing.{nothing}
use Rattle.mg_check_index.proofs.WrittenLaws.{names_same, pushed_more, puts_done, puts_none, puts_then, rest_rises}
use Rattle.mg_check_index.proofs.list_written.write_postings.Goals as goal

pub loop-index-init : goal.loop-index-init
loop-index-init g c = record {
  took = λ done took. took;
  pushed = record { docs = refl; pushed = omega arith; total = omega arith };
  last = c.requires.last;
  few = omega arith;
  puts = puts_none _ _ _ (names_same c.args.writer.now) (record { later = omega arith; device = tt });
  rises = λ rises. rises;
}

pub write_posting-requires-clause-took : goal.write_posting-requires-clause-took
write_posting-requires-clause-took g c =
    let between = c.requires.between in
    (between.done, take c.loop-index.index c.args.postings.now, c.loop-index.invariant.took between.done between.took)

pub write_posting-requires-clause-all : goal.write_posting-requires-clause-all
write_posting-requires-clause-all g c = c.loop-index.invariant.puts.same.all ∙ c.requires.between.all_are

pub loop-index-preserved : goal.loop-index-preserved
loop-index-preserved g c =
    let inv = c.loop-index.invariant in
    let postings = c.args.postings.now in
    let n = c.loop-index.index in
    let within : n < length postings = omega (arith, c.loop-index-test.true, c.count-index-end.ensures) in
    let is = c.at-posting.ensures in
    record {
      took = λ done took.
          subst (λ ps. Took c.write_posting.new.writer (g.T.Store.files c.write_posting.new.store) done ps)
          (ap (λ (p : Posting). take n postings ++ p ∷ []) is ∙ sym (take_more postings n nothing within))
          (c.in-Ok.ensures.took done (take n postings) (inv.took done took));
      pushed = pushed_more _ _ _ n _ inv.pushed c.in-Ok.ensures.pushed;
      last = c.in-Ok.ensures.pushed.last;
      few = omega (arith, c.in-Ok.ensures.within, c.requires.between.few);
      puts = puts_then inv.puts (puts_done c.in-Ok.ensures.step);
      rises = λ rises. rest_rises _ _ _ _ (subst (λ ps. Rises c.args.all c.loop-index.last ps)
          (drop_more postings n nothing within ∙ ap (λ (p : Posting). p ∷ drop (n + 1) postings) (sym is)) (inv.rises rises));
    }

pub returns-in-Err-clause-step : goal.returns-in-Err-clause-step
returns-in-Err-clause-step g c = puts_then c.loop-index.invariant.puts c.in-Err.ensures.step

pub returns-clause-step : goal.returns-clause-step
returns-clause-step g c = c.loop-index.invariant.puts
