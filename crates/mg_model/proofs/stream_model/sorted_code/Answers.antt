use Rattle.std.proofs.Common.{arith, ◌∙◌, ap, length, subst, sym}
use Rattle.mg_defs.specs.Canon.{AreGood}
use Rattle.mg_model.proofs.Codes.{counts-some, pieces-short, columns-long}
use Rattle.mg_model.proofs.stream_model.sorted_code.Goals as goal

pub lengths-requires-clause-counted : goal.lengths-requires-clause-counted
lengths-requires-clause-counted c = counts-some c.sort.new.self c.deref.result.now c.counts.ensures.keeps (c.deref.ensures.value ∙ c.in_ok-counts.ensures.counts)

pub returns-clause-code : goal.returns-clause-code
returns-clause-code c =
    let long = columns-long c.sort.new.self in
    record {
      rising = c.in_ok-sort.ensures.rising;
      short = pieces-short c.sort.new.self c.counts.ensures.keeps.short;
      few = omega (arith, long.0, c.counts.ensures.keeps.few);
      each = omega (arith, long.0, long.1, ap length c.in_ok-canon.ensures, ap length c.deref-2.ensures.value, c.in_ok-lengths.ensures.same_length, ap length c.deref.ensures.value, ap length c.in_ok-counts.ensures.counts);
      good = subst AreGood (sym (c.in_ok-canon.ensures ∙ c.deref-2.ensures.value)) c.in_ok-lengths.ensures.good;
    }
