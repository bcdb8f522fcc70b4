use Rattle.std.proofs.Common.{◌≡◌, sym, subst, rules, arith}
use Rattle.mg_defs.proofs.CanonLaws.{good_full}
use Rattle.mg_canon.specs.Tables.{AreTables}
use Rattle.mg_canon.proofs.Refused.{are_within}
use Rattle.mg_canon.proofs.Placing.{firsts_from, offsets_from}
use Rattle.mg_canon.proofs.canon.tables_of.Goals as goal

pub number-requires-clause-firsts : goal.number-requires-clause-firsts
number-requires-clause-firsts c =
    firsts_from c.args.lengths.now c.count_lengths-counts.result c.first_codewords-firsts.result (are_within c.args.lengths.now c.requires.all)
    c.count_lengths-counts.ensures.counts c.first_codewords-firsts.ensures

pub number-requires-clause-offsets : goal.number-requires-clause-offsets
number-requires-clause-offsets c =
    offsets_from c.args.lengths.now c.count_lengths-counts.result c.first_places-offsets.result c.count_lengths-counts.ensures.counts c.first_places-offsets.ensures

pub invariant_of-result : goal.invariant_of-result
invariant_of-result c =
    let items : c.in_ok-lengths.lengths.items ≡ c.args.lengths.now = search rules in
    let made = c.in_ok-numbered.ensures in
    let tables : AreTables c.args.lengths.now c.in_ok-numbered.numbered.values.items c.first_codewords-firsts.result c.first_places-offsets.result c.in_ok-numbered.numbered.symbols.items = record {
      few = c.requires.few;
      all = c.requires.all;
      full = good_full c.args.lengths.now c.requires.good;
      first_numbers = firsts_from c.args.lengths.now c.count_lengths-counts.result c.first_codewords-firsts.result
          (are_within c.args.lengths.now c.requires.all) c.count_lengths-counts.ensures.counts c.first_codewords-firsts.ensures;
      first_places = offsets_from c.args.lengths.now c.count_lengths-counts.result c.first_places-offsets.result c.count_lengths-counts.ensures.counts c.first_places-offsets.ensures;
      value_at = made.numbered.value_at;
      value_count = made.values;
      symbol_count = omega (arith, made.symbols);
      symbol_at = λ s here there. made.numbered.symbol_at s here;
    } in
    record {
      tables = subst (λ l. AreTables l c.in_ok-numbered.numbered.values.items c.first_codewords-firsts.result c.first_places-offsets.result c.in_ok-numbered.numbered.symbols.items) (sym items) tables;
      narrow = c.width_of.ensures;
      entries = λ i h. absurd (omega arith);
    }
