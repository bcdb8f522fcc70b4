use Rattle.std.proofs.Common.{arith, refl, ◌≡◌, ◌-◌, ◌+◌, ◌∙◌, ap, subst, length, inl, inr, Err}
use Rattle.mg_canon.specs.Refusals.{IsFirstBad, IsUnfilled, most_bits}
use Rattle.mg_model.proofs.Entries.{sizes-are}
use Rattle.mg_model.proofs.Damages.{outside-length, outside-sum}
use Rattle.mg_model.proofs.reading.checked_code.Goals as goal

pub new-requires : goal.new-requires
new-requires c = omega (arith, ap length c.deref.ensures.value, c.requires.each, c.requires.few)

pub entry_end-requires : goal.entry_end-requires
entry_end-requires c =
    let first : IsFirstBad c.args.read.now.lengths.items c.in-Err-BadLength.symbol c.in-Err-BadLength.length =
    subst (λ ls. IsFirstBad ls c.in-Err-BadLength.symbol c.in-Err-BadLength.length) c.deref.ensures.value
    ((c.new.ensures.bad_length c.in-Err-BadLength.symbol c.in-Err-BadLength.length).0 (c.in-Err-BadLength.is ∙ ap Err c.in-Err-BadLength.field-0-is)) in
    omega (arith, first.there, c.requires.each)

pub invariant_of-result : goal.invariant_of-result
invariant_of-result c =
    let first : IsFirstBad c.args.read.now.lengths.items c.in-Err-BadLength.symbol c.in-Err-BadLength.length =
    subst (λ ls. IsFirstBad ls c.in-Err-BadLength.symbol c.in-Err-BadLength.length) c.deref.ensures.value
    ((c.new.ensures.bad_length c.in-Err-BadLength.symbol c.in-Err-BadLength.length).0 (c.in-Err-BadLength.is ∙ ap Err c.in-Err-BadLength.field-0-is)) in
    let long : c.len.result ≡ length c.args.read.now.lengths.items = omega (arith, c.len.ensures) in
    record {
      outside = outside-length c.args.read.now.lengths.items c.in-Err-BadLength.symbol c.in-Err-BadLength.length c.most_bits.result c.from.result first
          (c.most_bits.ensures ∙ ap most_bits long) c.from.ensures;
    }

pub invariant_of-result-in-Err-Kraft : goal.invariant_of-result-in-Err-Kraft
invariant_of-result-in-Err-Kraft c =
    let unfilled : IsUnfilled c.args.read.now.lengths.items c.in-Err-Kraft.sum = subst (λ ls. IsUnfilled ls c.in-Err-Kraft.sum) c.deref.ensures.value
    ((c.new.ensures.kraft c.in-Err-Kraft.sum).0 (c.in-Err-Kraft.is ∙ ap Err c.in-Err-Kraft.field-0-is)) in
    record { outside = outside-sum c.args.read.now.lengths.items c.in-Err-Kraft.sum c.told.result unfilled c.told.ensures }

pub returns-in-Err-BadLength-clause-answer : goal.returns-in-Err-BadLength-clause-answer
returns-in-Err-BadLength-clause-answer c = λ count bytes is.
    let first : IsFirstBad c.args.read.now.lengths.items c.in-Err-BadLength.symbol c.in-Err-BadLength.length =
    subst (λ ls. IsFirstBad ls c.in-Err-BadLength.symbol c.in-Err-BadLength.length) c.deref.ensures.value
    ((c.new.ensures.bad_length c.in-Err-BadLength.symbol c.in-Err-BadLength.length).0 (c.in-Err-BadLength.is ∙ ap Err c.in-Err-BadLength.field-0-is)) in
    let long : c.len.result ≡ count = omega (arith, c.len.ensures, c.requires.each, is.count_is) in
    let end = c.entry_end.ensures.end ∙ sizes-are c.args.read.now.pieces c.args.read.now.lengths.items (c.in-Err-BadLength.symbol + 1) c.requires.each (omega (arith, first.there, c.requires.each)) in
    inl (record {
      code = record { pieces = c.args.read.now.pieces; lengths = c.args.read.now.lengths.items };
      is = is;
      symbol = c.in-Err-BadLength.symbol;
      bits = c.in-Err-BadLength.length;
      first = first;
      told = record { part_is = refl; at_is = ap (λ n. n - 1) end; low_is = refl; high_is = c.most_bits.ensures ∙ ap most_bits long; found_is = c.from.ensures };
    })

pub returns-in-Err-Kraft-clause-answer : goal.returns-in-Err-Kraft-clause-answer
returns-in-Err-Kraft-clause-answer c = λ count bytes is.
    let unfilled : IsUnfilled c.args.read.now.lengths.items c.in-Err-Kraft.sum = subst (λ ls. IsUnfilled ls c.in-Err-Kraft.sum) c.deref.ensures.value
    ((c.new.ensures.kraft c.in-Err-Kraft.sum).0 (c.in-Err-Kraft.is ∙ ap Err c.in-Err-Kraft.field-0-is)) in
    inr (record {
      code = record { pieces = c.args.read.now.pieces; lengths = c.args.read.now.lengths.items };
      is = is;
      sum = c.in-Err-Kraft.sum;
      unfilled = unfilled;
      told = record { part_is = refl; at_is = refl; low_is = refl; high_is = refl; found_is = c.told.ensures };
    })
