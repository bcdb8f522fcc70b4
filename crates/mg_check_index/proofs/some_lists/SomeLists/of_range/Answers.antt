use Rattle.std.proofs.Common.{arith, ◌≡◌, ◌≤◌, ◌<◌, ◌+◌, ◌-◌, ◌^◌, length, slice_index, sym, ap, subst}
use Rattle.mg_check_index.specs.Listing.{some_of}
use Rattle.mg_check_index.proofs.SomeLaws.{some_long}
use Rattle.mg_check_index.proofs.some_lists.SomeLists.of_range.Goals as goal

pub returns-clause-lists : goal.returns-clause-lists
returns-clause-lists c =
    let within : c.args.first + (c.end_from-end.result - c.args.first) ≤ length c.args.lists.now.next = omega (arith, c.end_from-end.ensures.after, c.end_from-end.ensures.last) in
    ap (λ n. some_of c.args.lists.now c.args.first n) (sym (some_long c.args.lists.now c.args.first (c.end_from-end.result - c.args.first) within))

pub returns-clause-some : goal.returns-clause-some
returns-clause-some c =
    let within : c.args.first + (c.end_from-end.result - c.args.first) ≤ length c.args.lists.now.next = omega (arith, c.end_from-end.ensures.after, c.end_from-end.ensures.last) in
    omega (arith, some_long c.args.lists.now c.args.first (c.end_from-end.result - c.args.first) within, c.end_from-end.ensures.after)

pub returns-clause-within : goal.returns-clause-within
returns-clause-within c =
    let within : c.args.first + (c.end_from-end.result - c.args.first) ≤ length c.args.lists.now.next = omega (arith, c.end_from-end.ensures.after, c.end_from-end.ensures.last) in
    omega (arith, some_long c.args.lists.now c.args.first (c.end_from-end.result - c.args.first) within, within)

pub returns-clause-few : goal.returns-clause-few
returns-clause-few c =
    let within : c.args.first + (c.end_from-end.result - c.args.first) ≤ length c.args.lists.now.next = omega (arith, c.end_from-end.ensures.after, c.end_from-end.ensures.last) in
    let long = some_long c.args.lists.now c.args.first (c.end_from-end.result - c.args.first) within in
    let last : c.args.first + (c.end_from-end.result - c.args.first) - 1 ≡ c.end_from-end.result - 1 = omega (arith, c.end_from-end.ensures.after) in
    subst (λ n. slice_index c.args.lists.now.starts (c.args.first + n - 1) < slice_index c.args.lists.now.starts c.args.first + 2 ^ 16) (sym long)
    (subst (λ n. slice_index c.args.lists.now.starts n < slice_index c.args.lists.now.starts c.args.first + 2 ^ 16) (sym last) c.end_from-end.ensures.few)
