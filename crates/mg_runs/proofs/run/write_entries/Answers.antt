use Rattle.std.proofs.Common.{◌≡◌, ◌*◌, ◌/◌, ◌^◌, ◌<◌, ℕ, List, arith, ◌∙◌, length, subst, sym, take}
use Rattle.std.proofs.lemmas.List.{length-take}
use Rattle.std.specs.List.{All}
use Rattle.mg_runs.specs.Bytes.{number_in}
use Rattle.mg_runs.proofs.Puts.{aligned_place, puts_filled}
use Rattle.mg_runs.proofs.Sorting.{front_chunks, numbers_small, taken_sorted}
use Rattle.mg_runs.proofs.run.write_entries.Goals as goal

pub sort_entries-requires-clause-room : goal.sort_entries-requires-clause-room
sort_entries-requires-clause-room g c =
    let front = c.split_at_mut-front.result.0.now in
    let back = c.split_at_mut-front.result.1.now in
    let entries : length c.as_chunks_mut-entries.result.0.now ≡ length front / 8 = c.as_chunks_mut-entries.ensures.front_len in
    let docs : length c.as_chunks_mut-docs.result.0.now ≡ length (take (4 * c.args.count) back) / 4 = c.as_chunks_mut-docs.ensures.front_len in
    record {
      few = omega (arith, c.split_at_mut-front.ensures.front_len, c.requires.entries.few);
      each = omega (arith, length-take (4 * c.args.count) back, c.split_at_mut-front.ensures.front_len, c.split_at_mut-front.ensures.back_len, c.requires.entries.room);
    }

pub sort_entries-requires-clause-small : goal.sort_entries-requires-clause-small
sort_entries-requires-clause-small g c =
    let e = c.as_chunks_mut-entries.ensures.front ∙ front_chunks c.args.count c.args.bytes.now c.split_at_mut-front.result.0.now c.requires.entries.room c.split_at_mut-front.ensures.front in
    subst (λ (chunks : List (List ℕ)). All (λ e. number_in 4 e < 2 ^ 32) chunks) (sym e) (numbers_small 4 c.args.count c.args.bytes.now c.bytes_fit.ensures)

pub put_list-requires-clause-order : goal.put_list-requires-clause-order
put_list-requires-clause-order g c =
    let e = c.as_chunks_mut-entries.ensures.front ∙ front_chunks c.args.count c.args.bytes.now c.split_at_mut-front.result.0.now c.requires.entries.room c.split_at_mut-front.ensures.front in
    let s = taken_sorted c.args.count c.args.bytes.now c.as_chunks_mut-entries.result.0.now c.sort_entries.new.entries c.requires.entries e c.sort_entries.ensures.same in
    record { few = omega (arith, s.size, c.requires.entries.few); order = c.sort_entries.ensures.order; docs = s.docs }

pub put_list-requires-clause-some : goal.put_list-requires-clause-some
put_list-requires-clause-some g c =
    let e = c.as_chunks_mut-entries.ensures.front ∙ front_chunks c.args.count c.args.bytes.now c.split_at_mut-front.result.0.now c.requires.entries.room c.split_at_mut-front.ensures.front in
    let s = taken_sorted c.args.count c.args.bytes.now c.as_chunks_mut-entries.result.0.now c.sort_entries.new.entries c.requires.entries e c.sort_entries.ensures.same in
    omega (arith, s.size, c.requires.entries.some)

pub put_list-requires-clause-place : goal.put_list-requires-clause-place
put_list-requires-clause-place g c =
    let e = c.as_chunks_mut-entries.ensures.front ∙ front_chunks c.args.count c.args.bytes.now c.split_at_mut-front.result.0.now c.requires.entries.room c.split_at_mut-front.ensures.front in
    let s = taken_sorted c.args.count c.args.bytes.now c.as_chunks_mut-entries.result.0.now c.sort_entries.new.entries c.requires.entries e c.sort_entries.ensures.same in
    omega (arith, s.size, c.requires.place)

pub returns-clause-puts : goal.returns-clause-puts
returns-clause-puts g c =
    let e = c.as_chunks_mut-entries.ensures.front ∙ front_chunks c.args.count c.args.bytes.now c.split_at_mut-front.result.0.now c.requires.entries.room c.split_at_mut-front.ensures.front in
    let s = taken_sorted c.args.count c.args.bytes.now c.as_chunks_mut-entries.result.0.now c.sort_entries.new.entries c.requires.entries e c.sort_entries.ensures.same in
    let align = c.in_ok-align.ensures in
    puts_filled c.requires.whole (rw s.gathered at c.in_ok-put_list.ensures.puts)
    (record { holds = align.holds; bits = align.bits; name = align.name; wrote = align.wrote; cause = align.cause })

pub returns-clause-place : goal.returns-clause-place
returns-clause-place g c =
    let e = c.as_chunks_mut-entries.ensures.front ∙ front_chunks c.args.count c.args.bytes.now c.split_at_mut-front.result.0.now c.requires.entries.room c.split_at_mut-front.ensures.front in
    let s = taken_sorted c.args.count c.args.bytes.now c.as_chunks_mut-entries.result.0.now c.sort_entries.new.entries c.requires.entries e c.sort_entries.ensures.same in
    omega (arith, s.size, c.in_ok-put_list.ensures.place, aligned_place _ _ _ _ c.in_ok-align.ensures.bits)
