use Rattle.std.proofs.Common.{rules, ◌≡◌, ◌∙◌, ℕ, List, [], length, ap, refl, arith}
use Rattle.std.specs.Simd.{first_chunks}
use Rattle.mg_runs.proofs.Chunks.{length_entries, no_chunks, write_back}
use Rattle.mg_runs.proofs.runs.spill.Goals as goal

no_slots : (count : ℕ) (bytes others : List ℕ) → first_chunks 64 count bytes ≡ [] → first_chunks 64 count others ≡ []
no_slots count bytes others none = ap (λ k. first_chunks 64 k others) (no_chunks count bytes none)

pub write_entries-requires-clause-holds : goal.write_entries-requires-clause-holds
write_entries-requires-clause-holds g c = c.requires.writer.holds

pub write_entries-requires-clause-place : goal.write_entries-requires-clause-place
write_entries-requires-clause-place g c =
    let is = c.pool.invariant in
    omega (arith, c.requires.writer.place, is.in_peak, is.in_limit, is.most)

pub write_entries-requires-clause-whole : goal.write_entries-requires-clause-whole
write_entries-requires-clause-whole g c = c.requires.writer.whole

pub write_entries-requires-clause-entries : goal.write_entries-requires-clause-entries
write_entries-requires-clause-entries g c =
    let some = rw (← c.pool.view_is, length_entries) at c.requires.some in
    let is = c.pool.invariant in
    record {
      some = some;
      few = omega (arith, is.in_peak, is.in_limit, is.most);
      room = rw c.deref_mut.ensures.value (omega (arith, is.in_peak, is.in_limit));
      are = rw c.deref_mut.ensures.value (rw (← c.pool.view_is) at c.requires.entries);
    }

pub returns-in-Err : goal.returns-in-Err
returns-in-Err g c =
    let value = c.deref_mut.ensures.value in
    let sizes = ap (λ t. length t) value in
    let same : length c.write_entries.new.bytes ≡ length c.pool.inside.bytes.items = omega (arith, sizes, c.write_entries.auto.bytes) in
    let back = write_back c.pool.inside.bytes.len c.pool.inside.bytes.items c.write_entries.new.bytes same (search rules) in
    let limit = ap (λ t. length t) back ∙ same in
    let puts = c.write_entries.ensures.puts in
    rw (← c.pool.view_is) (record {
      holds = tt;
      whole = tt;
      bits = tt;
      place = tt;
      empty = tt;
      slots = tt;
      peak = refl;
      limit = limit;
      name = puts.name;
      wrote = puts.wrote;
      cause = c.in-Err.ensures.puts.cause;
    })

pub returns : goal.returns
returns g c =
    let value = c.deref_mut.ensures.value in
    let sizes = ap (λ t. length t) value in
    let same : length c.write_entries.new.bytes ≡ length c.pool.inside.bytes.items = omega (arith, sizes, c.write_entries.auto.bytes) in
    let back = write_back c.pool.inside.bytes.len c.pool.inside.bytes.items c.write_entries.new.bytes same (search rules) in
    let limit = ap (λ t. length t) back ∙ same in
    let puts = c.in-Ok.ensures.puts in
    rw (← c.pool.view_is) (record {
      holds = puts.holds;
      whole = c.in-Ok.ensures.whole;
      bits = rw value at puts.bits;
      place = rw length_entries c.in-Ok.ensures.place;
      empty = refl;
      slots = λ none. no_slots _ _ _ none;
      peak = refl;
      limit = limit;
      name = puts.name;
      wrote = puts.wrote;
      cause = puts.cause;
    })
