use Rattle.std.proofs.Common.{arith, ◌≡◌, ◌≢◌, ap, length, List, [], ℕ}
use Rattle.std.specs.Option.{unwrap_or}
use Rattle.std.specs.declared.option.Option.{Option}
use Rattle.mg_dev.specs.Files.{bytes_at}
use Rattle.mg_dev.specs.Names.{full_name}
use Rattle.mg_migrate.proofs.CopyLaws.{alone_more, alone_since, bases_apart, copied_more, emptied, from_here, size_here, stops_more, told_here}
use Rattle.mg_make.proofs.CallerLemmas.{rose_behind}
use Rattle.mg_migrate.proofs.copying.copy_part.Goals as goal

pub returns-in-Err-empty_part-clause-writes : goal.returns-in-Err-empty_part-clause-writes
returns-in-Err-empty_part-clause-writes g c = record {
  alone = alone_since _ _ _ _ c.in-Ok.ensures.files c.in-Err-empty_part.ensures.writes.alone;
  refused = stops_more c.in-Err-empty_part.refusal _ _ _ _ (λ rose. rose_behind _ _ _ c.in-Ok.ensures.cause.later rose) (λ told. tt) c.in-Err-empty_part.ensures.writes.refused;
  later = omega (arith, c.in-Ok.ensures.cause.later, c.in-Err-empty_part.ensures.writes.later);
}

pub loop-at-init : goal.loop-at-init
loop-at-init g c = record {
  alone = alone_since _ _ _ _ c.in-Ok.ensures.files c.in-Ok-empty_part.ensures.writes.alone;
  copied = λ told. ap (λ (file : Option (List ℕ)). unwrap_or file []) (emptied (g.S.Store.files c.args.store.now) _ _ _ c.in-Ok.ensures.files told c.in-Ok-empty_part.ensures.content);
  size = λ told. size_here (g.S.Store.files c.args.store.now) (full_name c.args.bases.now.name.now c.args.part) c.in-Ok.size c.unwrap_or-size.result (c.in-Ok.ensures.answer told) c.unwrap_or-size.ensures;
  within = omega arith;
  later = omega (arith, c.in-Ok.ensures.cause.later, c.in-Ok-empty_part.ensures.writes.later);
}

pub returns-in-Err-copy_block-clause-writes : goal.returns-in-Err-copy_block-clause-writes
returns-in-Err-copy_block-clause-writes g c =
    let so_far = c.loop-at.invariant in
    record {
      alone = alone_more _ _ _ _ so_far.alone c.in-Err-copy_block.ensures.writes.alone;
      refused = stops_more c.in-Err-copy_block.refusal _ _ _ _ (λ rose. rose_behind _ _ _ so_far.later rose) (λ told. tt) c.in-Err-copy_block.ensures.writes.refused;
      later = omega (arith, so_far.later, c.in-Err-copy_block.ensures.writes.later);
    }

pub returns-then-count-eq0-clause-writes : goal.returns-then-count-eq0-clause-writes
returns-then-count-eq0-clause-writes g c =
    let so_far = c.loop-at.invariant in
    let from = full_name c.args.bases.now.name.now c.args.part in
    let to = full_name c.args.bases.now.new.now c.args.part in
    let before = g.S.Store.files c.args.store.now in
    let loop = g.S.Store.files c.loop-at.store in
    let apart : from ≢ to = bases_apart c.args.bases.now.name.now c.args.bases.now.new.now c.args.part c.args.bases.now.apart in
    let long : length (bytes_at loop from) ≡ length (bytes_at before from) = ap length (from_here from to before loop loop c.loop-at.at so_far.alone apart) in
    record {
      alone = alone_more _ _ _ _ so_far.alone c.in-Ok-copy_block.ensures.writes.alone;
      refused = λ told. omega (
        arith,
        c.if-count-eq0.true,
        c.in-Ok-copy_block.ensures.some (told_here from to before loop loop c.loop-at.at so_far.alone apart told)
            (omega (arith, long, so_far.size told, c.loop-at-test.true)),
      );
      later = omega (arith, so_far.later, c.in-Ok-copy_block.ensures.writes.later);
    }

pub loop-at-preserved : goal.loop-at-preserved
loop-at-preserved g c =
    let so_far = c.loop-at.invariant in
    let from = full_name c.args.bases.now.name.now c.args.part in
    let to = full_name c.args.bases.now.new.now c.args.part in
    let before = g.S.Store.files c.args.store.now in
    let loop = g.S.Store.files c.loop-at.store in
    let now = g.S.Store.files c.copy_block.new.store in
    let apart : from ≢ to = bases_apart c.args.bases.now.name.now c.args.bases.now.new.now c.args.part c.args.bases.now.apart in
    record {
      alone = alone_more to before loop now so_far.alone c.in-Ok-copy_block.ensures.writes.alone;
      copied = λ told. copied_more from to before loop now c.loop-at.at so_far.alone apart c.in-Ok-copy_block.count told (so_far.copied told) c.in-Ok-copy_block.ensures.bytes;
      size = so_far.size;
      within = omega (arith, so_far.within, c.loop-at-test.true, c.in-Ok-copy_block.ensures.within);
      later = omega (arith, so_far.later, c.in-Ok-copy_block.ensures.writes.later);
    }
