use Rattle.std.proofs.Common.{arith, ◌<◌, ◌^◌, ◌∙◌, ◌+◌, ◌++◌, [], ◌≡◌, IsSome, length, refl, subst, take}
use Rattle.mg_dev.specs.Files.{bytes_at}
use Rattle.mg_dev.specs.declared.part.Part.TheVariants.{Plain}
use Rattle.mg_build.specs.Sources.{AreRead, IsFrom, IsOfOnePage, ReadsPages, TellsSize}
use Rattle.mg_build.proofs.PassLaws.{block_here, looked_nowhere, page_of_block, pass_byte, pass_count, read_block, read_front_of, read_none, rose_behind, same_file_more, same_file_none, tells_count}
use Rattle.mg_build.proofs.ReadLaws.{read_nothing, read_page}
use Rattle.mg_build.proofs.StepLaws.{looked_again}
use Rattle.mg_build.proofs.passes.count_bytes.Goals as goal

pub loop-at-init : goal.loop-at-init
loop-at-init g c = record {
  within = omega arith;
  fits = c.requires.fits;
  file = same_file_none c.args.source.now.feed;
  size = refl;
  looked = looked_nowhere _ _ _ _;
  read = λ none. read_nothing _ _ none;
  counted = ([], read_none _ _, c.requires.nothing);
}

pub returns-clause-counted : goal.returns-clause-counted
returns-clause-counted g c =
    let all : c.loop-at.at ≡ c.args.source.now.size = omega (arith, c.loop-at-test.false, c.loop-at.invariant.within, c.size-size.ensures.size) in
    let counted = c.loop-at.invariant.counted in
    (counted.0, subst (λ n. AreRead (g.S.Store.files c.args.store.now) c.args.source.now.feed.name n counted.0) all counted.1, counted.2)

pub turn-requires : goal.turn-requires
turn-requires g c = record {
  fits = c.loop-at.invariant.fits;
  within = omega (arith, c.loop-at-test.true, c.loop-at.invariant.size, c.size-size.ensures.size);
}

pub take_all-requires : goal.take_all-requires
take_all-requires g c =
    let so_far = c.loop-at.invariant in
    let page = page_of_block c.block-bytes.ensures c.in-Ok.ensures.block in
    record { given = (so_far.counted.0, so_far.counted.2, omega (arith, so_far.counted.1.size, page.within, so_far.size, c.size-size.ensures.size, c.size-size.ensures.small)) }

pub overflow_add-at : goal.overflow_add-at
overflow_add-at g c =
    let page = page_of_block c.block-bytes.ensures c.in-Ok.ensures.block in
    omega (arith, page.within, c.loop-at.invariant.size, c.size-size.ensures.size, c.size-size.ensures.small)

-- ---- the ways out

pub returns-in-Err-clause-counts : goal.returns-in-Err-clause-counts
returns-in-Err-clause-counts g c =
    let so_far = c.loop-at.invariant in
    let turns = c.in-Err.ensures.turns in
    record {
      fits = turns.fits;
      file = same_file_more _ _ _ so_far.file turns.file;
      size = c.in-Err.ensures.size ∙ so_far.size;
      small = omega (arith, c.size-size.ensures.size, c.size-size.ensures.small);
      whole = λ none. tt;
      refused = pass_byte c.in-Err.refusal (λ rose. rose_behind _ _ _ so_far.looked.faults rose) so_far.looked.files so_far.file.name so_far.size turns.refused;
      tells = subst (λ n. TellsSize n c.in-Err.refusal) so_far.size turns.tells;
      looked = looked_again so_far.looked turns.looked;
    }

pub returns-in-Err-take_all-clause-counts : goal.returns-in-Err-take_all-clause-counts
returns-in-Err-take_all-clause-counts g c =
    let before = g.S.Store.files c.args.store.now in
    let name = c.args.source.now.feed.name in
    let so_far = c.loop-at.invariant in
    let turns = c.in-Ok.ensures.turns in
    let block = c.block-bytes.result.now in
    let stop = c.in-Err-take_all.ensures.refused in
    let read : (IsSome before → IsFrom c.loop-at.at (bytes_at before name) block)
    = block_here before _ name _ c.loop-at.at c.block-bytes.ensures so_far.looked.files so_far.file.name c.in-Ok.ensures.told in
    let few : c.args.source.now.size < 2 ^ 32 = omega (arith, c.size-size.ensures.size, c.size-size.ensures.small) in
    record {
      fits = turns.fits;
      file = same_file_more _ _ _ so_far.file turns.file;
      size = c.in-Ok.ensures.size ∙ so_far.size;
      small = few;
      whole = λ none. tt;
      refused = pass_count _ before name (so_far.counted.0 ++ take (stop.taken + 1) block) c.args.source.now.size (c.loop-at.at + (stop.taken + 1)) c.in-Err-take_all.refusal few
          (read_front_of before name c.loop-at.at (stop.taken + 1) so_far.counted.0 block (omega (arith, stop.within)) read so_far.counted.1)
          (stop.stops so_far.counted.0 so_far.counted.2);
      tells = tells_count _ _ c.in-Err-take_all.refusal (stop.stops so_far.counted.0 so_far.counted.2);
      looked = looked_again so_far.looked turns.looked;
    }

pub returns-clause-counts : goal.returns-clause-counts
returns-clause-counts g c =
    let all : c.loop-at.at ≡ c.args.source.now.size = omega (arith, c.loop-at-test.false, c.loop-at.invariant.within, c.size-size.ensures.size) in
    let so_far = c.loop-at.invariant in
    record {
      fits = so_far.fits;
      file = so_far.file;
      size = so_far.size;
      small = omega (arith, c.size-size.ensures.size, c.size-size.ensures.small);
      whole = λ none. subst (λ n. ReadsPages n (g.S.Store.reads c.args.store.now Plain) (g.S.Store.reads c.loop-at.store Plain)) all (so_far.read none).reads;
      refused = tt;
      tells = tt;
      looked = so_far.looked;
    }

-- ---- the next page

pub loop-at-preserved : goal.loop-at-preserved
loop-at-preserved g c =
    let before = g.S.Store.files c.args.store.now in
    let name = c.args.source.now.feed.name in
    let so_far = c.loop-at.invariant in
    let block = c.block-bytes.result.now in
    let page : IsOfOnePage c.loop-at.at (length block) c.loop-at.source.size = page_of_block c.block-bytes.ensures c.in-Ok.ensures.block in
    let read : (IsSome before → IsFrom c.loop-at.at (bytes_at before name) block)
    = block_here before _ name _ c.loop-at.at c.block-bytes.ensures so_far.looked.files so_far.file.name c.in-Ok.ensures.told in
    record {
      within = omega (arith, page.within, so_far.size, c.size-size.ensures.size);
      fits = c.in-Ok.ensures.turns.fits;
      file = same_file_more _ _ _ so_far.file c.in-Ok.ensures.turns.file;
      size = c.in-Ok.ensures.size ∙ so_far.size;
      read = λ none. read_page page (so_far.read none) c.in-Ok.ensures.turns.turned (c.in-Ok.ensures.turns.looked.later Plain);
      looked = looked_again so_far.looked c.in-Ok.ensures.turns.looked;
      counted = (
        so_far.counted.0 ++ block,
        read_block before name c.loop-at.at so_far.counted.0 block read so_far.counted.1,
        c.in-Ok-take_all.ensures.given so_far.counted.0 so_far.counted.2,
      );
    }

pub loop-at-smaller : goal.loop-at-smaller
loop-at-smaller g c =
    let page = page_of_block c.block-bytes.ensures c.in-Ok.ensures.block in
    omega (arith, page.some, page.within, c.loop-at-test.true)
