use Rattle.std.proofs.Common.{arith, inl, ◌≡◌, ◌∙◌, ◌+◌, ◌++◌, [], length, refl, subst, sym, take, IsSome}
use Rattle.mg_dev.specs.Files.{bytes_at}
use Rattle.mg_dev.specs.Causes.{Rose}
use Rattle.mg_dev.specs.Moments.{store_at}
use Rattle.mg_bits.proofs.CallerLemmas.{held_page_stays}
use Rattle.mg_make.specs.Putting.{IsApart, OthersSame}
use Rattle.mg_make.specs.Changes.{TellsChange}
use Rattle.mg_make.specs.Written.{SecondStops}
use Rattle.mg_make.specs.Plans.{IsPlanOf}
use Rattle.mg_build.specs.Sources.{AreRead, IsFrom, IsOfOnePage, TellsSize}
use Rattle.mg_build.specs.Steps.{WritesOn}
use Rattle.mg_build.proofs.PutLaws.{still_put}
use Rattle.mg_build.proofs.PassLaws.{block_so_far, page_of_block, read_block, read_front_of, read_none, rose_behind, same_bytes, same_file_more, same_file_none, still_told, tells_put, write_byte, write_put}
use Rattle.mg_build.proofs.StepLaws.{writes_look, writes_more, writes_none}
use Rattle.mg_build.proofs.passes.put_bytes.Goals as goal

pub loop-at-init : goal.loop-at-init
loop-at-init g c = record {
  within = omega arith;
  fits = c.requires.source.fits;
  file = same_file_none c.args.source.now.feed;
  size = refl;
  goes = writes_none c.requires.nothing.head;
  put = ([], read_none _ _, c.requires.nothing);
}

pub returns-clause-put : goal.returns-clause-put
returns-clause-put g c =
    let all : c.loop-at.at ≡ c.args.source.now.size = omega (arith, c.loop-at-test.false, c.loop-at.invariant.within, c.size-size.ensures.size) in
    let put = c.loop-at.invariant.put in
    (put.0, subst (λ n. AreRead (g.S.Store.files c.args.store.now) c.args.source.now.feed.name n put.0) all put.1, put.2)

pub turn-requires : goal.turn-requires
turn-requires g c = record {
  fits = c.loop-at.invariant.fits;
  within = omega (arith, c.loop-at-test.true, c.loop-at.invariant.size, c.size-size.ensures.size);
}

pub take_all-requires : goal.take_all-requires
take_all-requires g c =
    let so_far = c.loop-at.invariant in
    let page = page_of_block c.block-bytes.ensures c.in-Ok.ensures.block in
    record {
      put = (
        so_far.put.0,
        still_put c.loop-at.writer _ _ so_far.put.0 c.in-Ok.ensures.turns.looked.files so_far.put.2,
        omega (arith, so_far.put.1.size, page.within, so_far.size, c.size-size.ensures.size, c.size-size.ensures.small),
      );
    }

pub overflow_add-at : goal.overflow_add-at
overflow_add-at g c =
    let page = page_of_block c.block-bytes.ensures c.in-Ok.ensures.block in
    omega (arith, page.within, c.loop-at.invariant.size, c.size-size.ensures.size, c.size-size.ensures.small)

-- ---- the ways out

pub returns-in-Err-clause-goes : goal.returns-in-Err-clause-goes
returns-in-Err-clause-goes g c = writes_look c.loop-at.invariant.goes c.in-Err.ensures.turns.looked

pub returns-in-Err-clause-refused : goal.returns-in-Err-clause-refused
returns-in-Err-clause-refused g c =
    let before = g.S.Store.files c.args.store.now in
    let name = c.args.source.now.feed.name in
    let so_far = c.loop-at.invariant in
    write_byte c.args.writer.now.plan before (g.S.Store.files c.loop-at.store) name c.loop-at.source.feed.name c.in-Err.refusal
    (λ rose. rose_behind _ _ _ so_far.goes.later rose) (still_told before (g.S.Store.files c.loop-at.store) so_far.goes.others.told)
    (same_bytes before (g.S.Store.files c.loop-at.store) c.loop-at.source.feed.name name so_far.file.name (so_far.goes.others.others name c.requires.source.apart))
    so_far.size c.in-Err.ensures.turns.refused

pub returns-in-Err-take_all-clause-goes : goal.returns-in-Err-take_all-clause-goes
returns-in-Err-take_all-clause-goes g c = writes_more (writes_look {now = store_at g.S.Store.files g.S.Store.reads g.S.Store.faults c.turn.new.store}
    c.loop-at.invariant.goes c.in-Ok.ensures.turns.looked) c.in-Err-take_all.ensures

pub returns-in-Err-take_all-clause-refused : goal.returns-in-Err-take_all-clause-refused
returns-in-Err-take_all-clause-refused g c =
    let before = g.S.Store.files c.args.store.now in
    let name = c.args.source.now.feed.name in
    let so_far = c.loop-at.invariant in
    let block = c.block-bytes.result.now in
    let stop = c.in-Err-take_all.ensures.refused in
    let run = take (stop.taken + 1) block in
    let page : IsOfOnePage c.loop-at.at (length block) c.loop-at.source.size = page_of_block c.block-bytes.ensures c.in-Ok.ensures.block in
    let same : bytes_at (g.S.Store.files c.loop-at.store) c.loop-at.source.feed.name ≡ bytes_at before name
    = same_bytes before (g.S.Store.files c.loop-at.store) c.loop-at.source.feed.name name so_far.file.name (so_far.goes.others.others name c.requires.source.apart) in
    let read : (IsSome before → IsFrom c.loop-at.at (bytes_at before name) block)
    = block_so_far before (g.S.Store.files c.loop-at.store) name c.loop-at.source.feed.name c.loop-at.at c.block-bytes.ensures
    (still_told before (g.S.Store.files c.loop-at.store) so_far.goes.others.told) same c.in-Ok.ensures.told in
    write_put _ _ c.args.writer.now.plan before name so_far.put.0 run c.args.source.now.size (c.loop-at.at + (stop.taken + 1)) c.in-Err-take_all.refusal
    (λ rose. rose_behind _ _ _ (omega (arith, so_far.goes.later, c.in-Ok.ensures.turns.looked.faults)) rose)
    (omega (arith, c.size-size.ensures.size, c.size-size.ensures.small)) (omega (arith, stop.within, page.within, so_far.size))
    (read_front_of before name c.loop-at.at (stop.taken + 1) so_far.put.0 block (omega (arith, stop.within)) read so_far.put.1)
    (λ more few. subst (λ plan. SecondStops (Rose (g.S.Store.faults c.turn.new.store) (g.S.Store.faults c.take_all.new.store))
    (IsPlanOf plan (so_far.put.0 ++ (run ++ more))) c.in-Err-take_all.refusal) so_far.goes.plan
    (stop.stops so_far.put.0 more (still_put c.loop-at.writer _ _ so_far.put.0 c.in-Ok.ensures.turns.looked.files so_far.put.2) few))

pub returns-in-Err-clause-tells : goal.returns-in-Err-clause-tells
returns-in-Err-clause-tells g c = inl (subst (λ n. TellsSize n c.in-Err.refusal) c.loop-at.invariant.size c.in-Err.ensures.turns.tells)

pub returns-in-Err-take_all-clause-tells : goal.returns-in-Err-take_all-clause-tells
returns-in-Err-take_all-clause-tells g c =
    let before = g.S.Store.files c.args.store.now in
    let name = c.args.source.now.feed.name in
    let so_far = c.loop-at.invariant in
    let block = c.block-bytes.result.now in
    let stop = c.in-Err-take_all.ensures.refused in
    let run = take (stop.taken + 1) block in
    let page : IsOfOnePage c.loop-at.at (length block) c.loop-at.source.size = page_of_block c.block-bytes.ensures c.in-Ok.ensures.block in
    let same : bytes_at (g.S.Store.files c.loop-at.store) c.loop-at.source.feed.name ≡ bytes_at before name
    = same_bytes before (g.S.Store.files c.loop-at.store) c.loop-at.source.feed.name name so_far.file.name (so_far.goes.others.others name c.requires.source.apart) in
    let read : (IsSome before → IsFrom c.loop-at.at (bytes_at before name) block)
    = block_so_far before (g.S.Store.files c.loop-at.store) name c.loop-at.source.feed.name c.loop-at.at c.block-bytes.ensures
    (still_told before (g.S.Store.files c.loop-at.store) so_far.goes.others.told) same c.in-Ok.ensures.told in
    tells_put c.args.writer.now.plan before name so_far.put.0 run c.args.source.now.size (c.loop-at.at + (stop.taken + 1)) c.in-Err-take_all.refusal
    (omega (arith, c.size-size.ensures.size, c.size-size.ensures.small)) (omega (arith, stop.within, page.within, so_far.size))
    (read_front_of before name c.loop-at.at (stop.taken + 1) so_far.put.0 block (omega (arith, stop.within)) read so_far.put.1)
    (λ more few. subst (λ plan. TellsChange plan (so_far.put.0 ++ (run ++ more)) c.in-Err-take_all.refusal) so_far.goes.plan
    (stop.tells so_far.put.0 more (still_put c.loop-at.writer _ _ so_far.put.0 c.in-Ok.ensures.turns.looked.files so_far.put.2) few))

-- ---- the next page

pub loop-at-preserved : goal.loop-at-preserved
loop-at-preserved g c =
    let before = g.S.Store.files c.args.store.now in
    let name = c.args.source.now.feed.name in
    let so_far = c.loop-at.invariant in
    let turns = c.in-Ok.ensures.turns in
    let block = c.block-bytes.result.now in
    let first = store_at g.S.Store.files g.S.Store.reads g.S.Store.faults c.args.store.now in
    let turned = store_at g.S.Store.files g.S.Store.reads g.S.Store.faults c.turn.new.store in
    let page : IsOfOnePage c.loop-at.at (length block) c.loop-at.source.size = page_of_block c.block-bytes.ensures c.in-Ok.ensures.block in
    let same : bytes_at (g.S.Store.files c.loop-at.store) c.loop-at.source.feed.name ≡ bytes_at before name
    = same_bytes before (g.S.Store.files c.loop-at.store) c.loop-at.source.feed.name name so_far.file.name (so_far.goes.others.others name c.requires.source.apart) in
    let read : (IsSome before → IsFrom c.loop-at.at (bytes_at before name) block)
    = block_so_far before (g.S.Store.files c.loop-at.store) name c.loop-at.source.feed.name c.loop-at.at c.block-bytes.ensures
    (still_told before (g.S.Store.files c.loop-at.store) so_far.goes.others.told) same c.in-Ok.ensures.told in
    let goes : WritesOn c.args.writer.now c.loop-at.writer first turned = writes_look so_far.goes turns.looked in
    let put_others : OthersSame c.args.writer.now.base (g.S.Store.files c.turn.new.store) (g.S.Store.files c.take_all.new.store)
    = subst (λ base. OthersSame base (g.S.Store.files c.turn.new.store) (g.S.Store.files c.take_all.new.store)) so_far.goes.base c.in-Ok-take_all.ensures.others in
    record {
      within = omega (arith, page.within, so_far.size, c.size-size.ensures.size);
      fits = held_page_stays c.turn.new.self.feed (g.S.Store.files c.turn.new.store) (g.S.Store.files c.take_all.new.store) put_others.told
          (put_others.others c.turn.new.self.feed.name (subst (λ n. IsApart c.args.writer.now.base n) (sym (turns.file.name ∙ so_far.file.name)) c.requires.source.apart)) turns.fits;
      file = same_file_more _ _ _ so_far.file turns.file;
      size = c.in-Ok.ensures.size ∙ so_far.size;
      goes = writes_more goes c.in-Ok-take_all.ensures;
      put = (
        so_far.put.0 ++ block,
        read_block before name c.loop-at.at so_far.put.0 block read so_far.put.1,
        c.in-Ok-take_all.ensures.put so_far.put.0 (still_put c.loop-at.writer _ _ so_far.put.0 turns.looked.files so_far.put.2),
      );
    }

pub loop-at-smaller : goal.loop-at-smaller
loop-at-smaller g c =
    let page = page_of_block c.block-bytes.ensures c.in-Ok.ensures.block in
    omega (arith, page.some, page.within, c.loop-at-test.true)
