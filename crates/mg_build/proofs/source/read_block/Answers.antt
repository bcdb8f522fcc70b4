use Rattle.std.proofs.Common.{arith, ◌<◌, ◌+◌, ◌∙◌, length, refl, true, false}
use Rattle.mg_dev.specs.Files.{bytes_at}
use Rattle.mg_dev.specs.declared.part.Part.TheVariants.{Plain}
use Rattle.mg_build.proofs.BlockLaws.{front_here, front_is}
use Rattle.mg_build.proofs.PassLaws.{rose_behind, same_file_more}
use Rattle.mg_build.proofs.ReadLaws.{page_held, turned_held}
use Rattle.mg_build.proofs.StepLaws.{looked_again, turn_refused}
use Rattle.mg_build.proofs.source.read_block.Goals as goal

pub returns-in-Err-clause-turns : goal.returns-in-Err-clause-turns
returns-in-Err-clause-turns g c = turn_refused c.in-Err.ensures.turns

pub returns-in-Ok-true-clause-told : goal.returns-in-Ok-true-clause-told
returns-in-Ok-true-clause-told g c = λ told.
    let block = c.fill_front.new.block in
    let count = c.rest_of_page-count.result in
    let bytes = bytes_at (g.S.Store.files c.args.store.now) c.args.feed.now.name in
    front_is count c.args.at bytes block (omega (arith, c.rest_of_page-count.ensures.few, c.fill_front.auto.block, c.requires.room))
    (front_here c.args.at count block (g.S.Store.files c.args.store.now) _ c.args.feed.now.name _ _ true c.in-Ok.ensures.turns.looked.files c.in-Ok.ensures.turns.file.name
    c.in-Ok-true.field-0-test c.in-Ok-true.ensures.told told)

pub returns-in-Ok-true-clause-turns : goal.returns-in-Ok-true-clause-turns
returns-in-Ok-true-clause-turns g c =
    let turns = c.in-Ok.ensures.turns in
    let part = turns.file.part ∙ c.requires.part in
    record {
      fits = c.fill_front.ensures.fits;
      file = same_file_more _ _ _ turns.file c.fill_front.ensures.file;
      turned = turned_held turns.turned (c.fill_front.ensures.looked.later Plain)
          (c.in-Ok-true.ensures.held c.in-Ok-true.field-0-test ∙ page_held _ _ _ _ c.rest_of_page-count.ensures.page);
      refused = tt;
      tells = tt;
      looked = looked_again turns.looked (rw part at c.fill_front.ensures.looked);
    }

pub returns-in-Ok-false-clause-turns : goal.returns-in-Ok-false-clause-turns
returns-in-Ok-false-clause-turns g c =
    let turns = c.in-Ok.ensures.turns in
    let part = turns.file.part ∙ c.requires.part in
    let page = c.rest_of_page-count.ensures.page in
    record {
      fits = c.fill_front.ensures.fits;
      file = same_file_more _ _ _ turns.file c.fill_front.ensures.file;
      turned = tt;
      refused = (
        omega (arith, page.within, c.missing.ensures),
        λ told.
            let ends : length (bytes_at (g.S.Store.files c.args.store.now) c.args.feed.now.name) < c.args.at + c.rest_of_page-count.result
            = front_here c.args.at c.rest_of_page-count.result c.fill_front.new.block (g.S.Store.files c.args.store.now) _ c.args.feed.now.name _ _ false
            turns.looked.files turns.file.name c.in-Ok-false.field-0-test c.in-Ok-false.ensures.told told in
            omega (arith, page.within, ends),
      );
      tells = (refl, omega (arith, page.within, c.missing.ensures));
      looked = looked_again turns.looked (rw part at c.fill_front.ensures.looked);
    }

pub returns-in-Err-fill_front-clause-turns : goal.returns-in-Err-fill_front-clause-turns
returns-in-Err-fill_front-clause-turns g c =
    let turns = c.in-Ok.ensures.turns in
    let part = turns.file.part ∙ c.requires.part in
    record {
      fits = c.fill_front.ensures.fits;
      file = same_file_more _ _ _ turns.file c.fill_front.ensures.file;
      turned = tt;
      refused = rose_behind _ _ _ turns.looked.faults c.in-Err-fill_front.ensures.cause.failed;
      tells = tt;
      looked = looked_again turns.looked (rw part at c.fill_front.ensures.looked);
    }
