use Rattle.std.proofs.Common.{arith, subst, sym, IsSome, Ok}
use Rattle.mg_front.specs.Reading.{AnswersBlock}
use Rattle.mg_front.proofs.ReadPages.{look_as, looks_more, looks_wider}
use Rattle.mg_front.proofs.OrderLaws.{block_refused, lost_among, stands_same, none_at_all, found_in}
use Rattle.mg_dev.proofs.CallerLemmas.{cause_err, cause_then}
use Rattle.mg_front.proofs.ReaderLaws.{looked_again, memory_for, same_again}
use Rattle.mg_front.specs.Stood.{BlockStands}
use Rattle.mg_front.proofs.StoodLaws.{absent_first, found_stands}
use Rattle.mg_front.proofs.reader.FrontReader.find.Goals as goal

pub returns-in-Err : goal.returns-in-Err
returns-in-Err g c =
    let e = c.in-Err.ensures.look in
    record {
      step = record {
        fits = e.step.fits;
        same = e.step.same;
        looked = e.step.looked;
        reads = λ apart. looks_wider (omega arith) (e.step.reads apart);
        memory = memory_for _ e.step.memory;
        cause = cause_err (omega arith) e.step.cause;
      };
      found = λ es stands. block_refused _ es _ _ _ (e.found es stands);
      stood = λ told. tt;
      bad = e.bad;
    }

pub returns-in-Ok-None : goal.returns-in-Ok-None
returns-in-Ok-None g c =
    let e = c.in-Ok-None.ensures.look in
    record {
      step = record {
        fits = e.step.fits;
        same = e.step.same;
        looked = e.step.looked;
        reads = λ apart. looks_wider (omega arith) (e.step.reads apart);
        memory = λ is. absurd cc;
        cause = record { later = e.step.cause.later; device = tt };
      };
      found = λ es stands. none_at_all c.args.self.now.width es c.args.string.now stands.strings.entries
          (subst (λ o. AnswersBlock (Ok o) c.args.string.now es) c.in-Ok-None.field-0-is (e.found es stands));
      stood = λ told. absent_first _ _ _ (subst (λ o. BlockStands c.args.self.now (g.S.Store.files c.args.store.now) c.args.string.now o) c.in-Ok-None.field-0-is (e.stood told));
      bad = tt;
    }

pub returns : goal.returns
returns g c =
    let e = c.in-Ok-Some.ensures.look in
    let i = c.find_in.ensures in
    record {
      step = record {
        fits = i.step.fits;
        same = same_again e.step.same i.step.same;
        looked = looked_again e.step.looked i.step.looked e.step.same.strings_part e.step.same.places_part;
        reads = λ apart. looks_more (e.step.reads apart)
            (look_as e.step.same.strings_part e.step.same.places_part apart i.step.reads);
        memory = i.step.memory;
        cause = cause_then _ e.step.looked.faults i.step.cause;
      };
      found = λ es stands.
          let block = subst (λ o. AnswersBlock (Ok o) c.args.string.now es) c.in-Ok-Some.field-0-is (e.found es stands) in
          let here = stands_same c.args.self.now c.block_of.new.self (g.S.Store.files c.args.store.now) (g.S.Store.files c.block_of.new.store) es
          e.step.same e.step.looked.files stands in
          found_in c.args.self.now.width es c.args.string.now c.in-Ok-Some.block c.find_in.result c.find_in.new.out stands.strings.entries block.1 block.0
          (rw e.step.same.width at (i.found es here));
      stood = λ told. found_stands _ _ _ _ _ c.in-Ok-Some.block _ c.find_in.result e.step.same e.step.looked.files (rw c.in-Ok-Some.field-0-is at c.in-Ok-Some.ensures.below)
          (subst (λ o. BlockStands c.args.self.now (g.S.Store.files c.args.store.now) c.args.string.now o) c.in-Ok-Some.field-0-is (e.stood told))
          (i.stood (subst IsSome (sym e.step.looked.files) told));
      bad = lost_among _ _ _ _ _ c.in-Ok-Some.block (rw c.in-Ok-Some.field-0-is at c.in-Ok-Some.ensures.below) e.step.same e.step.looked.files i.bad;
    }
