use Rattle.mg_dev.specs.Causes.{Rose}
use Rattle.mg_check.proofs.FoundLaws.{completes, refused-unbuilt, tells-outside, set_read}
use Rattle.mg_check.proofs.found.check.Goals as goal

pub returns-clause-outside : goal.returns-clause-outside
returns-clause-outside g c = tells-outside c.check_files.result

pub returns-clause-not_built : goal.returns-clause-not_built
returns-clause-not_built g c = λ told none.
    refused-unbuilt (Rose (g.S.Store.faults c.args.store.now) (g.S.Store.faults c.check_files.new.store)) (g.S.Store.files c.args.store.now) c.args.base.now
    c.check_files.result c.check_files.ensures.found.stands c.check_files.ensures.found.cause told none

pub returns-clause-complete : goal.returns-clause-complete
returns-clause-complete g c = λ collection stands fine.
    completes (Rose (g.S.Store.faults c.args.store.now) (g.S.Store.faults c.check_files.new.store)) (g.S.Store.files c.args.store.now) c.args.base.now
    collection c.check_files.result c.check_files.ensures.found.cause stands fine

pub returns-clause-unread : goal.returns-clause-unread
returns-clause-unread g c = set_read _ _ c.check_files.ensures.found.unread

pub returns-clause-stands : goal.returns-clause-stands
returns-clause-stands g c = c.check_files.ensures.found.stands

pub returns-clause-cause : goal.returns-clause-cause
returns-clause-cause g c = c.check_files.ensures.found.cause

pub returns-clause-early : goal.returns-clause-early
returns-clause-early g c = c.check_files.ensures.found.early

pub returns-clause-files : goal.returns-clause-files
returns-clause-files g c = c.check_files.ensures.found.same

pub returns-clause-later : goal.returns-clause-later
returns-clause-later g c = c.check_files.ensures.found.later
