use Rattle.mg_check_parts.proofs.CallerLemmas.{looks_err, looks_then}
use Rattle.mg_check.proofs.RestLaws.{none-here, stands-here}
use Rattle.mg_check.proofs.checking.check_set.Goals as goal

pub check_by-requires : goal.check_by-requires
check_by-requires g c = record {
  reads = record { within = c.requires.within; fits = c.in-Ok.ensures.fits; documents = c.in-Ok.ensures.reader.documents_are; model = c.in-Ok.ensures.model };
}

pub returns-in-Ok : goal.returns-in-Ok
returns-in-Ok g c =
    let old = g.S.Store.files c.args.store.now in
    let now = g.S.Store.files c.load_text.new.store in
    let files = c.in-Ok.ensures.looks.files in
    record {
      set = record {
        stands = λ has. stands-here old now c.args.base.now c.args.head.now c.in-Ok.reader c.check_by.result files c.check_by.ensures.set.stands (c.in-Ok.ensures.told has);
        none = λ has. none-here old now c.args.base.now c.args.head.now c.in-Ok.reader c.check_by.result files c.check_by.ensures.set.none (c.in-Ok.ensures.told has);
        looks = looks_then c.in-Ok.ensures.looks c.check_by.ensures.set.looks;
      };
    }

pub returns-in-Err : goal.returns-in-Err
returns-in-Err g c = record { set = record { stands = λ has. tt; none = c.in-Err.ensures.none; looks = looks_err c.in-Err.ensures.looks } }
