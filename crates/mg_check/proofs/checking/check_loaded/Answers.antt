use Rattle.mg_check_parts.proofs.CallerLemmas.{looks_then}
use Rattle.mg_check_text.proofs.CallerLemmas.{reads_on}
use Rattle.mg_check.proofs.RestLaws.{set-none, set-stands}
use Rattle.mg_check.proofs.checking.check_loaded.Goals as goal

pub check_rest-requires : goal.check_rest-requires
check_rest-requires g c = record { reads = reads_on c.requires.reads c.in-Ok.ensures.text.fits c.in-Ok.ensures.text.same }

pub returns-in-Err : goal.returns-in-Err
returns-in-Err g c = record { set = record { stands = λ loaded. tt; none = c.in-Err.ensures.none; looks = c.in-Err.ensures.text.looks } }

pub returns : goal.returns
returns g c = record {
  set = record {
    stands = λ loaded.
        set-stands (g.S.Store.files c.args.store.now) (g.S.Store.files c.read_text.new.store) c.args.base.now c.args.head.now c.args.reader.now
        c.read_text.new.reader c.check_rest.result c.read_text.ensures.text.looks.files c.read_text.ensures.text.same loaded (c.in-Ok.ensures.found loaded)
        (λ collection stand. (c.check_rest.ensures.rest.compares collection stand).stand);
    none = λ loaded.
        set-none (g.S.Store.files c.args.store.now) (g.S.Store.files c.read_text.new.store) c.args.base.now c.args.head.now c.args.reader.now
        c.read_text.new.reader c.check_rest.result c.read_text.ensures.text.looks.files c.read_text.ensures.text.same loaded (c.in-Ok.ensures.found loaded)
        (λ collection stand. (c.check_rest.ensures.rest.compares collection stand).other);
    looks = looks_then c.in-Ok.ensures.text.looks c.check_rest.ensures.rest.looks;
  };
}
