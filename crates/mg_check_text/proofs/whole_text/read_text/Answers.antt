use Rattle.mg_dev.specs.declared.part_err.PartErr.TheVariants.{Memory}
use Rattle.mg_check_text.proofs.ReadLaws.{text_own}
use Rattle.mg_check_text.proofs.whole_text.read_text.Goals as goal

pub read_held-requires : goal.read_held-requires
read_held-requires g c = record { reads = c.requires.reads; pages = c.in-Ok.ensures (g.S.Store.files c.args.store.now) }

pub returns-in-Err : goal.returns-in-Err
returns-in-Err g c = record { found = λ loaded. tt; none = λ loaded. tt; text = text_own Memory _ _ _ c.requires.reads.fits tt }
