use Rattle.std.proofs.Common.{refl}
use Rattle.mg_dev.specs.declared.part_err.PartErr.TheVariants.{Memory}
use Rattle.mg_check_text.proofs.CallerLemmas.{text_own}
use Rattle.mg_check.proofs.postings.read_postings.Goals as goal

pub returns-in-Err-clause-filled : goal.returns-in-Err-clause-filled
returns-in-Err-clause-filled g c = record {
  laid = c.requires.fill.laid;
  rooms = record { first = refl; starts = refl; count = refl };
  text = text_own Memory _ _ _ c.requires.text.fits tt;
}
