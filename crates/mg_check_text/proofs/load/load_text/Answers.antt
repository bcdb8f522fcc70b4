use Rattle.std.proofs.Common.{refl}
use Rattle.mg_dev.specs.declared.part.Part.TheVariants as part
use Rattle.mg_check_text.proofs.LoadLaws.{refused-none}
use Rattle.mg_check_parts.proofs.CallerLemmas.{looks_two}
use Rattle.mg_check_text.proofs.load.load_text.Goals as goal

pub returns-in-Err-clause-none : goal.returns-in-Err-clause-none
returns-in-Err-clause-none g c = λ has. refused-none (g.S.Store.files c.args.store.now) c.args.base.now c.args.head.now c.in-Err.refusal has.told has.is
    (λ code collection text. c.in-Err.ensures.never_bad code collection text)

pub returns-in-Err-clause-looks : goal.returns-in-Err-clause-looks
returns-in-Err-clause-looks g c = looks_two part.Words part.Nonwords refl refl c.load.ensures.looked c.in-Err.ensures.cause

pub returns-clause-looks : goal.returns-clause-looks
returns-clause-looks g c = looks_two part.Words part.Nonwords refl refl c.load.ensures.looked c.in-Ok.ensures.cause
