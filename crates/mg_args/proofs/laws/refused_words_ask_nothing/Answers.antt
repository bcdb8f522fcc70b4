use Rattle.mg_args.proofs.RefusedLaws.{refused_none}
use Rattle.mg_args.proofs.laws.refused_words_ask_nothing.Goals as goal

pub returns : goal.returns
returns c = refused_none
