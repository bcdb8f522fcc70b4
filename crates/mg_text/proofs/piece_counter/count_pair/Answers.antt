use Rattle.mg_text.proofs.CountLaws.{pair_counted}
use Rattle.mg_text.proofs.piece_counter.count_pair.Goals as goal

pub returns-in-Err : goal.returns-in-Err
returns-in-Err g c = record { fits = c.in-Err.ensures.fits; calm = c.in-Err.ensures.calm; told = tt; cause = c.in-Err.ensures.cause }

pub returns-then-not-is_word : goal.returns-then-not-is_word
returns-then-not-is_word g c = record { fits = c.in-Ok.ensures.fits; calm = c.in-Ok.ensures.calm; told = tt; cause = tt }

pub returns : goal.returns
returns g c = pair_counted c.args.model.now c.in-Ok.done c.count_piece-2.result c.if-not-is_word.false c.in-Ok.ensures c.count_piece-2.ensures
