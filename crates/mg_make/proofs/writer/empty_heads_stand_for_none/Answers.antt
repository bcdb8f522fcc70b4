use Rattle.mg_make.proofs.HeadLaws.{empty_stands_for_none}
use Rattle.mg_make.proofs.writer.empty_heads_stand_for_none.Goals as goal

pub returns : goal.returns
returns c = λ base now is. empty_stands_for_none base now is
