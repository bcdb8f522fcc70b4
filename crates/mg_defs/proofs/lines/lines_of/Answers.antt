use Rattle.std.proofs.Common.{◌≡◌, ℕ, ◌<◌, List, [], ◌∷◌, length, arith}
use Rattle.mg_defs.specs.Lines.{lines, HasNoEnd}
use Rattle.mg_defs.proofs.LinesLaws.{lines-closed, lines-open}
use Rattle.mg_defs.proofs.lines.lines_of.Goals as goal

last : (line : List ℕ) → HasNoEnd line → 0 < length line → lines line ≡ line ∷ []
last [] plain some = absurd (omega arith)
last (b ∷ line) plain some = lines-open b line plain

pub returns-clause-ended : goal.returns-clause-ended
returns-clause-ended c = lines-closed

pub returns-clause-last : goal.returns-clause-last
returns-clause-last c = last
