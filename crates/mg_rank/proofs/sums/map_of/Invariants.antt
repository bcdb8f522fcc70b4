use Rattle.std.proofs.Common.{◌≡◌, take}
use Rattle.mg_rank.proofs.sums.map_of.Given as goal

-- the sums of the first places are in the map
abbrev pub invariant-loop-place : goal.invariant-loop-place
invariant-loop-place l = l.map.entries ≡ take l.place l.row
