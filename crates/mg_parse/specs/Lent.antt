-- A pair that is borrowed from a document.
use Rattle.mg_defs.specs.Parse.{Pair}
use Rattle.mg_parse.specs.declared.pairs.Pair.{Pair as Lent}

-- its bytes
abbrev pub pair_of : Lent → Pair
pair_of p = record { word = p.word.now; other = p.other.now }
