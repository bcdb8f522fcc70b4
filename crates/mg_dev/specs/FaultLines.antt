-- The lines of faults.
use Rattle.std.specs.Prelude.{⊤, ℕ, List, [], ◌∷◌, codes, decimal}
use Rattle.std.specs.List.{concat}
use Rattle.mg_defs.specs.Limits.{input_limit, most_rotations, version_2}
use Rattle.mg_defs.specs.declared.Stream.{Stream}
use Rattle.mg_defs.specs.declared.Stream.TheVariants.{Words, Others}
use Rattle.mg_dev.specs.declared.fault.Fault.{Fault}
use Rattle.mg_dev.specs.declared.fault.Fault.TheVariants.{Usage, StoreFault, ReadFault, WriteFault, NotBuilt, Damaged, NoCollection, TooLarge, TooManyDocuments, TooManyPieces, Changed, Memory, NameClash, InputTooLong, SameName, TooManyRotations}
use Rattle.mg_dev.specs.declared.fault_line.Piece.{Piece}
use Rattle.mg_dev.specs.declared.fault_line.Piece.TheVariants.{Text, Number}
use Rattle.mg_dev.specs.Names.{printed_name, counted_name}

-- the bytes of a piece of a line
abbrev pub piece_text : Piece → List ℕ
piece_text (Text text) = text.now
piece_text (Number number) = decimal number

-- what a stream's pieces are called
abbrev pub stream_name : Stream → List ℕ
stream_name Words = codes "words"
stream_name Others = codes "non-words"

-- the line of a fault, with its line feed
unfoldable pub fault_line : Fault → List ℕ
fault_line Usage = codes "mg: the words are not understood\n"
fault_line StoreFault = codes "mg: the store failed\n"
fault_line ReadFault = codes "mg: the input could not be read\n"
fault_line WriteFault = codes "mg: the output could not be written\n"
fault_line NotBuilt = codes "mg: nothing is built under this name\n"
fault_line (Damaged bad) = concat (codes "mg: damaged: part " ∷ printed_name bad.part ∷ codes " at " ∷ decimal bad.at ∷
    codes ": found " ∷ decimal bad.found ∷ codes ", wanted " ∷ decimal bad.low ∷ codes " to " ∷ decimal bad.high ∷
    codes "\n" ∷ [])
fault_line NoCollection = codes "mg: there is no such collection\n"
fault_line (TooLarge size most) = concat (codes "mg: the collection has " ∷ decimal size ∷ codes " bytes, more than " ∷
    decimal most ∷ codes "\n" ∷ [])
fault_line TooManyDocuments = concat (codes "mg: more than " ∷ decimal version_2.documents ∷ codes " documents\n" ∷ [])
fault_line (TooManyPieces stream) = concat (codes "mg: more than " ∷ decimal version_2.pieces ∷ codes " distinct " ∷
    stream_name stream ∷ codes "\n" ∷ [])
fault_line (Changed what first second) = concat (codes "mg: the collection changed while it was read: " ∷
    counted_name what ∷ codes " was " ∷ decimal first ∷ codes ", then " ∷ decimal second ∷ codes "\n" ∷ [])
fault_line Memory = codes "mg: out of memory\n"
fault_line (NameClash part) = concat (codes "mg: the collection has the name of part " ∷ printed_name part ∷
    codes "\n" ∷ [])
fault_line InputTooLong = concat (codes "mg: the input is longer than " ∷ decimal input_limit ∷ codes " bytes\n" ∷ [])
fault_line SameName = codes "mg: both names are the same\n"
fault_line (TooManyRotations count) = concat (codes "mg: the terms have " ∷ decimal count ∷
    codes " rotations, more than " ∷ decimal most_rotations ∷ codes "\n" ∷ [])

-- its line has a limit, a number or a name in it
abbrev pub HasPieces : Fault → Type 0
HasPieces (Damaged bad) = ⊤
HasPieces (TooLarge size most) = ⊤
HasPieces TooManyDocuments = ⊤
HasPieces (TooManyPieces stream) = ⊤
HasPieces (Changed what first second) = ⊤
HasPieces (NameClash part) = ⊤
HasPieces InputTooLong = ⊤
HasPieces (TooManyRotations count) = ⊤
HasPieces fixed = ⊥
