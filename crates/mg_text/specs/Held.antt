-- A document that is held in memory: no longer than its bound.
use Rattle.std.specs.Prelude.{◌≡◌, ℕ, ◌≤◌, ◌⊎◌, List, length, Ok, Err, IfErr, OnOk}
use Rattle.std.specs.declared.option.Option.{Option}
use Rattle.std.specs.declared.result.Result.{Result}
use Rattle.mg_dev.specs.Bads.{IsNotBad}
use Rattle.mg_dev.specs.Files.{Files}
use Rattle.mg_dev.specs.declared.part_err.PartErr.{PartErr}
use Rattle.mg_dev.specs.declared.part_err.PartErr.TheVariants.{Device, Memory}
use Rattle.mg_dev.specs.declared.show_err.ShowErr.{ShowErr}
use Rattle.mg_dev.specs.declared.show_err.ShowErr.TheVariants as show
use Rattle.mg_defs.specs.Terms.{document}
use Rattle.mg_text.specs.Reading.{ShowIsNotBad, TextReading, TextStands}

-- the reader's text is that of the collection, whose document of this number, from 1, has at most so many bytes
pub record HasShortDocument (r : TextReading) (files : Option Files) (number most : ℕ) (collection : List ℕ) : Type 0
  where
    pub stands : TextStands r files collection
    pub short : length (document collection number) ≤ most

-- a fact on each such collection
abbrev pub WhereShort : TextReading → Option Files → ℕ → ℕ → (List ℕ → Type 0) → Type 0
WhereShort r files number most fact = (collection : List ℕ) → HasShortDocument r files number most collection →
    fact collection

-- a fact on that document, for each such collection
abbrev pub ForShortDocument : TextReading → Option Files → ℕ → ℕ → (List ℕ → Type 0) → Type 0
ForShortDocument r files number most fact = (collection : List ℕ) → HasShortDocument r files number most collection →
    fact (document collection number)

-- the answer for what was shown to a sink in memory
abbrev pub held_answer : Result (Unit {0}) ShowErr → Result (Unit {0}) PartErr
held_answer (Ok done) = Ok done
held_answer (Err (show.Part refusal)) = Err refusal
held_answer (Err show.Write) = Err Device
held_answer (Err show.Memory) = Err Memory

-- what is answered of a document that was shown to a sink in memory, which holds so many bytes of at most so many
pub record AnswersHeld (most size : ℕ) (shown : Result (Unit {0}) ShowErr) (result : Result (Unit {0}) PartErr) : Type 0
  where
    -- `Ok` comes only where the whole document was shown, and is no longer than the bound
    pub whole : OnOk result ((shown ≡ Ok tt) × (size ≤ most))
    -- a part is bad only where the document is longer, or where the reader found it so
    pub bad : size ≤ most → ShowIsNotBad shown → IfErr result IsNotBad
    -- a device failed only where the reader's store did, or the sink
    pub device : result ≡ Err Device → (shown ≡ Err (show.Part Device)) ⊎ (shown ≡ Err show.Write)
