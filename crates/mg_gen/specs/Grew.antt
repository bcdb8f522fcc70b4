-- What a writer has made so far, and handed on.
use Rattle.std.specs.Prelude.{◌≡◌, ℕ, List, ◌++◌, Option, Result, MatchResult}
use Rattle.mg_dev.specs.Streams.{appended, GrewByPrefix}
use Rattle.mg_defs.specs.Generator.{Made}
use Rattle.mg_gen.specs.declared.writer.Writer.{Writer}

-- the text grew by what is made from the generator's state
pub record Grew (old new : Writer) (each : ℕ → Made) : Type 0 where
  pub bytes : new.text.items ≡ old.text.items ++ (each old.generator.state).bytes
  pub state : new.generator.state ≡ (each old.generator.state).state

-- of all that was made, a part was handed on, and the writer has the rest
pub record Handed (old new : Option (List ℕ)) (writer : Writer) (made : Made) : Type 0 where
  pub done : List ℕ
  pub out : new ≡ appended old done
  pub bytes : made.bytes ≡ done ++ writer.text.items
  pub state : writer.generator.state ≡ made.state

-- where this much was made, after `Ok` it still is what was handed on and what the writer has; after a refusal a prefix of the writer's text was handed on
abbrev pub StaysHanded : {Y T E : Type 0} → (Y → Option (List ℕ)) → Y → Y → Writer → Writer → Result T E →
    Option (List ℕ) → Made → Type 0
StaysHanded written before now writer writer_now result old made = Handed old (written before) writer made →
    MatchResult result (λ _. Handed old (written now) writer_now made)
    (λ _. GrewByPrefix (written before) (written now) writer.text.items)
