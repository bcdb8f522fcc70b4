-- What a run of `wild NAME` does.
use Rattle.std.specs.Prelude.{◌≡◌, ◌⊎◌, ◌<◌, ◌≤◌, ℕ, false, List, Some, IsSome}
use Rattle.mg_dev.specs.declared.fault.Fault.TheVariants.{Memory, TooManyRotations}
use Rattle.mg_dev.specs.declared.status.Status.TheVariants.{Done}
use Rattle.mg_defs.specs.InputLimit.{is_too_much}
use Rattle.mg_defs.specs.Limits.{input_limit}
use Rattle.mg_defs.specs.Rotations.{most_rotations, rotation_count}
use Rattle.mg_defs.specs.Terms.{dictionary}
use Rattle.mg_defs.specs.WildSession.{wild_reply, wild_session}
use Rattle.mg_defs.specs.declared.session.Hearing.TheVariants.{Questions}
use Rattle.mg_layout.specs.Stands.{Stands}
use Rattle.mg_session.specs.Served.{Served}
use Rattle.mg_session.specs.WildAnswers.{NeverReadByPatterns, ReadsPatterns}
use Rattle.mg_session.specs.WildServes.{CountsTooMany, HasTooManyTerms}
use Rattle.mg_dev.specs.Runs.{Run, StoreFailed, InputFailed, OutputFailed, Stops, StopsUnless}

-- of each collection that the files of this name stand for, and for each input that the source tells
pub record Matched (base : List ℕ) (run : Run) : Type 0 where
  -- it prints the session of patterns; of the lists it reads no more pages than the patterns allow, and no other part but the head and the lexicon
  pub served : Served wild_session Questions (λ collection now. wild_reply collection) ReadsPatterns NeverReadByPatterns CountsTooMany
      base run
  -- 17 comes exactly where the lexicon has too many rotations, whatever the other parts are, unless the store fails or memory is wanting
  pub too_many : (count : ℕ) → IsSome run.store.files → HasTooManyTerms run.store.files base count →
      StopsUnless run (TooManyRotations count)
  -- and so for a collection whose terms have too many
  pub many : (collection : List ℕ) → Stands run.store.files base collection →
      most_rotations < rotation_count (dictionary collection)
      → StopsUnless run (TooManyRotations (rotation_count (dictionary collection)))
  -- where the files stand, the rotations are not too many, the input is not too long and no device fails, it is done, or memory is wanting
  pub complete : (collection given : List ℕ) → Stands run.store.files base collection →
      rotation_count (dictionary collection) ≤ most_rotations
      → run.input.left ≡ Some given → is_too_much input_limit given ≡ false → ¬ StoreFailed run → ¬ InputFailed run →
      ¬ OutputFailed run
      → (run.status ≡ Done) ⊎ Stops run Memory
