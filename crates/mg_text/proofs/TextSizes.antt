-- The size of the text of a collection that is within the limits.
use Rattle.std.proofs.Common.{arith, ◌-◌, ◌^◌, ◌≤◌, ◌<◌, ◌==◌, if◌then◌else◌, ℕ, Bool, true, false, List, length}
use Rattle.mg_defs.specs.CodedText.{IsTextCode, TextCode, text_part}
use Rattle.mg_defs.specs.WithinLimits.{IsWithinLimits}
use Rattle.mg_defs.proofs.StandSizes.{text-room}
use Rattle.mg_text.specs.Places.{most_text}

room : (narrow : Bool) (n : ℕ) → n < (if narrow then 2 ^ 32 else 2 ^ 60) → n ≤ (if narrow then 2 ^ 32 - 1 else 2 ^ 60)
room true n h = omega (arith, h)
room false n h = omega (arith, h)

-- the places of a collection within the limits fit
pub text_small : (version : ℕ) (code : TextCode) (collection : List ℕ) → IsTextCode collection code → IsWithinLimits version collection → length (text_part code collection) ≤ most_text version
text_small version code collection is within = room (version == 1) (length (text_part code collection)) (text-room version collection code within is)
