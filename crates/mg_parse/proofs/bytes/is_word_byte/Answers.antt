-- The table has a full stop at the bytes that are no word bytes.
use Rattle.std.proofs.Common.{◌≡◌, ℕ, ◌<◌, true, not, ◌==◌, List, get_or, refl, arith}
use Rattle.std.proofs.lemmas.Bool.{agree_below, agree_below_at}
use Rattle.mg_defs.specs.Parse.{is_word_byte as is_word}
use Rattle.mg_parse.specs.declared.bytes.TheConstants.{WORD_BYTES}
use Rattle.mg_parse.proofs.bytes.is_word_byte.Goals as goal

from_table : (table : List ℕ) (b : ℕ) → b < 256 → agree_below (λ x. not (get_or table x 0 == 46)) is_word 256 ≡ true → not (get_or table b 0 == 46) ≡ is_word b
from_table table b h agree = agree_below_at (λ x. not (get_or table x 0 == 46)) is_word 256 b agree h

pub returns : goal.returns
returns c = from_table WORD_BYTES c.args.byte (omega arith) refl
