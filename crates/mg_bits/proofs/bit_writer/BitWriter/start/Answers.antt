use Rattle.std.proofs.Common.{arith, ◌≡◌, ◌<◌, ◌^◌, ℕ, List, [], ◌∷◌, ◌++◌, ap, ◌∙◌, length, refl, subst, sym}
use Rattle.std.proofs.lemmas.List.Elements.{All-nil}
use Rattle.std.specs.declared.option.Option.{Option}
use Rattle.mg_dev.specs.Files.{Files, bytes_at}
use Rattle.mg_defs.specs.Bits.{digits, bits_of}
use Rattle.mg_bits.specs.Writer.{Writing, AreBytes, put_to}
use Rattle.mg_bits.specs.BitWriting.{bits_put}
use Rattle.mg_bits.proofs.BitsWritten.{as_bits}
use Rattle.mg_bits.proofs.Growing.{held_few}
use Rattle.mg_bits.proofs.bit_writer.BitWriter.start.Goals as goal

none_put : (w : Writing) (files : Option Files) → put_to w files ≡ [] → bits_put (record { name = w.name; buffered = bits_of w.buffered ++ digits 0 0; place = 0 }) files ≡ []
unfolding bits_of digits
none_put w files none = as_bits w files (digits 0 0) ∙ ap (λ l. bits_of l ++ digits 0 0) none

no_front : (a b : List ℕ) → a ++ b ≡ [] → a ≡ []
no_front [] b none = refl
no_front (x ∷ a) b none = absurd cc

empty_bytes : (w : Writing) (files : Option Files) → put_to w files ≡ [] → AreBytes (bytes_at files w.name)
empty_bytes w files none = subst AreBytes (sym (no_front (bytes_at files w.name) w.buffered none)) (All-nil (λ byte. byte < 2 ^ 8))

pub returns-in-Ok-clause-empty : goal.returns-in-Ok-clause-empty
returns-in-Ok-clause-empty g c = λ told. none_put _ _ (c.in-Ok.ensures.empty told)

pub returns-in-Ok-clause-holds : goal.returns-in-Ok-clause-holds
returns-in-Ok-clause-holds g c = record {
  count = λ told. ap length (none_put _ _ (c.in-Ok.ensures.empty (sym c.in-Ok.ensures.wrote.told ∙ told)));
  bytes = λ told. empty_bytes _ _ (c.in-Ok.ensures.empty (sym c.in-Ok.ensures.wrote.told ∙ told));
}

pub returns-in-Ok-clause-held : goal.returns-in-Ok-clause-held
returns-in-Ok-clause-held g c = held_few _ 0 0 c.in-Ok.ensures.page (omega arith)
