-- Parts that are none of a set are not read: calls that read a part of it, or two.
use Rattle.std.proofs.Common.{◌≡◌, ◌⊎◌, ℕ, Option, Result, true, false, refl, inl, inr, ◌∙◌}
use Rattle.mg_dev.specs.Files.{Files, OneRead, Reads, SameReads}
use Rattle.mg_dev.specs.Laws.{with_read-other}
use Rattle.mg_dev.specs.Names.{same_part}
use Rattle.mg_dev.specs.PartCauses.{HasPartCause}
use Rattle.mg_dev.specs.declared.part.Part.{Part}
use Rattle.mg_dev.specs.declared.part.Part.TheVariants as part
use Rattle.mg_dev.specs.declared.part_err.PartErr.{PartErr}
use Rattle.mg_bits.specs.Pages.{LookedAt}
use Rattle.mg_layout.specs.Contents.{ReadsOnly}
use Rattle.mg_check_parts.specs.Looks.{LooksAtSet, is_of_set, reads_outside}

three : (r s : Reads) → s part.MergeA ≡ r part.MergeA → s part.MergeB ≡ r part.MergeB → s part.Plain ≡ r part.Plain → reads_outside s ≡ reads_outside r
unfolding reads_outside
three r s a b p = cc

none_read : (r s : Reads) → SameReads r s → reads_outside s ≡ reads_outside r
none_read r s same = three r s (same part.MergeA) (same part.MergeB) (same part.Plain)

-- a part of a set is another one than these
apart_a : (p : Part) → is_of_set p ≡ true → same_part part.MergeA p ≡ false
apart_a part.Head of_set = refl
apart_a part.Words of_set = refl
apart_a part.Nonwords of_set = refl
apart_a part.Text of_set = refl
apart_a part.Places of_set = refl
apart_a part.Lex of_set = refl
apart_a part.LexAt of_set = refl
apart_a part.Post of_set = refl
apart_a part.Skip of_set = refl
apart_a part.Weights of_set = refl
apart_a part.Run of_set = refl
apart_a part.MergeA of_set = absurd cc
apart_a part.MergeB of_set = absurd cc
apart_a part.Plain of_set = absurd cc

apart_b : (p : Part) → is_of_set p ≡ true → same_part part.MergeB p ≡ false
apart_b part.Head of_set = refl
apart_b part.Words of_set = refl
apart_b part.Nonwords of_set = refl
apart_b part.Text of_set = refl
apart_b part.Places of_set = refl
apart_b part.Lex of_set = refl
apart_b part.LexAt of_set = refl
apart_b part.Post of_set = refl
apart_b part.Skip of_set = refl
apart_b part.Weights of_set = refl
apart_b part.Run of_set = refl
apart_b part.MergeA of_set = absurd cc
apart_b part.MergeB of_set = absurd cc
apart_b part.Plain of_set = absurd cc

apart_plain : (p : Part) → is_of_set p ≡ true → same_part part.Plain p ≡ false
apart_plain part.Head of_set = refl
apart_plain part.Words of_set = refl
apart_plain part.Nonwords of_set = refl
apart_plain part.Text of_set = refl
apart_plain part.Places of_set = refl
apart_plain part.Lex of_set = refl
apart_plain part.LexAt of_set = refl
apart_plain part.Post of_set = refl
apart_plain part.Skip of_set = refl
apart_plain part.Weights of_set = refl
apart_plain part.Run of_set = refl
apart_plain part.MergeA of_set = absurd cc
apart_plain part.MergeB of_set = absurd cc
apart_plain part.Plain of_set = absurd cc

one_of_set : (r s : Reads) (p : Part) → is_of_set p ≡ true → ReadsOnly p r s → reads_outside s ≡ reads_outside r
one_of_set r s p of_set only = three r s (only part.MergeA (apart_a p of_set)) (only part.MergeB (apart_b p of_set)) (only part.Plain (apart_plain p of_set))

two_of_set : (one other : Part) (f g : Option Files) (r s : Reads) (m n : ℕ) → is_of_set one ≡ true → is_of_set other ≡ true → LookedAt one other f g r s m n → reads_outside s ≡ reads_outside r
two_of_set one other f g r s m n a b looked = three r s
    (looked.others part.MergeA (apart_a one a) (apart_a other b))
    (looked.others part.MergeB (apart_b one a) (apart_b other b))
    (looked.others part.Plain (apart_plain one a) (apart_plain other b))

pub head_read : (r s : Reads) → SameReads r s ⊎ OneRead r s part.Head → reads_outside s ≡ reads_outside r
head_read r s (inl same) = none_read r s same
head_read r s (inr one) = one_of_set r s part.Head refl (λ p apart. one p ∙ with_read-other r part.Head p apart)

-- ---- calls

pub looks_size : {T : Type 0} {result : Result T PartErr} {f g : Option Files} {r s : Reads} {m n : ℕ} → g ≡ f → SameReads r s → HasPartCause m n result → LooksAtSet result f g r s m n
looks_size {r = r} {s = s} files reads cause = record { files = files; unread = none_read r s reads; cause = cause }

pub looks_bytes : {T : Type 0} {result : Result T PartErr} {f g : Option Files} {r s : Reads} {m n : ℕ} (p : Part) → is_of_set p ≡ true → g ≡ f →
    ReadsOnly p r s → HasPartCause m n result → LooksAtSet result f g r s m n
looks_bytes {r = r} {s = s} p of_set files reads cause = record { files = files; unread = one_of_set r s p of_set reads; cause = cause }

pub looks_two : {T : Type 0} {result : Result T PartErr} {f g : Option Files} {r s : Reads} {m n : ℕ} (one other : Part) → is_of_set one ≡ true →
    is_of_set other ≡ true → LookedAt one other f g r s m n → HasPartCause m n result → LooksAtSet result f g r s m n
looks_two {f = f} {g = g} {r = r} {s = s} {m = m} {n = n} one other a b looked cause = record { files = looked.files; unread = two_of_set one other f g r s m n a b looked; cause = cause }
