-- Calls that only read heads, models and texts.
use Rattle.std.proofs.Common.{arith, ◌≡◌, ◌≤◌, ◌⊎◌, ◌∙◌, ◌∷◌, ℕ, [], Option, ap, false, get_or, refl, inl, inr}
use Rattle.mg_bits.specs.Pages.{LookedAt}
use Rattle.mg_dev.specs.Files.{Files, OneRead, Reads, SameReads}
use Rattle.mg_dev.specs.Laws.{with_read-other}
use Rattle.mg_dev.specs.Names.{same_part}
use Rattle.mg_dev.specs.declared.part.Part.{Part}
use Rattle.mg_dev.specs.declared.part.Part.TheVariants as part
use Rattle.mg_merge.specs.Looks.{LooksAtTexts, reads_index, reads_outside}

none_outside : (r s : Reads) → SameReads r s → reads_outside s ≡ reads_outside r
unfolding reads_outside
none_outside r s same = λ i. same part.Lex i ∷ same part.LexAt i ∷ same part.Post i ∷ same part.Skip i ∷ same part.Weights i ∷ same part.Run i
    ∷ same part.MergeA i ∷ same part.MergeB i ∷ same part.Plain i ∷ []

head_outside : (r s : Reads) → OneRead r s part.Head → reads_outside s ≡ reads_outside r
unfolding reads_outside
head_outside r s one = λ i. (one part.Lex ∙ with_read-other r part.Head part.Lex refl) i ∷ (one part.LexAt ∙ with_read-other r part.Head part.LexAt refl) i
    ∷ (one part.Post ∙ with_read-other r part.Head part.Post refl) i ∷ (one part.Skip ∙ with_read-other r part.Head part.Skip refl) i
    ∷ (one part.Weights ∙ with_read-other r part.Head part.Weights refl) i ∷ (one part.Run ∙ with_read-other r part.Head part.Run refl) i
    ∷ (one part.MergeA ∙ with_read-other r part.Head part.MergeA refl) i ∷ (one part.MergeB ∙ with_read-other r part.Head part.MergeB refl) i
    ∷ (one part.Plain ∙ with_read-other r part.Head part.Plain refl) i ∷ []

models_outside : (f g : Option Files) (r s : Reads) (m n : ℕ) → LookedAt part.Words part.Nonwords f g r s m n → reads_outside s ≡ reads_outside r
unfolding reads_outside
models_outside f g r s m n looked = λ i. looked.others part.Lex refl refl i ∷ looked.others part.LexAt refl refl i ∷ looked.others part.Post refl refl i
    ∷ looked.others part.Skip refl refl i ∷ looked.others part.Weights refl refl i ∷ looked.others part.Run refl refl i
    ∷ looked.others part.MergeA refl refl i ∷ looked.others part.MergeB refl refl i ∷ looked.others part.Plain refl refl i ∷ []

text_outside : (f g : Option Files) (r s : Reads) (m n : ℕ) → LookedAt part.Text part.Places f g r s m n → reads_outside s ≡ reads_outside r
unfolding reads_outside
text_outside f g r s m n looked = λ i. looked.others part.Lex refl refl i ∷ looked.others part.LexAt refl refl i ∷ looked.others part.Post refl refl i
    ∷ looked.others part.Skip refl refl i ∷ looked.others part.Weights refl refl i ∷ looked.others part.Run refl refl i
    ∷ looked.others part.MergeA refl refl i ∷ looked.others part.MergeB refl refl i ∷ looked.others part.Plain refl refl i ∷ []

-- ---- the index

-- what read no other part than heads, models and texts did not read the index
pub outside_index : (r s : Reads) → reads_outside s ≡ reads_outside r → reads_index s ≡ reads_index r
unfolding reads_outside reads_index
outside_index r s same = ap (λ l. get_or l 0 0 ∷ get_or l 1 0 ∷ get_or l 2 0 ∷ get_or l 3 0 ∷ get_or l 4 0 ∷ get_or l 8 0 ∷ []) same

-- nor did what read the working files alone
pub runs_index : (r s : Reads) → ((p : Part) → same_part p part.Run ≡ false → same_part p part.MergeA ≡ false → same_part p part.MergeB ≡ false → s p ≡ r p) →
    reads_index s ≡ reads_index r
unfolding reads_index
runs_index r s same = λ i. same part.Lex refl refl refl i ∷ same part.LexAt refl refl refl i ∷ same part.Post refl refl refl i
    ∷ same part.Skip refl refl refl i ∷ same part.Weights refl refl refl i ∷ same part.Plain refl refl refl i ∷ []

-- nor what read nothing
pub none_index : (r s : Reads) → SameReads r s → reads_index s ≡ reads_index r
none_index r s same = runs_index r s (λ p run merge_a merge_b. same p)

-- ---- calls

pub looks_nothing : {f : Option Files} {r : Reads} {n : ℕ} → LooksAtTexts f f r r n n
looks_nothing = record { files = refl; unread = refl; later = omega arith }

pub looks_head : {f g : Option Files} {r s : Reads} {m n : ℕ} → g ≡ f → SameReads r s ⊎ OneRead r s part.Head → m ≤ n → LooksAtTexts f g r s m n
looks_head {r = r} {s = s} files (inl same) later = record { files = files; unread = none_outside r s same; later = later }
looks_head {r = r} {s = s} files (inr one) later = record { files = files; unread = head_outside r s one; later = later }

pub looks_models : {f g : Option Files} {r s : Reads} {m n : ℕ} → LookedAt part.Words part.Nonwords f g r s m n → LooksAtTexts f g r s m n
looks_models {f = f} {g = g} {r = r} {s = s} {m = m} {n = n} looked = record { files = looked.files; unread = models_outside f g r s m n looked; later = looked.faults }

pub looks_text : {f g : Option Files} {r s : Reads} {m n : ℕ} → LookedAt part.Text part.Places f g r s m n → LooksAtTexts f g r s m n
looks_text {f = f} {g = g} {r = r} {s = s} {m = m} {n = n} looked = record { files = looked.files; unread = text_outside f g r s m n looked; later = looked.faults }

-- one call behind another
pub looks_more : {f g h : Option Files} {r s t : Reads} {l m n : ℕ} → LooksAtTexts f g r s l m → LooksAtTexts g h s t m n → LooksAtTexts f h r t l n
looks_more one two = record { files = two.files ∙ one.files; unread = two.unread ∙ one.unread; later = omega (arith, one.later, two.later) }
