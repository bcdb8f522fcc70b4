-- The entries of a stream's pieces, as they are written.
use Rattle.std.proofs.Common.{◌≡◌, ◌≢◌, ℕ, ◌+◌, ◌*◌, ◌<◌, ◌≤◌, List, [], ◌∷◌, length, take, get_or, slice_get, slice_index, Some, None, Option, sym, ap, subst, ◌∙◌, arith, Err, zero-add, inr}
use Rattle.std.specs.Option.{option_map}
use Rattle.mg_dev.specs.declared.part.Part.{Part}
use Rattle.mg_dev.specs.declared.part_err.PartErr.{PartErr}
use Rattle.mg_dev.specs.declared.part_err.PartErr.TheVariants.{Device, Memory, Bad}
use Rattle.mg_bits.specs.Writer.{Writing}
use Rattle.mg_defs.specs.CodedText.{piece_entries}
use Rattle.mg_defs.specs.Front.{Entry, IsEntry, AreEntries, last_string}
use Rattle.mg_defs.proofs.EntryLaws.{entries_rest}
use Rattle.mg_defs.proofs.FrontParts.{some_cons}
use Rattle.mg_front.specs.Fronting.{IsOther}
use Rattle.mg_model.specs.Damage.{AnswersStream}
use Rattle.mg_model.specs.Read.{AnswersCode}
use Rattle.mg_model.proofs.Entries.{code, entry, entry-there}
use Rattle.mg_model.proofs.Seeking.{there-or}

-- ---- the next entry of a writer

pub piece-entry : (pieces : List (List ℕ)) (lengths : List ℕ) (n : ℕ) (piece : List ℕ) (bits : ℕ) → length lengths ≡ length pieces → n < length lengths →
    slice_get pieces n ≡ Some piece → bits ≡ slice_index lengths n → slice_get (piece_entries (code pieces lengths)) n ≡ Some (entry piece bits)
piece-entry pieces lengths n piece bits e within there at =
    entry-there pieces lengths n e (omega (arith, e)) ∙ ap (λ p. Some (entry p (get_or lengths n 0))) (there-or pieces n piece [] there)
    ∙ ap (λ b. Some (entry piece b)) (sym at)

pub entry-next : (es : List Entry) (n : ℕ) (e : Entry) → AreEntries 1 0 [] es → n < length es → slice_get es n ≡ Some e → IsEntry 1 (length (take n es)) (last_string [] (take n es)) e
entry-next es n e are within there =
    let s = some_cons es n within in
    let same : s.0 ≡ e = let f : Some s.0 ≡ Some e = sym s.3 ∙ there in cc in
    let rest : AreEntries 1 (0 + length (take n es)) (last_string [] (take n es)) (s.0 ∷ s.1) = entries_rest 1 0 [] (take n es) (s.0 ∷ s.1) (subst (AreEntries 1 0 []) s.2 are) in
    subst (λ m. IsEntry 1 m (last_string [] (take n es)) e) (zero-add (length (take n es))) (subst (IsEntry 1 (0 + length (take n es)) (last_string [] (take n es))) same rest.0)

pub entry-of-writer : (es : List Entry) (n width count : ℕ) (last : List ℕ) (e : Entry) → AreEntries 1 0 [] es → n < length es → slice_get es n ≡ Some e →
    width ≡ 1 → count ≡ length (take n es) → last ≡ last_string [] (take n es) → IsEntry width count last e
entry-of-writer es n width count last e are within there w c l =
    subst (λ x. IsEntry x count last e) (sym w) (subst (λ x. IsEntry 1 x last e) (sym c) (subst (λ x. IsEntry 1 (length (take n es)) x e) (sym l) (entry-next es n e are within there)))

pub is-other : (n strings : List ℕ) (places : Option Writing) → option_map (λ (p : Writing). p.name) places ≡ None → n ≢ strings → IsOther n strings places
is-other n strings None h apart = apart
is-other n strings (Some places) h apart = absurd cc

-- ---- a part that was read

pub code-damage : (part : Part) (count : ℕ) (bytes : List ℕ) (refusal : PartErr) → 2 * count ≤ length bytes →
    AnswersCode {T = List ℕ} part count bytes (Err refusal) → AnswersStream part count bytes (Err refusal)
code-damage part count bytes Device room h = tt
code-damage part count bytes Memory room h = room
code-damage part count bytes (Bad bad) room h = inr (room, inr h)
