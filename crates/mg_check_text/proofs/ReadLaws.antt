-- Calls that read the text of a set: none, one behind another, and one with another answer.
use Rattle.std.proofs.Common.{◌≡◌, ◌∙◌, ℕ, Ok, Err, refl, sym, subst}
use Rattle.std.specs.Prelude.{IfErr}
use Rattle.std.specs.declared.option.Option.{Option}
use Rattle.std.specs.declared.result.Result.{Result}
use Rattle.mg_dev.specs.Files.{Files, Reads}
use Rattle.mg_dev.specs.PartCauses.{HasPartCause}
use Rattle.mg_dev.specs.declared.part.Part.TheVariants as part
use Rattle.mg_dev.specs.declared.part_err.PartErr.{PartErr}
use Rattle.mg_bits.specs.Pages.{LookedAt}
use Rattle.mg_defs.specs.CodedText.{TextCode}
use Rattle.mg_model.specs.Terms.{TermNumbers, terms_and_numbers}
use Rattle.mg_text.specs.Reading.{SameText, TextFits, TextReading}
use Rattle.mg_check_parts.specs.Looks.{LooksAtSet}
use Rattle.mg_check_parts.specs.Refusals.{IsNotDevice}
use Rattle.mg_check_parts.proofs.CallerLemmas.{looks_bad, looks_err, looks_none, looks_ok, looks_own, looks_pure, looks_then, looks_two}
use Rattle.mg_check_text.specs.Reads.{HasTerms, ReadsText}

-- ---- readers of the same text

pub same_text : (r : TextReading) → SameText r r
same_text r = record { text = refl; places = refl; code = refl; version = refl; documents = refl; size = refl }

pub text_more : (a b c : TextReading) → SameText a b → SameText b c → SameText a c
text_more a b c one two = record {
  text = two.text ∙ one.text;
  places = two.places ∙ one.places;
  code = two.code ∙ one.code;
  version = two.version ∙ one.version;
  documents = two.documents ∙ one.documents;
  size = two.size ∙ one.size;
}

-- ---- the text

pub text_none : {T : Type 0} {x : T} {a : TextReading} (f : Option Files) (r : Reads) (n : ℕ) → TextFits a f → ReadsText a a (Ok x) f f r r n n
text_none {a = a} f r n fits = record { fits = fits; same = same_text a; looks = looks_none f r n }

pub text_own : {T : Type 0} (e : PartErr) {a : TextReading} (f : Option Files) (r : Reads) (n : ℕ) → TextFits a f → IsNotDevice e → ReadsText {T = T} a a (Err e) f f r r n n
text_own e {a = a} f r n fits own = record { fits = fits; same = same_text a; looks = looks_own e f r n own }

pub text_ok : {T U : Type 0} {result : Result T PartErr} {y : U} {a b : TextReading} {f g : Option Files} {r s : Reads} {m n : ℕ} →
    ReadsText a b result f g r s m n → ReadsText a b (Ok y) f g r s m n
text_ok text = record { fits = text.fits; same = text.same; looks = looks_ok text.looks }

pub text_err : {T U : Type 0} {e : PartErr} {a b : TextReading} {f g : Option Files} {r s : Reads} {m n : ℕ} →
    ReadsText {T = T} a b (Err e) f g r s m n → ReadsText {T = U} a b (Err e) f g r s m n
text_err {T} {U} text = record { fits = text.fits; same = text.same; looks = looks_err {T = T} {U = U} text.looks }

pub text_bad : {T U : Type 0} {result : Result T PartErr} (e : PartErr) {a b : TextReading} {f g : Option Files} {r s : Reads} {m n : ℕ} →
    ReadsText a b result f g r s m n → IsNotDevice e → ReadsText {T = U} a b (Err e) f g r s m n
text_bad e text own = record { fits = text.fits; same = text.same; looks = looks_bad e text.looks own }

pub text_pure : {T U : Type 0} {one : Result T PartErr} (two : Result U PartErr) {a b : TextReading} {f g : Option Files} {r s : Reads} {m n : ℕ} →
    ReadsText a b one f g r s m n → IfErr two IsNotDevice → ReadsText a b two f g r s m n
text_pure two text own = record { fits = text.fits; same = text.same; looks = looks_pure two text.looks own }

pub text_then : {T U : Type 0} {one : Result T PartErr} {two : Result U PartErr} {a b c : TextReading} {f g h : Option Files} {r s t : Reads} {l m n : ℕ} →
    ReadsText a b one f g r s l m → ReadsText b c two g h s t m n → ReadsText a c two f h r t l n
text_then {a = a} {b = b} {c = c} one two = record { fits = two.fits; same = text_more a b c one.same two.same; looks = looks_then one.looks two.looks }

-- other parts were looked at behind it
pub text_looks : {T U : Type 0} {one : Result T PartErr} {two : Result U PartErr} {a b : TextReading} {f g h : Option Files} {r s t : Reads} {l m n : ℕ} →
    ReadsText a b one f g r s l m → LooksAtSet two g h s t m n → ReadsText a b two f h r t l n
text_looks {b = b} one two = record { fits = subst (λ f. TextFits b f) (sym two.files) one.fits; same = one.same; looks = looks_then one.looks two }

-- the terms of a text that was read
pub terms_stay : {a b : TextReading} {f g : Option Files} {table : TermNumbers} {documents : ℕ} → TextFits b g → SameText a b → HasTerms a f table documents → HasTerms b g table documents
terms_stay {a = a} {b = b} {table = table} fits same has = record {
  fits = fits;
  all = has.all ∙ sym same.documents;
  table_is = has.table_is ∙ sym (ap_words same);
  few = has.few;
}
  where
    ap_words : SameText a b → terms_and_numbers b.code.words.pieces ≡ terms_and_numbers a.code.words.pieces
    ap_words it = let code = it.code in cc

-- as many documents as the reader has
pub terms_here : {a b : TextReading} {f g : Option Files} {table : TermNumbers} {documents : ℕ} → TextFits b g → SameText a b → HasTerms a f table documents → HasTerms b g table b.documents
terms_here fits same has = let stay = terms_stay fits same has in record { fits = fits; all = refl; table_is = stay.table_is; few = has.few }

-- a document was read
pub text_read : {T : Type 0} {result : Result T PartErr} {old new : TextReading} {f g : Option Files} {r s : Reads} {m n : ℕ} → TextFits new g →
    SameText old new → LookedAt part.Text part.Places f g r s m n → HasPartCause m n result → ReadsText old new result f g r s m n
text_read fits same looked cause = record { fits = fits; same = same; looks = looks_two part.Text part.Places refl refl looked cause }
