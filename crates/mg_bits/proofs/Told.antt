-- What is told of bits that were read in pieces.
use Rattle.std.proofs.Common.{arith, suc, zero, ◌≡◌, ◌+◌, ◌*◌, ◌≤◌, ◌<◌, ◌-◌, ◌^◌, ℕ, Bool, List, [], ◌∷◌, length, drop, Some, None, Ok, Err, refl, sym, ◌∙◌, ap, subst, length-drop, nat_eq}
use Rattle.std.specs.declared.option.Option.{Option}
use Rattle.std.proofs.lemmas.List.{drop-drop}
use Rattle.mg_defs.specs.Bits.{digits, bits_of, Begins, FromPlace}
use Rattle.mg_bits.specs.Feed.{Feeding, Device as Seen, Calm}
use Rattle.mg_bits.specs.Reader.{AnswersBits, AnswersPiece, EndHolds, at_place}
use Rattle.mg_bits.specs.declared.bit_err.BitErr.{BitErr}
use Rattle.mg_bits.specs.declared.bit_err.BitErr.TheVariants.{Device, End}
use Rattle.mg_defs.proofs.BitLaws.{length_digits}
use Rattle.mg_bits.specs.Feed.{page_of, held_after}
use Rattle.mg_bits.proofs.Ranges.{page_mono, held_after_some}
use Rattle.mg_defs.proofs.BitLaws.{digits_append}
use Rattle.mg_defs.proofs.FrontLaws.{begins_both}

pub same_told : (old new : Feeding) (before now : Seen) → Calm old new before now → new.source now.files ≡ old.source before.files
same_told old new before now calm = ap (λ f. f now.files) calm.source ∙ ap old.source calm.files

pub told_more : (told : Option (List ℕ)) (start d t v m : ℕ) → m < 2 ^ t →
    FromPlace told start (Begins (digits d v)) → FromPlace told (start + d) (Begins (digits t m)) →
    FromPlace told start (Begins (digits (d + t) (v * 2 ^ t + m)))
told_more None start d t v m low one two = tt
told_more (Some bytes) start d t v m low one two =
    let e : drop (length (digits d v)) (drop start (bits_of bytes)) ≡ drop (start + d) (bits_of bytes) =
    ap (λ n. drop n (drop start (bits_of bytes))) (length_digits d v) ∙ drop-drop d start (bits_of bytes) in
    subst (λ code. Begins code (drop start (bits_of bytes))) (sym (digits_append d t v m low))
    (begins_both (digits d v) (digits t m) (drop start (bits_of bytes)) one
    (subst (Begins (digits t m)) (sym e) two))

pub too_few : (bits : List Bool) (start d count : ℕ) → drop (start + d) bits ≡ [] → d < count → length (drop start bits) < count
too_few bits start d count none below =
    let e : length (drop (start + d) bits) ≡ 0 = ap length none in
    omega (arith, length-drop (start + d) bits, length-drop start bits)

pub told_refused : (told : Option (List ℕ)) (refusal : BitErr) (start d place size count : ℕ) → d < count → place ≡ start + d →
    FromPlace told place (AnswersPiece (Err refusal) place size) →
    FromPlace told start (AnswersBits (Err (at_place refusal start)) start count)
told_refused None refusal start d place size count below is answers = tt
told_refused (Some bytes) Device start d place size count below is answers = tt
told_refused (Some bytes) (End at) start d place size count below is answers =
    (too_few (bits_of bytes) start d count (rw is at answers.0) below, refl)

pub told_one : (told : Option (List ℕ)) (place value : ℕ) → value < 2 →
    FromPlace told place (Begins (digits 1 value)) → FromPlace told place (Begins (nat_eq value 1 ∷ []))
unfolding digits
told_one None place value below begins = tt
told_one (Some bytes) place zero below begins = begins
told_one (Some bytes) place (suc zero) below begins = begins
told_one (Some bytes) place (suc (suc n)) below begins = absurd (omega arith)

pub told_nothing : (told : Option (List ℕ)) (place : ℕ) → FromPlace told place (Begins (digits 0 0))
unfolding digits
told_nothing None place = tt
told_nothing (Some bytes) place = refl

pub told_end_ok : (told : Option (List ℕ)) (value page place count : ℕ) (held : Option ℕ) → FromPlace told place (EndHolds (Ok value) page place count held)
told_end_ok None value page place count held = tt
told_end_ok (Some bytes) value page place count held = tt

pub told_end : (told : Option (List ℕ)) (refusal : BitErr) (page start d place size count : ℕ) (h0 h1 h2 : Option ℕ) → 0 < page → d < count → place ≡ start + d →
    h1 ≡ held_after page h0 start (start + d) → (h1 ≡ Some (page_of page place) → h2 ≡ h1) →
    FromPlace told place (AnswersPiece (Err refusal) place size) →
    FromPlace told start (EndHolds (Err (at_place refusal start)) page start count h2)
told_end None refusal page start d place size count h0 h1 h2 some below is after keeps answers = tt
told_end (Some bytes) Device page start d place size count h0 h1 h2 some below is after keeps answers = tt
told_end (Some bytes) (End at) page start d place size count h0 h1 h2 some below is after keeps answers = λ first one.
    let none : drop (start + d) (bits_of bytes) ≡ [] = rw is at answers.0 in
    let empty : length (drop (start + d) (bits_of bytes)) ≡ 0 = ap length none in
    let more : 0 < d = omega (arith, length-drop (start + d) (bits_of bytes), length-drop start (bits_of bytes)) in
    let lt : start < start + d = omega arith in
    let width : 0 < 8 * page = omega arith in
    let m1 : page_of page start ≤ page_of page (start + d - 1) = page_mono (8 * page) start (start + d - 1) width (omega arith) in
    let m2 : page_of page (start + d - 1) ≤ page_of page (start + count - 1) = page_mono (8 * page) (start + d - 1) (start + count - 1) width (omega arith) in
    let m3 : page_of page start ≤ page_of page (start + d) = page_mono (8 * page) start (start + d) width (omega arith) in
    let m4 : page_of page (start + d) ≤ page_of page (start + count - 1) = page_mono (8 * page) (start + d) (start + count - 1) width (omega arith) in
    let e1 : page_of page (start + d - 1) ≡ page_of page start = omega arith in
    let e2 : page_of page place ≡ page_of page start = ap (page_of page) is ∙ (let e : page_of page (start + d) ≡ page_of page start = omega arith in e) in
    let held : h1 ≡ Some (page_of page start) = after ∙ held_after_some page h0 start (start + d) lt ∙ ap Some e1 in
    keeps (held ∙ ap Some (sym e2)) ∙ held
