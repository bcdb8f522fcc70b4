-- What kept bits tell of the bit at a place.
use Rattle.std.proofs.Common.{arith, ◌≡◌, ◌+◌, ◌*◌, ◌-◌, ◌/◌, ◌%◌, ◌^◌, ℕ, List, [], ◌∷◌, ◌++◌, length, drop, None, Some, IfSome, sym, ◌∙◌, ap, subst, slice_get, nat_eq}
use Rattle.std.specs.declared.option.Option.{Option}
use Rattle.std.proofs.lemmas.List.{drop-drop}
use Rattle.mg_defs.specs.Bits.{Begins, FromPlace, bits_of, digits}
use Rattle.mg_defs.proofs.BitLaws.{digits_mod, length_digits}
use Rattle.mg_defs.proofs.FrontLaws.{begins_second}
use Rattle.mg_bits.specs.Feed.{Feeding, HoldsBits, page_of}
use Rattle.mg_bits.proofs.BitPieces.{told_piece}
use Rattle.mg_bits.proofs.EightBytes.{digits_split, first_digits}
use Rattle.mg_bits.proofs.Places.{page_of_place}
use Rattle.mg_bits.proofs.Told.{told_one}

-- one of some bits, by how many come before it and how many behind it
pub told_kept : (told : Option (List ℕ)) (start place before behind count word : ℕ) → count ≡ before + (1 + behind) → place ≡ start + before →
    FromPlace told start (Begins (digits count word)) → FromPlace told place (Begins (nat_eq (word / 2 ^ behind % 2) 1 ∷ []))
told_kept None start place before behind count word all is begins = tt
told_kept (Some bytes) start place before behind count word all is begins =
    let s = drop start (bits_of bytes) in
    let split : digits count word ≡ digits before (word / 2 ^ (1 + behind)) ++ digits (1 + behind) word = ap (λ n. digits n word) all ∙ digits_split before (1 + behind) word in
    let second : Begins (digits (1 + behind) word) (drop (length (digits before (word / 2 ^ (1 + behind)))) s) =
    begins_second (digits before (word / 2 ^ (1 + behind))) (digits (1 + behind) word) s (subst (λ d. Begins d s) split begins) in
    let e : drop (length (digits before (word / 2 ^ (1 + behind)))) s ≡ drop place (bits_of bytes) =
    ap (λ n. drop n s) (length_digits before (word / 2 ^ (1 + behind))) ∙ (drop-drop before start (bits_of bytes) ∙ ap (λ n. drop n (bits_of bytes)) (sym is)) in
    let first : Begins (digits 1 (word / 2 ^ behind)) (drop place (bits_of bytes)) = first_digits 1 behind word (drop place (bits_of bytes)) (subst (Begins (digits (1 + behind) word)) e second) in
    told_one (Some bytes) place (word / 2 ^ behind % 2) (omega arith)
    (subst (λ d. Begins d (drop place (bits_of bytes))) (sym (digits_mod 1 1 (word / 2 ^ behind) (omega arith))) first)

-- the bits of a byte
pub told_byte : (told : Option (List ℕ)) (at byte : ℕ) → IfSome told (λ bytes. Some byte ≡ slice_get bytes at) → FromPlace told (8 * at) (Begins (digits 8 byte))
told_byte None at byte is = tt
told_byte (Some bytes) at byte is =
    let place : 8 * at / 8 ≡ at = omega arith in
    let here : FromPlace (Some bytes) (8 * at) (Begins (digits 8 (byte / 2 ^ 0 % 2 ^ 8))) = told_piece (Some bytes) (8 * at) byte 8 0 (omega arith) (is ∙ ap (slice_get bytes) (sym place)) in
    subst (λ d. Begins d (drop (8 * at) (bits_of bytes))) (digits_mod 8 8 (byte / 2 ^ 0) (omega arith) ∙ ap (digits 8) (let one : byte / 2 ^ 0 ≡ byte = omega arith in one)) here

-- all of them lie on its page
pub holds_byte : (feed : Feeding) (at : ℕ) → feed.held ≡ Some (page_of feed.page (8 * at)) → HoldsBits feed (8 * at) 8
holds_byte feed at held =
    let byte : (8 * at + 8 - 1) / 8 ≡ at = omega arith in
    record { first = held; last = sym (page_of_place feed.page (8 * at + 8 - 1)) ∙ ap (λ n. page_of feed.page (8 * n)) byte }
