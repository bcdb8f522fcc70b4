-- The bytes that a window keeps.
use Rattle.std.proofs.Common.{◌≡◌, ◌+◌, ◌*◌, ◌≤◌, ◌<◌, ◌-◌, ◌/◌, ◌%◌, ◌∙◌}
use Rattle.std.proofs.Common.{arith, ℕ, List, length, drop, take, None, Some, IfSome, IsSome, refl, sym, ap, subst, min, slice_get, length-take, length-drop}
use Rattle.std.specs.declared.option.Option.{Option}
use Rattle.std.proofs.Math.Nat.{div-add-mod}
use Rattle.std.proofs.lemmas.Nat.{div-mul-add}
use Rattle.std.proofs.lemmas.Option.{slice_get-get_or}
use Rattle.mg_dev.specs.Files.{Files, bytes_at}
use Rattle.mg_dev.specs.declared.part.Part.{Part}
use Rattle.mg_bits.specs.Feed.{HasBits, over_file, page_of, told_at}
use Rattle.mg_bits.specs.Pages.{IsFirst, IsPageIn}
use Rattle.mg_bits.proofs.Places.{page_of_byte, page_of_place, paged_byte}

-- a place on a page: the page's number and the byte's index
on_page : (bytes n at index : ℕ) → at ≡ bytes * n + index → index < bytes → (at / bytes ≡ n) × (at % bytes ≡ index)
on_page bytes n at index is small =
    let e : at ≡ n * bytes + index = omega (arith, is) in
    let q : at / bytes ≡ n = ap (λ a. a / bytes) e ∙ div-mul-add n bytes index small in
    let whole : bytes * n + at % bytes ≡ at = rw q at (div-add-mod at bytes) in
    (q, omega arith)

-- a place that is kept is on the page that is held
pub kept_at : (bytes : ℕ) (held : Option ℕ) (first count at : ℕ) → IsFirst held bytes first count → count ≤ bytes → first ≤ at → at - first < count →
    (held ≡ Some (at / bytes)) × (at - first ≡ at % bytes)
kept_at bytes None first count at is within low high = absurd (omega (arith, is.0 refl, high))
kept_at bytes (Some n) first count at is within low high =
    let found = on_page bytes n at (at - first) (omega (arith, is.1 n refl)) (omega arith) in
    (ap Some (sym found.0), sym found.1)

-- a place on the page that is held, with so many bytes from it on
has_bytes : (count bytes : ℕ) (held : Option ℕ) (page file : List ℕ) (at : ℕ) → 0 < count → 0 < bytes → held ≡ Some (at / bytes) →
    (at + count - 1) / bytes ≡ at / bytes → IsPageIn bytes held page file → at + count ≤ length file → at % bytes + count ≤ length page
has_bytes count bytes held page file at one some is last agrees long =
    let here : page ≡ take bytes (drop (bytes * (at / bytes)) file) = subst (λ h. IsPageIn bytes h page file) is agrees in
    let place : bytes * (at / bytes) + at % bytes ≡ at = div-add-mod at bytes in
    let end : bytes * ((at + count - 1) / bytes) + (at + count - 1) % bytes ≡ at + count - 1 = div-add-mod (at + count - 1) bytes in
    let same : bytes * ((at + count - 1) / bytes) ≡ bytes * (at / bytes) = ap (λ n. bytes * n) last in
    let small : (at + count - 1) % bytes < bytes = omega arith in
    let size : length page ≡ min bytes (length file - bytes * (at / bytes)) = ap length here
    ∙ (length-take bytes (drop (bytes * (at / bytes)) file) ∙ ap (λ n. min bytes n) (length-drop (bytes * (at / bytes)) file)) in
    omega (arith, place, end, same, small, size, long)

-- where the page that is held has so many bytes from a place on, the window keeps them
pub must_have : (count bytes : ℕ) (held : Option ℕ) (first at reads : ℕ) (page name : List ℕ) (part : Part) (files : Option Files) → 0 < count → 0 < bytes →
    ((number : ℕ) → held ≡ Some number → first ≡ bytes * number) →
    (IsSome files → IsPageIn bytes held page (bytes_at files name)) → HasBits (over_file name part bytes held reads) files (8 * at) (8 * count) → (first ≤ at) × (at - first + count ≤ length page)
must_have count bytes None first at reads page name part files one some is agrees has =
    let h : None ≡ Some (page_of bytes (8 * at)) = has.holds.first in absurd cc
must_have count bytes (Some n) first at reads page name part None one some is agrees has =
    let h : None ≡ Some has.bytes = has.told in absurd cc
must_have count bytes (Some n) first at reads page name part (Some f) one some is agrees has =
    let told : Some (bytes_at (Some f) name) ≡ Some has.bytes = has.told in
    let same : bytes_at (Some f) name ≡ has.bytes = cc in
    let long : at + count ≤ length (bytes_at (Some f) name) = rw same (omega (arith, has.within)) in
    let here : Some n ≡ Some (at / bytes) = has.holds.first ∙ ap Some (page_of_byte bytes at) in
    let n_is : n ≡ at / bytes = cc in
    let b : (8 * at + 8 * count - 1) / 8 ≡ at + count - 1 = omega arith in
    let last : (at + count - 1) / bytes ≡ at / bytes =
    sym (page_of_byte bytes (at + count - 1)) ∙ (ap (λ k. page_of bytes (8 * k)) (sym b) ∙ (page_of_place bytes (8 * at + 8 * count - 1) ∙ (has.holds.last ∙ page_of_byte bytes at))) in
    let whole : at % bytes + count ≤ length page = has_bytes count bytes (Some n) page (bytes_at (Some f) name) at one some here last (agrees refl) long in
    let place : bytes * (at / bytes) + at % bytes ≡ at = div-add-mod at bytes in
    let start : first ≡ bytes * (at / bytes) = is n refl ∙ ap (λ k. bytes * k) n_is in
    (omega (arith, place, start), omega (arith, place, start, whole))

pub must_have_word : (bytes : ℕ) (held : Option ℕ) (first count at reads : ℕ) (page name : List ℕ) (part : Part) (files : Option Files) → 0 < bytes → IsFirst held bytes first count →
    (IsSome files → IsPageIn bytes held page (bytes_at files name)) → HasBits (over_file name part bytes held reads) files (8 * at) 64 → (first ≤ at) × (at - first + 8 ≤ length page)
must_have_word bytes held first count at reads page name part files some is agrees has = must_have 8 bytes held first at reads page name part files (omega arith) some is.1 agrees has

pub must_have_byte : (bytes : ℕ) (held : Option ℕ) (first count at reads : ℕ) (page name : List ℕ) (part : Part) (files : Option Files) → 0 < bytes → IsFirst held bytes first count →
    (IsSome files → IsPageIn bytes held page (bytes_at files name)) → HasBits (over_file name part bytes held reads) files (8 * at) 8 → (first ≤ at) × (at - first < length page)
must_have_byte bytes held first count at reads page name part files some is agrees has =
    let have = must_have 1 bytes held first at reads page name part files (omega arith) some is.1 agrees has in
    (have.0, omega (arith, have.1))

-- a byte that is kept is the file's, where the files are told
pub told_here : (bytes : ℕ) (held : Option ℕ) (page name : List ℕ) (at index : ℕ) (found : Option ℕ) (files : Option Files) → 0 < bytes →
    held ≡ Some (at / bytes) → index ≡ at % bytes → found ≡ slice_get page index →
    (IsSome files → IsPageIn bytes held page (bytes_at files name)) → IfSome found (λ byte. IfSome (told_at files name) (λ all. Some byte ≡ slice_get all at))
told_here bytes held page name at index None files some is offset get agrees = tt
told_here bytes held page name at index (Some byte) None some is offset get agrees = tt
told_here bytes held page name at index (Some byte) (Some f) some is offset get agrees =
    get ∙ (ap (slice_get page) offset ∙ paged_byte bytes page held (bytes_at (Some f) name) at some is (agrees refl))

pub some_here : (page : List ℕ) (index : ℕ) (found : Option ℕ) → found ≡ slice_get page index → index < length page → IsSome found
some_here page index found is below = rw (is, slice_get-get_or page index 0 below) refl
