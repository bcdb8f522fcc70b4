-- Codes of two parts: a number in unary, and then a code that this number picks.
use Rattle.std.proofs.Common.{arith, ◌≡◌, ◌+◌, ◌≤◌, ◌<◌, ◌-◌, ℕ, List, ◌++◌, length, drop, Some, None, Ok, Err, refl, sym, ◌∙◌, ap, subst, inl, inr, length-append}
use Rattle.std.specs.declared.option.Option.{Option}
use Rattle.std.proofs.lemmas.List.{drop-drop}
use Rattle.mg_defs.specs.Bits.{Bits, Begins, FromPlace, bits_of}
use Rattle.mg_defs.specs.Codes.{unary}
use Rattle.mg_defs.specs.Answers.{UpTo, Below, CutShort, IsNone, IsPrefixFree}
use Rattle.mg_defs.proofs.FrontLaws.{begins_append, begins_length, begins_through, begins_rest, begins_both, begins_behind, shorter_first, in_order, ends}
use Rattle.mg_defs.proofs.CodeLaws.{unaries_meet}
use Rattle.mg_bits.specs.Feed.{Feeding, Device as Seen, Read, ReadsWithin}
use Rattle.mg_bits.specs.CodeAnswers.{AnswersCode, OnlyPagesOf}
use Rattle.mg_bits.specs.declared.code_err.CodeErr.{CodeErr}
use Rattle.mg_bits.specs.declared.code_err.CodeErr.TheVariants.{Device, End, Over}
use Rattle.mg_bits.proofs.CallerLemmas.{within_wider, within_more}
use Rattle.mg_codes.specs.Refusals.{of_whole}

pub record Reaches (within : ℕ → Type 0) (lead : ℕ → ℕ) (q : ℕ) : Type 0 where
  pub value : ℕ
  pub taken : within value
  pub is : lead value ≡ q

-- the code of a value is that of its first number in unary, and the rest; each first number up to the top one is that of a value
pub record TwoParts (within : ℕ → Type 0) (code : ℕ → Bits) (lead : ℕ → ℕ) (rest : ℕ → Bits) (top : ℕ) : Type 0 where
  pub is : (x : ℕ) → within x → code x ≡ unary (1 + lead x) ++ rest x
  pub most : (x : ℕ) → within x → lead x ≤ top
  pub reach : (q : ℕ) → q ≤ top → Reaches within lead q

pub record Back (rest : ℕ → Bits) (x bound : ℕ) (tail : ℕ → Bits) : Type 0 where
  pub v : ℕ
  pub below : v < bound
  pub is : rest x ≡ tail v

-- after the first number q the rests are the codes of the numbers below a bound
pub record Second (within : ℕ → Type 0) (lead : ℕ → ℕ) (rest : ℕ → Bits) (q bound : ℕ) (tail : ℕ → Bits) (join : ℕ → ℕ) : Type 0 where
  pub value : (v : ℕ) → v < bound → within (join v)
  pub leads : (v : ℕ) → v < bound → lead (join v) ≡ q
  pub is : (v : ℕ) → v < bound → rest (join v) ≡ tail v
  pub back : (x : ℕ) → within x → lead x ≡ q → Back rest x bound tail

first_begins : {within : ℕ → Type 0} {code : ℕ → Bits} {lead : ℕ → ℕ} {rest : ℕ → Bits} {top : ℕ} (x : ℕ) → TwoParts within code lead rest top → within x → Begins (unary (1 + lead x)) (code x)
first_begins {within} {code} {lead} {rest} x parts taken = rw (parts.is x taken) (begins_append (unary (1 + lead x)) (rest x))

first_up_to : {within : ℕ → Type 0} {code : ℕ → Bits} {lead : ℕ → ℕ} {rest : ℕ → Bits} {top : ℕ} (x : ℕ) → TwoParts within code lead rest top → within x → UpTo (top + 1) (1 + lead x)
first_up_to {within} {code} {lead} {rest} {top} x parts taken = let most : lead x ≤ top = parts.most x taken in (omega arith, omega arith)

-- ---- where the first number is refused

first_none : {within : ℕ → Type 0} {code : ℕ → Bits} {lead : ℕ → ℕ} {rest : ℕ → Bits} {top : ℕ} (s : Bits) → TwoParts within code lead rest top → IsNone (UpTo (top + 1)) unary s → IsNone within code s
first_none {within} {code} {lead} s parts none = record {
  begins = λ x taken h. none.begins (1 + lead x) (first_up_to x parts taken) (begins_through (unary (1 + lead x)) (code x) s (first_begins x parts taken) h);
  cut = λ x taken h.
      elim (in_order (length s) (length (unary (1 + lead x)))) [
        | inl le ↦ none.cut (1 + lead x) (first_up_to x parts taken) (shorter_first s (unary (1 + lead x)) (code x) h (first_begins x parts taken) le)
        | inr lt ↦
            none.begins (1 + lead x) (first_up_to x parts taken)
            (shorter_first (unary (1 + lead x)) s (code x) (first_begins x parts taken) h (omega (arith, lt)))
      ];
}

first_cut : {within : ℕ → Type 0} {code : ℕ → Bits} {lead : ℕ → ℕ} {rest : ℕ → Bits} {top : ℕ} (s : Bits) →
    TwoParts within code lead rest top → CutShort (UpTo (top + 1)) unary s → CutShort within code s
first_cut {within} {code} {lead} s parts cut =
    let r : Reaches within lead (cut.value - 1) = parts.reach (cut.value - 1) (omega (arith, cut.taken)) in
    let same : 1 + lead r.value ≡ cut.value = omega (arith, r.is, cut.taken) in
    let part : Begins (unary (1 + lead r.value)) (code r.value) = first_begins r.value parts r.taken in
    let part : Begins (unary cut.value) (code r.value) = subst (λ n. Begins (unary n) (code r.value)) same part in
    record {
      value = r.value;
      taken = r.taken;
      short = omega (arith, begins_length (unary cut.value) (code r.value) part, cut.short);
      agrees = begins_through s (unary cut.value) (code r.value) cut.agrees part;
    }

pub first_refused : {within : ℕ → Type 0} {code : ℕ → Bits} {lead : ℕ → ℕ} {rest : ℕ → Bits} {top : ℕ} (told : Option (List ℕ)) (place limit : ℕ) (refusal : CodeErr) →
    TwoParts within code lead rest top → IsPrefixFree within code →
    FromPlace told place (AnswersCode (Err refusal) (UpTo (top + 1)) unary (top + 1) place) →
    FromPlace told place (AnswersCode (Err (of_whole refusal place limit)) within code limit place)
first_refused None place limit refusal parts free answers = tt
first_refused (Some bytes) place limit Device parts free answers = tt
first_refused {within} {code} (Some bytes) place limit (End at) parts free answers = (refl, ends within code _ free (first_cut _ parts answers.1.cut))
first_refused (Some bytes) place limit (Over at most) parts free answers = (refl, refl, first_none _ parts answers.2)

pub first_pages : {within : ℕ → Type 0} {code : ℕ → Bits} {lead : ℕ → ℕ} {rest : ℕ → Bits} {top : ℕ} (told : Option (List ℕ)) (place : ℕ) (f0 f1 : Feeding) (d0 d1 : Seen) →
    TwoParts within code lead rest top → 0 < f0.page →
    FromPlace told place (OnlyPagesOf (UpTo (top + 1)) unary f0 f1 d0 d1 place) → FromPlace told place (OnlyPagesOf within code f0 f1 d0 d1 place)
first_pages None place f0 f1 d0 d1 parts some pages = tt
first_pages {within} {code} {lead} (Some bytes) place f0 f1 d0 d1 parts some pages = λ x taken begins.
    let part : Begins (unary (1 + lead x)) (code x) = first_begins x parts taken in
    within_wider f0 f1 d0 d1 place (place + length (unary (1 + lead x))) (place + length (code x)) some (omega arith) (omega (arith, begins_length _ _ part))
    (pages (1 + lead x) (first_up_to x parts taken) (begins_through (unary (1 + lead x)) (code x) _ part begins))

-- ---- after the first number

pub first_stands : (told : Option (List ℕ)) (place x q limit : ℕ) → x ≡ 1 + q →
    FromPlace told place (AnswersCode (Ok x) (UpTo limit) unary limit place) → FromPlace told place (Begins (unary (1 + q)))
first_stands None place x q limit is answers = tt
first_stands (Some bytes) place x q limit is answers = rw (← is) answers.1

pub whole_is : {within : ℕ → Type 0} {code : ℕ → Bits} {lead : ℕ → ℕ} {rest : ℕ → Bits} {top q bound : ℕ} {tail : ℕ → Bits} {join : ℕ → ℕ}
    (v : ℕ) → TwoParts within code lead rest top → Second within lead rest q bound tail join → v < bound → code (join v) ≡ unary (1 + q) ++ tail v
whole_is {within} {code} {lead} {rest} {top} {q} {bound} {tail} {join} v parts second below =
    parts.is (join v) (second.value v below) ∙ ap (λ n. unary (1 + n) ++ rest (join v)) (second.leads v below) ∙ ap (λ l. unary (1 + q) ++ l) (second.is v below)

pub second_value : {within : ℕ → Type 0} {code : ℕ → Bits} {lead : ℕ → ℕ} {rest : ℕ → Bits} {top q bound : ℕ} {tail : ℕ → Bits} {join : ℕ → ℕ}
    (told : Option (List ℕ)) (start place limit v : ℕ) →
    TwoParts within code lead rest top → Second within lead rest q bound tail join → v < bound → place ≡ start + length (unary (1 + q)) →
    FromPlace told start (Begins (unary (1 + q))) → FromPlace told place (AnswersCode (Ok v) (Below bound) tail bound place) →
    FromPlace told start (AnswersCode (Ok (join v)) within code limit start)
second_value None start place limit v parts second below here one two = tt
second_value {within} {code} {lead} {rest} {top} {q} {bound} {tail} (Some bytes) start place limit v parts second below here one two = (
  second.value v below,
  rw (whole_is v parts second below) (begins_both (unary (1 + q)) (tail v) (drop start (bits_of bytes)) one (rw drop-drop (rw here at two.1))),
)

second_cut : {within : ℕ → Type 0} {code : ℕ → Bits} {lead : ℕ → ℕ} {rest : ℕ → Bits} {top q bound : ℕ} {tail : ℕ → Bits} {join : ℕ → ℕ}
    (t : Bits) →
    TwoParts within code lead rest top → Second within lead rest q bound tail join → CutShort (Below bound) tail t → CutShort within code (unary (1 + q) ++ t)
second_cut {within} {code} {lead} {rest} {top} {q} {bound} {tail} {join} t parts second cut =
    let is : code (join cut.value) ≡ unary (1 + q) ++ tail cut.value = whole_is cut.value parts second cut.taken in
    record {
      value = join cut.value;
      taken = second.value cut.value cut.taken;
      short = omega (arith, ap length is, length-append (unary (1 + q)) (tail cut.value), length-append (unary (1 + q)) t, cut.short);
      agrees = rw is (begins_behind (unary (1 + q)) t (tail cut.value) cut.agrees);
    }

second_none : {within : ℕ → Type 0} {code : ℕ → Bits} {lead : ℕ → ℕ} {rest : ℕ → Bits} {top q bound : ℕ} {tail : ℕ → Bits} {join : ℕ → ℕ}
    (t : Bits) →
    TwoParts within code lead rest top → Second within lead rest q bound tail join → IsNone (Below bound) tail t → IsNone within code (unary (1 + q) ++ t)
second_none {within} {code} {lead} {rest} {top} {q} {bound} {tail} t parts second none = record {
  begins = λ x taken h.
      let met : (lead x ≡ q) × Begins (rest x) t = unaries_meet (lead x) q (rest x) t (rw (parts.is x taken) at h) in
      let back : Back rest x bound tail = second.back x taken met.0 in
      none.begins back.v back.below (rw back.is at met.1);
  cut = λ x taken h.
      let met : (q ≡ lead x) × Begins t (rest x) = unaries_meet q (lead x) t (rest x) (rw (parts.is x taken) at h) in
      let back : Back rest x bound tail = second.back x taken (sym met.0) in
      none.cut back.v back.below (rw back.is at met.1);
}

pub second_refused : {within : ℕ → Type 0} {code : ℕ → Bits} {lead : ℕ → ℕ} {rest : ℕ → Bits} {top q bound : ℕ} {tail : ℕ → Bits} {join : ℕ → ℕ}
    (told : Option (List ℕ)) (start place limit : ℕ) (refusal : CodeErr) →
    TwoParts within code lead rest top → Second within lead rest q bound tail join → IsPrefixFree within code → place ≡ start + length (unary (1 + q)) →
    FromPlace told start (Begins (unary (1 + q))) → FromPlace told place (AnswersCode (Err refusal) (Below bound) tail bound place) →
    FromPlace told start (AnswersCode (Err (of_whole refusal start limit)) within code limit start)
second_refused None start place limit refusal parts second free here one two = tt
second_refused (Some bytes) start place limit Device parts second free here one two = tt
second_refused {within} {code} {lead} {rest} {top} {q} {bound} {tail} (Some bytes) start place limit (End at) parts second free here one two =
    let cut : CutShort (Below bound) tail (drop (length (unary (1 + q))) (drop start (bits_of bytes))) = rw drop-drop (rw here at two.1.cut) in
    let whole : CutShort within code (drop start (bits_of bytes)) =
    subst (CutShort within code) (sym (begins_rest (unary (1 + q)) (drop start (bits_of bytes)) one)) (second_cut _ parts second cut) in
    (refl, ends within code _ free whole)
second_refused {within} {code} {lead} {rest} {top} {q} {bound} {tail} (Some bytes) start place limit (Over at most) parts second free here one two =
    let none : IsNone (Below bound) tail (drop (length (unary (1 + q))) (drop start (bits_of bytes))) = rw drop-drop (rw here at two.2) in
    let whole : IsNone within code (drop start (bits_of bytes)) =
    subst (IsNone within code) (sym (begins_rest (unary (1 + q)) (drop start (bits_of bytes)) one)) (second_none _ parts second none) in
    (refl, refl, whole)

pub second_pages : {within : ℕ → Type 0} {code : ℕ → Bits} {lead : ℕ → ℕ} {rest : ℕ → Bits} {top q bound : ℕ} {tail : ℕ → Bits} {join : ℕ → ℕ}
    (told : Option (List ℕ)) (start place : ℕ) (f0 f1 f2 : Feeding) (d0 d1 d2 : Seen) →
    TwoParts within code lead rest top → Second within lead rest q bound tail join → 0 < f0.page → place ≡ start + length (unary (1 + q)) →
    FromPlace told start (Begins (unary (1 + q))) → Read f0 f1 d0 d1 start place → FromPlace told place (OnlyPagesOf (Below bound) tail f1 f2 d1 d2 place) →
    FromPlace told start (OnlyPagesOf within code f0 f2 d0 d2 start)
second_pages None start place f0 f1 f2 d0 d1 d2 parts second some here one read pages = tt
second_pages {within} {code} {lead} {rest} {top} {q} {bound} {tail} (Some bytes) start place f0 f1 f2 d0 d1 d2 parts second some here one read pages = λ x taken begins.
    let split : drop start (bits_of bytes) ≡ unary (1 + q) ++ drop (length (unary (1 + q))) (drop start (bits_of bytes)) =
    begins_rest (unary (1 + q)) (drop start (bits_of bytes)) one in
    let h : Begins (unary (1 + lead x) ++ rest x) (unary (1 + q) ++ drop (length (unary (1 + q))) (drop start (bits_of bytes))) =
    subst (Begins (unary (1 + lead x) ++ rest x)) split (rw (parts.is x taken) at begins) in
    let met : (lead x ≡ q) × Begins (rest x) (drop (length (unary (1 + q))) (drop start (bits_of bytes))) = unaries_meet (lead x) q (rest x) _ h in
    let back : Back rest x bound tail = second.back x taken met.0 in
    let at_place : drop (length (unary (1 + q))) (drop start (bits_of bytes)) ≡ drop place (bits_of bytes) =
    drop-drop (length (unary (1 + q))) start (bits_of bytes) ∙ ap (λ n. drop n (bits_of bytes)) (sym here) in
    let stands : Begins (tail back.v) (drop (length (unary (1 + q))) (drop start (bits_of bytes))) =
    subst (λ l. Begins l (drop (length (unary (1 + q))) (drop start (bits_of bytes)))) back.is met.1 in
    let there : Begins (tail back.v) (drop place (bits_of bytes)) = subst (Begins (tail back.v)) at_place stands in
    let long : length (code x) ≡ length (unary (1 + q)) + length (tail back.v) =
    ap length (parts.is x taken) ∙ length-append (unary (1 + lead x)) (rest x)
    ∙ ap (λ n. length (unary (1 + n)) + length (rest x)) met.0 ∙ ap (λ l. length (unary (1 + q)) + length l) back.is in
    let end : place + length (tail back.v) ≡ start + length (code x) = omega (arith, here, long) in
    subst (ReadsWithin f0 f2 d0 d2 start) end
    (within_more f0 f1 f2 d0 d1 d2 start place (place + length (tail back.v)) some (omega (arith, here)) (omega arith)
    read.calm.part read.calm.page read.held read.pages (pages back.v back.below there))

pub record FirstRead (f0 f1 : Feeding) (d0 d1 : Seen) (start place q : ℕ) : Type 0 where
  pub here : place ≡ start + length (unary (1 + q))
  pub far : Read f0 f1 d0 d1 start (start + length (unary (1 + q)))
  pub to_place : Read f0 f1 d0 d1 start place

pub first_read : (f0 f1 : Feeding) (d0 d1 : Seen) (start place x q : ℕ) → x ≡ 1 + q → place ≡ start + length (unary x) →
    Read f0 f1 d0 d1 start (start + length (unary x)) → FirstRead f0 f1 d0 d1 start place q
first_read f0 f1 d0 d1 start place x q is here read =
    let e : start + length (unary x) ≡ start + length (unary (1 + q)) = ap (λ n. start + length (unary n)) is in
    record { here = here ∙ e; far = subst (Read f0 f1 d0 d1 start) e read; to_place = subst (Read f0 f1 d0 d1 start) (sym here) read }
