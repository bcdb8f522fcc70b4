-- What stands where a skip entry is read.
use Rattle.std.proofs.Common.{arith, suc, zero, ◌≡◌, ◌+◌, ◌-◌, ◌*◌, ◌/◌, ◌^◌, ◌%◌, ◌≤◌, ◌<◌, ℕ, List, [], ◌∷◌, ◌++◌, length}
use Rattle.std.proofs.Common.{take, drop, Option, Some, None, Result, Ok, Err, refl, sym, ◌∙◌, ap, subst, length-append, IfOk, ◌⊎◌, inl, inr}
use Rattle.std.proofs.lemmas.List.{take-append-drop}
use Rattle.mg_defs.specs.declared.Posting.{Posting}
use Rattle.mg_defs.specs.Bits.{Bits, Begins, FromPlace, Shows, digits}
use Rattle.mg_defs.specs.Lists.{SkipEntry, bits_after, last_doc, Rises, doc_before, bits_before, entry_of, entry_bits}
use Rattle.mg_defs.proofs.PageLaws.{pages_some}
use Rattle.mg_defs.proofs.BitLaws.{length_digits, digits_same}
use Rattle.mg_defs.proofs.FrontLaws.{begins_length, shows_left, shows_right}
use Rattle.mg_defs.proofs.ListLaws.{bits_append, last_above, rises_left, last_within}
use Rattle.mg_bits.specs.Feed.{Feeding, lacks}
use Rattle.mg_bits.specs.Reader.{AnswersBits, DeviceCause}
use Rattle.mg_bits.proofs.CallerLemmas.{lacks_next}
use Rattle.mg_bits.specs.declared.bit_err.BitErr.{BitErr}
use Rattle.mg_bits.specs.declared.bit_err.BitErr.TheVariants as bits
use Rattle.mg_post.specs.declared.refusal.Refusal.{Refusal}
use Rattle.mg_post.specs.declared.refusal.Refusal.TheVariants.{Device, Damaged}
use Rattle.mg_post.specs.Stands.{SkipStands}
use Rattle.mg_post.specs.Finding.{IsCeiling, IsFloor, LacksAnEntry, LacksBits, LacksLast, LacksNumber, LacksRise, ReadTo, SkipReads, TellsBefore, TellsBlock, TellsLast, entry_page, entries_pages}
use Rattle.mg_post.specs.Searching.{HoldsPage}
use Rattle.mg_post.specs.Answers.{IfDamaged, IsNumber, OnDamage, OrDevice, RefusalCause, of_bits}

number_got : (result : Result ℕ BitErr) (place y : ℕ) (s : Bits) → IfOk result (λ v. v < 2 ^ 64) → y < 2 ^ 64 → Begins (digits 64 y) s → AnswersBits result place 64 s → IsNumber result y
number_got (Ok v) place y s below small begins answers =
    let one : take 64 s ≡ digits 64 v = rw length_digits at answers in
    let two : take 64 s ≡ digits 64 y = rw length_digits at begins in
    let m : v % 2 ^ 64 ≡ y % 2 ^ 64 = digits_same 64 v y (sym one ∙ two) in
    omega arith
number_got (Err bits.Device) place y s below small begins answers = tt
number_got (Err (bits.End at)) place y s below small begins answers =
    let short : length s < 64 = answers.0 in
    absurd (omega (arith, begins_length (digits 64 y) s begins, length_digits 64 y))

pub told_number : (told : Option (List ℕ)) (result : Result ℕ BitErr) (place y : ℕ) → IfOk result (λ v. v < 2 ^ 64) → y < 2 ^ 64 → Shows told place (digits 64 y) →
    FromPlace told place (AnswersBits result place 64) → IsNumber result y
told_number None result place y below small shows answers = absurd shows
told_number (Some bytes) result place y below small shows answers = number_got result place y _ below small shows answers

pub refused_number : {T : Type 0} (refusal : BitErr) (place y : ℕ) (fact : T → Type 0) → IsNumber (Err refusal) y → OrDevice {T = T} (Err (of_bits refusal place)) fact
refused_number bits.Device place y fact h = tt
refused_number (bits.End at) place y fact h = h

pub last_shown : (told : Option (List ℕ)) (place at : ℕ) (e : SkipEntry) → place ≡ at → Shows told at (entry_bits e) → Shows told place (digits 64 e.last)
unfolding entry_bits
last_shown told place at e is shows = subst (λ n. Shows told n (digits 64 e.last)) (sym is) (shows_left told at (digits 64 e.last) (digits 64 e.bits) shows)

pub bits_shown : (told : Option (List ℕ)) (place at : ℕ) (e : SkipEntry) → place ≡ at + 64 → Shows told at (entry_bits e) → Shows told place (digits 64 e.bits)
unfolding entry_bits
bits_shown told place at e is shows = shows_right told at place (digits 64 e.last) (digits 64 e.bits) (is ∙ ap (λ n. at + n) (sym (length_digits 64 e.last))) shows

pub bits_fit : (b n : ℕ) (ps : List Posting) → bits_before b n ps ≤ length (bits_after b 0 ps)
unfolding bits_before
bits_fit b n ps =
    let e : bits_after b 0 ps ≡ bits_after b 0 (take n ps) ++ bits_after b (last_doc 0 (take n ps)) (drop n ps) =
    ap (bits_after b 0) (sym (take-append-drop n ps)) ∙ bits_append b 0 (take n ps) (drop n ps) in
    omega (arith, ap length e, length-append (bits_after b 0 (take n ps)) (bits_after b (last_doc 0 (take n ps)) (drop n ps)))

pub rises_front : (all n : ℕ) (ps : List Posting) → Rises all 0 ps → Rises all 0 (take n ps)
rises_front all n ps h = rises_left all 0 (take n ps) (drop n ps) (subst (Rises all 0) (sym (take-append-drop n ps)) h)

pub doc_within : (all n : ℕ) (ps : List Posting) → Rises all 0 ps → doc_before n ps ≤ all
unfolding doc_before
doc_within all n ps h = last_within all 0 (take n ps) (omega arith) (rises_front all n ps h)

-- the last documents of more and more postings rise
takes_rise : (all d m n : ℕ) (ps : List Posting) → Rises all d ps → m < n → m < length ps → last_doc d (take m ps) < last_doc d (take n ps)
unfolding Rises last_doc
takes_rise all d m n [] h lt some = absurd (omega (arith, some))
takes_rise all d m zero (p ∷ ps) h lt some = absurd (omega (arith, lt))
takes_rise all d zero (suc n) (p ∷ ps) h lt some =
    let front : Rises all p.doc (take n ps) = rises_left all p.doc (take n ps) (drop n ps) (subst (Rises all p.doc) (sym (take-append-drop n ps)) h.1) in
    omega (arith, h.0.after, last_above all p.doc (take n ps) front)
takes_rise all d (suc m) (suc n) (p ∷ ps) h lt some = takes_rise all p.doc m n ps h.1 (omega (arith, lt)) (omega (arith, some))

-- the last documents before the blocks of a list rise
pub blocks_rise : (all b : ℕ) (skip : Option (List ℕ)) (skip_at blocks m n : ℕ) (ps : List Posting) → SkipStands all b skip skip_at blocks ps → m < n → m < blocks →
    doc_before (64 * m) ps < doc_before (64 * n) ps
unfolding doc_before
blocks_rise all b skip skip_at blocks m n ps stands lt there =
    takes_rise all 0 (64 * m) (64 * n) ps stands.rises (omega (arith, lt)) (omega (arith, there, stands.most))

-- the answer of a read of a block's last document, where the entries stand
pub last_answer : (all b : ℕ) (told now : Option (List ℕ)) (skip_at blocks k after most : ℕ) (ps : List Posting) (result : Result ℕ Refusal) → now ≡ told →
    SkipStands all b told skip_at blocks ps → k < blocks → after < doc_before (64 * (k + 1)) ps → doc_before (64 * (k + 1)) ps ≤ most →
    ((e : SkipEntry) → after < e.last → e.last ≤ most → Shows now (128 * (skip_at + k)) (entry_bits e) → OrDevice result (λ last. last ≡ e.last)) →
    OrDevice result (λ last. last ≡ doc_before (64 * (k + 1)) ps)
last_answer all b told now skip_at blocks k after most ps result same stands lt low high answers =
    answers (entry_of b k ps) low high (subst (λ t. Shows t (128 * (skip_at + k)) (entry_bits (entry_of b k ps))) (sym same) (stands.entries k lt))

-- the same of a page's last block, where the last document before the page is known
pub page_answer : (all b : ℕ) (told now : Option (List ℕ)) (skip_at blocks low k before : ℕ) (ps : List Posting) (result : Result ℕ Refusal) → now ≡ told →
    SkipStands all b told skip_at blocks ps → low ≤ k → k < blocks → before ≡ doc_before (64 * low) ps →
    ((e : SkipEntry) → before < e.last → e.last ≤ all → Shows now (128 * (skip_at + k)) (entry_bits e) → OrDevice result (λ last. last ≡ e.last)) →
    OrDevice result (λ last. last ≡ doc_before (64 * (k + 1)) ps)
page_answer all b told now skip_at blocks low k before ps result same stands le lt is answers =
    last_answer all b told now skip_at blocks k before all ps result same stands lt
    (omega (arith, is, blocks_rise all b told skip_at blocks low (k + 1) ps stands (omega (arith, le)) (omega (arith, le, lt)))) (doc_within all (64 * (k + 1)) ps stands.rises) answers

-- the same of a block between two of a page, where the last document before the one and that of the other are known
pub middle_answer : (all b : ℕ) (told now : Option (List ℕ)) (skip_at blocks from k to passed end : ℕ) (ps : List Posting) (result : Result ℕ Refusal) → now ≡ told →
    SkipStands all b told skip_at blocks ps → from ≤ k → k < to → to < blocks → passed ≡ doc_before (64 * from) ps → end ≡ doc_before (64 * (to + 1)) ps →
    ((e : SkipEntry) → passed < e.last → e.last ≤ end - 1 → Shows now (128 * (skip_at + k)) (entry_bits e) → OrDevice result (λ last. last ≡ e.last)) →
    OrDevice result (λ last. last ≡ doc_before (64 * (k + 1)) ps)
middle_answer all b told now skip_at blocks from k to passed end ps result same stands le lt there is last answers =
    last_answer all b told now skip_at blocks k passed (end - 1) ps result same stands (omega (arith, lt, there))
    (omega (arith, is, blocks_rise all b told skip_at blocks from (k + 1) ps stands (omega (arith, le)) (omega (arith, le, lt, there))))
    (omega (arith, last, blocks_rise all b told skip_at blocks (k + 1) (to + 1) ps stands (omega (arith, lt)) (omega (arith, lt, there)))) answers

-- and of the bits before it
pub bits_answer : (all b : ℕ) (told now : Option (List ℕ)) (skip_at blocks k : ℕ) (ps : List Posting) (result : Result ℕ Refusal) → now ≡ told → SkipStands all b told skip_at blocks ps → k < blocks →
    ((e : SkipEntry) → e.bits < 2 ^ 64 → Shows now (128 * (skip_at + k)) (entry_bits e) → OrDevice result (λ bits. bits ≡ e.bits)) →
    OrDevice result (λ bits. bits ≡ bits_before b (64 * k) ps)
bits_answer all b told now skip_at blocks k ps result same stands lt answers =
    answers (entry_of b k ps) (omega (arith, bits_fit b (64 * k) ps, stands.small)) (subst (λ t. Shows t (128 * (skip_at + k)) (entry_bits (entry_of b k ps))) (sym same) (stands.entries k lt))

-- ---- pages

pub page_rises : (a b : ℕ) → a ≤ b → entry_page a ≤ entry_page b
page_rises a b le = omega arith

-- a page at or behind the one that is held was read
pub read_next : (first page p count now : ℕ) (held : Option ℕ) → ReadTo first page held count → first ≤ p → page ≤ p → now ≤ count + lacks held p → now + first ≤ p + 1
read_next first page p count now None read lo le step = omega (arith, read, step)
read_next first page p count now (Some h) read lo le step =
    elim (order h p) [
      | inl lt ↦ (let l : lacks (Some h) p ≤ 1 = lacks_most h p in omega (arith, read.0, l, step))
      | inr ge ↦ (
          let e : h ≡ p = omega (arith, read.1, le) in
          let l : lacks (Some h) p ≡ 0 = lacks_next h p (omega (arith, e)) (omega (arith, e)) ∙ omega (arith, e) in
          omega (arith, read.0, l, e, step))
    ]
  where
    order : (a b : ℕ) → (a < b) ⊎ (b ≤ a)
    order a b = grind arith

    lacks_most : (h p : ℕ) → lacks (Some h) p ≤ 1
    lacks_most h p = grind arith

-- the page of an entry was read, whatever the read answered
pub reads_to : (skip_at low k count now : ℕ) (held : Option ℕ) → SkipReads skip_at low held count → low ≤ k →
    now ≤ count + lacks held (entry_page (skip_at + k)) → now + entry_page skip_at ≤ entry_page (skip_at + k) + 1
reads_to skip_at low k count now held reads le step =
    read_next (entry_page skip_at) (entry_page (skip_at + (low - 1))) (entry_page (skip_at + k)) count now held reads.read
    (page_rises skip_at (skip_at + k) (omega arith)) (page_rises (skip_at + (low - 1)) (skip_at + k) (omega arith)) step

-- the pages of all entries are enough
pub within_entries : (skip_at k blocks now : ℕ) → k < blocks → now + entry_page skip_at ≤ entry_page (skip_at + k) + 1 → now ≤ entries_pages skip_at blocks
within_entries skip_at k blocks now lt le =
    let some : 128 * skip_at < 128 * (skip_at + blocks) = omega arith in
    omega (arith, pages_some (128 * skip_at) (128 * (skip_at + blocks)) some)

pub reads_within : (skip_at low blocks count : ℕ) (held : Option ℕ) → SkipReads skip_at low held count → low ≤ blocks → count ≤ entries_pages skip_at blocks
reads_within skip_at low blocks count held reads le =
    elim (order 0 low) [
      | inl some ↦ by_held held reads.read some
      | inr none ↦ omega (arith, reads.none (omega (arith, none)))
    ]
  where
    order : (a b : ℕ) → (a < b) ⊎ (b ≤ a)
    order a b = grind arith

    by_held : (h : Option ℕ) → ReadTo (entry_page skip_at) (entry_page (skip_at + (low - 1))) h count → 0 < low → count ≤ entries_pages skip_at blocks
    by_held None read some = omega (arith, read)
    by_held (Some h) read some = within_entries skip_at (low - 1) blocks count (omega arith) (omega (arith, read.0, read.1))

-- the page of an entry is held, and pages were read up to it
pub reads_now : (skip_at low k count now : ℕ) (held now_held : Option ℕ) → SkipReads skip_at low held count → low ≤ k →
    now ≤ count + lacks held (entry_page (skip_at + k)) → now_held ≡ Some (entry_page (skip_at + k)) →
    SkipReads skip_at (k + 1) now_held now
reads_now skip_at low k count now held now_held reads le step is =
    let e : k + 1 - 1 ≡ k = omega arith in
    let fact : (now + entry_page skip_at ≤ entry_page (skip_at + k) + 1) × (entry_page (skip_at + k) ≤ entry_page (skip_at + k)) = (reads_to skip_at low k count now held reads le step, omega arith) in
    let at : ReadTo (entry_page skip_at) (entry_page (skip_at + k)) (Some (entry_page (skip_at + k))) now = fact in
    record {
      read = subst (λ n. ReadTo (entry_page skip_at) (entry_page (skip_at + n)) now_held now) (sym e) (subst (λ h. ReadTo (entry_page skip_at) (entry_page (skip_at + k)) h now) (sym is) at);
      none = λ z. absurd (omega (arith, z));
    }

-- another entry of the page that is held
pub reads_same : (skip_at k j count now : ℕ) (held now_held : Option ℕ) → SkipReads skip_at (k + 1) held count → held ≡ Some (entry_page (skip_at + k)) →
    now_held ≡ held → now ≤ count → entry_page (skip_at + k) ≡ entry_page (skip_at + j) → SkipReads skip_at (j + 1) now_held now
reads_same skip_at k j count now held now_held reads is same le page =
    let e : k + 1 - 1 ≡ k = omega arith in
    let f : j + 1 - 1 ≡ j = omega arith in
    let at : ReadTo (entry_page skip_at) (entry_page (skip_at + k)) (Some (entry_page (skip_at + k))) count =
    subst (λ h. ReadTo (entry_page skip_at) (entry_page (skip_at + k)) h count) is (subst (λ n. ReadTo (entry_page skip_at) (entry_page (skip_at + n)) held count) e reads.read) in
    let fact : (now + entry_page skip_at ≤ entry_page (skip_at + k) + 1) × (entry_page (skip_at + k) ≤ entry_page (skip_at + j)) = (omega (arith, at.0, le), omega (arith, page)) in
    let there : ReadTo (entry_page skip_at) (entry_page (skip_at + j)) (Some (entry_page (skip_at + k))) now = fact in
    record {
      read = subst (λ n. ReadTo (entry_page skip_at) (entry_page (skip_at + n)) now_held now) (sym f)
          (subst (λ h. ReadTo (entry_page skip_at) (entry_page (skip_at + j)) h now) (sym (same ∙ is)) there);
      none = λ z. absurd (omega (arith, z));
    }

-- the entries between two of one page lie on that page
pub page_between : (skip_at low middle high : ℕ) → entry_page (skip_at + low) ≡ entry_page (skip_at + high) → low ≤ middle → middle ≤ high → entry_page (skip_at + middle) ≡ entry_page (skip_at + high)
page_between skip_at low middle high same le le' = omega (arith, same)

-- nothing is read where the page is held
pub count_same : (count now h p : ℕ) (held : Option ℕ) → held ≡ Some h → p ≡ h → now ≤ count + lacks held p → now ≤ count
count_same count now h p held is same step =
    let there : now ≤ count + lacks (Some h) p = subst (λ x. now ≤ count + lacks x p) is step in
    let l : lacks (Some h) p ≡ 0 = lacks_next h p (omega (arith, same)) (omega (arith, same)) ∙ omega (arith, same) in
    omega (arith, there, l)

-- ---- what the entries tell

pub tells_first : (skip : Option (List ℕ)) (skip_at low known : ℕ) → TellsBefore skip skip_at low known low known
tells_first skip skip_at low known = record { first = λ is. refl; later = λ lt. absurd (omega (arith, lt)) }

-- the block behind one whose entry was read
pub tells_next : (skip : Option (List ℕ)) (skip_at low known block last : ℕ) → low ≤ block → TellsLast skip skip_at block last → TellsBefore skip skip_at low known (block + 1) last
tells_next skip skip_at low known block last le tells =
    let e : block ≡ block + 1 - 1 = omega arith in
    record { first = λ is. absurd (omega (arith, is, le)); later = λ lt. subst (λ k. TellsLast skip skip_at k last) e tells }

-- of a search that went on from a later block
pub before_on : (skip : Option (List ℕ)) (skip_at reached low known before block here : ℕ) → reached ≤ low → low ≤ block →
    TellsBefore skip skip_at reached known low before → TellsBefore skip skip_at low before block here → TellsBefore skip skip_at reached known block here
before_on skip skip_at reached low known before block here from more told tells = record {
  first = λ is. (let e : block ≡ low = omega (arith, is, from, more) in tells.first e ∙ told.first (omega (arith, is, e)));
  later = λ lt. elim (order low block) [
    | inl below ↦ tells.later below
    | inr above ↦ (let e : block ≡ low = omega (arith, above, more) in
        let same : here ≡ before = tells.first e in
        subst (λ k. TellsLast skip skip_at (k - 1) here) (sym e) (subst (TellsLast skip skip_at (low - 1)) (sym same) (told.later (omega (arith, lt, e)))))
  ];
}
  where
    order : (a b : ℕ) → (a < b) ⊎ (b ≤ a)
    order a b = grind arith

pub tells_on : (skip : Option (List ℕ)) (skip_at reached low known before block here last at : ℕ) → reached ≤ low → low ≤ block →
    TellsBefore skip skip_at reached known low before → TellsBlock skip skip_at low before block here last at →
    TellsBlock skip skip_at reached known block here last at
tells_on skip skip_at reached low known before block here last at from more told tells = record {
  before_is = before_on skip skip_at reached low known before block here from more told tells.before_is;
  last_is = tells.last_is;
  at_is = tells.at_is;
}

-- ---- entries that do not stand

pub damaged_weaker : (refusal : Refusal) (one two : ℕ → Type 0) → ((at : ℕ) → one at → two at) → OnDamage refusal one → OnDamage refusal two
damaged_weaker Device one two then h = tt
damaged_weaker (Damaged at) one two then h = then at h

-- of a damage that is told at a place
pub damaged_at : (refusal : Refusal) (place : ℕ) (one : Type 0) (two : ℕ → Type 0) → (one → two place) → OnDamage refusal (λ at. at ≡ place) → OnDamage refusal (λ at. one) → OnDamage refusal two
damaged_at Device place one two then is h = tt
damaged_at (Damaged at) place one two then is h = subst two (sym is) (then h)

pub bits_told : (refusal : BitErr) (place : ℕ) → OnDamage (of_bits refusal place) (λ at. at ≡ place)
bits_told bits.Device place = tt
bits_told (bits.End at) place = refl

pub ends_number : (told : Option (List ℕ)) (refusal : BitErr) (place : ℕ) → FromPlace told place (AnswersBits (Err refusal) place 64) → OnDamage (of_bits refusal place) (λ at. LacksNumber told place)
ends_number told bits.Device place answers = tt
ends_number None (bits.End at) place answers = tt
ends_number (Some bytes) (bits.End at) place answers = answers.0

pub lacks_last : (told : Option (List ℕ)) (refusal : Refusal) (skip_at block after most place : ℕ) → place ≡ 128 * (skip_at + block) →
    OnDamage refusal (λ at. at ≡ place) → OnDamage refusal (λ at. LacksNumber told place) →
    OnDamage refusal (LacksLast told skip_at block after most)
lacks_last told refusal skip_at block after most place is at ends =
    damaged_at refusal place (LacksNumber told place) (LacksLast told skip_at block after most) (λ h. record { at_is = is; missing = inl h }) at ends

pub lacks_bits : (told : Option (List ℕ)) (result : Result ℕ Refusal) (skip_at block place : ℕ) → place ≡ 128 * (skip_at + block) + 64 →
    IfDamaged result (λ at. at ≡ place) → IfDamaged result (λ at. LacksNumber told place) →
    IfDamaged result (LacksBits told skip_at block)
lacks_bits told (Ok value) skip_at block place is at ends = tt
lacks_bits told (Err refusal) skip_at block place is at ends =
    damaged_at refusal place (LacksNumber told place) (LacksBits told skip_at block) (λ h. record { at_is = is; missing = h }) at ends

-- the last document before a block is a floor for those behind it
floor_of : (skip : Option (List ℕ)) (skip_at low known from block after : ℕ) → low ≤ from → from ≤ block → TellsBefore skip skip_at low known from after → IsFloor skip skip_at low known block after
floor_of skip skip_at low known from block after le more tells =
    elim (order low from) [
      | inl below ↦ inr (from - 1, omega (arith, below), omega (arith, below, more), tells.later below)
      | inr above ↦ inl (tells.first (omega (arith, le, above)))
    ]
  where
    order : (a b : ℕ) → (a < b) ⊎ (b ≤ a)
    order a b = grind arith

-- a floor among some blocks is one among more of them
floor_wider : (skip : Option (List ℕ)) (skip_at from known low before block after : ℕ) → from ≤ low → low ≤ block → TellsBefore skip skip_at from known low before →
    IsFloor skip skip_at low before block after → IsFloor skip skip_at from known block after
floor_wider skip skip_at from known low before block after le more tells (inl is) =
    subst (IsFloor skip skip_at from known block) (sym is) (floor_of skip skip_at from known low block before le more tells)
floor_wider skip skip_at from known low before block after le more tells (inr h) = inr (h.0, omega (arith, le, h.1), h.2, h.3)

ceiling_wider : (skip : Option (List ℕ)) (skip_at all high to block most : ℕ) → high ≤ to → IsCeiling skip skip_at all high block most → IsCeiling skip skip_at all to block most
ceiling_wider skip skip_at all high to block most le (inl is) = inl is
ceiling_wider skip skip_at all high to block most le (inr h) = inr (h.0, h.1, omega (arith, le, h.2), h.3)

entry_wider : (skip : Option (List ℕ)) (skip_at all from known low before high to block at : ℕ) → from ≤ low → low ≤ block → high ≤ to → TellsBefore skip skip_at from known low before →
    LacksRise skip skip_at all before low high block at ⊎ LacksBits skip skip_at block at → LacksRise skip skip_at all known from to block at ⊎ LacksBits skip skip_at block at
entry_wider skip skip_at all from known low before high to block at le there most tells (inl h) =
    inl record {
      after = h.after;
      floor = floor_wider skip skip_at from known low before block h.after le there tells h.floor;
      most = h.most;
      ceiling = ceiling_wider skip skip_at all high to block h.most most h.ceiling;
      lacks = h.lacks;
    }
entry_wider skip skip_at all from known low before high to block at le there most tells (inr h) = inr h

-- an entry that does not stand among the blocks of a page
pub lacks_wider : (skip : Option (List ℕ)) (skip_at all from known low before high to at : ℕ) → from ≤ low → high ≤ to → TellsBefore skip skip_at from known low before →
    LacksAnEntry skip skip_at all before low high at → LacksAnEntry skip skip_at all known from to at
lacks_wider skip skip_at all from known low before high to at le most tells h =
    (h.0, omega (arith, le, h.1), omega (arith, most, h.2), entry_wider skip skip_at all from known low before high to h.0 at le h.1 most tells h.3)

-- the entry of a page's last block, where the last document before the page is known
pub lacks_on : (skip : Option (List ℕ)) (skip_at all from known low before block high at : ℕ) → from ≤ low → low ≤ block → block < high → TellsBefore skip skip_at from known low before →
    LacksLast skip skip_at block before all at → LacksAnEntry skip skip_at all known from high at
lacks_on skip skip_at all from known low before block high at le there most tells lacks = (
  block,
  omega (arith, le, there),
  most,
  inl record { after = before; floor = floor_of skip skip_at from known low block before le there tells; most = all; ceiling = inl refl; lacks = lacks },
)

-- the entry of a block between two of a page, where the last document before the one and that of the other are known
pub lacks_within : (skip : Option (List ℕ)) (skip_at all low before from passed block to end high at : ℕ) → low ≤ from → from ≤ block → block < to → to < high → 0 < end →
    TellsBefore skip skip_at low before from passed → TellsLast skip skip_at to end →
    LacksLast skip skip_at block passed (end - 1) at → LacksAnEntry skip skip_at all before low high at
lacks_within skip skip_at all low before from passed block to end high at le there lt most some tells last lacks =
    let e : end ≡ end - 1 + 1 = omega (arith, some) in (
      block,
      omega (arith, le, there),
      omega (arith, lt, most),
      inl record {
        after = passed;
        floor = floor_of skip skip_at low before from block passed le there tells;
        most = end - 1;
        ceiling = inr (to, lt, most, subst (TellsLast skip skip_at to) e last);
        lacks = lacks;
      },
    )

-- ---- the page of a number in an entry

pub page_of_entry : (n place : ℕ) → place ≡ 128 * n → place / 32768 ≡ entry_page n
page_of_entry n place is = omega (arith, is)

pub page_of_bits : (n place : ℕ) → place ≡ 128 * n + 64 → place / 32768 ≡ entry_page n
page_of_bits n place is = omega (arith, is)

pub holds_same : {T : Type 0} (p q : ℕ) (r : Result T Refusal) (old new : Feeding) → p ≡ q → HoldsPage p r old new → HoldsPage q r old new
holds_same p q r old new is h = subst (λ n. HoldsPage n r old new) is h

pub holds_ok : {T V : Type 0} (p q : ℕ) (x : T) (y : V) (old new : Feeding) → p ≡ q → HoldsPage p (Ok x) old new → HoldsPage q (Ok y) old new
holds_ok p q x y old new is h = record { count = subst (λ n. new.count ≤ old.count + lacks old.held n) is h.count; held = h.held ∙ ap Some is }

pub holds_err : {T V : Type 0} (p q : ℕ) (r : Result T Refusal) (refusal : Refusal) (old new : Feeding) → p ≡ q → HoldsPage p r old new → HoldsPage {T = V} q (Err refusal) old new
holds_err p q r refusal old new is h = record { count = subst (λ n. new.count ≤ old.count + lacks old.held n) is h.count; held = tt }

-- ---- causes

-- a device's failure in a later call has a cause
pub any_cause : (T V : Type 0) (refusal : Refusal) (a b c : ℕ) → a ≤ b → RefusalCause {T = T} (Err refusal) b c → RefusalCause {T = V} (Err refusal) a c
any_cause T V Device a b c le rose = omega (arith, le, rose)
any_cause T V (Damaged at) a b c le rose = tt

pub bits_cause : (T V : Type 0) (refusal : BitErr) (place before now : ℕ) → DeviceCause {T = T} (Err refusal) before now → RefusalCause {T = V} (Err (of_bits refusal place)) before now
bits_cause T V bits.Device place before now rose = rose
bits_cause T V (bits.End at) place before now rose = tt

pub reads_at : (skip_at low blocks : ℕ) (held : Option ℕ) (count : ℕ) → low ≡ blocks → SkipReads skip_at low held count → SkipReads skip_at blocks held count
reads_at skip_at low blocks held count is reads = subst (λ n. SkipReads skip_at n held count) is reads
