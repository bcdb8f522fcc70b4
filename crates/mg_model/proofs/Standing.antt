-- Where parts stand, they have no damage, and are those of one code.
use Rattle.std.proofs.Common.{◌≡◌, ◌≢◌, ℕ, zero, suc, ◌+◌, ◌-◌, ◌*◌, ◌%◌, ◌<◌, ◌≤◌, ◌==◌, Bool, true, false, cond, List, [], ◌∷◌, ◌++◌, length, drop, slice_index, sym, ap, subst, ◌∙◌, arith, inl, inr, Ok, Err, Result, length-append, append-nil, zero-add, Option}
use Rattle.std.proofs.lemmas.Bool.Decides.{nat_tests}
use Rattle.mg_dev.specs.declared.bad.Bad as declared
use Rattle.mg_dev.specs.declared.part.Part.{Part}
use Rattle.mg_dev.specs.declared.part.Part.TheVariants as part
use Rattle.mg_dev.specs.declared.part_err.PartErr.{PartErr}
use Rattle.mg_dev.specs.declared.part_err.PartErr.TheVariants.{Device, Memory, Bad}
use Rattle.mg_dev.specs.Files.{Files, bytes_at}
use Rattle.mg_dev.specs.Names.{full_name}
use Rattle.mg_dev.specs.Laws.{same_part_of_name}
use Rattle.mg_canon.specs.Refusals.{IsFirstBad, IsUnfilled, IsLength, most_bits}
use Rattle.mg_defs.specs.Canon.{AreGood, AreCodeLengths}
use Rattle.mg_defs.specs.CodedText.{StreamCode, TextCode, piece_entries, pieces_part}
use Rattle.mg_defs.specs.Front.{Entry, IsEntry, AreEntries, entry_bytes, front, front_from, last_string, shared}
use Rattle.mg_defs.proofs.FrontParts.{one_front, prefix_of}
use Rattle.mg_defs.proofs.EntryLaws.{entries_rest}
use Rattle.mg_defs.specs.Means.{IsStreamCode}
use Rattle.mg_model.specs.Models.{PartsStand}
use Rattle.mg_model.specs.Damage.{StandFirst, IsBroken, HasMore, IsPart, IsWholePart, IsDamage, AnswersLoad, AnswersStanding, AnswersStream}
use Rattle.mg_model.proofs.Entries.{entries-long}
use Rattle.mg_defs.proofs.StandCodes.{entries-are, same-lists}

-- ---- one code

pub one-part : (count : ℕ) (bytes : List ℕ) (a b : StreamCode) → IsPart count bytes a → IsPart count bytes b → a ≡ b
one-part count bytes a b is other =
    let same = same-lists a.pieces b.pieces a.lengths b.lengths is.each other.each (one_front 1 bytes (piece_entries a) (piece_entries b) is.front other.front) in
    λ i. record { pieces = same.0 i; lengths = same.1 i }

pub part-of : (count : ℕ) (bytes : List ℕ) (it : StreamCode) → IsStreamCode it → bytes ≡ pieces_part it → count ≡ length it.pieces → IsPart count bytes it
part-of count bytes it is same counted = record { front = record { entries = entries-are it is; bytes_are = same }; count_is = sym counted; each = is.each }

-- ---- no damage

two-each : (i : ℕ) (before : List ℕ) (es : List Entry) → AreEntries 1 i before es → 2 * length es ≤ length (front_from i before es)
unfolding front_from entry_bytes
two-each i before [] h = omega arith
two-each i before (e ∷ es) h = by (i % 4 == 0) (two-each (i + 1) e.string es h.1)
  where
    by : (b : Bool) → 2 * length es ≤ length (front_from (i + 1) e.string es) →
        2 * suc (length es) ≤ length (cond b (length e.string ∷ (e.string ++ e.field)) (shared before e.string ∷ (length e.string - shared before e.string) ∷
        (drop (shared before e.string) e.string ++ e.field)) ++ front_from (i + 1) e.string es)
    by true more = omega (arith, more, length-append (length e.string ∷ (e.string ++ e.field)) (front_from (i + 1) e.string es), length-append e.string e.field, h.0.field)
    by false more = omega (
      arith,
      more,
      length-append (shared before e.string ∷ (length e.string - shared before e.string) ∷
          (drop (shared before e.string) e.string ++ e.field)) (front_from (i + 1) e.string es),
    )

pub room-of : (count : ℕ) (bytes : List ℕ) (it : StreamCode) → IsPart count bytes it → 2 * count ≤ length bytes
room-of count bytes it is = omega (arith, two-each 0 [] (piece_entries it) is.front.entries, ap length is.front.bytes_are, entries-long it.pieces it.lengths is.each, is.count_is)

module _ (count : ℕ) (bytes : List ℕ) (it : StreamCode) (is : IsPart count bytes it) where
  longer : (es : List Entry) → StandFirst bytes es → (rest : List Entry) × (piece_entries it ≡ es ++ rest) × (drop (length (front es)) bytes ≡ front_from (0 + length es) (last_string [] es) rest)
  longer es first = prefix_of 1 0 [] es (piece_entries it) (drop (length (front es)) bytes) first.entries is.front.entries (sym is.front.bytes_are ∙ first.rest)

  all-long : length (piece_entries it) ≡ count
  all-long = entries-long it.pieces it.lengths is.each ∙ is.count_is

  not-broken : (at : Part) (bad : declared.Bad) → IsBroken at count bytes bad → ⊥
  unfolding front_from
  not-broken at bad d = by (longer d.es d.first).0 (longer d.es d.first).1 (longer d.es d.first).2
    where
      by : (rest : List Entry) → piece_entries it ≡ d.es ++ rest → drop (length (front d.es)) bytes ≡ front_from (0 + length d.es) (last_string [] d.es) rest → ⊥
      by [] e f = let n : length (piece_entries it) ≡ length d.es = ap length e ∙ ap length (append-nil d.es) in omega (arith, n, all-long, d.fewer)
      by (x ∷ rest) e f =
          let one : IsEntry 1 (0 + length d.es) (last_string [] d.es) x = (entries_rest 1 0 [] d.es (x ∷ rest) (subst (AreEntries 1 0 []) e is.front.entries)).0 in
          d.none x (front_from (0 + length d.es + 1) x.string rest) (subst (λ n. IsEntry 1 n (last_string [] d.es) x) (zero-add (length d.es)) one)
          (f ∙ ap (λ n. entry_bytes n (last_string [] d.es) x ++ front_from (0 + length d.es + 1) x.string rest) (zero-add (length d.es)))

  no-more : (at : Part) (bad : declared.Bad) → HasMore at count bytes bad → ⊥
  unfolding front_from
  no-more at bad d = by (longer d.es d.first).0 (longer d.es d.first).1 (longer d.es d.first).2
    where
      by : (rest : List Entry) → piece_entries it ≡ d.es ++ rest → drop (length (front d.es)) bytes ≡ front_from (0 + length d.es) (last_string [] d.es) rest → ⊥
      by [] e f = let none : length (drop (length (front d.es)) bytes) ≡ 0 = ap length f in omega (arith, d.more, none)
      by (x ∷ rest) e f = omega (arith, ap length e, length-append d.es (x ∷ rest), all-long, d.all)

within-at : (ls : List ℕ) (s : ℕ) → AreCodeLengths ls → s < length ls → (1 ≤ slice_index ls s) × (slice_index ls s ≤ 48)
within-at [] s h l = absurd (omega arith)
within-at (b ∷ ls) zero h l = h.0
within-at (b ∷ ls) (suc s) h l = within-at ls s h.1 (omega arith)

good-lengths : (ls : List ℕ) (s bits : ℕ) → AreGood ls → IsFirstBad ls s bits → ⊥
good-lengths [] s bits good bad = absurd (omega (arith, bad.there))
good-lengths (l ∷ []) s bits good bad =
    let first : s ≡ 0 = omega (arith, bad.there) in
    let one : bits ≡ 1 = sym bad.length_is ∙ ap (slice_index (l ∷ [])) first ∙ good in
    bad.bad (subst (IsLength 1) (sym one) (omega arith, omega arith))
good-lengths (l ∷ m ∷ ls) s bits good bad =
    let here = within-at (l ∷ m ∷ ls) s good.0 bad.there in
    let many : (length (l ∷ m ∷ ls) == 1) ≡ false = grind (arith, nat_tests) in
    let most : most_bits (length (l ∷ m ∷ ls)) ≡ 48 = ap (λ b. cond b 1 48) many in
    bad.bad (omega (arith, here.0, bad.length_is), omega (arith, here.1, bad.length_is, most))

good-sum : (ls : List ℕ) (sum : ℕ) → AreGood ls → IsUnfilled ls sum → ⊥
good-sum [] sum good bad = absurd (omega (arith, bad.many))
good-sum (l ∷ []) sum good bad = absurd (omega (arith, bad.many))
good-sum (l ∷ m ∷ ls) sum good bad = bad.other (bad.sum_is ∙ good.1)

pub no-damage : (at : Part) (count : ℕ) (bytes : List ℕ) (it : StreamCode) (bad : declared.Bad) → IsPart count bytes it → AreGood it.lengths → IsDamage at count bytes bad → ⊥
no-damage at count bytes it bad is good (inl d) = omega (arith, d.short, room-of count bytes it is)
no-damage at count bytes it bad is good (inr (room, inl (inl d))) = not-broken count bytes it is at bad d
no-damage at count bytes it bad is good (inr (room, inl (inr d))) = no-more count bytes it is at bad d
no-damage at count bytes it bad is good (inr (room, inr (inl d))) = good-lengths it.lengths d.symbol d.bits good
    (subst (λ (x : StreamCode). IsFirstBad x.lengths d.symbol d.bits) (one-part count bytes d.code it d.is is) d.first)
no-damage at count bytes it bad is good (inr (room, inr (inr d))) = good-sum it.lengths d.sum good
    (subst (λ (x : StreamCode). IsUnfilled x.lengths d.sum) (one-part count bytes d.code it d.is is) d.unfilled)

pub standing : (words others : ℕ) (files : Option Files) (base : List ℕ) (it : TextCode) (r : Result TextCode PartErr) → PartsStand files base it words others →
    AnswersLoad words others (bytes_at files (full_name base part.Words)) (bytes_at files (full_name base part.Nonwords)) r → AnswersStanding r it
standing words others files base it (Ok found) stand h =
    let w = one-part words (bytes_at files (full_name base part.Words)) found.words it.words h.0.part (part-of words _ it.words stand.model.words stand.hold.words stand.word_count) in
    let o = one-part others (bytes_at files (full_name base part.Nonwords)) found.others it.others h.1.part (part-of others _ it.others stand.model.others stand.hold.others stand.other_count) in
    λ i. record { words = w i; others = o i }
standing words others files base it (Err Device) stand h = tt
standing words others files base it (Err Memory) stand h = tt
standing words others files base it (Err (Bad bad)) stand (inl d) = no-damage part.Words words (bytes_at files (full_name base part.Words)) it.words bad
    (part-of words _ it.words stand.model.words stand.hold.words stand.word_count) stand.model.words.good d
standing words others files base it (Err (Bad bad)) stand (inr (whole, d)) = no-damage part.Nonwords others (bytes_at files (full_name base part.Nonwords))
    it.others bad (part-of others _ it.others stand.model.others stand.hold.others stand.other_count) stand.model.others.good d

-- the damage of the second part, where the first has none
pub second-damage : (words others : ℕ) (word_bytes other_bytes : List ℕ) (it : StreamCode) (refusal : PartErr) → IsWholePart words word_bytes it →
    AnswersStream part.Nonwords others other_bytes (Err refusal) → AnswersLoad words others word_bytes other_bytes (Err refusal)
second-damage words others word_bytes other_bytes it Device first h = tt
second-damage words others word_bytes other_bytes it Memory first h = first.room
second-damage words others word_bytes other_bytes it (Bad bad) first h = inr ((it, first), h)

pub names-apart : (base : List ℕ) → full_name base part.Words ≢ full_name base part.Nonwords
names-apart base e = words-are-not (same_part_of_name base part.Words part.Nonwords e)
  where
    words-are-not : part.Words ≡ part.Nonwords → ⊥
    words-are-not same = cc
