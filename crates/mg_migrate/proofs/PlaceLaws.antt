-- The places of a set of version 1.
use Rattle.std.proofs.Common.{arith, ◌≡◌, ◌<◌, ◌^◌, ◌+◌, ◌==◌, ◌∙◌, if◌then◌else◌, ℕ, List, length, sum_by, sym, ap, subst, Option}
use Rattle.std.specs.List.{All}
use Rattle.std.proofs.Math.Seq.{take-length}
use Rattle.std.proofs.lemmas.List.Elements.{All-from_get_or}
use Rattle.std.proofs.lemmas.List.Sums.{sum_by-take-le}
use Rattle.mg_dev.specs.Files.{Files, bytes_at}
use Rattle.mg_dev.specs.Names.{full_name}
use Rattle.mg_dev.specs.declared.part.Part.TheVariants.{Places}
use Rattle.mg_defs.specs.CodedText.{TextCode, coded_size, places, places_part, text_part}
use Rattle.mg_defs.specs.Heads as defs
use Rattle.mg_defs.specs.Heads.{IsWithin}
use Rattle.mg_defs.specs.Split.{documents}
use Rattle.mg_defs.proofs.CodedTextLaws.{places-at, places-long, text-long}
use Rattle.mg_layout.specs.HeadAnswers.{fields_of}
use Rattle.mg_layout.specs.Stands.{StandsBy}
use Rattle.mg_layout.specs.declared.head.Head.{Head}
use Rattle.mg_migrate.specs.Copying.{AreNarrow}

-- a text is as long as its documents
text_is : (code : TextCode) (collection : List ℕ) → length (text_part code collection) ≡ sum_by (coded_size code) (documents collection)
text_is code collection = text-long code collection ∙ ap (sum_by (coded_size code)) (take-length (documents collection))

-- the places of a text are not above its length
small_places : (most : ℕ) (code : TextCode) (collection : List ℕ) → length (text_part code collection) < most → All (λ place. place < most) (places code collection)
small_places most code collection short = All-from_get_or (λ place. place < most) (places code collection) 0
    (λ i inside. omega (
      arith,
      places-at code collection i (omega (arith, inside, places-long code collection)),
      sum_by-take-le (coded_size code) (documents collection) i,
      text_is code collection,
      short,
    ))

-- the text of version 1 is short
short_text : (head : Head) → head.version ≡ 1 → IsWithin (fields_of head) → (fields_of head).text_bytes < 2 ^ 32
short_text head is within = subst (λ (v : ℕ). (fields_of head).text_bytes < (if v == 1 then 2 ^ 32 else 2 ^ 64)) is within.text_bytes

pub narrow_places : (head : Head) (code : TextCode) (collection base : List ℕ) (files : Option Files) → head.version ≡ 1 → IsWithin (fields_of head) →
    StandsBy head code files base collection → AreNarrow (places code collection) (bytes_at files (full_name base Places)) (head.documents + 1)
narrow_places head code collection base files is within stands = record {
  bytes_are = stands.are.places ∙ ap (λ v. places_part v code collection) is;
  small = small_places (2 ^ 32) code collection (subst (λ (h : defs.Head). h.text_bytes < 2 ^ 32) stands.head_is (short_text head is within));
  count_is = places-long code collection ∙ ap (λ n. n + 1) (sym (ap (λ (h : defs.Head). h.documents) stands.head_is));
}
