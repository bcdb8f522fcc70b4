-- The sizes of the parts of a set that stands.
use Rattle.std.proofs.Common.{arith, ◌≡◌, ◌+◌, ◌*◌, ◌/◌, ◌==◌, ◌∙◌, if◌then◌else◌, ℕ, Bool, true, false, List, [], ◌∷◌, length, length-append, map, refl, sym, ap}
use Rattle.std.specs.Int.{div_ceil}
use Rattle.std.specs.List.{flat_map}
use Rattle.std.specs.declared.option.Option.{Option}
use Rattle.std.proofs.lemmas.List.{length-map}
use Rattle.mg_dev.specs.Files.{Files}
use Rattle.mg_defs.specs.CodedText.{TextCode, place_bytes, places, places_part}
use Rattle.mg_defs.specs.Heads as defs
use Rattle.mg_defs.specs.Lexicon.{lexicon}
use Rattle.mg_defs.specs.Lists.{inverted, lists_entries}
use Rattle.mg_defs.specs.Numbers.{eight, four}
use Rattle.mg_defs.specs.Split.{documents}
use Rattle.mg_defs.specs.Stands.{weights_part}
use Rattle.mg_defs.specs.Weights.{weight}
use Rattle.mg_defs.proofs.CodedTextLaws.{places-long}
use Rattle.mg_defs.proofs.FrontParts.{whole_long}
use Rattle.mg_defs.proofs.LexiconLaws.{lexicon_long}
use Rattle.mg_laws.proofs.WholeBytes.{entries_sized}
use Rattle.mg_layout.specs.Stands.{StandsBy}
use Rattle.mg_layout.specs.declared.head.Head.{Head}
use Rattle.mg_layout.specs.HeadAnswers.{fields_of}
use Rattle.mg_text.specs.Places.{place_width}
use Rattle.mg_migrate.specs.Sizes.{HasSizesOf}

-- numbers of one width
all_long : (f : ℕ → List ℕ) (width : ℕ) → ((n : ℕ) → length (f n) ≡ width) → (ns : List ℕ) → length (flat_map f ns) ≡ width * length ns
all_long f width long [] = omega arith
all_long f width long (n ∷ ns) = omega (arith, length-append (f n) (flat_map f ns), long n, all_long f width long ns)

four_long : (n : ℕ) → length (four n) ≡ 4
unfolding four
four_long n = refl

place_long : (version place : ℕ) → length (place_bytes version place) ≡ place_width version
unfolding four eight
place_long version place = either (version == 1)
  where
    either : (narrow : Bool) → length (if narrow then four place else eight place) ≡ (if narrow then 4 else 8)
    either true = refl
    either false = refl

places_long : (version : ℕ) (code : TextCode) (collection : List ℕ) → length (places_part version code collection) ≡ place_width version * (length (documents collection) + 1)
places_long version code collection = all_long (place_bytes version) (place_width version) (place_long version) (places code collection)
    ∙ ap (λ n. place_width version * n) (places-long code collection)

weights_long : (collection : List ℕ) → length (weights_part collection) ≡ 4 * length (documents collection)
weights_long collection = all_long four 4 four_long (map weight (documents collection)) ∙ ap (λ n. 4 * n) (length-map (documents collection) weight)

lex_at_long : (collection : List ℕ) (terms : ℕ) → terms ≡ length (lexicon collection) → 4 * ((length (lexicon collection) + 3) / 4) ≡ 4 * div_ceil terms 4
lex_at_long collection terms is = omega (arith, is)

-- the parts of a set have the sizes that follow from its head
pub stands_sized : (head : Head) (code : TextCode) (files : Option Files) (base collection : List ℕ) → StandsBy head code files base collection → HasSizesOf (fields_of head) files base
stands_sized head code files base collection stands = record {
  text = ap length stands.are.text ∙ sym (ap (λ (h : defs.Head). h.text_bytes) stands.head_is);
  places = ap length stands.are.places ∙ places_long head.version code collection ∙ ap (λ n. place_width head.version * (n + 1)) (sym (ap (λ (h : defs.Head). h.documents) stands.head_is));
  lex_at = ap length stands.are.lex_at ∙ whole_long (lexicon collection) ∙ lex_at_long collection head.terms (ap (λ (h : defs.Head). h.terms) stands.head_is ∙ sym (lexicon_long collection));
  post = ap length stands.are.post ∙ sym (ap (λ (h : defs.Head). h.post_bytes) stands.head_is);
  skip = ap length stands.are.skip ∙ entries_sized (lists_entries (length (documents collection)) (inverted collection)) ∙ ap (λ n. 16 * n) (sym (ap (λ (h : defs.Head). h.skip_count) stands.head_is));
  weights = ap length stands.are.weights ∙ weights_long collection ∙ ap (λ n. 4 * n) (sym (ap (λ (h : defs.Head). h.documents) stands.head_is));
}
