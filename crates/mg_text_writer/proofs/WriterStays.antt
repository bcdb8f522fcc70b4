-- A writer whose files stay holds what it held.
use Rattle.std.proofs.Common.{◌≡◌, List, [], ◌++◌, Option, sym, ◌∙◌, ap, is_some, unwrap_or}
use Rattle.mg_dev.specs.Files.{Files, file_at}
use Rattle.mg_dev.specs.Names.{full_name}
use Rattle.mg_dev.specs.declared.part.Part.TheVariants.{Text, Places}
use Rattle.mg_defs.specs.Bits.{Bits}
use Rattle.mg_bits.proofs.CallerLemmas.{bits_stay, holds_stay}
use Rattle.mg_text_writer.specs.Writing.{IsOnText, TextWriting}

pub writer_stays : (w : TextWriting) (f g : Option Files) (docs : List Bits) (bits : Bits) → is_some g ≡ is_some f →
    file_at g (full_name w.base Text) ≡ file_at f (full_name w.base Text) → file_at g (full_name w.base Places) ≡ file_at f (full_name w.base Places) →
    IsOnText w f docs bits → IsOnText w g docs bits
writer_stays w f g docs bits told text places is =
    let here : file_at g w.text.name ≡ file_at f w.text.name = ap (λ n. file_at g n) is.text_name ∙ text ∙ ap (λ n. file_at f n) (sym is.text_name) in
    let there : file_at g w.places.name ≡ file_at f w.places.name = ap (λ n. file_at g n) is.places_name ∙ places ∙ ap (λ n. file_at f n) (sym is.places_name) in
    record {
      text_name = is.text_name;
      places_name = is.places_name;
      holds = holds_stay w.text f g told here is.holds;
      text = λ t. bits_stay w.text f g here ∙ is.text (sym told ∙ t);
      places = λ t. ap (λ o. unwrap_or o [] ++ w.places.buffered) there ∙ is.places (sym told ∙ t);
      place = is.place;
      count = is.count;
      none = is.none;
      nothing_left = is.nothing_left;
      few_docs = is.few_docs;
      few_pairs = is.few_pairs;
      bound = is.bound;
    }
