-- Texts of sets that stand.
use Rattle.std.proofs.Common.{◌≡◌, ℕ, List, Option, sym, ◌∙◌, ap, length}
use Rattle.mg_dev.specs.Files.{Files}
use Rattle.mg_defs.specs.Bits.{bits_of}
use Rattle.mg_defs.specs.CodedText.{TextCode, text_part}
use Rattle.mg_defs.specs.Heads as defs
use Rattle.mg_defs.proofs.StandDocs.{code-model, most}
use Rattle.mg_layout.specs.Stands.{StandsBy}
use Rattle.mg_layout.specs.declared.head.Head.{Head}
use Rattle.mg_text.specs.Reading.{IsText}
use Rattle.mg_text.proofs.TextSizes.{text_small}

pub set_is_text : (base : List ℕ) (files : Option Files) (head : Head) (code : TextCode) (collection : List ℕ) → StandsBy head code files base collection → IsText base files head code collection
set_is_text base files head code collection is =
    let are = is.are in
    let size : head.text_bytes ≡ length (text_part code collection) = ap (λ (h : defs.Head). h.text_bytes) is.head_is in
    record {
      models = record {
        told = is.told;
        hold = record { words = are.words; others = are.nonwords };
        model = code-model head.version collection code are.limits are.code_is;
        word_count = ap (λ (h : defs.Head). h.words) is.head_is ∙ ap length (sym are.code_is.0.pieces);
        other_count = ap (λ (h : defs.Head). h.others) is.head_is ∙ ap length (sym are.code_is.1.pieces);
      };
      code_is = are.code_is;
      text_is = ap bits_of are.text;
      places_are = are.places;
      size_is = size;
      documents_are = ap (λ (h : defs.Head). h.documents) is.head_is;
      few = (most head.version collection are.limits).0;
      small = rw size (text_small head.version code collection are.code_is are.limits);
    }
