-- No more is written than the head tells.
use Rattle.std.proofs.Common.{arith, ◌≡◌, ℕ, List, [], Option, refl, sym, ◌∙◌, ap}
use Rattle.mg_dev.specs.Files.{Files, bytes_at}
use Rattle.mg_dev.specs.Moments.{SinkAt}
use Rattle.mg_dev.specs.Names.{full_name}
use Rattle.mg_dev.specs.StreamLaws.{appended-nil}
use Rattle.mg_dev.specs.declared.part.Part.TheVariants as part
use Rattle.mg_defs.specs.Heads as defs
use Rattle.mg_defs.specs.Heads.{IsHead}
use Rattle.mg_defs.proofs.HeadLaws.{one_head}
use Rattle.mg_layout.specs.HeadAnswers.{fields_of}
use Rattle.mg_layout.specs.declared.head.Head.{Head}
use Rattle.mg_text.specs.Decoding.{AddedOf}
use Rattle.mg_decode.specs.Decoded.{WithinHead}

-- nothing was written
pub nothing_within : (files : Option Files) (base : List ℕ) (written : Option (List ℕ)) → WithinHead files base written written
nothing_within files base written = record {
  told = λ head is. record { bytes = []; told = sym (appended-nil written); few = omega arith };
  none = λ other. refl;
}

-- this head was loaded, and no more was written than it tells
pub head_within : (files : Option Files) (base : List ℕ) (head : Head) (out now : SinkAt) → IsHead 1 2 (bytes_at files (full_name base part.Head)) (fields_of head) →
    AddedOf head.collection 0 out now → WithinHead files base out.written now.written
head_within files base head out now loaded added = record {
  told = λ other is.
      let same : other ≡ fields_of head = one_head other (fields_of head) is.within loaded.within (sym is.bytes_are ∙ loaded.bytes_are) in
      record { bytes = added.bytes; told = added.told; few = omega (arith, added.few, ap (λ (h : defs.Head). h.collection) same) };
  none = λ other. absurd (other (fields_of head) loaded);
}
