-- Why a line is not answered.
use Rattle.mg_dev.specs.declared.part_err.PartErr.TheVariants as part
use Rattle.mg_dev.specs.declared.show_err.ShowErr.{ShowErr}
use Rattle.mg_dev.specs.declared.show_err.ShowErr.TheVariants as show

-- the allocator's want of memory is a part's, the output's own is the other, and no part is read
abbrev pub AnswerStops : Type 0 → Type 0 → ShowErr → Type 0
AnswerStops output_rose output_lacked (show.Part part.Device) = ⊥
AnswerStops output_rose output_lacked (show.Part part.Memory) = Unit {0}
AnswerStops output_rose output_lacked (show.Part (part.Bad bad)) = ⊥
AnswerStops output_rose output_lacked show.Write = output_rose
AnswerStops output_rose output_lacked show.Memory = output_lacked
