use Rattle.std.proofs.Common.{ap, sym, ◌∙◌, Some}
use Rattle.mg_mem.specs.declared.shelf.MemFile.{MemFile}
use Rattle.mg_mem.specs.ShelfLaws.{files_of-at, files_of-missing}
use Rattle.mg_mem.proofs.shelf.Shelf.bytes.Goals as goal

pub returns-in-Some : goal.returns-in-Some
returns-in-Some c =
    ap Some (c.as_slice.ensures.value ∙ ap (λ (e : MemFile). e.bytes.items) c.index.ensures)
    ∙ sym (files_of-at _ _ c.in-Some.i c.index.result.now (sym c.find.ensures ∙ c.in-Some.is))

pub returns-in-None : goal.returns-in-None
returns-in-None c = sym (files_of-missing c.args.self.now.files.items _ (sym c.find.ensures ∙ c.in-None.is))
