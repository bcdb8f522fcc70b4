use Rattle.std.proofs.Common.{ap, sym, ◌∙◌}
use Rattle.mg_mem.specs.declared.shelf.MemFile.{MemFile}
use Rattle.mg_mem.specs.Shelf.{files_of}
use Rattle.mg_mem.specs.ShelfLaws.{files_of-set_at, files_of-new}
use Rattle.mg_mem.proofs.shelf.Shelf.set.Goals as goal

pub returns-in-Some-clause-ok : goal.returns-in-Some-clause-ok
returns-in-Some-clause-ok c =
    files_of-set_at c.args.self.now.files.items _ c.in-Some.i c.index_mut.result.now _ (sym c.find.ensures ∙ c.in-Some.is)
    (ap (λ (e : MemFile). e.name.items) c.index_mut.ensures.value)

pub returns-in_ok-push-in-None-clause-ok : goal.returns-in_ok-push-in-None-clause-ok
returns-in_ok-push-in-None-clause-ok c =
    ap files_of c.in_ok-push-in-None.ensures.items
    ∙ files_of-new c.args.self.now.files.items _ _ (sym c.find.ensures ∙ c.in-None.is) c.in_ok-name-in-None.ensures
