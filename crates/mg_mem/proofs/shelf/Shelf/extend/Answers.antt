use Rattle.std.proofs.Common.{rules, ◌++◌, ap, sym, ◌∙◌, OnErr, Ok, Err}
use Rattle.std.specs.declared.result.Result.{Result}
use Rattle.mg_mem.specs.declared.shelf.MemFile.{MemFile}
use Rattle.mg_mem.specs.ShelfLaws.{files_of-kept, grown-at, grown-missing}
use Rattle.mg_mem.proofs.shelf.Shelf.extend.Goals as goal

on_err : {T E : Type 0} (r : Result T E) (P : Type 0) → P → OnErr r P
on_err (Ok x) P p = tt
on_err (Err e) P p = p

pub returns-in_err-extend_from_slice-in-Some-clause-err : goal.returns-in_err-extend_from_slice-in-Some-clause-err
returns-in_err-extend_from_slice-in-Some-clause-err c = on_err _ _
    (files_of-kept c.args.self.now.files.items _ c.in-Some.i c.index_mut.result.now _ (sym c.find.ensures ∙ c.in-Some.is)
    (ap (λ (e : MemFile). e.name.items) c.index_mut.ensures.value)
    (c.in_err-extend_from_slice-in-Some.ensures.items ∙ ap (λ (e : MemFile). e.bytes.items) c.index_mut.ensures.value))

pub returns-in_ok-extend_from_slice-in-Some-clause-ok : goal.returns-in_ok-extend_from_slice-in-Some-clause-ok
returns-in_ok-extend_from_slice-in-Some-clause-ok c =
    grown-at c.args.self.now.files.items _ _ c.in-Some.i c.index_mut.result.now _ (sym c.find.ensures ∙ c.in-Some.is)
    (ap (λ (e : MemFile). e.name.items) c.index_mut.ensures.value)
    (c.in_ok-extend_from_slice-in-Some.ensures.items ∙ ap (λ (e : MemFile). e.bytes.items ++ c.args.piece.now) c.index_mut.ensures.value)

pub returns-in_ok-set-in-None-clause-ok : goal.returns-in_ok-set-in-None-clause-ok
returns-in_ok-set-in-None-clause-ok c = grown-missing c.args.self.now.files.items _ _ _ (sym c.find.ensures ∙ c.in-None.is) (search rules)
