use Rattle.std.proofs.Common.{[], ◌≡◌, ◌∙◌, ℕ, List, ap, sym, IsSome}
use Rattle.mg_dev.specs.Files.{bytes_at}
use Rattle.mg_dev.specs.Names.{full_name}
use Rattle.mg_dev.specs.declared.part.Part.TheVariants as part
use Rattle.mg_check_parts.specs.Decoding.{text_in}
use Rattle.mg_check_parts.proofs.CodeLaws.{text-closed}
use Rattle.mg_check_parts.proofs.coded_doc.close_text.Goals as goal

pub end_doc-requires-clause-took : goal.end_doc-requires-clause-took
end_doc-requires-clause-took g c = ([], c.requires.took.0, c.requires.took.1)

pub finish-requires-clause-took : goal.finish-requires-clause-took
finish-requires-clause-took g c = (_, c.in_ok-end_doc.ensures.took [] _ c.requires.took.1)

pub returns : goal.returns
returns g c = record {
  closed = λ bits on told.
      let whole = c.in_ok-end_doc.ensures.took [] bits on in
      let told_too : IsSome (g.S.Store.files c.end_doc.new.store) = c.end_doc.ensures.told ∙ told in
      let base : c.end_doc.new.self.base ≡ [] = c.end_doc.ensures.base ∙ c.requires.base in
      text-closed c.args.writer.now c.end_doc.new.self bits (g.S.Store.files c.end_doc.new.store) (text_in (g.S.Store.files c.finish.new.store)) whole
      c.in_ok-end_doc.ensures.numbers
      (ap (λ (base : List ℕ). bytes_at (g.S.Store.files c.finish.new.store) (full_name base part.Text)) (sym base) ∙ c.in_ok-finish.ensures.bytes _ whole told_too);
}
