use Rattle.mg_make.proofs.ReadySteps.{TextLaws, handed_put, parts_behind, parts_refused}
use Rattle.mg_make.proofs.writer.SetWriter.write_parts.Goals as goal

pub returns-in-Err : goal.returns-in-Err
returns-in-Err g c =
    let put = rw (← c.self.view_is) at c.requires.put.1 in
    rw (← c.self.view_is) (parts_refused c.requires.put.0 put c.requires.put.2 c.in-Err.ensures.step c.in-Err.ensures.refused c.in-Err.ensures.tells)

pub write_rest-requires-clause-handed : goal.write_rest-requires-clause-handed
write_rest-requires-clause-handed g c =
    let put = rw (← c.self.view_is) at c.requires.put.1 in
    (c.requires.put.0, (g.S.Store.files c.args.store.now), handed_put c.requires.put.0 put c.requires.put.2 c.in-Ok.ensures.handed c.requires.put.0 put, put.size_is)

pub returns : goal.returns
returns g c =
    let put = rw (← c.self.view_is) at c.requires.put.1 in
    let laws : TextLaws = record { text = c.text_has_its_documents.ensures.text; holds = c.text_has_its_documents.ensures.holds; bytes = c.text_has_its_documents.ensures.bytes } in
    rw (← c.self.view_is) (parts_behind laws c.requires.put.0 put c.requires.put.2 c.in-Ok.ensures.step c.in-Ok.ensures.handed c.write_rest.ensures)
