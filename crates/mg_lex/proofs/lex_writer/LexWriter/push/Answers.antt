use Rattle.std.proofs.Common.{refl, ◌∙◌, ap, subst, ◌++◌, ◌∷◌, [], length}
use Rattle.mg_defs.proofs.LexiconLaws.{info_long}
use Rattle.mg_front.specs.Fronting.{Took}
use Rattle.mg_layout.specs.Infos.{info_of}
use Rattle.mg_lex.specs.Terms.{entries_of}
use Rattle.mg_lex.proofs.LexLaws.{entry_is, on_three, took_more, writes_lexicon}
use Rattle.mg_lex.proofs.lex_writer.LexWriter.push.Goals as goal

pub push-requires-clause-took : goal.push-requires-clause-took
push-requires-clause-took g c =
    let took = rw (← c.self.view_is) at c.requires.took in
    (entries_of took.0, took.1.took)

pub push-requires-clause-entry : goal.push-requires-clause-entry
push-requires-clause-entry g c =
    let took = rw (← c.self.view_is) at c.requires.took in
    let above = rw (← c.self.view_is) at c.requires.above in
    entry_is _ _ _ c.args.term.now c.field.result took.1 c.requires.short above (ap length c.field.ensures ∙ info_long (info_of c.args.info.now))

pub returns : goal.returns
returns g c =
    let took = rw (← c.self.view_is) at c.requires.took in
    let e = c.push.ensures in
    rw (← c.self.view_is)
    (record {
      took = on_three c.push.result e.took e.name e.places (λ more name places ts took. took_more _ _ _ _ ts (record { string = c.args.term.now; info = info_of c.args.info.now }) took
          (λ before. subst (λ f. Took c.push.new.self (g.S.Store.files c.push.new.store) (entries_of ts ++ record { string = c.args.term.now; field = f } ∷ []))
          c.field.ensures (more (entries_of ts) before))
          refl e.width name places);
      count = e.count;
      last = e.last;
      base = refl;
      writes = writes_lexicon took.1 e.step;
    })
