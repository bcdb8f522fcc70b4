use Rattle.std.proofs.Common.{arith, true, ◌∙◌, refl, sym, subst}
use Rattle.mg_bits.specs.Pages.{Fits}
use Rattle.mg_defs.specs.Lists.{block_count}
use Rattle.mg_post.proofs.CursorLaws.{same_file}
use Rattle.mg_post.proofs.SoundLaws.{all_held, nothing_held}
use Rattle.mg_post.proofs.StepLaws.{may_go, step_entered, step_missing, step_past, step_unfound}
use Rattle.mg_post.proofs.cursor.Cursor.enter_next.Goals as goal

pub find_block-requires-clause-feed : goal.find_block-requires-clause-feed
find_block-requires-clause-feed g c = let fits = rw (← c.self.view_is) at c.requires.fits in record { fits = fits.skip; page = refl }

pub find_block-requires-clause-reached : goal.find_block-requires-clause-reached
find_block-requires-clause-reached g c = rw c.search_from-search.ensures c.self.invariant.1

pub find_block-requires-clause-known : goal.find_block-requires-clause-known
find_block-requires-clause-known g c = rw c.search_from-search.ensures c.self.invariant.0

pub find_block-requires-clause-below : goal.find_block-requires-clause-below
find_block-requires-clause-below g c = rw c.search_from-search.ensures (rw (← c.self.view_is) at c.requires.beyond)

pub find_block-requires-clause-reads : goal.find_block-requires-clause-reads
find_block-requires-clause-reads g c = let fits = rw (← c.self.view_is) at c.requires.fits in rw c.search_from-search.ensures fits.entries

pub enter-requires-clause-fits : goal.enter-requires-clause-fits
enter-requires-clause-fits g c =
    let fits = rw (← c.self.view_is) at c.requires.fits in
    subst (Fits c.self.inside.post.reader.feed) (sym c.in-Ok-Some.ensures.calm.files) fits.post

-- ---- each way out

pub returns-in-Err : goal.returns-in-Err
returns-in-Err g c =
    let i = c.self.invariant in
    let fits = rw (← c.self.view_is) at c.requires.fits in
    let on = rw (← c.self.view_is) at c.requires.on in
    let beyond = rw (← c.self.view_is) at c.requires.beyond in
    let k = may_go _ _ c.args.doc (block_count c.self.inside.list.docs) fits i.7 i.4 i.2 i.3 on i.6 i.8 beyond refl i.1 i.9 in
    let s = rw c.search_from-search.ensures at c.in-Err.ensures in
    rw (← c.self.view_is) (step_unfound k _ s c.refused_part.ensures)

pub returns-in-Ok-None : goal.returns-in-Ok-None
returns-in-Ok-None g c =
    let i = c.self.invariant in
    let fits = rw (← c.self.view_is) at c.requires.fits in
    let on = rw (← c.self.view_is) at c.requires.on in
    let beyond = rw (← c.self.view_is) at c.requires.beyond in
    let k = may_go _ _ c.args.doc (block_count c.self.inside.list.docs) fits i.7 i.4 i.2 i.3 on i.6 i.8 beyond refl i.1 i.9 in
    let s = rw (c.in-Ok-None.field-0-is, c.search_from-search.ensures) at c.in-Ok-None.ensures in
    rw (← c.self.view_is, c.search_from-search.ensures) (step_past k c.clear.new.self s c.clear.ensures)

pub returns-in-Err-enter : goal.returns-in-Err-enter
returns-in-Err-enter g c =
    let i = c.self.invariant in
    let fits = rw (← c.self.view_is) at c.requires.fits in
    let on = rw (← c.self.view_is) at c.requires.on in
    let beyond = rw (← c.self.view_is) at c.requires.beyond in
    let k = may_go _ _ c.args.doc (block_count c.self.inside.list.docs) fits i.7 i.4 i.2 i.3 on i.6 i.8 beyond refl i.1 i.9 in
    let s = rw (c.in-Ok-Some.field-0-is, c.search_from-search.ensures) at c.in-Ok-Some.ensures in
    let e = c.in-Err-enter.ensures in
    rw (← c.self.view_is, e.kept) (step_missing k s _ _ _ e.read c.refused_part-in-Err-enter.ensures refl e.counted)

pub returns-in-Ok : goal.returns-in-Ok
returns-in-Ok g c =
    let i = c.self.invariant in
    let fits = rw (← c.self.view_is) at c.requires.fits in
    let on = rw (← c.self.view_is) at c.requires.on in
    let beyond = rw (← c.self.view_is) at c.requires.beyond in
    let k = may_go _ _ c.args.doc (block_count c.self.inside.list.docs) fits i.7 i.4 i.2 i.3 on i.6 i.8 beyond refl i.1 i.9 in
    let s = rw (c.in-Ok-Some.field-0-is, c.search_from-search.ensures) at c.in-Ok-Some.ensures in
    let e = c.in-Ok.ensures in
    rw (← c.self.view_is) (step_entered k s _ _ e.read refl e.counted)

-- ---- the cursor's invariant

pub invariant_of-self-in-Ok-None : goal.invariant_of-self-in-Ok-None
invariant_of-self-in-Ok-None g c =
    let i = c.self.invariant in
    let skip = same_file c.self.inside.skip.feed c.find_block.new.r.feed _ _ c.in-Ok-None.ensures.calm in
    rw c.search_from-search.ensures (
      i.0,
      omega arith,
      i.2,
      skip.part ∙ i.3,
      i.4,
      λ e. c.clear.ensures,
      nothing_held c.self.inside.list.all c.self.inside.progress.last c.clear.new.self c.clear.ensures,
      i.7,
      all_held c.self.inside.list.docs (block_count c.self.inside.list.docs) c.self.inside.progress.last c.clear.new.self true refl refl,
      i.9,
    )
