use Rattle.std.proofs.Common.{arith, ◌≡◌, ◌∙◌, ◌+◌, ◌-◌, min, Some, length, refl, sym, ap}
use Rattle.std.specs.Option.{option_map}
use Rattle.mg_dev.specs.Names.{full_name}
use Rattle.mg_check_index.proofs.InStoreLaws.{told-other, told-size}
use Rattle.mg_check_index.proofs.comparing_store.ComparingStoreStore.size.Goals as goal

pub returns-then-not-is_own-clause-answer : goal.returns-then-not-is_own-clause-answer
returns-then-not-is_own-clause-answer g c = λ told.
    sym (ap (option_map length) (told-other (g.S.Store.files c.args.self.now.store.now) (full_name c.args.self.now.file.base.now c.args.self.now.file.part) c.args.self.now.from
    c.args.self.now.standing c.args.self.now.rest.now.items (full_name c.args.file.now.base.now c.args.file.now.part) (c.if-not-is_own.ensures.other refl)))

pub returns-clause-answer : goal.returns-clause-answer
returns-clause-answer g c = λ told.
    let sum : c.min-standing.result + length c.as_slice.result.now ≡ min (c.in-Ok.found - c.args.self.now.from) c.args.self.now.standing + length c.args.self.now.rest.now.items =
    omega (arith, c.saturating_sub.ensures, c.min-standing.ensures, ap length c.as_slice.ensures.value) in
    ap Some sum ∙ told-size (g.S.Store.files c.args.self.now.store.now) (full_name c.args.self.now.file.base.now c.args.self.now.file.part) c.args.self.now.from
    c.args.self.now.standing c.in-Ok.found c.args.self.now.rest.now.items
    (full_name c.args.file.now.base.now c.args.file.now.part) (c.if-not-is_own.ensures.own refl) c.in-Ok.ensures.size told
