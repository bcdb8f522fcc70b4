use Rattle.std.proofs.Common.{refl}
use Rattle.mg_dev.specs.Names.{full_name}
use Rattle.mg_check_index.proofs.InStoreLaws.{reset-told}
use Rattle.mg_check_index.proofs.comparing_store.ComparingStoreStore.reset.Goals as goal

pub returns-clause-content : goal.returns-clause-content
returns-clause-content g c =
    reset-told (g.S.Store.files c.args.self.now.store.now) (full_name c.args.self.now.file.base.now c.args.self.now.file.part) c.args.self.now.from c.args.self.now.standing
    c.args.self.now.rest.now.items c.clear.new.self.items
    (full_name c.args.file.now.base.now c.args.file.now.part) (c.if-not-is_own.ensures.own refl) c.clear.ensures.items
