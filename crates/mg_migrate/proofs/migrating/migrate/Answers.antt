use Rattle.std.proofs.Common.{rules, ◌≡◌, ◌≢◌, ℕ, Ok, Err, ap, refl, sym, subst}
use Rattle.mg_dev.specs.Causes.{Rose}
use Rattle.mg_dev.specs.declared.fault.Fault.TheVariants as fault
use Rattle.mg_dev.proofs.CallerLemmas.{stopped_for}
use Rattle.mg_defs.specs.Heads as defs
use Rattle.mg_layout.specs.Stands.{IsSetBy, StandsBy}
use Rattle.mg_layout.specs.declared.head.Head as layout
use Rattle.mg_layout.proofs.CallerLemmas.{loaded_set}
use Rattle.mg_migrate.proofs.MadeAnewLaws.{never_first, nothing_made, set_made}
use Rattle.mg_migrate.proofs.MigrateStopLaws.{head_refused, set_refused}
use Rattle.mg_migrate.proofs.migrating.migrate.Goals as goal

pub returns-then-eq-clause-made_anew : goal.returns-then-eq-clause-made_anew
returns-then-eq-clause-made_anew g c =
    let same : c.args.new.now ≡ c.args.name.now = search rules in
    nothing_made _ _ _ _ fault.SameName refl same (λ is. refl) (λ told apart none. absurd (apart same))

pub returns-in-Err-clause-made_anew : goal.returns-in-Err-clause-made_anew
returns-in-Err-clause-made_anew g c =
    let apart : c.args.new.now ≢ c.args.name.now = search rules in
    nothing_made _ _ _ _ c.in-Err.fault c.in-Err.ensures.files (head_refused c.in-Err.fault _ _ _ _ c.in-Err.ensures.cause)
    (λ same. absurd (apart same)) (λ told apart none. stopped_for {T = layout.Head} (Err c.in-Err.fault) fault.NotBuilt (c.in-Err.ensures.not_built told none))

pub returns-in-Ok-make_set-clause-made_anew : goal.returns-in-Ok-make_set-clause-made_anew
returns-in-Ok-make_set-clause-made_anew g c =
    let apart : c.args.new.now ≢ c.args.name.now = search rules in
    set_made _ _ _ _ c.in-Ok.head (g.S.Store.files c.load_sized.new.store) (Ok c.in-Ok.head.documents) c.in-Ok.ensures.files c.in-Ok.ensures.sized
    apart c.in-Ok-make_set.ensures.made (λ h first end. never_first {T = ℕ} (Ok c.in-Ok.head.documents) (Unit {0}) (Unit {0}) h tt first end) tt

pub returns-in-Ok-make_set-clause-documents : goal.returns-in-Ok-make_set-clause-documents
returns-in-Ok-make_set-clause-documents g c = λ collection stands.
    let by = loaded_set (g.S.Store.files c.args.store.now) c.args.name.now collection c.in-Ok.head stands (c.in-Ok.ensures.sized stands.told).has in
    ap (λ (h : defs.Head). h.documents) by.1.head_is

pub returns-in-Err-make_set-clause-made_anew : goal.returns-in-Err-make_set-clause-made_anew
returns-in-Err-make_set-clause-made_anew g c =
    let before = g.S.Store.files c.args.store.now in
    let loaded = g.S.Store.files c.load_sized.new.store in
    let failed = c.in-Err-make_set.fault in
    let apart : c.args.new.now ≢ c.args.name.now = search rules in
    set_made _ _ _ _ c.in-Ok.head loaded (Err failed) c.in-Ok.ensures.files c.in-Ok.ensures.sized
    apart c.in-Err-make_set.ensures.made
    (λ h first end. never_first {T = ℕ} (Err failed) (Rose (g.S.Store.faults c.load_sized.new.store) (g.S.Store.faults c.make_set.new.store))
    (IsSetBy c.in-Ok.head loaded c.args.name.now) h c.in-Err-make_set.ensures.refused first end)
    (set_refused failed c.in-Ok.head _ _ _ before loaded c.args.name.now c.args.new.now c.in-Ok.ensures.later
    (λ collection stands.
    let by = loaded_set before c.args.name.now collection c.in-Ok.head stands (c.in-Ok.ensures.sized stands.told).has in
    (by.0, subst (λ f. StandsBy c.in-Ok.head by.0 f c.args.name.now collection) (sym c.in-Ok.ensures.files) by.1))
    c.in-Err-make_set.ensures.refused)
