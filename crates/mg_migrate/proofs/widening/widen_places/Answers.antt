use Rattle.std.proofs.Common.{arith, rules, ◌≡◌, ◌∙◌, ℕ, List, IsSome, Option, ap, sym, subst}
use Rattle.mg_dev.specs.Causes.{Rose}
use Rattle.mg_dev.specs.Faults.{ReadStops}
use Rattle.mg_dev.specs.Files.{Files, bytes_at}
use Rattle.mg_dev.specs.Names.{full_name}
use Rattle.mg_dev.specs.declared.part.Part.TheVariants.{Places}
use Rattle.mg_migrate.specs.Copying.{AreNarrow, AreSomeNarrow}
use Rattle.mg_migrate.proofs.CopyLaws.{alone_since, bases_apart, refused_more}
use Rattle.mg_make.proofs.CallerLemmas.{rose_behind}
use Rattle.mg_migrate.proofs.WidenLaws.{size_stops}
use Rattle.mg_migrate.proofs.widening.widen_places.Goals as goal

pub returns-in-Err-clause-writes : goal.returns-in-Err-clause-writes
returns-in-Err-clause-writes g c =
    let before = g.S.Store.files c.args.store.now in
    let from = full_name c.args.bases.now.name.now Places in
    record {
      alone = search rules;
      refused = subst (λ f. ReadStops (Rose (g.S.Store.faults c.args.store.now) (g.S.Store.faults c.expect_size.new.store)) (AreSomeNarrow before from c.args.count) f) (sym c.from-in-Err.ensures)
          (size_stops c.in-Err.refusal (g.S.Store.faults c.args.store.now) (g.S.Store.faults c.expect_size.new.store) c.from.result c.args.count
          (bytes_at before from) (IsSome before) c.from.ensures c.in-Err.ensures.answer c.in-Err.ensures.cause.device);
      later = search rules;
    }

pub widen_to-requires-clause-apart : goal.widen_to-requires-clause-apart
widen_to-requires-clause-apart g c = λ same. bases_apart c.args.bases.now.name.now c.args.bases.now.new.now Places c.args.bases.now.apart (sym c.in-Ok-new.ensures.name ∙ same)

-- the file that was opened is as it was
opened : (f before : Option Files) (name from : List ℕ) → f ≡ before → name ≡ from → bytes_at f name ≡ bytes_at before from
opened f before name from files same = ap (λ g. bytes_at g name) files ∙ ap (bytes_at before) same

pub returns-clause-widened : goal.returns-clause-widened
returns-clause-widened g c = λ told numbers are.
    let files = c.in-Ok.ensures.files in
    c.widen_to.ensures.widened (subst (λ f. IsSome f) (sym files) told) numbers
    (subst (λ bytes. AreNarrow numbers bytes c.args.count) (sym (opened _ _ _ _ files c.in-Ok-new.ensures.name)) are)

pub returns-clause-writes : goal.returns-clause-writes
returns-clause-writes g c =
    let files = c.in-Ok.ensures.files in
    let wrote = c.widen_to.ensures.writes in
    record {
      alone = alone_since _ _ _ _ files wrote.alone;
      refused = refused_more c.widen_to.result (λ rose. rose_behind _ _ _ c.in-Ok.ensures.cause.later rose)
          (λ is. (subst (λ f. IsSome f) (sym files) is.0, is.1, subst (λ bytes. AreNarrow is.1 bytes c.args.count) (sym (opened _ _ _ _ files c.in-Ok-new.ensures.name)) is.2)) wrote.refused;
      later = omega (arith, c.in-Ok.ensures.cause.later, wrote.later);
    }
