use Rattle.std.proofs.Common.{arith}
use Rattle.mg_defs.specs.CodedText.{places}
use Rattle.mg_migrate.proofs.CopyLaws.{refused_more}
use Rattle.mg_migrate.proofs.PlaceLaws.{narrow_places}
use Rattle.mg_migrate.proofs.migrating.copy_places.Goals as goal

pub returns-then-head-eq1-clause-places : goal.returns-then-head-eq1-clause-places
returns-then-head-eq1-clause-places g c = λ code collection stands.
    c.widen_places.ensures.widened stands.told (places code collection)
    (narrow_places c.args.head.now code collection c.args.bases.now.name.now (g.S.Store.files c.args.store.now) c.if-head-eq1.true c.requires stands)

pub returns-then-head-eq1-clause-writes : goal.returns-then-head-eq1-clause-writes
returns-then-head-eq1-clause-writes g c =
    let written = c.widen_places.ensures.writes in
    record {
      alone = written.alone;
      refused = refused_more c.widen_places.result (λ rose. rose)
          (λ is. (is.2.told, places is.0 is.1, narrow_places c.args.head.now is.0 is.1 c.args.bases.now.name.now (g.S.Store.files c.args.store.now) c.if-head-eq1.true c.requires is.2))
          written.refused;
      later = written.later;
    }

pub returns-clause-writes : goal.returns-clause-writes
returns-clause-writes g c =
    let written = c.copy_part.ensures.writes in
    record { alone = written.alone; refused = refused_more c.copy_part.result (λ rose. rose) (λ is. is.2.told) written.refused; later = written.later }

pub returns-then-head-eq1-clause-copied : goal.returns-then-head-eq1-clause-copied
returns-then-head-eq1-clause-copied g c = λ told is. absurd (omega (arith, is, c.if-head-eq1.true))
