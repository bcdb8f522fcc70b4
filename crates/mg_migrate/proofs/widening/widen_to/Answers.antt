use Rattle.std.proofs.Common.{arith, ◌∙◌, ◌++◌, append-nil, ap, sym, subst}
use Rattle.std.specs.List.{flat_map}
use Rattle.mg_dev.specs.Files.{bytes_at}
use Rattle.mg_dev.specs.Names.{full_name}
use Rattle.mg_bits.specs.Writer.{put_to}
use Rattle.mg_defs.specs.Numbers.{eight}
use Rattle.mg_migrate.specs.Copying.{AreNarrow, ChangedAlone}
use Rattle.mg_migrate.proofs.CopyLaws.{alone_more, from_here, stops_more, told_here}
use Rattle.mg_make.proofs.CallerLemmas.{rose_behind}
use Rattle.mg_migrate.proofs.widening.widen_to.Goals as goal

pub returns-in-Err-widen_all-clause-writes : goal.returns-in-Err-widen_all-clause-writes
returns-in-Err-widen_all-clause-writes g c =
    let from = c.args.places.now.name in
    let to = full_name c.args.to.base.now c.args.to.part in
    let before = g.S.Store.files c.args.store.now in
    let started = g.S.Store.files c.start.new.store in
    let now = g.S.Store.files c.widen_all.new.store in
    let stopped = c.in-Err-widen_all.ensures.writes in
    let alone : ChangedAlone to before started = record { told = c.in-Ok.ensures.wrote.told; others = c.in-Ok.ensures.wrote.others } in
    record {
      alone = alone_more to before started now alone (subst (λ n. ChangedAlone n started now) c.in-Ok.ensures.name stopped.alone);
      refused = stops_more c.in-Err-widen_all.refusal _ _ _ _ (λ rose. rose_behind _ _ _ c.in-Ok.ensures.cause.later rose)
          (λ is. (
            told_here from to before started started 0 alone c.requires.apart is.0,
            is.1,
            subst (λ bytes. AreNarrow is.1 bytes c.args.count) (sym (from_here from to before started started 0 alone c.requires.apart)) is.2,
          ))
          stopped.refused;
      later = omega (arith, c.in-Ok.ensures.cause.later, stopped.later);
    }

pub returns-in-Ok-finish-clause-widened : goal.returns-in-Ok-finish-clause-widened
returns-in-Ok-finish-clause-widened g c = λ told numbers are.
    let from = c.args.places.now.name in
    let to = full_name c.args.to.base.now c.args.to.part in
    let before = g.S.Store.files c.args.store.now in
    let started = g.S.Store.files c.start.new.store in
    let filled = g.S.Store.files c.widen_all.new.store in
    let now = g.S.Store.files c.finish.new.store in
    let alone : ChangedAlone to before started = record { told = c.in-Ok.ensures.wrote.told; others = c.in-Ok.ensures.wrote.others } in
    let all = c.in-Ok-widen_all.ensures in
    let done = c.in-Ok-finish.ensures in
    let told_then = told_here from to before started started 0 alone c.requires.apart told in
    ap (bytes_at now) (sym (done.name ∙ all.name ∙ c.in-Ok.ensures.name)) ∙ sym (append-nil (bytes_at now c.finish.new.self.name))
    ∙ ap (λ held. bytes_at now c.finish.new.self.name ++ held) (sym done.nothing) ∙ done.bytes.bytes (all.writes.alone.told ∙ told_then) ∙ append-nil (put_to c.widen_all.new.wide filled)
    ∙ all.written told_then numbers (subst (λ bytes. AreNarrow numbers bytes c.args.count) (sym (from_here from to before started started 0 alone c.requires.apart)) are)
    ∙ ap (λ x. x ++ flat_map eight numbers) (c.in-Ok.ensures.empty told)
