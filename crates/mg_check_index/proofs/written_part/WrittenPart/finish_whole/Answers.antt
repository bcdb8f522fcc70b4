use Rattle.std.proofs.Common.{◌≡◌, IsSome, sym, subst}
use Rattle.mg_dev.specs.Files.{bytes_at}
use Rattle.mg_check_parts.proofs.CallerLemmas.{looks_err, looks_size, looks_then}
use Rattle.mg_check_index.specs.InPair.{bytes_of, set_name}
use Rattle.mg_check_index.proofs.LexiconLaws.{refutes_wider}
use Rattle.mg_check_index.proofs.PairLaws.{whole-ended, whole-ends, whole-stands}
use Rattle.mg_check_index.proofs.written_part.WrittenPart.finish_whole.Goals as goal

pub returns-in-Err-clause-other : goal.returns-in-Err-clause-other
returns-in-Err-clause-other g c = λ told.
    let w = c.args.self.now in
    let files = g.S.Store.files c.args.store.now in
    refutes_wider _ (bytes_at files (set_name w) ≡ bytes_of files w) c.in-Err.refusal
    (whole-stands w.from (bytes_at files (set_name w)) (bytes_of files w) c.requires.whole) (c.in-Err.ensures.other told)

pub returns-in-Err-clause-looks : goal.returns-in-Err-clause-looks
returns-in-Err-clause-looks g c = looks_err c.in-Err.ensures.looks

pub returns-clause-stand : goal.returns-clause-stand
returns-clause-stand g c = λ told.
    let w = c.args.self.now in
    let files = c.in-Ok.ensures.looks.files in
    whole-ends c.expect_size.result (g.S.Store.files c.args.store.now) (g.S.Store.files c.finish.new.store) w c.in-Ok.end w.part files c.requires.whole (c.in-Ok.ensures.end told)
    (c.in-Ok.ensures.stand told) (c.expect_size.ensures.answer (subst IsSome (sym files) told))

pub returns-clause-other : goal.returns-clause-other
returns-clause-other g c = λ told.
    let w = c.args.self.now in
    let files = c.in-Ok.ensures.looks.files in
    whole-ended c.expect_size.result (g.S.Store.files c.args.store.now) (g.S.Store.files c.finish.new.store) w c.in-Ok.end w.part files c.requires.whole (c.in-Ok.ensures.end told)
    (c.expect_size.ensures.answer (subst IsSome (sym files) told))

pub returns-clause-looks : goal.returns-clause-looks
returns-clause-looks g c =
    looks_then c.in-Ok.ensures.looks (looks_size c.expect_size.ensures.files c.expect_size.ensures.reads c.expect_size.ensures.cause)
