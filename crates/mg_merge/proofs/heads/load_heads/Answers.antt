use Rattle.std.proofs.Common.{IsSome, inl, inr, sym, subst}
use Rattle.mg_dev.specs.Files.{bytes_at}
use Rattle.mg_dev.specs.Names.{full_name}
use Rattle.mg_dev.specs.declared.part.Part.TheVariants.{Head}
use Rattle.mg_merge.proofs.HeadLaws.{head_there, missing_refused, missing_still}
use Rattle.mg_merge.proofs.LookLaws.{looks_head, looks_more}
use Rattle.mg_merge.proofs.heads.load_heads.Goals as goal

pub returns-in-Err-load-clause-missing : goal.returns-in-Err-load-clause-missing
returns-in-Err-load-clause-missing g c = λ told missing.
    let before = g.S.Store.files c.args.store.now in
    let middle = g.S.Store.files c.load.new.store in
    elim missing [
      | inl first ↦ absurd (head_there (bytes_at before (full_name c.args.first.now Head)) c.in-Ok.loaded c.in-Some.head c.in-Some.is (c.in-Ok.ensures.answer told) first)
      | inr second ↦ missing_refused (bytes_at middle (full_name c.args.second.now Head)) c.in-Err-load.refusal c.from.result c.from.ensures
          (c.in-Err-load.ensures.answer (subst (λ f. IsSome f) (sym c.in-Ok.ensures.files) told)) (missing_still before middle c.args.second.now c.in-Ok.ensures.files second)
    ]

pub returns-in-Some-loaded_too-clause-missing : goal.returns-in-Some-loaded_too-clause-missing
returns-in-Some-loaded_too-clause-missing g c = λ told missing.
    let before = g.S.Store.files c.args.store.now in
    let middle = g.S.Store.files c.load.new.store in
    elim missing [
      | inl first ↦ absurd (head_there (bytes_at before (full_name c.args.first.now Head)) c.in-Ok.loaded c.in-Some.head c.in-Some.is (c.in-Ok.ensures.answer told) first)
      | inr second ↦ absurd (head_there (bytes_at middle (full_name c.args.second.now Head)) c.in-Ok-load.loaded c.in-Some-loaded_too.other c.in-Some-loaded_too.is
          (c.in-Ok-load.ensures.answer (subst (λ f. IsSome f) (sym c.in-Ok.ensures.files) told)) (missing_still before middle c.args.second.now c.in-Ok.ensures.files second))
    ]

-- ---- what is read

pub returns-in-Err-clause-looks : goal.returns-in-Err-clause-looks
returns-in-Err-clause-looks g c = looks_more (looks_head c.load.ensures.files c.load.ensures.reads c.load.ensures.cause.later) c.refused_first.ensures.looks

pub returns-in-None-clause-looks : goal.returns-in-None-clause-looks
returns-in-None-clause-looks g c = looks_head c.load.ensures.files c.load.ensures.reads c.load.ensures.cause.later

pub returns-in-Err-load-clause-looks : goal.returns-in-Err-load-clause-looks
returns-in-Err-load-clause-looks g c = looks_more (looks_head c.load.ensures.files c.load.ensures.reads c.load.ensures.cause.later) (looks_head c.load-2.ensures.files c.load-2.ensures.reads c.load-2.ensures.cause.later)

pub returns-in-Some-loaded_too-clause-looks : goal.returns-in-Some-loaded_too-clause-looks
returns-in-Some-loaded_too-clause-looks g c = looks_more (looks_head c.load.ensures.files c.load.ensures.reads c.load.ensures.cause.later) (looks_head c.load-2.ensures.files c.load-2.ensures.reads c.load-2.ensures.cause.later)

pub returns-in-None-loaded_too-clause-looks : goal.returns-in-None-loaded_too-clause-looks
returns-in-None-loaded_too-clause-looks g c = looks_more (looks_head c.load.ensures.files c.load.ensures.reads c.load.ensures.cause.later) (looks_head c.load-2.ensures.files c.load-2.ensures.reads c.load-2.ensures.cause.later)
