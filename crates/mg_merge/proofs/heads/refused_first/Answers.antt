use Rattle.mg_dev.specs.Files.{bytes_at}
use Rattle.mg_dev.specs.Names.{full_name}
use Rattle.mg_dev.specs.declared.part.Part.TheVariants.{Head}
use Rattle.mg_layout.specs.HeadAnswers.{fields_of}
use Rattle.mg_layout.proofs.CallerLemmas.{no_empty_head}
use Rattle.mg_merge.proofs.LookLaws.{looks_head, looks_nothing}
use Rattle.mg_merge.proofs.heads.refused_first.Goals as goal

pub returns-in-Ok-Some-clause-missing : goal.returns-in-Ok-Some-clause-missing
returns-in-Ok-Some-clause-missing g c = λ told missing.
    let answer = rw c.in-Ok-Some.field-0-is at c.in-Ok-Some.ensures.answer told in
    no_empty_head (bytes_at (g.S.Store.files c.args.store.now) (full_name c.args.second.now Head)) (fields_of c.in-Ok-Some.field-0-0) answer missing

-- ---- what is read

pub returns-in-Device-clause-looks : goal.returns-in-Device-clause-looks
returns-in-Device-clause-looks g c = looks_nothing

pub returns-in-Memory-clause-looks : goal.returns-in-Memory-clause-looks
returns-in-Memory-clause-looks g c = looks_nothing

pub returns-in-Ok-None-clause-looks : goal.returns-in-Ok-None-clause-looks
returns-in-Ok-None-clause-looks g c = looks_head c.load.ensures.files c.load.ensures.reads c.load.ensures.cause.later

pub returns-in-Ok-Some-clause-looks : goal.returns-in-Ok-Some-clause-looks
returns-in-Ok-Some-clause-looks g c = looks_head c.load.ensures.files c.load.ensures.reads c.load.ensures.cause.later

pub returns-in-Err-Bad-clause-looks : goal.returns-in-Err-Bad-clause-looks
returns-in-Err-Bad-clause-looks g c = looks_head c.load.ensures.files c.load.ensures.reads c.load.ensures.cause.later

pub returns-in-Err-Device-clause-looks : goal.returns-in-Err-Device-clause-looks
returns-in-Err-Device-clause-looks g c = looks_head c.load.ensures.files c.load.ensures.reads c.load.ensures.cause.later

pub returns-in-Err-Memory-clause-looks : goal.returns-in-Err-Memory-clause-looks
returns-in-Err-Memory-clause-looks g c = looks_head c.load.ensures.files c.load.ensures.reads c.load.ensures.cause.later
