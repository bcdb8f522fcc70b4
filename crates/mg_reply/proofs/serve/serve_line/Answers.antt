use Rattle.std.proofs.Common.{sym}
use Rattle.mg_dev.specs.StreamLaws.{appended-nil}
use Rattle.mg_reply.proofs.serve.serve_line.Goals as goal

pub returns-in-Skip-clause-text : goal.returns-in-Skip-clause-text
returns-in-Skip-clause-text g c = λ reply answers. rw (← c.read_command.ensures, ← c.in-Skip.ensures.is) (sym (appended-nil _))

pub returns-in-Quit-clause-text : goal.returns-in-Quit-clause-text
returns-in-Quit-clause-text g c = λ reply answers. rw (← c.read_command.ensures, ← c.in-Quit.ensures.is) (sym (appended-nil _))

pub returns-in-Set-clause-text : goal.returns-in-Set-clause-text
returns-in-Set-clause-text g c = λ reply answers. rw (← c.read_command.ensures, ← c.in-Set.ensures.is) (sym (appended-nil _))
