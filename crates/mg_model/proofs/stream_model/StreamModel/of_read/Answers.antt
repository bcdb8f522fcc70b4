use Rattle.mg_model.specs.Read.{code_read}
use Rattle.mg_model.proofs.Standing.{room-of}
use Rattle.mg_model.proofs.Writing.{code-damage}
use Rattle.mg_model.proofs.stream_model.StreamModel.of_read.Goals as goal

pub returns-in-Err-clause-answer : goal.returns-in-Err-clause-answer
returns-in-Err-clause-answer c = λ count bytes is.
    rw c.without.ensures (code-damage c.args.part count bytes c.in-Err.refusal (room-of count bytes (code_read c.args.read) is) (c.in-Err.ensures.answer count bytes is))

pub of_code-requires-clause-code : goal.of_code-requires-clause-code
of_code-requires-clause-code c = record {
  rising = c.requires.rises;
  short = c.len.ensures.short;
  few = c.len.ensures.few;
  each = c.requires.each;
  good = c.in-Ok.ensures.good;
}

pub returns-in-Ok-clause-answer : goal.returns-in-Ok-clause-answer
returns-in-Ok-clause-answer c = λ count bytes is. rw c.of_code.ensures (record { room = room-of count bytes (code_read c.args.read) is; part = is; good = c.in-Ok.ensures.good })
