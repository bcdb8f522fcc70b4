use Rattle.std.proofs.Common.{refl}
use Rattle.mg_lex.proofs.LexLaws.{names_apart}
use Rattle.mg_lex.proofs.lex_writer.LexWriter.start.Goals as goal

pub start-requires-clause-apart : goal.start-requires-clause-apart
start-requires-clause-apart g c = names_apart c.args.base.now

pub returns-in-Ok : goal.returns-in-Ok
returns-in-Ok g c =
    let e = c.in-Ok.ensures in
    record {
      took = record { took = e.took; width = e.width; strings = e.name; places = e.places };
      empty = e.empty;
      base = refl;
      writes = record {
        others = λ n lex lex_at. e.step.others n (lex, lex_at);
        told = e.step.told;
        reads = e.step.reads;
        cause = record { later = e.step.cause.later; failed = λ is. absurd cc };
      };
    }

pub returns-in-Err : goal.returns-in-Err
returns-in-Err g c =
    let e = c.in-Err.ensures in
    record {
      took = tt;
      empty = tt;
      base = tt;
      writes = record {
        others = λ n lex lex_at. e.step.others n (lex, lex_at);
        told = e.step.told;
        reads = e.step.reads;
        cause = record { later = e.step.cause.later; failed = λ is. e.step.cause.failed cc };
      };
    }
