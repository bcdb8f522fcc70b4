use Rattle.std.proofs.Common.{ap}
use Rattle.std.proofs.lemmas.Option.{IfSome_then}
use Rattle.mg_defs.specs.Replies.{boolean_reply}
use Rattle.mg_query.specs.RefusalOf.{refusal_of}
use Rattle.mg_plain.proofs.boolean.answer_boolean.Goals as goal

pub returns-in-Err : goal.returns-in-Err
returns-in-Err g c =
    let refused = c.answer_refused.ensures in
    record {
      replies = record {
        content = refused.content _ (IfSome_then (refusal_of c.in-Err.why) c.in-Err.ensures.refused (λ why is. ap (boolean_reply c.args.bytes.now c.args.now.now) is));
        later = refused.later;
        cause = refused.cause;
        silent = refused.silent;
      };
    }
