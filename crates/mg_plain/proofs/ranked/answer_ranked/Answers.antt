use Rattle.std.proofs.Common.{◌≡◌, ap, sym, ◌∙◌, subst}
use Rattle.std.proofs.lemmas.Option.{IfSome_then}
use Rattle.mg_dev.specs.Streams.{AfterPut}
use Rattle.mg_defs.specs.Replies.{ranked_reply}
use Rattle.mg_defs.specs.ShownAnswers.{answer_text, ranked_as}
use Rattle.mg_defs.specs.Weights.{hits, hits_over}
use Rattle.mg_defs.proofs.FirstLaws.{hits_of_distinct}
use Rattle.mg_defs.proofs.RankedLaws.{reads-list, terms-apart}
use Rattle.mg_query.specs.RefusalOf.{refusal_of}
use Rattle.mg_plain.proofs.RankedAnswerLaws.{few_terms}
use Rattle.mg_plain.proofs.ranked.answer_ranked.Goals as goal

pub answer_terms-requires-clause-few : goal.answer_terms-requires-clause-few
answer_terms-requires-clause-few g c = few_terms c.args.line.now _ c.in-Ok.ensures.reads

pub returns-in-Err : goal.returns-in-Err
returns-in-Err g c =
    let refused = c.answer_refused.ensures in
    record {
      replies = record {
        content = refused.content _ (IfSome_then (refusal_of c.in-Err.why) c.in-Err.ensures.refused (λ why is. ap (ranked_reply c.args.bytes.now c.args.now.now) is));
        later = refused.later;
        cause = refused.cause;
        silent = refused.silent;
      };
    }

-- the terms of a line are distinct, so that their list is the query
pub returns-in-Ok : goal.returns-in-Ok
returns-in-Ok g c =
    let line = c.args.line.now in
    let bytes = c.args.bytes.now in
    let answered = c.answer_terms.ensures.replies in
    let once : hits_over bytes c.in-Ok.terms ≡ hits bytes c.in-Ok.terms =
    sym (hits_of_distinct bytes c.in-Ok.terms (terms-apart line c.in-Ok.terms (reads-list line c.in-Ok.terms c.in-Ok.ensures.reads))) in
    record {
      replies = record {
        content = subst (λ text. AfterPut (g.O.Sink.written c.args.out.now) (g.O.Sink.written c.answer_terms.new.out) text c.answer_terms.result)
            (ap (λ hs. answer_text bytes c.args.now.now (ranked_as hs)) once ∙ ap (ranked_reply bytes c.args.now.now) (sym c.in-Ok.ensures.reads))
            answered.content;
        later = answered.later;
        cause = answered.cause;
        silent = answered.silent;
      };
    }
