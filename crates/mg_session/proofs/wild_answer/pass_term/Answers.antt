use Rattle.std.proofs.Common.{arith}
use Rattle.mg_reply.proofs.CallerLemmas.{cause_behind, lack_behind}
use Rattle.mg_session.proofs.WildTextLaws.{term_cut_first, term_cut_second, term_cut_third, term_passed}
use Rattle.mg_session.proofs.wild_answer.pass_term.Goals as goal

pub returns-in-Err : goal.returns-in-Err
returns-in-Err g c = record {
  content = term_cut_first c.args.term.now c.args.docs _ _ c.args.pending.now c.in-Err.ensures.content;
  cause = c.in-Err.ensures.cause;
  lack = c.in-Err.ensures.lack;
}

pub returns-in-Err-put : goal.returns-in-Err-put
returns-in-Err-put g c =
    let mark = c.in-Ok.ensures in
    let e = c.in-Err-put.ensures in
    record {
      content = term_cut_second c.args.term.now c.args.docs _ _ _ c.args.pending.now _ mark.content e.content;
      cause = cause_behind mark.cause.later e.cause;
      lack = lack_behind mark.lack.later e.lack;
    }

pub returns-in-Err-put-2 : goal.returns-in-Err-put-2
returns-in-Err-put-2 g c =
    let mark = c.in-Ok.ensures in
    let term = c.in-Ok-put.ensures in
    let e = c.in-Err-put-2.ensures in
    record {
      content = term_cut_third c.args.term.now c.args.docs _ _ _ _ c.args.pending.now _ _ mark.content term.content e.content;
      cause = cause_behind (omega (arith, mark.cause.later, term.cause.later)) e.cause;
      lack = lack_behind (omega (arith, mark.lack.later, term.lack.later)) e.lack;
    }

pub returns-in-Ok-put-2 : goal.returns-in-Ok-put-2
returns-in-Ok-put-2 g c =
    let mark = c.in-Ok.ensures in
    let term = c.in-Ok-put.ensures in
    let space = c.in-Ok-put-2.ensures in
    record {
      content = term_passed c.args.term.now c.args.docs _ _ _ _ _ c.args.pending.now _ _ _ _ _ mark.content term.content space.content c.row.ensures.content;
      cause = cause_behind (omega (arith, mark.cause.later, term.cause.later, space.cause.later)) c.row.ensures.cause;
      lack = lack_behind (omega (arith, mark.lack.later, term.lack.later, space.lack.later)) c.row.ensures.lack;
    }
