use Rattle.std.proofs.Common.{arith, ◌≡◌, ◌+◌, length}
use Rattle.mg_session.specs.PhraseAnswers.{found_at}
use Rattle.mg_reply.proofs.CallerLemmas.{no_cause, no_lack}
use Rattle.mg_session.proofs.PhraseWalkLaws.{at_ok, count_none, count_some, nothing_found, row_found}
use Rattle.mg_session.proofs.rows.Rows.pass_places.Goals as goal

pub returns-then-places-eq0-clause-passed : goal.returns-then-places-eq0-clause-passed
returns-then-places-eq0-clause-passed g c = record {
  content = nothing_found _ _ c.args.number c.args.places c.if-places-eq0.true;
  cause = no_cause (omega arith);
  lack = no_lack (omega arith);
}

pub returns-then-places-eq0-clause-counted : goal.returns-then-places-eq0-clause-counted
returns-then-places-eq0-clause-counted g c = omega (arith, count_none c.args.number c.args.places c.if-places-eq0.true)

pub returns-clause-passed : goal.returns-clause-passed
returns-clause-passed g c = record {
  content = row_found _ _ _ _ c.args.number c.args.places c.row.result c.if-places-eq0.false c.row.ensures.content;
  cause = c.row.ensures.cause;
  lack = c.row.ensures.lack;
}

pub returns-clause-counted : goal.returns-clause-counted
returns-clause-counted g c =
    let counted : c.args.self.now.total + 1 ≡ c.args.self.now.total + length (found_at c.args.number c.args.places) =
    omega (arith, count_some c.args.number c.args.places c.if-places-eq0.false) in
    at_ok c.row.result counted
