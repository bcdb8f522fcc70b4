use Rattle.std.proofs.Common.{ap}
use Rattle.std.proofs.lemmas.Result.{err_from_is_err_and}
use Rattle.mg_query.specs.AheadOf.{ahead, ahead_of}
use Rattle.mg_query.specs.TokensLeft.{placed_of}
use Rattle.mg_query.proofs.Steps.{whole-line, line-goes-on, line-refused}
use Rattle.mg_query.proofs.LineSteps.{never-many}
use Rattle.mg_query.proofs.boolean.parse_boolean.Goals as goal

pub returns-in_err-query-clause-refused : goal.returns-in_err-query-clause-refused
returns-in_err-query-clause-refused c =
    let p = err_from_is_err_and c.from_residual.result c.from_residual.ensures.1 in
    rw (p.1, p.2) (line-refused c.in_err-query.field-0.0 c.args.line.now c.new-parser.result.end (ahead c.new-parser.result) c.new-parser.ensures.tokens
    c.new-parser.ensures.end c.in_err-query.ensures.parsed.stopped)

pub returns-in_err-query-clause-never_many : goal.returns-in_err-query-clause-never_many
returns-in_err-query-clause-never_many c = never-many c.from_residual.result c.args.line.now (returns-in_err-query-clause-refused c)

pub returns-in-None-clause-reads : goal.returns-in-None-clause-reads
returns-in-None-clause-reads c =
    whole-line c.args.line.now _ _ _ _ c.new-parser.ensures.tokens c.new-parser.ensures.end c.in_ok-query.ensures.parsed.reads (ap (λ hand. ahead_of hand c.or.new.self.lexer) c.in-None.is)

pub returns-in-Some-clause-refused : goal.returns-in-Some-clause-refused
returns-in-Some-clause-refused c =
    line-goes-on c.args.line.now _ _ _ _ (placed_of c.in-Some.next) _ c.new-parser.ensures.tokens c.new-parser.ensures.end c.in_ok-query.ensures.parsed.reads
    c.in_ok-query.ensures.parsed.stops (ap (λ hand. ahead_of hand c.or.new.self.lexer) c.in-Some.is)
