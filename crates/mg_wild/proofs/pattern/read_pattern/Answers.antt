use Rattle.std.proofs.Common.{◌≡◌, IfOk, IfErr, IfSome, subst}
use Rattle.mg_defs.specs.Patterns.{sides}
use Rattle.mg_wild.specs.Patterns.{bad_of, sides_of}
use Rattle.mg_wild.proofs.PatternLaws.{read_at}
use Rattle.mg_wild.proofs.pattern.read_pattern.Goals as goal

pub returns-clause-reads : goal.returns-clause-reads
returns-clause-reads c =
    let read = read_at c.args.line.now c.split_at.result.1.now c.split_at-2.result.0.now c.blank_len-start.result c.trimmed_len.result
    c.blank_len-start.ensures.is c.split_at.ensures.back c.trimmed_len.ensures.is c.split_at-2.ensures.front in
    subst (λ x. IfOk c.read_body.result (λ p. x ≡ sides (sides_of p))) read c.read_body.ensures.reads

pub returns-clause-refused : goal.returns-clause-refused
returns-clause-refused c =
    let read = read_at c.args.line.now c.split_at.result.1.now c.split_at-2.result.0.now c.blank_len-start.result c.trimmed_len.result
    c.blank_len-start.ensures.is c.split_at.ensures.back c.trimmed_len.ensures.is c.split_at-2.ensures.front in
    subst (λ x. IfErr c.read_body.result (λ e. IfSome (bad_of e) (λ why. x ≡ why))) read c.read_body.ensures.refused
