-- Which refusal of a line an error stands for. Want of memory is none.
use Rattle.std.specs.Prelude.{Option, Some, None}
use Rattle.mg_defs.specs.Refusals.{Refusal, syntax, too_deep, too_long, too_many}
use Rattle.mg_query.specs.declared.query_err.QueryErr.{QueryErr}
use Rattle.mg_query.specs.declared.query_err.QueryErr.TheVariants.{Syntax, TooDeep, TermTooLong, TooManyTerms, Memory}

abbrev pub refusal_of : QueryErr → Option Refusal
refusal_of (Syntax at) = Some (syntax at)
refusal_of (TooDeep at) = Some (too_deep at)
refusal_of (TermTooLong at) = Some (too_long at)
refusal_of (TooManyTerms at) = Some (too_many at)
refusal_of Memory = None
