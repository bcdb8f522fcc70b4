-- What the proofs of crates above cite of this crate's. No other module of them can be named from there.

-- bytes that pass through the room for waiting ones to a sink: none, bytes after bytes, all at last, and a refusal within them
pub use Rattle.mg_reply.proofs.PendingLaws.{pass_nothing, pass_both, pass_more, pass_put, pass_part, pass_cut, pass_refused}
-- what a call promises that puts texts or passes them on: put together from what its calls promise, and its causes behind an earlier moment
pub use Rattle.mg_reply.proofs.PendingLaws.{passes_both, passes_part, puts_passed, puts_refused, no_cause, no_lack, cause_behind, lack_behind}
-- replies in turn: what is told of them by the input and the output alone, and where nothing was taken and nothing printed
pub use Rattle.mg_reply.proofs.ServedLaws.{printed_in_turn, none_in_turn}
-- an input that failed: it alone is told so, and what is so of the lines that were taken of it; what lines print by a rule that follows from another
pub use Rattle.mg_reply.proofs.PrintedLaws.{read_failed, taken_too, none_broken, none_answered, rule_of_lines}
