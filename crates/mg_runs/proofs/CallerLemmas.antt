-- What the proofs of crates above cite of this crate's. No other module of them can be named from there.

-- how many runs are finished: none at the start, no more than the occurrences fill, and what is left fits in the pool
pub use Rattle.mg_runs.proofs.Segments.{none_finished, finished-low, rest_fits}
-- one more occurrence, while the pool has room and where it is full: how many runs are finished, and which these are
pub use Rattle.mg_runs.proofs.Segments.{finished-room, finished-full, first_runs-more, first_runs-full}
-- a list of values with one more at its end
pub use Rattle.mg_runs.proofs.Segments.{map_end}
-- occurrences behind the first ones, and one more: how many there are, that they fit, and the entries that they are
pub use Rattle.mg_runs.proofs.Occurrences.{length_end, length_rest, drop_end, drop_all}
pub use Rattle.mg_runs.proofs.Occurrences.{occurrences_end, occurrences_drop, entries_of}
-- all runs, with the last one behind those that are finished; and none of no occurrence
pub use Rattle.mg_runs.proofs.RoundsFed.{runs_of_last, runs_of_none}
-- how many groups there are of so many
pub use Rattle.mg_runs.proofs.Rounds.{ceil_is}
-- whether a pool has entries, by the bytes in use
pub use Rattle.mg_runs.proofs.LastRun.{some_entries, no_entries_used}
