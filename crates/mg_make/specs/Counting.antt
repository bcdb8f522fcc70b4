-- What was counted, for callers that know this crate alone.

pub use Rattle.mg_count.specs.Counting.{CountStops, EndStops, HasCounted, PassWith}
