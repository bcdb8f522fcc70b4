-- The plan of a set, for callers that know this crate alone.

pub use Rattle.mg_count.specs.Plans.{IsPlan, IsPlanOf, IsRoomFor, Plan}
