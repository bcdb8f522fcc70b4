-- Why lists are not written, for callers that know this crate alone.

pub use Rattle.mg_index.specs.Listing.{ListStops}
