-- Feeds that read the same bytes of every store read the same file.
use Rattle.std.proofs.Common.{◌≡◌, ap}
use Rattle.mg_bits.specs.Feed.{Device as Seen, Calm}
use Rattle.mg_bits.specs.Pages.{Paging, feeding_of}
use Rattle.mg_bits.proofs.CallerLemmas.{same_name}

pub same_file : (old new : Paging) (before now : Seen) → Calm (feeding_of 4096 old) (feeding_of 4096 new) before now → new.name ≡ old.name
same_file old new before now calm = same_name new.name old.name (λ files. ap (λ f. f files) calm.source)
