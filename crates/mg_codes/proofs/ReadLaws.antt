-- The way out of a reader of a code that the page which is held has whole.
use Rattle.std.proofs.Common.{◌≡◌, ◌+◌, ℕ, Ok, refl}
use Rattle.std.specs.declared.option.Option.{Option}
use Rattle.mg_dev.specs.Files.{Files}
use Rattle.mg_defs.specs.Bits.{Bits}
use Rattle.mg_bits.specs.Feed.{Feeding, Device}
use Rattle.mg_bits.specs.CodeReads.{ReadsCode}
use Rattle.mg_bits.specs.Reading.{Reading}
use Rattle.mg_bits.proofs.CallerLemmas.{calm_none, read_held, walk_whole}
use Rattle.mg_codes.specs.Readers.{IsHeldCode}

-- a code on the page that is held is what its reader promises
pub held_is_read : {Fed Dev : Type 0} {taken : ℕ → ℕ → Type 0} {limit : ℕ} {code : ℕ → Bits} {agrees : Fed → Option Files → Type 0} {feeding : Fed → Feeding} {device : Dev → Device}
    {old new : Reading Fed} {d : Dev} (x size : ℕ) → agrees old.feed (device d).files → IsHeldCode taken limit code agrees feeding old x size →
    new.feed ≡ old.feed → new.place ≡ old.place + size → ReadsCode taken limit code agrees feeding device old new d d (Ok x)
held_is_read {Fed} {Dev} {taken} {limit} {code} {agrees} {feeding} {device} {old} {new} {d} x size fits held feed place = record {
  fits = rw feed fits;
  calm = rw feed (calm_none (feeding old.feed) (device d));
  read = rw (held.size, feed) (read_held (feeding old.feed) (device d) old.place size held.some held.held);
  pages = tt;
  place = rw held.size place;
  told = walk_whole _ old.place limit (taken limit) code (code x) x (held.told _ fits) held.range refl;
  range = held.range;
  cause = tt;
}
