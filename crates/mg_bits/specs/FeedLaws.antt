-- Where a page agrees with the files of a store.
use Rattle.std.proofs.Common.{◌≡◌, ℕ, List, Some, None, IsSome, subst, refl}
use Rattle.std.specs.declared.option.Option.{Option}
use Rattle.mg_dev.specs.Files.{Files, bytes_at}
use Rattle.mg_bits.specs.Feed.{told_at}
use Rattle.mg_bits.specs.Pages.{IsPageIn}

-- a page agrees with each told store that holds the same bytes of its file
pub same_page : (bytes : ℕ) (held : Option ℕ) (page name : List ℕ) (f g : Option Files) →
    told_at f name ≡ told_at g name →
    (IsSome f → IsPageIn bytes held page (bytes_at f name)) → IsSome g → IsPageIn bytes held page (bytes_at g name)
same_page bytes held page name None None same agrees told = absurd cc
same_page bytes held page name None (Some g) same agrees told = absurd cc
same_page bytes held page name (Some f) None same agrees told = absurd cc
same_page bytes held page name (Some f) (Some g) same agrees told =
    let e : bytes_at (Some f) name ≡ bytes_at (Some g) name = cc in
    subst (IsPageIn bytes held page) e (agrees refl)
