-- The page that a feed holds, where other files change.
use Rattle.std.proofs.Common.{◌≡◌, [], sym, ◌∙◌, subst, unwrap_or, is_some}
use Rattle.std.specs.declared.option.Option.{Option}
use Rattle.mg_dev.specs.Files.{Files, file_at}
use Rattle.mg_bits.specs.Pages.{Paging, Fits, IsPageOf}

-- it is one of its file as long as that file stays
pub held_page_stays : (feed : Paging) (f g : Option Files) → is_some g ≡ is_some f → file_at g feed.name ≡ file_at f feed.name → Fits feed f → Fits feed g
held_page_stays feed f g told same fits = record { held = λ now. subst (λ bytes. IsPageOf feed.held feed.page (unwrap_or bytes [])) (sym same) (fits.held (sym told ∙ now)) }
