-- What writers, walks and readers stand for stays as long as their own files do.
use Rattle.std.proofs.Common.{◌<◌, ◌^◌, length, ◌≡◌, ◌++◌, ℕ, List, [], None, Some, refl, sym, ap, ◌∙◌, subst, is_some, unwrap_or}
use Rattle.std.specs.declared.option.Option.{Option}
use Rattle.std.specs.Option.{ForSome}
use Rattle.mg_dev.specs.Files.{Files, bytes_at, file_at}
use Rattle.mg_defs.specs.Front.{Entry, IsFront}
use Rattle.mg_bits.specs.Writer.{Writing, put_to}
use Rattle.mg_bits.proofs.CallerLemmas.{held_page_stays}
use Rattle.mg_front.specs.Fronting.{Fronting, PlacesTook, Took}
use Rattle.mg_front.specs.Reading.{FrontFits, FrontStands, Fronted}
use Rattle.mg_front.specs.Walk.{Gave, Given, Walking}

same_bytes : (f g : Option Files) (name : List ℕ) → file_at g name ≡ file_at f name → bytes_at g name ≡ bytes_at f name
same_bytes f g name same = ap (λ o. unwrap_or o []) same

put_stays : (w : Writing) (f g : Option Files) → file_at g w.name ≡ file_at f w.name → put_to w g ≡ put_to w f
put_stays w f g same = ap (λ b. b ++ w.buffered) (same_bytes f g w.name same)

places_stay : (p : Option Writing) (name : List ℕ) (f g : Option Files) (es : List Entry) → is_some g ≡ is_some f →
    ForSome p (λ q. file_at g q.name ≡ file_at f q.name) → PlacesTook p name f es → PlacesTook p name g es
places_stay None name f g es told same took = tt
places_stay (Some p) name f g es told same took = (took.0, λ t. put_stays p f g (same p refl) ∙ took.1 (sym told ∙ t))

pub took_stays : (w : Fronting) (f g : Option Files) (es : List Entry) → is_some g ≡ is_some f → file_at g w.strings.name ≡ file_at f w.strings.name →
    ForSome w.places (λ places. file_at g places.name ≡ file_at f places.name) → Took w f es → Took w g es
took_stays w f g es told strings places is = record {
  count = is.count;
  last = is.last;
  entries = is.entries;
  place = is.place;
  strings = λ t. put_stays w.strings f g strings ∙ is.strings (sym told ∙ t);
  places = places_stay w.places w.strings.name f g es told places is.places;
}

pub gave_stays : (w : Walking) (f g : Option Files) (es : List Entry) → is_some g ≡ is_some f → file_at g w.feed.name ≡ file_at f w.feed.name → Gave w f es → Gave w g es
gave_stays w f g es told same is = record {
  fits = held_page_stays w.feed f g told same is.fits;
  given = λ t. subst (λ b. Given w b es) (sym (same_bytes f g w.feed.name same)) (is.given (sym told ∙ t));
}

pub fits_stay : (r : Fronted) (f g : Option Files) → is_some g ≡ is_some f → file_at g r.strings.name ≡ file_at f r.strings.name →
    file_at g r.places.name ≡ file_at f r.places.name → FrontFits r f → FrontFits r g
fits_stay r f g told strings places is = record {
  strings = held_page_stays r.strings f g told strings is.strings;
  places = held_page_stays r.places f g told places is.places;
}

pub stands_stay : (r : Fronted) (f g : Option Files) (es : List Entry) → is_some g ≡ is_some f → file_at g r.strings.name ≡ file_at f r.strings.name →
    file_at g r.places.name ≡ file_at f r.places.name → FrontStands r f es → FrontStands r g es
stands_stay r f g es told strings places is = record {
  told = told ∙ is.told;
  strings = subst (λ b. IsFront r.width b es) (sym (same_bytes f g r.strings.name strings)) is.strings;
  places = same_bytes f g r.places.name places ∙ is.places;
  count = is.count;
  small = subst (λ b. length b < 2 ^ 32) (sym (same_bytes f g r.strings.name strings)) is.small;
}
