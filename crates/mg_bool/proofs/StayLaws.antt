-- What was kept agrees with the two parts while other files change.
use Rattle.std.proofs.Common.{◌≡◌, ℕ, List, refl, sym, ap, ◌∙◌, Option, Some, None, is_some}
use Rattle.std.specs.Prelude.{slice_index_or}
use Rattle.mg_dev.specs.Files.{Files, file_at}
use Rattle.mg_dev.specs.Names.{full_name}
use Rattle.mg_dev.specs.declared.part.Part.TheVariants.{Post, Skip}
use Rattle.mg_query.specs.QueryOf.{query_of}
use Rattle.mg_defs.specs.ShownAnswers.{satisfying}
use Rattle.mg_post.specs.Cursor.{Cursoring, CursorFits}
use Rattle.mg_bool.specs.Places.{Place, PlaceFits, PlaceOn}
use Rattle.mg_bool.specs.Matches.{MatchesFit, Matching, left_of}

pub all_left : (collection : List ℕ) (m : Matching) → m.decided ≡ 0 → left_of collection m ≡ satisfying collection (query_of m.asks)
all_left collection m none = rw none refl

-- what mg_post says of one cursor
abbrev pub CursorsStay : Type 0
CursorsStay = (c : Cursoring) (f g : Option Files) → is_some g ≡ is_some f → file_at g c.post.name ≡ file_at f c.post.name →
    file_at g c.skip.name ≡ file_at f c.skip.name → CursorFits c f → CursorFits c g

place_stays : (base : List ℕ) (all : ℕ) (f g : Option Files) (p : Place) → CursorsStay → is_some g ≡ is_some f →
    file_at g (full_name base Post) ≡ file_at f (full_name base Post) → file_at g (full_name base Skip) ≡ file_at f (full_name base Skip) → PlaceOn base all p →
    PlaceFits f p → PlaceFits g p
place_stays base all f g None law told post skip on fits = tt
place_stays base all f g (Some c) law told post skip on fits =
    law c f g told (ap (file_at g) on.post ∙ post ∙ sym (ap (file_at f) on.post)) (ap (file_at g) on.skip ∙ skip ∙ sym (ap (file_at f) on.skip)) fits

pub matches_stay : (base : List ℕ) (f g : Option Files) (m : Matching) → CursorsStay → is_some g ≡ is_some f →
    file_at g (full_name base Post) ≡ file_at f (full_name base Post) → file_at g (full_name base Skip) ≡ file_at f (full_name base Skip) →
    MatchesFit base f m → MatchesFit base g m
matches_stay base f g m law told post skip fit = record {
  on = fit.on;
  fits = record { each = λ k lt. place_stays base m.all f g (slice_index_or m.places k None) law told post skip (fit.on.each k) (fit.fits.each k lt) };
}
