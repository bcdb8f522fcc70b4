-- Two texts, while other files change.
use Rattle.std.proofs.Common.{◌∙◌, ℕ, List, Option, sym, subst}
use Rattle.mg_dev.specs.Files.{Files}
use Rattle.mg_make.specs.Putting.{IsApart, OthersSame}
use Rattle.mg_text.proofs.CallerLemmas.{text_fits, text_stays}
use Rattle.mg_merge.specs.Passes.{AreApart}
use Rattle.mg_merge.specs.Texts.{SameTexts, TextsFit, TextsStand, TwoTexts}

-- both texts stand, and so do they later
pub texts_stay : (base : List ℕ) (t now : TwoTexts) (files files_now : Option Files) (collection : List ℕ) → AreApart base t → SameTexts t now →
    OthersSame base files files_now → TextsStand t files collection → TextsStand now files_now collection
texts_stay base t now files files_now collection apart same others stand = record {
  a = stand.a;
  b = stand.b;
  first = text_stays t.first now.first files files_now stand.a same.first others.told (others.others t.first.text.name apart.first_text)
      (others.others t.first.places.name apart.first_places) stand.first;
  second = text_stays t.second now.second files files_now stand.b same.second others.told (others.others t.second.text.name apart.second_text)
      (others.others t.second.places.name apart.second_places) stand.second;
  open_end = same.open_end ∙ stand.open_end;
  joins = stand.joins;
  size = same.size ∙ stand.size;
}

pub fits_stay : (base : List ℕ) (t : TwoTexts) (files files_now : Option Files) → AreApart base t → OthersSame base files files_now → TextsFit t files → TextsFit t files_now
fits_stay base t files files_now apart others fits = record {
  first = text_fits t.first files files_now others.told (others.others t.first.text.name apart.first_text) (others.others t.first.places.name apart.first_places) fits.first;
  second = text_fits t.second files files_now others.told (others.others t.second.text.name apart.second_text) (others.others t.second.places.name apart.second_places) fits.second;
  ahead = fits.ahead;
  all = fits.all;
  few = fits.few;
}

pub apart_still : (base : List ℕ) (t now : TwoTexts) → SameTexts t now → AreApart base t → AreApart base now
apart_still base t now same apart = record {
  first_text = subst (IsApart base) (sym same.first.text) apart.first_text;
  first_places = subst (IsApart base) (sym same.first.places) apart.first_places;
  second_text = subst (IsApart base) (sym same.second.text) apart.second_text;
  second_places = subst (IsApart base) (sym same.second.places) apart.second_places;
}
