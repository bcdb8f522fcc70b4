-- What the first pass over two texts does.
use Rattle.std.specs.Prelude.{IfErr, OnErr}
use Rattle.std.specs.declared.result.Result.{Result}
use Rattle.mg_dev.specs.Moments.{StoreAt, StoreRose}
use Rattle.mg_dev.specs.declared.device.Failed.{Failed}
use Rattle.mg_dev.specs.declared.fault.Fault.{Fault}
use Rattle.mg_merge.specs.Looks.{LooksAtTexts}
use Rattle.mg_merge.specs.Stops.{CountingStops}
use Rattle.mg_merge.specs.Texts.{SameTexts, TextsFit, TextsStand, TwoTexts}

-- The first pass counts the documents of two texts, told of the store before it and after it.
pub record CountsTexts {T : Type 0} (t t_now : TwoTexts) (store store_now : StoreAt) (result : Result T Fault) : Type 0 where
  -- they are still the same texts, and what is held of them agrees with the files
  pub fits : TextsFit t_now store_now.files
  pub same : SameTexts t t_now
  -- only heads, models and texts are read
  pub looks : LooksAtTexts store.files store_now.files store.reads store_now.reads store.faults store_now.faults
  -- the cause of each refusal
  pub refused : IfErr result (CountingStops (StoreRose store store_now) (TextsStand t store.files))

-- ---- counted by the symbols of their pieces

-- The pieces of two texts are counted by their symbols, or not to the end, told of the store before it and after it.
pub record TalliesTexts {T : Type 0} (t t_now : TwoTexts) (store store_now : StoreAt) (result : Result T Failed) : Type 0 where
  -- they are still the same texts, and what is held of them agrees with the files
  pub fits : TextsFit t_now store_now.files
  pub same : SameTexts t t_now
  -- only heads, models and texts are read
  pub looks : LooksAtTexts store.files store_now.files store.reads store_now.reads store.faults store_now.faults
  -- the store failed only where its faults rose
  pub cause : OnErr result (StoreRose store store_now)
