use Rattle.std.proofs.Common.{ℕ, List, ◌≡◌, length}
use Rattle.mg_bool.specs.Places.{Asking, AsksAll, PlacesFit}
use Rattle.mg_bool.proofs.CallLaws.{Stepped}
use Rattle.mg_bool.specs.Shown.{PlacesStand}
use Rattle.mg_bool.proofs.ShownLaws.{AskingShown}
use Rattle.mg_bool.proofs.places.ask_all.Given as goal

abbrev pub invariant-loop-i : goal.invariant-loop-i
invariant-loop-i g l = record {
  step : Stepped l.fn.places.items l.places.items (g.S.Store.files l.fn.store) (g.S.Store.files l.store) (g.S.Store.reads l.fn.store)
      (g.S.Store.reads l.store) (g.S.Store.faults l.fn.store) (g.S.Store.faults l.store);
  there : length l.there.items ≡ length l.fn.there.items;
  fits : PlacesFit (g.S.Store.files l.store) l.places.items;
  asking : (base collection asked : List ℕ) (ts : List (List ℕ)) → AsksAll base collection asked ts l.doc (g.S.Store.files l.fn.store) l.fn.places.items →
      Asking base collection asked ts l.doc l.i l.fn.places.items l.places.items l.there.items (g.S.Store.reads l.fn.store) (g.S.Store.reads l.store);
  shown : PlacesStand (g.S.Store.files l.fn.store) l.fn.places.items l.doc →
      AskingShown l.fn.places.items l.places.items (g.S.Store.files l.fn.store) (g.S.Store.files l.store) l.doc l.i l.there.items;
}
