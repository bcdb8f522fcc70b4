use Rattle.std.proofs.Common.{ℕ, List, ◌≡◌, length}
use Rattle.std.specs.Prelude.{IfSome}
use Rattle.mg_bool.specs.Places.{AsksAll, IsInRange, PlacesFit, PlacesOn}
use Rattle.mg_bool.proofs.CallLaws.{Stepped}
use Rattle.mg_bool.proofs.FirstLaws.{AskingFirst}
use Rattle.mg_bool.specs.Shown.{PlacesStand}
use Rattle.mg_bool.proofs.ShownLaws.{AskingFirstShown}
use Rattle.mg_bool.proofs.places.ask_first.Given as goal

abbrev pub invariant-loop-i : goal.invariant-loop-i
invariant-loop-i g l = record {
  step : Stepped l.fn.places.items l.places.items (g.S.Store.files l.fn.store) (g.S.Store.files l.store) (g.S.Store.reads l.fn.store)
      (g.S.Store.reads l.store) (g.S.Store.faults l.fn.store) (g.S.Store.faults l.store);
  there : length l.there.items ≡ length l.fn.there.items;
  fits : PlacesFit (g.S.Store.files l.store) l.places.items;
  range : (base : List ℕ) (all : ℕ) → PlacesOn base all l.fn.places.items → IfSome l.first (IsInRange l.from all);
  asking : (base collection asked : List ℕ) (ts : List (List ℕ)) → AsksAll base collection asked ts l.from (g.S.Store.files l.fn.store) l.fn.places.items →
      AskingFirst base collection asked ts l.from l.i l.first l.fn.places.items l.places.items l.there.items (g.S.Store.reads l.fn.store) (g.S.Store.reads l.store);
  shown : PlacesStand (g.S.Store.files l.fn.store) l.fn.places.items l.from →
      AskingFirstShown l.fn.places.items l.places.items (g.S.Store.files l.fn.store) (g.S.Store.files l.store) l.from l.i l.first l.there.items;
}
