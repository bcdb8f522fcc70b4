use Rattle.std.proofs.Common.{◌≡◌, ℕ, Bool, true, false, not, ◌&&◌, List, [], ◌∷◌, refl}
use Rattle.mg_defs.specs.declared.Stream.{Stream}
use Rattle.mg_defs.specs.Marks.{piece}
use Rattle.mg_count.specs.Meeting.{marks_of}
use Rattle.mg_count.proofs.met.Met.is_piece_alone.Goals as goal

alone : (one begins other ends : Bool) (kind : Stream) (bytes : List ℕ) → (((one && not begins) && not other) && not ends) ≡ true →
    marks_of (record { begins = begins; has_piece = one; has_other = other; ends = ends; kind = kind; bytes = bytes }) ≡ piece kind bytes ∷ []
alone true false false false kind bytes is = refl
alone true false false true kind bytes is = absurd cc
alone true false true ends kind bytes is = absurd cc
alone true true other ends kind bytes is = absurd cc
alone false begins other ends kind bytes is = absurd cc

pub returns : goal.returns
returns c = rw (← c.self.view_is) (λ is. alone _ _ _ _ _ _ is)
