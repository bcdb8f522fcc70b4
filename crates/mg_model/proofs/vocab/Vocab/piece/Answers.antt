use Rattle.std.proofs.Common.{◌≤◌, ◌∙◌, ℕ, List, sym, ap, subst, length, slice_get, Some}
use Rattle.std.specs.List.{AllByRecursion}
use Rattle.mg_model.specs.Vocabularies.{pieces_of}
use Rattle.mg_model.proofs.Codes.{pieces-short}
use Rattle.mg_model.proofs.Counting.{piece-there}
use Rattle.mg_model.proofs.Lists.{all-there}
use Rattle.mg_model.proofs.vocab.Vocab.piece.Goals as goal

pub returns-in-Some-clause-piece : goal.returns-in-Some-clause-piece
returns-in-Some-clause-piece c =
    ap (λ es. slice_get (pieces_of es) c.args.place) (sym c.self.view_is) ∙ piece-there c.self.inside.longer.keys c.self.inside.counts.entries c.args.place _ _
    (sym c.in-Some.ensures.entry) ∙ ap Some (sym c.piece_of.ensures)

pub returns-in-Some-clause-short : goal.returns-in-Some-clause-short
returns-in-Some-clause-short c =
    all-there (λ (p : List ℕ). length p ≤ 255) (pieces_of c.args.self.now) c.args.place c.piece_of.result.now
    (pieces-short c.args.self.now (subst (AllByRecursion (λ (e : List ℕ × ℕ). length e.0 ≤ 255)) c.self.view_is c.self.invariant.vocabulary.short))
    (returns-in-Some-clause-piece c)
