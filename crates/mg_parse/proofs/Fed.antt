-- What a splitter stands for after a byte more.
use Rattle.std.proofs.Common.{◌≡◌, ◌≢◌, ℕ, ◌+◌, true, false, List, [], ◌∷◌, ◌++◌, sym, ◌∙◌, ap, add-zero}
use Rattle.std.proofs.lemmas.Bool.{ne_eqb}
use Rattle.mg_defs.proofs.SplitLaws.{closed_count-push, has_open_end-push}
use Rattle.mg_parse.specs.Seen.{Seen, StandsFor}

pub stands_closed : (seen : Seen) (fed : List ℕ) (b : ℕ) → b ≡ 2 → StandsFor seen fed → StandsFor (record { closed = seen.closed + 1; open_end = false }) (fed ++ b ∷ [])
stands_closed seen fed b is_two h = rw is_two (record {
  closed = ap (λ (n : ℕ). n + 1) h.closed ∙ sym (closed_count-push fed 2);
  end = sym (has_open_end-push fed 2);
})

pub stands_open : (seen : Seen) (fed : List ℕ) (b : ℕ) → b ≢ 2 → StandsFor seen fed → StandsFor (record { closed = seen.closed; open_end = true }) (fed ++ b ∷ [])
stands_open seen fed b ne h =
    let count = closed_count-push fed b in
    let ends = has_open_end-push fed b in
    record {
      closed = h.closed ∙ sym ((rw (ne_eqb b 2 ne) at count) ∙ add-zero _);
      end = sym (rw (ne_eqb b 2 ne) at ends);
    }
