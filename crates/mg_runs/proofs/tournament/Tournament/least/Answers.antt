use Rattle.std.proofs.Common.{◌≡◌, ◌<◌, ℕ, List, length, get_or, sym, ◌∙◌, arith}
use Rattle.std.proofs.lemmas.List.{get_or_default}
use Rattle.mg_runs.proofs.Tournaments.{least_within, least_least}
use Rattle.mg_runs.proofs.tournament.Tournament.least.Goals as goal

pub returns-clause-within : goal.returns-clause-within
returns-clause-within c =
    let ws : List ℕ = c.self.inside.winners.items in
    let more : 1 < length ws = omega (arith, c.self.invariant.played.winners_length, c.self.invariant.some) in
    let e : get_or ws 1 0 ≡ c.index.result.now = sym (c.index.ensures ∙ get_or_default ws 1 c.index.result.now 0 more) in
    rw (← c.self.view_is, ← e) (least_within c.self.inside.count c.self.inside.keys.items ws c.self.invariant)

pub returns-clause-least : goal.returns-clause-least
returns-clause-least c =
    let ws : List ℕ = c.self.inside.winners.items in
    let more : 1 < length ws = omega (arith, c.self.invariant.played.winners_length, c.self.invariant.some) in
    let e : get_or ws 1 0 ≡ c.index.result.now = sym (c.index.ensures ∙ get_or_default ws 1 c.index.result.now 0 more) in
    rw (← c.self.view_is, ← e) (least_least c.self.inside.count c.self.inside.keys.items ws c.self.invariant)
