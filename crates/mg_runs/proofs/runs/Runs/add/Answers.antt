use Rattle.std.proofs.Common.{rules, arith, ◌≡◌, ◌≤◌, ◌<◌, ◌/◌, ℕ, length, refl}
use Rattle.mg_runs.specs.Fed.{IsOccurrence}
use Rattle.mg_runs.proofs.Feeding.{fed_most, fed_entries, fed_may_end, fed_room, fed_full}
use Rattle.mg_runs.proofs.runs.Runs.add.Goals as goal
use Rattle.mg_runs.proofs.runs.Runs.add.Goals.{then-is_full+in_ok-end_run, else-is_full}

less : (m n : ℕ) → m ≤ n → (m ≡ n → ⊥) → m < n
less m n h k = omega arith

pub end_run-requires-clause-entries : goal.end_run-requires-clause-entries
end_run-requires-clause-entries g c =
    let was = rw (← c.self.view_is) at c.requires.fed.2 in
    fed_entries _ _ c.requires.fed.0 was

pub end_run-requires-clause-writer : goal.end_run-requires-clause-writer
end_run-requires-clause-writer g c =
    let was = rw (← c.self.view_is) at c.requires.fed.2 in
    fed_may_end _ _ c.requires.fed.0 was

pub returns-clause-fed : goal.returns-clause-fed
returns-clause-fed g c = λ fed few is.
    let was = rw (← c.self.view_is) at is in
    let new : IsOccurrence (c.args.term, c.args.doc) = record { term = c.ranges.term.fits; some = c.requires.doc; doc = c.ranges.doc.fits } in
    elim c.if-is_full.branch [
      | then-is_full+in_ok-end_run w ↦
          let full : length c.self.inside.pool.entries ≡ c.self.inside.pool.limit / 12 = search rules in
          let pe = rw (w.self-inside-is, w.in_ok-end_run.ensures.spilled.empty) at c.push.ensures.entries in
          let pp = rw (w.self-inside-is, w.end_run.ensures.spilled.peak) at c.push.ensures.peak in
          let pl = rw (w.self-inside-is, w.end_run.ensures.spilled.limit) at c.push.ensures.limit in
          rw (w.self-inside-is, w.store-is)
          (fed_full _ _ _ _ fed (c.args.term, c.args.doc) was full new few w.end_run.ensures.spilled.wrote.told w.in_ok-end_run.ensures.spilled.bits w.in_ok-end_run.ensures.spilled.holds
          w.in_ok-end_run.ensures.spilled.whole w.in_ok-end_run.ensures.spilled.place pe c.push.ensures.slots pp pl w.in_ok-end_run.ensures.places refl)
      | else-is_full w ↦
          let other : length c.self.inside.pool.entries ≡ c.self.inside.pool.limit / 12 → ⊥ = search rules in
          let room = less _ _ (fed_most _ _ fed was) other in
          let pe = rw w.self-inside-is at c.push.ensures.entries in
          let pp = rw w.self-inside-is at c.push.ensures.peak in
          let pl = rw w.self-inside-is at c.push.ensures.limit in
          rw (w.self-inside-is, w.store-is) (fed_room _ _ _ fed (c.args.term, c.args.doc) was room new few pe c.push.ensures.slots pp pl refl refl refl)
    ]
