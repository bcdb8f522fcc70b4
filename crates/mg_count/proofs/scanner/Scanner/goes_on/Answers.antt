use Rattle.std.proofs.Common.{rules, ◌≡◌, ◌≢◌, true, sym, subst}
use Rattle.mg_count.specs.Scanning.{HasMet, Scanning}
use Rattle.mg_count.proofs.Scans.{met-went_on, read-at_once}
use Rattle.mg_count.proofs.scanner.Scanner.goes_on.Goals as goal

pub returns-clause-met : goal.returns-clause-met
returns-clause-met c = λ taken fed met h.
    let i = c.self.inside in
    let s : Scanning = record { seen = i.splitter; reading = i.reader; is_open = i.is_open; met = i.met } in
    let before : HasMet s fed met = subst (λ (v : Scanning). HasMet v fed met) (sym c.self.view_is) h in
    let is_open : i.is_open ≡ true = search rules in
    let other : c.args.byte ≢ 2 = search rules in
    met-went_on s c.feed.new.self c.offer.new.self fed met c.args.byte is_open other (c.feed.ensures.stands fed before.seen)
    (read-at_once s.reading c.offer.new.self c.args.byte c.in-Taken.ensures.offered) before
