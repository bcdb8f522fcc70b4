use Rattle.std.proofs.Common.{rules, ◌≡◌, true, take, sym, subst}
use Rattle.mg_count.specs.Scanning.{HasMet, Scanning}
use Rattle.mg_count.proofs.ReadingOn.{met-read_on}
use Rattle.mg_count.proofs.scanner.Scanner.go_on.Goals as goal

pub returns-clause-met : goal.returns-clause-met
returns-clause-met c = λ fed met h.
    let i = c.self.inside in
    let s : Scanning = record { seen = i.splitter; reading = i.reader; is_open = i.is_open; met = i.met } in
    let before : HasMet s fed met = subst (λ (v : Scanning). HasMet v fed met) (sym c.self.view_is) h in
    let is_open : i.is_open ≡ true = search rules in
    met-read_on s c.read_on.new.reader fed (take c.read_on.result c.args.bytes.now) met is_open c.read_on.ensures.read before
