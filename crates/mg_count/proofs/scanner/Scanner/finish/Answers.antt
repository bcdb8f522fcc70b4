use Rattle.std.proofs.Common.{ap, sym, subst}
use Rattle.mg_count.specs.Meeting.{Meeting, marks_of}
use Rattle.mg_count.specs.Scanning.{HasMet, Scanning}
use Rattle.mg_count.proofs.Scans.{end-closed, end-open}
use Rattle.mg_count.proofs.scanner.Scanner.finish.Goals as goal

pub returns-then-self : goal.returns-then-self
returns-then-self c = record {
  met = λ fed met h.
      let i = c.self.inside in
      let s : Scanning = record { seen = i.splitter; reading = i.reader; is_open = i.is_open; met = i.met } in
      let before : HasMet s fed met = subst (λ (v : Scanning). HasMet v fed met) (sym c.self.view_is) h in
      end-open s c.end_document.new.met fed met c.if-self.true c.end_document.ensures.met before;
}

pub returns-else-self : goal.returns-else-self
returns-else-self c = record {
  met = λ fed met h.
      let i = c.self.inside in
      let s : Scanning = record { seen = i.splitter; reading = i.reader; is_open = i.is_open; met = i.met } in
      let before : HasMet s fed met = subst (λ (v : Scanning). HasMet v fed met) (sym c.self.view_is) h in
      end-closed s c.restart.new.self fed met c.if-self.false (ap (λ (m : Meeting). marks_of m) c.restart.ensures) before;
}
