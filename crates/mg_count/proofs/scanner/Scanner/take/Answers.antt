use Rattle.std.proofs.Common.{◌≢◌, refl, sym, subst}
use Rattle.mg_count.specs.Scanning.{HasMet, Scanning}
use Rattle.mg_count.proofs.Scans.{met-byte, met-closed}
use Rattle.mg_count.proofs.scanner.Scanner.take.Goals as goal

pub returns-in-Close : goal.returns-in-Close
returns-in-Close c = record {
  met = λ fed met h.
      let i = c.self.inside in
      let s : Scanning = record { seen = i.splitter; reading = i.reader; is_open = i.is_open; met = i.met } in
      let before : HasMet s fed met = subst (λ (v : Scanning). HasMet v fed met) (sym c.self.view_is) h in
      let stands = c.feed.ensures.stands fed before.seen in
      met-closed s c.feed.new.self c.end_document.new.reader c.end_document.new.met fed met c.args.byte (c.in-Close.ensures.event.0 refl)
      c.end_document.ensures.reader stands c.end_document.ensures.met before;
}

pub returns-in-Byte : goal.returns-in-Byte
returns-in-Byte c = record {
  met = λ fed met h.
      let i = c.self.inside in
      let s : Scanning = record { seen = i.splitter; reading = i.reader; is_open = i.is_open; met = i.met } in
      let before : HasMet s fed met = subst (λ (v : Scanning). HasMet v fed met) (sym c.self.view_is) h in
      let stands = c.feed.ensures.stands fed before.seen in
      let read = c.read_byte.ensures.met in
      let other : c.args.byte ≢ 2 = λ two. let closes = c.in-Byte.ensures.event.1 two in absurd (cc closes) in
      met-byte s c.feed.new.self c.read_byte.new.reader c.read_byte.new.met fed met c.args.byte read.0 other stands read.1 read.2 before;
}
