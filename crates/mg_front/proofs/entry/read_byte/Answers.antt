use Rattle.mg_front.proofs.ReadFacts.{if_ok}
use Rattle.mg_front.proofs.ReadPages.{byte_to, byte_on_some}
use Rattle.mg_front.proofs.entry.read_byte.Goals as goal

pub returns : goal.returns
returns g c =
    let e = c.byte.ensures in
    record {
      read = record { fits = e.fits; file = e.file; looked = e.looked; read_to = byte_to c.args.feed.now c.byte.new.self _ _ c.args.at e.pages; cause = e.cause };
      told = e.told;
      read_on = if_ok c.byte.result _ _ (λ byte held. byte_on_some c.args.feed.now c.byte.new.self _ _ c.args.at byte held e.pages) e.held;
    }
