use Rattle.std.proofs.Common.{arith, refl}
use Rattle.mg_dev.specs.Files.{bytes_at}
use Rattle.mg_build.proofs.BlockLaws.{ends_before}
use Rattle.mg_build.proofs.source.read_page.Goals as goal

pub returns-in-Ok-Some : goal.returns-in-Ok-Some
returns-in-Ok-Some g c = record {
  turns = record {
    fits = c.byte.ensures.fits;
    file = c.byte.ensures.file;
    turned = record { held = rw c.in-Ok-Some.field-0-is at c.in-Ok-Some.ensures.held; turned = λ other. rw c.requires.part at (c.byte.ensures.turned other) };
    refused = tt;
    tells = tt;
    looked = rw c.requires.part at c.byte.ensures.looked;
  };
}

pub returns-in-Ok-None : goal.returns-in-Ok-None
returns-in-Ok-None g c = record {
  turns = record {
    fits = c.byte.ensures.fits;
    file = c.byte.ensures.file;
    turned = tt;
    refused = (
      omega (arith, c.requires.within),
      λ told. ends_before (bytes_at (g.S.Store.files c.args.store.now) c.args.feed.now.name) c.args.at c.args.size c.requires.within
          (rw c.in-Ok-None.field-0-is at (c.in-Ok-None.ensures.told told)),
    );
    tells = (refl, c.requires.within);
    looked = rw c.requires.part at c.byte.ensures.looked;
  };
}

pub returns-in-Err : goal.returns-in-Err
returns-in-Err g c = record {
  turns = record {
    fits = c.byte.ensures.fits;
    file = c.byte.ensures.file;
    turned = tt;
    refused = c.in-Err.ensures.cause.failed;
    tells = tt;
    looked = rw c.requires.part at c.byte.ensures.looked;
  };
}
