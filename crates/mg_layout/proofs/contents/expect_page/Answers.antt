use Rattle.std.proofs.Common.{arith, rules}
use Rattle.std.proofs.lemmas.Grind.{common_steps}
use Rattle.mg_layout.proofs.ContentLaws.{read_once}
use Rattle.mg_layout.proofs.contents.expect_page.Goals as goal

pub returns-in-Err : goal.returns-in-Err
returns-in-Err g c =
    let e = c.in-Err.ensures in
    record {
      answer = λ told. tt;
      memory = λ is. absurd cc;
      files = e.files;
      reads = read_once _ _ c.args.file.now.part e.reads;
      cause = record { later = e.cause.later; device = e.cause.failed };
    }

-- the bytes end before
pub returns-then-read-count : goal.returns-then-read-count
returns-then-read-count g c =
    let e = c.in-Ok.ensures in
    record {
      answer = search rules;
      memory = λ is. absurd cc;
      files = e.files;
      reads = read_once _ _ c.args.file.now.part e.reads;
      cause = record { later = e.cause.later; device = tt };
    }

pub returns-in-None : goal.returns-in-None
returns-in-None g c =
    let e = c.in-Ok.ensures in
    record {
      answer = grind (arith, common_steps);
      memory = λ is. absurd cc;
      files = e.files;
      reads = read_once _ _ c.args.file.now.part e.reads;
      cause = record { later = e.cause.later; device = tt };
    }

-- one of them is another
pub returns-in-Some : goal.returns-in-Some
returns-in-Some g c =
    let e = c.in-Ok.ensures in
    record {
      answer = grind (arith, common_steps);
      memory = λ is. absurd cc;
      files = e.files;
      reads = read_once _ _ c.args.file.now.part e.reads;
      cause = record { later = e.cause.later; device = tt };
    }
