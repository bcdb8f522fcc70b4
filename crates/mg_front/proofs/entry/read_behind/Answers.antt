use Rattle.std.proofs.Common.{arith, ◌+◌, ◌≡◌, ℕ, Bool, true, List, IfOk, refl, length-take}
use Rattle.mg_dev.specs.Files.{bytes_at}
use Rattle.mg_front.specs.Entries.{IsPut, IsBehind}
use Rattle.mg_front.specs.Looks.{ReadOn}
use Rattle.mg_front.proofs.ReadFacts.{if_ok, told_as}
use Rattle.mg_front.proofs.HeadFacts.{always_ok, behind_short, behind_put}
use Rattle.mg_front.proofs.ReadPages.{on_after}
use Rattle.mg_front.proofs.ReadSteps.{piece_failed, piece_read, reads_then, reads_wider}
use Rattle.mg_front.proofs.entry.read_behind.Goals as goal

pub returns-in-Err : goal.returns-in-Err
returns-in-Err g c = record { behind = piece_failed (omega (arith, c.from-count.ensures)) c.in-Err.ensures.read; length = tt }

pub returns-in-Ok-false : goal.returns-in-Ok-false
returns-in-Ok-false g c = record {
  behind =
      piece_read (omega (arith, c.from-count.ensures)) _ c.in-Ok-false.ensures.read
      (λ told. behind_short c.args.head c.args.width c.args.out.now.string c.read_bytes.new.out c.args.at c.from-count.result
      (bytes_at (g.S.Store.files c.args.store.now) c.args.feed.now.name) c.in-Ok-false.field-0 c.in-Ok-false.field-0-test c.from-count.ensures
      (rw c.from-from.ensures at (c.in-Ok-false.ensures.told told)))
      (λ is. absurd cc);
  length = λ is. absurd cc;
}

pub returns : goal.returns
returns g c =
    let files = g.S.Store.files c.args.store.now in
    let name = c.args.feed.now.name in
    let first = c.in-Ok-true.ensures in
    let one = first.read_on c.in-Ok-true.field-0-test in
    let two = c.read_bytes-2.ensures in
    let put = λ (bs : List ℕ) (whole : Bool). IsPut whole c.args.out.now.field c.read_bytes-2.new.out 0 c.args.width (c.args.at + c.from-count.result) bs in
    record {
      behind = record {
        read = reads_wider (omega (arith, c.from-count.ensures)) (reads_then first.read one two.read);
        told = λ told.
            let next = told_as (λ bs. IfOk c.read_bytes-2.result (put bs)) files _ name _ first.read.looked.files first.read.file.name two.told told in
            if_ok c.read_bytes-2.result (put (bytes_at files name)) (λ whole. IsBehind whole c.args.head c.args.width c.args.out.now.string c.read_bytes.new.out
            c.read_bytes-2.new.out c.args.at (bytes_at files name))
            (λ b two. behind_put c.args.head c.args.width c.args.out.now.string c.read_bytes.new.out c.args.out.now.field c.read_bytes-2.new.out c.args.at c.from-from.result
            c.from-count.result (bytes_at files name) c.in-Ok-true.field-0 b c.in-Ok-true.field-0-test c.from-from.ensures c.from-count.ensures (first.told told) two)
            next;
        read_on = if_ok c.read_bytes-2.result _ (λ whole. whole ≡ true → ReadOn c.args.feed.now c.read_bytes-2.new.feed (g.S.Store.reads c.args.store.now)
            (g.S.Store.reads c.read_bytes-2.new.store) c.args.at (c.args.at + c.args.head.more + c.args.width))
            (λ b two is. on_after (omega (arith, c.from-count.ensures)) first.read.file.part one (two is)) two.read_on;
      };
      length = always_ok c.read_bytes-2.result _ (λ b is. record {
        length_is = refl;
        shared_there = omega (arith, length-take (c.args.head.shared + c.args.head.more) c.read_bytes.new.out, c.read_bytes.auto.out, c.requires.room);
      });
    }
