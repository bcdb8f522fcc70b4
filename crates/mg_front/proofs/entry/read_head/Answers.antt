use Rattle.std.proofs.Common.{arith, ◌≡◌, ◌+◌, sym, ◌∙◌, slice_get, None, Some}
use Rattle.mg_dev.specs.Files.{bytes_at}
use Rattle.mg_front.specs.Entries.{string_of}
use Rattle.mg_front.proofs.ReadFacts.{told_as, cut_no_head, cut_no_more}
use Rattle.mg_front.proofs.HeadFacts.{head_told, head_room, where_some}
use Rattle.mg_front.proofs.ReadPages.{on_after}
use Rattle.mg_front.proofs.ReadSteps.{piece_failed, piece_read, reads_then}
use Rattle.mg_front.proofs.entry.read_head.Goals as goal

pub returns-in-Err : goal.returns-in-Err
returns-in-Err g c = record { head = piece_failed (omega arith) c.in-Err.ensures.read; room = tt }

pub returns-in-Ok-None : goal.returns-in-Ok-None
returns-in-Ok-None g c = record {
  head =
      piece_read (omega arith) None c.in-Ok-None.ensures.read
      (λ told width. cut_no_head width (string_of c.args.before.now) (bytes_at (g.S.Store.files c.args.store.now) c.args.feed.now.name) c.args.at
      (sym c.in-Ok-None.field-0-is ∙ c.in-Ok-None.ensures.told told)) tt;
  room = tt;
}

pub returns-in-Err-read_byte : goal.returns-in-Err-read_byte
returns-in-Err-read_byte g c =
    let first = rw c.in-Ok-Some.field-0-is at c.in-Ok-Some.ensures in
    record { head = piece_failed (omega arith) (reads_then first.read first.read_on c.in-Err-read_byte.ensures.read); room = tt }

pub returns-in-Ok-None-read_byte : goal.returns-in-Ok-None-read_byte
returns-in-Ok-None-read_byte g c =
    let files = g.S.Store.files c.args.store.now in
    let name = c.args.feed.now.name in
    let first = rw c.in-Ok-Some.field-0-is at c.in-Ok-Some.ensures in
    record {
      head =
          piece_read (omega arith) None (reads_then first.read first.read_on c.in-Ok-None-read_byte.ensures.read)
          (λ told width.
          let next = told_as (λ bs. c.in-Ok-None-read_byte.field-0 ≡ slice_get bs (c.args.at + 1)) files _ name _ first.read.looked.files first.read.file.name
          c.in-Ok-None-read_byte.ensures.told told in
          cut_no_more width (string_of c.args.before.now) (bytes_at files name) c.args.at c.in-Ok-Some.shared (first.told told) (sym c.in-Ok-None-read_byte.field-0-is ∙ next)) tt;
      room = tt;
    }

pub returns-in-Ok-Some-read_byte : goal.returns-in-Ok-Some-read_byte
returns-in-Ok-Some-read_byte g c =
    let files = g.S.Store.files c.args.store.now in
    let name = c.args.feed.now.name in
    let first = rw c.in-Ok-Some.field-0-is at c.in-Ok-Some.ensures in
    let second = rw c.in-Ok-Some-read_byte.field-0-is at c.in-Ok-Some-read_byte.ensures in
    record {
      head =
          piece_read (omega arith) c.head_after.result (reads_then first.read first.read_on second.read)
          (λ told.
          let next = told_as (λ bs. Some c.in-Ok-Some-read_byte.more ≡ slice_get bs (c.args.at + 1)) files _ name _ first.read.looked.files first.read.file.name second.told told in
          head_told _ (string_of c.args.before.now) c.in-Ok-Some.shared c.in-Ok-Some-read_byte.more c.args.at (bytes_at files name) (first.told told) next c.head_after.ensures)
          (where_some _ _ (on_after (omega arith) first.read.file.part first.read_on second.read_on));
      room = head_room _ (string_of c.args.before.now) c.in-Ok-Some.shared c.in-Ok-Some-read_byte.more c.head_after.ensures;
    }
