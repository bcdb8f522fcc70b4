use Rattle.std.proofs.Common.{arith}
use Rattle.mg_dev.specs.declared.part_err.PartErr.TheVariants.{Memory}
use Rattle.mg_check_parts.proofs.CallerLemmas.{rising_of}
use Rattle.mg_check_text.proofs.CallerLemmas.{text_err, text_ok, text_own}
use Rattle.mg_check.proofs.IndexLaws.{range_of_index, room_of_docs, whole_room}
use Rattle.mg_check_index.proofs.CallerLemmas.{rooms_of, rooms_stay}
use Rattle.mg_check.proofs.index.read_range.Goals as goal

pub returns-in-Err-clause-text : goal.returns-in-Err-clause-text
returns-in-Err-clause-text g c = text_own Memory _ _ _ c.requires.index.text.fits tt

pub range_end-end-requires-clause-some : goal.range_end-end-requires-clause-some
range_end-end-requires-clause-some g c = omega (arith, c.requires.more, c.requires.index.sizes.each)

pub range_end-end-requires-clause-few : goal.range_end-end-requires-clause-few
range_end-end-requires-clause-few g c = omega (arith, c.requires.index.text.few, c.requires.index.sizes.each)

pub range_end-end-requires-clause-each : goal.range_end-end-requires-clause-each
range_end-end-requires-clause-each g c = λ k lt. omega (arith, c.requires.index.sizes.within k lt, c.requires.index.most)

pub returns-in-Ok-read_postings-clause-range : goal.returns-in-Ok-read_postings-clause-range
returns-in-Ok-read_postings-clause-range g c =
    let rooms = c.in-Ok.ensures.rooms in
    let same = c.in-Ok-read_postings.ensures.filled.rooms in
    let sizes = c.requires.index.sizes in
    record {
      some = omega (arith, rooms.count, same.count, c.range_end-end.ensures.after);
      range = omega (arith, rooms.first_is, rooms.count, same.first, same.count, c.range_end-end.ensures.after, c.range_end-end.ensures.within, sizes.each);
      laid = c.in-Ok-read_postings.ensures.filled.laid;
      rooms = rooms_stay c.in-Ok.lists c.read_postings.new.lists c.args.of.now.documents same
          (rooms_of c.in-Ok.lists c.args.of.now.docs.now c.args.first c.range_end-end.result _ c.args.of.now.documents rooms sizes
          c.range_end-end.ensures.within);
      most = c.requires.index.most;
      few = c.requires.index.text.few;
      rising = rising_of c.args.of.now.table.now _ c.requires.index.text.table_is;
    }

pub returns-in-Ok-read_postings-clause-first : goal.returns-in-Ok-read_postings-clause-first
returns-in-Ok-read_postings-clause-first g c = omega (arith, c.in-Ok.ensures.rooms.first_is, c.in-Ok-read_postings.ensures.filled.rooms.first)

pub returns-in-Ok-read_postings-clause-held : goal.returns-in-Ok-read_postings-clause-held
returns-in-Ok-read_postings-clause-held g c = λ collection is.
    let room = room_of_docs c.in-Ok.lists c.args.first c.range_end-end.result is c.in-Ok.ensures.rooms c.range_end-end.ensures.within in
    range_of_index c.in-Ok.lists c.read_postings.new.lists c.args.of.now.documents is room c.in-Ok-read_postings.ensures.filled.rooms c.requires.index.text.all
    (c.in-Ok-read_postings.ensures.held collection is.stands (whole_room c.in-Ok.lists is room c.in-Ok.ensures.beside))

pub returns-in-Ok-read_postings-clause-text : goal.returns-in-Ok-read_postings-clause-text
returns-in-Ok-read_postings-clause-text g c = text_ok c.in-Ok-read_postings.ensures.filled.text

pub returns-in-Err-read_postings-clause-never_bad : goal.returns-in-Err-read_postings-clause-never_bad
returns-in-Err-read_postings-clause-never_bad g c = λ collection is.
    let room = room_of_docs c.in-Ok.lists c.args.first c.range_end-end.result is c.in-Ok.ensures.rooms c.range_end-end.ensures.within in
    c.in-Err-read_postings.ensures.never_bad collection is.stands (whole_room c.in-Ok.lists is room c.in-Ok.ensures.beside)

pub returns-in-Err-read_postings-clause-text : goal.returns-in-Err-read_postings-clause-text
returns-in-Err-read_postings-clause-text g c = text_err c.in-Err-read_postings.ensures.filled.text

pub read_postings-requires-clause-text : goal.read_postings-requires-clause-text
read_postings-requires-clause-text g c = c.requires.index.text

pub read_postings-requires-clause-fill : goal.read_postings-requires-clause-fill
read_postings-requires-clause-fill g c =
    let rooms = c.in-Ok.ensures.rooms in
    record { laid = c.in-Ok.ensures.laid; range = omega (arith, rooms.first_is, rooms.count, c.range_end-end.ensures.after, c.range_end-end.ensures.within, c.requires.index.sizes.each) }
