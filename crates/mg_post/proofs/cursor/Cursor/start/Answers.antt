use Rattle.std.proofs.Common.{arith, false, length, refl, ap}
use Rattle.std.proofs.lemmas.Bool.{false≢true}
use Rattle.mg_post.specs.Cursor.{Cursoring}
use Rattle.mg_post.proofs.CursorLaws.{starts}
use Rattle.mg_post.proofs.PagesOnceLaws.{starts_once}
use Rattle.mg_post.proofs.ShownLaws.{shown_start}
use Rattle.mg_post.proofs.SoundLaws.{nothing_held}
use Rattle.mg_post.proofs.TermLaws.{term_starts}
use Rattle.mg_post.proofs.cursor.Cursor.start.Goals as goal

pub returns-in-Ok-part_reader-clause-over : goal.returns-in-Ok-part_reader-clause-over
returns-in-Ok-part_reader-clause-over g c =
    let list = c.list_told.ensures in
    record {
      post_is = c.in-Ok.ensures.unread.name;
      skip_is = c.in-Ok-part_reader.ensures.name;
      post_at_is = list.post_at;
      skip_at_is = list.skip_at;
      docs_is = list.docs;
      all_is = list.all_is;
    }

pub returns-in-Ok-part_reader-clause-at : goal.returns-in-Ok-part_reader-clause-at
returns-in-Ok-part_reader-clause-at g c = λ ps. record { on = rw c.in-Ok.ensures.nothing (starts ps) }

pub returns-in-Ok-part_reader-clause-once : goal.returns-in-Ok-part_reader-clause-once
returns-in-Ok-part_reader-clause-once g c = λ ps. starts_once _ _ ps _ _ c.in-Ok.ensures.unread.held c.in-Ok.ensures.unread.count

pub returns-in-Ok-part_reader-clause-term : goal.returns-in-Ok-part_reader-clause-term
returns-in-Ok-part_reader-clause-term g c = λ collection asked t n told all.
    let list = c.list_told.ensures in
    let post = c.in-Ok.ensures in
    let made : Cursoring = record {
      post = c.in-Ok.post.reader.feed;
      skip = c.in-Ok-part_reader.skip.feed;
      post_at = c.list_told.result.post_at;
      skip_at = c.list_told.result.skip_at;
      docs = c.list_told.result.docs;
      all = c.list_told.result.all;
      parameter = c.list_told.result.parameter.value;
      reached = 0;
      last = 0;
      held = c.in-Ok.post.block;
      ended = false;
      entered = c.in-Ok.post.entered;
    } in
    term_starts c.args.base.now collection asked t n c.args.all c.args.info.now made told all
    (record {
      post_is = post.unread.name;
      skip_is = c.in-Ok-part_reader.ensures.name;
      post_at_is = list.post_at;
      skip_at_is = list.skip_at;
      docs_is = list.docs;
      all_is = list.all_is;
    })
    list.parameter
    (λ ps. record { on = rw post.nothing (starts ps) })
    post.none
    (omega (arith, post.unread.count))
    (λ ps. starts_once _ _ ps _ _ post.unread.held post.unread.count)

pub returns-in-Ok-part_reader-clause-shown : goal.returns-in-Ok-part_reader-clause-shown
returns-in-Ok-part_reader-clause-shown g c = shown_start refl refl refl c.in-Ok.ensures.nothing

pub returns-in-Ok-part_reader-clause-whole : goal.returns-in-Ok-part_reader-clause-whole
returns-in-Ok-part_reader-clause-whole g c = omega (arith, ap length c.in-Ok.ensures.nothing, c.list_told.ensures.docs)

pub invariant_of-result : goal.invariant_of-result
invariant_of-result g c =
    let post = c.in-Ok.ensures in (
      omega arith,
      omega arith,
      post.unread.part,
      c.in-Ok-part_reader.ensures.part,
      omega (arith, post.none),
      λ e. absurd (false≢true e),
      nothing_held c.list_told.result.all 0 c.in-Ok.post.block post.nothing,
      omega (arith, post.unread.count),
      record { first = λ on none. (refl, refl); all = λ off. absurd (false≢true off) },
      omega arith,
    )
