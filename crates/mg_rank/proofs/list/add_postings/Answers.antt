use Rattle.std.proofs.Common.{arith, ◌^◌, refl}
use Rattle.mg_defs.specs.Lists.{postings}
use Rattle.mg_defs.specs.PageBounds.{numbers_in}
use Rattle.mg_rank.proofs.ListWalk.{walk_err, walk_first, walk_lack, walk_more, walk_none, walk_over}
use Rattle.mg_post.proofs.CallerLemmas.{pages_in_list}
use Rattle.mg_rank.proofs.list.add_postings.Goals as goal

pub loop-last-init : goal.loop-last-init
loop-last-init g c = walk_first c.requires.fits

pub next_behind-requires-clause-fits : goal.next_behind-requires-clause-fits
next_behind-requires-clause-fits g c = c.loop-last.invariant.going.fits

pub add_posting-requires-clause-small : goal.add_posting-requires-clause-small
add_posting-requires-clause-small g c = omega (arith, (c.loop-last.invariant.going.bounded (2 ^ 40) c.requires.small).each c.in-Ok-Some.posting.doc)

pub returns-in-Ok-None : goal.returns-in-Ok-None
returns-in-Ok-None g c = walk_none c.loop-last.invariant (rw c.in-Ok-None.field-0-is at c.in-Ok-None.ensures)

pub returns-in-Err : goal.returns-in-Err
returns-in-Err g c = walk_err c.in-Err.refusal c.loop-last.invariant c.in-Err.ensures

pub returns-in-Err-add_posting : goal.returns-in-Err-add_posting
returns-in-Err-add_posting g c = walk_lack c.in-Err-add_posting.ensures.err c.loop-last.invariant (rw c.in-Ok-Some.field-0-is at c.in-Ok-Some.ensures)

pub loop-last-preserved : goal.loop-last-preserved
loop-last-preserved g c = walk_more c.loop-last.invariant (rw c.in-Ok-Some.field-0-is at c.in-Ok-Some.ensures) c.in-Ok.ensures.added c.add_posting.ensures.few

-- no set has so many documents
pub returns : goal.returns
returns g c =
    walk_over _ refl c.loop-last.invariant (omega (arith, c.loop-last-test.false))
    (λ base collection t list. (
      omega (
        arith,
        c.cursor_pages_are_within.ensures base collection (numbers_in (postings collection t)) t c.loop-last.last _ list,
        pages_in_list collection (numbers_in (postings collection t)) t,
      ),
      c.each_page_is_read_once.ensures.span base collection (numbers_in (postings collection t)) t c.loop-last.last _ list,
    ))
