use Rattle.mg_post.proofs.TermLaws.{asked_answer, asked_once, asked_pages}
use Rattle.mg_post.proofs.cursor.Cursor.ask.Goals as goal

pub returns-clause-answer : goal.returns-clause-answer
returns-clause-answer g c = λ base collection asked t may. asked_answer may c.advance_to.ensures.step

pub returns-clause-once : goal.returns-clause-once
returns-clause-once g c = λ base collection asked t may. asked_once may c.advance_to.ensures.step

pub returns-clause-pages : goal.returns-clause-pages
returns-clause-pages g c = λ base collection asked t may.
    let e = c.advance_to.ensures.step in
    asked_pages base collection asked t c.args.doc _ _ _ _ _ _ may e.reads e.entered

pub returns-clause-reads : goal.returns-clause-reads
returns-clause-reads g c = let two = c.advance_to.ensures.step.reads in record { later = two.later; others = two.others }

pub returns-clause-fits : goal.returns-clause-fits
returns-clause-fits g c = c.advance_to.ensures.step.fits

pub returns-clause-same : goal.returns-clause-same
returns-clause-same g c = c.advance_to.ensures.step.same

pub returns-clause-third : goal.returns-clause-third
returns-clause-third g c = c.advance_to.ensures.step.third

pub returns-clause-skips : goal.returns-clause-skips
returns-clause-skips g c = c.advance_to.ensures.step.skips

pub returns-clause-sound : goal.returns-clause-sound
returns-clause-sound g c = c.advance_to.ensures.step.sound

pub returns-clause-next : goal.returns-clause-next
returns-clause-next g c = c.advance_to.ensures.step.next

pub returns-clause-shows : goal.returns-clause-shows
returns-clause-shows g c = c.advance_to.ensures.step.shows

pub returns-clause-part : goal.returns-clause-part
returns-clause-part g c = c.advance_to.ensures.step.part

pub returns-clause-post : goal.returns-clause-post
returns-clause-post g c = c.advance_to.ensures.step.post

pub returns-clause-block : goal.returns-clause-block
returns-clause-block g c = c.advance_to.ensures.step.block

pub returns-clause-entry : goal.returns-clause-entry
returns-clause-entry g c = c.advance_to.ensures.step.entry

pub returns-clause-files : goal.returns-clause-files
returns-clause-files g c = c.advance_to.ensures.step.files

pub returns-clause-memory : goal.returns-clause-memory
returns-clause-memory g c = c.advance_to.ensures.step.memory

pub returns-clause-cause : goal.returns-clause-cause
returns-clause-cause g c = c.advance_to.ensures.step.cause
