use Rattle.std.proofs.Common.{arith, ◌∙◌, refl}
use Rattle.mg_merge.proofs.LookLaws.{looks_more, looks_text}
use Rattle.mg_merge.proofs.TallyLaws.{failed_behind, texts_counted}
use Rattle.mg_merge.proofs.TextLaws.{fits_first, fits_on, same_first}
use Rattle.mg_merge.proofs.texts.TextsDocuments.count.Goals as goal

-- ---- the first text was not counted

pub returns-in-Err-clause-fits : goal.returns-in-Err-clause-fits
returns-in-Err-clause-fits g c =
    let read = c.in-Err.ensures.reads in
    fits_first _ _ _ _ (rw (← c.self.view_is) at c.requires.fits) read.fits read.looked.files read.same.documents

pub returns-in-Err-clause-same : goal.returns-in-Err-clause-same
returns-in-Err-clause-same g c = rw (← c.self.view_is) (same_first _ _ c.in-Err.ensures.reads.same)

pub returns-in-Err-clause-looks : goal.returns-in-Err-clause-looks
returns-in-Err-clause-looks g c = looks_text c.in-Err.ensures.reads.looked

pub returns-in-Err-clause-failed : goal.returns-in-Err-clause-failed
returns-in-Err-clause-failed g c = c.in-Err.ensures.reads.cause.failed

pub returns-then-not-first-clause-fits : goal.returns-then-not-first-clause-fits
returns-then-not-first-clause-fits g c =
    let read = c.in-Ok.ensures.reads in
    fits_first _ _ _ _ (rw (← c.self.view_is) at c.requires.fits) read.fits read.looked.files read.same.documents

pub returns-then-not-first-clause-same : goal.returns-then-not-first-clause-same
returns-then-not-first-clause-same g c = rw (← c.self.view_is) (same_first _ _ c.in-Ok.ensures.reads.same)

pub returns-then-not-first-clause-looks : goal.returns-then-not-first-clause-looks
returns-then-not-first-clause-looks g c = looks_text c.in-Ok.ensures.reads.looked

-- ---- it was

pub count_text-requires-2 : goal.count_text-requires-2
count_text-requires-2 g c = record { fits = fits_on _ _ _ c.in-Ok.ensures.reads.looked.files (rw (← c.self.view_is) at c.requires.fits).second }

pub returns-clause-fits : goal.returns-clause-fits
returns-clause-fits g c =
    let fits = rw (← c.self.view_is) at c.requires.fits in
    let one = c.in-Ok.ensures.reads in
    let two = c.count_text-2.ensures.reads in
    record {
      first = fits_on _ _ _ two.looked.files one.fits;
      second = two.fits;
      ahead = one.same.documents ∙ fits.ahead;
      all = omega (arith, fits.all, two.same.documents);
      few = fits.few;
    }

pub returns-clause-same : goal.returns-clause-same
returns-clause-same g c = rw (← c.self.view_is)
    (record { first = c.in-Ok.ensures.reads.same; second = c.count_text-2.ensures.reads.same; ahead = refl; all = refl; open_end = refl; size = refl })

pub returns-clause-counted : goal.returns-clause-counted
returns-clause-counted g c = rw (← c.self.view_is)
    (λ collection stand. texts_counted _ _ _ c.in-Ok.done c.count_text-2.result c.args.counts.now c.count_text.new.counts c.count_text-2.new.counts c.if-not-first.false c.in-Ok.ensures.reads.looked.files
    c.in-Ok.ensures.counted c.count_text-2.ensures.counted collection stand)

pub returns-clause-looks : goal.returns-clause-looks
returns-clause-looks g c = looks_more (looks_text c.in-Ok.ensures.reads.looked) (looks_text c.count_text-2.ensures.reads.looked)

pub returns-clause-failed : goal.returns-clause-failed
returns-clause-failed g c = failed_behind c.count_text-2.result _ _ _ c.in-Ok.ensures.reads.looked.faults c.count_text-2.ensures.reads.cause.failed
