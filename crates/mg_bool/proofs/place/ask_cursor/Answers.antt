use Rattle.std.proofs.Common.{arith, ap, refl, Some, None}
use Rattle.mg_bool.specs.Places.{number_in}
use Rattle.mg_bool.proofs.AskLaws.{err_answer}
use Rattle.mg_bool.proofs.BoundLaws.{asked_within}
use Rattle.mg_bool.proofs.CallLaws.{cursor_called, cursor_refused}
use Rattle.mg_bool.proofs.place.ask_cursor.Goals as goal

pub returns-in-Ok-Some-clause-answer : goal.returns-in-Ok-Some-clause-answer
returns-in-Ok-Some-clause-answer g c = λ base collection asked t may.
    let a = (rw c.in-Ok-Some.field-0-is at c.in-Ok-Some.ensures.answer) base collection asked t may in
    (ap number_in a.found_is, a.cursor)

pub returns-in-Ok-None-clause-answer : goal.returns-in-Ok-None-clause-answer
returns-in-Ok-None-clause-answer g c = λ base collection asked t may.
    let a = (rw c.in-Ok-None.field-0-is at c.in-Ok-None.ensures.answer) base collection asked t may in
    (ap number_in a.found_is, a.cursor)

pub returns-in-Err-clause-answer : goal.returns-in-Err-clause-answer
returns-in-Err-clause-answer g c = λ base collection asked t may. err_answer _ _ _ (c.in-Err.ensures.answer base collection asked t may)

pub returns-in-Ok-Some-clause-pages : goal.returns-in-Ok-Some-clause-pages
returns-in-Ok-Some-clause-pages g c = λ base collection asked t may.
    let e = c.in-Ok-Some.ensures in
    asked_within may e.same (e.once base collection asked t may) (e.pages base collection asked t may)

pub returns-in-Ok-None-clause-pages : goal.returns-in-Ok-None-clause-pages
returns-in-Ok-None-clause-pages g c = λ base collection asked t may.
    let e = c.in-Ok-None.ensures in
    asked_within may e.same (e.once base collection asked t may) (e.pages base collection asked t may)

pub returns-in-Err-clause-pages : goal.returns-in-Err-clause-pages
returns-in-Err-clause-pages g c = λ base collection asked t may.
    let e = c.in-Err.ensures in
    asked_within may e.same (e.once base collection asked t may) (e.pages base collection asked t may)

pub returns-in-Ok-Some-clause-shows : goal.returns-in-Ok-Some-clause-shows
returns-in-Ok-Some-clause-shows g c = λ stands.
    let a = (rw c.in-Ok-Some.field-0-is at c.in-Ok-Some.ensures.shows) c.args.doc (omega arith) stands in
    ((Some c.in-Ok-Some.posting, a.first, refl), a.stands)

pub returns-in-Ok-None-clause-shows : goal.returns-in-Ok-None-clause-shows
returns-in-Ok-None-clause-shows g c = λ stands.
    let a = (rw c.in-Ok-None.field-0-is at c.in-Ok-None.ensures.shows) c.args.doc (omega arith) stands in
    ((None, a.first, refl), a.stands)

pub returns-in-Err-clause-shows : goal.returns-in-Err-clause-shows
returns-in-Err-clause-shows g c = λ stands. tt

pub returns-in-Ok-Some-clause-call : goal.returns-in-Ok-Some-clause-call
returns-in-Ok-Some-clause-call g c = let e = c.in-Ok-Some.ensures in cursor_called _ e.fits e.same e.reads e.third e.skips e.files e.cause.later

pub returns-in-Ok-None-clause-call : goal.returns-in-Ok-None-clause-call
returns-in-Ok-None-clause-call g c = let e = c.in-Ok-None.ensures in cursor_called _ e.fits e.same e.reads e.third e.skips e.files e.cause.later

pub returns-in-Err-clause-call : goal.returns-in-Err-clause-call
returns-in-Err-clause-call g c =
    let e = c.in-Err.ensures in
    cursor_refused c.in-Err.refusal e.same e.part e.reads e.third e.skips e.files e.memory e.cause
