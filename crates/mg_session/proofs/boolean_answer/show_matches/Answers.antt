use Rattle.std.specs.Prelude.{IfSome}
use Rattle.std.proofs.Common.{arith, ◌≡◌, ◌<◌, ◌≤◌, ℕ, refl, sym, ◌∙◌, ap, subst}
use Rattle.std.specs.declared.option.Option.{Option}
use Rattle.mg_dev.specs.Files.{Files}
use Rattle.mg_bool.specs.Matches.{GoesOn, left_of}
use Rattle.mg_layout.specs.declared.head.Head.{Head}
use Rattle.mg_session.specs.SearchLaws.{texts_later, weights_later}
use Rattle.mg_session.specs.Texts.{TextsFit}
use Rattle.mg_session.proofs.CallLaws.{shown_text, text_refused, text_shown, text_start, text_written}
use Rattle.mg_session.proofs.DecidedLaws.{printing_end, printing_hit, printing_start}
use Rattle.mg_session.proofs.DocStandsLaws.{doc_shown}
use Rattle.mg_session.proofs.StepLaws.{lists_step, shown_keeps}
use Rattle.mg_session.proofs.ReplyLaws.{list_sound}
use Rattle.mg_session.proofs.WalkLaws.{fit_later, next_read, walked_cut, walked_end, walked_hit, walked_start, walked_stop}
use Rattle.mg_session.proofs.boolean_answer.show_matches.Goals as goal

pub matches-init : goal.matches-init
matches-init g c = record {
  so_far = text_start c.requires.showable.fits;
  on = c.requires.unasked.on;
  kept = record { asks = refl; all = refl };
  few = omega (arith, c.new-rows.ensures.total);
  within = omega (arith, c.requires.unasked.first);
  printing = printing_start c.requires.unasked.stands c.requires.unasked.first c.new-rows.ensures.waiting c.new-rows.ensures.total;
  walked = λ base code collection stands over. walked_start c.new-rows.ensures.waiting c.new-rows.ensures.total refl c.requires.unasked.first c.requires.unasked.within over;
}

pub returns-in-Err : goal.returns-in-Err
returns-in-Err g c = record {
  answer = λ base code collection stands over.
      let inv = c.matches.invariant in
      let walked = inv.walked base code collection stands over in
      let lists = (weights_later base base _ _ collection refl inv.so_far.step.files stands.weights).lists in
      let read = next_read c.args.matches.now inv.kept.asks (c.in-Err.ensures.least base collection lists walked.over) (c.in-Err.ensures.pages base collection lists walked.over)
      c.in-Err.ensures.lists c.in-Err.ensures.skips c.in-Err.ensures.reads in
      walked_stop c.matches.matches c.next.new.self (g.S.Store.reads c.matches.store) c.skips_are_within.ensures.terms walked
      read
      (list_sound c.in-Err.refusal _ _ c.from.ensures (c.in-Err.ensures.answer base collection lists walked.over));
  printed = tt;
  stepped =
      let e = c.in-Err.ensures in
      text_refused c.matches.invariant.so_far (lists_step _ _ _ _ _ _ _ e.files e.cause.later e.reads) c.in-Err.refusal c.from.ensures e.cause;
}

pub returns-in-Err-show_hit : goal.returns-in-Err-show_hit
returns-in-Err-show_hit g c = record {
  answer = λ base code collection stands over.
      let inv = c.matches.invariant in
      let walked = inv.walked base code collection stands over in
      let lists = (weights_later base base _ _ collection refl inv.so_far.step.files stands.weights).lists in
      let text = texts_later _ _ _ _ code collection inv.so_far.same (c.in-Ok-Some.ensures.files ∙ inv.so_far.step.files) stands.texts_are in
      let read = next_read c.args.matches.now inv.kept.asks (c.in-Ok-Some.ensures.least base collection lists walked.over) (c.in-Ok-Some.ensures.pages base collection lists walked.over)
      c.in-Ok-Some.ensures.lists c.in-Ok-Some.ensures.skips c.in-Ok-Some.ensures.reads in
      let answer = c.in-Ok-Some.ensures.answer base collection lists walked.over in
      walked_cut c.matches.rows.total c.in-Ok-Some.number c.matches.matches c.next.new.self (g.S.Store.reads c.matches.store) (g.S.Store.reads c.next.new.store) c.skips_are_within.ensures.terms walked
      (subst (GoesOn (left_of collection c.matches.matches) (left_of collection c.next.new.self)) c.in-Ok-Some.field-0-is answer.0)
      read
      (c.in-Err-show_hit.ensures.hit.shown.content code collection text)
      (shown_keeps c.in-Err-show_hit.ensures.hit.shown.looked)
      (c.in-Err-show_hit.ensures.hit.shown.pages code collection text)
      (c.in-Err-show_hit.ensures.hit.shown.sound code collection text);
  printed = tt;
  stepped =
      let e = c.in-Ok-Some.ensures in
      text_shown c.matches.invariant.so_far (lists_step _ _ _ _ _ _ _ e.files e.cause.later e.reads) (shown_text c.in-Err-show_hit.ensures.hit.shown);
}

pub matches-preserved : goal.matches-preserved
matches-preserved g c =
    let inv = c.matches.invariant in
    let range = subst (λ (found : Option ℕ). IfSome found (λ doc. (c.matches.matches.decided < doc) × (doc ≤ c.matches.matches.all)
    × (c.next.new.self.decided ≡ doc))) c.in-Ok-Some.field-0-is c.in-Ok-Some.ensures.range in
    let kept = c.in-Ok-Some.ensures.same in
    rw c.in-Ok.ensures.total (record {
      so_far = text_shown inv.so_far (lists_step _ _ _ _ _ _ _ c.in-Ok-Some.ensures.files c.in-Ok-Some.ensures.cause.later c.in-Ok-Some.ensures.reads) (shown_text c.in-Ok.ensures.hit.shown);
      on = (inv.on.0, fit_later _ _ _ _ c.in-Ok.ensures.hit.shown.looked.files (c.in-Ok-Some.ensures.fits inv.on.0 inv.on.1));
      kept = record { asks = kept.asks ∙ inv.kept.asks; all = kept.all ∙ inv.kept.all };
      few = omega (arith, inv.few, range);
      within = omega (arith, range, kept.all);
      printing = printing_hit c.next.new.self inv.printing inv.kept inv.so_far.step.files _ c.in-Ok-Some.ensures.shows c.in-Ok-Some.number c.in-Ok-Some.field-0-is
          c.in-Ok-Some.ensures.lists range.0 range.1 range.2 c.in-Ok.ensures.hit.shown.looked.files (
            refl,
            (
              c.in-Ok.ensures.hit.passed.0,
              doc_shown c.in-Ok-Some.number c.args.now.now c.matches.rows.total c.in-Ok.ensures.hit.passed.0 inv.so_far.same (c.in-Ok-Some.ensures.files ∙ inv.so_far.step.files)
                  c.in-Ok.ensures.hit.passed.1,
              refl,
            ),
          ) c.in-Ok.ensures.hit.passed.2;
      walked = λ base code collection stands over.
          let walked = inv.walked base code collection stands over in
          let lists = (weights_later base base _ _ collection refl inv.so_far.step.files stands.weights).lists in
          let text = texts_later _ _ _ _ code collection inv.so_far.same (c.in-Ok-Some.ensures.files ∙ inv.so_far.step.files) stands.texts_are in
          let read = next_read c.args.matches.now inv.kept.asks (c.in-Ok-Some.ensures.least base collection lists walked.over) (c.in-Ok-Some.ensures.pages base collection lists walked.over)
          c.in-Ok-Some.ensures.lists c.in-Ok-Some.ensures.skips c.in-Ok-Some.ensures.reads in
          let answer = c.in-Ok-Some.ensures.answer base collection lists walked.over in
          walked_hit c.matches.rows.total c.in-Ok-Some.number c.matches.matches c.next.new.self (g.S.Store.reads c.matches.store) (g.S.Store.reads c.next.new.store) walked
          (subst (GoesOn (left_of collection c.matches.matches) (left_of collection c.next.new.self)) c.in-Ok-Some.field-0-is answer.0)
          answer.1 read
          (c.in-Ok.ensures.hit.shown.content code collection text)
          (shown_keeps c.in-Ok.ensures.hit.shown.looked)
          (c.in-Ok.ensures.hit.shown.pages code collection text);
    })

pub returns-in-Ok-None : goal.returns-in-Ok-None
returns-in-Ok-None g c = record {
  answer = λ base code collection stands over.
      let inv = c.matches.invariant in
      let walked = inv.walked base code collection stands over in
      let lists = (weights_later base base _ _ collection refl inv.so_far.step.files stands.weights).lists in
      let read = next_read c.args.matches.now inv.kept.asks (c.in-Ok-None.ensures.least base collection lists walked.over) (c.in-Ok-None.ensures.pages base collection lists walked.over)
      c.in-Ok-None.ensures.lists c.in-Ok-None.ensures.skips c.in-Ok-None.ensures.reads in
      let answer = c.in-Ok-None.ensures.answer base collection lists walked.over in
      walked_end c.matches.rows.total c.matches.matches c.next.new.self (g.S.Store.reads c.matches.store) c.skips_are_within.ensures.terms walked
      (subst (GoesOn (left_of collection c.matches.matches) (left_of collection c.next.new.self)) c.in-Ok-None.field-0-is answer.0)
      read
      c.put_total.ensures.content
      c.put_total.ensures.alone.sound;
  printed =
      let inv = c.matches.invariant in
      printing_end c.next.new.self inv.printing inv.kept inv.so_far.step.files _ c.in-Ok-None.ensures.shows _ c.put_total.result c.in-Ok-None.field-0-is inv.within c.put_total.ensures.content;
  stepped =
      let e = c.in-Ok-None.ensures in
      text_written c.matches.invariant.so_far (lists_step _ _ _ _ _ _ _ e.files e.cause.later e.reads) c.put_total.ensures.alone;
}

-- ---- the document that is found

pub show_hit-requires : goal.show_hit-requires
show_hit-requires g c =
    let inv = c.matches.invariant in
    let range = subst (λ (found : Option ℕ). IfSome found (λ doc. (c.matches.matches.decided < doc) × (doc ≤ c.matches.matches.all)
    × (c.next.new.self.decided ≡ doc))) c.in-Ok-Some.field-0-is c.in-Ok-Some.ensures.range in
    record {
      fits = subst (λ (f : Option Files). TextsFit f (g.D.Documents.texts c.matches.texts)) (sym c.in-Ok-Some.ensures.files) inv.so_far.fits;
      some = omega (arith, range);
      within = omega (arith, range, inv.kept.all, c.requires.showable.all, ap (λ (h : Head). h.documents) inv.so_far.same.head);
    }
