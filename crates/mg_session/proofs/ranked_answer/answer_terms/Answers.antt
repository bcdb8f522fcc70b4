use Rattle.std.proofs.Common.{arith, ◌≤◌, List, length, ap, sym, ◌∙◌, subst}
use Rattle.std.specs.declared.option.Option.{Option}
use Rattle.mg_dev.specs.Files.{Files}
use Rattle.mg_defs.specs.Texts.{count}
use Rattle.mg_layout.specs.declared.term_info.TermInfo.{TermInfo}
use Rattle.mg_rank.specs.Ranked.{AreTold}
use Rattle.mg_session.specs.Answering.{known_terms}
use Rattle.mg_session.specs.Decided.{PutsSome}
use Rattle.mg_session.specs.DocStands.{AreRowsOf, IsDocOf}
use Rattle.mg_session.specs.SearchLaws.{same_texts, texts_later}
use Rattle.mg_session.proofs.AllowedLaws.{ranked_read}
use Rattle.mg_session.proofs.CallLaws.{shown_text, text_lacked, text_refused, text_shown, text_start}
use Rattle.mg_session.proofs.DecidedLaws.{terms_printed}
use Rattle.mg_session.proofs.KnownLaws.{known_hits, known_told}
use Rattle.mg_session.proofs.RankedLaws.{are_rows, rows_end, terms_stop}
use Rattle.mg_session.proofs.ReplyLaws.{none_answered, top_sound}
use Rattle.mg_session.proofs.StepLaws.{ranked_step, ranked_text, shown_keeps}
use Rattle.mg_session.proofs.ranked_answer.answer_terms.Goals as goal

pub returns-in-Err : goal.returns-in-Err
returns-in-Err g c = record {
  answer = λ code collection stands terms told apart. none_answered _ _ _ _ _ _ _;
  printed = tt;
  stepped = text_lacked c.requires.showable.fits;
}

pub returns-in-Err-rank : goal.returns-in-Err-rank
returns-in-Err-rank g c = record {
  answer = λ code collection stands terms told apart.
      let kept = known_terms terms c.args.infos.now in
      let is_told : AreTold collection kept c.deref.result.now = subst (λ (xs : List TermInfo). AreTold collection kept xs)
      (sym (c.deref.ensures.value ∙ c.in-Ok.ensures.known)) (known_told collection terms c.args.infos.now told apart) in
      let e = c.in-Err-rank.ensures in
      let few : length c.deref.result.now ≤ length c.args.infos.now = omega (arith, ap length c.deref.ensures.value, c.in-Ok.ensures.few) in
      let allowed = ranked_read c.args.now.now terms c.args.infos.now c.deref.result.now told (c.deref.ensures.value ∙ c.in-Ok.ensures.known) few stands.all_is
      c.rows_asked-most.ensures (e.once collection kept stands.weights.lists is_told stands.all_is) e.skips e.weights e.none in
      terms_stop _ _ _ terms _ _ _ _ _ allowed (ranked_text _ _ e.reads)
      (top_sound c.in-Err-rank.refusal _ collection kept _ c.from.ensures (c.in-Err-rank.ensures.answer collection kept stands.weights is_told stands.all_is));
  printed = tt;
  stepped =
      let e = c.in-Err-rank.ensures in
      text_refused (text_start c.requires.showable.fits) (ranked_step _ _ _ _ _ _ _ e.files e.cause.later e.reads) c.in-Err-rank.refusal c.from.ensures e.cause;
}

pub returns : goal.returns
returns g c = record {
  answer = λ code collection stands terms told apart.
      let kept = known_terms terms c.args.infos.now in
      let is_told : AreTold collection kept c.deref.result.now = subst (λ (xs : List TermInfo). AreTold collection kept xs)
      (sym (c.deref.ensures.value ∙ c.in-Ok.ensures.known)) (known_told collection terms c.args.infos.now told apart) in
      let top = c.in-Ok-rank.ensures.answer collection kept stands.weights is_told stands.all_is in
      let are = are_rows collection kept terms c.args.now.now c.args.lists.now.all c.rows_asked-most.result c.in-Ok-rank.ranked.total c.in-Ok-rank.ranked.rows
      (known_hits collection terms c.args.infos.now told) stands.all_is c.rows_asked-most.ensures top.0 top.1 in
      let text = texts_later (g.D.Documents.texts c.args.texts.now) (g.D.Documents.texts c.args.texts.now) _ _ code collection
      (same_texts (g.D.Documents.texts c.args.texts.now)) c.in-Ok-rank.ensures.files stands.texts_are in
      let e = c.in-Ok-rank.ensures in
      let few : length c.deref.result.now ≤ length c.args.infos.now = omega (arith, ap length c.deref.ensures.value, c.in-Ok.ensures.few) in
      let allowed = ranked_read c.args.now.now terms c.args.infos.now c.deref.result.now told (c.deref.ensures.value ∙ c.in-Ok.ensures.known) few stands.all_is
      c.rows_asked-most.ensures (e.once collection kept stands.weights.lists is_told stands.all_is) e.skips e.weights e.none in
      rows_end terms (g.S.Store.reads c.rank.new.store) are allowed (ranked_text _ _ e.reads)
      (c.show_ranked.ensures.shown.content code collection text) (shown_keeps c.show_ranked.ensures.shown.looked)
      (c.show_ranked.ensures.shown.pages code collection text) (c.show_ranked.ensures.shown.sound code collection text);
  printed =
      let texts = g.D.Documents.texts c.args.texts.now in
      terms_printed c.in-Ok-rank.ranked (AreRowsOf (IsDocOf texts (g.S.Store.files c.args.store.now)) c.args.now.now.mode) _ _ c.show_ranked.result (c.deref.ensures.value ∙ c.in-Ok.ensures.known)
      c.in-Ok-rank.ensures.whole (subst (λ (f : Option Files). PutsSome (g.O.Sink.written c.args.out.now) (g.O.Sink.written c.show_ranked.new.out) c.show_ranked.result
      (AreRowsOf (IsDocOf texts f) c.args.now.now.mode c.in-Ok-rank.ranked.rows) (count c.in-Ok-rank.ranked.total)) c.in-Ok-rank.ensures.files c.show_ranked.ensures.counted);
  stepped =
      let e = c.in-Ok-rank.ensures in
      text_shown (text_start c.requires.showable.fits) (ranked_step _ _ _ _ _ _ _ e.files e.cause.later e.reads) (shown_text c.show_ranked.ensures.shown);
}
