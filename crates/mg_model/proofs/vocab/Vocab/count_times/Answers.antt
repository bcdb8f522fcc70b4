use Rattle.std.proofs.Common.{◌∙◌, ◌+◌, length, position, sym, ap}
use Rattle.std.specs.Str.{bytes_eq}
use Rattle.std.proofs.lemmas.Bool.{false≢true}
use Rattle.std.proofs.lemmas.Result.{on_ok_weaker}
use Rattle.mg_defs.specs.Vocabulary.{has_piece, total}
use Rattle.mg_model.specs.Vocabularies.{counted_times, pieces_of}
use Rattle.mg_model.proofs.Counting.{has-no-place, has-place, total-counted}
use Rattle.mg_model.proofs.vocab.Vocab.count_times.Goals as goal

-- ---- a piece that is there

pub count_again-requires-clause-place : goal.count_again-requires-clause-place
count_again-requires-clause-place c = ap (λ v. position (bytes_eq c.args.piece.now) (pieces_of v)) c.in-Some.ensures.same ∙ sym c.in-Some.ensures.place

pub returns-in-Some-clause-counted : goal.returns-in-Some-clause-counted
returns-in-Some-clause-counted c = c.count_again.ensures ∙ ap (counted_times c.args.piece.now c.args.times) c.in-Some.ensures.same

pub returns-in-Some-clause-total : goal.returns-in-Some-clause-total
returns-in-Some-clause-total c = ap total c.count_again.ensures ∙ total-counted c.args.piece.now c.args.times c.place_again.new.self ∙ ap (λ v. total v + c.args.times) c.in-Some.ensures.same

pub returns-in-Some-clause-full : goal.returns-in-Some-clause-full
returns-in-Some-clause-full c =
    let has = has-place c.args.piece.now c.args.self.now c.in-Some.place c.in-Some.ensures.place in
    (λ h. absurd cc, λ h. absurd (false≢true (sym h.0 ∙ has)))

-- ---- a piece that is not there

pub add-requires-clause-absent : goal.add-requires-clause-absent
add-requires-clause-absent c = ap (λ v. has_piece v c.args.piece.now) c.in-None.ensures.same ∙ has-no-place c.args.piece.now c.args.self.now c.in-None.ensures.place

pub returns-in-None-clause-counted : goal.returns-in-None-clause-counted
returns-in-None-clause-counted c = on_ok_weaker c.add.result (λ is. is ∙ ap (counted_times c.args.piece.now c.args.times) c.in-None.ensures.same) c.add.ensures.counted

pub returns-in-None-clause-total : goal.returns-in-None-clause-total
returns-in-None-clause-total c =
    on_ok_weaker c.add.result (λ is. ap total is ∙ total-counted c.args.piece.now c.args.times c.place_again.new.self ∙ ap (λ v. total v + c.args.times) c.in-None.ensures.same) c.add.ensures.counted

pub returns-in-None-clause-full : goal.returns-in-None-clause-full
returns-in-None-clause-full c =
    let none = has-no-place c.args.piece.now c.args.self.now c.in-None.ensures.place in
    let long = ap length c.in-None.ensures.same in
    (λ full. (none, sym long ∙ c.add.ensures.full.0 full), λ full. c.add.ensures.full.1 (long ∙ full.1))

pub returns-in-None-clause-known : goal.returns-in-None-clause-known
returns-in-None-clause-known c = λ there. absurd (false≢true (sym (has-no-place c.args.piece.now c.args.self.now c.in-None.ensures.place) ∙ there))
