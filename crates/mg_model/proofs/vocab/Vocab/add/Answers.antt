use Rattle.std.proofs.Common.{rules, ◌≡◌, ◌^◌, ◌∙◌, Result, Ok, Err, OnErr, length, false, sym, ap, subst, arith}
use Rattle.mg_defs.specs.Vocabulary.{has_piece, total}
use Rattle.mg_model.specs.Vocabularies.{IsKept, counted_times, entries_of}
use Rattle.mg_model.proofs.Counting.{counted-new, length-entries, more-longer, still-kept}
use Rattle.mg_model.proofs.vocab.Vocab.add.Goals as goal

pub returns-then-place-ge-MOST_PIECES-clause-full : goal.returns-then-place-ge-MOST_PIECES-clause-full
returns-then-place-ge-MOST_PIECES-clause-full c =
    let full : length c.args.self.now ≡ 2 ^ 22 = omega (
      arith,
      length-entries c.self.inside.longer.keys c.self.inside.counts.entries,
      ap length c.self.view_is,
      c.len-place.ensures.len,
      c.if-place-ge-MOST_PIECES.true,
      c.self.invariant.vocabulary.few,
    ) in
    (λ _. full, λ _. search rules)

-- ---- a longer piece may have been added, and nothing else

on_err : {T E : Type 0} (r : Result T E) (P : Type 0) → P → OnErr r P
on_err (Ok x) P p = tt
on_err (Err e) P p = p

pub invariant_of-self : goal.invariant_of-self
invariant_of-self c = still-kept c.self.inside.longer.keys c.new_key.new.longer.keys c.self.inside.counts.entries c.new_key.ensures.extends c.self.invariant

pub returns-in_err-key-clause-err : goal.returns-in_err-key-clause-err
returns-in_err-key-clause-err c =
    on_err c.from_residual.result _
    ((more-longer c.self.inside.longer.keys c.new_key.new.longer.keys c.self.inside.counts.entries c.new_key.ensures.extends c.self.invariant.keys).0 ∙ c.self.view_is)

pub invariant_of-self-in_err-insert : goal.invariant_of-self-in_err-insert
invariant_of-self-in_err-insert c =
    subst (IsKept c.new_key.new.longer.keys) (sym c.in_err-insert.ensures.err)
    (still-kept c.self.inside.longer.keys c.new_key.new.longer.keys c.self.inside.counts.entries c.new_key.ensures.extends c.self.invariant)

pub returns-in_err-insert-clause-err : goal.returns-in_err-insert-clause-err
returns-in_err-insert-clause-err c =
    on_err c.from_residual-in_err-insert.result _
    (ap (entries_of c.new_key.new.longer.keys) c.in_err-insert.ensures.err
    ∙ (more-longer c.self.inside.longer.keys c.new_key.new.longer.keys c.self.inside.counts.entries c.new_key.ensures.extends c.self.invariant.keys).0 ∙ c.self.view_is)

-- ---- a piece is put in

pub invariant_of-self-2 : goal.invariant_of-self-2
invariant_of-self-2 c =
    let es = c.self.inside.counts.entries in
    let none : has_piece (entries_of c.self.inside.longer.keys es) c.args.piece.now ≡ false = ap (λ x. has_piece x c.args.piece.now) c.self.view_is ∙ c.requires.absent in
    (counted-new c.self.inside.longer.keys c.new_key.new.longer.keys c.args.piece.now c.args.times es c.insert.new.self.entries c.in_ok-key.key c.new_key.ensures.extends c.in_ok-key.ensures.key
    c.self.invariant none c.requires.some (omega (arith, ap total c.self.view_is, c.requires.total)) c.requires.short (omega (arith, c.len-place.ensures.len, c.if-place-ge-MOST_PIECES.false))
    c.in_ok-insert.ensures.entries).kept

pub returns-clause-counted : goal.returns-clause-counted
returns-clause-counted c =
    let es = c.self.inside.counts.entries in
    let none : has_piece (entries_of c.self.inside.longer.keys es) c.args.piece.now ≡ false = ap (λ x. has_piece x c.args.piece.now) c.self.view_is ∙ c.requires.absent in
    (counted-new c.self.inside.longer.keys c.new_key.new.longer.keys c.args.piece.now c.args.times es c.insert.new.self.entries c.in_ok-key.key c.new_key.ensures.extends c.in_ok-key.ensures.key
    c.self.invariant none c.requires.some (omega (arith, ap total c.self.view_is, c.requires.total)) c.requires.short (omega (arith, c.len-place.ensures.len, c.if-place-ge-MOST_PIECES.false))
    c.in_ok-insert.ensures.entries).entries ∙ ap (counted_times c.args.piece.now c.args.times) c.self.view_is
