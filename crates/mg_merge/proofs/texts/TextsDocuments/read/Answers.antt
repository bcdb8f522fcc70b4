use Rattle.std.proofs.Common.{arith, ◌≡◌, ◌∙◌, ◌++◌, ◌∷◌, [], ℕ, List, length, sym, ap, subst}
use Rattle.std.proofs.lemmas.List.{length-append}
use Rattle.mg_dev.specs.Causes.{Rose}
use Rattle.mg_dev.specs.Faults.{ReadStops}
use Rattle.mg_merge.specs.Texts.{AreShort, TwoTexts}
use Rattle.mg_defs.specs.Split.{is_closed}
use Rattle.mg_merge.proofs.TextLaws.{closes, part_stops, texts_stand_on, with_close, without_close}
use Rattle.mg_merge.proofs.texts.TextsDocuments.read.Goals as goal

pub returns-in-Err-clause-refused : goal.returns-in-Err-clause-refused
returns-in-Err-clause-refused g c =
    let before = g.S.Store.files c.args.store.now in
    subst (ReadStops (Rose (g.S.Store.faults c.args.store.now) (g.S.Store.faults c.decode.new.store)) (AreShort c.args.self.now before c.args.number c.args.most)) (sym c.from.ensures)
    (part_stops c.in-Err.refusal _ _ (AreShort c.args.self.now before c.args.number c.args.most) (λ some. c.in-Err.ensures.never_bad some.0 some.1) c.in-Err.ensures.cause)

pub returns-then-not-closed-clause-held : goal.returns-then-not-closed-clause-held
returns-then-not-closed-clause-held g c = λ collection has.
    let later = texts_stand_on c.args.self.now c.decode.new.self (g.S.Store.files c.args.store.now) (g.S.Store.files c.decode.new.store) collection
    c.in-Ok.ensures.same c.in-Ok.ensures.looks.files has.stands in
    let closed : c.is_closed-closed.result ≡ is_closed c.args.number c.decode.new.self.all c.decode.new.self.open_end = rw (← c.self.view_is) c.is_closed-closed.ensures in
    closes c.decode.new.self (g.S.Store.files c.decode.new.store) collection c.decode.new.self.held c.decode.new.self.held c.is_closed-closed.result
    c.args.number c.in-Ok.ensures.fits closed (c.in-Ok.ensures.held collection has)
    (without_close c.is_closed-closed.result c.decode.new.self.held c.if-not-closed.true) later

pub returns-clause-held : goal.returns-clause-held
returns-clause-held g c = λ collection has.
    let later = texts_stand_on c.args.self.now c.decode.new.self (g.S.Store.files c.args.store.now) (g.S.Store.files c.decode.new.store) collection
    c.in-Ok.ensures.same c.in-Ok.ensures.looks.files has.stands in
    let closed : c.is_closed-closed.result ≡ is_closed c.args.number c.decode.new.self.all c.decode.new.self.open_end = rw (← c.self.view_is) c.is_closed-closed.ensures in
    let held : c.self.inside.held.bytes.items ≡ c.decode.new.self.held = ap (λ (t : TwoTexts). t.held) c.self.view_is in
    closes c.decode.new.self (g.S.Store.files c.decode.new.store) collection c.decode.new.self.held c.close.new.self.bytes.items c.is_closed-closed.result
    c.args.number c.in-Ok.ensures.fits closed (c.in-Ok.ensures.held collection has)
    (c.in-Ok-close.ensures.closed ∙ ap (λ h. h ++ 2 ∷ []) held ∙ with_close c.is_closed-closed.result c.decode.new.self.held c.if-not-closed.false) later

pub returns-clause-short : goal.returns-clause-short
returns-clause-short g c =
    let held : c.self.inside.held.bytes.items ≡ c.decode.new.self.held = ap (λ (t : TwoTexts). t.held) c.self.view_is in
    let now : c.close.new.self.bytes.items ≡ c.decode.new.self.held ++ 2 ∷ [] = c.in-Ok-close.ensures.closed ∙ ap (λ h. h ++ 2 ∷ []) held in
    omega (arith, ap (λ (h : List ℕ). length h) now, length-append c.decode.new.self.held (2 ∷ []), c.in-Ok.ensures.short)

-- ---- what is read

pub returns-in-Err-clause-looks : goal.returns-in-Err-clause-looks
returns-in-Err-clause-looks g c = c.in-Err.ensures.looks

pub returns-then-not-closed-clause-looks : goal.returns-then-not-closed-clause-looks
returns-then-not-closed-clause-looks g c = c.in-Ok.ensures.looks

pub returns-in-Err-close-clause-looks : goal.returns-in-Err-close-clause-looks
returns-in-Err-close-clause-looks g c = c.in-Ok.ensures.looks

pub returns-clause-looks : goal.returns-clause-looks
returns-clause-looks g c = c.in-Ok.ensures.looks
