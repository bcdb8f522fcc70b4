use Rattle.std.proofs.Common.{arith, ◌++◌, ◌∷◌, [], ℕ, List, refl, subst, sym}
use Rattle.mg_defs.specs.Marks.{Mark}
use Rattle.mg_count.specs.Meeting.{Meeting, marks_of}
use Rattle.mg_count.specs.Scanning.{HasMet}
use Rattle.mg_make.proofs.PutSteps.{byte_done, byte_refused, next_marks, writing}
use Rattle.mg_make.proofs.writer.SetWriter.take_other.Goals as goal

pub put_marks-requires : goal.put_marks-requires
put_marks-requires g c =
    let next = marks_of c.met.result.now in
    let takes : ((fed : List ℕ) (met : List Mark) → HasMet c.self.inside.scanner fed met → HasMet c.take.new.self (fed ++ c.args.byte ∷ []) (met ++ next))
    = λ fed met h. subst (λ (m : Meeting). HasMet c.take.new.self (fed ++ c.args.byte ∷ []) (met ++ marks_of m)) (sym c.met.ensures) (c.take.ensures.met fed met h) in
    let put = rw (← c.self.view_is) at c.requires.put.1 in
    let i = c.self.inside in
    λ k. ((refl, tt), next_marks (writing i.base.now i.plan.now i.limit i.sums.items i.size i.scanner i.pass) c.take.new.self c.self.inside.pass _ (g.S.Store.files c.args.store.now) (c.args.byte ∷ []) next takes c.requires.put.0 put (omega (arith, c.requires.put.2)))

pub returns-in-Err : goal.returns-in-Err
returns-in-Err g c =
    let next = marks_of c.met.result.now in
    let takes : ((fed : List ℕ) (met : List Mark) → HasMet c.self.inside.scanner fed met → HasMet c.take.new.self (fed ++ c.args.byte ∷ []) (met ++ next))
    = λ fed met h. subst (λ (m : Meeting). HasMet c.take.new.self (fed ++ c.args.byte ∷ []) (met ++ marks_of m)) (sym c.met.ensures) (c.take.ensures.met fed met h) in
    let put = rw (← c.self.view_is) at c.requires.put.1 in
    rw (← c.self.view_is) (byte_refused takes c.requires.put.0 put c.in-Err.ensures)

pub returns : goal.returns
returns g c =
    let next = marks_of c.met.result.now in
    let takes : ((fed : List ℕ) (met : List Mark) → HasMet c.self.inside.scanner fed met → HasMet c.take.new.self (fed ++ c.args.byte ∷ []) (met ++ next))
    = λ fed met h. subst (λ (m : Meeting). HasMet c.take.new.self (fed ++ c.args.byte ∷ []) (met ++ marks_of m)) (sym c.met.ensures) (c.take.ensures.met fed met h) in
    let put = rw (← c.self.view_is) at c.requires.put.1 in
    rw (← c.self.view_is) (byte_done takes c.requires.put.0 put c.in-Ok.ensures)
