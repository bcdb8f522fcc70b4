use Rattle.std.proofs.Common.{◌≡◌, ◌≤◌, ◌<◌, ◌++◌, ℕ, List, None, Some, position, slice_get, length, refl, subst, sym, ap, ◌∙◌, arith, append-nil}
use Rattle.std.specs.Str.{bytes_eq}
use Rattle.mg_defs.specs.CodedText.{TextCode}
use Rattle.mg_defs.specs.Marks.{code_of, with_doc}
use Rattle.mg_make.specs.Indexes.{HasTaken}
use Rattle.mg_count.specs.Plans.{Plan}
use Rattle.mg_make.specs.Second.{occurring_by}
use Rattle.mg_make.proofs.CallerLemmas.{rose_behind}
use Rattle.mg_make.proofs.Frames.{index_kept, runs_wrote, text_kept, text_wrote, wrote_both}
use Rattle.mg_make.proofs.MarkFronts.{open_at_piece, some_begun, turn_at_piece}
use Rattle.mg_make.proofs.PassLaws.{text_done, text_refused}
use Rattle.mg_make.proofs.SecondSteps.{few_taken, may_follow, put_bits, turn_now, wrote_piece}
use Rattle.mg_make.proofs.Stopping.{stops_store, tells_store}
use Rattle.mg_make.proofs.second.SecondPass.put_symbol.Goals as goal
use Rattle.mg_make.proofs.second.SecondPass.put_symbol.Goals.{in-Ok-add, in-Err-add}

pub returns-in-Err : goal.returns-in-Err
returns-in-Err g c =
    let n = rw (← c.self.view_is) at c.requires.next in
    let e = c.in-Err.ensures in
    rw (← c.self.view_is) (text_refused (record { base = n.written.text_base; told = e.told; others = λ m a b. e.others m a; reads = e.reads; faults = e.cause.later }) e.cause c.of_store.ensures)

pub put_piece-requires-clause-turn : goal.put_piece-requires-clause-turn
put_piece-requires-clause-turn g c =
    let n = rw (← c.self.view_is) at c.requires.next in
    let is_open = n.written.is_open ∙ open_at_piece n.met c.args.stream c.args._piece.now n.collection n.front in
    turn_now _ _ n.met c.args.stream c.pieces_make_documents.ensures.turn n.written is_open (turn_at_piece n.met c.args.stream c.args._piece.now n.collection n.front)

pub returns-in-None : goal.returns-in-None
returns-in-None g c =
    let n = rw (← c.self.view_is) at c.requires.next in
    let code : c.plan.inside.model ≡ c.self.inside.pieces.code = ap (λ (p : Plan). p.code) (c.plan.view_is ∙ c.plan-plan.ensures) in
    let found = subst (λ (k : TextCode). position (bytes_eq c.args._piece.now) (code_of c.args.stream k).pieces ≡ Some c.args.symbol) (sym code) (rw (← c.self.view_is) at c.requires.symbol) in
    let at = c.symbol_and_piece.ensures.piece (code_of c.args.stream c.plan.inside.model) c.args.symbol c.args._piece.now found in
    let there = subst (λ (k : TextCode). slice_get (code_of c.args.stream k).pieces c.args.symbol ≡ Some c.args._piece.now) code at in
    let number = c.symbol_and_piece.ensures.number (code_of c.args.stream c.plan.inside.model) c.args.symbol c.args._piece.now found in
    let more : 0 < c.self.inside.left = rw (← c.self.view_is) at c.requires.more in
    let of_term = rw c.plan-plan.ensures at c.in-None.ensures.term in
    let term_is = of_term c.args._piece.now there in
    let e = c.put_piece.ensures in
    rw (← c.self.view_is)
    (text_done (record { base = n.written.text_base; told = e.told; others = λ m a b. e.others m a; reads = e.reads; faults = e.cause.later })
    (record { base = refl; plan = refl; limit = refl })
    (record {
      behind = λ met is.
          let taken = index_kept c.runs_stay.ensures.fed _ _ _ _ _ _ (is.text_base ∙ sym is.runs_base) e.told (λ n a b. e.others n a) is.index in
          wrote_piece _ _ _ _ _ met c.args.stream c.args._piece.now None more term_is
          (put_bits c.args.stream _ _ _ c.args._piece.now _ _ _ _ code number c.in-Ok.ensures.took) c.in-Ok.ensures.numbers e.base refl
          (subst (λ (fed : List (ℕ × ℕ)). HasTaken c.self.inside.index (g.S.Store.files c.put_piece.new.store) (length c.self.inside.pieces.terms.terms) fed) (sym (append-nil _)) taken) is;
    }))

pub add-requires : goal.add-requires
add-requires g c =
    let n = rw (← c.self.view_is) at c.requires.next in
    let code : c.plan.inside.model ≡ c.self.inside.pieces.code = ap (λ (p : Plan). p.code) (c.plan.view_is ∙ c.plan-plan.ensures) in
    let found = subst (λ (k : TextCode). position (bytes_eq c.args._piece.now) (code_of c.args.stream k).pieces ≡ Some c.args.symbol) (sym code) (rw (← c.self.view_is) at c.requires.symbol) in
    let at = c.symbol_and_piece.ensures.piece (code_of c.args.stream c.plan.inside.model) c.args.symbol c.args._piece.now found in
    let there = subst (λ (k : TextCode). slice_get (code_of c.args.stream k).pieces c.args.symbol ≡ Some c.args._piece.now) code at in
    let of_term = rw c.plan-plan.ensures at c.in-Some.ensures.term in
    let term_is = of_term c.args._piece.now there in
    let of_known = rw c.plan-plan.ensures at c.in-Some.ensures.known in
    let known = of_known c.in-Some.term refl in
    let some = some_begun n.met _ n.collection n.front (open_at_piece n.met c.args.stream c.args._piece.now n.collection n.front) in
    let few = few_taken _ _ n.met c.args.stream c.args._piece.now c.in-Some.term n.collection term_is n.written n.front in
    let taken = index_kept c.runs_stay.ensures.fed _ _ _ _ _ _ (n.written.text_base ∙ sym n.written.runs_base) c.put_piece.ensures.told (λ n a b. c.put_piece.ensures.others n a) n.written.index in
    record { taken = (_, _, taken, may_follow _ _ n.met c.in-Some.term known (omega (arith, some, n.written.doc)) few n.written) }

pub returns : goal.returns
returns g c =
    let n = rw (← c.self.view_is) at c.requires.next in
    let code : c.plan.inside.model ≡ c.self.inside.pieces.code = ap (λ (p : Plan). p.code) (c.plan.view_is ∙ c.plan-plan.ensures) in
    let found = subst (λ (k : TextCode). position (bytes_eq c.args._piece.now) (code_of c.args.stream k).pieces ≡ Some c.args.symbol) (sym code) (rw (← c.self.view_is) at c.requires.symbol) in
    let at = c.symbol_and_piece.ensures.piece (code_of c.args.stream c.plan.inside.model) c.args.symbol c.args._piece.now found in
    let there = subst (λ (k : TextCode). slice_get (code_of c.args.stream k).pieces c.args.symbol ≡ Some c.args._piece.now) code at in
    let number = c.symbol_and_piece.ensures.number (code_of c.args.stream c.plan.inside.model) c.args.symbol c.args._piece.now found in
    let more : 0 < c.self.inside.left = rw (← c.self.view_is) at c.requires.more in
    let of_term = rw c.plan-plan.ensures at c.in-Some.ensures.term in
    let term_is = of_term c.args._piece.now there in
    let of_known = rw c.plan-plan.ensures at c.in-Some.ensures.known in
    let known = of_known c.in-Some.term refl in
    let some = some_begun n.met _ n.collection n.front (open_at_piece n.met c.args.stream c.args._piece.now n.collection n.front) in
    let begun : 1 ≤ c.self.inside.doc = omega (arith, some, n.written.doc) in
    let few = few_taken _ _ n.met c.args.stream c.args._piece.now c.in-Some.term n.collection term_is n.written n.front in
    let e = c.put_piece.ensures in
    let a = c.add.ensures in
    let wrote = wrote_both _ _ _ _ (text_wrote _ _ _ _ n.written.text_base e.told (λ m away b. e.others m away)) (runs_wrote _ _ _ _ n.written.runs_base a.wrote) in
    elim c.match-add.branch [
      | in-Ok-add w ↦
          rw (w.result-is, ← c.self.view_is)
          (record {
            written = record {
              behind = λ met is.
                  let kept = index_kept c.runs_stay.ensures.fed _ _ _ _ _ _ (is.text_base ∙ sym is.runs_base) c.put_piece.ensures.told (λ n a b. c.put_piece.ensures.others n a) is.index in
                  let taken = w.in-Ok-add.ensures.taken _ _ kept (may_follow _ _ met c.in-Some.term known begun few is) in
                  let took = put_bits c.args.stream _ _ _ c.args._piece.now _ _ _ _ code number c.in-Ok.ensures.took in
                  let base = is.runs_base ∙ sym is.text_base ∙ sym c.put_piece.ensures.base in
                  wrote_piece _ _ _ _ _ met c.args.stream c.args._piece.now (Some c.in-Some.term) more term_is
                  (λ docs bits on. text_kept _ _ _ _ docs _ base c.add.ensures.wrote (took docs bits on)) c.in-Ok.ensures.numbers c.put_piece.ensures.base
                  c.add.ensures.base
                  (subst (λ (d : ℕ). HasTaken c.add.new.self (g.S.Store.files c.add.new.store) (length c.self.inside.pieces.terms.terms)
                  (occurring_by c.self.inside.pieces met ++ with_doc d (Some c.in-Some.term))) is.doc taken) is;
            };
            same = record { base = refl; plan = refl; limit = a.limit };
            wrote = wrote;
            reads = λ p. a.reads p ∙ e.reads p;
            faults = omega (arith, e.cause.later, a.cause.later);
            refused = tt;
          })
      | in-Err-add w ↦
          rw (w.result-is, ← c.self.view_is)
          (record {
            written = tt;
            same = record { base = refl; plan = refl; limit = a.limit };
            wrote = wrote;
            reads = λ p. a.reads p ∙ e.reads p;
            faults = omega (arith, e.cause.later, a.cause.later);
            refused = record {
              cause = λ met collection is front.
                  stops_store _ _ _ _ w.of_store-in-Err-add.ensures (λ f. rose_behind _ _ _ e.cause.later (w.in-Err-add.ensures.cause.failed f));
              tells = λ met collection is front. tells_store _ collection _ _ w.of_store-in-Err-add.ensures;
            };
          })
    ]
