use Rattle.std.proofs.Common.{◌≡◌, ◌+◌, ◌%◌, ◌^◌, ◌∙◌, ap, sym, length, arith}
use Rattle.mg_defs.specs.Generator.{repeated, four_queries, made_session}
use Rattle.mg_gen.proofs.Making.{grew_start, grew_so_far, from_nothing}
use Rattle.mg_gen.proofs.Handing.{put_is}
use Rattle.mg_gen.proofs.make.make_session.Goals as goal

pub loop-init : goal.loop-init
loop-init g c = record { made = grew_start _ _; room = omega (arith, ap length c.new-writer.ensures.empty) }

pub loop-preserved : goal.loop-preserved
loop-preserved g c = record {
  made = grew_so_far c.loop.counter c.loop.invariant.made c.four_queries.ensures.made;
  room = omega arith;
}

pub returns-clause-text : goal.returns-clause-text
unfolding made_session
returns-clause-text g c =
    let n : c.loop.counter ≡ 10 = omega arith in
    put_is _ _ _ _ _
    (c.as_slice.ensures.value ∙ from_nothing c.new-writer.ensures.empty c.loop.invariant.made
    ∙ ap (λ x. (repeated c.loop.counter four_queries x).bytes) c.new-writer.ensures.state
    ∙ ap (λ k. (repeated k four_queries ((c.args.seed + 1) % 2 ^ 64)).bytes) n)
    c.put.ensures.content

pub returns-clause-short : goal.returns-clause-short
unfolding made_session
returns-clause-short g c =
    let n : c.loop.counter ≡ 10 = omega arith in
    let made : c.loop.writer.text.items ≡ made_session c.args.seed =
    from_nothing c.new-writer.ensures.empty c.loop.invariant.made
    ∙ ap (λ x. (repeated c.loop.counter four_queries x).bytes) c.new-writer.ensures.state
    ∙ ap (λ k. (repeated k four_queries ((c.args.seed + 1) % 2 ^ 64)).bytes) n in
    omega (arith, ap length (sym made), c.loop.invariant.room, n)
