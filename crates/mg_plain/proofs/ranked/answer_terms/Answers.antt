use Rattle.std.proofs.Common.{rules, ◌≡◌, ◌≤◌, ◌^◌, List, length, sym, ◌∙◌, ap, subst}
use Rattle.std.specs.List.{All}
use Rattle.std.proofs.lemmas.List.Sorted.{All-permutation}
use Rattle.mg_dev.specs.Streams.{GrewByPrefix, appended}
use Rattle.mg_dev.specs.StreamLaws.{stream_laws}
use Rattle.mg_defs.specs.Order.{AreRisingByNumber}
use Rattle.mg_defs.specs.Weights.{by_score, hits_over, score_over}
use Rattle.mg_defs.specs.ShownAnswers.{Shown, ranked_as, answer_text}
use Rattle.mg_defs.proofs.TopLaws.{scored_rise}
use Rattle.mg_plain.specs.declared.order.Row.{Row}
use Rattle.mg_plain.specs.RankedRows.{IsPlaced, hits_of, shown_rows}
use Rattle.mg_plain.proofs.RankedAnswerLaws.{few_rows, ranking-is}
use Rattle.mg_plain.proofs.ranked.answer_terms.Goals as goal

pub sort_rows-requires : goal.sort_rows-requires
sort_rows-requires g c = subst AreRisingByNumber (sym c.in_ok-rows.ensures.hits) (scored_rise (score_over c.args.bytes.now c.args.terms.now) c.args.bytes.now c.args.terms.now)

pub put_answer-requires-clause-few : goal.put_answer-requires-clause-few
put_answer-requires-clause-few g c =
    subst (λ (rows : List Row). length rows ≤ 2 ^ 28) (sym c.deref.ensures.value)
    (few_rows c.args.bytes.now c.args.terms.now c.in_ok-rows.rows.items c.sort_rows.new.rows.items c.in_ok-rows.ensures.hits c.sort_rows.ensures.same
    c.requires.small)

pub put_answer-requires-clause-placed : goal.put_answer-requires-clause-placed
put_answer-requires-clause-placed g c =
    subst (All (IsPlaced c.args.bytes.now)) (sym c.deref.ensures.value)
    (All-permutation (IsPlaced c.args.bytes.now) c.in_ok-rows.rows.items c.sort_rows.new.rows.items c.sort_rows.ensures.same c.in_ok-rows.ensures.placed)

pub returns-in-Ok : goal.returns-in-Ok
returns-in-Ok g c =
    let is : shown_rows c.deref.result.now ≡ ranked_as (hits_over c.args.bytes.now c.args.terms.now) =
    ranking-is c.args.bytes.now c.args.terms.now c.deref.result.now (ap hits_of c.deref.ensures.value ∙ c.sort_rows.ensures.sorted
    ∙ ap by_score c.in_ok-rows.ensures.hits) in
    record {
      replies = record {
        content = c.in-Ok.ensures.puts.content
            ∙ ap (λ (answer : List Shown). appended (g.O.Sink.written c.args.out.now) (answer_text c.args.bytes.now c.args.now.now answer)) is;
        later = c.in-Ok.ensures.puts.cause.later;
        cause = tt;
        silent = search rules;
      };
    }

pub returns : goal.returns
returns g c =
    let is : shown_rows c.deref.result.now ≡ ranked_as (hits_over c.args.bytes.now c.args.terms.now) =
    ranking-is c.args.bytes.now c.args.terms.now c.deref.result.now (ap hits_of c.deref.ensures.value ∙ c.sort_rows.ensures.sorted
    ∙ ap by_score c.in_ok-rows.ensures.hits) in
    record {
      replies = record {
        content = subst (λ (answer : List Shown). GrewByPrefix (g.O.Sink.written c.args.out.now) (g.O.Sink.written c.put_answer.new.out)
            (answer_text c.args.bytes.now c.args.now.now answer)) is c.in-Err.ensures.puts.content;
        later = c.in-Err.ensures.puts.cause.later;
        cause = search (rules, stream_laws);
        silent = search (rules, stream_laws);
      };
    }
