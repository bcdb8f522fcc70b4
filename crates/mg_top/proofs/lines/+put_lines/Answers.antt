use Rattle.std.proofs.Common.{ap, sym, ◌∙◌, subst, arith, rules}
use Rattle.std.proofs.lemmas.List.{nil_from_length}
use Rattle.std.specs.List.{flat_map}
use Rattle.mg_dev.specs.Streams.{appended, AfterPut}
use Rattle.mg_dev.specs.StreamLaws.{appended-nil, put_second}
use Rattle.mg_top.specs.Lines.{line_text}
use Rattle.mg_top.proofs.LineLaws.{first_and_rest}
use Rattle.mg_top.proofs.lines.+put_lines.Goals as goal

pub returns-in-empty : goal.returns-in-empty
returns-in-empty g t c = record {
  content = sym (appended-nil _) ∙ ap (λ ps. appended (g.O.Sink.written c.args.out.now) (flat_map line_text ps)) (sym (nil_from_length c.args.lines.now (omega arith)));
  cause = search rules;
  lack = search rules;
}

pub returns-in_ok-put_line-in-len1-up : goal.returns-in_ok-put_line-in-len1-up
returns-in_ok-put_line-in-len1-up g t c = record {
  content = subst (λ bytes. AfterPut (g.O.Sink.written c.args.out.now) (g.O.Sink.written c.put_lines.new.out) bytes c.put_lines.result)
      (first_and_rest line_text c.args.lines.now _ c.in-len1-up.len_at_least)
      (put_second _ _ _ _ _ c.put_lines.result c.in_ok-put_line-in-len1-up.ensures.content c.put_lines.ensures.content);
  cause = search rules;
  lack = search rules;
}
