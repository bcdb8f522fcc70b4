use Rattle.std.proofs.Common.{ap}
use Rattle.std.proofs.lemmas.Result.{err_from_is_err_and}
use Rattle.mg_query.specs.TokenOf.{token_of}
use Rattle.mg_query.proofs.WordSteps.{words_start, words_stop}
use Rattle.mg_query.proofs.words.read_words.Goals as goal

pub tokens-init : goal.tokens-init
tokens-init c = words_start c.args.repeats c.args.line.now _ _ c.requires.empty c.new-lexer.ensures

pub returns-in_err-add_word : goal.returns-in_err-add_word
returns-in_err-add_word c =
    let p = err_from_is_err_and c.from_residual.result c.from_residual.ensures.1 in
    let e = c.in_err-add_word.ensures.read in
    rw (p.1, p.2) (record {
      read = record {
        reads = tt;
        refused = words_stop c.args.repeats c.args.line.now _ _ _ _ c.tokens.invariant c.in-Some.ensures.some _ c.in_err-add_word.field-0.0 (ap token_of c.in-Word.is) e.refused;
        never_syntax = e.never_syntax;
        never_deep = e.never_deep;
      };
    })
