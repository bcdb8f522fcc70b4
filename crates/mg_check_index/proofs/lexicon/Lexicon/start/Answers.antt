use Rattle.std.proofs.Common.{arith, ◌∙◌, ap, sym}
use Rattle.mg_dev.specs.Names.{full_name}
use Rattle.mg_dev.specs.declared.part.Part.TheVariants.{Lex, LexAt}
use Rattle.mg_check_parts.proofs.CallerLemmas.{looks_ok}
use Rattle.mg_check_index.proofs.LexiconLaws.{lex_at_name, lex_name}
use Rattle.mg_check_index.proofs.lexicon.Lexicon.start.Goals as goal

pub returns-in-Ok-clause-goes : goal.returns-in-Ok-clause-goes
returns-in-Ok-clause-goes g c =
    let places = c.in-Ok.ensures.started.puts.places in
    let made = c.lexicon_pair-pair.ensures in
    record {
      strings = ap (λ b. full_name b Lex) c.in-Ok.ensures.started.base ∙ lex_name ∙ sym made.lex ∙ sym places.one.own;
      places = ap (λ b. full_name b LexAt) c.in-Ok.ensures.started.base ∙ lex_at_name ∙ sym made.lex_at ∙ sym places.other.own;
      strings_of = places.one.name ∙ made.lex_of;
      places_of = places.other.name ∙ made.lex_at_of;
      strings_from = omega (arith, places.one.from, made.from);
      places_from = omega (arith, places.other.from, made.from);
    }

pub returns-in-Ok-clause-looks : goal.returns-in-Ok-clause-looks
returns-in-Ok-clause-looks g c = record { never_bad = tt; looks = looks_ok c.in-Ok.ensures.started.puts.looks }
