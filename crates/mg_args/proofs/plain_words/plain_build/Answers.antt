use Rattle.std.proofs.Common.{map, string_bytes, inl, inr, arith}
use Rattle.std.proofs.lemmas.List.{length-map}
use Rattle.mg_args.proofs.PlainLaws.{other_words}
use Rattle.mg_args.proofs.plain_words.plain_build.Goals as goal
use Rattle.mg_args.proofs.plain_words.plain_build.Goals.{then-words-lt2-via-then-words-lt2, then-words-lt2-via-else-words-lt2+then-words-gt4}

pub returns-then-words-lt2 : goal.returns-then-words-lt2
returns-then-words-lt2 c = record {
  is = other_words (map string_bytes c.args.words.now) (elim c.then-words-lt2.branch [
    | then-words-lt2-via-then-words-lt2 w ↦ inl (omega (arith, w.if-words-lt2.true, length-map c.args.words.now string_bytes))
    | then-words-lt2-via-else-words-lt2+then-words-gt4 w ↦ inr (omega (arith, w.if-words-gt4.true, length-map c.args.words.now string_bytes))
  ]);
  within = tt;
}
