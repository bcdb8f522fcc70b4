use Rattle.std.proofs.Common.{arith, ◌^◌, ◌<◌, length, refl, ap, ◌∙◌, Err}
use Rattle.mg_dev.proofs.CallerLemmas.{cause_err}
use Rattle.mg_rank.proofs.EndLaws.{calm_cause, counted, hits_few, numbered_hits}
use Rattle.mg_rank.proofs.WalkLaws.{or_or, weight_of}
use Rattle.mg_rank.proofs.ranking.rank_sums.Goals as goal

-- more documents have sums than a set has
pub returns-in-Err : goal.returns-in-Err
returns-in-Err g c = record {
  answer = λ collection ts stand all_is s.
      let few : length c.args.sums.now < 2 ^ 32 = omega (arith, counted collection ts c.args.all c.args.sums.now s c.requires.within, hits_few collection ts, stand.lists.few) in
      absurd (let is = c.in-Err.ensures.is few in cc);
  range = tt;
  total = tt;
  weights = omega arith;
  none = λ no. refl;
  reads = record { later = λ p. omega arith; others = λ p o. refl };
  files = refl;
  cause = calm_cause c.in-Err.refusal (λ is. c.in-Err.ensures.calm (ap Err is)) (omega arith);
  lexicon = c.in-Err.ensures.lexicon;
}

-- the rows are found
pub returns-in-Ok-first_rows : goal.returns-in-Ok-first_rows
returns-in-Ok-first_rows g c =
    let f = c.in-Ok-first_rows.ensures.found in
    record {
      answer = λ collection ts stand all_is s.
          let is = counted collection ts c.args.all c.args.sums.now s c.requires.within in
          (f.answer collection ts stand all_is s, weight_of (c.in-Ok.ensures.is (omega (arith, is, hits_few collection ts, stand.lists.few))) ∙ is);
      range = numbered_hits c.args.all c.in-Ok-first_rows.rows.items f.range;
      total = c.in-Ok.ensures.told;
      weights = f.weights;
      none = c.in-Ok-first_rows.ensures.none;
      reads = f.reads;
      files = f.files;
      cause = record { later = f.cause.later; device = tt };
      lexicon = tt;
    }

-- a weight was refused
pub returns-in-Err-first_rows : goal.returns-in-Err-first_rows
returns-in-Err-first_rows g c =
    let f = c.in-Err-first_rows.ensures.found in
    record {
      answer = λ collection ts stand all_is s. or_or c.in-Err-first_rows.refusal _ _ (f.answer collection ts stand all_is s);
      range = tt;
      total = tt;
      weights = f.weights;
      none = c.in-Err-first_rows.ensures.none;
      reads = f.reads;
      files = f.files;
      cause = cause_err (omega arith) f.cause;
      lexicon = f.lexicon;
    }
