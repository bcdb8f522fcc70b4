use Rattle.std.proofs.Common.{arith, sym, ◌∙◌, subst}
use Rattle.std.proofs.lemmas.Result.{IfErr-weaker, IfOk-weaker}
use Rattle.mg_dev.proofs.CallerLemmas.{cause_err, cause_then}
use Rattle.mg_dev.specs.declared.part.Part.TheVariants as part
use Rattle.mg_rank.specs.Ranked.{WeightsStand}
use Rattle.mg_rank.proofs.AscentLaws.{terms_most}
use Rattle.mg_rank.proofs.DamageLaws.{other_tells}
use Rattle.mg_rank.proofs.EndLaws.{ranked_both, ranked_lists, top_err, top_over}
use Rattle.mg_rank.proofs.ranking.rank_sized.Goals as goal

-- a list was refused
pub returns-in-Err : goal.returns-in-Err
returns-in-Err g c =
    let e = c.in-Err.ensures in
    let unread = e.reads.others part.Weights (λ is. cc) (λ is. cc) in
    record {
      answer = λ collection ts stand told all_is. top_err c.in-Err.refusal _ collection ts c.args.most (e.answer collection ts stand.lists told all_is);
      range = tt;
      whole = tt;
      pages = e.pages;
      once = e.once;
      skips = e.skips;
      weights = omega (arith, unread);
      none = λ no. unread;
      reads = ranked_lists e.reads;
      files = e.files;
      cause = cause_err (omega arith) e.cause;
      lexicon = e.lexicon;
    }

-- the documents have their sums
pub returns-in-Ok : goal.returns-in-Ok
returns-in-Ok g c =
    let e = c.in-Ok.ensures in
    let f = c.rank_sums.ensures in
    let unread = e.reads.others part.Weights (λ is. cc) (λ is. cc) in
    record {
      answer = λ collection ts stand told all_is.
          top_over collection ts c.args.most _ told.apart
          (f.answer collection ts (subst (λ fs. WeightsStand c.args.base.now fs collection) (sym e.files) stand) all_is (e.answer collection ts stand.lists told all_is));
      range = f.range;
      whole = IfOk-weaker c.rank_sums.result _ _ (λ r is. record { sums = c.in-Ok.sums; added = e.whole; total = is }) f.total;
      pages = λ collection ts stand told all_is. omega (arith, e.pages collection ts stand told all_is, f.reads.others part.Post (λ is. cc));
      once = λ collection ts stand told all_is. omega (arith, e.once collection ts stand told all_is, f.reads.others part.Post (λ is. cc));
      skips = omega (arith, f.reads.others part.Skip (λ is. cc), e.skips);
      weights = terms_most c.args.all _ _ _ _ e.ascents (omega (arith, unread, f.weights));
      none = λ no. f.none no ∙ unread;
      reads = ranked_both e.reads f.reads;
      files = f.files ∙ e.files;
      cause = cause_then c.rank_sums.result e.cause.later f.cause;
      lexicon = IfErr-weaker c.rank_sums.result _ _ (other_tells _) f.lexicon;
    }

pub rank_sums-requires : goal.rank_sums-requires
rank_sums-requires g c = c.in-Ok.ensures.sums
