use Rattle.std.proofs.Common.{arith, ◌≡◌, ◌+◌, ◌*◌, ◌^◌, [], length, take, get_or, refl, sym, ◌∙◌, subst}
use Rattle.mg_dev.proofs.CallerLemmas.{cause_err, cause_ok}
use Rattle.mg_defs.specs.PageBounds.{list_pages}
use Rattle.mg_post.specs.PagesOnce.{span_pages}
use Rattle.mg_post.specs.TermLists.{ListsStand}
use Rattle.mg_rank.specs.Added.{AddedTo}
use Rattle.mg_rank.proofs.AddedLaws.{added_next}
use Rattle.mg_rank.proofs.DamageLaws.{first_of}
use Rattle.mg_rank.proofs.EndLaws.{info_at, lists_on, once_end, once_next, post_end, skips_end, skips_next, sums_end, sums_next}
use Rattle.mg_rank.proofs.WalkLaws.{or_or}
use Rattle.mg_rank.proofs.ranking.sum_lists.Goals as goal

-- a list was refused
pub returns-in-Err : goal.returns-in-Err
returns-in-Err g c =
    let inv = c.loop-info.invariant in
    let e = c.in-Err.ensures in
    let k = c.loop-info.info-index in
    record {
      answer = λ collection ts stand told all_is.
          let stand2 = subst (λ fs. ListsStand c.args.base.now fs collection) (sym inv.files) stand in
          let i = info_at collection ts c.args.terms.now k _ told (omega arith) in
          or_or c.in-Err.refusal _ _ (e.answer collection (get_or ts k []) (take k ts) stand2 i.1 all_is (inv.sums collection ts stand told all_is));
      sums = tt;
      whole = tt;
      ascents = tt;
      pages = λ collection ts stand told all_is.
          let stand2 = subst (λ fs. ListsStand c.args.base.now fs collection) (sym inv.files) stand in
          let i = info_at collection ts c.args.terms.now k _ told (omega arith) in
          post_end collection ts (k + 1) _ _
          (once_next (list_pages collection) ts k _ _ _ i.0 (inv.post collection ts stand told all_is) (e.pages collection (get_or ts k []) stand2 i.1 all_is));
      once = λ collection ts stand told all_is.
          let stand2 = subst (λ fs. ListsStand c.args.base.now fs collection) (sym inv.files) stand in
          let i = info_at collection ts c.args.terms.now k _ told (omega arith) in
          once_end (span_pages collection) ts (k + 1) _ _
          (once_next (span_pages collection) ts k _ _ _ i.0 (inv.once collection ts stand told all_is) (e.once collection (get_or ts k []) stand2 i.1 all_is));
      skips = skips_end c.args.terms.now (k + 1) _ _ (skips_next c.args.terms.now k _ _ _ _ _ (omega arith) refl inv.skips e.skips);
      reads = lists_on inv.reads e.reads;
      files = e.files ∙ inv.files;
      cause = cause_err inv.faults e.cause;
      lexicon = first_of c.args.all c.args.terms.now k _ _ c.in-Err.refusal (omega arith) inv.added e.lexicon;
    }

pub loop-info-preserved : goal.loop-info-preserved
loop-info-preserved g c = record {
  files = c.add_list.ensures.files ∙ c.loop-info.invariant.files;
  reads = lists_on c.loop-info.invariant.reads c.add_list.ensures.reads;
  once = λ collection ts stand told all_is.
      let stand2 = subst (λ fs. ListsStand c.args.base.now fs collection) (sym c.loop-info.invariant.files) stand in
      let i = info_at collection ts c.args.terms.now c.loop-info.info-index _ told (omega arith) in
      once_next (span_pages collection) ts c.loop-info.info-index _ _ _ i.0 (c.loop-info.invariant.once collection ts stand told all_is)
      (c.add_list.ensures.once collection (get_or ts c.loop-info.info-index []) stand2 i.1 all_is);
  skips = skips_next c.args.terms.now c.loop-info.info-index _ _ _ _ _ (omega arith) refl c.loop-info.invariant.skips c.add_list.ensures.skips;
  ascents = omega (arith, c.add_list.ensures.ascents, c.loop-info.invariant.ascents);
  faults = omega (arith, c.loop-info.invariant.faults, c.add_list.ensures.cause.later);
  small = λ d. omega (arith, c.add_list.ensures.small (c.loop-info.info-index * 2 ^ 29) c.loop-info.invariant.small d);
  within = c.add_list.ensures.within c.loop-info.invariant.within;
  apart = c.add_list.ensures.apart c.loop-info.invariant.apart;
  added = added_next c.args.all c.args.terms.now c.loop-info.info-index _ _ _ (omega arith) c.loop-info.invariant.added c.in-Ok.ensures.whole;
  sums = λ collection ts stand told all_is.
      let stand2 = subst (λ fs. ListsStand c.args.base.now fs collection) (sym c.loop-info.invariant.files) stand in
      let i = info_at collection ts c.args.terms.now c.loop-info.info-index _ told (omega arith) in
      sums_next collection ts c.loop-info.info-index _ i.0
      (c.in-Ok.ensures.answer collection (get_or ts c.loop-info.info-index []) (take c.loop-info.info-index ts) stand2 i.1 all_is
      (c.loop-info.invariant.sums collection ts stand told all_is));
  post = λ collection ts stand told all_is.
      let stand2 = subst (λ fs. ListsStand c.args.base.now fs collection) (sym c.loop-info.invariant.files) stand in
      let i = info_at collection ts c.args.terms.now c.loop-info.info-index _ told (omega arith) in
      once_next (list_pages collection) ts c.loop-info.info-index _ _ _ i.0 (c.loop-info.invariant.post collection ts stand told all_is)
      (c.add_list.ensures.pages collection (get_or ts c.loop-info.info-index []) stand2 i.1 all_is);
}

-- all lists were added
pub returns : goal.returns
returns g c =
    let inv = c.loop-info.invariant in
    let k = c.loop-info.info-index in
    let all : k ≡ length c.args.terms.now = omega arith in
    record {
      answer = λ collection ts stand told all_is. sums_end collection ts k c.loop-info.sums (inv.sums collection ts stand told all_is) (omega (arith, told.size, all));
      sums = record { within = inv.within; apart = inv.apart; small = λ d. omega (arith, inv.small d, c.requires) };
      whole = subst (λ n. AddedTo c.args.all c.args.terms.now n c.loop-info.sums) all inv.added;
      ascents = omega (arith, inv.ascents, all);
      pages = λ collection ts stand told all_is. post_end collection ts k _ _ (inv.post collection ts stand told all_is);
      once = λ collection ts stand told all_is. once_end (span_pages collection) ts k _ _ (inv.once collection ts stand told all_is);
      skips = skips_end c.args.terms.now k _ _ inv.skips;
      reads = inv.reads;
      files = inv.files;
      cause = cause_ok inv.faults;
      lexicon = tt;
    }
